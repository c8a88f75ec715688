use Rattle.std.proofs.Common.{◌≡◌, ◌+◌, true, get_or, take, [], sym, ap, ◌∙◌}
use Rattle.std.proofs.lemmas.Result.{err_from_is_err_and}
use Rattle.tk_paths.specs.Programs.{pair_from, ended}
use Rattle.tk_paths.specs.Trees.{read_sections, code_of}
use Rattle.tk_numbers.specs.Charges.{routines_in}
use Rattle.tk_threads.specs.Sections.{is_own, own_code}
use Rattle.tk_threads.proofs.Begun.{code_here}
use Rattle.tk_numbers.proofs.SmallSections.{get-same}
use Rattle.tk_threads.proofs.SmallLaws.{entry-read}
use Rattle.tk_threads.proofs.starts.slot_start.Goals as goal

pub returns-in_err-numbers-clause-fits : goal.returns-in_err-numbers-clause-fits
returns-in_err-numbers-clause-fits c = λ h.
    let p = err_from_is_err_and c.from_residual.result c.from_residual.ensures.1 in
    let I = c.args.image.now in
    let K = c.args.costs.now in
    let xs = c.args.sections.now in
    let i = c.loop-i.i in
    let R = routines_in (take i xs) in
    let seen = c.index-sections-i in
    let here = c.index-sections-i-then-is_own in
    let own : is_own c.args.slot (get_or xs i seen.result) ≡ true = ap (is_own c.args.slot) (sym seen.is) ∙ sym c.is_own.ensures ∙ c.if-is_own.true in
    rw (p.1, p.2) (c.in_err-numbers.ensures.fits
    (entry-read I K (pair_from (c.args.slot + 1) c.args.later.now) [] (code_of c.args.slot (read_sections [] xs)) (own_code R here.result) (ended I K)
    (sym c.loop-i.invariant ∙ code_here xs i seen.result c.args.slot c.loop-i-test.true own
    ∙ ap (own_code R) (get-same xs i seen.result here.result c.loop-i-test.true ∙ sym here.is)) h))

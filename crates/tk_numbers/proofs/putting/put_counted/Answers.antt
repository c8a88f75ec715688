use Rattle.std.proofs.Common.{◌+◌, ◌*◌, ◌++◌, ◌∷◌, ℕ, suc, List, ap, sym, ◌∙◌, append_assoc}
use mathlib.Core.Path.{ap₂}
use Rattle.std.proofs.lemmas.Result.{err_from_is_err_and}
use Rattle.mb_isa.specs.declared.Class.TheVariants as class
use Rattle.tk_cert.specs.declared.cert.Line.{Line}
use Rattle.tk_paths.specs.Regions.{behind}
use Rattle.tk_paths.specs.Numbers.{Numbers, after, branched, cost, line, test_lines, unit_lines}
use Rattle.tk_paths.specs.PlaceKinds.{kind_of}
use Rattle.tk_paths.specs.Levels.{numbers_of}
use Rattle.tk_numbers.specs.Charges.{testing_cost}
use Rattle.tk_numbers.proofs.Rooms.{branch_near}
use Rattle.tk_numbers.proofs.putting.put_counted.Goals as goal

pub returns-in_err-first-clause-fits : goal.returns-in_err-first-clause-fits
returns-in_err-first-clause-fits c = λ k l h.
    let p = err_from_is_err_and c.from_residual-in_err-first.result c.from_residual-in_err-first.ensures.1 in
    let T = testing_cost c.args.image.now c.args.costs.now (behind c.args.image.now c.args.from + 1) c.args.count c.args.branch in
    rw (p.1, p.2) (c.in_err-first.ensures.fits
    (branch_near c.args.image.now c.args.costs.now T (after c.args.through (numbers_of c.args.back.now)) (numbers_of c.args.drop.now) h))

pub returns-clause-lines : goal.returns-clause-lines
returns-clause-lines c =
    let I = c.args.image.now in
    let K = c.args.costs.now in
    let D = numbers_of c.args.drop.now in
    let N = numbers_of c.args.next.now in
    let old = c.args.made.now.lines in
    let T : ℕ → Numbers → List Line = λ b F. test_lines I K (kind_of c.args.inner.now) (b + 1) c.args.count c.args.branch (branched I K F D) in
    let U : ℕ → List Line = λ w. unit_lines I K (kind_of c.args.kind.now) c.args.from (after (cost I K class.Loop + suc c.args.turns * w) N) in
    let L = line (kind_of c.args.inner.now) N in
    let test = ap₂ T c.behind-test.ensures.place c.in_ok-first.ensures.exact in
    c.in_ok-put_loop.ensures.lines ∙ ap (λ (l : List Line). U c.in_ok-weight.weight ++ L ∷ l) c.in_ok-put_test.ensures.lines
    ∙ sym (append_assoc (U c.in_ok-weight.weight) (L ∷ T c.behind-test.result (numbers_of c.in_ok-first.first)) old)
    ∙ ap₂ (λ (w : ℕ) (t : List Line). U w ++ L ∷ t ++ old) c.in_ok-weight.ensures.exact test

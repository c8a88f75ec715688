use Rattle.std.proofs.Common.{◌≡◌, ◌≤◌, ℕ, Option, Some, sym, subst}
use Rattle.std.proofs.lemmas.Result.{err_from_is_err_and}
use Rattle.mb_isa.specs.declared.Instr.{Instr}
use Rattle.mb_isa.specs.declared.Instr.TheVariants as instr
use Rattle.tk_paths.specs.Sums.{greater, resumed_most, resumed_ends, resumed_paused}
use Rattle.tk_paths.specs.Shape.{children_in}
use Rattle.tk_paths.specs.Walks.{most_cycles}
use Rattle.tk_paths.specs.Words.{instr_at}
use Rattle.tk_paths.specs.Greatest.{where_some, tested, joined, waited_by}
use Rattle.tk_paths.specs.Faults.{IsSmall}
use Rattle.tk_paths.specs.Told.{pair_at, told_by}
use Rattle.tk_paths.proofs.resuming.waited.Goals as goal

pub returns-in_err-n-in-Some-Fork-clause-fits : goal.returns-in_err-n-in-Some-Fork-clause-fits
returns-in_err-n-in-Some-Fork-clause-fits c = λ k h.
    let p = err_from_is_err_and c.from_residual-in_err-n-in-Some-Fork.result c.from_residual-in_err-n-in-Some-Fork.ensures.1 in
    let I = c.args.image.now in
    let C = told_by c.args.lines.now c.args.bounds.now in
    let K = c.args.costs.now in
    let q = c.args.p.now in
    let B = pair_at c.args.bounds.now in
    let lo = c.in-Some-Fork.lo in
    let n = c.in-Some-Fork.count in
    let is : instr_at I q.at ≡ Some (instr.Fork lo n) = cc in
    let any : c.greater-any.result ≡ greater (resumed_ends B lo n) (resumed_paused B lo n) = cc (c.in_ok-ending-in-Some-Fork.ensures.exact, c.in_ok-pausing-in-Some-Fork.ensures.exact) in
    let P : Option Instr → Type 0 = λ o. IsSmall (waited_by I C K o c.args.side q) in
    let Q : Option Instr → Type 0 = λ o. resumed_most B ((children_in o).0) ((children_in o).1) ≤ most_cycles in
    let R : Option ℕ → Type 0 = λ o. IsSmall (where_some o (tested I C K c.args.side 0 q.stack (joined I C K c.args.side q lo n))) in
    rw (p.1, p.2) (c.in_err-n-in-Some-Fork.ensures.fits (subst Q is k) (subst R (sym any) (subst P is h)))

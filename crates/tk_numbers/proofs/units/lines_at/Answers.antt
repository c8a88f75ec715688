use Rattle.std.proofs.Common.{◌-◌, get_or, sym, subst, arith}
use Rattle.std.proofs.lemmas.Result.{err_from_is_err_and}
use Rattle.tk_paths.specs.Regions.{extra}
use Rattle.tk_paths.specs.Numbers.{Numbers, after}
use Rattle.tk_paths.specs.Faults.{AllSmall}
use Rattle.tk_paths.specs.Levels.{numbers_of}
use Rattle.tk_paths.proofs.Rooms.{all-less, all-onto}
use Rattle.tk_numbers.specs.Units.{charged}
use Rattle.tk_numbers.proofs.Rooms.{charged_before}
use Rattle.tk_numbers.proofs.units.lines_at.Goals as goal

pub returns-in_err-sum-clause-fits : goal.returns-in_err-sum-clause-fits
returns-in_err-sum-clause-fits c = λ h.
    let p = err_from_is_err_and c.from_residual.result c.from_residual.ensures.1 in
    let l = charged_before c.args.image.now c.args.costs.now c.args.places.now c.loop-i.i c.unit_cost-word.result c.loop-i.total (omega arith)
    c.loop-i.invariant.within c.unit_cost-word.ensures.exact c.loop-i.invariant.charge in
    let k = h.cycles in
    rw (p.1, p.2) (c.in_err-sum.ensures.fits (omega (arith, l, k)))

pub returns-in_err-standing-clause-fits : goal.returns-in_err-standing-clause-fits
returns-in_err-standing-clause-fits c = λ h.
    let p = err_from_is_err_and c.from_residual-in_err-standing.result c.from_residual-in_err-standing.ensures.1 in
    let all = charged c.args.image.now c.args.costs.now c.args.places.now in
    let l = charged_before c.args.image.now c.args.costs.now c.args.places.now c.loop-i.i c.unit_cost-word.result c.loop-i.total (omega arith)
    c.loop-i.invariant.within c.unit_cost-word.ensures.exact c.loop-i.invariant.charge in
    let s = c.in_ok-sum.ensures.exact in
    rw (p.1, p.2) (c.in_err-standing.ensures.fits (all-less c.in_ok-sum.field-0 all (numbers_of c.args.levels.now) (omega (arith, l, s)) h))

pub returns-in_err-unit_lines-clause-fits : goal.returns-in_err-unit_lines-clause-fits
returns-in_err-unit_lines-clause-fits c = λ h.
    let p = err_from_is_err_and c.from_residual-in_err-unit_lines.result c.from_residual-in_err-unit_lines.ensures.1 in
    let all = charged c.args.image.now c.args.costs.now c.args.places.now in
    let E = extra c.args.image.now c.args.costs.now (get_or c.args.places.now (c.loop-i.i - 1) 0) in
    let l = charged_before c.args.image.now c.args.costs.now c.args.places.now c.loop-i.i c.unit_cost-word.result c.loop-i.total (omega arith)
    c.loop-i.invariant.within c.unit_cost-word.ensures.exact c.loop-i.invariant.charge in
    let s = c.in_ok-sum.ensures.exact in
    let P : Numbers → Type 0 = λ V. AllSmall (after E V) in
    rw (p.1, p.2) (c.in_err-unit_lines.ensures.fits
    (subst P (sym c.in_ok-standing.ensures.exact) (all-onto E c.in_ok-sum.field-0 all (numbers_of c.args.levels.now) (omega (arith, l, s)) h)))

pub returns-in_err-total-clause-fits : goal.returns-in_err-total-clause-fits
returns-in_err-total-clause-fits c = λ h.
    let p = err_from_is_err_and c.from_residual-in_err-total.result c.from_residual-in_err-total.ensures.1 in
    let l = charged_before c.args.image.now c.args.costs.now c.args.places.now c.loop-i.i c.unit_cost-word.result c.loop-i.total (omega arith)
    c.loop-i.invariant.within c.unit_cost-word.ensures.exact c.loop-i.invariant.charge in
    let k = h.cycles in
    let e = c.extra.ensures.exact in
    rw (p.1, p.2) (c.in_err-total.ensures.fits (omega (arith, l, k, e)))

use Rattle.std.proofs.Common.{ap, ◌∙◌, take, arith}
use Rattle.tk_numbers.proofs.Before.{values_known, values_fit, fits_take}
use Rattle.tk_numbers.proofs.routines.values_before.Goals as goal

pub slice_bounds-result-end : goal.slice_bounds-result-end
slice_bounds-result-end c =
    let f = values_fit c.args.image.now c.args.costs.now c.args.sections.now c.args.i c.args.values.now c.requires.values in
    fits_take c.routines_among-known.result c.args.values.now (omega (arith, f, c.routines_among-known.ensures))

pub returns : goal.returns
returns c =
    ap (λ n. take n c.args.values.now) c.routines_among-known.ensures
    ∙ values_known c.args.image.now c.args.costs.now c.args.sections.now c.args.i c.args.values.now c.requires.values

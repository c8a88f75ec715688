use Rattle.std.proofs.Common.{ap, ◌∙◌, take, arith}
use Rattle.tk_numbers.proofs.Before.{links_known, links_fit, fits_take}
use Rattle.tk_numbers.proofs.routines.links_before.Goals as goal

pub slice_bounds-result-end : goal.slice_bounds-result-end
slice_bounds-result-end c =
    let f = links_fit c.args.sections.now c.args.i c.args.links.now c.requires.links in
    fits_take c.routines_among-known.result c.args.links.now (omega (arith, f, c.routines_among-known.ensures))

pub returns : goal.returns
returns c =
    ap (λ n. take n c.args.links.now) c.routines_among-known.ensures
    ∙ links_known c.args.sections.now c.args.i c.args.links.now c.requires.links

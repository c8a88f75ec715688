use Rattle.std.proofs.Common.{sym, subst, ◌-◌}
use Rattle.pt_image.specs.Ranges.{IsImage}
use Rattle.pc_lower.specs.Trees.{flow_read}
use Rattle.pc_regs.specs.Placement.{memory_words}
use Rattle.pc_regs.specs.Words.{writing_of}
use Rattle.pc_emit.proofs.Numbered.{slots}
use Rattle.pc_emit.proofs.Ranges.{image_in_range}
use Rattle.pc_emit.proofs.image.emit.Goals as goal

pub of-requires : goal.of-requires
of-requires c =
    let f = flow_read c.args.flow.now in
    let can = c.requires.fits.1 in
    subst IsImage (sym c.in_ok-parts.ensures)
    (image_in_range f (writing_of c.args.placement) c.requires.fits.0 (memory_words c.args.placement - c.args.placement.cells) can (slots f can.laid.order can.laid.main))

use Rattle.std.proofs.Common.{length, ap, ◌∙◌}
use Rattle.pretc_top.specs.Go.{unbuilt, unstored, unloaded}
use Rattle.pretc_top.proofs.Shelves.{stored_after, store_fails_after}
use Rattle.pretc_top.proofs.going.prepare.Goals as goal

pub returns-in-Err-clause-failed : goal.returns-in-Err-clause-failed
returns-in-Err-clause-failed g c = unbuilt c.in-Err.ending c.in-Err.ensures.failed

pub returns-in-Err-store_image-clause-failed : goal.returns-in-Err-store_image-clause-failed
returns-in-Err-store_image-clause-failed g c =
    unstored c.in-Err-store_image.ending c.in-Ok.image c.in-Ok.ensures.built
    (store_fails_after _ _ _ _ _ c.in-Err-store_image.ending c.in-Ok.ensures.kept c.in-Err-store_image.ensures.failed)

pub returns-clause-failed : goal.returns-clause-failed
returns-clause-failed g c =
    unloaded c.in-Ok.image
    (record { built = c.in-Ok.ensures.built; stored = stored_after _ _ _ _ _ c.in-Ok.ensures.kept c.in-Ok-store_image.ensures.stored })

pub returns-in-Ok-load_machine-clause-ready : goal.returns-in-Ok-load_machine-clause-ready
returns-in-Ok-load_machine-clause-ready g c = record {
  image = c.in-Ok.image;
  made = record { built = c.in-Ok.ensures.built; stored = stored_after _ _ _ _ _ c.in-Ok.ensures.kept c.in-Ok-store_image.ensures.stored };
  machine_is = c.in-Ok-load_machine.ensures.machine;
  inputs_are = c.in-Ok-load_machine.ensures.row;
  outputs_are = c.in-Ok-load_machine.ensures.outputs;
}

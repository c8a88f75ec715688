use Rattle.std.proofs.Common.{◌∙◌}
use Rattle.pretc_top.specs.Run.{run_not_loaded, run_unanalysed, run_image_unstored, run_cert_unstored, run_unloaded}
use Rattle.pretc_top.proofs.Shelves.{stored_after, store_fails_after}
use Rattle.pretc_top.proofs.Carrying.{analysed_from}
use Rattle.pretc_top.proofs.running.prepare.Goals as goal

pub returns-in-Err-clause-failed : goal.returns-in-Err-clause-failed
returns-in-Err-clause-failed g c = run_not_loaded c.in-Err.ending c.in-Err.ensures.failed

pub returns-in-Err-analyse_sources-clause-failed : goal.returns-in-Err-analyse_sources-clause-failed
returns-in-Err-analyse_sources-clause-failed g c =
    run_unanalysed c.in-Ok.sources.program c.in-Ok.sources.costs c.in-Err-analyse_sources.ending c.in-Ok.ensures.loaded c.in-Err-analyse_sources.ensures.failed

pub returns-in-Err-store_image-clause-failed : goal.returns-in-Err-store_image-clause-failed
returns-in-Err-store_image-clause-failed g c =
    run_image_unstored _ _ _ c.in-Err-store_image.ending (analysed_from _ _ _ _ _ _ _ _ _ c.in-Ok.ensures.loaded c.in-Ok-analyse_sources.ensures.analysed)
    (store_fails_after _ _ _ _ _ c.in-Err-store_image.ending c.in-Ok.ensures.loaded.kept c.in-Err-store_image.ensures.failed)

pub returns-in-Err-store_cert-clause-failed : goal.returns-in-Err-store_cert-clause-failed
returns-in-Err-store_cert-clause-failed g c =
    run_cert_unstored _ _ _ _ c.in-Err-store_cert.ending (analysed_from _ _ _ _ _ _ _ _ _ c.in-Ok.ensures.loaded c.in-Ok-analyse_sources.ensures.analysed)
    (stored_after _ _ _ _ _ c.in-Ok.ensures.loaded.kept c.in-Ok-store_image.ensures.stored) c.in-Err-store_cert.ensures.failed

pub returns-clause-failed : goal.returns-clause-failed
returns-clause-failed g c =
    run_unloaded _ _ _ (analysed_from _ _ _ _ _ _ _ _ _ c.in-Ok.ensures.loaded c.in-Ok-analyse_sources.ensures.analysed)
    (record {
      between = g.H.Shelf.told c.store_image.new.shelf;
      image_stored = stored_after _ _ _ _ _ c.in-Ok.ensures.loaded.kept c.in-Ok-store_image.ensures.stored;
      cert_stored = c.in-Ok-store_cert.ensures.stored;
    })

pub returns-in-Ok-load_machine-clause-ready : goal.returns-in-Ok-load_machine-clause-ready
returns-in-Ok-load_machine-clause-ready g c = record {
  image = c.in-Ok-analyse_sources.analysed.certified.image;
  cert = c.in-Ok-analyse_sources.analysed.certified.cert;
  priced = c.in-Ok-analyse_sources.analysed.costs;
  analysed = analysed_from _ _ _ _ _ _ _ _ _ c.in-Ok.ensures.loaded c.in-Ok-analyse_sources.ensures.analysed;
  stored = record {
    between = g.H.Shelf.told c.store_image.new.shelf;
    image_stored = stored_after _ _ _ _ _ c.in-Ok.ensures.loaded.kept c.in-Ok-store_image.ensures.stored;
    cert_stored = c.in-Ok-store_cert.ensures.stored;
  };
  bound_is = c.in-Ok-load_machine.ensures.bound ∙ c.bound-bound.ensures;
  machine_is = c.in-Ok-load_machine.ensures.machine;
  inputs_are = c.in-Ok-load_machine.ensures.row;
  outputs_are = c.in-Ok-load_machine.ensures.outputs;
}

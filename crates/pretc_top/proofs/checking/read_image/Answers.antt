use Rattle.std.proofs.Common.{Result, Err, ap, ◌∙◌, subst}
use Rattle.pt_image.specs.declared.Parts.{Parts}
use Rattle.pt_image.specs.declared.ImageFault.{ImageFault}
use Rattle.pt_image.specs.Form.{FaultIsFirst}
use Rattle.pretc_top.specs.Check.{bad_image, image_memory}
use Rattle.pretc_top.proofs.checking.read_image.Goals as goal

pub returns-in-Err-Form-clause-failed : goal.returns-in-Err-Form-clause-failed
returns-in-Err-Form-clause-failed c =
    let P : Result Parts ImageFault → Type 0 = λ r. FaultIsFirst c.args.text.now r in
    bad_image c.in-Err-Form.number (subst P (c.in-Err-Form.is ∙ ap Err c.in-Err-Form.field-0-is) c.read.ensures.fault)

pub returns-in-Err-Memory-clause-failed : goal.returns-in-Err-Memory-clause-failed
returns-in-Err-Memory-clause-failed c = image_memory

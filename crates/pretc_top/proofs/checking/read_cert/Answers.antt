use Rattle.std.proofs.Common.{Result, Err, ap, ◌∙◌, subst}
use Rattle.tk_cert.specs.declared.CertParts.{CertParts}
use Rattle.tk_cert.specs.declared.CertFault.{CertFault}
use Rattle.tk_cert.specs.Form.{FaultIsFirst}
use Rattle.pretc_top.specs.Check.{bad_cert, cert_memory}
use Rattle.pretc_top.proofs.checking.read_cert.Goals as goal

pub returns-in-Err-Form-clause-failed : goal.returns-in-Err-Form-clause-failed
returns-in-Err-Form-clause-failed c =
    let P : Result CertParts CertFault → Type 0 = λ r. FaultIsFirst c.args.text.now r in
    bad_cert c.in-Err-Form.number (subst P (c.in-Err-Form.is ∙ ap Err c.in-Err-Form.field-0-is) c.read.ensures.fault)

pub returns-in-Err-Memory-clause-failed : goal.returns-in-Err-Memory-clause-failed
returns-in-Err-Memory-clause-failed c = cert_memory

use Rattle.std.proofs.Common.{sym, subst}
use Rattle.pretc_top.specs.declared.saying.Saying.{Saying}
use Rattle.pretc_top.specs.Check.{Judged, not_read, image_fails, cert_fails, costs_fail, decided}
use Rattle.pretc_top.proofs.checking.judged.Goals as goal

pub returns-in-Err : goal.returns-in-Err
returns-in-Err c =
    let P : Saying → Type 0 = λ s. Judged c.args.texts.now.image c.args.texts.now.cert c.args.texts.now.costs s.line s.ending in
    subst P (sym c.said.ensures) (not_read c.in-Err.ending (image_fails c.in-Err.ending c.in-Err.ensures.failed))

pub returns-in-Err-read_cert : goal.returns-in-Err-read_cert
returns-in-Err-read_cert c =
    let P : Saying → Type 0 = λ s. Judged c.args.texts.now.image c.args.texts.now.cert c.args.texts.now.costs s.line s.ending in
    subst P (sym c.said-in-Err-read_cert.ensures)
    (not_read c.in-Err-read_cert.ending (cert_fails c.in-Err-read_cert.ending c.in-Ok.image c.in-Ok.ensures.read c.in-Err-read_cert.ensures.failed))

pub returns-in-Err-costs_of : goal.returns-in-Err-costs_of
returns-in-Err-costs_of c =
    let P : Saying → Type 0 = λ s. Judged c.args.texts.now.image c.args.texts.now.cert c.args.texts.now.costs s.line s.ending in
    subst P (sym c.said-in-Err-costs_of.ensures)
    (not_read c.in-Err-costs_of.ending
    (costs_fail c.in-Err-costs_of.ending c.in-Ok.image c.in-Ok-read_cert.cert (record { image_is = c.in-Ok.ensures.read; cert_is = c.in-Ok-read_cert.ensures.read }) c.in-Err-costs_of.ensures.failed))

pub returns : goal.returns
returns c =
    decided c.in-Ok.image c.in-Ok-read_cert.cert c.in-Ok-costs_of.costs c.decided.result.line c.decided.result.ending
    (record { image_is = c.in-Ok.ensures.read; cert_is = c.in-Ok-read_cert.ensures.read }) c.in-Ok-costs_of.ensures.read c.decided.ensures

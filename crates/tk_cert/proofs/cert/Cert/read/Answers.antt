use Rattle.std.proofs.Common.{sym, ap, subst, ◌∙◌}
use Rattle.std.proofs.lemmas.Result.{err_from_is_err_and}
use Rattle.tk_cert.specs.Whole.{FailsAs, parts_at}
use Rattle.tk_cert.proofs.WholeLaws.{is_cert, read_found, only_ok, only_err, fault_err}
use Rattle.tk_cert.proofs.cert.Cert.read.Goals as goal

pub returns-in_err-parts-clause-only : goal.returns-in_err-parts-clause-only
returns-in_err-parts-clause-only c =
    let p = err_from_is_err_and c.from_residual.result c.from_residual.ensures.1 in
    rw (p.1, p.2) (only_err c.args.text.now c.in_err-parts.field-0.0 (subst (λ t. FailsAs c.in_err-parts.field-0.0 (parts_at t)) c.bytes.ensures c.in_err-parts.ensures))

pub returns-in_err-parts-clause-fault : goal.returns-in_err-parts-clause-fault
returns-in_err-parts-clause-fault c =
    let p = err_from_is_err_and c.from_residual.result c.from_residual.ensures.1 in
    rw (p.1, p.2) (fault_err c.args.text.now c.in_err-parts.field-0.0 (subst (λ t. FailsAs c.in_err-parts.field-0.0 (parts_at t)) c.bytes.ensures c.in_err-parts.ensures))

pub of-requires : goal.of-requires
of-requires c = is_cert c.in_ok-parts.parts (read_found c.args.text.now c.in_ok-parts.parts (ap parts_at (sym c.bytes.ensures) ∙ c.in_ok-parts.ensures)).0

pub returns-clause-spelled : goal.returns-clause-spelled
returns-clause-spelled c = rw c.of.ensures ((read_found c.args.text.now c.in_ok-parts.parts (ap parts_at (sym c.bytes.ensures) ∙ c.in_ok-parts.ensures)).1)

pub returns-clause-ranges : goal.returns-clause-ranges
returns-clause-ranges c = rw c.of.ensures ((read_found c.args.text.now c.in_ok-parts.parts (ap parts_at (sym c.bytes.ensures) ∙ c.in_ok-parts.ensures)).0)

pub returns-clause-only : goal.returns-clause-only
returns-clause-only c = rw c.of.ensures (λ d. only_ok c.args.text.now c.in_ok-parts.parts d (ap parts_at (sym c.bytes.ensures) ∙ c.in_ok-parts.ensures))

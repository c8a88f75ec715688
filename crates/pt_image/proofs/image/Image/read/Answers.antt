use Rattle.std.proofs.Common.{sym, ap, subst, ◌∙◌}
use Rattle.std.proofs.lemmas.Result.{err_from_is_err_and}
use Rattle.pt_image.specs.Whole.{FailsAs, parts_at}
use Rattle.pt_image.proofs.WholeLaws.{read_found, only_ok, only_err, fault_err}
use Rattle.pt_image.proofs.image.Image.read.Goals as goal

pub returns-in_err-parts-clause-only : goal.returns-in_err-parts-clause-only
returns-in_err-parts-clause-only c =
    let p = err_from_is_err_and c.from_residual.result c.from_residual.ensures.1 in
    rw (p.1, p.2) (only_err c.args.text.now c.in_err-parts.field-0.0 (subst (λ t. FailsAs c.in_err-parts.field-0.0 (parts_at t)) c.bytes.ensures c.in_err-parts.ensures))

pub returns-in_err-parts-clause-fault : goal.returns-in_err-parts-clause-fault
returns-in_err-parts-clause-fault c =
    let p = err_from_is_err_and c.from_residual.result c.from_residual.ensures.1 in
    rw (p.1, p.2) (fault_err c.args.text.now c.in_err-parts.field-0.0 (subst (λ t. FailsAs c.in_err-parts.field-0.0 (parts_at t)) c.bytes.ensures c.in_err-parts.ensures))

pub of-requires : goal.of-requires
of-requires c = (read_found c.args.text.now c.in_ok-parts.parts (ap parts_at (sym c.bytes.ensures) ∙ c.in_ok-parts.ensures)).0

pub returns-clause-spelled : goal.returns-clause-spelled
returns-clause-spelled c = rw c.of.ensures ((read_found c.args.text.now c.in_ok-parts.parts (ap parts_at (sym c.bytes.ensures) ∙ c.in_ok-parts.ensures)).2)

pub returns-clause-words : goal.returns-clause-words
returns-clause-words c = rw c.of.ensures ((read_found c.args.text.now c.in_ok-parts.parts (ap parts_at (sym c.bytes.ensures) ∙ c.in_ok-parts.ensures)).1)

pub returns-clause-only : goal.returns-clause-only
returns-clause-only c = rw c.of.ensures (λ p. only_ok c.args.text.now c.in_ok-parts.parts p (ap parts_at (sym c.bytes.ensures) ∙ c.in_ok-parts.ensures))

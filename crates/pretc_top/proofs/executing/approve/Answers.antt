use Rattle.std.proofs.Common.{ℕ, sym, subst}
use Rattle.tk_paths.specs.Bounded.{BoundsRuns}
use Rattle.pretc_top.specs.Check.{image_fails, cert_fails, costs_fail}
use Rattle.pretc_top.specs.Exec.{not_in_form}
use Rattle.pretc_top.proofs.Judging.{yes_is, unaccepted_at}
use Rattle.pretc_top.proofs.executing.approve.Goals as goal

pub returns-in-Err-clause-failed : goal.returns-in-Err-clause-failed
returns-in-Err-clause-failed c = not_in_form c.in-Err.ending (image_fails c.in-Err.ending c.in-Err.ensures.failed)

pub returns-in-Err-read_cert-clause-failed : goal.returns-in-Err-read_cert-clause-failed
returns-in-Err-read_cert-clause-failed c =
    not_in_form c.in-Err-read_cert.ending (cert_fails c.in-Err-read_cert.ending c.in-Ok.image c.in-Ok.ensures.read c.in-Err-read_cert.ensures.failed)

pub returns-in-Err-costs_of-clause-failed : goal.returns-in-Err-costs_of-clause-failed
returns-in-Err-costs_of-clause-failed c =
    not_in_form c.in-Err-costs_of.ending
    (costs_fail c.in-Err-costs_of.ending c.in-Ok.image c.in-Ok-read_cert.cert (record { image_is = c.in-Ok.ensures.read; cert_is = c.in-Ok-read_cert.ensures.read }) c.in-Err-costs_of.ensures.failed)

pub returns-in-Yes-clause-approves : goal.returns-in-Yes-clause-approves
returns-in-Yes-clause-approves c =
    let yes = yes_is c.check.result _ c.in-Yes.is in
    let P : ℕ → Type 0 = λ b. BoundsRuns c.in-Ok.image c.in-Ok-costs_of.costs b in
    record {
      cert = c.in-Ok-read_cert.cert;
      read = record { image_is = c.in-Ok.ensures.read; cert_is = c.in-Ok-read_cert.ensures.read };
      priced = c.in-Ok-costs_of.ensures.read;
      accepted = c.check.ensures.accepted.0 yes;
      bound_is = c.bound-bound.ensures;
      runs = subst P (sym c.bound-bound.ensures) (c.check.ensures.runs yes);
    }

pub returns-in-No-clause-failed : goal.returns-in-No-clause-failed
returns-in-No-clause-failed c =
    unaccepted_at _ _ _ c.in-Ok.image c.in-Ok-read_cert.cert c.in-Ok-costs_of.costs c.check.result c.in-No.condition c.in-No.at c.in-No.level c.in-No.needed c.in-No.given
    (record { image_is = c.in-Ok.ensures.read; cert_is = c.in-Ok-read_cert.ensures.read }) c.in-Ok-costs_of.ensures.read c.check.ensures.verdict c.in-No.is

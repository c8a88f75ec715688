use Rattle.pretc_top.specs.Job.{job_memory}
use Rattle.pretc_top.proofs.Jobs.{job_done_by, job_ended_by, job_fails, no_job}
use Rattle.pretc_top.proofs.jobbing.summarised.Goals as goal

pub certify-requires : goal.certify-requires
certify-requires c = record { within = c.in-Ok-judged.ensures.verdict.within }

pub totals_of-requires : goal.totals_of-requires
totals_of-requires c = record { ended = job_ended_by c.in-Ok-judged.accepted.typed _ _ _ _ c.unit_costs.ensures c.in-Ok-certify.ensures.certified c.bound-most.ensures }

pub returns-in-Err-judged-clause-failed : goal.returns-in-Err-judged-clause-failed
returns-in-Err-judged-clause-failed c = job_fails _ c.in-Ok.text c.in-Err-judged.refusal c.ending_of.result c.in-Ok.ensures c.in-Err-judged.ensures.verdict c.ending_of.ensures

pub returns-in-Err-certify-clause-failed : goal.returns-in-Err-certify-clause-failed
returns-in-Err-certify-clause-failed c = no_job _ c.in-Err-certify.ending c.in-Err-certify.ensures.failed

pub returns-clause-done : goal.returns-clause-done
returns-clause-done c =
    job_done_by _ c.in-Ok.text c.in-Ok-judged.accepted.program c.in-Ok-judged.accepted.typed c.in-Ok-judged.accepted.sizes _ _ _ _ _ _ _ _ _
    c.in-Ok.ensures c.in-Ok-judged.ensures.verdict c.in-Ok-judged.ensures.sizes c.unit_costs.ensures c.in-Ok-certify.ensures.certified c.bound-most.ensures
    c.in-Ok-totals_of.ensures.sum c.in-Ok-totals_of.ensures.worst c.say_threads.ensures c.say_bound.ensures c.say_totals.ensures

pub returns-in-Err-clause-failed : goal.returns-in-Err-clause-failed
returns-in-Err-clause-failed c = job_memory

pub returns-in-Err-totals_of-clause-failed : goal.returns-in-Err-totals_of-clause-failed
returns-in-Err-totals_of-clause-failed c = job_memory

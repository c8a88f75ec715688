use Rattle.std.proofs.Common.{[], ◌∷◌}
use Rattle.pretc_run.specs.declared.endings.Ending.TheVariants.{Done}
use Rattle.pretc_run.specs.Endings.{line_of}
use Rattle.pretc_top.specs.Job.{job_done}
use Rattle.pretc_top.proofs.jobbing.job.Goals as goal

pub returns-in-Ok : goal.returns-in-Ok
returns-in-Ok g c = record {
  concludes = record { due = _; ending = Done; ends = job_done _ c.in-Ok.ensures.done; answers = c.finish_job.ensures.answers };
}

pub returns-in-Err : goal.returns-in-Err
returns-in-Err g c = record {
  concludes = record { due = line_of c.in-Err.ending ∷ []; ending = c.in-Err.ending; ends = c.in-Err.ensures.failed; answers = c.finish.ensures.answers };
}

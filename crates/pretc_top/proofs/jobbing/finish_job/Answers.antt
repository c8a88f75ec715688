use Rattle.std.proofs.Common.{refl}
use Rattle.pretc_run.specs.Writing.{broke_off}
use Rattle.pretc_run.proofs.Written.{answers_closed}
use Rattle.pretc_top.proofs.jobbing.finish_job.Goals as goal

pub returns-in-Ok : goal.returns-in-Ok
returns-in-Ok g c = record { answers = answers_closed _ _ _ _ 0 _ c.in-Ok.ensures c.close.ensures.closes }

pub returns-in-Err : goal.returns-in-Err
returns-in-Err g c =
    let p = c.in-Err.ensures in
    record { answers = broke_off p.0 p.1.0 refl p.1.1.0 p.1.1.1 }

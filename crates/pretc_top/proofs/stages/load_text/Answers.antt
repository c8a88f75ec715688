use Rattle.std.proofs.Common.{Err, ap, ◌∙◌}
use Rattle.pretc_top.specs.Loading.{load_fault, no_file, load_memory}
use Rattle.pretc_top.proofs.stages.load_text.Goals as goal

pub returns-in-Err-Absent-clause-failed : goal.returns-in-Err-Absent-clause-failed
returns-in-Err-Absent-clause-failed g c =
    let cause = rw c.in-Err-Absent.field-0-is at c.in-Err-Absent.ensures.cause in
    no_file (c.load.ensures.absent (c.in-Err-Absent.is ∙ ap Err c.in-Err-Absent.field-0-is))
    (record { files = c.load.ensures.files; load_faults = cause.counted; store_faults = c.load.ensures.store_faults })

pub returns-in-Err-Failed-clause-failed : goal.returns-in-Err-Failed-clause-failed
returns-in-Err-Failed-clause-failed g c =
    let cause = rw c.in-Err-Failed.field-0-is at c.in-Err-Failed.ensures.cause in
    load_fault (record { rose = cause.counted; later = cause.later; files = c.load.ensures.files; store_faults = c.load.ensures.store_faults })

pub returns-in-Err-Memory-clause-failed : goal.returns-in-Err-Memory-clause-failed
returns-in-Err-Memory-clause-failed g c =
    let cause = rw c.in-Err-Memory.field-0-is at c.in-Err-Memory.ensures.cause in
    load_memory (record { files = c.load.ensures.files; load_faults = cause.counted; store_faults = c.load.ensures.store_faults })

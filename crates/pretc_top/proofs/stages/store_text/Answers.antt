use Rattle.std.proofs.Common.{Err, ap, ◌∙◌}
use Rattle.pretc_top.specs.Go.{store_fault, store_memory}
use Rattle.pretc_top.proofs.stages.store_text.Goals as goal

pub returns-in-Err-Failed-clause-failed : goal.returns-in-Err-Failed-clause-failed
returns-in-Err-Failed-clause-failed g c =
    let cause = rw c.in-Err-Failed.field-0-is at c.in-Err-Failed.ensures.cause in
    store_fault (record {
      rose = cause.counted;
      later = cause.later;
      torn = c.store.ensures.torn (c.in-Err-Failed.is ∙ ap Err c.in-Err-Failed.field-0-is);
      load_faults = c.store.ensures.load_faults;
    })

pub returns-in-Err-Memory-clause-failed : goal.returns-in-Err-Memory-clause-failed
returns-in-Err-Memory-clause-failed g c =
    let cause = rw c.in-Err-Memory.field-0-is at c.in-Err-Memory.ensures.cause in
    store_memory (record {
      files = c.store.ensures.memory (c.in-Err-Memory.is ∙ ap Err c.in-Err-Memory.field-0-is);
      load_faults = c.store.ensures.load_faults;
      store_faults = cause.counted;
    })

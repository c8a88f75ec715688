use Rattle.std.proofs.Common.{refl}
use Rattle.pretc_run.specs.Writing.{unsent}
use Rattle.pretc_run.proofs.closing.close.Goals as goal

pub returns-in-Err : goal.returns-in-Err
returns-in-Err g c = record {
  closes = unsent refl (record { written = c.flush.ensures.written; later = c.flush.ensures.cause.later; rose = c.in-Err.ensures.cause.failed });
}

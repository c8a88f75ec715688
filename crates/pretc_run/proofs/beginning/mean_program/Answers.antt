use Rattle.std.proofs.Common.{refl}
use Rattle.pretc_run.specs.Meant.{never_began}
use Rattle.pretc_run.proofs.beginning.mean_program.Goals as goal

pub returns-in-Err : goal.returns-in-Err
returns-in-Err g c = record { comes = never_began refl c.finish.ensures.answers }

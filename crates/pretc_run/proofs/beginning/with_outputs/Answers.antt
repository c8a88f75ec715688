use Rattle.std.proofs.Common.{refl}
use Rattle.pretc_run.specs.Meant.{never_began, began}
use Rattle.pretc_run.proofs.beginning.with_outputs.Goals as goal

pub returns-in-Ok : goal.returns-in-Ok
returns-in-Ok g c = record { comes = began c.mean.ensures.comes }

pub returns-in-Err : goal.returns-in-Err
returns-in-Err g c = record { comes = never_began refl c.finish.ensures.answers }

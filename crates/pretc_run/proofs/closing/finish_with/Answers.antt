use Rattle.std.proofs.Common.{List, ℕ, [], ◌∷◌, refl}
use Rattle.pretc_run.specs.Writing.{broke_off}
use Rattle.pretc_run.proofs.Written.{answers_closed}
use Rattle.pretc_run.proofs.closing.finish_with.Goals as goal

pub returns-in-Ok : goal.returns-in-Ok
returns-in-Ok g c = record { answers = answers_closed _ _ _ (c.args.line.now ∷ []) _ _ c.in-Ok.ensures.wrote c.close.ensures.closes }

pub returns-in-Err : goal.returns-in-Err
returns-in-Err g c = record { answers = broke_off [] (c.args.line.now ∷ []) refl refl c.in-Err.ensures.broke }

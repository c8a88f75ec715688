use Rattle.std.proofs.Common.{◌≡◌, ◌++◌, drop}
use Rattle.pc_meaning.specs.Programs.{locals_of}
use Rattle.pc_lower.specs.Lowered.{locals_steps}
use Rattle.pc_lower.proofs.steps.locals.Given as goal

abbrev pub invariant-loop-local : goal.invariant-loop-local
invariant-loop-local l = l.steps ++ locals_steps (locals_of l.rooms (drop l.local-index l.locals)) ≡ locals_steps (locals_of l.rooms l.locals)

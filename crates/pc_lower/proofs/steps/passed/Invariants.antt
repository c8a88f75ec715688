use Rattle.std.proofs.Common.{◌≡◌, ◌++◌, drop, map}
use Rattle.pc_meaning.specs.Programs.{place_of, expression_of}
use Rattle.pc_lower.specs.Lowered.{passed}
use Rattle.pc_lower.proofs.steps.passed.Given as goal

abbrev pub invariant-loop-i : goal.invariant-loop-i
invariant-loop-i l = l.steps ++ passed (map (place_of l.rooms) (drop l.i l.parameters)) (map (expression_of l.rooms) (drop l.i l.arguments)) ≡ passed (map (place_of l.rooms) l.parameters) (map (expression_of l.rooms) l.arguments)

use Rattle.std.proofs.Common.{◌≡◌, max, drop, map}
use Rattle.pc_lower.specs.Trees.{read}
use Rattle.pc_regs.specs.Assignment.{used_by_bodies}
use Rattle.pc_regs.proofs.assignment.used_by_bodies.Given as goal

abbrev pub invariant-loop-body : goal.invariant-loop-body
invariant-loop-body l = max l.most (used_by_bodies (map read (drop l.body-index l.bodies))) ≡ used_by_bodies (map read l.bodies)

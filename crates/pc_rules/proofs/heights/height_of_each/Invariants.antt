use Rattle.std.proofs.Common.{◌≡◌, min, map, take, []}
use Rattle.pc_rules.specs.Known.{each_given}
use Rattle.pc_rules.specs.Nests.{function_height}
use Rattle.pc_rules.proofs.heights.height_of_each.Given as goal

abbrev pub invariant-loop-f : goal.invariant-loop-f
invariant-loop-f l = l.known.items ≡ map (min 17) (each_given function_height [] (take l.f-index l.functions))

use Rattle.std.proofs.Common.{◌≡◌, min, map, take, []}
use Rattle.pc_rules.specs.Known.{each_given}
use Rattle.pc_rules.specs.Weights.{function_passage}
use Rattle.pc_rules.proofs.weights.passage_of_each.Given as goal

abbrev pub invariant-loop-f : goal.invariant-loop-f
invariant-loop-f l = l.known.items ≡ map (min 2000001) (each_given function_passage [] (take l.f-index l.functions))

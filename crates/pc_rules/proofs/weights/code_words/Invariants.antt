use Rattle.std.proofs.Common.{◌≡◌, min, sum_by, take}
use Rattle.pc_rules.specs.Weights.{function_weight}
use Rattle.pc_rules.proofs.weights.code_words.Given as goal

abbrev pub invariant-loop-f : goal.invariant-loop-f
invariant-loop-f l = l.total ≡ min 2000001 (sum_by function_weight (take l.f-index l.all))

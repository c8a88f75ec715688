use Rattle.std.proofs.Common.{◌≡◌, ◌++◌, drop}
use Rattle.pt_base.specs.Spelling.{each}
use Rattle.tk_cert.specs.Text.{weight_text}
use Rattle.tk_cert.proofs.writing.put_weights.Given as goal

abbrev pub invariant-loop-weight : goal.invariant-loop-weight
invariant-loop-weight l = l.out.items ++ each weight_text (drop l.weight-index l.weights) ≡ l.fn.out.items ++ each weight_text l.weights

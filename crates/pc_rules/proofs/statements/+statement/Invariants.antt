use Rattle.std.proofs.Common.{◌≡◌, min, sum_by, take}
use Rattle.pc_rules.specs.Weights.{statement_words}
use Rattle.pc_rules.proofs.statements.+statement.Given as goal

abbrev pub invariant-statements-loop-s : goal.invariant-statements-loop-s
invariant-statements-loop-s l = l.total ≡ min 2000001 (sum_by (statement_words l.counting) (take l.s-index l.all))

use Rattle.std.proofs.Common.{◌≡◌, min, sum_by, take}
use Rattle.pc_rules.proofs.limits.cell_words.Given as goal

abbrev pub invariant-loop-cell : goal.invariant-loop-cell
invariant-loop-cell l = l.total ≡ min 15001 (sum_by (λ cell. cell.size) (take l.cell-index l.cells))

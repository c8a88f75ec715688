use Rattle.std.proofs.Common.{◌≡◌, max, map, drop}
use Rattle.pc_rules.specs.Nests.{greatest, called_height}
use Rattle.pc_rules.proofs.heights.+called.Given as goal

abbrev pub invariant-all_called-loop-s : goal.invariant-all_called-loop-s
invariant-all_called-loop-s l = max l.most (greatest (map (called_height l.known) (drop l.s-index l.all))) ≡ greatest (map (called_height l.known) l.all)

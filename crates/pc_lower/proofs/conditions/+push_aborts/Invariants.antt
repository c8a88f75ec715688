use Rattle.std.proofs.Common.{◌≡◌, ◌++◌, drop}
use Rattle.pc_meaning.specs.Lefts.{trees}
use Rattle.pc_lower.specs.Trees.{pairs_of}
use Rattle.pc_lower.specs.Aborts.{aborts_in_all}
use Rattle.pc_lower.specs.Lowered.{conditions_of}
use Rattle.pc_lower.proofs.conditions.+push_aborts.Given as goal

abbrev pub invariant-push_all-loop-s : goal.invariant-push_all-loop-s
invariant-push_all-loop-s l =
    pairs_of l.aborts.items ++ conditions_of (aborts_in_all (trees l.rooms l.functions (drop l.s-index l.all))) ≡ pairs_of l.initial.aborts.items ++ conditions_of (aborts_in_all (trees l.rooms l.functions l.all))

use Rattle.std.proofs.Common.{◌≡◌, ◌++◌, drop, map}
use Rattle.pc_meaning.specs.Values.{values}
use Rattle.pc_meaning.specs.Programs.{expression_of}
use Rattle.pc_meaning.proofs.values.values_of.Given as goal

abbrev pub invariant-loop-e : goal.invariant-loop-e
invariant-loop-e l = l.words.items ++ values (map (expression_of l.rooms) (drop l.e-index l.es)) l.store ≡ values (map (expression_of l.rooms) l.es) l.store

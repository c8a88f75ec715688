use Rattle.std.proofs.Common.{◌≡◌, ◌++◌, drop}
use Rattle.pc_lower.specs.Trees.{all_read}
use Rattle.pc_lower.specs.Limits.{threads_of_all}
use Rattle.pc_emit.proofs.slots.+put_threads.Given as goal

abbrev pub invariant-put_all_threads-loop-node : goal.invariant-put_all_threads-loop-node
invariant-put_all_threads-loop-node l =
    l.all.items ++ threads_of_all (all_read (drop l.node-index l.nodes)) ≡ l.fn.all.items ++ threads_of_all (all_read l.nodes)

use Rattle.std.proofs.Common.{◌≡◌, ◌++◌, drop}
use Rattle.pc_lower.specs.Trees.{all_read}
use Rattle.pc_emit.specs.Sections.{calls_in_all}
use Rattle.pc_emit.proofs.used.+put_calls.Given as goal

abbrev pub invariant-put_all_calls-loop-node : goal.invariant-put_all_calls-loop-node
invariant-put_all_calls-loop-node l =
    l.all.items ++ calls_in_all (all_read (drop l.node-index l.nodes)) ≡ l.fn.all.items ++ calls_in_all (all_read l.nodes)

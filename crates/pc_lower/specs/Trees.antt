-- The nodes and the flow of the definition that a flow in memory is.
use Rattle.std.specs.Prelude.{ℕ, Bool, List, [], ◌∷◌, map}
use Rattle.pc_lower.specs.declared.nodes.Node.{Node as Kept, fold-Node}
use Rattle.pc_lower.specs.declared.nodes.Node.TheOpen.{Node-F, Straight, Sequence, Branch, Turns, Bounded, Call, Pause, Fork, Guard}
use Rattle.pc_lower.specs.declared.nodes.Abort.{Abort}
use Rattle.pc_lower.specs.declared.flow.Flow.{Flow as KeptFlow}
use Rattle.pc_lower.specs.declared.nodes.Test.{Test}
use Rattle.pc_lower.specs.Flow.{Node, Nodes, straight, sequence, branch, turns, bounded, call, pause, fork, guard, no_nodes, and, Flow}

abbrev pub nodes_from : List Node → Nodes
nodes_from [] = no_nodes
nodes_from (n ∷ rest) = and n (nodes_from rest)

abbrev pub node_step : Node-F Node → Node
node_step (Straight steps) = straight steps
node_step (Sequence all) = sequence (nodes_from all)
node_step (Branch test first second) = branch test first second
node_step (Turns test body) = turns test body
node_step (Bounded most test body) = bounded most test body
node_step (Call f) = call f
node_step (Pause i) = pause i
node_step (Fork i threads) = fork i threads
node_step (Guard j body) = guard j body

-- the node that one in memory is
abbrev pub read : Kept → Node
read = fold-Node Node node_step

abbrev pub all_read : List Kept → Nodes
all_read [] = no_nodes
all_read (n ∷ rest) = and (read n) (all_read rest)

-- aborts, each whether it is weak and its test
abbrev pub pairs_of : List Abort → List (Bool × Test)
pairs_of aborts = map (λ a. (a.weak, a.test)) aborts

-- the flow that one in memory is
abbrev pub flow_read : KeptFlow → Flow
flow_read f = record {
  bodies = map read f.bodies.items;
  main = f.main;
  aborts = pairs_of f.aborts.items;
  declared = f.declared.items;
  inputs = f.inputs.items;
  outputs = f.outputs.items;
}

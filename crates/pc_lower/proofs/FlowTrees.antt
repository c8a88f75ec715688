-- The equations of `read`.
use Rattle.std.proofs.Common.{◌≡◌, ℕ, List, [], ◌∷◌, ◌++◌, map, Option, refl, sym, ap, ◌∙◌}
use Rattle.pc_lower.specs.declared.nodes.Node.{Node as Kept, fold-roll-Node}
use Rattle.pc_lower.specs.declared.nodes.Node.TheVariants.{Straight, Sequence, Branch, Turns, Bounded, Call, Pause, Fork, Guard, rolls-Straight, rolls-Sequence, rolls-Branch, rolls-Turns, rolls-Bounded, rolls-Call, rolls-Pause, rolls-Fork, rolls-Guard}
use Rattle.pc_lower.specs.declared.nodes.Node.TheOpen.{Straight as OpenStraight, Sequence as OpenSequence, Branch as OpenBranch, Turns as OpenTurns, Bounded as OpenBounded, Call as OpenCall, Pause as OpenPause, Fork as OpenFork, Guard as OpenGuard}
use Rattle.pc_lower.specs.declared.nodes.Step.{Step}
use Rattle.pc_lower.specs.declared.nodes.Test.{Test}
use Rattle.pc_lower.specs.Flow.{Node, Nodes, straight, sequence, branch, turns, bounded, call, pause, fork, guard, no_nodes, and}
use Rattle.pc_lower.specs.Trees.{nodes_from, node_step, read, all_read}

pub read-Straight : (steps : List Step) → read (Straight steps) ≡ straight steps
read-Straight steps = ap read (sym (rolls-Straight steps)) ∙ fold-roll-Node Node node_step (OpenStraight steps)

all : (ns : List Kept) → nodes_from (map read ns) ≡ all_read ns
all [] = refl
all (n ∷ ns) = ap (and (read n)) (all ns)

pub read-Sequence : (ns : List Kept) → read (Sequence ns) ≡ sequence (all_read ns)
read-Sequence ns = ap read (sym (rolls-Sequence ns)) ∙ fold-roll-Node Node node_step (OpenSequence ns) ∙ ap sequence (all ns)

pub read-Branch : (test : Test) (first second : Kept) → read (Branch test first second) ≡ branch test (read first) (read second)
read-Branch test first second = ap read (sym (rolls-Branch test first second)) ∙ fold-roll-Node Node node_step (OpenBranch test first second)

pub read-Turns : (test : Option Test) (body : Kept) → read (Turns test body) ≡ turns test (read body)
read-Turns test body = ap read (sym (rolls-Turns test body)) ∙ fold-roll-Node Node node_step (OpenTurns test body)

pub read-Bounded : (most : ℕ) (test : Option Test) (body : Kept) → read (Bounded most test body) ≡ bounded most test (read body)
read-Bounded most test body = ap read (sym (rolls-Bounded most test body)) ∙ fold-roll-Node Node node_step (OpenBounded most test body)

pub read-Call : (f : ℕ) → read (Call f) ≡ call f
read-Call f = ap read (sym (rolls-Call f)) ∙ fold-roll-Node Node node_step (OpenCall f)

pub read-Pause : (i : ℕ) → read (Pause i) ≡ pause i
read-Pause i = ap read (sym (rolls-Pause i)) ∙ fold-roll-Node Node node_step (OpenPause i)

pub read-Fork : (i : ℕ) (threads : List ℕ) → read (Fork i threads) ≡ fork i threads
read-Fork i threads = ap read (sym (rolls-Fork i threads)) ∙ fold-roll-Node Node node_step (OpenFork i threads)

pub read-Guard : (j : ℕ) (body : Kept) → read (Guard j body) ≡ guard j (read body)
read-Guard j body = ap read (sym (rolls-Guard j body)) ∙ fold-roll-Node Node node_step (OpenGuard j body)

pub ruleset reads = (read-Straight, read-Sequence, read-Branch, read-Turns, read-Bounded, read-Call, read-Pause, read-Fork, read-Guard)

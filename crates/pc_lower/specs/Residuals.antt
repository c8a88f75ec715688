-- What a node can leave, one rule per node.
use Rattle.std.specs.Prelude.{◌≡◌, ℕ, false, List, [], ◌∷◌, Option, slice_get, unwrap_or}
use Rattle.pc_lower.specs.declared.nodes.Test.{Test}
use Rattle.pc_lower.specs.Flow.{Node, Nodes, sequence, branch, turns, pause, fork, guard, no_nodes, and, Rest, Rests, at, ahead, within, group, nobody, over, going, all_over, End, Through, Halted}

abbrev pub body_at : List Node → ℕ → Node
body_at bodies f = unwrap_or (slice_get bodies f) (sequence no_nodes)

module _ (bodies : List Node) where
  mutual
    pub data Of : Node → Rest → Type 0 where
      of_list : {nodes : Nodes} {r : Rest} → OfAll nodes r → Of (sequence nodes) r
      of_first : {test : Test} {a b : Node} {r : Rest} → Of a r → Of (branch test a b) r
      of_second : {test : Test} {a b : Node} {r : Rest} → Of b r → Of (branch test a b) r
      of_turns : {test : Option Test} {body : Node} {r : Rest} → Of body r → Of (turns test body) (ahead r (and (turns test body) no_nodes))
      of_pause : {i : ℕ} → Of (pause i) (at i)
      of_guard : {j : ℕ} {body : Node} {r : Rest} → Of body r → Of (guard j body) (within j r)
      of_fork : {i : ℕ} {fs : List ℕ} {rs : Rests} → OfThreads fs rs → all_over rs ≡ false → Of (fork i fs) (group i rs)

    pub data OfAll : Nodes → Rest → Type 0 where
      of_last : {n : Node} {r : Rest} → Of n r → OfAll (and n no_nodes) r
      of_head : {n m : Node} {nodes : Nodes} {r : Rest} → Of n r → OfAll (and n (and m nodes)) (ahead r (and m nodes))
      of_tail : {n : Node} {nodes : Nodes} {r : Rest} → OfAll nodes r → OfAll (and n nodes) r

    -- the threads of a fork by their numbers
    pub data OfThreads : List ℕ → Rests → Type 0 where
      of_nobody : OfThreads [] nobody
      of_over : {f : ℕ} {fs : List ℕ} {rs : Rests} → OfThreads fs rs → OfThreads (f ∷ fs) (over rs)
      of_going : {f : ℕ} {fs : List ℕ} {r : Rest} {rs : Rests} → Of (body_at bodies f) r → OfThreads fs rs → OfThreads (f ∷ fs) (going r rs)

-- what is left, if anything, is so
abbrev pub LeavesSo : (Rest → Type 0) → End → Type 0
LeavesSo P (Through w) = Unit {0}
LeavesSo P (Halted r w) = P r

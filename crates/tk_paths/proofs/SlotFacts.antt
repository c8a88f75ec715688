-- The unit's tree and its conditions, as the proofs go through them.
use Rattle.std.specs.Prelude.{not, ℕ, ◌+◌, ◌&&◌, Bool, if◌then◌else◌, List, [], ◌∷◌, Option, Some, None}
use Rattle.mb_pfu.specs.declared.parts.Watch.{Watch}
use Rattle.mb_pfu.specs.Tree.{Running, Tree, Group, Leaf, Waits, no_more, member}
use Rattle.mb_pfu.specs.Rows.{answered, or_else}
use Rattle.mb_pfu.specs.Contexts.{Context}

-- the number behind those of a group that begin at k; in `mb_pfu`, `k + size group`
abbrev pub beyond : ℕ → Group → ℕ
beyond k no_more = k
beyond k (member t ts) = beyond (k + 1) ts

-- the number of the slot in the middle
abbrev pub middle : Context → ℕ
middle [] = 0
middle (frame ∷ frames) = beyond frame.lo frame.before

abbrev pub without_last : List Watch → List Watch
without_last [] = []
without_last (l ∷ []) = []
without_last (l ∷ k ∷ watches) = l ∷ without_last (k ∷ watches)

-- what a test does to its slot: it is cut at a handler, or its entries change; in `mb_pfu`, `is_cut`, `take` and `with_answer`
pub data Judged : Type 0 where
  Cut : (outside : List Watch) (handler : ℕ) → Judged
  Kept : (watches : List Watch) → Judged

abbrev pub behind_one : Watch → Judged → Judged
behind_one l (Cut outside handler) = Cut (l ∷ outside) handler
behind_one l (Kept watches) = Kept (l ∷ watches)

-- the first entry that is due is answered
abbrev pub judged : Bool → List Watch → Judged
judged fired [] = Kept []
judged fired (l ∷ watches) =
    if l.due then (if fired && not l.entry.weak then Cut [] l.entry.handler else Kept (answered fired l ∷ watches))
    else behind_one l (judged fired watches)

abbrev pub judged_tree : (List Watch → Tree) → Judged → Tree
judged_tree keep (Cut outside handler) = Leaf outside (Running handler)
judged_tree keep (Kept watches) = keep watches

-- the place of the first condition that is due
abbrev pub first_cond : List Watch → Option ℕ
first_cond [] = None
first_cond (l ∷ watches) = if l.due then Some l.entry.cond else first_cond watches

abbrev mutual
  -- the condition of the first slot with a due entry, in depth-first order
  pub next_cond : Tree → Option ℕ
  next_cond (Leaf watches activity) = first_cond watches
  next_cond (Waits watches at lo group) = or_else (first_cond watches) (next_cond_among group)

  pub next_cond_among : Group → Option ℕ
  next_cond_among no_more = None
  next_cond_among (member t ts) = or_else (next_cond t) (next_cond_among ts)

-- the first where there is something, else the second
abbrev pub if_some : {X : Type 0} → Option ℕ → X → X → X
if_some None a b = b
if_some (Some c) a b = a

abbrev mutual
  pub test_answered : Bool → Tree → Tree
  test_answered fired (Leaf watches activity) = judged_tree (λ w. Leaf w activity) (judged fired watches)
  test_answered fired (Waits watches at lo group) = if_some (first_cond watches) (judged_tree (λ w. Waits w at lo group) (judged fired watches)) (Waits watches at lo (test_answered_among fired group))

  pub test_answered_among : Bool → Group → Group
  test_answered_among fired no_more = no_more
  test_answered_among fired (member t ts) = if_some (next_cond t) (member (test_answered fired t) ts) (member t (test_answered_among fired ts))

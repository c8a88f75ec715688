-- The functions that run in the slots of a program's flow are its threads.
use Rattle.std.proofs.Common.{◌≡◌, ◌⊎◌, ℕ, zero, suc, ◌+◌, ◌<◌, ◌≤◌, ◌==◌, Bool, true, false, not, ◌||◌, List, [], ◌∷◌, ◌++◌, map, length, get_or, Option, Some, None, inl, inr, ⊎_elim, refl, sym, ap, subst, ◌∙◌, arith, eq-eqb}
use Rattle.std.specs.Prelude.{slice_index_or}
use Rattle.std.specs.List.{AllByRecursion, list_any}
use Rattle.pc_meaning.specs.Tree.{Expression, Statement, Statements, skip, assign, call_of, block, if_so, repeat, loop, eot, par, abort, none, each, Routine}
use Rattle.pc_meaning.specs.Promises.{pauses, some_pauses}
use Rattle.pc_lower.specs.declared.nodes.Test.{Test}
use Rattle.pc_lower.specs.Flow.{Node, Nodes}
use Rattle.pc_lower.specs.Lowered.{loop_test, bounded_of, node_of, nodes_of, finished, body_of}
use Rattle.pc_lower.specs.Loops.{LoopsKept, AllLoopsKept}
use Rattle.pc_lower.specs.Limits.{threads_of, threads_of_all, started_by}
use Rattle.pc_lower.specs.Numbering.{all_started}
use Rattle.pc_lower.proofs.RegionThreads.{all-append}
use Rattle.pc_lower.proofs.Slots.{same-of}
use Rattle.pc_lower.proofs.Shapes.{Names, AllName, threads_in, threads_in_all}
use Rattle.pc_lower.proofs.NodeFacts.{neither-first, neither-second}

-- ---- what a statement's node starts

bounded-starts : (P : List ℕ → Type 0) (most : ℕ) (test : Option Test) (body : Node) → P [] → P (threads_of (bounded_of most test body))
bounded-starts P zero test body h = h
bounded-starts P (suc n) test body h = h

module _ (routines : List Routine) where
  -- what pauses nowhere starts nothing
  mutual
    pub calm-none : (s : Statement) → pauses s ≡ false → threads_in s ≡ []
    calm-none skip h = refl
    calm-none (assign goal e) h = refl
    calm-none (call_of goal f es) h = refl
    calm-none (block all) h = calm-none-all all h
    calm-none (if_so test first second) h =
        ap (λ l. l ++ threads_in second) (calm-none first (neither-first (pauses first) (pauses second) h)) ∙ calm-none second (neither-second (pauses first) (pauses second) h)
    calm-none (repeat most test body) h = calm-none body h
    calm-none (loop test body) h = calm-none body h
    calm-none (eot i) h = cc
    calm-none (par i threads) h = cc
    calm-none (abort j weak body test) h = cc

    pub calm-none-all : (all : Statements) → some_pauses all ≡ false → threads_in_all all ≡ []
    calm-none-all none h = refl
    calm-none-all (each s rest) h =
        ap (λ l. l ++ threads_in_all rest) (calm-none s (neither-first (pauses s) (some_pauses rest) h)) ∙ calm-none-all rest (neither-second (pauses s) (some_pauses rest) h)

  module _ (whole : List Bool) where
    mutual
      node-starts : (s : Statement) → LoopsKept whole s → threads_of (node_of routines s) ≡ threads_in s
      node-starts skip k = refl
      node-starts (assign goal e) k = refl
      node-starts (call_of goal f es) k = refl
      node-starts (block all) k = nodes-start all k
      node-starts (if_so test first second) k =
          ap (λ l. l ++ threads_of (node_of routines second)) (node-starts first k.0) ∙ ap (λ l. threads_in first ++ l) (node-starts second k.1)
      node-starts (repeat most test body) k = bounded-starts (λ l. l ≡ threads_in body) most (loop_test test) (node_of routines body) (sym (calm-none body k.0))
      node-starts (loop test body) k = node-starts body k.1
      node-starts (eot i) k = refl
      node-starts (par i threads) k = refl
      node-starts (abort j weak body test) k = node-starts body k

      nodes-start : (all : Statements) → AllLoopsKept whole all → threads_of_all (nodes_of routines all) ≡ threads_in_all all
      nodes-start none k = refl
      nodes-start (each s rest) k =
          ap (λ l. l ++ threads_of_all (nodes_of routines rest)) (node-starts s k.0) ∙ ap (λ l. threads_in s ++ l) (nodes-start rest k.1)

    finished-starts : (result : Option Expression) (nodes : Nodes) → threads_of_all (finished routines result nodes) ≡ threads_of_all nodes
    finished-starts None nodes = refl
    finished-starts (Some e) nodes = Rattle.std.proofs.Common.append-nil (threads_of_all nodes)

    -- a function's node starts what its statements start
    pub body-starts : (r : Routine) → AllLoopsKept whole r.body → threads_of (body_of routines r) ≡ threads_in_all r.body
    body-starts r k = finished-starts r.result (nodes_of routines r.body) ∙ nodes-start r.body k

-- ---- what statements start keeps what the threads keep

mutual
  threads-keep : (Called Started : ℕ → Type 0) (s : Statement) → Names Called Started s → AllByRecursion Started (threads_in s)
  threads-keep Called Started skip h = tt
  threads-keep Called Started (assign goal e) h = tt
  threads-keep Called Started (call_of goal f es) h = tt
  threads-keep Called Started (block all) h = all-threads-keep Called Started all h
  threads-keep Called Started (if_so test first second) h = all-append Started (threads_in first) (threads_in second) (threads-keep Called Started first h.0) (threads-keep Called Started second h.1)
  threads-keep Called Started (repeat most test body) h = threads-keep Called Started body h
  threads-keep Called Started (loop test body) h = threads-keep Called Started body h
  threads-keep Called Started (eot i) h = tt
  threads-keep Called Started (par i threads) h = h
  threads-keep Called Started (abort j weak body test) h = threads-keep Called Started body h

  pub all-threads-keep : (Called Started : ℕ → Type 0) (all : Statements) → AllName Called Started all → AllByRecursion Started (threads_in_all all)
  all-threads-keep Called Started none h = tt
  all-threads-keep Called Started (each s rest) h = all-append Started (threads_in s) (threads_in_all rest) (threads-keep Called Started s h.0) (all-threads-keep Called Started rest h.1)

-- ---- the functions of slots

pub all-started-keep : (P : ℕ → Type 0) (bodies : List Node) → ((g : ℕ) → AllByRecursion P (started_by bodies g)) → (fs : List ℕ) → AllByRecursion P (all_started bodies fs)
all-started-keep P bodies keep [] = tt
all-started-keep P bodies keep (f ∷ fs) = all-append P (started_by bodies f) (all_started bodies fs) (keep f) (all-started-keep P bodies keep fs)

pub all-get : (P : ℕ → Type 0) (xs : List ℕ) (i : ℕ) → i < length xs → AllByRecursion P xs → P (slice_index_or xs i 0)
all-get P [] i less h = absurd (omega (arith, less))
all-get P (x ∷ xs) zero less h = h.0
all-get P (x ∷ xs) (suc i) less h = all-get P xs i (omega (arith, less)) h.1

-- a number that stands in a list stands at some place
abbrev pub IsPlaced : ℕ → List ℕ → Type 0
IsPlaced g xs = (c : ℕ) × (c < length xs) × (slice_index_or xs c 0 ≡ g)

pub any-there : (g : ℕ) (xs : List ℕ) → list_any (λ x. x == g) xs ≡ true → IsPlaced g xs
any-there g [] h = cc
any-there g (x ∷ xs) h = by (x == g) refl h (any-there g xs)
  where
    by : (b : Bool) → (x == g) ≡ b → (b || list_any (λ y. y == g) xs) ≡ true → (list_any (λ y. y == g) xs ≡ true → IsPlaced g xs) → IsPlaced g (x ∷ xs)
    by true e h more = (0, omega arith, sym (same-of x g e))
    by false e h more = let r = more h in (suc r.0, omega (arith, r.1), r.2)

pub there-any : (g : ℕ) (xs : List ℕ) (c : ℕ) → c < length xs → slice_index_or xs c 0 ≡ g → list_any (λ x. x == g) xs ≡ true
there-any g [] c less is = absurd (omega (arith, less))
there-any g (x ∷ xs) zero less is = ap (λ b. b || list_any (λ y. y == g) xs) (eq-eqb x g is)
there-any g (x ∷ xs) (suc c) less is = by (x == g) (there-any g xs c (omega (arith, less)) is)
  where
    by : (b : Bool) → list_any (λ y. y == g) xs ≡ true → (b || list_any (λ y. y == g) xs) ≡ true
    by true h = refl
    by false h = h

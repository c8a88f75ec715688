-- Two ends that are the same, and what is built of them.
use Rattle.std.proofs.Common.{◌≡◌, ℕ, zero, suc, Bool, true, false, List, [], ◌∷◌, Option, Some, None, refl, sym, ap, ◌∙◌, subst}
use Rattle.std.specs.Prelude.{if◌then◌else◌}
use Rattle.pc_meaning.specs.Tree.{Expression, Statements, Routine, none, each}
use Rattle.pc_meaning.specs.Values.{Store, holds}
use Rattle.pc_meaning.specs.Outcomes.{Residual, Threads, in_par, no_more, ended, paused, Outcome, Done, Paused, store_of, before_rest, followed, aborting, fired_or_aborting, Side, and_side, beside, all_ended, joined}
use Rattle.pc_meaning.specs.Statements.{turning}
use Rattle.pc_lower.specs.declared.nodes.Test.{Test}
use Rattle.pc_lower.specs.Flow.{State, tested, decides, Nodes, Rest, within, group, over, going, End, Through, Halted, state_of, later, then_do, in_guard, fired_or_in_guard, Group, and_group, work, all_over, settle, looping}
use Rattle.pc_lower.specs.Lowered.{nodes_of, rest_of, rests_of}
use Rattle.pc_lower.specs.Laws.{Same, SameFrom}

-- a test that is looked at, or isn't as it always holds
abbrev pub Decides : Expression → Option Test → Type 0
Decides test None = (store : Store) → holds test store ≡ true
Decides test (Some t) = (store : Store) (w : State) → w.store ≡ store → (decides t w ≡ holds test store) × ((tested t w).store ≡ store)

module _ (routines : List Routine) where
  pub same_store : (o : Outcome) (e : End) → Same routines o e → (state_of e).store ≡ store_of o
  same_store (Done store) (Through w) h = h
  same_store (Done store) (Halted q w) h = absurd h
  same_store (Paused r store) (Through w) h = absurd h
  same_store (Paused r store) (Halted q w) h = h.1

  pub same_if : (b c : Bool) (o o' : Outcome) (e e' : End) → b ≡ c → Same routines o e → Same routines o' e' → Same routines (if c then o else o') (if b then e else e')
  same_if b c o o' e e' is h h' = subst (λ d. Same routines (if c then o else o') (if d then e else e')) (sym is) (by c)
    where
      by : (d : Bool) → Same routines (if d then o else o') (if d then e else e')
      by true = h
      by false = h'

  later_is : (q : Rest) (r : Residual) (nodes : Nodes) (rest : Statements) → q ≡ rest_of routines r → nodes ≡ nodes_of routines rest → later q nodes ≡ rest_of routines (before_rest r rest)
  later_is q r nodes rest is all = ap (λ x. later x nodes) is ∙ ap (later (rest_of routines r)) all ∙ by rest
    where
      by : (ss : Statements) → later (rest_of routines r) (nodes_of routines ss) ≡ rest_of routines (before_rest r ss)
      by none = refl
      by (each s ss) = refl

  pub same_followed : (o : Outcome) (e : End) (rest : Statements) (nodes : Nodes) (f : Store → Outcome) (g : State → End) → nodes ≡ nodes_of routines rest → Same routines o e → SameFrom routines f g → Same routines (followed o rest f) (then_do e nodes g)
  same_followed (Done store) (Through w) rest nodes f g is h more = more store w h
  same_followed (Done store) (Halted q w) rest nodes f g is h more = absurd h
  same_followed (Paused r store) (Through w) rest nodes f g is h more = absurd h
  same_followed (Paused r store) (Halted q w) rest nodes f g is h more = (later_is q r nodes rest h.0 is, h.1)

  pub same_aborting : (j : ℕ) (weak : Bool) (test : Expression) (o : Outcome) (e : End) → Same routines o e → Same routines (aborting j weak test o) (in_guard j e)
  same_aborting j weak test (Done store) (Through w) h = h
  same_aborting j weak test (Done store) (Halted q w) h = absurd h
  same_aborting j weak test (Paused r store) (Through w) h = absurd h
  same_aborting j weak test (Paused r store) (Halted q w) h = (ap (λ x. within j x) h.0, h.1)

  pub same_fired : (b c : Bool) (j : ℕ) (weak : Bool) (test : Expression) (o : Outcome) (e : End) → b ≡ c → Same routines o e → Same routines (fired_or_aborting c j weak test o) (fired_or_in_guard b j e)
  same_fired b c j weak test o e is h = subst (λ d. Same routines (fired_or_aborting c j weak test o) (fired_or_in_guard d j e)) (sym is) (by c)
    where
      by : (d : Bool) → Same routines (fired_or_aborting d j weak test o) (fired_or_in_guard d j e)
      by true = same_store o e h
      by false = same_aborting j weak test o e h

  -- ---- threads

  abbrev pub SameJobs : List (Option (Store → Outcome)) → List (Option (State → End)) → Type 0
  SameJobs [] [] = Unit {0}
  SameJobs [] (g ∷ gs) = ⊥
  SameJobs (f ∷ fs) [] = ⊥
  SameJobs (None ∷ fs) (None ∷ gs) = SameJobs fs gs
  SameJobs (None ∷ fs) (Some g ∷ gs) = ⊥
  SameJobs (Some f ∷ fs) (None ∷ gs) = ⊥
  SameJobs (Some f ∷ fs) (Some g ∷ gs) = SameFrom routines f g × SameJobs fs gs

  abbrev pub SameSide : Side → Group → Type 0
  SameSide s g = (g.rests ≡ rests_of routines s.threads) × (g.state.store ≡ s.store)

  and_same : (o : Outcome) (e : End) (f : Store → Side) (g : State → Group) → Same routines o e → ((store : Store) (w : State) → w.store ≡ store → SameSide (f store) (g w)) → SameSide (and_side o f) (and_group e g)
  and_same (Done store) (Through w) f g h more = (ap over (more store w h).0, (more store w h).1)
  and_same (Done store) (Halted q w) f g h more = absurd h
  and_same (Paused r store) (Through w) f g h more = absurd h
  and_same (Paused r store) (Halted q w) f g h more =
      (ap (λ x. going x (g w).rests) h.0 ∙ ap (going (rest_of routines r)) (more store w h.1).0, (more store w h.1).1)

  same_side : (fs : List (Option (Store → Outcome))) (gs : List (Option (State → End))) → SameJobs fs gs → (store : Store) (w : State) → w.store ≡ store → SameSide (beside fs store) (work gs w)
  same_side [] [] jobs store w is = (refl, is)
  same_side [] (g ∷ gs) jobs store w is = absurd jobs
  same_side (f ∷ fs) [] jobs store w is = absurd jobs
  same_side (None ∷ fs) (None ∷ gs) jobs store w is = and_same (Done store) (Through w) (beside fs) (work gs) is (same_side fs gs jobs)
  same_side (None ∷ fs) (Some g ∷ gs) jobs store w is = absurd jobs
  same_side (Some f ∷ fs) (None ∷ gs) jobs store w is = absurd jobs
  same_side (Some f ∷ fs) (Some g ∷ gs) jobs store w is = and_same (f store) (g w) (beside fs) (work gs) (jobs.0 store w is) (same_side fs gs jobs.1)

  over-ended : (threads : Threads) → all_over (rests_of routines threads) ≡ all_ended threads
  over-ended no_more = refl
  over-ended (ended more) = over-ended more
  over-ended (paused r more) = refl

  pub same_joined : (i : ℕ) (fs : List (Option (Store → Outcome))) (gs : List (Option (State → End))) → SameJobs fs gs → SameFrom routines (λ store. joined i (beside fs store)) (λ w. settle i (work gs w))
  same_joined i fs gs jobs store w is =
      let h : SameSide (beside fs store) (work gs w) = same_side fs gs jobs store w is in
      same_if (all_over (work gs w).rests) (all_ended (beside fs store).threads) (Done (beside fs store).store) (Paused (in_par i (beside fs store).threads) (beside fs store).store)
      (Through (work gs w).state) (Halted (group i (work gs w).rests) (work gs w).state)
      (ap all_over h.0 ∙ over-ended (beside fs store).threads) h.1 (ap (λ x. group i x) h.0, h.1)

  -- ---- loops with a bound

  looping_step : (b c : Bool) (v : State) (store : Store) (x : State) (z : Store) → b ≡ c → v.store ≡ store → x.store ≡ z → (if b then x else v).store ≡ (if c then z else store)
  looping_step b c v store x z e stays goes = ap (λ d. (if d then x else v).store) e ∙ by c
    where
      by : (c : Bool) → (if c then x else v).store ≡ (if c then z else store)
      by true = goes
      by false = stays

  pub same_looping : (n : ℕ) (test : Expression) (t : Option Test) (f : Store → Outcome) (g : State → End) → Decides test t → SameFrom routines f g → (store : Store) (w : State) → w.store ≡ store → (looping n t g w).store ≡ turning n test f store
  same_looping zero test None f g decide same store w is = is
  same_looping zero test (Some t) f g decide same store w is = is
  same_looping (suc n) test None f g decide same store w is =
      same_looping n test None f g decide same (store_of (f store)) (state_of (g w)) (same_store (f store) (g w) (same store w is))
      ∙ ap (λ b. if b then turning n test f (store_of (f store)) else store) (sym (decide store))
  same_looping (suc n) test (Some t) f g decide same store w is =
      let v = tested t w in
      let h = decide store w is in
      looping_step (decides t w) (holds test store) v store (looping n (Some t) g (state_of (g v))) (turning n test f (store_of (f store))) h.0 h.1
      (same_looping n test (Some t) f g decide same (store_of (f store)) (state_of (g v)) (same_store (f store) (g v) (same store v h.1)))

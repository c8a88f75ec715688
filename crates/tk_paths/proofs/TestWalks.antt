-- The conditions at a tick's start, answered so that each slot comes to its way; then the turns: the joined walk.
use Rattle.std.proofs.Common.{◌≡◌, ◌⊎◌, ◌≤◌, ◌+◌, ◌++◌, ℕ, zero, suc, Bool, true, false, not, ◌&&◌, ◌||◌, if◌then◌else◌, List, [], ◌∷◌, is_some, Option, Some, None, option_map, refl, sym, ap, ◌∙◌, subst, ⊎_elim, arith}
use Rattle.std.proofs.lemmas.Bool.{false≢true}
use Rattle.std.proofs.lemmas.Option.{none-some, same_Some}
use Rattle.mb_isa.specs.Costs.{IsCosts}
use Rattle.mb_pfu.specs.declared.parts.Watch.{Watch}
use Rattle.mb_pfu.specs.Rows.{with_last, answered, or_else, due, first_due, reported_test}
use Rattle.mb_pfu.specs.Tree.{Running, Pausing, Finished, Tree, Group, Leaf, Waits, no_more, member, has_ready, any_ready, has_ended, all_ended, each_member, wakes, all_woken, report, reported_watches, watches_of, next_test, is_in}
use Rattle.mb_pfu.specs.Tree as tree
use Rattle.mb_pfu.specs.Unit.{State, entry_of}
use Rattle.mb_pfu.proofs.Firsts.{report-numbered}
use Rattle.pt_image.specs.declared.Parts.{Parts}
use Rattle.tk_cert.specs.declared.cert.CertParts.{CertParts}
use Rattle.mb_isa.specs.Control.{Control, Resting, Condition, goes, turns_on, tests_from, tests_on}
use Rattle.mb_isa.specs.Control as control
use Rattle.tk_paths.specs.declared.view.Side.{Side}
use Rattle.tk_paths.specs.declared.view.Side.TheVariants.{ToPause, ToEnd}
use Rattle.tk_paths.proofs.SlotFacts.{Judged, Cut, Kept, behind_one, judged, judged_tree, first_cond, next_cond, next_cond_among, if_some, test_answered, test_answered_among}
use Rattle.tk_paths.proofs.Inner.{Image, IsSound}
use Rattle.tk_paths.proofs.Conditions.{Cert, IsAccepted}
use Rattle.tk_paths.proofs.Carried.{image_of, cert_of}
use Rattle.tk_paths.proofs.Accepts.{Accepts}
use Rattle.tk_paths.proofs.Controls.{sums}
use Rattle.tk_paths.proofs.Tests.{when_due, IsTesting, AreTesting, undue, nothing-due, answers, wakes-right}
use Rattle.tk_paths.proofs.Begins.{next-cond-line}
use Rattle.tk_paths.proofs.Whole.{sound-each, sound-answered}
use Rattle.tk_paths.proofs.Tested.{due-next, alike}
use Rattle.tk_paths.proofs.Turns.{once-of, cond_in, cond-report}
use Rattle.tk_paths.specs.Passages.{Leads, Asked}
use Rattle.tk_paths.specs.Reached.{both_sides}
use Rattle.tk_paths.specs.Tight.{IsTight}
use Rattle.tk_paths.proofs.Opens.{at-cond}
use Rattle.tk_paths.proofs.Ways.{Way, Afterwards}
use Rattle.tk_paths.proofs.Exacts.{when, WVal, WGVal}
use Rattle.tk_paths.proofs.Moves.{joined-leads, costing}
use Rattle.tk_paths.proofs.Walks.{IsFlat, turns-standing, Walked, walks}

mapped : {X : Type 0} (f : X → ℕ) (o : Option X) (c : ℕ) → Some c ≡ option_map f o → (x : X) × (o ≡ Some x) × (c ≡ f x)
mapped f None c h = absurd (none-some c (sym h))
mapped f (Some x) c h = (x, refl, same_Some c (f x) h)

mapped-none : {X : Type 0} (f : X → ℕ) (o : Option X) → None ≡ option_map f o → o ≡ None
mapped-none f None h = refl
mapped-none f (Some x) h = absurd (none-some (f x) h)

module _ (image : Parts) (cert : CertParts) (costs : List ℕ) where
  abbrev E : Image
  E = image_of image costs

  abbrev D : Cert
  D = cert_of image cert costs

  -- the conditions that are due are answered; those before are
  abbrev pub Answering : List Watch → List Watch → (List Watch → Side → ℕ → Type 0) → Side → ℕ → Type 0
  Answering before [] inner side n = inner before side n
  Answering before (l ∷ ws) inner side n =
      when_due l.due
      ((m : ℕ) × (n ≡ D.value l.entry.cond + m)
      × (((l.entry.weak ≡ false) × Way image cert costs before l.entry.handler side m) ⊎ ((fired : Bool) × (fired && not l.entry.weak ≡ false) × Answering (with_last (answered fired l) before) ws inner side m)))
      (Answering (with_last l before) ws inner side n)

  abbrev mutual
    pub TWVal : Tree → Side → ℕ → Type 0
    TWVal (Leaf ws (Running place)) side n = Way image cert costs ws place side n
    TWVal (Leaf ws (Pausing place)) side n = Answering [] ws (λ w x m. Way image cert costs w (place + 1) x m) side n
    TWVal (Leaf ws Finished) side n = (side ≡ ToEnd) × (n ≡ 0)
    TWVal (Waits ws at lo group) side n = Answering [] ws (λ w x m. (y : Side) × (g r : ℕ) × TWGVal group y g × Afterwards image cert costs w at y x r × (m ≡ g + r)) side n

    pub TWGVal : Group → Side → ℕ → Type 0
    TWGVal no_more side n = (side ≡ ToEnd) × (n ≡ 0)
    TWGVal (member t ts) side n = (x y : Side) × (p q : ℕ) × TWVal t x p × TWGVal ts y q × (side ≡ both_sides x y) × (n ≡ p + q)

  abbrev IsAnswer : List Watch → (List Watch → Side → ℕ → Type 0) → Side → ℕ → Judged → Type 0
  IsAnswer before inner side m (Kept ws) = Answering before ws inner side m
  IsAnswer before inner side m (Cut left handler) = Way image cert costs (before ++ left) handler side m

  append-nil : (ws : List Watch) → ws ++ [] ≡ ws
  append-nil [] = refl
  append-nil (l ∷ ws) = ap (λ w. l ∷ w) (append-nil ws)

  append-last : (before ws : List Watch) (l : Watch) → with_last l before ++ ws ≡ before ++ l ∷ ws
  append-last [] ws l = refl
  append-last (k ∷ before) ws l = ap (λ w. k ∷ w) (append-last before ws l)

  abbrev Found : List Watch → List Watch → (List Watch → Side → ℕ → Type 0) → Side → ℕ → ℕ → Type 0
  Found before ws inner side n c = (fired : Bool) × (m : ℕ) × IsAnswer before inner side m (judged fired ws) × (n ≡ D.value c + m)

  -- the first condition that is due
  judges-way : (before ws : List Watch) (inner : List Watch → Side → ℕ → Type 0) (side : Side) (n c : ℕ) → first_cond ws ≡ Some c → Answering before ws inner side n → Found before ws inner side n c
  judges-way before [] inner side n c e v = absurd (none-some c e)
  judges-way before (l ∷ ws) inner side n c e v = by l.due refl e v (λ f w. judges-way (with_last l before) ws inner side n c f w)
    where
      by : (d : Bool) → l.due ≡ d → (if d then Some l.entry.cond else first_cond ws) ≡ Some c →
          when_due d ((m : ℕ) × (n ≡ D.value l.entry.cond + m)
          × (((l.entry.weak ≡ false) × Way image cert costs before l.entry.handler side m) ⊎ ((fired : Bool) × (fired && not l.entry.weak ≡ false) × Answering (with_last (answered fired l) before) ws inner side m)))
          (Answering (with_last l before) ws inner side n) →
          (first_cond ws ≡ Some c → Answering (with_last l before) ws inner side n → Found (with_last l before) ws inner side n c) →
          (fired : Bool) × (m : ℕ) × IsAnswer before inner side m (if d then (if fired && not l.entry.weak then Cut [] l.entry.handler else Kept (answered fired l ∷ ws)) else behind_one l (judged fired ws)) × (n ≡ D.value c + m)
      by true d f w ih =
          let same : l.entry.cond ≡ c = same_Some l.entry.cond c f in
          let sum : n ≡ D.value c + w.0 = w.1 ∙ ap (λ x. D.value x + w.0) same in
          ⊎_elim
          (λ s.
          let A : Bool → Type 0 = λ b. IsAnswer before inner side w.0 (if true && not b then Cut [] l.entry.handler else Kept (answered true l ∷ ws)) in
          let W : List Watch → Type 0 = λ x. Way image cert costs x l.entry.handler side w.0 in
          (true, w.0, subst A (sym s.0) (subst W (sym (append-nil before)) s.1), sum))
          (λ s.
          let A : Bool → Type 0 = λ b. IsAnswer before inner side w.0 (if b then Cut [] l.entry.handler else Kept (answered s.0 l ∷ ws)) in
          (s.0, w.0, subst A (sym s.1) s.2, sum))
          w.2
      by false d f w ih = let r = ih f w in (r.0, r.1, behind r.1 (judged r.0 ws) r.2, r.3)
        where
          behind : (m : ℕ) (j : Judged) → IsAnswer (with_last l before) inner side m j → IsAnswer before inner side m (behind_one l j)
          behind m (Kept ws') a =
              let A : Bool → Type 0 = λ b. when_due b ((q : ℕ) × (m ≡ D.value l.entry.cond + q)
              × (((l.entry.weak ≡ false) × Way image cert costs before l.entry.handler side q) ⊎ ((fired : Bool) × (fired && not l.entry.weak ≡ false) × Answering (with_last (answered fired l) before) ws' inner side q)))
              (Answering (with_last l before) ws' inner side m) in
              subst A (sym d) a
          behind m (Cut left handler) a = let W : List Watch → Type 0 = λ x. Way image cert costs x handler side m in subst W (append-last before left l) a

  -- where none is due
  judged-out : (before ws : List Watch) (inner : List Watch → Side → ℕ → Type 0) (side : Side) (n : ℕ) → first_cond ws ≡ None → Answering before ws inner side n → inner (before ++ ws) side n
  judged-out before [] inner side n e v = let I : List Watch → Type 0 = λ w. inner w side n in subst I (sym (append-nil before)) v
  judged-out before (l ∷ ws) inner side n e v = by l.due e v (λ f w. judged-out (with_last l before) ws inner side n f w)
    where
      by : (d : Bool) → (if d then Some l.entry.cond else first_cond ws) ≡ None →
          when_due d ((m : ℕ) × (n ≡ D.value l.entry.cond + m)
          × (((l.entry.weak ≡ false) × Way image cert costs before l.entry.handler side m) ⊎ ((fired : Bool) × (fired && not l.entry.weak ≡ false) × Answering (with_last (answered fired l) before) ws inner side m)))
          (Answering (with_last l before) ws inner side n) →
          (first_cond ws ≡ None → Answering (with_last l before) ws inner side n → inner (with_last l before ++ ws) side n) → inner (before ++ l ∷ ws) side n
      by true f w ih = absurd (none-some l.entry.cond (sym f))
      by false f w ih = let I : List Watch → Type 0 = λ x. inner x side n in subst I (append-last before ws l) (ih f w)

  judged-in : (before ws : List Watch) (inner : List Watch → Side → ℕ → Type 0) (side : Side) (n : ℕ) → first_cond ws ≡ None → inner (before ++ ws) side n → Answering before ws inner side n
  judged-in before [] inner side n e v = let I : List Watch → Type 0 = λ w. inner w side n in subst I (append-nil before) v
  judged-in before (l ∷ ws) inner side n e v =
      by l.due e (λ f. judged-in (with_last l before) ws inner side n f (let I : List Watch → Type 0 = λ x. inner x side n in subst I (sym (append-last before ws l)) v))
    where
      by : (d : Bool) → (if d then Some l.entry.cond else first_cond ws) ≡ None → (first_cond ws ≡ None → Answering (with_last l before) ws inner side n) →
          when_due d ((m : ℕ) × (n ≡ D.value l.entry.cond + m)
          × (((l.entry.weak ≡ false) × Way image cert costs before l.entry.handler side m) ⊎ ((fired : Bool) × (fired && not l.entry.weak ≡ false) × Answering (with_last (answered fired l) before) ws inner side m)))
          (Answering (with_last l before) ws inner side n)
      by true f ih = absurd (none-some l.entry.cond (sym f))
      by false f ih = ih f

  abbrev Answered : Tree → Side → ℕ → ℕ → Type 0
  Answered t side n c = (fired : Bool) × (m : ℕ) × TWVal (test_answered fired t) side m × (n ≡ D.value c + m)

  abbrev Answered_among : Group → Side → ℕ → ℕ → Type 0
  Answered_among ts side n c = (fired : Bool) × (m : ℕ) × TWGVal (test_answered_among fired ts) side m × (n ≡ D.value c + m)

  pause-answer : (place : ℕ) (side : Side) (m : ℕ) (j : Judged) → IsAnswer [] (λ w x i. Way image cert costs w (place + 1) x i) side m j → TWVal (judged_tree (λ w. Leaf w (Pausing place)) j) side m
  pause-answer place side m (Kept ws) a = a
  pause-answer place side m (Cut left handler) a = a

  fork-answer : (at lo : ℕ) (group : Group) (side : Side) (m : ℕ) (j : Judged) → IsAnswer [] (λ w x i. (y : Side) × (g r : ℕ) × TWGVal group y g × Afterwards image cert costs w at y x r × (i ≡ g + r)) side m j → TWVal (judged_tree (λ w. Waits w at lo group) j) side m
  fork-answer at lo group side m (Kept ws) a = a
  fork-answer at lo group side m (Cut left handler) a = a

  module _ (ok : Accepts image cert costs) where
    abbrev acc : IsAccepted E D
    acc = sums image cert costs ok

    mutual
      answers-way : (s : ℕ) (t : Tree) (side : Side) (n c : ℕ) → IsTesting E D s t → next_cond t ≡ Some c → TWVal t side n → Answered t side n c
      answers-way s (Leaf ws (Running place)) side n c l e v = absurd (none-some c (sym (undue E D ws l.2) ∙ e))
      answers-way s (Leaf ws (Pausing place)) side n c l e v =
          let r = judges-way [] ws (λ w x i. Way image cert costs w (place + 1) x i) side n c e v in
          (r.0, r.1, pause-answer place side r.1 (judged r.0 ws) r.2, r.3)
      answers-way s (Leaf ws Finished) side n c l e v = absurd (nothing-due E D acc ws c l e)
      answers-way s (Waits ws at lo group) side n c l e v = by (first_cond ws) refl e (λ f y g w. answers-among-way lo group y g c l.4 f w)
        where
          inner : Group → List Watch → Side → ℕ → Type 0
          inner ts w x i = (y : Side) × (g r : ℕ) × TWGVal ts y g × Afterwards image cert costs w at y x r × (i ≡ g + r)

          by : (o : Option ℕ) → first_cond ws ≡ o → or_else o (next_cond_among group) ≡ Some c → (next_cond_among group ≡ Some c → (y : Side) (g : ℕ) → TWGVal group y g → Answered_among group y g c) →
              (fired : Bool) × (m : ℕ) × TWVal (if_some o (judged_tree (λ w. Waits w at lo group) (judged fired ws)) (Waits ws at lo (test_answered_among fired group))) side m × (n ≡ D.value c + m)
          by None o f ih =
              let w = judged-out [] ws (λ w x i. (y : Side) × (g r : ℕ) × TWGVal group y g × Afterwards image cert costs w at y x r × (i ≡ g + r)) side n o v in
              let r = ih f w.0 w.1 w.3 in (
                r.0,
                r.1 + w.2,
                judged-in [] ws (λ u x i. (y : Side) × (g r' : ℕ) × TWGVal (test_answered_among r.0 group) y g × Afterwards image cert costs u at y x r' × (i ≡ g + r')) side (r.1 + w.2) o (w.0, r.1, w.2, r.2, w.4, refl),
                (let a = w.5 in let b = r.3 in omega (arith, a, b)),
              )
          by (Some d) o f ih =
              let r = judges-way [] ws (λ w x i. (y : Side) × (g r : ℕ) × TWGVal group y g × Afterwards image cert costs w at y x r × (i ≡ g + r)) side n c (o ∙ f) v in
              (r.0, r.1, fork-answer at lo group side r.1 (judged r.0 ws) r.2, r.3)

      answers-among-way : (k : ℕ) (ts : Group) (side : Side) (n c : ℕ) → AreTesting E D k ts → next_cond_among ts ≡ Some c → TWGVal ts side n → Answered_among ts side n c
      answers-among-way k no_more side n c l e v = absurd (none-some c e)
      answers-among-way k (member t ts) side n c l e v = by (next_cond t) refl e (λ f. answers-way k t v.0 v.2 c l.0 f v.4) (λ f. answers-among-way (k + 1) ts v.1 v.3 c l.1 f v.5)
        where
          by : (o : Option ℕ) → next_cond t ≡ o → or_else o (next_cond_among ts) ≡ Some c → (next_cond t ≡ Some c → Answered t v.0 v.2 c) → (next_cond_among ts ≡ Some c → Answered_among ts v.1 v.3 c) →
              (fired : Bool) × (m : ℕ) × TWGVal (if_some o (member (test_answered fired t) ts) (member t (test_answered_among fired ts))) side m × (n ≡ D.value c + m)
          by None o f here later = let r = later f in (r.0, v.2 + r.1, (v.0, v.1, v.2, r.1, v.4, r.2, v.6, refl), (let a = v.7 in let b = r.3 in omega (arith, a, b)))
          by (Some d) o f here later = let r = here (o ∙ f) in (r.0, r.1 + v.3, (v.0, v.1, r.1, v.3, r.2, v.5, v.6, refl), (let a = v.7 in let b = r.3 in omega (arith, a, b)))

    or-true : (a b : Bool) → b ≡ true → a || b ≡ true
    or-true true b h = refl
    or-true false b h = h

    -- a slot that hasn't ended is ready, or a slot of its group is
    mutual
      woken-ready : (s : ℕ) (t : Tree) → IsTesting E D s t → has_ended t ≡ false → has_ready (all_woken t) ≡ true
      woken-ready s (Leaf ws (Running place)) l h = refl
      woken-ready s (Leaf ws (Pausing place)) l h = refl
      woken-ready s (Leaf ws Finished) l h = absurd (false≢true (sym h))
      woken-ready s (Waits ws at lo group) l h = woken-ready-among lo group l.4 l.3

      woken-ready-among : (k : ℕ) (ts : Group) → AreTesting E D k ts → all_ended ts ≡ false → any_ready (each_member (λ w. w) wakes ts) ≡ true
      woken-ready-among k no_more l h = absurd (false≢true (sym h))
      woken-ready-among k (member t ts) l h = by (has_ended t) refl h (λ e. woken-ready k t l.0 e) (λ e. woken-ready-among (k + 1) ts l.1 e)
        where
          by : (b : Bool) → has_ended t ≡ b → b && all_ended ts ≡ false → (has_ended t ≡ false → has_ready (all_woken t) ≡ true) → (all_ended ts ≡ false → any_ready (each_member (λ w. w) wakes ts) ≡ true) →
              has_ready (all_woken t) || any_ready (each_member (λ w. w) wakes ts) ≡ true
          by true e f first ih = or-true (has_ready (all_woken t)) (any_ready (each_member (λ w. w) wakes ts)) (ih f)
          by false e f first ih = ap (λ x. x || any_ready (each_member (λ w. w) wakes ts)) (first e)

    or-none : (a b : Option ℕ) → or_else a b ≡ None → (a ≡ None) × (b ≡ None)
    or-none None b h = (refl, h)
    or-none (Some x) b h = absurd (none-some x (sym h))

    mutual
      woken-way : (s : ℕ) (t : Tree) (side : Side) (n : ℕ) → IsTesting E D s t → next_cond t ≡ None → TWVal t side n → WVal image cert costs (all_woken t) side n
      woken-way s (Leaf ws (Running place)) side n l e v = v
      woken-way s (Leaf ws (Pausing place)) side n l e v = judged-out [] ws (λ w x i. Way image cert costs w (place + 1) x i) side n e v
      woken-way s (Leaf ws Finished) side n l e v = v
      woken-way s (Waits ws at lo group) side n l e v =
          let o = or-none (first_cond ws) (next_cond_among group) e in
          let w = judged-out [] ws (λ w x i. (y : Side) × (g r : ℕ) × TWGVal group y g × Afterwards image cert costs w at y x r × (i ≡ g + r)) side n o.0 v in
          let woken = each_member (λ u. u) wakes group in
          let W : Bool → Type 0 = λ b. when b ((y : Side) × (g r : ℕ) × WGVal image cert costs woken y g × Afterwards image cert costs ws at y side r × (n ≡ g + r)) ((side ≡ ToPause) × (n ≡ 0)) in
          subst W (sym (woken-ready-among lo group l.4 l.3)) (w.0, w.1, w.2, woken-ways lo group w.0 w.1 l.4 o.1 w.3, w.4, w.5)

      woken-ways : (k : ℕ) (ts : Group) (side : Side) (n : ℕ) → AreTesting E D k ts → next_cond_among ts ≡ None → TWGVal ts side n → WGVal image cert costs (each_member (λ u. u) wakes ts) side n
      woken-ways k no_more side n l e v = v
      woken-ways k (member t ts) side n l e v =
          let o = or-none (next_cond t) (next_cond_among ts) e in
          (v.0, v.1, v.2, v.3, woken-way k t v.0 v.2 l.0 o.0 v.4, woken-ways (k + 1) ts v.1 v.3 l.1 o.1 v.5, v.6, v.7)

    module _ (priced : IsCosts costs) (tight : IsTight image cert costs) where
      -- where no condition is due, the turns are walked
      woken-walked : (u : State) (side : Side) (n : ℕ) → IsFlat image cert costs u → IsTesting E D 0 u.tree → IsSound E u.tree → next_cond u.tree ≡ None → TWVal u.tree side n → Walked image cert costs ok priced (tests_on u) n
      woken-walked u side n flat testing sound e v =
          let r : report due 0 u.tree ≡ None = mapped-none cond_in (report due 0 u.tree) (sym e ∙ cond-report 0 u.tree) in
          let same : tests_on u ≡ turns_on (control.wakes u) = ap (tests_from u) (ap reported_test r) in
          let sound' : IsSound E (all_woken u.tree) = sound-each E (λ w. w) wakes u.tree sound in
          let W : Control → Type 0 = λ c. Walked image cert costs ok priced c n in
          subst W (sym same)
          (walks image cert costs ok priced n n (omega arith) (turns_on (control.wakes u)) (all_woken u.tree) side (turns-standing image cert costs (control.wakes u) flat sound')
          ((wakes-right E D acc 0 u.tree testing).0, sound') (woken-way 0 u.tree side n testing e v))

      -- one condition
      pub record Tested_on (u : State) (side : Side) (n c : ℕ) : Type 0 where
        pub fired : Bool
        pub left : ℕ
        pub asked : Asked image costs c (D.value c)
        pub leads : Leads image costs (tests_on u) (asked.choices ++ fired ∷ []) (D.value c) (tests_on (control.answered fired u))
        pub sum : n ≡ D.value c + left
        pub testing : IsTesting E D 0 (tree.test_answered fired u.tree)
        pub sound : IsSound E (tree.test_answered fired u.tree)
        pub value_is : TWVal (tree.test_answered fired u.tree) side left

      tests-on : (u : State) (side : Side) (n c : ℕ) → IsTesting E D 0 u.tree → IsSound E u.tree → next_cond u.tree ≡ Some c → TWVal u.tree side n → Tested_on u side n c
      tests-on u side n c testing sound e v =
          let m = mapped cond_in (report due 0 u.tree) c (sym e ∙ cond-report 0 u.tree) in
          let x = m.0 in
          let w : watches_of x.0 u.tree ≡ x.2 = ap reported_watches (report-numbered due 0 u.tree x (once-of E u.tree sound) m.1) in
          let at : (entry_of (watches_of x.0 u.tree) (first_due x.2)).cond ≡ c = ap (λ (v' : List Watch). (entry_of v' (first_due x.2)).cond) w ∙ sym m.2 in
          let same : tests_on u ≡ goes Condition c u = ap (λ o. tests_from u (reported_test o)) m.1 ∙ ap (λ p. goes Condition p u) at in
          let r = answers-way 0 u.tree side n c testing e v in
          let line = next-cond-line E D acc 0 u.tree c testing e in
          let q = tight.asked c (at-cond image cert costs c line) line.1 in
          let has : is_in due 0 u.tree ≡ true = due-next 0 u.tree ∙ ap is_some e in
          let alike' : tree.test_answered r.0 u.tree ≡ test_answered r.0 u.tree = alike r.0 0 u.tree has in
          let L : Control → Type 0 = λ k. Leads image costs k (q.choices ++ r.0 ∷ []) (D.value c) (tests_on (control.answered r.0 u)) in
          record {
            fired = r.0;
            left = r.1;
            asked = q;
            leads = subst L (sym same) (q.leads r.0 u);
            sum = r.3;
            testing = subst (IsTesting E D 0) (sym alike') (answers E D acc 0 u.tree c r.0 testing e).testing;
            sound = subst (IsSound E) (sym alike') (sound-answered E r.0 u.tree sound);
            value_is = (let V : Tree → Type 0 = λ t. TWVal t side r.1 in subst V (sym alike') r.2);
          }

      then-on : (u : State) (side : Side) (n c : ℕ) (x : Tested_on u side n c) → Walked image cert costs ok priced (tests_on (control.answered x.fired u)) x.left → Walked image cert costs ok priced (tests_on u) n
      then-on u side n c x w =
          let ch = x.asked.choices ++ x.fired ∷ [] in
          record {
            choices = ch ++ w.choices;
            last = w.last;
            over = w.over;
            leads = costing image costs (tests_on u) w.last (ch ++ w.choices) (D.value c + x.left) n (sym x.sum)
                (joined-leads image costs (tests_on u) (tests_on (control.answered x.fired u)) w.last ch w.choices (D.value c) x.left x.leads w.leads);
          }

      -- the joined walk: the conditions' choices in depth-first order, then the turns'
      pub joined-walk : (fuel n : ℕ) → n ≤ fuel → (u : State) (side : Side) → IsFlat image cert costs u → IsTesting E D 0 u.tree → IsSound E u.tree → TWVal u.tree side n → Walked image cert costs ok priced (tests_on u) n
      joined-walk zero n f u side flat testing sound v = by (next_cond u.tree) refl
        where
          by : (o : Option ℕ) → next_cond u.tree ≡ o → Walked image cert costs ok priced (tests_on u) n
          by None e = woken-walked u side n flat testing sound e v
          by (Some c) e = let x = tests-on u side n c testing sound e v in absurd (let a = x.asked.costs_one in let b = x.sum in omega (arith, a, b, f))
      joined-walk (suc fuel) n f u side flat testing sound v = by (next_cond u.tree) refl
          (λ c x. joined-walk fuel x.left (let a = x.asked.costs_one in let b = x.sum in omega (arith, a, b, f)) (control.answered x.fired u) side flat x.testing x.sound x.value_is)
        where
          by : (o : Option ℕ) → next_cond u.tree ≡ o → ((c : ℕ) (x : Tested_on u side n c) → Walked image cert costs ok priced (tests_on (control.answered x.fired u)) x.left) → Walked image cert costs ok priced (tests_on u) n
          by None e more = woken-walked u side n flat testing sound e v
          by (Some c) e more = let x = tests-on u side n c testing sound e v in then-on u side n c x (more c x)

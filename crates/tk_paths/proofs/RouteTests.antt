-- The conditions at a tick's start, answered as is said, so that each slot comes to its route; then the turns: the joined walk.
use Rattle.std.proofs.Common.{◌≡◌, ◌⊎◌, ◌≤◌, ◌+◌, ◌++◌, ℕ, zero, suc, Bool, true, false, not, ◌&&◌, ◌||◌, if◌then◌else◌, List, [], ◌∷◌, length, is_some, Option, Some, None, option_map, refl, sym, ap, ◌∙◌, subst, ⊎_elim, arith}
use Rattle.std.proofs.lemmas.Bool.{false≢true}
use Rattle.std.proofs.lemmas.Option.{none-some, same_Some}
use Rattle.mb_isa.specs.Costs.{IsCosts}
use Rattle.mb_pfu.specs.declared.parts.Watch.{Watch}
use Rattle.mb_pfu.specs.Rows.{with_last, answered, or_else, due, first_due, reported_test}
use Rattle.mb_pfu.specs.Tree.{Running, Pausing, Finished, Tree, Group, Leaf, Waits, no_more, member, has_ready, any_ready, has_ended, all_ended, each_member, wakes, all_woken, report, reported_watches, watches_of, next_test, is_in}
use Rattle.mb_pfu.specs.Tree as tree
use Rattle.mb_pfu.specs.Unit.{State, entry_of}
use Rattle.mb_pfu.proofs.Firsts.{report-numbered}
use Rattle.pt_image.specs.declared.Parts.{Parts}
use Rattle.tk_cert.specs.declared.cert.CertParts.{CertParts}
use Rattle.mb_isa.specs.Control.{Control, Resting, Condition, goes, turns_on, tests_from, tests_on}
use Rattle.mb_isa.specs.Control as control
use Rattle.tk_paths.specs.Kinds.{line_at, is_cond, upper_at}
use Rattle.tk_paths.specs.declared.view.Side.{Side}
use Rattle.tk_paths.specs.declared.view.Side.TheVariants.{ToPause, ToEnd}
use Rattle.tk_paths.proofs.SlotFacts.{Judged, Cut, Kept, behind_one, judged, judged_tree, first_cond, next_cond, next_cond_among, if_some, test_answered, test_answered_among}
use Rattle.tk_paths.proofs.Inner.{Image, IsSound}
use Rattle.tk_paths.proofs.Conditions.{Cert, IsAccepted}
use Rattle.tk_paths.proofs.Carried.{image_of, cert_of}
use Rattle.tk_paths.proofs.Accepts.{Accepts}
use Rattle.tk_paths.proofs.Controls.{sums}
use Rattle.tk_paths.proofs.Tests.{when_due, IsTesting, AreTesting, undue, nothing-due, answers, wakes-right}
use Rattle.tk_paths.proofs.Begins.{next-cond-line}
use Rattle.tk_paths.proofs.Whole.{sound-each, sound-answered}
use Rattle.tk_paths.proofs.Tested.{due-next, alike}
use Rattle.tk_paths.proofs.Turns.{once-of, cond_in, cond-report}
use Rattle.tk_paths.specs.Passages.{Leads}
use Rattle.tk_paths.specs.Reached.{both_sides}
use Rattle.tk_paths.proofs.Opens.{at-cond}
use Rattle.tk_paths.proofs.Routes.{Route, Afterwards}
use Rattle.tk_paths.proofs.RouteValues.{when, none-both, none-first, WVal, Going, WGVal}
use Rattle.tk_paths.proofs.Moves.{joined-leads, costing}
use Rattle.tk_paths.proofs.RouteWalks.{IsFlat, turns-standing, Walked, walks}

mapped : {X : Type 0} (f : X → ℕ) (o : Option X) (c : ℕ) → Some c ≡ option_map f o → (x : X) × (o ≡ Some x) × (c ≡ f x)
mapped f None c h = absurd (none-some c (sym h))
mapped f (Some x) c h = (x, refl, same_Some c (f x) h)

mapped-none : {X : Type 0} (f : X → ℕ) (o : Option X) → None ≡ option_map f o → o ≡ None
mapped-none f None h = refl
mapped-none f (Some x) h = absurd (none-some (f x) h)

-- what a slot, a group or a tree comes to: a side, a cost, the answers of its conditions and the choices of its turns
abbrev pub Tested : Type 1
Tested = Side → ℕ → List Bool → List Bool → Type 0

-- a condition of straight code comes to its end with either answer
pub record IsAsked (image : Parts) (costs : List ℕ) (from cost : ℕ) : Type 0 where
  pub costs_one : 1 ≤ cost
  pub leads : (holds : Bool) (u : State) → Leads image costs (goes Condition from u) (holds ∷ []) cost (tests_on (control.answered holds u))

module _ (image : Parts) (cert : CertParts) (costs : List ℕ) where
  abbrev E : Image
  E = image_of image costs

  abbrev D : Cert
  D = cert_of image cert costs

  -- the conditions that are due are answered; those before are
  abbrev pub Answering : List Watch → List Watch → (List Watch → Tested) → Tested
  Answering before [] inner side n d z = inner before side n d z
  Answering before (l ∷ ws) inner side n d z =
      when_due l.due
      ((m : ℕ) × (n ≡ D.value l.entry.cond + m)
      × (((l.entry.weak ≡ false) × (d ≡ true ∷ []) × Route image cert costs before l.entry.handler side m z)
      ⊎ ((fired : Bool) × (e : List Bool) × (fired && not l.entry.weak ≡ false) × (d ≡ fired ∷ e) × Answering (with_last (answered fired l) before) ws inner side m e z)))
      (Answering (with_last l before) ws inner side n d z)

  -- a group that is resumed, and what comes after it
  abbrev pub GroupedBy : Tested → ℕ → List Watch → Tested
  GroupedBy V at w side n d z = (y : Side) × (g r : ℕ) × (a b : List Bool) × V y g d a × Afterwards image cert costs w at y side r b × (n ≡ g + r) × (z ≡ a ++ b)

  abbrev mutual
    pub TWVal : Tree → Tested
    TWVal (Leaf ws (Running place)) side n d z = (d ≡ []) × Route image cert costs ws place side n z
    TWVal (Leaf ws (Pausing place)) side n d z = Answering [] ws (λ w x m e y. (e ≡ []) × Route image cert costs w (place + 1) x m y) side n d z
    TWVal (Leaf ws Finished) side n d z = (side ≡ ToEnd) × (n ≡ 0) × (d ≡ []) × (z ≡ [])
    TWVal (Waits ws at lo group) side n d z = Answering [] ws (λ w x m e y. GroupedBy (TWGVal group) at w x m e y) side n d z

    pub TWGVal : Group → Tested
    TWGVal no_more side n d z = (side ≡ ToEnd) × (n ≡ 0) × (d ≡ []) × (z ≡ [])
    TWGVal (member t ts) side n d z =
        (x y : Side) × (p q : ℕ) × (d1 d2 z1 z2 : List Bool) × TWVal t x p d1 z1 × TWGVal ts y q d2 z2 × (side ≡ both_sides x y) × (n ≡ p + q) × (d ≡ d1 ++ d2) × (z ≡ z1 ++ z2)

  abbrev pub Grouped : Group → ℕ → List Watch → Tested
  Grouped group at = GroupedBy (TWGVal group) at

  abbrev paused_inner : ℕ → List Watch → Tested
  paused_inner place w x m e y = (e ≡ []) × Route image cert costs w (place + 1) x m y

  abbrev grouped_inner : Group → ℕ → List Watch → Tested
  grouped_inner group at w x m e y = Grouped group at w x m e y

  abbrev Due : List Watch → Watch → List Watch → (List Watch → Tested) → Tested
  Due before l ws inner side n d z =
      (m : ℕ) × (n ≡ D.value l.entry.cond + m)
      × (((l.entry.weak ≡ false) × (d ≡ true ∷ []) × Route image cert costs before l.entry.handler side m z)
      ⊎ ((fired : Bool) × (e : List Bool) × (fired && not l.entry.weak ≡ false) × (d ≡ fired ∷ e) × Answering (with_last (answered fired l) before) ws inner side m e z))

  -- after an answer; behind a strong abort that fired nothing more is asked
  abbrev IsAnswer : List Watch → (List Watch → Tested) → Side → ℕ → List Bool → List Bool → Judged → Type 0
  IsAnswer before inner side m d z (Kept ws) = Answering before ws inner side m d z
  IsAnswer before inner side m d z (Cut left handler) = (d ≡ []) × Route image cert costs (before ++ left) handler side m z

  append-nil : (ws : List Watch) → ws ++ [] ≡ ws
  append-nil [] = refl
  append-nil (l ∷ ws) = ap (λ w. l ∷ w) (append-nil ws)

  append-last : (before ws : List Watch) (l : Watch) → with_last l before ++ ws ≡ before ++ l ∷ ws
  append-last [] ws l = refl
  append-last (k ∷ before) ws l = ap (λ w. k ∷ w) (append-last before ws l)

  abbrev Found : List Watch → List Watch → (List Watch → Tested) → Side → ℕ → List Bool → List Bool → ℕ → Type 0
  Found before ws inner side n d z c = (fired : Bool) × (m : ℕ) × (e : List Bool) × IsAnswer before inner side m e z (judged fired ws) × (n ≡ D.value c + m) × (d ≡ fired ∷ e)

  -- the first condition that is due
  judges-way : (before ws : List Watch) (inner : List Watch → Tested) (side : Side) (n : ℕ) (d z : List Bool) (c : ℕ) → first_cond ws ≡ Some c → Answering before ws inner side n d z → Found before ws inner side n d z c
  judges-way before [] inner side n d z c e v = absurd (none-some c e)
  judges-way before (l ∷ ws) inner side n d z c e v = by l.due refl e v (λ f w. judges-way (with_last l before) ws inner side n d z c f w)
    where
      by : (b : Bool) → l.due ≡ b → (if b then Some l.entry.cond else first_cond ws) ≡ Some c → when_due b (Due before l ws inner side n d z) (Answering (with_last l before) ws inner side n d z) →
          (first_cond ws ≡ Some c → Answering (with_last l before) ws inner side n d z → Found (with_last l before) ws inner side n d z c) →
          (fired : Bool) × (m : ℕ) × (e : List Bool) × IsAnswer before inner side m e z (if b then (if fired && not l.entry.weak then Cut [] l.entry.handler else Kept (answered fired l ∷ ws)) else behind_one l (judged fired ws)) × (n ≡ D.value c + m) × (d ≡ fired ∷ e)
      by true late f w ih =
          let same : l.entry.cond ≡ c = same_Some l.entry.cond c f in
          let sum : n ≡ D.value c + w.0 = w.1 ∙ ap (λ x. D.value x + w.0) same in
          ⊎_elim
          (λ s.
          let A : Bool → Type 0 = λ b. IsAnswer before inner side w.0 [] z (if true && not b then Cut [] l.entry.handler else Kept (answered true l ∷ ws)) in
          let W : List Watch → Type 0 = λ x. Route image cert costs x l.entry.handler side w.0 z in
          (true, w.0, [], subst A (sym s.0) (refl, subst W (sym (append-nil before)) s.2), sum, s.1))
          (λ s.
          let A : Bool → Type 0 = λ b. IsAnswer before inner side w.0 s.1 z (if b then Cut [] l.entry.handler else Kept (answered s.0 l ∷ ws)) in
          (s.0, w.0, s.1, subst A (sym s.2) s.4, sum, s.3))
          w.2
      by false late f w ih = let r = ih f w in (r.0, r.1, r.2, behind r.1 r.2 (judged r.0 ws) r.3, r.4, r.5)
        where
          behind : (m : ℕ) (e : List Bool) (j : Judged) → IsAnswer (with_last l before) inner side m e z j → IsAnswer before inner side m e z (behind_one l j)
          behind m e (Kept ws') a =
              let A : Bool → Type 0 = λ b. when_due b (Due before l ws' inner side m e z) (Answering (with_last l before) ws' inner side m e z) in
              subst A (sym late) a
          behind m e (Cut left handler) a = let W : List Watch → Type 0 = λ x. Route image cert costs x handler side m z in (a.0, subst W (append-last before left l) a.1)

  -- where none is due
  judged-out : (before ws : List Watch) (inner : List Watch → Tested) (side : Side) (n : ℕ) (d z : List Bool) → first_cond ws ≡ None → Answering before ws inner side n d z → inner (before ++ ws) side n d z
  judged-out before [] inner side n d z e v = let I : List Watch → Type 0 = λ w. inner w side n d z in subst I (sym (append-nil before)) v
  judged-out before (l ∷ ws) inner side n d z e v = by l.due e v (λ f w. judged-out (with_last l before) ws inner side n d z f w)
    where
      by : (b : Bool) → (if b then Some l.entry.cond else first_cond ws) ≡ None → when_due b (Due before l ws inner side n d z) (Answering (with_last l before) ws inner side n d z) →
          (first_cond ws ≡ None → Answering (with_last l before) ws inner side n d z → inner (with_last l before ++ ws) side n d z) → inner (before ++ l ∷ ws) side n d z
      by true f w ih = absurd (none-some l.entry.cond (sym f))
      by false f w ih = let I : List Watch → Type 0 = λ x. inner x side n d z in subst I (append-last before ws l) (ih f w)

  judged-in : (before ws : List Watch) (inner : List Watch → Tested) (side : Side) (n : ℕ) (d z : List Bool) → first_cond ws ≡ None → inner (before ++ ws) side n d z → Answering before ws inner side n d z
  judged-in before [] inner side n d z e v = let I : List Watch → Type 0 = λ w. inner w side n d z in subst I (append-nil before) v
  judged-in before (l ∷ ws) inner side n d z e v =
      by l.due e (λ f. judged-in (with_last l before) ws inner side n d z f (let I : List Watch → Type 0 = λ x. inner x side n d z in subst I (sym (append-last before ws l)) v))
    where
      by : (b : Bool) → (if b then Some l.entry.cond else first_cond ws) ≡ None → (first_cond ws ≡ None → Answering (with_last l before) ws inner side n d z) →
          when_due b (Due before l ws inner side n d z) (Answering (with_last l before) ws inner side n d z)
      by true f ih = absurd (none-some l.entry.cond (sym f))
      by false f ih = ih f

  abbrev Answered : Tree → Side → ℕ → List Bool → List Bool → ℕ → Type 0
  Answered t side n d z c = (fired : Bool) × (m : ℕ) × (e : List Bool) × TWVal (test_answered fired t) side m e z × (n ≡ D.value c + m) × (d ≡ fired ∷ e)

  abbrev Answered_among : Group → Side → ℕ → List Bool → List Bool → ℕ → Type 0
  Answered_among ts side n d z c = (fired : Bool) × (m : ℕ) × (e : List Bool) × TWGVal (test_answered_among fired ts) side m e z × (n ≡ D.value c + m) × (d ≡ fired ∷ e)

  pause-answer : (place : ℕ) (side : Side) (m : ℕ) (e z : List Bool) (j : Judged) → IsAnswer [] (paused_inner place) side m e z j → TWVal (judged_tree (λ w. Leaf w (Pausing place)) j) side m e z
  pause-answer place side m e z (Kept ws) a = a
  pause-answer place side m e z (Cut left handler) a = a

  fork-answer : (at lo : ℕ) (group : Group) (side : Side) (m : ℕ) (e z : List Bool) (j : Judged) → IsAnswer [] (grouped_inner group at) side m e z j → TWVal (judged_tree (λ w. Waits w at lo group) j) side m e z
  fork-answer at lo group side m e z (Kept ws) a = a
  fork-answer at lo group side m e z (Cut left handler) a = a

  or-none : (a b : Option ℕ) → or_else a b ≡ None → (a ≡ None) × (b ≡ None)
  or-none None b h = (refl, h)
  or-none (Some x) b h = absurd (none-some x (sym h))

  -- where no condition is due none is answered
  mutual
    unasked : (t : Tree) (side : Side) (n : ℕ) (d z : List Bool) → next_cond t ≡ None → TWVal t side n d z → d ≡ []
    unasked (Leaf ws (Running place)) side n d z e v = v.0
    unasked (Leaf ws (Pausing place)) side n d z e v = (judged-out [] ws (paused_inner place) side n d z e v).0
    unasked (Leaf ws Finished) side n d z e v = v.2
    unasked (Waits ws at lo group) side n d z e v =
        let o = or-none (first_cond ws) (next_cond_among group) e in
        let w = judged-out [] ws (grouped_inner group at) side n d z o.0 v in
        unasked-among group w.0 w.1 d w.3 o.1 w.5

    unasked-among : (ts : Group) (side : Side) (n : ℕ) (d z : List Bool) → next_cond_among ts ≡ None → TWGVal ts side n d z → d ≡ []
    unasked-among no_more side n d z e v = v.2
    unasked-among (member t ts) side n d z e v =
        let o = or-none (next_cond t) (next_cond_among ts) e in
        none-both d v.4 v.5 v.12 (unasked t v.0 v.2 v.4 v.6 o.0 v.8) (unasked-among ts v.1 v.3 v.5 v.7 o.1 v.9)

  module _ (ok : Accepts image cert costs) where
    abbrev acc : IsAccepted E D
    acc = sums image cert costs ok

    mutual
      answers-way : (s : ℕ) (t : Tree) (side : Side) (n : ℕ) (d z : List Bool) (c : ℕ) → IsTesting E D s t → next_cond t ≡ Some c → TWVal t side n d z → Answered t side n d z c
      answers-way s (Leaf ws (Running place)) side n d z c l e v = absurd (none-some c (sym (undue E D ws l.2) ∙ e))
      answers-way s (Leaf ws (Pausing place)) side n d z c l e v =
          let r = judges-way [] ws (paused_inner place) side n d z c e v in
          (r.0, r.1, r.2, pause-answer place side r.1 r.2 z (judged r.0 ws) r.3, r.4, r.5)
      answers-way s (Leaf ws Finished) side n d z c l e v = absurd (nothing-due E D acc ws c l e)
      answers-way s (Waits ws at lo group) side n d z c l e v = by (first_cond ws) refl e (λ f y g a w. answers-among-way lo group y g d a c l.4 f w)
        where
          by : (o : Option ℕ) → first_cond ws ≡ o → or_else o (next_cond_among group) ≡ Some c → (next_cond_among group ≡ Some c → (y : Side) (g : ℕ) (a : List Bool) → TWGVal group y g d a → Answered_among group y g d a c) →
              (fired : Bool) × (m : ℕ) × (e : List Bool) × TWVal (if_some o (judged_tree (λ w. Waits w at lo group) (judged fired ws)) (Waits ws at lo (test_answered_among fired group))) side m e z × (n ≡ D.value c + m) × (d ≡ fired ∷ e)
          by None o f ih =
              let w = judged-out [] ws (grouped_inner group at) side n d z o v in
              let r = ih f w.0 w.1 w.3 w.5 in (
                r.0,
                r.1 + w.2,
                r.2,
                judged-in [] ws (grouped_inner (test_answered_among r.0 group) at) side (r.1 + w.2) r.2 z o (w.0, r.1, w.2, w.3, w.4, r.3, w.6, refl, w.8),
                (let a = w.7 in let b = r.4 in omega (arith, a, b)),
                r.5,
              )
          by (Some k) o f ih =
              let r = judges-way [] ws (grouped_inner group at) side n d z c (o ∙ f) v in
              (r.0, r.1, r.2, fork-answer at lo group side r.1 r.2 z (judged r.0 ws) r.3, r.4, r.5)

      answers-among-way : (k : ℕ) (ts : Group) (side : Side) (n : ℕ) (d z : List Bool) (c : ℕ) → AreTesting E D k ts → next_cond_among ts ≡ Some c → TWGVal ts side n d z → Answered_among ts side n d z c
      answers-among-way k no_more side n d z c l e v = absurd (none-some c e)
      answers-among-way k (member t ts) side n d z c l e v = by (next_cond t) refl e (λ f. answers-way k t v.0 v.2 v.4 v.6 c l.0 f v.8) (λ f. answers-among-way (k + 1) ts v.1 v.3 v.5 v.7 c l.1 f v.9)
        where
          by : (o : Option ℕ) → next_cond t ≡ o → or_else o (next_cond_among ts) ≡ Some c → (next_cond t ≡ Some c → Answered t v.0 v.2 v.4 v.6 c) → (next_cond_among ts ≡ Some c → Answered_among ts v.1 v.3 v.5 v.7 c) →
              (fired : Bool) × (m : ℕ) × (e : List Bool) × TWGVal (if_some o (member (test_answered fired t) ts) (member t (test_answered_among fired ts))) side m e z × (n ≡ D.value c + m) × (d ≡ fired ∷ e)
          by None o f here later =
              let r = later f in
              let none = unasked t v.0 v.2 v.4 v.6 o v.8 in (
                r.0,
                v.2 + r.1,
                v.4 ++ r.2,
                (v.0, v.1, v.2, r.1, v.4, r.2, v.6, v.7, v.8, r.3, v.10, refl, refl, v.13),
                (let a = v.11 in let b = r.4 in omega (arith, a, b)),
                none-first d v.4 v.5 v.12 none ∙ r.5 ∙ ap (λ x. r.0 ∷ (x ++ r.2)) (sym none),
              )
          by (Some i) o f here later =
              let r = here (o ∙ f) in (
                r.0,
                r.1 + v.3,
                r.2 ++ v.5,
                (v.0, v.1, r.1, v.3, r.2, v.5, v.6, v.7, r.3, v.9, v.10, refl, refl, v.13),
                (let a = v.11 in let b = r.4 in omega (arith, a, b)),
                v.12 ∙ ap (λ x. x ++ v.5) r.5,
              )

    or-true : (a b : Bool) → b ≡ true → a || b ≡ true
    or-true true b h = refl
    or-true false b h = h

    -- a slot that hasn't ended is ready, or a slot of its group is
    mutual
      woken-ready : (s : ℕ) (t : Tree) → IsTesting E D s t → has_ended t ≡ false → has_ready (all_woken t) ≡ true
      woken-ready s (Leaf ws (Running place)) l h = refl
      woken-ready s (Leaf ws (Pausing place)) l h = refl
      woken-ready s (Leaf ws Finished) l h = absurd (false≢true (sym h))
      woken-ready s (Waits ws at lo group) l h = woken-ready-among lo group l.4 l.3

      woken-ready-among : (k : ℕ) (ts : Group) → AreTesting E D k ts → all_ended ts ≡ false → any_ready (each_member (λ w. w) wakes ts) ≡ true
      woken-ready-among k no_more l h = absurd (false≢true (sym h))
      woken-ready-among k (member t ts) l h = by (has_ended t) refl h (λ e. woken-ready k t l.0 e) (λ e. woken-ready-among (k + 1) ts l.1 e)
        where
          by : (b : Bool) → has_ended t ≡ b → b && all_ended ts ≡ false → (has_ended t ≡ false → has_ready (all_woken t) ≡ true) → (all_ended ts ≡ false → any_ready (each_member (λ w. w) wakes ts) ≡ true) →
              has_ready (all_woken t) || any_ready (each_member (λ w. w) wakes ts) ≡ true
          by true e f first ih = or-true (has_ready (all_woken t)) (any_ready (each_member (λ w. w) wakes ts)) (ih f)
          by false e f first ih = ap (λ x. x || any_ready (each_member (λ w. w) wakes ts)) (first e)

    mutual
      woken-way : (s : ℕ) (t : Tree) (side : Side) (n : ℕ) (d z : List Bool) → IsTesting E D s t → next_cond t ≡ None → TWVal t side n d z → WVal image cert costs (all_woken t) side n z
      woken-way s (Leaf ws (Running place)) side n d z l e v = v.1
      woken-way s (Leaf ws (Pausing place)) side n d z l e v = (judged-out [] ws (paused_inner place) side n d z e v).1
      woken-way s (Leaf ws Finished) side n d z l e v = (v.0, v.1, v.3)
      woken-way s (Waits ws at lo group) side n d z l e v =
          let o = or-none (first_cond ws) (next_cond_among group) e in
          let w = judged-out [] ws (grouped_inner group at) side n d z o.0 v in
          let woken = each_member (λ u. u) wakes group in
          let W : Bool → Type 0 = λ b. when b (Going image cert costs ws at woken side n z) ((side ≡ ToPause) × (n ≡ 0) × (z ≡ [])) in
          subst W (sym (woken-ready-among lo group l.4 l.3)) (w.0, w.1, w.2, w.3, w.4, woken-ways lo group w.0 w.1 d w.3 l.4 o.1 w.5, w.6, w.7, w.8)

      woken-ways : (k : ℕ) (ts : Group) (side : Side) (n : ℕ) (d z : List Bool) → AreTesting E D k ts → next_cond_among ts ≡ None → TWGVal ts side n d z → WGVal image cert costs (each_member (λ u. u) wakes ts) side n z
      woken-ways k no_more side n d z l e v = (v.0, v.1, v.3)
      woken-ways k (member t ts) side n d z l e v =
          let o = or-none (next_cond t) (next_cond_among ts) e in
          (v.0, v.1, v.2, v.3, v.6, v.7, woken-way k t v.0 v.2 v.4 v.6 l.0 o.0 v.8, woken-ways (k + 1) ts v.1 v.3 v.5 v.7 l.1 o.1 v.9, v.10, v.11, v.13)

    module _ (priced : IsCosts costs) (asks : (c : ℕ) → is_cond (line_at cert.lines c) ≡ true → upper_at image cert.lines c ≡ None → IsAsked image costs c (D.value c)) where
      -- where no condition is due, the turns are walked
      woken-walked : (u : State) (side : Side) (n : ℕ) (d z : List Bool) → IsFlat image cert costs u → IsTesting E D 0 u.tree → IsSound E u.tree → next_cond u.tree ≡ None → TWVal u.tree side n d z → Walked image cert costs ok priced (tests_on u) n (d ++ z)
      woken-walked u side n d z flat testing sound e v =
          let r : report due 0 u.tree ≡ None = mapped-none cond_in (report due 0 u.tree) (sym e ∙ cond-report 0 u.tree) in
          let same : tests_on u ≡ turns_on (control.wakes u) = ap (tests_from u) (ap reported_test r) in
          let sound' : IsSound E (all_woken u.tree) = sound-each E (λ w. w) wakes u.tree sound in
          let none = unasked u.tree side n d z e v in
          let W : Control → List Bool → Type 0 = λ c l. Walked image cert costs ok priced c n l in
          subst (λ c. W c (d ++ z)) (sym same)
          (subst (λ l. W (turns_on (control.wakes u)) (l ++ z)) (sym none)
          (walks image cert costs ok priced n n (omega arith) z (turns_on (control.wakes u)) (all_woken u.tree) side (turns-standing image cert costs (control.wakes u) flat sound')
          ((wakes-right E D acc 0 u.tree testing).0, sound') (woken-way 0 u.tree side n d z testing e v)))

      -- one condition
      pub record Tested_on (u : State) (side : Side) (n : ℕ) (d z : List Bool) (c : ℕ) : Type 0 where
        pub fired : Bool
        pub left : ℕ
        pub others : List Bool
        pub asked : IsAsked image costs c (D.value c)
        pub leads : Leads image costs (tests_on u) (fired ∷ []) (D.value c) (tests_on (control.answered fired u))
        pub sum : n ≡ D.value c + left
        pub all : d ≡ fired ∷ others
        pub testing : IsTesting E D 0 (tree.test_answered fired u.tree)
        pub sound : IsSound E (tree.test_answered fired u.tree)
        pub value_is : TWVal (tree.test_answered fired u.tree) side left others z

      tests-on : (u : State) (side : Side) (n : ℕ) (d z : List Bool) (c : ℕ) → IsTesting E D 0 u.tree → IsSound E u.tree → next_cond u.tree ≡ Some c → TWVal u.tree side n d z → Tested_on u side n d z c
      tests-on u side n d z c testing sound e v =
          let m = mapped cond_in (report due 0 u.tree) c (sym e ∙ cond-report 0 u.tree) in
          let x = m.0 in
          let w : watches_of x.0 u.tree ≡ x.2 = ap reported_watches (report-numbered due 0 u.tree x (once-of E u.tree sound) m.1) in
          let at : (entry_of (watches_of x.0 u.tree) (first_due x.2)).cond ≡ c = ap (λ (v' : List Watch). (entry_of v' (first_due x.2)).cond) w ∙ sym m.2 in
          let same : tests_on u ≡ goes Condition c u = ap (λ o. tests_from u (reported_test o)) m.1 ∙ ap (λ p. goes Condition p u) at in
          let r = answers-way 0 u.tree side n d z c testing e v in
          let line = next-cond-line E D acc 0 u.tree c testing e in
          let q = asks c (at-cond image cert costs c line) line.1 in
          let has : is_in due 0 u.tree ≡ true = due-next 0 u.tree ∙ ap is_some e in
          let alike' : tree.test_answered r.0 u.tree ≡ test_answered r.0 u.tree = alike r.0 0 u.tree has in
          let L : Control → Type 0 = λ k. Leads image costs k (r.0 ∷ []) (D.value c) (tests_on (control.answered r.0 u)) in
          record {
            fired = r.0;
            left = r.1;
            others = r.2;
            asked = q;
            leads = subst L (sym same) (q.leads r.0 u);
            sum = r.4;
            all = r.5;
            testing = subst (IsTesting E D 0) (sym alike') (answers E D acc 0 u.tree c r.0 testing e).testing;
            sound = subst (IsSound E) (sym alike') (sound-answered E r.0 u.tree sound);
            value_is = (let V : Tree → Type 0 = λ t. TWVal t side r.1 r.2 z in subst V (sym alike') r.3);
          }

      then-on : (u : State) (side : Side) (n : ℕ) (d z : List Bool) (c : ℕ) (x : Tested_on u side n d z c) → Walked image cert costs ok priced (tests_on (control.answered x.fired u)) x.left (x.others ++ z) → Walked image cert costs ok priced (tests_on u) n (d ++ z)
      then-on u side n d z c x w =
          let L : List Bool → Type 0 = λ l. Leads image costs (tests_on u) l n w.last in
          record {
            last = w.last;
            over = w.over;
            leads = subst L (sym (ap (λ l. l ++ z) x.all))
                (costing image costs (tests_on u) w.last ((x.fired ∷ []) ++ (x.others ++ z)) (D.value c + x.left) n (sym x.sum)
                (joined-leads image costs (tests_on u) (tests_on (control.answered x.fired u)) w.last (x.fired ∷ []) (x.others ++ z) (D.value c) x.left x.leads w.leads));
            short =
                (let a = ap (λ (l : List Bool). length (l ++ z)) x.all in let p = x.asked.costs_one in let q = w.short in let e = x.sum in omega (arith, a, p, q, e));
          }

      -- the joined walk: the conditions' answers in depth-first order, then the turns' choices
      pub joined-walk : (fuel n : ℕ) → n ≤ fuel → (u : State) (side : Side) (d z : List Bool) → IsFlat image cert costs u → IsTesting E D 0 u.tree → IsSound E u.tree → TWVal u.tree side n d z → Walked image cert costs ok priced (tests_on u) n (d ++ z)
      joined-walk zero n f u side d z flat testing sound v = by (next_cond u.tree) refl
        where
          by : (o : Option ℕ) → next_cond u.tree ≡ o → Walked image cert costs ok priced (tests_on u) n (d ++ z)
          by None e = woken-walked u side n d z flat testing sound e v
          by (Some c) e = let x = tests-on u side n d z c testing sound e v in absurd (let a = x.asked.costs_one in let b = x.sum in omega (arith, a, b, f))
      joined-walk (suc fuel) n f u side d z flat testing sound v = by (next_cond u.tree) refl
          (λ c x. joined-walk fuel x.left (let a = x.asked.costs_one in let b = x.sum in omega (arith, a, b, f)) (control.answered x.fired u) side x.others z flat x.testing x.sound x.value_is)
        where
          by : (o : Option ℕ) → next_cond u.tree ≡ o → ((c : ℕ) (x : Tested_on u side n d z c) → Walked image cert costs ok priced (tests_on (control.answered x.fired u)) x.left (x.others ++ z)) → Walked image cert costs ok priced (tests_on u) n (d ++ z)
          by None e more = woken-walked u side n d z flat testing sound e v
          by (Some c) e more = let x = tests-on u side n d z c testing sound e v in then-on u side n d z c x (more c x)

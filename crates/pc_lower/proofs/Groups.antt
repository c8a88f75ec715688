-- Slots that come to rest, and groups.
use Rattle.std.proofs.Common.{◌≡◌, ℕ, ◌+◌, ◌≤◌, ◌++◌, ◌&&◌, ◌||◌, Bool, true, false, if◌then◌else◌, List, [], ◌∷◌, Option, Some, None, refl, sym, ap, ◌∙◌, subst, arith, add-zero}
use Rattle.mb_pfu.specs.declared.parts.Watch.{Watch}
use Rattle.mb_pfu.specs.Rows.{relief, relief_with}
use Rattle.mb_pfu.specs.Tree.{Tree, Group, Leaf, Waits, no_more, member, Running, Finished, size, append_group, settle, has_ready, any_ready, has_ended, all_ended, relieved_tree}
use Rattle.mb_pfu.specs.Contexts.{Frame, Context, plug, middle, climb}
use Rattle.mb_pfu.proofs.Laws as unit_laws
use Rattle.pt_image.specs.declared.Parts.{Parts}
use Rattle.mb_isa.specs.Control.{Control}
use Rattle.mb_isa.specs.Step.{Rules}
use Rattle.pc_lower.specs.Flow.{Rest, Rests, ahead, within, group, nobody, over, going, End, Through, Halted, and_group, work, all_over, State as FlowState, Group as FlowGroup, at as at_pause, settle as flow_settle}
use Rattle.pc_lower.specs.Slots.{IsChild, Fits, FitsGroup, IsGood}
use Rattle.pc_lower.specs.Places.{fork_place, first_child, watch}
use Rattle.pc_lower.specs.Standing.{Stands, StandAll}
use Rattle.pc_lower.specs.Law.{unnested, relieved, rested, placed, turning, Comes, Meets, ThreadMeets, Does}
use Rattle.pc_lower.proofs.StepFacts.{turn-is}
use Rattle.pc_lower.proofs.Paths.{more, chain, same_target}

and-false : (a : Bool) → (a && false) ≡ false
and-false true = refl
and-false false = refl

and-true : (a : Bool) → (a && true) ≡ a
and-true true = refl
and-true false = refl

and-assoc : (a b c : Bool) → ((a && b) && c) ≡ (a && (b && c))
and-assoc true b c = refl
and-assoc false b c = refl

or-assoc : (a b c : Bool) → ((a || b) || c) ≡ (a || (b || c))
or-assoc true b c = refl
or-assoc false b c = refl

or-false-left : (a b : Bool) → (a || b) ≡ false → a ≡ false
or-false-left true b h = cc
or-false-left false b h = refl

or-false-right : (a b : Bool) → (a || b) ≡ false → b ≡ false
or-false-right true b h = cc
or-false-right false b h = h

-- groups that grow at the end
abbrev pub snoc : Group → Tree → Group
snoc left t = append_group left (member t no_more)

pub append-snoc : (left : Group) (t : Tree) (right : Group) → append_group (snoc left t) right ≡ append_group left (member t right)
append-snoc no_more t right = refl
append-snoc (member u left) t right = ap (member u) (append-snoc left t right)

pub size-snoc : (left : Group) (t : Tree) → size (snoc left t) ≡ size left + 1
size-snoc no_more t = refl
size-snoc (member u left) t = ap (λ n. n + 1) (size-snoc left t)

ready-append : (left right : Group) → any_ready (append_group left right) ≡ (any_ready left || any_ready right)
ready-append no_more right = refl
ready-append (member u left) right = ap (λ b. has_ready u || b) (ready-append left right) ∙ sym (or-assoc (has_ready u) (any_ready left) (any_ready right))

ended-append : (left right : Group) → all_ended (append_group left right) ≡ (all_ended left && all_ended right)
ended-append no_more right = refl
ended-append (member u left) right = ap (λ b. has_ended u && b) (ended-append left right) ∙ sym (and-assoc (has_ended u) (all_ended left) (all_ended right))

pub fit-snoc : (parent : ℕ → ℕ) (k : ℕ) (left : Group) (lo : ℕ) (t : Tree) → FitsGroup parent k lo left → IsChild parent k (lo + size left) → Fits parent (lo + size left) t → FitsGroup parent k lo (snoc left t)
fit-snoc parent k no_more lo t fits child fit = let e : lo + 0 ≡ lo = add-zero lo in (rw e at child, subst (λ n. Fits parent n t) e fit, tt)
fit-snoc parent k (member u left) lo t fits child fit =
    let n : lo + (size left + 1) ≡ lo + 1 + size left = omega arith in
    (fits.0, fits.1, fit-snoc parent k left (lo + 1) t fits.2 (subst (IsChild parent k) n child) (subst (λ m. Fits parent m t) n fit))

-- ---- entries

relief-quiet : (e : List Watch) (w : Watch) → w.entry.fired ≡ false → relief (e ++ w ∷ []) ≡ relief e
relief-quiet [] w h = ap (λ b. if b then Some ([], w.entry.handler) else None) h
relief-quiet (l ∷ e) w h = ap (relief_with l) (relief-quiet e w h)

pub relief-fired : (e : List Watch) (w : Watch) → w.entry.fired ≡ true → relief (e ++ w ∷ []) ≡ Some (e, w.entry.handler)
relief-fired [] w h = ap (λ b. if b then Some ([], w.entry.handler) else None) h
relief-fired (l ∷ e) w h = ap (relief_with l) (relief-fired e w h)

module _ (image : Parts) where
  mutual
    pub stands-quiet : (r : Rest) (e : List Watch) (t : Tree) → Stands image e r t → has_ready t ≡ false
    stands-quiet (at_pause i) e t h = ap has_ready h
    stands-quiet (ahead r nodes) e t h = stands-quiet r e t h
    stands-quiet (within j r) e t h = stands-quiet r (e ++ watch image j h.0 false ∷ []) t h.1
    stands-quiet (group i rs) e t h = ap has_ready h.1 ∙ stand_all-quiet rs h.0 h.2

    stand_all-quiet : (rs : Rests) (ts : Group) → StandAll image rs ts → any_ready ts ≡ false
    stand_all-quiet nobody ts h = ap any_ready h
    stand_all-quiet (over rs) ts h = ap any_ready h.1 ∙ stand_all-quiet rs h.0 h.2
    stand_all-quiet (going r rs) ts h = ap any_ready h.2 ∙ ap (λ b. b || any_ready h.1) (stands-quiet r [] h.0 h.3) ∙ stand_all-quiet rs h.1 h.4

  pub stands-not_ended : (r : Rest) (e : List Watch) (t : Tree) → Stands image e r t → has_ended t ≡ false
  stands-not_ended (at_pause i) e t h = ap has_ended h
  stands-not_ended (ahead r nodes) e t h = stands-not_ended r e t h
  stands-not_ended (within j r) e t h = stands-not_ended r (e ++ watch image j h.0 false ∷ []) t h.1
  stands-not_ended (group i rs) e t h = ap has_ended h.1

  -- the entries that a residual adds aren't fired, so those outside it decide
  pub stands-relieved : (r : Rest) (e : List Watch) (t : Tree) → Stands image e r t → relieved t ≡ relieved_tree t (relief e)
  stands-relieved (at_pause i) e t h = rw h refl
  stands-relieved (ahead r nodes) e t h = stands-relieved r e t h
  stands-relieved (within j r) e t h = stands-relieved r (e ++ watch image j h.0 false ∷ []) t h.1 ∙ ap (relieved_tree t) (relief-quiet e (watch image j h.0 false) refl)
  stands-relieved (group i rs) e t h = rw h.1 refl

  -- a fired entry is caught from below all that a residual enters
  pub rested-caught : (r : Rest) (context : Context) (e : List Watch) (w : Watch) (t : Tree) → w.entry.fired ≡ true → Stands image (e ++ w ∷ []) r t → rested context t ≡ plug context (Leaf e (Running w.entry.handler))
  rested-caught r context e w t f h =
      ap (climb context) (stands-relieved r (e ++ w ∷ []) t h ∙ ap (relieved_tree t) (relief-fired e w f))
      ∙ unit_laws.climb-ready context (Leaf e (Running w.entry.handler)) refl

-- ---- what threads leave

-- what the threads of a group do, and none where one is over
abbrev pub Jobs : Type 0
Jobs = List (Option (FlowState → End))

abbrev pub add_over : FlowGroup → FlowGroup
add_over side = record { rests = over side.rests; state = side.state }

abbrev pub add_going : Rest → FlowGroup → FlowGroup
add_going r side = record { rests = going r side.rests; state = side.state }

abbrev all_of : Group → Tree → Group → Group
all_of left t ts = append_group left (member t ts)

all-ready : (left : Group) (t : Tree) (ts : Group) (b : Bool) → any_ready left ≡ false → has_ready t ≡ false → any_ready ts ≡ b → any_ready (all_of left t ts) ≡ b
all-ready left t ts b l m r = ready-append left (member t ts) ∙ rw (l, m) r

module _ (e : List Watch) (place lo : ℕ) where
  settle-busy : (g : Group) → any_ready g ≡ true → settle (Waits e place lo g) ≡ Waits e place lo g
  settle-busy g h = rw h refl

  settle-ended : (g : Group) → any_ready g ≡ false → all_ended g ≡ true → settle (Waits e place lo g) ≡ Leaf e (Running (place + 1))
  settle-ended g h k = rw (h, k) refl

  settle-left : (g : Group) → any_ready g ≡ false → all_ended g ≡ false → settle (Waits e place lo g) ≡ relieved (Waits e place lo g)
  settle-left g h k = rw (h, k) refl

  abbrev pub frame_of : Group → Group → Frame
  frame_of left ts = record { watches = e; at = place; lo = lo; before = left; behind = ts }

module _ (parent : ℕ → ℕ) (image : Parts) (costs : List ℕ) {Data : Type 0} (rules : Rules Data) (Represents : Data → FlowState → Type 0) (context : Context) (e : List Watch) (place : ℕ) where
  -- a slot has its turn, where the leaf holds the place
  pub restale : (good : IsGood parent context) (c0 : Control) (d : Data) (state : FlowState) (u : ℕ) → Comes image costs rules Represents c0 d (λ q. turning image (plug context (Leaf e (Running place)))) state u →
      Comes image costs rules Represents c0 d (λ q. placed image unnested context e q place) state u
  restale good c0 d state u h =
      let k = same_target image costs rules Represents c0 d (λ q. turning image (plug context (Leaf e (Running place)))) (λ q. placed image unnested context e place place) state u (λ q. turn-is parent image context good e unnested place) h in
      record { stale = place; after = k.after; charge = k.charge; count = k.count; steps = k.steps; represents = k.represents; within = k.within }

module _ (parent : ℕ → ℕ) (image : Parts) (costs : List ℕ) {Data : Type 0} (rules : Rules Data) (Represents : Data → FlowState → Type 0) where
  -- the trees are those of the jobs, and take so many steps
  abbrev pub Lawful : ℕ → Jobs → Group → ℕ → Type 0
  Lawful c [] no_more u = Unit {0}
  Lawful c [] (member t ts) u = ⊥
  Lawful c (None ∷ jobs) no_more u = ⊥
  Lawful c (None ∷ jobs) (member t ts) u = (t ≡ Leaf [] Finished) × Lawful (c + 1) jobs ts u
  Lawful c (Some go ∷ jobs) no_more u = ⊥
  Lawful c (Some go ∷ jobs) (member t ts) u = (has_ready t ≡ true) × ((x y : ℕ) × (x + y ≤ u) × Does parent image costs rules Represents c t x go × Lawful (c + 1) jobs ts y)

  -- jobs that are all over
  record IsIdle (ts : Group) (state : FlowState) (side : FlowGroup) : Type 0 where
    stand : StandAll image side.rests ts
    same : side.state ≡ state
    all : all_over side.rests ≡ true
    ends : all_ended ts ≡ true

  idle : (jobs : Jobs) (ts : Group) (c u : ℕ) (state : FlowState) → Lawful c jobs ts u → any_ready ts ≡ false → IsIdle ts state (work jobs state)
  idle [] no_more c u state law q = record { stand = refl; same = refl; all = refl; ends = refl }
  idle [] (member t ts) c u state law q = absurd law
  idle (None ∷ jobs) no_more c u state law q = absurd law
  idle (None ∷ jobs) (member t ts) c u state law q =
      let r = idle jobs ts (c + 1) u state law.1 (or-false-right (has_ready t) (any_ready ts) q) in
      record {
        stand = (ts, ap (λ x. member x ts) law.0, r.stand);
        same = r.same;
        all = r.all;
        ends = ap (λ x. has_ended x && all_ended ts) law.0 ∙ r.ends;
      }
  idle (Some go ∷ jobs) no_more c u state law q = absurd law
  idle (Some go ∷ jobs) (member t ts) c u state law q =
      let p : has_ready t ≡ false = or-false-left (has_ready t) (any_ready ts) q in
      let no_way : ⊥ = cc (p, law.0) in
      absurd no_way

  module _ (context : Context) (e : List Watch) (place lo : ℕ) where
    abbrev GrowsBy : Bool → Group → Control → Data → FlowGroup → ℕ → Type 0
    GrowsBy true left c0 d side u = Comes image costs rules Represents c0 d (λ q. placed image unnested context e q (place + 1)) side.state u
    GrowsBy false left c0 d side u =
        (ts : Group) × StandAll image side.rests ts × FitsGroup parent (middle context) (lo + size left) ts
        × Comes image costs rules Represents c0 d (λ q. turning image (rested context (Waits e place lo (append_group left ts)))) side.state u

    -- what a group comes to
    abbrev pub Grows : Group → Control → Data → FlowGroup → ℕ → Type 0
    Grows left c0 d side u = GrowsBy (all_ended left && all_over side.rests) left c0 d side u

    grows-same : (b b' : Bool) (left : Group) (c0 : Control) (d : Data) (side : FlowGroup) (u : ℕ) → b ≡ b' → GrowsBy b left c0 d side u → GrowsBy b' left c0 d side u
    grows-same b b' left c0 d side u is h = subst (λ x. GrowsBy x left c0 d side u) is h

    -- the last of the left ones is handed to the right
    handed-over : (left : Group) (c0 : Control) (d : Data) (side : FlowGroup) (u : ℕ) → IsChild parent (middle context) (lo + size left) → Grows (snoc left (Leaf [] Finished)) c0 d side u → Grows left c0 d (add_over side) u
    handed-over left c0 d side u child h = by (all_ended left && all_over side.rests) (grows-same _ _ (snoc left (Leaf [] Finished)) c0 d side u same h)
      where
        same : (all_ended (snoc left (Leaf [] Finished)) && all_over side.rests) ≡ (all_ended left && all_over side.rests)
        same = ap (λ b. b && all_over side.rests) (ended-append left (member (Leaf [] Finished) no_more) ∙ and-true (all_ended left))

        by : (b : Bool) → GrowsBy b (snoc left (Leaf [] Finished)) c0 d side u → GrowsBy b left c0 d (add_over side) u
        by true g = g
        by false g =
            let n : lo + size (snoc left (Leaf [] Finished)) ≡ lo + size left + 1 = ap (λ k. lo + k) (size-snoc left (Leaf [] Finished)) ∙ omega arith in (
              member (Leaf [] Finished) g.0,
              (g.0, refl, g.1),
              (child, tt, subst (λ k. FitsGroup parent (middle context) k g.0) n g.2),
              same_target image costs rules Represents c0 d _ _ side.state u (λ q. ap (λ ts. turning image (rested context (Waits e place lo ts))) (append-snoc left (Leaf [] Finished) g.0)) g.3,
            )

    handed-going : (left : Group) (r : Rest) (t : Tree) (c0 : Control) (d : Data) (side : FlowGroup) (u : ℕ) → IsChild parent (middle context) (lo + size left) → Fits parent (lo + size left) t → Stands image [] r t →
        Grows (snoc left t) c0 d side u → Grows left c0 d (add_going r side) u
    handed-going left r t c0 d side u child fit stands h =
        let no : all_ended (snoc left t) ≡ false = ended-append left (member t no_more) ∙ ap (λ b. all_ended left && (b && true)) (stands-not_ended image r [] t stands) ∙ and-false (all_ended left) in
        let g = grows-same _ false (snoc left t) c0 d side u (ap (λ b. b && all_over side.rests) no) h in
        let n : lo + size (snoc left t) ≡ lo + size left + 1 = ap (λ k. lo + k) (size-snoc left t) ∙ omega arith in
        grows-same false _ left c0 d (add_going r side) u (sym (and-false (all_ended left))) (
          member t g.0,
          (t, g.0, refl, stands, g.1),
          (child, fit, subst (λ k. FitsGroup parent (middle context) k g.0) n g.2),
          same_target image costs rules Represents c0 d _ _ side.state u (λ q. ap (λ ts. turning image (rested context (Waits e place lo ts))) (append-snoc left t g.0)) g.3,
        )

    grows_more : (b : Bool) (left : Group) (c0 : Control) (d : Data) (side : FlowGroup) (u v : ℕ) → u ≤ v → GrowsBy b left c0 d side u → GrowsBy b left c0 d side v
    grows_more true left c0 d side u v le h = more image costs rules Represents c0 d _ side.state u v le h
    grows_more false left c0 d side u v le h = (h.0, h.1, h.2, more image costs rules Represents c0 d _ side.state u v le h.3)

    grows_chain : (b : Bool) (left : Group) (c0 : Control) (d : Data) (target : ℕ → Control) (state : FlowState) (side : FlowGroup) (u v w : ℕ) → u + v ≤ w → (h : Comes image costs rules Represents c0 d target state u) →
        GrowsBy b left (target h.stale) h.after side v → GrowsBy b left c0 d side w
    grows_chain true left c0 d target state side u v w le h g = chain image costs rules Represents c0 d target _ state side.state u v w le h g
    grows_chain false left c0 d target state side u v w le h g = (g.0, g.1, g.2, chain image costs rules Represents c0 d target _ state side.state u v w le h g.3)

    module _ (good : IsGood parent context) where
      -- a child came to rest
      settled : (c0 : Control) (d : Data) (t : Tree) (ts left : Group) (jobs : Jobs) (state : FlowState) (u v w : ℕ) → u + v ≤ w → any_ready left ≡ false → has_ready t ≡ false →
          FitsGroup parent (middle context) (lo + size left + 1) ts → Lawful (lo + size left + 1) jobs ts v →
          Comes image costs rules Represents c0 d (λ q. turning image (climb context (settle (Waits e place lo (all_of left t ts))))) state u →
          ((x : Data) → Represents x state → any_ready ts ≡ true → Grows (snoc left t) (turning image (plug context (Waits e place lo (all_of left t ts)))) x (work jobs state) v) →
          Grows (snoc left t) c0 d (work jobs state) w
      settled c0 d t ts left jobs state u v w le q r fits law h follow = by (any_ready ts) refl
        where
          side : FlowGroup
          side = work jobs state

          over-by : (b : Bool) → (ended : all_ended (all_of left t ts) ≡ b) → any_ready ts ≡ false → IsIdle ts state side → Comes image costs rules Represents c0 d (λ q. turning image (climb context (settle (Waits e place lo (all_of left t ts))))) side.state u →
              GrowsBy b (snoc left t) c0 d side u
          over-by true ended quiet i g =
              restale parent image costs rules Represents context e (place + 1) good c0 d side.state u (
              same_target image costs rules Represents c0 d _ _ side.state u (
              λ q. ap (turning image) (ap (climb context) (settle-ended e place lo (all_of left t ts) (all-ready left t ts false q' r quiet) ended) ∙ unit_laws.climb-ready context (Leaf e (Running (place + 1))) refl)
              ) g
              )
            where
              q' : any_ready left ≡ false
              q' = q
          over-by false ended quiet i g = (
            ts,
            i.stand,
            subst (λ k. FitsGroup parent (middle context) k ts) (omega arith ∙ ap (λ k. lo + k) (sym (size-snoc left t))) fits,
            same_target image costs rules Represents c0 d _ _ side.state u (
                λ z. ap (turning image) (ap (climb context) (settle-left e place lo (all_of left t ts) (all-ready left t ts false q r quiet) ended ∙ ap (λ x. relieved (Waits e place lo x)) (sym (append-snoc left t ts))))
                ) g,
          )

          by : (b : Bool) → any_ready ts ≡ b → Grows (snoc left t) c0 d side w
          by true busy =
              let g = same_target image costs rules Represents c0 d _ (λ z. turning image (plug context (Waits e place lo (all_of left t ts)))) state u (
              λ z. ap (turning image) (ap (climb context) (settle-busy e place lo (all_of left t ts) (all-ready left t ts true q r busy)) ∙ unit_laws.climb-ready context (Waits e place lo (all_of left t ts)) (all-ready left t ts true q r busy))
              ) h in
              grows_chain (all_ended (snoc left t) && all_over side.rests) (snoc left t) c0 d _ state side u v w le g (follow g.after g.represents busy)
          by false quiet =
              let i = idle jobs ts (lo + size left + 1) v state law quiet in
              let flag : all_ended (all_of left t ts) ≡ (all_ended (snoc left t) && all_over side.rests) =
              ended-append left (member t ts) ∙ ap (λ b. all_ended left && (has_ended t && b)) i.ends ∙ sym (ended-append left (member t no_more)) ∙ sym (and-true (all_ended (snoc left t))) ∙ ap (λ b. all_ended (snoc left t) && b) (sym i.all) in
              grows_more (all_ended (snoc left t) && all_over side.rests) (snoc left t) c0 d side u w (omega (arith, le)) (
              over-by (all_ended (snoc left t) && all_over side.rests) flag quiet i (subst (λ s. Comes image costs rules Represents c0 d (λ z. turning image (climb context (settle (Waits e place lo (all_of left t ts))))) s u) (sym i.same) h)
              )

      -- a child has moved on, and those to its right follow
      turned : (c0 : Control) (d : Data) (o : End) (ts left : Group) (jobs : Jobs) (u v w : ℕ) → u + v ≤ w → any_ready left ≡ false → IsChild parent (middle context) (lo + size left) →
          FitsGroup parent (middle context) (lo + size left + 1) ts → Lawful (lo + size left + 1) jobs ts v →
          ThreadMeets parent image costs rules Represents (frame_of e place lo left ts ∷ context) c0 d u o →
          ((t : Tree) (x : Data) (state : FlowState) → has_ready t ≡ false → Fits parent (lo + size left) t → Represents x state → any_ready ts ≡ true →
          Grows (snoc left t) (turning image (plug context (Waits e place lo (all_of left t ts)))) x (work jobs state) v) →
          Grows left c0 d (and_group o (work jobs)) w
      turned c0 d (Through state) ts left jobs u v w le q child fits law h follow =
          handed-over left c0 d (work jobs state) w child (
          settled c0 d (Leaf [] Finished) ts left jobs state u v w le q refl fits law h (λ x rep busy. follow (Leaf [] Finished) x state refl tt rep busy)
          )
      turned c0 d (Halted r state) ts left jobs u v w le q child fits law h follow =
          let quiet = stands-quiet image r [] h.tree h.stands in
          let g = same_target image costs rules Represents c0 d _ (λ z. turning image (climb context (settle (Waits e place lo (all_of left h.tree ts))))) state u (
          λ z. ap (λ t. turning image (climb (frame_of e place lo left ts ∷ context) t)) (stands-relieved image r [] h.tree h.stands)
          ) h.comes in
          handed-going left r h.tree c0 d (work jobs state) w child h.fits h.stands (
          settled c0 d h.tree ts left jobs state u v w le q quiet fits law g (λ x rep busy. follow h.tree x state quiet h.fits rep busy)
          )

      pub group_runs : (jobs : Jobs) (ts left : Group) (c u : ℕ) (d : Data) (state : FlowState) → lo + size left ≡ c → Lawful c jobs ts u → any_ready left ≡ false → any_ready ts ≡ true →
          FitsGroup parent (middle context) lo left → FitsGroup parent (middle context) c ts → Represents d state →
          Grows left (turning image (plug context (Waits e place lo (append_group left ts)))) d (work jobs state) u
      group_runs [] no_more left c u d state at_c law q busy fl ft rep = cc
      group_runs [] (member t ts) left c u d state at_c law q busy fl ft rep = absurd law
      group_runs (None ∷ jobs) no_more left c u d state at_c law q busy fl ft rep = absurd law
      group_runs (None ∷ jobs) (member t ts) left c u d state at_c law q busy fl ft rep =
          let t' = Leaf [] Finished in
          let busy' : any_ready ts ≡ true = ap (λ x. has_ready x || any_ready ts) (sym law.0) ∙ busy in
          let child : IsChild parent (middle context) (lo + size left) = subst (IsChild parent (middle context)) (sym at_c) ft.0 in
          let n : lo + size (snoc left t') ≡ c + 1 = ap (λ k. lo + k) (size-snoc left t') ∙ omega (arith, at_c) in
          let q' : any_ready (snoc left t') ≡ false = ready-append left (member t' no_more) ∙ rw q refl in
          subst (λ x. Grows left (turning image (plug context (Waits e place lo (append_group left (member x ts))))) d (add_over (work jobs state)) u) (sym law.0) (
          handed-over left _ d (work jobs state) u child (
          subst (λ g. Grows (snoc left t') (turning image (plug context (Waits e place lo g))) d (work jobs state) u) (append-snoc left t' ts) (
          group_runs jobs ts (snoc left t') (c + 1) u d state n law.1 q' busy' (fit-snoc parent (middle context) left lo t' fl child tt) ft.2 rep
          )
          )
          )
      group_runs (Some go ∷ jobs) no_more left c u d state at_c law q busy fl ft rep = absurd law
      group_runs (Some go ∷ jobs) (member t ts) left c u d state at_c law q busy fl ft rep =
          let l = law.1 in
          let child : IsChild parent (middle context) (lo + size left) = subst (IsChild parent (middle context)) (sym at_c) ft.0 in
          let fits : FitsGroup parent (middle context) (lo + size left + 1) ts = subst (λ k. FitsGroup parent (middle context) (k + 1) ts) (sym at_c) ft.2 in
          let law' : Lawful (lo + size left + 1) jobs ts l.1 = subst (λ k. Lawful (k + 1) jobs ts l.1) (sym at_c) l.4 in
          turned (turning image (plug context (Waits e place lo (all_of left t ts)))) d (go state) ts left jobs l.0 l.1 u l.2 q child fits law'
          (l.3 (frame_of e place lo left ts ∷ context) d state (q, fl, child, fits, good) at_c rep) (
          λ t' x state' quiet fit rep' busy'.
          let n : lo + size (snoc left t') ≡ lo + size left + 1 = ap (λ k. lo + k) (size-snoc left t') ∙ omega arith in
          let q' : any_ready (snoc left t') ≡ false = ready-append left (member t' no_more) ∙ rw (q, quiet) refl in
          subst (λ g. Grows (snoc left t') (turning image (plug context (Waits e place lo g))) x (work jobs state') l.1) (append-snoc left t' ts) (
          group_runs jobs ts (snoc left t') (lo + size left + 1) l.1 x state' n law' q' busy' (fit-snoc parent (middle context) left lo t' fl child fit) fits rep'
          )
          )

      -- a group's end is that of its node
      pub meets_group : (i to : ℕ) (c0 : Control) (d : Data) (u : ℕ) (side : FlowGroup) → fork_place image i ≡ place → first_child image i ≡ lo → place + 1 ≡ to → Grows no_more c0 d side u →
          Meets parent image costs rules Represents unnested context e to c0 d u u (flow_settle i side)
      meets_group i to c0 d u side is lowest goal h = by (all_over side.rests) h
        where
          by : (b : Bool) → GrowsBy b no_more c0 d side u → Meets parent image costs rules Represents unnested context e to c0 d u u (if b then Through side.state else Halted (group i side.rests) side.state)
          by true g = same_target image costs rules Represents c0 d _ _ side.state u (λ q. ap (placed image unnested context e q) goal) g
          by false g = record {
            tree = Waits e place lo g.0;
            stands = (g.0, ap (λ p. Waits e p lo g.0) (sym is) ∙ ap (λ k. Waits e (fork_place image i) k g.0) (sym lowest), g.1);
            fits = subst (λ k. FitsGroup parent (middle context) k g.0) (add-zero lo) g.2;
            comes = g.3;
          }

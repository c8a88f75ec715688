-- The tests of a tick answer what is due, in depth-first order.
use Rattle.std.proofs.Common.{◌≡◌, ℕ, ◌+◌, ◌≤◌, ◌==◌, ◌++◌, ◌&&◌, not, map, Bool, true, false, if◌then◌else◌, List, [], ◌∷◌, take, Some, None, refl, sym, ap, ◌∙◌, subst, arith, eq-eqb, add-zero}
use Rattle.mb_isa.specs.declared.Reg.{Reg}
use Rattle.mb_isa.specs.declared.Instr.TheVariants.{Cend}
use Rattle.mb_isa.specs.declared.Class.TheVariants as class
use Rattle.mb_isa.specs.Costs.{cost_of}
use Rattle.mb_pfu.specs.declared.parts.Watch.{Watch}
use Rattle.mb_pfu.specs.Rows.{due, any_due, first_due, watch_due, with_answer, is_cut, numbered, renewed, as_they_are, Selector, reported_test}
use Rattle.mb_pfu.specs.Tree.{Tree, Group, Leaf, Waits, no_more, member, Activity, Running, Pausing, Finished, size, append_group, is_in, is_among, at_slot, report, reported_watches, next_test, watches_of, each_slot, each_member, tests_begun, all_woken, wakes, answer_at, test_answered}
use Rattle.mb_pfu.specs.Contexts.{Frame, Context, plug, middle}
use Rattle.mb_pfu.specs.Unit.{State as UnitState, entry_of}
use Rattle.mb_pfu.proofs.Cases.{split}
use Rattle.pt_image.specs.declared.Parts.{Parts}
use Rattle.mb_isa.specs.Control.{Control, Condition, Testing, tests_on, tests_from, answered as unit_answered}
use Rattle.mb_isa.specs.Words.{plan_word, plan_decoded}
use Rattle.mb_isa.specs.Step.{Rules, Moves, samples_on, samples_from, concluded, stepped, step}
use Rattle.mb_isa.specs.Tick.{Steps, still, onward}
use Rattle.pc_lower.specs.Flow.{Rest, Rests, ahead, within, group, nobody, over, going, State as FlowState, at as at_pause}
use Rattle.pc_lower.specs.Slots.{self, Fits, FitsGroup, IsFitted}
use Rattle.pc_lower.specs.Places.{pause_place, fork_place, first_child, line, watch, Has}
use Rattle.pc_lower.specs.Standing.{cut, Stands, StandAll, woken, woken_all}
use Rattle.pc_lower.specs.Law.{unnested, unit_at}
use Rattle.pc_lower.specs.Tests.{IsPast, asked, asking, asking_all, answered, answered_all, spine, dressed, kind, unless_cut, looked_at, looked_at_all, tests_in, tests_in_all, Says, Asks}
use Rattle.pc_lower.proofs.Slots.{outside-fitted}
use Rattle.pc_lower.proofs.Plugs.{report-plug}
use Rattle.pc_lower.proofs.Paths.{append}
use Rattle.pc_lower.proofs.Groups.{snoc, append-snoc, size-snoc, fit-snoc}
use Rattle.pc_lower.proofs.Due.{change-due, report-due, due-some, watch-is, answer-is, cut-is, kept-is, undue-snoc}

append-nil : (e : List Watch) → e ++ [] ≡ e
append-nil [] = refl
append-nil (l ∷ e) = ap (λ x. l ∷ x) (append-nil e)

append-assoc : (xs ys zs : List ℕ) → (xs ++ ys) ++ zs ≡ xs ++ (ys ++ zs)
append-assoc [] ys zs = refl
append-assoc (x ∷ xs) ys zs = ap (λ l. x ∷ l) (append-assoc xs ys zs)

append-one : (e : List Watch) (x : Watch) (more : List Watch) → (e ++ x ∷ []) ++ more ≡ e ++ x ∷ more
append-one [] x more = refl
append-one (l ∷ e) x more = ap (λ w. l ∷ w) (append-one e x more)

map-snoc : (e : List Watch) (w : Watch) → map renewed (e ++ w ∷ []) ≡ map renewed e ++ renewed w ∷ []
map-snoc [] w = refl
map-snoc (l ∷ e) w = ap (λ x. renewed l ∷ x) (map-snoc e w)

among-snoc : (k : ℕ) (left : Group) (t : Tree) → is_among due k left ≡ false → is_in due (k + size left) t ≡ false → is_among due k (snoc left t) ≡ false
among-snoc k no_more t a b = let b' : is_in due k t ≡ false = rw (add-zero k) at b in rw b' refl
among-snoc k (member u left) t a b =
    let n : k + (size left + 1) ≡ k + 1 + size left = omega arith in
    split (is_in due k u)
    (λ e. let no : true ≡ false = rw e at a in cc)
    (λ e. rw e (among-snoc (k + 1) left t (rw e at a) (rw n at b)))

module _ (image : Parts) where
  choice : (w f : Bool) (A : Tree) (B : Bool → Tree) → (if f && not w then A else B f) ≡ cut (not w && f) A (B (w && f))
  choice true true A B = refl
  choice true false A B = refl
  choice false true A B = refl
  choice false false A B = refl

  cut-woken : (b : Bool) (e : List Watch) (p : ℕ) (t u : Tree) → all_woken t ≡ u → all_woken (cut b (Leaf e (Running p)) t) ≡ cut b (Leaf e (Running p)) u
  cut-woken true e p t u h = refl
  cut-woken false e p t u h = h

  cut-undue : (b : Bool) (k : ℕ) (e : List Watch) (p : ℕ) (t : Tree) → any_due e ≡ false → is_in due k t ≡ false → is_in due k (cut b (Leaf e (Running p)) t) ≡ false
  cut-undue true k e p t q h = q
  cut-undue false k e p t q h = h

  module _ (parent : ℕ → ℕ) where
    cut-fit : (b : Bool) (k : ℕ) (e : List Watch) (p : ℕ) (t : Tree) → Fits parent k t → Fits parent k (cut b (Leaf e (Running p)) t)
    cut-fit true k e p t h = tt
    cut-fit false k e p t h = h

module _ (image : Parts) where
  -- ---- the shapes of a residual

  asking-dressed : (r : Rest) (e : List Watch) → asking image e r ≡ dressed image (e ++ spine image r) r
  asking-dressed (at_pause i) e = ap (λ w. Leaf w (Pausing (pause_place image i))) (sym (append-nil e))
  asking-dressed (ahead r nodes) e = asking-dressed r e
  asking-dressed (within j r) e = asking-dressed r (e ++ asked image j ∷ []) ∙ ap (λ w. dressed image w r) (append-one e (asked image j) (spine image r))
  asking-dressed (group i rs) e = ap (λ w. Waits w (fork_place image i) (first_child image i) (asking_all image rs)) (sym (append-nil e))

  report-dressed : (p : Selector) (k : ℕ) (w : List Watch) (r : Rest) → p k (kind image r) w ≡ true → report p k (dressed image w r) ≡ Some (k, kind image r, w)
  report-dressed p k w (at_pause i) h = rw h refl
  report-dressed p k w (ahead r nodes) h = report-dressed p k w r h
  report-dressed p k w (within j r) h = report-dressed p k w r h
  report-dressed p k w (group i rs) h = rw h refl

  in-dressed : (p : Selector) (k : ℕ) (w : List Watch) (r : Rest) → p k (kind image r) w ≡ true → is_in p k (dressed image w r) ≡ true
  in-dressed p k w (at_pause i) h = h
  in-dressed p k w (ahead r nodes) h = in-dressed p k w r h
  in-dressed p k w (within j r) h = in-dressed p k w r h
  in-dressed p k w (group i rs) h = rw h refl

  at-dressed : (p : Selector) (f g : Tree → Tree) (k : ℕ) (w : List Watch) (r : Rest) → p k (kind image r) w ≡ true → at_slot p f g k (dressed image w r) ≡ f (dressed image w r)
  at-dressed p f g k w (at_pause i) h = rw h refl
  at-dressed p f g k w (ahead r nodes) h = at-dressed p f g k w r h
  at-dressed p f g k w (within j r) h = at-dressed p f g k w r h
  at-dressed p f g k w (group i rs) h = rw h refl

  answer-dressed : (fired : Bool) (w : List Watch) (r : Rest) →
      answer_at fired (dressed image w r) ≡ (if is_cut fired w then Leaf (take (first_due w) w) (Running (watch_due w).entry.handler) else dressed image (with_answer fired w) r)
  answer-dressed fired w (at_pause i) = refl
  answer-dressed fired w (ahead r nodes) = answer-dressed fired w r
  answer-dressed fired w (within j r) = answer-dressed fired w r
  answer-dressed fired w (group i rs) = refl

  -- what the first due entry's answer makes of the slot
  answer-is-cut : (j : ℕ) (f : Bool) (e : List Watch) (r : Rest) → any_due e ≡ false →
      answer_at f (dressed image (e ++ asked image j ∷ spine image r) r)
      ≡ cut (not ((line image j).weak) && f) (Leaf e (Running (line image j).handler)) (asking image (e ++ watch image j true ((line image j).weak && f) ∷ []) r)
  answer-is-cut j f e r q =
      let x = asked image j in
      let more = spine image r in
      answer-dressed f (e ++ x ∷ more) r
      ∙ ap (λ b. if b then Leaf (take (first_due (e ++ x ∷ more)) (e ++ x ∷ more)) (Running (watch_due (e ++ x ∷ more)).entry.handler) else dressed image (with_answer f (e ++ x ∷ more)) r) (cut-is e x more q refl f)
      ∙ ap (λ k. if f && not ((line image j).weak) then Leaf k (Running (watch_due (e ++ x ∷ more)).entry.handler) else dressed image (with_answer f (e ++ x ∷ more)) r) (kept-is e x more q refl)
      ∙ ap (λ l. if f && not ((line image j).weak) then Leaf e (Running l.entry.handler) else dressed image (with_answer f (e ++ x ∷ more)) r) (watch-is e x more q refl)
      ∙ ap (λ w. if f && not ((line image j).weak) then Leaf e (Running (line image j).handler) else dressed image w r) (answer-is e x more q refl f)
      ∙ ap (λ w. if f && not ((line image j).weak) then Leaf e (Running (line image j).handler) else dressed image w r) (sym (append-one e (watch image j true f) more))
      ∙ ap (λ t. if f && not ((line image j).weak) then Leaf e (Running (line image j).handler) else t) (sym (asking-dressed r (e ++ watch image j true f ∷ [])))
      ∙ choice image ((line image j).weak) f (Leaf e (Running (line image j).handler)) (λ b. asking image (e ++ watch image j true b ∷ []) r)

  -- ---- the beginning and the end of the tests

  mutual
    pub begun-stands : (r : Rest) (e : List Watch) (t : Tree) → Stands image e r t → tests_begun t ≡ asking image (map renewed e) r
    begun-stands (at_pause i) e t h = rw h refl
    begun-stands (ahead r nodes) e t h = begun-stands r e t h
    begun-stands (within j r) e t h = begun-stands r (e ++ watch image j h.0 false ∷ []) t h.1 ∙ ap (λ x. asking image x r) (map-snoc e (watch image j h.0 false))
    begun-stands (group i rs) e t h = ap tests_begun h.1 ∙ ap (Waits (map renewed e) (fork_place image i) (first_child image i)) (begun-all rs h.0 h.2)

    begun-all : (rs : Rests) (ts : Group) → StandAll image rs ts → each_member (map renewed) (λ x. x) ts ≡ asking_all image rs
    begun-all nobody ts h = rw h refl
    begun-all (over rs) ts h = ap (each_member (map renewed) (λ x. x)) h.1 ∙ ap (member (Leaf [] Finished)) (begun-all rs h.0 h.2)
    begun-all (going r rs) ts h =
        ap (each_member (map renewed) (λ x. x)) h.2
        ∙ ap (λ t. member t (each_member (map renewed) (λ x. x) h.1)) (begun-stands r [] h.0 h.3)
        ∙ ap (member (asking image [] r)) (begun-all rs h.1 h.4)

  -- entries are of no matter to where the slots of a residual stand
  asking-fit : (parent : ℕ → ℕ) (r : Rest) (k : ℕ) (e e' : List Watch) → Fits parent k (asking image e r) → Fits parent k (asking image e' r)
  asking-fit parent (at_pause i) k e e' h = tt
  asking-fit parent (ahead r nodes) k e e' h = asking-fit parent r k e e' h
  asking-fit parent (within j r) k e e' h = asking-fit parent r k (e ++ asked image j ∷ []) (e' ++ asked image j ∷ []) h
  asking-fit parent (group i rs) k e e' h = h

  module _ (fires : ℕ → Bool) where
    mutual
      pub woken-answered : (r : Rest) (e : List Watch) → all_woken (answered image fires e r) ≡ woken image fires e r
      woken-answered (at_pause i) e = refl
      woken-answered (ahead r nodes) e = woken-answered r e
      woken-answered (within j r) e =
          let e' = e ++ watch image j true ((line image j).weak && fires j) ∷ [] in
          cut-woken image (not ((line image j).weak) && fires j) e (line image j).handler (answered image fires e' r) (woken image fires e' r) (woken-answered r e')
      woken-answered (group i rs) e = ap (Waits e (fork_place image i) (first_child image i)) (woken-answered_all rs)

      woken-answered_all : (rs : Rests) → each_member as_they_are wakes (answered_all image fires rs) ≡ woken_all image fires rs
      woken-answered_all nobody = refl
      woken-answered_all (over rs) = ap (member (Leaf [] Finished)) (woken-answered_all rs)
      woken-answered_all (going r rs) = ap (λ t. member t (each_member as_they_are wakes (answered_all image fires rs))) (woken-answered r []) ∙ ap (member (woken image fires [] r)) (woken-answered_all rs)

    mutual
      pub answered-undue : (r : Rest) (k : ℕ) (e : List Watch) → any_due e ≡ false → is_in due k (answered image fires e r) ≡ false
      answered-undue (at_pause i) k e q = q
      answered-undue (ahead r nodes) k e q = answered-undue r k e q
      answered-undue (within j r) k e q =
          let w = watch image j true ((line image j).weak && fires j) in
          cut-undue image (not ((line image j).weak) && fires j) k e (line image j).handler (answered image fires (e ++ w ∷ []) r) q (answered-undue r k (e ++ w ∷ []) (undue-snoc e w q refl))
      answered-undue (group i rs) k e q = rw q (answered-undue_all rs (first_child image i))

      answered-undue_all : (rs : Rests) (k : ℕ) → is_among due k (answered_all image fires rs) ≡ false
      answered-undue_all nobody k = refl
      answered-undue_all (over rs) k = answered-undue_all rs (k + 1)
      answered-undue_all (going r rs) k = rw (answered-undue r k [] refl) (answered-undue_all rs (k + 1))

    module _ (parent : ℕ → ℕ) where
      mutual
        answered-fit : (r : Rest) (k : ℕ) (e e' : List Watch) → Fits parent k (asking image e r) → Fits parent k (answered image fires e' r)
        answered-fit (at_pause i) k e e' h = tt
        answered-fit (ahead r nodes) k e e' h = answered-fit r k e e' h
        answered-fit (within j r) k e e' h =
            let w = watch image j true ((line image j).weak && fires j) in
            cut-fit image parent (not ((line image j).weak) && fires j) k e' (line image j).handler (answered image fires (e' ++ w ∷ []) r) (answered-fit r k (e ++ asked image j ∷ []) (e' ++ w ∷ []) h)
        answered-fit (group i rs) k e e' h = answered-fit_all rs k (first_child image i) h

        answered-fit_all : (rs : Rests) (k c : ℕ) → FitsGroup parent k c (asking_all image rs) → FitsGroup parent k c (answered_all image fires rs)
        answered-fit_all nobody k c h = tt
        answered-fit_all (over rs) k c h = (h.0, tt, answered-fit_all rs k (c + 1) h.2)
        answered-fit_all (going r rs) k c h = (h.0, answered-fit r c [] [] h.1, answered-fit_all rs k (c + 1) h.2)

module _ (parent : ℕ → ℕ) where
  -- the entries are of no matter to where slots stand
  mutual
    pub any-fit : (r : Tree) (h : List Watch → List Watch) (d : Activity → Activity) (k : ℕ) → Fits parent k r → Fits parent k (each_slot h d r)
    any-fit (Leaf w a) h d k fit = tt
    any-fit (Waits w p lo ts) h d k fit = any-fit_all ts h d k lo fit

    any-fit_all : (ts : Group) (h : List Watch → List Watch) (d : Activity → Activity) (k c : ℕ) → FitsGroup parent k c ts → FitsGroup parent k c (each_member h d ts)
    any-fit_all no_more h d k c fit = tt
    any-fit_all (member t ts) h d k c fit = (fit.0, any-fit t h d c fit.1, any-fit_all ts h d k (c + 1) fit.2)

abbrev pub unit_of : Parts → Tree → UnitState
unit_of image t = unit_at image unnested t

module _ (image : Parts) (costs : List ℕ) {Data : Type 0} (rules : Rules Data) (Represents : Data → FlowState → Type 0) (Calm : List ℕ → FlowState → Type 0) where
  nothing : (u : UnitState) (d : Data) (state : FlowState) (js : List ℕ) (most : ℕ) → Represents d state → Calm js state → Asks image costs rules Represents Calm u d u js most
  nothing u d state js most rep calm = record { after = d; charge = 0; count = 0; steps = still; within = omega arith; state = state; represents = rep; calm = calm }

  both : (u v w : UnitState) (d : Data) (ks js : List ℕ) (a b most : ℕ) → a + b ≤ most → (h : Asks image costs rules Represents Calm u d v ks a) → Asks image costs rules Represents Calm v h.after w js b → Asks image costs rules Represents Calm u d w js most
  both u v w d ks js a b most le h g = record {
    after = g.after;
    charge = h.charge + g.charge;
    count = h.count + g.count;
    steps = append image costs rules Represents (tests_on u) (tests_on v) (tests_on w) (samples_on rules u d) (samples_on rules v h.after) (samples_on rules w g.after) h.charge g.charge h.count g.count h.steps g.steps;
    within = omega (arith, h.within, g.within);
    state = g.state;
    represents = g.represents;
    calm = g.calm;
  }

  -- the same between other units
  between : (u u' v v' : UnitState) (d : Data) (js : List ℕ) (most : ℕ) → u ≡ u' → v ≡ v' → Asks image costs rules Represents Calm u d v js most → Asks image costs rules Represents Calm u' d v' js most
  between u u' v v' d js most e f h = subst (λ x. Asks image costs rules Represents Calm x d v' js most) e (subst (λ x. Asks image costs rules Represents Calm u d x js most) f h)

  -- where a strong abort cuts nothing is asked inside it
  asks_cut : (b : Bool) (context : Context) (e : List Watch) (p : ℕ) (t t' : Tree) (d : Data) (state : FlowState) (ks js : List ℕ) (most : ℕ) → Represents d state → Calm (unless_cut b ks ++ js) state →
      (Calm (ks ++ js) state → Asks image costs rules Represents Calm (unit_of image (plug context t)) d (unit_of image (plug context t')) js most) →
      Asks image costs rules Represents Calm (unit_of image (plug context (cut b (Leaf e (Running p)) t))) d (unit_of image (plug context (cut b (Leaf e (Running p)) t'))) js most
  asks_cut true context e p t t' d state ks js most rep calm h = nothing (unit_of image (plug context (Leaf e (Running p)))) d state js most rep calm
  asks_cut false context e p t t' d state ks js most rep calm h = h calm

module _ (image : Parts) (costs : List ℕ) {Data : Type 0} (rules : Rules Data) where
  cend-step : (ra : Reg) (place : ℕ) (u : UnitState) (d after : Data) (f : Bool) → Has image place (Cend ra) → rules.holds ra d ≡ Some (f, after) →
      step rules costs image (record { phase = Testing place; unit = u; upper = None }) d ≡ Moves (cost_of costs class.Cend) (tests_on (unit_answered f u)) (samples_on rules (unit_answered f u) after)
  cend-step ra place u d after f has says =
      ap (λ o. stepped rules costs d (plan_word image Condition place None u o)) has.stands
      ∙ ap (λ o. stepped rules costs d (plan_decoded image Condition place None u o)) has.decodes
      ∙ ap (concluded rules costs u) says

-- the first due entry of the slot in the middle
module _ (parent : ℕ → ℕ) (image : Parts) (j : ℕ) (r : Rest) (context : Context) (e : List Watch) (past : IsPast context) (fit : IsFitted parent context) (q : any_due e ≡ false) where
  abbrev asked_tree : Tree
  asked_tree = plug context (dressed image (e ++ asked image j ∷ spine image r) r)

  abbrev cut_tree : Bool → Tree
  cut_tree f = cut (not ((line image j).weak) && f) (Leaf e (Running (line image j).handler)) (asking image (e ++ watch image j true ((line image j).weak && f) ∷ []) r)

  has-due : any_due (e ++ asked image j ∷ spine image r) ≡ true
  has-due = due-some e (asked image j) (spine image r) refl

  next-is : next_test asked_tree ≡ Some (middle context, first_due (e ++ asked image j ∷ spine image r))
  next-is = ap reported_test (report-due context (dressed image (e ++ asked image j ∷ spine image r) r) past (in-dressed image due (middle context) (e ++ asked image j ∷ spine image r) r has-due) ∙ report-dressed image due (middle context) (e ++ asked image j ∷ spine image r) r has-due)

  watches-are : watches_of (middle context) asked_tree ≡ e ++ asked image j ∷ spine image r
  watches-are =
      let same : (middle context == middle context) ≡ true = eq-eqb (middle context) (middle context) refl in
      ap reported_watches (
      report-plug (middle context) context (dressed image (e ++ asked image j ∷ spine image r) r) (outside-fitted parent context (middle context) fit (self refl)) (in-dressed image (numbered (middle context)) (middle context) (e ++ asked image j ∷ spine image r) r same)
      ∙ report-dressed image (numbered (middle context)) (middle context) (e ++ asked image j ∷ spine image r) r same
      )

  begins : tests_on (unit_of image asked_tree) ≡ record { phase = Testing (line image j).cond; unit = unit_of image asked_tree; upper = None }
  begins =
      ap (tests_from (unit_of image asked_tree)) next-is
      ∙ ap (λ ws. record { phase = Testing (entry_of ws (first_due (e ++ asked image j ∷ spine image r))).cond; unit = unit_of image asked_tree; upper = None }) watches-are
      ∙ ap (λ (l : Watch). record { phase = Testing l.entry.cond; unit = unit_of image asked_tree; upper = None }) (watch-is e (asked image j) (spine image r) q refl)

  after-is : (f : Bool) → test_answered f asked_tree ≡ plug context (cut_tree f)
  after-is f =
      change-due (answer_at f) context (dressed image (e ++ asked image j ∷ spine image r) r) past (in-dressed image due (middle context) (e ++ asked image j ∷ spine image r) r has-due)
      ∙ ap (plug context) (at-dressed image due (answer_at f) (λ u. u) (middle context) (e ++ asked image j ∷ spine image r) r has-due ∙ answer-is-cut image j f e r q)

  shape-is : asking image (e ++ asked image j ∷ []) r ≡ dressed image (e ++ asked image j ∷ spine image r) r
  shape-is = asking-dressed image r (e ++ asked image j ∷ []) ∙ ap (λ x. dressed image x r) (append-one e (asked image j) (spine image r))

  module _ (costs : List ℕ) {Data : Type 0} (rules : Rules Data) (Represents : Data → FlowState → Type 0) (Calm : List ℕ → FlowState → Type 0) where
    -- one test
    one_test : (f : Bool) (d : Data) (js : List ℕ) (most : ℕ) → Says image costs rules Represents Calm j f js (unit_of image asked_tree) d most →
        Asks image costs rules Represents Calm (unit_of image (plug context (asking image (e ++ asked image j ∷ []) r))) d (unit_of image (plug context (cut_tree f))) js most
    one_test f d js most says =
        let u = unit_of image asked_tree in
        let to = unit_of image (plug context (cut_tree f)) in
        let first : Control = record { phase = Testing (line image j).cond; unit = u; upper = None } in
        let last : Control = record { phase = Testing says.place; unit = u; upper = None } in
        let moves : step rules costs image last says.between ≡ Moves (cost_of costs class.Cend) (tests_on to) (samples_on rules to says.after) =
        cend-step image costs rules says.ra says.place u says.between says.after f says.stands says.says ∙ ap (λ t. Moves (cost_of costs class.Cend) (tests_on (unit_of image t)) (samples_on rules (unit_of image t) says.after)) (after-is f) in
        let path : Steps rules image costs first d (says.charge + (cost_of costs class.Cend + 0)) (says.count + 1) (tests_on to) (samples_on rules to says.after) =
        append image costs rules Represents first last (tests_on to) d says.between (samples_on rules to says.after) says.charge (cost_of costs class.Cend + 0) says.count 1 says.steps (onward moves still) in
        let whole : Steps rules image costs (tests_on u) (samples_on rules u d) (says.charge + (cost_of costs class.Cend + 0)) (says.count + 1) (tests_on to) (samples_on rules to says.after) =
        subst (λ c. Steps rules image costs c (samples_on rules u d) (says.charge + (cost_of costs class.Cend + 0)) (says.count + 1) (tests_on to) (samples_on rules to says.after)) (sym begins)
        (subst (λ o. Steps rules image costs first (samples_from rules o d) (says.charge + (cost_of costs class.Cend + 0)) (says.count + 1) (tests_on to) (samples_on rules to says.after)) (sym next-is) path) in
        let done : Asks image costs rules Represents Calm u d to js most = record {
          after = says.after;
          charge = says.charge + (cost_of costs class.Cend + 0);
          count = says.count + 1;
          steps = whole;
          within = says.within;
          state = says.state;
          represents = says.represents;
          calm = says.calm;
        } in
        subst (λ t. Asks image costs rules Represents Calm (unit_of image (plug context t)) d to js most) (sym shape-is) done

module _ (parent : ℕ → ℕ) (image : Parts) (costs : List ℕ) {Data : Type 0} (rules : Rules Data) (Represents : Data → FlowState → Type 0) (Calm : List ℕ → FlowState → Type 0) (fires : ℕ → Bool) (tests : ℕ → ℕ)
    (conditions : (j : ℕ) (js : List ℕ) (u : UnitState) (d : Data) (state : FlowState) → Represents d state → Calm (j ∷ js) state → Says image costs rules Represents Calm j (fires j) js u d (tests j)) where
  mutual
    pub asks : (r : Rest) (context : Context) (e : List Watch) (d : Data) (state : FlowState) (js : List ℕ) → IsPast context → IsFitted parent context → any_due e ≡ false → Fits parent (middle context) (asking image e r) → Represents d state → Calm (looked_at image fires r ++ js) state →
        Asks image costs rules Represents Calm (unit_of image (plug context (asking image e r))) d (unit_of image (plug context (answered image fires e r))) js (tests_in tests r)
    asks (at_pause i) context e d state js past fit q own rep calm = nothing image costs rules Represents Calm (unit_of image (plug context (Leaf e (Pausing (pause_place image i))))) d state js 0 rep calm
    asks (ahead r nodes) context e d state js past fit q own rep calm = asks r context e d state js past fit q own rep calm
    asks (within j r) context e d state js past fit q own rep calm =
        let w = watch image j true ((line image j).weak && fires j) in
        let e' = e ++ w ∷ [] in
        let b = not ((line image j).weak) && fires j in
        let handler = (line image j).handler in
        let first = one_test parent image j r context e past fit q costs rules Represents Calm (fires j) d (unless_cut b (looked_at image fires r) ++ js) (tests j) (conditions j (unless_cut b (looked_at image fires r) ++ js) (unit_of image (asked_tree parent image j r context e past fit q)) d state rep calm) in
        both image costs rules Represents Calm (unit_of image (plug context (asking image (e ++ asked image j ∷ []) r))) (unit_of image (plug context (cut b (Leaf e (Running handler)) (asking image e' r)))) (unit_of image (plug context (cut b (Leaf e (Running handler)) (answered image fires e' r)))) d (unless_cut b (looked_at image fires r) ++ js) js (tests j) (tests_in tests r) (tests j + tests_in tests r) (omega arith) first (
        asks_cut image costs rules Represents Calm b context e handler (asking image e' r) (answered image fires e' r) first.after first.state (looked_at image fires r) js (tests_in tests r) first.represents first.calm (
        λ calm'. asks r context e' first.after first.state js past fit (undue-snoc e w q refl) (asking-fit image parent r (middle context) (e ++ asked image j ∷ []) e' own) first.represents calm'
        )
        )
    asks (group i rs) context e d state js past fit q own rep calm =
        asks_all rs no_more context e (fork_place image i) (first_child image i) d state js past fit q refl tt (subst (λ k. FitsGroup parent (middle context) k (asking_all image rs)) (sym (add-zero (first_child image i))) own) rep calm

    asks_all : (rs : Rests) (left : Group) (context : Context) (e : List Watch) (place lo : ℕ) (d : Data) (state : FlowState) (js : List ℕ) → IsPast context → IsFitted parent context → any_due e ≡ false → is_among due lo left ≡ false →
        FitsGroup parent (middle context) lo left → FitsGroup parent (middle context) (lo + size left) (asking_all image rs) → Represents d state → Calm (looked_at_all image fires rs ++ js) state →
        Asks image costs rules Represents Calm (unit_of image (plug context (Waits e place lo (append_group left (asking_all image rs))))) d (unit_of image (plug context (Waits e place lo (append_group left (answered_all image fires rs))))) js (tests_in_all tests rs)
    asks_all nobody left context e place lo d state js past fit q quiet fl fr rep calm = nothing image costs rules Represents Calm (unit_of image (plug context (Waits e place lo (append_group left no_more)))) d state js 0 rep calm
    asks_all (over rs) left context e place lo d state js past fit q quiet fl fr rep calm =
        let t = Leaf [] Finished in
        let unit_with : Group → UnitState = λ g. unit_of image (plug context (Waits e place lo g)) in
        let n : lo + size left + 1 ≡ lo + size (snoc left t) = omega arith ∙ ap (λ k. lo + k) (sym (size-snoc left t)) in
        between image costs rules Represents Calm (unit_with (append_group (snoc left t) (asking_all image rs))) (unit_with (append_group left (member t (asking_all image rs)))) (unit_with (append_group (snoc left t) (answered_all image fires rs))) (unit_with (append_group left (member t (answered_all image fires rs)))) d js (tests_in_all tests rs)
        (ap unit_with (append-snoc left t (asking_all image rs))) (ap unit_with (append-snoc left t (answered_all image fires rs))) (
        asks_all rs (snoc left t) context e place lo d state js past fit q (among-snoc lo left t quiet refl) (fit-snoc parent (middle context) left lo t fl fr.0 tt) (subst (λ k. FitsGroup parent (middle context) k (asking_all image rs)) n fr.2) rep calm
        )
    asks_all (going r rs) left context e place lo d state js past fit q quiet fl fr rep calm =
        let t = answered image fires [] r in
        let unit_with : Group → UnitState = λ g. unit_of image (plug context (Waits e place lo g)) in
        let n : lo + size left + 1 ≡ lo + size (snoc left t) = omega arith ∙ ap (λ k. lo + k) (sym (size-snoc left t)) in
        let frame : Frame = record { watches = e; at = place; lo = lo; before = left; behind = asking_all image rs } in
        let first = asks r (frame ∷ context) [] d state (looked_at_all image fires rs ++ js) (q, quiet, past) (fl, fr.0, fr.2, fit) refl fr.1 rep (subst (λ ks. Calm ks state) (append-assoc (looked_at image fires r) (looked_at_all image fires rs) js) calm) in
        let last = between image costs rules Represents Calm (unit_with (append_group (snoc left t) (asking_all image rs))) (unit_with (append_group left (member t (asking_all image rs)))) (unit_with (append_group (snoc left t) (answered_all image fires rs))) (unit_with (append_group left (member t (answered_all image fires rs)))) first.after js (tests_in_all tests rs)
        (ap unit_with (append-snoc left t (asking_all image rs))) (ap unit_with (append-snoc left t (answered_all image fires rs))) (
        asks_all rs (snoc left t) context e place lo first.after first.state js past fit q (among-snoc lo left t quiet (answered-undue image fires r (lo + size left) [] refl))
        (fit-snoc parent (middle context) left lo t fl fr.0 (answered-fit image fires parent r (lo + size left) [] [] fr.1)) (subst (λ k. FitsGroup parent (middle context) k (asking_all image rs)) n fr.2) first.represents first.calm
        ) in
        both image costs rules Represents Calm (unit_with (append_group left (member (asking image [] r) (asking_all image rs)))) (unit_with (append_group left (member t (asking_all image rs)))) (unit_with (append_group left (member t (answered_all image fires rs)))) d (looked_at_all image fires rs ++ js) js (tests_in tests r) (tests_in_all tests rs) (tests_in tests r + tests_in_all tests rs) (omega arith) first last

-- No free tick traps, and none is charged more than the bound.
use Rattle.std.proofs.Common.{ℤ, ◌≡◌, ◌≤◌, ◌+◌, ◌*◌, ◌==◌, map, ℕ, Bool, true, false, nat_le, List, [], ◌∷◌, Option, Some, None, refl, sym, ap, ◌∙◌, subst, inl, ⊎_elim, arith, length}
use Rattle.std.proofs.lemmas.Bool.{false≢true}
use Rattle.std.proofs.lemmas.Option.{same_Some}
use Rattle.mb_pfu.specs.declared.parts.Watch.{Watch}
use Rattle.mb_pfu.specs.Tree.{Activity, Running, Tree, Group, Leaf, Waits, no_more, member, each_slot, each_member, tests_begun, wakes, one, tally, tally_group}
use Rattle.mb_pfu.specs.Contexts.{Frame, Context}
use Rattle.tk_paths.proofs.SlotFacts.{middle, Judged, Cut, Kept, judged, judged_tree, first_cond, next_cond, if_some, test_answered, test_answered_among}
use Rattle.mb_pfu.specs.Rows.{renewed}
use Rattle.tk_paths.specs.declared.word.Word.{Word}
use Rattle.tk_paths.specs.declared.word.Word.TheVariants.{Does, Imm, Jump, Branch, Eot, Fork, End, Abrt, Leave, Call, Ret, Loop, Next, Drop, Cend}
use Rattle.tk_paths.proofs.Inner.{Image, State, Outcome, Goes, Traps, Stops, Phase, Testing, InTest, InTurns, stack, IsSound, test_next, test_at, test_effect, chosen, answer, turn_at, StepIn, Step, Path, still, onward, IsLoose, IsConfiguration, first, loose, begun_free}
use Rattle.tk_paths.proofs.Conditions.{upper_at, Cert, Line, Thread, Cond, IsBare, Reach, both_sides, loops_of, Ends, Over, With, Resumes, IsFine, IsAccepted, BoundsFreeTicks}
use Rattle.tk_paths.specs.declared.view.Side.{Side}
use Rattle.tk_paths.specs.declared.view.View.TheVariants.{Value}
use Rattle.tk_paths.proofs.Values.{old, Val, Around, FVal, CVal}
use Rattle.tk_paths.proofs.Rights.{old-is, old-within, AreRight, IsFrameRight, IsContextRight}
use Rattle.tk_paths.proofs.Settles.{thread-of}
use Rattle.tk_paths.proofs.Chains.{IsCounted, Turns, Owes, Chain}
use Rattle.tk_paths.proofs.Sounds.{sound-less}
use Rattle.tk_paths.proofs.Running.{Under, OwesIn, IsTurned, IsTurnKept}
use Rattle.tk_paths.proofs.Steps.{turn-kept}
use Rattle.tk_paths.proofs.Tests.{TVal, IsTesting, answers, fork-next, wakes-right, wakes-values}
use Rattle.tk_paths.proofs.Rests.{turned-rests}
use Rattle.tk_paths.proofs.Begins.{begun-testing, begun-bounded, testing-some, right-some, right-some-among, after-some, next-cond-line}
use Rattle.mb_isa.specs.declared.Class.TheVariants as class

module _ (image : Image) where
  mutual
    pub each-tally : (h : List Watch → List Watch) (d : Activity → Activity) (c k : ℕ) (t : Tree) → tally c k (each_slot h d t) ≡ tally c k t
    each-tally h d c k (Leaf watches activity) = refl
    each-tally h d c k (Waits watches at lo group) = ap (λ n. one (k == c) + n) (each-tally-among h d c lo group)

    each-tally-among : (h : List Watch → List Watch) (d : Activity → Activity) (c k : ℕ) (ts : Group) → tally_group c k (each_member h d ts) ≡ tally_group c k ts
    each-tally-among h d c k no_more = refl
    each-tally-among h d c k (member t ts) = let a = each-tally h d c k t in let b = each-tally-among h d c (k + 1) ts in omega (arith, a, b)

  leaf-tally : (c k : ℕ) (watches : List Watch) (activity : Activity) (j : Judged) → tally c k (judged_tree (λ w. Leaf w activity) j) ≤ tally c k (Leaf watches activity)
  leaf-tally c k watches activity (Cut left handler) = omega arith
  leaf-tally c k watches activity (Kept watches') = omega arith

  waits-tally : (c k at lo : ℕ) (watches : List Watch) (group : Group) (j : Judged) → tally c k (judged_tree (λ w. Waits w at lo group) j) ≤ tally c k (Waits watches at lo group)
  waits-tally c k at lo watches group (Cut left handler) = omega arith
  waits-tally c k at lo watches group (Kept watches') = omega arith

  some-tally : (c k n : ℕ) (o : Option ℕ) (t u : Tree) → tally c k t ≤ n → tally c k u ≤ n → tally c k (if_some o t u) ≤ n
  some-tally c k n None t u a b = b
  some-tally c k n (Some x) t u a b = a

  some-tally-among : (c k n : ℕ) (o : Option ℕ) (ts us : Group) → tally_group c k ts ≤ n → tally_group c k us ≤ n → tally_group c k (if_some o ts us) ≤ n
  some-tally-among c k n None ts us a b = b
  some-tally-among c k n (Some x) ts us a b = a

  mutual
    answered-tally : (fired : Bool) (c k : ℕ) (t : Tree) → tally c k (test_answered fired t) ≤ tally c k t
    answered-tally fired c k (Leaf watches activity) = leaf-tally c k watches activity (judged fired watches)
    answered-tally fired c k (Waits watches at lo group) =
        let r = answered-tally-among fired c lo group in
        some-tally c k (tally c k (Waits watches at lo group)) (first_cond watches) (judged_tree (λ w. Waits w at lo group) (judged fired watches)) (Waits watches at lo (test_answered_among fired group))
        (waits-tally c k at lo watches group (judged fired watches)) (omega (arith, r))

    answered-tally-among : (fired : Bool) (c k : ℕ) (ts : Group) → tally_group c k (test_answered_among fired ts) ≤ tally_group c k ts
    answered-tally-among fired c k no_more = omega arith
    answered-tally-among fired c k (member t ts) =
        let a = answered-tally fired c k t in
        let b = answered-tally-among fired c (k + 1) ts in
        some-tally-among c k (tally_group c k (member t ts)) (next_cond t) (member (test_answered fired t) ts) (member t (test_answered_among fired ts)) (omega (arith, a)) (omega (arith, b))

  pub sound-answered : (fired : Bool) (t : Tree) → IsSound image t → IsSound image (test_answered fired t)
  sound-answered fired t s = sound-less image t (test_answered fired t) (λ c. answered-tally fired c 0 t) s

  pub sound-each : (h : List Watch → List Watch) (d : Activity → Activity) (t : Tree) → IsSound image t → IsSound image (each_slot h d t)
  sound-each h d t s = sound-less image t (each_slot h d t) (λ c. let e = each-tally h d c 0 t in omega (arith, e)) s

  pub sound-one : (watches : List Watch) (activity : Activity) → IsSound image (Leaf watches activity)
  sound-one watches activity c = by (0 == c)
    where
      by : (b : Bool) → nat_le (one b) 1 ≡ true
      by true = refl
      by false = refl

module _ (image : Image) (cert : Cert) (accepted : IsAccepted image cert) where
  -- some number is there inside routines and loops
  turns-some : (l cs rest : List ℕ) → IsCounted cert l cs rest → (t : ℕ) × Turns cert l cs rest t
  turns-some [] cs rest h = (0, (h, refl))
  turns-some (x ∷ l) [] rest h = absurd h
  turns-some (x ∷ l) (c ∷ cs) rest h = let r = turns-some l cs rest h.2 in (c * h.0 + r.0, (h.0, r.0, h.1, r.1, refl))

  owes-some : (s : ℕ) (a : List ℕ) (k low place : ℕ) (links cs : List ℕ) → k ≤ length a → Chain cert s a low place links cs → (side : Side) × (n : ℕ) × Owes cert side k place links cs n
  owes-some s a k low place [] cs h c =
      let v = (thread-of image cert accepted place (Thread s a c.0) c.1).2 k h in
      let t = turns-some c.0 cs [] c.2 in
      let T : List ℕ → Type 0 = λ l. Turns cert l cs [] t.0 in
      (v.0, v.1 + (t.0 + 0), (v.1, t.0, 0, [], v.2, subst T (sym (ap loops_of c.1)) t.1, (refl, refl), refl))
  owes-some s a k low place (x ∷ links) cs h c =
      let r = owes-some s a k c.0 x links c.2 h c.6 in
      let t = turns-some c.1 cs c.2 c.5 in
      let T : List ℕ → Type 0 = λ l. Turns cert l cs c.2 t.0 in
      (r.0, cert.value place + (t.0 + r.1), (cert.value place, t.0, r.1, c.2, refl, subst T (sym (ap loops_of c.3)) t.1, r.2, refl))

  around-some : (k : ℕ) (before behind : Group) (i : ℕ) (V : Side → ℕ → Type 0) → AreRight image cert k before → AreRight image cert i behind → ((side : Side) × (n : ℕ) × V side n) → (side : Side) × (n : ℕ) × Around image cert before behind V side n
  around-some k no_more behind i V a b v =
      let r = right-some-among image cert accepted i behind b in
      (both_sides v.0 r.0, v.1 + r.1, (v.0, r.0, v.1, r.1, v.2, r.2, refl, refl))
  around-some k (member t ts) behind i V a b v =
      let q = right-some image cert accepted k t a.0 in
      let r = around-some (k + 1) ts behind i V a.1 b v in
      (both_sides q.0 r.0, q.1 + r.1, (q.0, r.0, q.1, r.1, q.2, r.2, refl, refl))

  frame-some : (s : ℕ) (f : Frame) (V : Side → ℕ → Type 0) → IsFrameRight image cert s f → ((side : Side) × (n : ℕ) × V side n) → (side : Side) × (n : ℕ) × FVal image cert f V side n
  frame-some s f V r v =
      let g = around-some f.lo f.before f.behind _ V r.1 r.2 v in
      let k = r.0.2 in
      let e = old-is image k.0 f.watches k.1 in
      let w = old-within image k.0 f.watches k.1 in
      let q = after-some image cert accepted (stack f.watches) (old f.watches) f.at s g.0 (subst (λ i. i ≤ length (stack f.watches)) (sym e) w) (fork-next image cert accepted f.at s f.lo _ f.watches r.0.0 r.0.1) in
      (q.0, g.1 + q.1, (g.0, g.1, q.1, g.2, q.2, refl))

  context-some : (context : Context) (V : Side → ℕ → Type 0) → IsContextRight image cert context → ((side : Side) × (n : ℕ) × V side n) → (side : Side) × (n : ℕ) × CVal image cert context V side n
  context-some [] V r v = v
  context-some (f ∷ fs) V r v = context-some fs (FVal image cert f V) r.1 (frame-some (middle fs) f V r.0 v)

  -- a tick's tests
  pub record IsTested (charged : ℕ) (t : Tree) (links counters : List ℕ) (upper : Option ℤ) : Type 0 where
    pub upper_is : upper ≡ None
    pub links_are : links ≡ []
    pub counters_are : counters ≡ []
    pub sound : IsSound image t
    pub testing : IsTesting image cert 0 t
    pub covers : Under image cert charged (TVal image cert t)

  abbrev pub InCond : Tree → ℕ → Side → ℕ → Type 0
  InCond t place side n = (fired : Bool) × (m : ℕ) × TVal image cert (test_answered fired t) side m × (n ≡ cert.value place + m)

  pub record IsInTest (charged place : ℕ) (t : Tree) (links counters : List ℕ) (upper : Option ℤ) : Type 0 where
    pub upper_is : upper ≡ upper_at image cert place
    pub links_are : links ≡ []
    pub counters_are : counters ≡ []
    pub sound : IsSound image t
    pub testing : IsTesting image cert 0 t
    pub line : cert.line place ≡ Cond
    pub cond : ℕ
    pub is_next : next_cond t ≡ Some cond
    pub covers : Under image cert charged (InCond t place)

  abbrev pub IsKeptIn : ℕ → Tree → List ℕ → List ℕ → Option ℤ → Phase → Type 0
  IsKeptIn charged t links counters upper Testing = IsTested charged t links counters upper
  IsKeptIn charged t links counters upper (InTest place) = IsInTest charged place t links counters upper
  IsKeptIn charged t links counters upper InTurns = IsTurned image cert charged t links counters upper

  abbrev pub IsKept : ℕ → State → Type 0
  IsKept charged s = IsKeptIn charged s.tree s.links s.counters s.upper s.phase

  abbrev pub IsOutKept : ℕ → Outcome → Type 0
  IsOutKept charged (Goes c next) = IsKept (charged + c) next
  IsOutKept charged (Traps kind) = ⊥
  IsOutKept charged Stops = Unit {0}

  turn-out : (charged : ℕ) (o : Outcome) → IsTurnKept image cert charged o → IsOutKept charged o
  turn-out charged (Goes c next) h = let K : Phase → Type 0 = IsKeptIn (charged + c) next.tree next.links next.counters next.upper in subst K (sym h.0) h.1
  turn-out charged (Traps kind) h = h
  turn-out charged Stops h = h

  tests-kept : (charged : ℕ) (s : State) → IsTested charged s.tree s.links s.counters s.upper → (o : Option ℕ) → next_cond s.tree ≡ o → IsOutKept charged (test_next image s o)
  tests-kept charged s k None e = (
    sound-each image (λ w. w) wakes s.tree k.sound,
    inl (record {
      upper_is = refl;
      links_are = k.links_are;
      counters_are = k.counters_are;
      right = (wakes-right image cert accepted 0 s.tree k.testing).0;
      covers = λ side n h.
          let v = wakes-values image cert accepted 0 s.tree k.testing e side n h in
          let b : image.base + (charged + v.0) ≤ cert.bound = k.covers side v.0 v.1 in
          let w = v.2 in
          omega (arith, b, w);
    }),
  )
  tests-kept charged s k (Some place) e =
      record {
        upper_is = sym (next-cond-line image cert accepted 0 s.tree place k.testing e).1;
        links_are = k.links_are;
        counters_are = k.counters_are;
        sound = k.sound;
        testing = k.testing;
        line = (next-cond-line image cert accepted 0 s.tree place k.testing e).0;
        cond = place;
        is_next = e;
        covers = λ side n h.
            let v = (answers image cert accepted 0 s.tree place h.0 k.testing e).values side h.1 h.2 in
            let b : image.base + (charged + v.0) ≤ cert.bound = k.covers side v.0 v.1 in
            let w = v.2 in
            let x = h.3 in
            omega (arith, b, w, x);
      }

  module _ (charged place : ℕ) (s : State) (k : IsInTest charged place s.tree s.links s.counters s.upper) where
    -- the condition goes on
    on : (c place' : ℕ) (upper : Option ℤ) → upper ≡ upper_at image cert place' → cert.line place' ≡ Cond → c + cert.value place' ≤ cert.value place → IsInTest (charged + c) place' s.tree s.links s.counters upper
    on c place' upper u line less =
        record {
          upper_is = u;
          links_are = k.links_are;
          counters_are = k.counters_are;
          sound = k.sound;
          testing = k.testing;
          line = line;
          cond = k.cond;
          is_next = k.is_next;
          covers = λ side n h.
              let b : image.base + (charged + (cert.value place + h.1)) ≤ cert.bound = k.covers side (cert.value place + h.1) (h.0, h.1, h.2, refl) in
              let x = h.3 in
              omega (arith, b, less, x);
        }

    flat : (c place' : ℕ) → Reach (Some (cert.value place)) c (Some (cert.value place')) → c + cert.value place' ≤ cert.value place
    flat c place' r =
        let p = r (cert.value place') refl in
        let same : cert.value place ≡ p.0 = same_Some (cert.value place) p.0 p.1 in
        let less = p.2 in
        omega (arith, same, less)

    chosen-kept : (to : ℕ) (choices : List Bool) → IsFine image cert place Cond (Branch (Some to)) → IsOutKept charged (chosen image to (place + 1) s choices)
    chosen-kept to [] f = tt
    chosen-kept to (true ∷ choices) f = on (image.cost class.Taken) to None (sym f.1.1) f.1.0 (flat (image.cost class.Taken) to (f.3 Value tt))
    chosen-kept to (false ∷ choices) f = on (image.cost class.Untaken) (place + 1) None (sym f.0.1) f.0.0 (flat (image.cost class.Untaken) (place + 1) (f.2 Value tt))

    answer-kept : (choices : List Bool) → image.cost class.Cend ≤ cert.value place → IsOutKept charged (answer image s choices)
    answer-kept [] f = tt
    answer-kept (fired ∷ choices) f =
        record {
          upper_is = refl;
          links_are = k.links_are;
          counters_are = k.counters_are;
          sound = sound-answered image fired s.tree k.sound;
          testing = (answers image cert accepted 0 s.tree k.cond fired k.testing k.is_next).testing;
          covers = λ side n h.
              let b : image.base + (charged + (cert.value place + n)) ≤ cert.bound = k.covers side (cert.value place + n) (fired, n, h, refl) in
              omega (arith, b, f);
        }

    abbrev is_cond : Line → Bool
    is_cond Cond = true
    is_cond other = false

    test-kept : (w : Word) → IsFine image cert place Cond w → IsOutKept charged (test_effect image place s w)
    test-kept (Does c) f = on (image.cost c) (place + 1) None (sym f.0.1) f.0.0 (flat (image.cost c) (place + 1) (f.1 Value tt))
    test-kept (Imm u) f = on (image.cost class.Imm) (place + 1) (Some u) (sym f.1) f.0 (flat (image.cost class.Imm) (place + 1) (f.2 Value tt))
    test-kept (Jump None) f = absurd f
    test-kept (Jump (Some to)) f = on (image.cost class.Jump) to None (sym f.0.1) f.0.0 (flat (image.cost class.Jump) to (f.1 Value tt))
    test-kept (Branch None) f = absurd f
    test-kept (Branch (Some to)) f = chosen-kept to s.choices f
    test-kept Eot f = absurd f.1
    test-kept (Fork lo count) f = absurd f.1
    test-kept End f = absurd f
    test-kept (Abrt j) f = absurd f
    test-kept Leave f = absurd f
    test-kept (Call to) f = absurd f.5
    test-kept Ret f = absurd (false≢true (sym (ap is_cond f.1)))
    test-kept (Loop turns) f = absurd f
    test-kept (Next to) f = absurd f
    test-kept Drop f = absurd f
    test-kept Cend f = answer-kept s.choices f.1

    tests-at : (w : Option Word) → image.code place s.upper ≡ w → IsOutKept charged (test_at image place s w)
    tests-at w e =
        let B : Line → Type 0 = λ x. IsBare x → ⊥ in
        let r = accepted.place place (subst B (sym k.line) (λ b. b)) in
        let K : Option Word → Type 0 = λ x. IsOutKept charged (test_at image place s x) in
        let F : Line → Type 0 = λ x. IsFine image cert place x r.0 in
        subst K (sym r.1 ∙ ap (image.code place) (sym k.upper_is) ∙ e) (test-kept r.0 (subst F k.line r.2))

  step-kept-in : (charged : ℕ) (s : State) (o : Outcome) (p : Phase) → s.phase ≡ p → IsKeptIn charged s.tree s.links s.counters s.upper p → StepIn image s o p → IsOutKept charged o
  step-kept-in charged s o Testing e k step = let K : Outcome → Type 0 = IsOutKept charged in subst K (sym step) (tests-kept charged s k (next_cond s.tree) refl)
  step-kept-in charged s o (InTest place) e k step = let K : Outcome → Type 0 = IsOutKept charged in subst K (sym step) (tests-at charged place s k (image.code place s.upper) refl)
  step-kept-in charged s o InTurns e k step =
      let t = step.0 in
      let K : Outcome → Type 0 = IsOutKept charged in
      subst K (sym step.1) (turn-out charged (turn_at image t.context t.watches t.place s (image.code t.place s.upper)) (turn-kept image cert accepted charged s e k t))

  pub step-kept : (charged : ℕ) (s : State) (o : Outcome) → IsKept charged s → Step image s o → IsOutKept charged o
  step-kept charged s o k step = step-kept-in charged s o s.phase refl k step

  path-kept : (charged n : ℕ) (s last : State) → IsKept charged s → Path image s n last → IsKept (charged + n) last
  path-kept charged n s last k still = let K : ℕ → Type 0 = λ m. IsKept m last in let e : charged ≡ charged + 0 = omega arith in subst K e k
  path-kept charged n s last k (onward {rest = rest} charge next step more) =
      let K : ℕ → Type 0 = λ m. IsKept m last in
      let e : charged + charge + rest ≡ charged + (charge + rest) = omega arith in
      subst K e (path-kept (charged + charge) rest next last (step-kept charged s (Goes charge next) k step) more)

  -- what is kept is charged at most the bound
  under-within : (charged : ℕ) (V : Side → ℕ → Type 0) → Under image cert charged V → ((side : Side) × (n : ℕ) × V side n) → image.base + charged ≤ cert.bound
  under-within charged V u v = let b : image.base + (charged + v.1) ≤ cert.bound = u v.0 v.1 v.2 in omega (arith, b)

  pub kept-within : (charged : ℕ) (t : Tree) (links counters : List ℕ) (upper : Option ℤ) (p : Phase) → IsKeptIn charged t links counters upper p → image.base + charged ≤ cert.bound
  kept-within charged t links counters upper Testing k = under-within charged (TVal image cert t) k.covers (testing-some image cert accepted 0 t k.testing)
  kept-within charged t links counters upper (InTest place) k =
      let a = (answers image cert accepted 0 t k.cond true k.testing k.is_next).testing in
      let v = testing-some image cert accepted 0 (test_answered true t) a in
      under-within charged (InCond t place) k.covers (v.0, cert.value place + v.1, (true, v.1, v.2, refl))
  kept-within charged t links counters upper InTurns k =
      ⊎_elim (λ c. under-within charged (Val image cert t) c.covers (right-some image cert accepted 0 t c.right))
      (λ b.
      let r = b.running in
      let j = b.runs in
      let e = old-is image r.kept.0 j.watches r.kept.1 in
      let w = old-within image r.kept.0 j.watches r.kept.1 in
      let o = owes-some (middle j.context) (stack j.watches) (old j.watches) 0 j.place links counters (subst (λ i. i ≤ length (stack j.watches)) (sym e) w) r.chain in
      under-within charged (CVal image cert j.context (OwesIn image cert j.watches j.place links counters)) r.covers (context-some j.context (OwesIn image cert j.watches j.place links counters) r.round o)) k.1

  loose-covers : (t : Tree) → IsLoose image 0 t → Under image cert 0 (TVal image cert (tests_begun t))
  loose-covers t l side n h =
      let b = begun-bounded image cert accepted 0 t l side n h in
      by b.end b.most b.resumes b.within
    where
      by : (e : Ends) (most : ℕ) → Resumes image cert 0 e most → n ≤ most → image.base + (0 + n) ≤ cert.bound
      by Over most r w = let b : image.base ≤ cert.bound = accepted.base in let z : most ≡ 0 = r in omega (arith, b, w, z)
      by (With x) most r w = let b : image.base + most ≤ cert.bound = accepted.again x most r in omega (arith, b, w)

  pub begun-kept : (t : Tree) (choices : List Bool) → IsConfiguration image t → IsKept 0 (begun_free image t choices)
  begun-kept t choices first =
      record {
        upper_is = refl;
        links_are = refl;
        counters_are = refl;
        sound = sound-one image [] (Running (image.start 0));
        testing = (accepted.start.0, tt, refl, accepted.start.1);
        covers = λ side n h. let b : image.base + n ≤ cert.bound = accepted.first side n h in omega (arith, b);
      }
  begun-kept t choices (loose l s) =
      record {
        upper_is = refl;
        links_are = refl;
        counters_are = refl;
        sound = sound-each image (map renewed) (λ x. x) t s;
        testing = (begun-testing image cert 0 t l).0;
        covers = loose-covers t l;
      }

  pub bounds : BoundsFreeTicks image cert.bound
  bounds = record {
    charged = λ t choices n s c path.
        let b : image.base + (0 + n) ≤ cert.bound = kept-within (0 + n) s.tree s.links s.counters s.upper s.phase (path-kept 0 n (begun_free image t choices) s (begun-kept t choices c) path) in
        omega (arith, b);
    untrapped = λ t choices n s kind c path step. step-kept (0 + n) s (Traps kind) (path-kept 0 n (begun_free image t choices) s (begun-kept t choices c) path) step;
  }

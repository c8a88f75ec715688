-- The conditions at a tick's start: one after another comes off the numbers, and resuming is what is left.
use Rattle.std.proofs.Common.{◌≡◌, ◌⊎◌, ◌+◌, ◌++◌, ℕ, suc, Bool, true, false, not, ◌&&◌, ◌||◌, if◌then◌else◌, List, [], ◌∷◌, Option, Some, None, refl, sym, ap, ◌∙◌, subst, inl, inr, arith, length}
use Rattle.std.proofs.lemmas.Bool.{false≢true}
use Rattle.std.proofs.lemmas.Option.{none-some, same_Some}
use Rattle.mb_pfu.specs.declared.parts.Watch.{Watch}
use Rattle.mb_pfu.specs.Tree.{Running, Pausing, Finished, Tree, Group, Leaf, Waits, no_more, member, size, has_ended, all_ended, each_member, wakes, all_woken}
use Rattle.mb_pfu.specs.Rows.{answered, any_due, or_else}
use Rattle.tk_paths.proofs.SlotFacts.{Judged, Cut, Kept, behind_one, judged, judged_tree, first_cond, next_cond, next_cond_among, if_some, test_answered, test_answered_among}
use Rattle.tk_paths.specs.declared.word.Word.TheVariants.{Eot, Fork}
use Rattle.tk_paths.proofs.Inner.{Image, stack, IsListed}
use Rattle.tk_paths.specs.declared.view.Side.{Side}
use Rattle.tk_paths.specs.declared.view.Side.TheVariants.{ToEnd}
use Rattle.tk_paths.proofs.Conditions.{Cert, Thread, both_sides, After, IsPlain, IsAt, AreAborts, IsAccepted}
use Rattle.tk_paths.proofs.Values.{old, Dom, Val, GVal}
use Rattle.tk_paths.proofs.Rights.{AreOld, old-is, IsRight, AreRight}
use Rattle.tk_paths.proofs.Settles.{word-of, read-plain, aborts-of}

abbrev pub when_due : Bool → Type 0 → Type 0 → Type 0
when_due true P Q = P
when_due false P Q = Q

module _ (image : Image) (cert : Cert) where
  -- what the conditions that are due, and then a slot, may come to; the first entry has number i
  abbrev pub Judging : ℕ → List Watch → (Side → ℕ → Type 0) → Side → ℕ → Type 0
  Judging i [] inner side n = inner side n
  Judging i (l ∷ watches) inner side n =
      when_due l.due
      ((m : ℕ) × (n ≡ cert.value l.entry.cond + m) × (((l.entry.weak ≡ false) × (cert.number side i l.entry.handler ≡ Some m)) ⊎ Judging (i + 1) watches inner side m))
      (Judging (i + 1) watches inner side n)

  abbrev mutual
    pub TVal : Tree → Side → ℕ → Type 0
    TVal (Leaf watches (Running place)) side n = cert.number side (length (stack watches)) place ≡ Some n
    TVal (Leaf watches (Pausing place)) side n = Judging 0 watches (λ x m. cert.number x (length (stack watches)) (place + 1) ≡ Some m) side n
    TVal (Leaf watches Finished) side n = (side ≡ ToEnd) × (n ≡ 0)
    TVal (Waits watches at lo group) side n =
        Judging 0 watches (λ x m. (y : Side) × (g r : ℕ) × TGVal group y g × After image cert (stack watches) (length (stack watches)) at y x r × (m ≡ g + r)) side n

    pub TGVal : Group → Side → ℕ → Type 0
    TGVal no_more side n = (side ≡ ToEnd) × (n ≡ 0)
    TGVal (member t ts) side n = (x y : Side) × (p q : ℕ) × TVal t x p × TGVal ts y q × (side ≡ both_sides x y) × (n ≡ p + q)

  abbrev pub AreAged : List Watch → Type 0
  AreAged [] = Unit {0}
  AreAged (l ∷ watches) = (l.entry.aged ≡ true) × (l.entry.fired ≡ true → l.entry.weak ≡ true) × IsListed image l × AreAged watches

  pub aged-old : (watches : List Watch) → AreAged watches → AreOld image (length (stack watches)) watches
  aged-old [] h = tt
  aged-old (l ∷ watches) h = (h.0, h.1, h.2, aged-old watches h.3)

  abbrev mutual
    pub IsTesting : ℕ → Tree → Type 0
    IsTesting s (Leaf watches (Running place)) = (cert.line place ≡ Thread s (stack watches) []) × AreAged watches × (any_due watches ≡ false) × IsPlain image cert place
    IsTesting s (Leaf watches (Pausing place)) = (image.is_pause place s (stack watches) ≡ true) × AreAged watches
    IsTesting s (Leaf watches Finished) = watches ≡ []
    IsTesting s (Waits watches at lo group) =
        (image.is_fork at s (stack watches) ≡ true) × (image.code at None ≡ Some (Fork lo (size group))) × AreAged watches × (all_ended group ≡ false) × AreTesting lo group

    pub AreTesting : ℕ → Group → Type 0
    AreTesting k no_more = Unit {0}
    AreTesting k (member t ts) = IsTesting k t × AreTesting (k + 1) ts

  -- one condition of a slot is answered
  abbrev pub IsJudged : ℕ → ℕ → List ℕ → ℕ → List Watch → (Side → ℕ → Type 0) → (Side → ℕ → Type 0) → Judged → Type 0
  IsJudged s i outside c watches inner W (Kept watches') = (stack watches' ≡ stack watches) × AreAged watches' × Dom (cert.value c) W (Judging i watches' inner)
  IsJudged s i outside c watches inner W (Cut left handler) =
      (cert.line handler ≡ Thread s (outside ++ stack left) []) × AreAged left × (any_due left ≡ false)
      × ((side : Side) (m : ℕ) → cert.number side (i + length (stack left)) handler ≡ Some m → W side (cert.value c + m)) × IsPlain image cert handler

  append_nil : (a : List ℕ) → a ++ [] ≡ a
  append_nil [] = refl
  append_nil (x ∷ a) = ap (λ b. x ∷ b) (append_nil a)

  append_assoc : (a : List ℕ) (x : ℕ) (b : List ℕ) → (a ++ x ∷ []) ++ b ≡ a ++ x ∷ b
  append_assoc [] x b = refl
  append_assoc (y ∷ a) x b = ap (λ c. y ∷ c) (append_assoc a x b)

  -- the first entry is due
  judges-here : (s i : ℕ) (outside : List ℕ) (c : ℕ) (l : Watch) (watches : List Watch) (inner : Side → ℕ → Type 0) → AreAged (l ∷ watches) → AreAborts image cert s outside (stack (l ∷ watches)) → l.entry.cond ≡ c → (fired weak : Bool) → l.entry.weak ≡ weak →
      IsJudged s i outside c (l ∷ watches) inner (λ side n. (m : ℕ) × (n ≡ cert.value l.entry.cond + m) × (((l.entry.weak ≡ false) × (cert.number side i l.entry.handler ≡ Some m)) ⊎ Judging (i + 1) watches inner side m))
      (if fired && not weak then Cut [] l.entry.handler else Kept (answered fired l ∷ watches))
  judges-here s i outside c l watches inner h a ec true false ew = (
    ap cert.line h.2.2 ∙ a.1.0 ∙ ap (λ x. Thread s x []) (sym (append_nil outside)),
    tt,
    refl,
    λ side m e. let same : i ≡ i + 0 = omega arith in (m, ap (λ x. cert.value x + m) (sym ec), inl (ew, ap (λ j. cert.number side j l.entry.handler) same ∙ e)),
    (let P : ℕ → Type 0 = IsPlain image cert in subst P (sym h.2.2) a.1.1),
  )
  judges-here s i outside c l watches inner h a ec true true ew =
      (refl, (h.0, (λ e. ew), h.2, h.3), λ side n e. (cert.value l.entry.cond + n, (n, refl, inr e), (let same : cert.value l.entry.cond ≡ cert.value c = ap cert.value ec in omega (arith, same))))
  judges-here s i outside c l watches inner h a ec false weak ew =
      (refl, (h.0, (λ e. absurd (false≢true e)), h.2, h.3), λ side n e. (cert.value l.entry.cond + n, (n, refl, inr e), (let same : cert.value l.entry.cond ≡ cert.value c = ap cert.value ec in omega (arith, same))))

  -- it isn't
  judges-inside : (s i : ℕ) (outside : List ℕ) (c : ℕ) (l : Watch) (watches : List Watch) (inner : Side → ℕ → Type 0) → AreAged (l ∷ watches) → l.due ≡ false → (j : Judged) →
      IsJudged s (i + 1) (outside ++ l.entry.number ∷ []) c watches inner (Judging (i + 1) watches inner) j → IsJudged s i outside c (l ∷ watches) inner (Judging (i + 1) watches inner) (behind_one l j)
  judges-inside s i outside c l watches inner h d (Kept watches') k =
      let D : Bool → Type 0 = λ b. Dom (cert.value c) (Judging (i + 1) watches inner)
      (λ side n. when_due b ((m : ℕ) × (n ≡ cert.value l.entry.cond + m) × (((l.entry.weak ≡ false) × (cert.number side i l.entry.handler ≡ Some m)) ⊎ Judging (i + 1) watches' inner side m)) (Judging (i + 1) watches' inner side n)) in
      (ap (λ a. l.entry.number ∷ a) k.0, (h.0, h.1, h.2, k.1), subst D (sym d) k.2)
  judges-inside s i outside c l watches inner h d (Cut left handler) k = (
    k.0 ∙ ap (λ x. Thread s x []) (append_assoc outside l.entry.number (stack left)),
    (h.0, h.1, h.2, k.1),
    ap (λ b. b || any_due left) d ∙ k.2,
    λ side m e. let same : (i + 1) + length (stack left) ≡ i + suc (length (stack left)) = omega arith in k.3 side m (ap (λ j. cert.number side j handler) same ∙ e),
    k.4,
  )

  judges : (s i : ℕ) (outside : List ℕ) (c : ℕ) (watches : List Watch) (inner : Side → ℕ → Type 0) (fired : Bool) → AreAged watches → AreAborts image cert s outside (stack watches) → first_cond watches ≡ Some c →
      IsJudged s i outside c watches inner (Judging i watches inner) (judged fired watches)
  judges s i outside c [] inner fired h a e = absurd (none-some c e)
  judges s i outside c (l ∷ watches) inner fired h a e = by l.due refl e (λ q. judges s (i + 1) (outside ++ l.entry.number ∷ []) c watches inner fired h.3 a.2 q)
    where
      by : (d : Bool) → l.due ≡ d → (if d then Some l.entry.cond else first_cond watches) ≡ Some c →
          (first_cond watches ≡ Some c → IsJudged s (i + 1) (outside ++ l.entry.number ∷ []) c watches inner (Judging (i + 1) watches inner) (judged fired watches)) →
          IsJudged s i outside c (l ∷ watches) inner
          (λ side n. when_due d ((m : ℕ) × (n ≡ cert.value l.entry.cond + m) × (((l.entry.weak ≡ false) × (cert.number side i l.entry.handler ≡ Some m)) ⊎ Judging (i + 1) watches inner side m)) (Judging (i + 1) watches inner side n))
          (if d then (if fired && not l.entry.weak then Cut [] l.entry.handler else Kept (answered fired l ∷ watches)) else behind_one l (judged fired watches))
      by true d q ih = judges-here s i outside c l watches inner h a (same_Some l.entry.cond c q) fired l.entry.weak refl
      by false d q ih = judges-inside s i outside c l watches inner h d (judged fired watches) (ih q)

  -- where nothing is due, nothing comes before the slot
  judging-none : (i : ℕ) (watches : List Watch) (inner : Side → ℕ → Type 0) → first_cond watches ≡ None → Dom 0 inner (Judging i watches inner)
  judging-none i [] inner e = λ side n h. (n, h, omega arith)
  judging-none i (l ∷ watches) inner e = by l.due e (λ q. judging-none (i + 1) watches inner q)
    where
      by : (d : Bool) → (if d then Some l.entry.cond else first_cond watches) ≡ None → (first_cond watches ≡ None → Dom 0 inner (Judging (i + 1) watches inner)) →
          Dom 0 inner (λ side n. when_due d ((m : ℕ) × (n ≡ cert.value l.entry.cond + m) × (((l.entry.weak ≡ false) × (cert.number side i l.entry.handler ≡ Some m)) ⊎ Judging (i + 1) watches inner side m)) (Judging (i + 1) watches inner side n))
      by true q ih = absurd (none-some l.entry.cond (sym q))
      by false q ih = ih q

  judging-in : (i : ℕ) (watches : List Watch) (inner : Side → ℕ → Type 0) → first_cond watches ≡ None → Dom 0 (Judging i watches inner) inner
  judging-in i [] inner e = λ side n h. (n, h, omega arith)
  judging-in i (l ∷ watches) inner e = by l.due e (λ q. judging-in (i + 1) watches inner q)
    where
      by : (d : Bool) → (if d then Some l.entry.cond else first_cond watches) ≡ None → (first_cond watches ≡ None → Dom 0 (Judging (i + 1) watches inner) inner) →
          Dom 0 (λ side n. when_due d ((m : ℕ) × (n ≡ cert.value l.entry.cond + m) × (((l.entry.weak ≡ false) × (cert.number side i l.entry.handler ≡ Some m)) ⊎ Judging (i + 1) watches inner side m)) (Judging (i + 1) watches inner side n)) inner
      by true q ih = absurd (none-some l.entry.cond (sym q))
      by false q ih = ih q

  pub undue : (watches : List Watch) → any_due watches ≡ false → first_cond watches ≡ None
  undue [] h = refl
  undue (l ∷ watches) h = by l.due h (λ q. undue watches q)
    where
      by : (d : Bool) → d || any_due watches ≡ false → (any_due watches ≡ false → first_cond watches ≡ None) → (if d then Some l.entry.cond else first_cond watches) ≡ None
      by true q ih = absurd (false≢true (sym q))
      by false q ih = ih q

  module _ (accepted : IsAccepted image cert) where
    pub record IsAnswered (s : ℕ) (t : Tree) (c : ℕ) (u : Tree) : Type 0 where
      pub testing : IsTesting s u
      pub ended : has_ended u ≡ has_ended t
      pub values : Dom (cert.value c) (TVal t) (TVal u)

    pub record AreAnswered (k : ℕ) (ts : Group) (c : ℕ) (us : Group) : Type 0 where
      pub testing : AreTesting k us
      pub ended : all_ended us ≡ all_ended ts
      pub same_size : size us ≡ size ts
      pub values : Dom (cert.value c) (TGVal ts) (TGVal us)

    pub pause-aborts : (place s : ℕ) (watches : List Watch) → image.is_pause place s (stack watches) ≡ true → AreAborts image cert s [] (stack watches)
    pause-aborts place s watches h = aborts-of image cert accepted place s (stack watches) (accepted.pause place s (stack watches) h).line

    pub fork-aborts : (place s : ℕ) (watches : List Watch) → image.is_fork place s (stack watches) ≡ true → AreAborts image cert s [] (stack watches)
    fork-aborts place s watches h = aborts-of image cert accepted place s (stack watches) (accepted.fork place s (stack watches) h).line

    -- a slot that is cut
    cut-answered : (s c : ℕ) (watches left : List Watch) (handler : ℕ) (t : Tree) (inner : Side → ℕ → Type 0) → has_ended t ≡ false → IsJudged s 0 [] c watches inner (TVal t) (Cut left handler) → IsAnswered s t c (Leaf left (Running handler))
    cut-answered s c watches left handler t inner e j =
        record {
          testing = (j.0, j.1, j.2, j.4);
          ended = sym e;
          values = λ side n h. let same : length (stack left) ≡ 0 + length (stack left) = omega arith in (cert.value c + n, j.3 side n (ap (λ i. cert.number side i handler) (sym same) ∙ h), omega arith);
        }

    pause-answered : (s c place : ℕ) (watches : List Watch) → image.is_pause place s (stack watches) ≡ true → (j : Judged) →
        IsJudged s 0 [] c watches (λ x m. cert.number x (length (stack watches)) (place + 1) ≡ Some m) (TVal (Leaf watches (Pausing place))) j →
        IsAnswered s (Leaf watches (Pausing place)) c (judged_tree (λ w. Leaf w (Pausing place)) j)
    pause-answered s c place watches l (Cut left handler) j = cut-answered s c watches left handler (Leaf watches (Pausing place)) (λ x m. cert.number x (length (stack watches)) (place + 1) ≡ Some m) refl j
    pause-answered s c place watches l (Kept watches') j =
        let P : List ℕ → Type 0 = λ a. image.is_pause place s a ≡ true in
        let D : List ℕ → Type 0 = λ a. Dom (cert.value c) (TVal (Leaf watches (Pausing place))) (Judging 0 watches' (λ x m. cert.number x (length a) (place + 1) ≡ Some m)) in
        record { testing = (subst P (sym j.0) l, j.1); ended = refl; values = subst D (sym j.0) j.2 }

    abbrev pub Within : List ℕ → ℕ → Group → Side → ℕ → Type 0
    Within a at group x m = (y : Side) × (g r : ℕ) × TGVal group y g × After image cert a (length a) at y x r × (m ≡ g + r)

    fork-answered : (s c at lo : ℕ) (watches : List Watch) (group : Group) → IsTesting s (Waits watches at lo group) → (j : Judged) →
        IsJudged s 0 [] c watches (Within (stack watches) at group) (TVal (Waits watches at lo group)) j → IsAnswered s (Waits watches at lo group) c (judged_tree (λ w. Waits w at lo group) j)
    fork-answered s c at lo watches group l (Cut left handler) j = cut-answered s c watches left handler (Waits watches at lo group) (Within (stack watches) at group) refl j
    fork-answered s c at lo watches group l (Kept watches') j =
        let P : List ℕ → Type 0 = λ a. image.is_fork at s a ≡ true in
        let D : List ℕ → Type 0 = λ a. Dom (cert.value c) (TVal (Waits watches at lo group)) (Judging 0 watches' (Within a at group)) in
        record { testing = (subst P (sym j.0) l.0, l.1, j.1, l.3, l.4); ended = refl; values = subst D (sym j.0) j.2 }

    -- a test below a slot that waits
    below-answered : (s c at lo : ℕ) (watches : List Watch) (group group' : Group) → first_cond watches ≡ None → IsTesting s (Waits watches at lo group) → AreAnswered lo group c group' → IsAnswered s (Waits watches at lo group) c (Waits watches at lo group')
    below-answered s c at lo watches group group' e l j =
        let C : ℕ → Type 0 = λ n. image.code at None ≡ Some (Fork lo n) in
        record {
          testing = (l.0, subst C (sym j.same_size) l.1, l.2, j.ended ∙ l.3, j.testing);
          ended = refl;
          values = λ side n h.
              let x = judging-none 0 watches (Within (stack watches) at group') e side n h in
              let w = x.1 in
              let y = j.values w.0 w.1 w.3 in
              let z = judging-in 0 watches (Within (stack watches) at group) e side (y.0 + w.2) (w.0, y.0, w.2, y.1, w.4, refl) in
              (z.0, z.1, (let a = x.2 in let b = w.5 in let d = y.2 in let f = z.2 in omega (arith, a, b, d, f)));
        }

    first-answered : (k c : ℕ) (t u : Tree) (ts : Group) → AreTesting k (member t ts) → IsAnswered k t c u → AreAnswered k (member t ts) c (member u ts)
    first-answered k c t u ts l j =
        record {
          testing = (j.testing, l.1);
          ended = ap (λ b. b && all_ended ts) j.ended;
          same_size = refl;
          values = λ side n h. let y = j.values h.0 h.2 h.4 in (y.0 + h.3, (h.0, h.1, y.0, h.3, y.1, h.5, h.6, refl), (let a = h.7 in let b = y.2 in omega (arith, a, b)));
        }

    later-answered : (k c : ℕ) (t : Tree) (ts us : Group) → AreTesting k (member t ts) → AreAnswered (k + 1) ts c us → AreAnswered k (member t ts) c (member t us)
    later-answered k c t ts us l j =
        record {
          testing = (l.0, j.testing);
          ended = ap (λ b. has_ended t && b) j.ended;
          same_size = ap (λ n. n + 1) j.same_size;
          values = λ side n h. let y = j.values h.1 h.3 h.5 in (h.2 + y.0, (h.0, h.1, h.2, y.0, h.4, y.1, h.6, refl), (let a = h.7 in let b = y.2 in omega (arith, a, b)));
        }

    pub nothing-due : (watches : List Watch) (c : ℕ) → watches ≡ [] → first_cond watches ≡ Some c → ⊥
    nothing-due watches c e h = none-some c (sym (ap first_cond e) ∙ h)

    -- the first condition that is due is answered
    mutual
      pub answers : (s : ℕ) (t : Tree) (c : ℕ) (fired : Bool) → IsTesting s t → next_cond t ≡ Some c → IsAnswered s t c (test_answered fired t)
      answers s (Leaf watches (Running place)) c fired l e = absurd (none-some c (sym (undue watches l.2) ∙ e))
      answers s (Leaf watches (Pausing place)) c fired l e =
          pause-answered s c place watches l.0 (judged fired watches) (judges s 0 [] c watches (λ x m. cert.number x (length (stack watches)) (place + 1) ≡ Some m) fired l.1 (pause-aborts place s watches l.0) e)
      answers s (Leaf watches Finished) c fired l e = absurd (nothing-due watches c l e)
      answers s (Waits watches at lo group) c fired l e = by (first_cond watches) refl e (λ q. answers-among lo group c fired l.4 q)
        where
          by : (o : Option ℕ) → first_cond watches ≡ o → or_else o (next_cond_among group) ≡ Some c → (next_cond_among group ≡ Some c → AreAnswered lo group c (test_answered_among fired group)) →
              IsAnswered s (Waits watches at lo group) c (if_some o (judged_tree (λ w. Waits w at lo group) (judged fired watches)) (Waits watches at lo (test_answered_among fired group)))
          by None o q ih = below-answered s c at lo watches group (test_answered_among fired group) o l (ih q)
          by (Some d) o q ih = fork-answered s c at lo watches group l (judged fired watches) (judges s 0 [] c watches (Within (stack watches) at group) fired l.2 (fork-aborts at s watches l.0) (o ∙ q))

      pub answers-among : (k : ℕ) (ts : Group) (c : ℕ) (fired : Bool) → AreTesting k ts → next_cond_among ts ≡ Some c → AreAnswered k ts c (test_answered_among fired ts)
      answers-among k no_more c fired l e = absurd (none-some c e)
      answers-among k (member t ts) c fired l e = by (next_cond t) refl e (λ q. answers k t c fired l.0 q) (λ q. answers-among (k + 1) ts c fired l.1 q)
        where
          by : (o : Option ℕ) → next_cond t ≡ o → or_else o (next_cond_among ts) ≡ Some c → (next_cond t ≡ Some c → IsAnswered k t c (test_answered fired t)) →
              (next_cond_among ts ≡ Some c → AreAnswered (k + 1) ts c (test_answered_among fired ts)) →
              AreAnswered k (member t ts) c (if_some o (member (test_answered fired t) ts) (member t (test_answered_among fired ts)))
          by None o q here later = later-answered k c t ts (test_answered_among fired ts) l (later q)
          by (Some d) o q here later = first-answered k c t (test_answered fired t) ts l (here (o ∙ q))

    -- where no condition is due, the paused slots wake
    old-aged : (watches : List Watch) → AreAged watches → old watches ≡ length (stack watches)
    old-aged watches h = old-is image (length (stack watches)) watches (aged-old watches h)

    or_none : (a b : Option ℕ) → or_else a b ≡ None → (a ≡ None) × (b ≡ None)
    or_none None b h = (refl, h)
    or_none (Some x) b h = absurd (none-some x (sym h))

    pub next-line : (place s : ℕ) (watches : List Watch) → image.is_pause place s (stack watches) ≡ true → IsAt image cert (place + 1) (Thread s (stack watches) [])
    next-line place s watches h =
        let p = accepted.pause place s (stack watches) h in
        (word-of image cert accepted place (Thread s (stack watches) []) Eot p.line (λ b. b) (read-plain image cert accepted place Eot p.plain p.word)).0

    pub fork-next : (place s lo n : ℕ) (watches : List Watch) → image.is_fork place s (stack watches) ≡ true → image.code place None ≡ Some (Fork lo n) → IsAt image cert (place + 1) (Thread s (stack watches) [])
    fork-next place s lo n watches h c =
        (word-of image cert accepted place (Thread s (stack watches) []) (Fork lo n) (accepted.fork place s (stack watches) h).line (λ b. b) (read-plain image cert accepted place (Fork lo n) (accepted.fork place s (stack watches) h).plain c)).0

    mutual
      pub wakes-right : (s : ℕ) (t : Tree) → IsTesting s t → IsRight image cert s (all_woken t) × (has_ended (all_woken t) ≡ has_ended t)
      wakes-right s (Leaf watches (Running place)) l = ((l.0, (length (stack watches), aged-old watches l.1), l.3), refl)
      wakes-right s (Leaf watches (Pausing place)) l = (let f = next-line place s watches l.0 in ((f.0, (length (stack watches), aged-old watches l.1), f.1), refl))
      wakes-right s (Leaf watches Finished) l = (l, refl)
      wakes-right s (Waits watches at lo group) l =
          let r = wakes-right-among lo group l.4 in
          let C : ℕ → Type 0 = λ n. image.code at None ≡ Some (Fork lo n) in
          (((l.0, subst C (sym r.2) l.1, (length (stack watches), aged-old watches l.2)), r.1 ∙ l.3, r.0), refl)

      wakes-right-among : (k : ℕ) (ts : Group) → AreTesting k ts →
          AreRight image cert k (each_member (λ w. w) wakes ts) × (all_ended (each_member (λ w. w) wakes ts) ≡ all_ended ts) × (size (each_member (λ w. w) wakes ts) ≡ size ts)
      wakes-right-among k no_more l = (tt, refl, refl)
      wakes-right-among k (member t ts) l =
          let a = wakes-right k t l.0 in
          let b = wakes-right-among (k + 1) ts l.1 in
          ((a.0, b.0), ap (λ x. x && all_ended (each_member (λ w. w) wakes ts)) a.1 ∙ ap (λ x. has_ended t && x) b.1, ap (λ n. n + 1) b.2)

    mutual
      pub wakes-values : (s : ℕ) (t : Tree) → IsTesting s t → next_cond t ≡ None → Dom 0 (TVal t) (Val image cert (all_woken t))
      wakes-values s (Leaf watches (Running place)) l e = λ side n h. (n, ap (λ i. cert.number side i place) (sym (old-aged watches l.1)) ∙ h, omega arith)
      wakes-values s (Leaf watches (Pausing place)) l e = λ side n h.
          judging-in 0 watches (λ x m. cert.number x (length (stack watches)) (place + 1) ≡ Some m) e side n (ap (λ i. cert.number side i (place + 1)) (sym (old-aged watches l.1)) ∙ h)
      wakes-values s (Leaf watches Finished) l e = λ side n h. (n, h, omega arith)
      wakes-values s (Waits watches at lo group) l e =
          let o = or_none (first_cond watches) (next_cond_among group) e in
          let d = wakes-values-among lo group l.4 o.1 in
          λ side n h.
          let y = d h.0 h.1 h.3 in
          let A : ℕ → Type 0 = λ k. After image cert (stack watches) k at h.0 side h.2 in
          let z = judging-in 0 watches (Within (stack watches) at group) o.0 side (y.0 + h.2) (h.0, y.0, h.2, y.1, subst A (old-aged watches l.2) h.4, refl) in
          (z.0, z.1, (let a = h.5 in let b = y.2 in let f = z.2 in omega (arith, a, b, f)))

      wakes-values-among : (k : ℕ) (ts : Group) → AreTesting k ts → next_cond_among ts ≡ None → Dom 0 (TGVal ts) (GVal image cert (each_member (λ w. w) wakes ts))
      wakes-values-among k no_more l e = λ side n h. (n, h, omega arith)
      wakes-values-among k (member t ts) l e =
          let o = or_none (next_cond t) (next_cond_among ts) e in
          let a = wakes-values k t l.0 o.0 in
          let b = wakes-values-among (k + 1) ts l.1 o.1 in
          λ side n h.
          let x = a h.0 h.2 h.4 in
          let y = b h.1 h.3 h.5 in
          (x.0 + y.0, (h.0, h.1, x.0, y.0, x.1, y.1, h.6, refl), (let c = h.7 in let f = x.2 in let g = y.2 in omega (arith, c, f, g)))

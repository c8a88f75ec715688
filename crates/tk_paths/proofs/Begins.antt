-- A tick begins: resuming is covered by the numbers of the slots, and some number is always there.
use Rattle.std.proofs.Common.{◌≡◌, ◌⊎◌, ◌≤◌, ◌+◌, ◌++◌, map, ℕ, suc, Bool, true, false, ◌&&◌, if◌then◌else◌, List, [], ◌∷◌, Option, Some, None, refl, sym, ap, ◌∙◌, subst, inl, inr, ⊎_elim, arith, length}
use Rattle.std.proofs.lemmas.Bool.{false≢true}
use Rattle.std.proofs.lemmas.Option.{none-some, same_Some}
use Rattle.mb_pfu.specs.declared.parts.Watch.{Watch}
use Rattle.mb_pfu.specs.Tree.{Running, Pausing, Finished, Tree, Group, Leaf, Waits, no_more, member, size, has_ended, all_ended, each_member, tests_begun}
use Rattle.mb_pfu.specs.Rows.{renewed, or_else}
use Rattle.tk_paths.proofs.SlotFacts.{first_cond, next_cond, next_cond_among}
use Rattle.tk_paths.specs.declared.word.Word.{Word}
use Rattle.tk_paths.specs.declared.word.Word.TheVariants.{Fork}
use Rattle.tk_paths.proofs.Inner.{Image, stack, AreListed, IsLoose, AreLoose}
use Rattle.tk_paths.specs.declared.view.Side.{Side}
use Rattle.tk_paths.specs.declared.view.Side.TheVariants.{ToPause, ToEnd}
use Rattle.tk_paths.proofs.Conditions.{Cert, Thread, Cond, both_sides, After, IsAt, AreAborts, Tested, Ends, Over, With, both_ends, Resumes, Resumed, IsAccepted}
use Rattle.tk_paths.proofs.Values.{Dom, Val, GVal}
use Rattle.tk_paths.proofs.Rights.{old-is, old-within, IsRight, AreRight}
use Rattle.tk_paths.proofs.Settles.{thread-of}
use Rattle.tk_paths.proofs.Tests.{when_due, Judging, TVal, TGVal, AreAged, IsTesting, AreTesting, Within, next-line, fork-next, pause-aborts, fork-aborts, nothing-due, undue}

module _ (image : Image) (cert : Cert) where
  stack-renewed : (watches : List Watch) → stack (map renewed watches) ≡ stack watches
  stack-renewed [] = refl
  stack-renewed (l ∷ watches) = ap (λ a. l.entry.number ∷ a) (stack-renewed watches)

  aged-renewed : (watches : List Watch) → AreListed image watches → AreAged image cert (map renewed watches)
  aged-renewed [] h = tt
  aged-renewed (l ∷ watches) h = (refl, (λ e. absurd (false≢true e)), h.0, aged-renewed watches h.1)

  abbrev begun_group : Group → Group
  begun_group ts = each_member (map renewed) (λ x. x) ts

  mutual
    pub begun-testing : (s : ℕ) (t : Tree) → IsLoose image s t → IsTesting image cert s (tests_begun t) × (has_ended (tests_begun t) ≡ has_ended t)
    begun-testing s (Leaf watches (Running place)) l = absurd l
    begun-testing s (Leaf watches (Pausing place)) l =
        let P : List ℕ → Type 0 = λ a. image.is_pause place s a ≡ true in
        ((subst P (sym (stack-renewed watches)) l.0, aged-renewed watches l.1), refl)
    begun-testing s (Leaf watches Finished) l = (ap (map renewed) l, refl)
    begun-testing s (Waits watches at lo group) l =
        let P : List ℕ → Type 0 = λ a. image.is_fork at s a ≡ true in
        let C : ℕ → Type 0 = λ n. image.code at None ≡ Some (Fork lo n) in
        let r = begun-testing-among lo group l.4 in
        ((subst P (sym (stack-renewed watches)) l.0, subst C (sym r.2) l.2, aged-renewed watches l.1, r.1 ∙ l.3, r.0), refl)

    begun-testing-among : (k : ℕ) (ts : Group) → AreLoose image k ts → AreTesting image cert k (begun_group ts) × (all_ended (begun_group ts) ≡ all_ended ts) × (size (begun_group ts) ≡ size ts)
    begun-testing-among k no_more l = (tt, refl, refl)
    begun-testing-among k (member t ts) l =
        let a = begun-testing k t l.0 in
        let b = begun-testing-among (k + 1) ts l.1 in
        ((a.0, b.0), ap (λ x. x && all_ended (begun_group ts)) a.1 ∙ ap (λ x. has_ended t && x) b.1, ap (λ n. n + 1) b.2)

  -- the conditions of an abort stack, and those of the slot's entries
  tested-judging : (i : ℕ) (watches : List Watch) (inner inner' : Side → ℕ → Type 0) → Dom 0 inner' inner → AreListed image watches → Dom 0 (Tested image cert i (stack watches) inner') (Judging image cert i (map renewed watches) inner)
  tested-judging i [] inner inner' d l side n h = d side n h
  tested-judging i (l ∷ watches) inner inner' d listed side n h =
      let g = listed.0 in
      let value : cert.value l.entry.cond ≡ cert.value (image.cond l.entry.number) = ap cert.value g.1 in
      let e = h.1 in
      ⊎_elim
      (λ c. (n, (h.0, h.1 ∙ ap (λ x. x + h.0) value, inl (sym g.0 ∙ c.0, ap (cert.number side i) (sym g.2) ∙ c.1)), omega arith))
      (λ c.
      let r = tested-judging (i + 1) watches inner inner' d listed.1 side h.0 c in
      (cert.value (image.cond l.entry.number) + r.0, (r.0, refl, inr r.1), (let f = r.2 in omega (arith, f, e, value))))
      h.2

  abbrev pub side_of : Ends → Side
  side_of Over = ToEnd
  side_of (With side) = side

  abbrev pub IsWith : Ends → Type 0
  IsWith Over = ⊥
  IsWith (With side) = Unit {0}

  sides-of : (x y : Ends) → side_of (both_ends x y) ≡ both_sides (side_of x) (side_of y)
  sides-of Over Over = refl
  sides-of Over (With ToEnd) = refl
  sides-of Over (With ToPause) = refl
  sides-of (With ToEnd) Over = refl
  sides-of (With ToPause) Over = refl
  sides-of (With x) (With y) = refl

  with-left : (x y : Ends) → IsWith x → IsWith (both_ends x y)
  with-left Over y h = absurd h
  with-left (With x) Over h = tt
  with-left (With x) (With y) h = tt

  with-right : (x y : Ends) → IsWith y → IsWith (both_ends x y)
  with-right Over y h = h
  with-right (With x) Over h = absurd h
  with-right (With x) (With y) h = tt

  and-false : (a b : Bool) → a && b ≡ false → (a ≡ false) ⊎ (b ≡ false)
  and-false true b h = inr h
  and-false false b h = inl refl

  pub record IsBounded (s : ℕ) (ended : Bool) (x : Side) (p : ℕ) : Type 0 where
    pub end : Ends
    pub most : ℕ
    pub resumes : Resumes image cert s end most
    pub within : p ≤ most
    pub side_is : side_of end ≡ x
    pub unended : ended ≡ false → IsWith end

  pub record AreBounded (k n : ℕ) (ended : Bool) (x : Side) (p : ℕ) : Type 0 where
    pub end : Ends
    pub most : ℕ
    pub resumed : Resumed image cert k n end most
    pub within : p ≤ most
    pub side_is : side_of end ≡ x
    pub unended : ended ≡ false → IsWith end

  -- a group with a sum that is not over
  with-sum : (P : Side → Type 0) (x : Side) (end : Ends) → IsWith end → side_of end ≡ x → (Resumes' : Ends → Type 0) → Resumes' end → Resumes' (With x)
  with-sum P x Over w e R r = absurd w
  with-sum P x (With y) w e R r = subst (λ z. R (With z)) e r

  module _ (accepted : IsAccepted image cert) where
    -- some number is there
    judging-some : (i : ℕ) (watches : List Watch) (inner : Side → ℕ → Type 0) (side : Side) (n : ℕ) → inner side n → (m : ℕ) × Judging image cert i watches inner side m
    judging-some i [] inner side n h = (n, h)
    judging-some i (l ∷ watches) inner side n h = let r = judging-some (i + 1) watches inner side n h in by l.due r.0 r.1
      where
        by : (d : Bool) (m : ℕ) → Judging image cert (i + 1) watches inner side m →
            (m' : ℕ) × when_due d ((q : ℕ) × (m' ≡ cert.value l.entry.cond + q) × (((l.entry.weak ≡ false) × (cert.number side i l.entry.handler ≡ Some q)) ⊎ Judging image cert (i + 1) watches inner side q)) (Judging image cert (i + 1) watches inner side m')
        by true m j = (cert.value l.entry.cond + m, (m, refl, inr j))
        by false m j = (m, j)

    level-some : (place s : ℕ) (a : List ℕ) (k : ℕ) → cert.line place ≡ Thread s a [] → k ≤ length a → (side : Side) × (n : ℕ) × (cert.number side k place ≡ Some n)
    level-some place s a k l h = (thread-of image cert accepted place (Thread s a []) l).2 k h

    pub after-some : (a : List ℕ) (k at s : ℕ) (y : Side) → k ≤ length a → IsAt image cert (at + 1) (Thread s a []) → (side : Side) × (r : ℕ) × After image cert a k at y side r
    after-some a k at s ToEnd h l = level-some (at + 1) s a k l.0 h
    after-some a k at s ToPause h l = (ToPause, 0, inl (refl, refl))

    mutual
      pub testing-some : (s : ℕ) (t : Tree) → IsTesting image cert s t → (side : Side) × (n : ℕ) × TVal image cert t side n
      testing-some s (Leaf watches (Running place)) l = level-some place s (stack watches) (length (stack watches)) l.0 (omega arith)
      testing-some s (Leaf watches (Pausing place)) l =
          let v = level-some (place + 1) s (stack watches) (length (stack watches)) (next-line image cert accepted place s watches l.0).0 (omega arith) in
          let r = judging-some 0 watches (λ x m. cert.number x (length (stack watches)) (place + 1) ≡ Some m) v.0 v.1 v.2 in
          (v.0, r.0, r.1)
      testing-some s (Leaf watches Finished) l = (ToEnd, 0, (refl, refl))
      testing-some s (Waits watches at lo group) l =
          let g = testing-some-among lo group l.4 in
          let v = after-some (stack watches) (length (stack watches)) at s g.0 (omega arith) (fork-next image cert accepted at s lo (size group) watches l.0 l.1) in
          let r = judging-some 0 watches (Within image cert accepted (stack watches) at group) v.0 (g.1 + v.1) (g.0, g.1, v.1, g.2, v.2, refl) in
          (v.0, r.0, r.1)

      testing-some-among : (k : ℕ) (ts : Group) → AreTesting image cert k ts → (side : Side) × (n : ℕ) × TGVal image cert ts side n
      testing-some-among k no_more l = (ToEnd, 0, (refl, refl))
      testing-some-among k (member t ts) l =
          let a = testing-some k t l.0 in
          let b = testing-some-among (k + 1) ts l.1 in
          (both_sides a.0 b.0, a.1 + b.1, (a.0, b.0, a.1, b.1, a.2, b.2, refl, refl))

    mutual
      pub right-some : (s : ℕ) (t : Tree) → IsRight image cert s t → (side : Side) × (n : ℕ) × Val image cert t side n
      right-some s (Leaf watches (Running place)) l =
          let e = old-is image l.1.0 watches l.1.1 in
          let w = old-within image l.1.0 watches l.1.1 in
          level-some place s (stack watches) _ l.0 (subst (λ k. k ≤ length (stack watches)) (sym e) w)
      right-some s (Leaf watches (Pausing place)) l = (ToPause, 0, (refl, refl))
      right-some s (Leaf watches Finished) l = (ToEnd, 0, (refl, refl))
      right-some s (Waits watches at lo group) l =
          let k = l.0.2 in
          let e = old-is image k.0 watches k.1 in
          let w = old-within image k.0 watches k.1 in
          let g = right-some-among lo group l.2 in
          let v = after-some (stack watches) _ at s g.0 (subst (λ i. i ≤ length (stack watches)) (sym e) w) (fork-next image cert accepted at s lo (size group) watches l.0.0 l.0.1) in
          (v.0, g.1 + v.1, (g.0, g.1, v.1, g.2, v.2, refl))

      pub right-some-among : (k : ℕ) (ts : Group) → AreRight image cert k ts → (side : Side) × (n : ℕ) × GVal image cert ts side n
      right-some-among k no_more l = (ToEnd, 0, (refl, refl))
      right-some-among k (member t ts) l =
          let a = right-some k t l.0 in
          let b = right-some-among (k + 1) ts l.1 in
          (both_sides a.0 b.0, a.1 + b.1, (a.0, b.0, a.1, b.1, a.2, b.2, refl, refl))

    -- A6 covers what is resumed
    mutual
      pub begun-bounded : (s : ℕ) (t : Tree) → IsLoose image s t → (x : Side) (p : ℕ) → TVal image cert (tests_begun t) x p → IsBounded s (has_ended t) x p
      begun-bounded s (Leaf watches (Running place)) l x p h = absurd l
      begun-bounded s (Leaf watches (Pausing place)) l x p h =
          let a = stack watches in
          let inner : Side → ℕ → Type 0 = λ y m. cert.number y (length (stack (map renewed watches))) (place + 1) ≡ Some m in
          let inner' : Side → ℕ → Type 0 = λ y m. cert.number y (length a) (place + 1) ≡ Some m in
          let d : Dom 0 inner' inner = λ y m e. (m, ap (λ b. cert.number y (length b) (place + 1)) (sym (stack-renewed watches)) ∙ e, omega arith) in
          let r = tested-judging 0 watches inner inner' d l.1 x p h in
          let b = (accepted.pause place s a l.0).covers x r.0 r.1 in
          record { end = With x; most = b.0; resumes = b.1; within = (let f = r.2 in let g = b.2 in omega (arith, f, g)); side_is = refl; unended = λ e. tt }
      begun-bounded s (Leaf watches Finished) l x p h =
          record { end = Over; most = 0; resumes = refl; within = (let e = h.1 in omega (arith, e)); side_is = sym h.0; unended = λ e. absurd (false≢true (sym e)) }
      begun-bounded s (Waits watches at lo group) l x p h =
          let a = stack watches in
          let ts = begun_group group in
          let f = accepted.fork at s a l.0 in
          let same = same_fork f.lo f.count lo (size group) (same_Some (Fork f.lo f.count) (Fork lo (size group)) (sym f.word ∙ l.2)) in
          let inner : Side → ℕ → Type 0 = λ y m. (z : Side) × (g r : ℕ) × TGVal image cert ts z g × After image cert (stack (map renewed watches)) (length (stack (map renewed watches))) at z y r × (m ≡ g + r) in
          let inner' : Side → ℕ → Type 0 = λ y m. (z : Side) × (g r : ℕ) × Resumed image cert f.lo f.count (With z) g × After image cert a (length a) at z y r × (m ≡ g + r) in
          let S : ℕ → ℕ → Ends → ℕ → Type 0 = λ i j e g. Resumed image cert i j e g in
          let moved : (e : Ends) (g : ℕ) → Resumed image cert lo (size group) e g → Resumed image cert f.lo f.count e g =
          λ e g q. subst (λ j. S f.lo j e g) (sym same.1) (subst (λ i. S i (size group) e g) (sym same.0) q) in
          let open_group : (z : Side) (g : ℕ) → TGVal image cert ts z g → (m : ℕ) × Resumed image cert f.lo f.count (With z) m × (g ≤ m) =
          λ z g v. let b = begun-bounded-among lo group l.4 z g v in
          (b.most, moved (With z) b.most (with-sum (λ y. Unit {0}) z b.end (b.unended l.3) b.side_is (λ e. Resumed image cert lo (size group) e b.most) b.resumed), b.within) in
          let d : Dom 0 inner' inner = λ y m v.
          let q = open_group v.0 v.1 v.3 in
          let A : List ℕ → Type 0 = λ b. After image cert b (length b) at v.0 y v.2 in
          (q.0 + v.2, (v.0, q.0, v.2, q.1, subst A (stack-renewed watches) v.4, refl), (let e = v.5 in let w = q.2 in omega (arith, e, w))) in
          let some = testing-some-among lo ts (begun-testing-among lo group l.4).0 in
          let some' = open_group some.0 some.1 some.2 in
          let r = tested-judging 0 watches inner inner' d l.1 x p h in
          let b = f.covers some.0 some'.0 some'.1 x r.0 r.1 in
          record { end = With x; most = b.0; resumes = b.1; within = (let u = r.2 in let g = b.2 in omega (arith, u, g)); side_is = refl; unended = λ e. tt }
        where
          lo_of : Word → ℕ
          lo_of (Fork i n) = i
          lo_of other = 0

          count_of : Word → ℕ
          count_of (Fork i n) = n
          count_of other = 0

          same_fork : (i n j m : ℕ) → Fork i n ≡ Fork j m → (i ≡ j) × (n ≡ m)
          same_fork i n j m e = (ap lo_of e, ap count_of e)

      begun-bounded-among : (k : ℕ) (ts : Group) → AreLoose image k ts → (x : Side) (p : ℕ) → TGVal image cert (begun_group ts) x p → AreBounded k (size ts) (all_ended ts) x p
      begun-bounded-among k no_more l x p h =
          record { end = Over; most = 0; resumed = (refl, refl); within = (let e = h.1 in omega (arith, e)); side_is = sym h.0; unended = λ e. absurd (false≢true (sym e)) }
      begun-bounded-among k (member t ts) l x p h =
          let a = begun-bounded k t l.0 h.0 h.2 h.4 in
          let b = begun-bounded-among (k + 1) ts l.1 h.1 h.3 h.5 in
          let R : ℕ → Type 0 = λ n. Resumed image cert k n (both_ends a.end b.end) (a.most + b.most) in
          let one_more : suc (size ts) ≡ size ts + 1 = omega arith in
          record {
            end = both_ends a.end b.end;
            most = a.most + b.most;
            resumed = subst R one_more (a.end, b.end, a.most, b.most, a.resumes, b.resumed, refl, refl);
            within = (let e = h.7 in let u = a.within in let v = b.within in omega (arith, e, u, v));
            side_is = sides-of a.end b.end ∙ ap (λ s. both_sides s (side_of b.end)) a.side_is ∙ ap (λ s. both_sides h.0 s) b.side_is ∙ sym h.6;
            unended = λ e. ⊎_elim (λ q. with-left a.end b.end (a.unended q)) (λ q. with-right a.end b.end (b.unended q)) (and-false (has_ended t) (all_ended ts) e);
          }

    -- the condition that is next has its line
    cond-line : (s c : ℕ) (outside : List ℕ) (watches : List Watch) → AreAged image cert watches → AreAborts image cert s outside (stack watches) → first_cond watches ≡ Some c → IsAt image cert c Cond
    cond-line s c outside [] h a e = absurd (none-some c e)
    cond-line s c outside (l ∷ watches) h a e = by l.due e (λ q. cond-line s c (outside ++ l.entry.number ∷ []) watches h.3 a.2 q)
      where
        by : (d : Bool) → (if d then Some l.entry.cond else first_cond watches) ≡ Some c → (first_cond watches ≡ Some c → IsAt image cert c Cond) → IsAt image cert c Cond
        by true q ih = let P : ℕ → Type 0 = λ x. IsAt image cert x Cond in subst P (sym (sym (same_Some l.entry.cond c q) ∙ h.2.1)) a.0
        by false q ih = ih q

    either-some : (a b : Option ℕ) (c : ℕ) → or_else a b ≡ Some c → (a ≡ Some c) ⊎ (b ≡ Some c)
    either-some None b c e = inr e
    either-some (Some x) b c e = inl e

    mutual
      pub next-cond-line : (s : ℕ) (t : Tree) (c : ℕ) → IsTesting image cert s t → next_cond t ≡ Some c → IsAt image cert c Cond
      next-cond-line s (Leaf watches (Running place)) c l e = absurd (none-some c (sym (undue image cert watches l.2) ∙ e))
      next-cond-line s (Leaf watches (Pausing place)) c l e = cond-line s c [] watches l.1 (pause-aborts image cert accepted place s watches l.0) e
      next-cond-line s (Leaf watches Finished) c l e = absurd (nothing-due image cert accepted watches c l e)
      next-cond-line s (Waits watches at lo group) c l e =
          ⊎_elim (λ q. cond-line s c [] watches l.2 (fork-aborts image cert accepted at s watches l.0) q) (λ q. next-cond-line-among lo group c l.4 q) (either-some (first_cond watches) (next_cond_among group) c e)

      next-cond-line-among : (k : ℕ) (ts : Group) (c : ℕ) → AreTesting image cert k ts → next_cond_among ts ≡ Some c → IsAt image cert c Cond
      next-cond-line-among k no_more c l e = absurd (none-some c e)
      next-cond-line-among k (member t ts) c l e =
          ⊎_elim (λ q. next-cond-line k t c l.0 q) (λ q. next-cond-line-among (k + 1) ts c l.1 q) (either-some (next_cond t) (next_cond_among ts) c e)

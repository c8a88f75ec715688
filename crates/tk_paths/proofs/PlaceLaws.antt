-- What is known of a place whose line and word are known: acceptance's first and third condition, and the greatest number.
use Rattle.std.proofs.Common.{◌≡◌, ◌⊎◌, ◌≤◌, ◌<◌, ◌+◌, ◌++◌, ◌==◌, ◌&&◌, ℕ, ℤ, zero, suc, not, nat_lt, Bool, true, false, if◌then◌else◌, List, [], ◌∷◌, flat_map, length, slice_get, slice_index_or, Option, Some, None, option_map, refl, sym, ap, ◌∙◌, subst, inl, inr, ⊎_elim, eqb-true, add-one, arith}
use Rattle.std.proofs.lemmas.Bool.{false≢true}
use Rattle.std.proofs.lemmas.Bool.Decides.{nat_tests}
use Rattle.std.proofs.lemmas.Option.{none-some, same_Some}
use Rattle.mb_isa.specs.declared.Instr.{Instr}
use Rattle.mb_isa.specs.declared.Instr.TheVariants as instr
use Rattle.mb_isa.specs.declared.Class.TheVariants as class
use Rattle.mb_isa.specs.Classes.{takes_upper}
use Rattle.mb_isa.specs.Costs.{cost_of}
use Rattle.pt_image.specs.declared.AbortLine.{AbortLine}
use Rattle.pt_image.specs.declared.Parts.{Parts}
use Rattle.pt_image.specs.Listed.{same_numbers}
use Rattle.mb_isa.specs.Words.{is_barred}
use Rattle.tk_cert.specs.declared.cert.Line.{Line}
use Rattle.tk_cert.specs.declared.cert.Line.TheVariants as line
use Rattle.tk_cert.specs.declared.cert.CertParts.{CertParts}
use Rattle.tk_cert.specs.Shapes.{IsShaped}
use Rattle.tk_cert.specs.Demands.{AllHold, at_least}
use Rattle.tk_paths.specs.declared.view.Side.{Side}
use Rattle.tk_paths.specs.declared.view.View.{View}
use Rattle.tk_paths.specs.declared.view.View.TheVariants.{On}
use Rattle.tk_paths.specs.declared.word.Word.{Word}
use Rattle.tk_paths.specs.declared.word.Word.TheVariants.{Imm, Fork, Eot, End, Abrt, Leave}
use Rattle.tk_paths.specs.Words.{instr_at, word_of, read_instr, read}
use Rattle.tk_paths.specs.Kinds.{line_at, is_thread, is_cond, imm_in, upper_behind, upper_at, word_at, word_in, abort_at, no_abort, places_of_abort, asked_by_word, asked_from_line, asked_from, is_asked, same_kind}
use Rattle.tk_paths.specs.Shape.{may_follow, keeps_kind, word_is_shaped, aborts_are_shaped, says_well, line_is_shaped}
use Rattle.tk_paths.specs.Acceptance.{number_in, level_of, number, more, views_of, edge, word_edges, line_edges}
use Rattle.tk_paths.proofs.Lists.{IsAmong, three_parts}
use Rattle.tk_paths.proofs.Carried.{same-list}
use Rattle.tk_paths.specs.Regions.{Region, behind_half, half, word_place, behind, IsUnit, half_cost, extra}
use Rattle.tk_paths.specs.Reached.{IsOpen}
use Rattle.tk_paths.specs.Greatest.{IsStraightCondition}
use Rattle.tk_paths.specs.Numbers.{Kind, thread, routine, condition, Numbers, level, after, half_lines, unit_lines}
use Rattle.tk_paths.specs.Numbers as numbers
use Rattle.tk_paths.proofs.OpenPlaces.{IsStep, IsStepWith}
use Rattle.tk_paths.proofs.Covered.{Covers, holds-of, all-flat-in, Holding}
use Rattle.tk_paths.proofs.Lines.{Fits, IsFull, full-map, line-same, kind-same, levels-size, levels-full, level-is, number-is, view-fits, AreAt}

pub and-two : (a b : Bool) → a ≡ true → b ≡ true → (a && b) ≡ true
and-two a b e f = ap (λ x. x && b) e ∙ f

pub lt-test : (m n : ℕ) → m < n → nat_lt m n ≡ true
lt-test m n h = grind (arith, nat_tests, h)

-- each place from one up to another
abbrev pub Every : ℕ → ℕ → (ℕ → Type 0) → Type 0
Every p q P = (x : ℕ) → p ≤ x → x < q → P x

pub every-none : (p q : ℕ) (P : ℕ → Type 0) → p ≡ q → Every p q P
every-none p q P e x a b = absurd (omega (arith, a, b, e))

pub every-one : (p : ℕ) (P : ℕ → Type 0) → P p → Every p (p + 1) P
every-one p P h x a b = let e : p ≡ x = omega (arith, a, b) in subst P e h

pub every-join : (p m q : ℕ) (P : ℕ → Type 0) → Every p m P → Every m q P → Every p q P
every-join p m q P f g x a b = by (nat_lt x m) refl
  where
    by : (c : Bool) → nat_lt x m ≡ c → P x
    by true e = f x a (grind (arith, nat_tests, e))
    by false e = g x (grind (arith, nat_tests, e)) b

pub among-either : {X : Type 0} (x : X) (xs ys : List X) → IsAmong x (xs ++ ys) → IsAmong x xs ⊎ IsAmong x ys
among-either x [] ys h = inr h
among-either x (y ∷ xs) ys h = ⊎_elim (λ e. inl (inl e)) (λ k. ⊎_elim (λ l. inl (inr l)) (λ r. inr r) (among-either x xs ys k)) h

-- ---- upper halves

abbrev pub is_imm : Word → Bool
is_imm (Imm u) = true
is_imm other = false

-- a word at which a slot goes on in its turn
abbrev pub is_straight : Word → Bool
is_straight Eot = false
is_straight (Fork lo n) = false
is_straight End = false
is_straight (Abrt j) = false
is_straight Leave = false
is_straight other = true

pub imm-there : (o : Option Instr) (u : ℤ) → imm_in o ≡ Some u → o ≡ Some (instr.Imm u)
imm-there None u e = absurd (none-some u e)
imm-there (Some (instr.Imm v)) u e = ap (λ x. Some (instr.Imm x)) (same_Some v u e)
imm-there (Some other) u e = absurd (none-some u e)

module _ (image : Parts) where
  -- a word that is read as no upper half isn't one
  pub no-half : (p : ℕ) (upper : Option ℤ) (o : Option Instr) (w : Word) → read_instr image p upper o ≡ Some w → is_imm w ≡ false → imm_in o ≡ None
  no-half p upper None w e n = refl
  no-half p upper (Some (instr.Imm v)) w e n = by (is_barred upper (instr.Imm v)) e
    where
      by : (b : Bool) → (if b then None else Some (Imm v)) ≡ Some w → Some v ≡ None
      by true k = absurd (none-some w k)
      by false k = absurd (false≢true (sym n ∙ ap is_imm (sym (same_Some (Imm v) w k))))
  no-half p upper (Some other) w e n = refl

  -- a word that is read is what its instruction comes to
  in-word : (p : ℕ) (upper : Option ℤ) (o : Option Instr) (w : Word) → read_instr image p upper o ≡ Some w → option_map (word_of image p upper) o ≡ Some w
  in-word p upper None w e = absurd (none-some w e)
  in-word p upper (Some i) w e = by (is_barred upper i) e
    where
      by : (b : Bool) → (if b then None else Some (word_of image p upper i)) ≡ Some w → Some (word_of image p upper i) ≡ Some w
      by true k = absurd (none-some w k)
      by false k = k

  follows : (p : ℕ) (u : ℤ) (o : Option Instr) (w : Word) → read_instr image p (Some u) o ≡ Some w → may_follow o ≡ true
  follows p u None w e = absurd (none-some w e)
  follows p u (Some i) w e = by (takes_upper i) e
    where
      by : (b : Bool) → (if not b then None else Some (word_of image p (Some u) i)) ≡ Some w → b ≡ true
      by true k = refl
      by false k = absurd (none-some w k)

  pub straight-with : (cert : CertParts) (costs : List ℕ) (find : ℕ → Option Region) (p s : ℕ) (a : List ℕ) (o : Option Instr) (w : Word) → read_instr image p None o ≡ Some w → is_straight w ≡ true → IsStep image cert costs find p s a → IsStepWith image cert costs find o p s a
  straight-with cert costs find p s a None w e k g = g
  straight-with cert costs find p s a (Some (instr.Abrt j)) w e k g = absurd (false≢true (ap is_straight (same_Some (Abrt j) w e) ∙ k))
  straight-with cert costs find p s a (Some instr.Leave) w e k g = absurd (false≢true (ap is_straight (same_Some Leave w e) ∙ k))
  straight-with cert costs find p s a (Some instr.Eot) w e k g = absurd (false≢true (ap is_straight (same_Some Eot w e) ∙ k))
  straight-with cert costs find p s a (Some (instr.Fork lo n)) w e k g = absurd (false≢true (ap is_straight (same_Some (Fork lo n) w e) ∙ k))
  straight-with cert costs find p s a (Some instr.End) w e k g = absurd (false≢true (ap is_straight (same_Some End w e) ∙ k))
  straight-with cert costs find p s a (Some other) w e k g = g

  -- the unit at an open place
  pub straight-at : (cert : CertParts) (costs : List ℕ) (find : ℕ → Option Region) (p s : ℕ) (a : List ℕ) (w : Word) → IsUnit image p w → is_straight w ≡ true → IsStep image cert costs find p s a → IsStepWith image cert costs find (instr_at image p) p s a
  straight-at cert costs find p s a w unit k g = by (half image p) refl unit
    where
      by : (o : Option ℤ) → half image p ≡ o → read image (behind_half o p) o ≡ Some w → IsStepWith image cert costs find (instr_at image p) p s a
      by None e u = straight-with cert costs find p s a (instr_at image p) w u k g
      by (Some v) e u = let G : Option Instr → Type 0 = λ o. IsStepWith image cert costs find o p s a in subst G (sym (imm-there (instr_at image p) v e)) g

module _ (image : Parts) (cert : CertParts) (costs : List ℕ) (find : ℕ → Option Region) where
  abbrev pub IsPlain : ℕ → Type 0
  IsPlain p = upper_at image cert.lines p ≡ None

  abbrev pub Stands : Kind → ℕ → Numbers → Type 0
  Stands kind p V = line_at cert.lines p ≡ numbers.line kind V

  plain-by : (l : Line) (o : Option Instr) → imm_in o ≡ None → upper_behind l o ≡ None
  plain-by line.Bare o h = refl
  plain-by (line.Thread s a l v) o h = h
  plain-by (line.Routine g l v) o h = h
  plain-by (line.Cond v) o h = h

  -- behind a word that is no upper half
  pub plain-next : (p : ℕ) (upper : Option ℤ) (w : Word) → read image p upper ≡ Some w → is_imm w ≡ false → IsPlain (p + 1)
  plain-next p upper w e n =
      let U : ℕ → Type 0 = λ q. upper_at image cert.lines q ≡ None in
      subst U (sym (add-one p)) (plain-by (line_at cert.lines p) (instr_at image p) (no-half image p upper (instr_at image p) w e n))

  pub unit-plain : (p : ℕ) (w : Word) → IsUnit image p w → is_imm w ≡ false → IsPlain (behind image p)
  unit-plain p w unit n = plain-next (word_place image p) (half image p) w unit n

  -- behind an upper half
  upper-by : (kind : Kind) (V : Numbers) (u : ℤ) → upper_behind (numbers.line kind V) (Some (instr.Imm u)) ≡ Some u
  upper-by (thread s a l) V u = refl
  upper-by (routine h l) V u = refl
  upper-by condition V u = refl

  upper-next : (kind : Kind) (p : ℕ) (V : Numbers) (u : ℤ) → Stands kind p V → imm_in (instr_at image p) ≡ Some u → upper_at image cert.lines (p + 1) ≡ Some u
  upper-next kind p V u here e =
      let U : ℕ → Type 0 = λ q. upper_at image cert.lines q ≡ Some u in
      subst U (sym (add-one p))
      (ap (λ l. upper_behind l (instr_at image p)) here ∙ ap (upper_behind (numbers.line kind V)) (imm-there (instr_at image p) u e) ∙ upper-by kind V u)

  -- ---- aborts

  -- the conditions and the handlers of these aborts are where acceptance wants them
  abbrev pub AreAborts : ℕ → List ℕ → List ℕ → Type 0
  AreAborts s outside [] = Unit {0}
  AreAborts s outside (j ∷ a) =
      (j < length image.aborts) × (is_cond (line_at cert.lines ((abort_at image j).cond)) ≡ true) × IsPlain ((abort_at image j).cond)
      × (is_thread s outside [] (line_at cert.lines ((abort_at image j).handler)) ≡ true) × IsPlain ((abort_at image j).handler)
      × AreAborts s (outside ++ j ∷ []) a

  abbrev pub Known : Kind → Type 0
  Known (thread s a l) = (s < length image.slots) × AreAborts s [] a
  Known (routine h l) = (1 ≤ h) × (h ≤ 16)
  Known condition = Unit {0}

  aborts-shaped : (s : ℕ) (outside a : List ℕ) → AreAborts s outside a → aborts_are_shaped image cert s outside a ≡ true
  aborts-shaped s outside [] h = refl
  aborts-shaped s outside (j ∷ a) h =
      let t = lt-test j (length image.aborts) h.0 in
      let c = is_cond (line_at cert.lines ((abort_at image j).cond)) in
      let d = is_thread s outside [] (line_at cert.lines ((abort_at image j).handler)) in
      and-two (nat_lt j (length image.aborts) && c && d) (aborts_are_shaped image cert s (outside ++ j ∷ []) a)
      (and-two (nat_lt j (length image.aborts) && c) d (and-two (nat_lt j (length image.aborts)) c t h.1) h.3)
      (aborts-shaped s (outside ++ j ∷ []) a h.5)

  abort-there : (aborts : List AbortLine) (j : ℕ) → j < length aborts → slice_get aborts j ≡ Some (slice_index_or aborts j no_abort)
  abort-there [] j h = absurd (omega (arith, h))
  abort-there (l ∷ aborts) zero h = refl
  abort-there (l ∷ aborts) (suc j) h = abort-there aborts j (omega (arith, h))

  aborts-plain : (s : ℕ) (outside a : List ℕ) → AreAborts s outside a → (goal : ℕ) → IsAmong goal (flat_map (λ j. places_of_abort (slice_get image.aborts j)) a) → IsPlain goal
  aborts-plain s outside [] h goal among = absurd among
  aborts-plain s outside (j ∷ a) h goal among =
      let f : ℕ → List ℕ = λ i. places_of_abort (slice_get image.aborts i) in
      let two : f j ≡ (abort_at image j).cond ∷ (abort_at image j).handler ∷ [] = ap places_of_abort (abort-there image.aborts j h.0) in
      let A : List ℕ → Type 0 = λ l. IsAmong goal l in
      ⊎_elim
      (λ k. ⊎_elim (λ e. subst IsPlain e h.2) (λ r. ⊎_elim (λ e. subst IsPlain e h.4) (λ n. absurd n) r) (subst A two k))
      (λ k. aborts-plain s (outside ++ j ∷ []) a h.5 goal k)
      (among-either goal (f j) (flat_map f a) among)

  -- ---- a place

  -- an upper half stands at no place that is asked for
  abbrev pub Unasked : Type 0
  Unasked = (p : ℕ) (u : ℤ) → upper_at image cert.lines p ≡ Some u → is_asked image cert.lines p ≡ false

  -- where a thread is in no bounded loop
  abbrev pub Openly : Kind → Type 0 → Type 0
  Openly (thread s a []) T = T
  Openly other T = Unit {0}

  pub openly-map : (kind : Kind) (T U : Type 0) → (T → U) → Openly kind T → Openly kind U
  openly-map (thread s a []) T U f h = f h
  openly-map (thread s a (x ∷ l)) T U f h = tt
  openly-map (routine g l) T U f h = tt
  openly-map condition T U f h = tt

  -- at a place that is read with no upper half, the greatest number
  abbrev pub Meets : ℕ → Kind → Type 0
  Meets p (thread s a []) = IsStepWith image cert costs find (instr_at image p) p s a
  Meets p (thread s a (x ∷ l)) = Unit {0}
  Meets p (routine h l) = Unit {0}
  Meets p condition = IsStraightCondition image cert costs p

  pub record IsGood (p : ℕ) : Type 0 where
    pub spoken : line_at cert.lines p ≡ line.Bare → ⊥
    pub sized : IsShaped (line_at cert.lines p)
    pub word : (w : Word) × (word_at image cert.lines p ≡ Some w)
    pub shaped : Unasked → line_is_shaped image cert p (line_at cert.lines p) ≡ true
    pub edged : AllHold (line_edges image cert costs p (line_at cert.lines p))
    pub asks : (goal : ℕ) → IsAmong goal (asked_from image cert.lines p) → IsPlain goal
    pub great : (s : ℕ) (a : List ℕ) → IsOpen image cert costs p s a → IsStepWith image cert costs find (instr_at image p) p s a
    pub straight : is_cond (line_at cert.lines p) ≡ true → IsPlain p → IsStraightCondition image cert costs p

  spoken-by : (kind : Kind) (V : Numbers) → numbers.line kind V ≡ line.Bare → ⊥
  spoken-by (thread s a l) V e = cc e
  spoken-by (routine h l) V e = cc e
  spoken-by condition V e = cc e

  sized-by : (kind : Kind) (V : Numbers) → Known kind → IsShaped (numbers.line kind V)
  sized-by (thread s a l) V known = levels-size V (length a + 1)
  sized-by (routine h l) V known = known
  sized-by condition V known = tt

  -- a number of a thread's place
  pub level-number : (s : ℕ) (a l : List ℕ) (V : Numbers) (p : ℕ) (side : Side) (k : ℕ) → Stands (thread s a l) p V → k ≤ length a → number image cert costs (On side k) p ≡ V (On side k)
  level-number s a l V p side k here fit = ap (number_in (On side k)) here ∙ level-is s a l V side k fit

  well : (kind : Kind) (V : Numbers) → Known kind → IsFull kind V → says_well image cert (numbers.line kind V) ≡ true
  well (thread s a l) V known full =
      and-two (nat_lt s (length image.slots) && aborts_are_shaped image cert s [] a) _
      (and-two (nat_lt s (length image.slots)) (aborts_are_shaped image cert s [] a) (lt-test s (length image.slots) known.0) (aborts-shaped s [] a known.1))
      (levels-full V (length a + 1) 0 (λ k w. full k (omega (arith, w))))
  well (routine h l) V known full = refl
  well condition V known full = refl

  line-shaped-by : (kind : Kind) (V : Numbers) (p : ℕ) (w : Word) → Known kind → IsFull kind V → word_at image cert.lines p ≡ Some w → word_is_shaped image cert p (numbers.line kind V) (Some w) ≡ true →
      line_is_shaped image cert p (numbers.line kind V) ≡ true
  line-shaped-by kind V p w known full e h =
      by kind (well kind V known full) (ap (word_is_shaped image cert p (numbers.line kind V)) e ∙ h)
    where
      by : (x : Kind) → says_well image cert (numbers.line x V) ≡ true → word_is_shaped image cert p (numbers.line x V) (word_at image cert.lines p) ≡ true → line_is_shaped image cert p (numbers.line x V) ≡ true
      by (thread s a l) x y = and-two (says_well image cert (numbers.line (thread s a l) V)) (word_is_shaped image cert p (numbers.line (thread s a l) V) (word_at image cert.lines p)) x y
      by (routine g l) x y = and-two true (word_is_shaped image cert p (numbers.line (routine g l) V) (word_at image cert.lines p)) x y
      by condition x y = and-two true (word_is_shaped image cert p (numbers.line condition V) (word_at image cert.lines p)) x y

  asks-by : (kind : Kind) (V : Numbers) (p : ℕ) (w : Word) → Known kind → word_at image cert.lines p ≡ Some w →
      ((goal : ℕ) → IsAmong goal (asked_by_word image (numbers.line kind V) (Some w)) → IsPlain goal) →
      (goal : ℕ) → IsAmong goal (asked_from_line image cert.lines p (numbers.line kind V)) → IsPlain goal
  asks-by kind V p w known e h goal among =
      let same : word_in image cert.lines p ≡ Some w = in-word image p (upper_at image cert.lines p) (instr_at image p) w e in
      by kind known (λ k. h goal (let A : Option Word → Type 0 = λ o. IsAmong goal (asked_by_word image (numbers.line kind V) o) in subst A same k)) among
    where
      by : (x : Kind) → Known x → (IsAmong goal (asked_by_word image (numbers.line x V) (word_in image cert.lines p)) → IsPlain goal) →
          IsAmong goal (asked_from_line image cert.lines p (numbers.line x V)) → IsPlain goal
      by (thread s a l) kn f k = ⊎_elim (λ x. aborts-plain s [] a kn.1 goal x) f (among-either goal _ _ k)
      by (routine g l) kn f k = f k
      by condition kn f k = f k

  great-by : (kind : Kind) (V : Numbers) (p s : ℕ) (a : List ℕ) → is_thread s a [] (numbers.line kind V) ≡ true → Meets p kind → IsStepWith image cert costs find (instr_at image p) p s a
  great-by (thread t b l) V p s a h m = by l (three_parts (t == s) (same_numbers b a) (same_numbers l []) h) m
    where
      by : (l : List ℕ) → ((t == s) ≡ true) × (same_numbers b a ≡ true) × (same_numbers l [] ≡ true) → Meets p (thread t b l) → IsStepWith image cert costs find (instr_at image p) p s a
      by [] q m =
          let G : ℕ → List ℕ → Type 0 = λ x y. IsStepWith image cert costs find (instr_at image p) p x y in
          subst (λ y. G s y) (same-list b a q.1) (subst (λ x. G x b) (eqb-true t s q.0) m)
      by (x ∷ l) q m = absurd (false≢true q.2)
  great-by (routine g l) V p s a h m = absurd (false≢true h)
  great-by condition V p s a h m = absurd (false≢true h)

  straight-by : (kind : Kind) (V : Numbers) (p : ℕ) → is_cond (numbers.line kind V) ≡ true → Meets p kind → IsStraightCondition image cert costs p
  straight-by (thread s a l) V p h m = absurd (false≢true h)
  straight-by (routine g l) V p h m = absurd (false≢true h)
  straight-by condition V p h m = m

  -- a place with its line and its word
  pub place-good : (kind : Kind) (V : Numbers) (p : ℕ) (w : Word) → Stands kind p V → Known kind → IsFull kind V → word_at image cert.lines p ≡ Some w →
      (Unasked → word_is_shaped image cert p (numbers.line kind V) (Some w) ≡ true) →
      ((view : View) → Fits view kind → AllHold (word_edges image cert costs p (numbers.line kind V) view (Some w))) →
      ((goal : ℕ) → IsAmong goal (asked_by_word image (numbers.line kind V) (Some w)) → IsPlain goal) →
      (IsPlain p → Meets p kind) → IsGood p
  place-good kind V p w here known full word shape edges goals meets =
      let L = numbers.line kind V in
      let S : Line → Type 0 = λ x. line_is_shaped image cert p x ≡ true in
      let X : Line → Type 0 = λ x. AllHold (line_edges image cert costs p x) in
      let W : Option Word → View → Type 0 = λ o view. AllHold (word_edges image cert costs p L view o) in
      record {
        spoken = λ bare. spoken-by kind V (sym here ∙ bare);
        sized = subst IsShaped (sym here) (sized-by kind V known);
        word = (w, word);
        shaped = λ un. subst S (sym here) (line-shaped-by kind V p w known full word (shape un));
        edged = subst X (sym here)
            (all-flat-in Holding (λ view. word_edges image cert costs p L view (word_at image cert.lines p)) (views_of L)
            (λ view among. subst (λ o. W o view) (sym word) (edges view (view-fits kind V view among))));
        asks = λ goal among.
            let A : Line → Type 0 = λ x. IsAmong goal (asked_from_line image cert.lines p x) in
            asks-by kind V p w known word goals goal (subst A here among);
        great = λ s a o. great-by kind V p s a (sym (ap (is_thread s a []) here) ∙ o.0) (meets o.1);
        straight = λ cond plain. straight-by kind V p (sym (ap is_cond here) ∙ cond) (meets plain);
      }

  pub numbered : (kind : Kind) (V : Numbers) (p : ℕ) (view : View) → Stands kind p V → Fits view kind → IsFull kind V → number image cert costs view p ≡ V view
  numbered kind V p view here fit full = ap (number_in view) here ∙ number-is kind V view fit full

  -- an edge
  pub edge-holds : (p : ℕ) (view : View) (charge next : ℕ) (A B : Option ℕ) → number image cert costs view p ≡ A → number image cert costs view next ≡ B → Covers A (more charge B) → AllHold (edge image cert costs p view charge next)
  edge-holds p view charge next A B e f h =
      let P : Option ℕ → Option ℕ → Type 0 = λ x y. AllHold (at_least 3 p (level_of view) x (more charge y)) in
      subst (λ x. P x (number image cert costs view next)) (sym e) (subst (λ y. P A y) (sym f) (holds-of 3 p (level_of view) A (more charge B) h))

  pub itself : (o : Option ℕ) → Covers o o
  itself o n e = (n, e, omega arith)

  -- ---- a unit

  more-zero : (o : Option ℕ) → more 0 o ≡ o
  more-zero None = refl
  more-zero (Some n) = let e : 0 + n ≡ n = omega arith in ap Some e

  pub full-after : (kind : Kind) (c : ℕ) (V : Numbers) → IsFull kind V → IsFull kind (after c V)
  full-after kind c V full = full-map kind V (after c V) (λ view fit t. (c + t.0, ap (more c) t.1)) full

  -- the first place of a unit
  pub unit-first : (kind : Kind) (V : Numbers) (p : ℕ) → AreAt cert p (unit_lines image costs kind p V) → Stands kind p (after (extra image costs p) V)
  unit-first kind V p h = by (half image p) h
    where
      by : (o : Option ℤ) → AreAt cert p (half_lines image costs kind o V ++ numbers.line kind V ∷ []) → Stands kind p (after (half_cost image costs o) V)
      by None k = k.0 ∙ line-same kind V (after 0 V) (λ view fit. sym (more-zero (V view)))
      by (Some u) k = k.0

  -- a unit's one or two places
  pub unit-good : (kind : Kind) (V : Numbers) (p : ℕ) (w : Word) → IsUnit image p w → is_imm w ≡ false → IsPlain p → Known kind → IsFull kind V → AreAt cert p (unit_lines image costs kind p V) →
      (Unasked → word_is_shaped image cert (word_place image p) (numbers.line kind V) (Some w) ≡ true) →
      ((view : View) → Fits view kind → AllHold (word_edges image cert costs (word_place image p) (numbers.line kind V) view (Some w))) →
      ((goal : ℕ) → IsAmong goal (asked_by_word image (numbers.line kind V) (Some w)) → IsPlain goal) →
      Meets p kind → Every p (behind image p) IsGood
  unit-good kind V p w unit n plain known full lines shape edges goals meets = by (half image p) refl unit lines shape edges
    where
      by : (o : Option ℤ) → half image p ≡ o → read image (behind_half o p) o ≡ Some w → AreAt cert p (half_lines image costs kind o V ++ numbers.line kind V ∷ []) →
          (Unasked → word_is_shaped image cert (behind_half o p) (numbers.line kind V) (Some w) ≡ true) →
          ((view : View) → Fits view kind → AllHold (word_edges image cert costs (behind_half o p) (numbers.line kind V) view (Some w))) → Every p (behind_half o p + 1) IsGood
      by None e u l sh ed =
          every-one p IsGood (place-good kind V p w l.0 known full (ap (read image p) plain ∙ u) sh ed goals (λ x. meets))
      by (Some v) e u l sh ed =
          let up = upper-next kind p (after (cost_of costs class.Imm) V) v l.0 e in
          let E = after (cost_of costs class.Imm) V in
          let fullE = full-after kind (cost_of costs class.Imm) V full in
          let word : word_at image cert.lines p ≡ Some (Imm v) = ap (read image p) plain ∙ ap (read_instr image p None) (imm-there (instr_at image p) v e) in
          let keeps : keeps_kind image cert (numbers.line kind E) (p + 1) ≡ true = ap (same_kind (numbers.line kind E)) l.1.0 ∙ kind-same kind E V in
          let follow : may_follow (instr_at image (p + 1)) ≡ true = follows image (p + 1) v (instr_at image (p + 1)) w u in
          every-join p (p + 1) (p + 1 + 1) IsGood
          (every-one p IsGood
          (place-good kind E p (Imm v) l.0 known fullE word
          (λ un. and-two (keeps_kind image cert (numbers.line kind E) (p + 1) && may_follow (instr_at image (p + 1))) (not (is_asked image cert.lines (p + 1)))
          (and-two (keeps_kind image cert (numbers.line kind E) (p + 1)) (may_follow (instr_at image (p + 1))) keeps follow) (ap not (un (p + 1) v up)))
          (λ view fit. edge-holds p view (cost_of costs class.Imm) (p + 1) (E view) (V view) (numbered kind E p view l.0 fit fullE) (numbered kind V (p + 1) view l.1.0 fit full) (itself (E view)))
          (λ goal k. absurd k) (λ x. meets)))
          (every-one (p + 1) IsGood
          (place-good kind V (p + 1) w l.1.0 known full (ap (read image (p + 1)) up ∙ u) sh ed goals (λ x. absurd (none-some v (sym x ∙ up)))))

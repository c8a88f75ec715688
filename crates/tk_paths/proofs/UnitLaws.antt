-- The places of straight units, of a jump and of a branch are good.
use Rattle.std.proofs.Common.{◌≡◌, ◌≤◌, ◌+◌, ◌++◌, ℕ, ℤ, zero, suc, nat_le, Bool, true, false, if◌then◌else◌, List, [], ◌∷◌, map, length, Option, Some, None, refl, sym, ap, ◌∙◌, subst, ⊎_elim, arith}
use Rattle.std.proofs.lemmas.Bool.Decides.{nat_tests}
use Rattle.std.proofs.lemmas.Option.{none-some}
use Rattle.std.specs.List.{range_with_len}
use Rattle.mb_isa.specs.declared.Class.{Class}
use Rattle.mb_isa.specs.declared.Class.TheVariants as class
use Rattle.mb_isa.specs.Costs.{cost_of}
use Rattle.pt_image.specs.declared.Parts.{Parts}
use Rattle.tk_cert.specs.declared.cert.Line.{Line}
use Rattle.tk_cert.specs.declared.cert.CertParts.{CertParts}
use Rattle.tk_paths.specs.declared.view.View.{View}
use Rattle.tk_paths.specs.declared.view.View.TheVariants.{On, Value}
use Rattle.tk_paths.specs.declared.word.Word.TheVariants.{Does, Jump, Branch, Cend}
use Rattle.tk_paths.specs.Sums.{greater}
use Rattle.tk_paths.specs.Kinds.{line_at, is_thread, same_kind}
use Rattle.tk_paths.specs.Shape.{keeps_kind}
use Rattle.tk_paths.specs.Acceptance.{number, value_of, more, edge}
use Rattle.tk_paths.specs.Regions.{Region, Words, behind_half, half, word_place, behind, unit_word, IsUnit, IsWord, AreUnits, extra, word_cost, units_cost}
use Rattle.tk_paths.specs.Reached.{IsOpen}
use Rattle.tk_paths.specs.Choices.{stretch}
use Rattle.tk_paths.specs.Numbers.{Kind, thread, routine, condition, Numbers, level, after, half_lines, unit_lines, units_lines, branched, jump_lines, testing, test_lines}
use Rattle.tk_paths.specs.Numbers as numbers
use Rattle.tk_paths.proofs.Covered.{Covers, greater-left, greater-right, all-append, Holding}
use Rattle.tk_paths.proofs.Lines.{IsFull, There, full-map, line-same, kind-same, own-thread, value-is, AreAt, at-left, at-right, append-size}
use Rattle.tk_paths.proofs.OpenPlaces.{passing, jumping, branching}
use Rattle.tk_paths.proofs.PlaceLaws.{and-two, Every, every-none, every-join, straight-at, IsPlain, Stands, unit-plain, Known, Meets, IsGood, numbered, edge-holds, itself, full-after, unit-first, unit-good}

-- ---- sums and the greater of two

pub more-more : (a b : ℕ) (o : Option ℕ) → more a (more b o) ≡ more (a + b) o
more-more a b None = refl
more-more a b (Some n) = let e : a + (b + n) ≡ a + b + n = omega arith in ap Some e

pub more-same : (a b c d : ℕ) (o : Option ℕ) → a + b ≡ c + d → more a (more b o) ≡ more c (more d o)
more-same a b c d None e = refl
more-same a b c d (Some n) e = let z : a + (b + n) ≡ c + (d + n) = omega (arith, e) in ap Some z

pub more-by : (a b : ℕ) (o : Option ℕ) → a ≡ b → more a o ≡ more b o
more-by a b o e = ap (λ n. more n o) e

pub more-greater : (c : ℕ) (a b : Option ℕ) → more c (greater a b) ≡ greater (more c a) (more c b)
more-greater c None b = refl
more-greater c (Some x) None = refl
more-greater c (Some x) (Some y) = by (nat_le x y) refl
  where
    by : (t : Bool) → nat_le x y ≡ t → Some (c + (if t then y else x)) ≡ Some (if nat_le (c + x) (c + y) then c + y else c + x)
    by true e = let l : nat_le (c + x) (c + y) ≡ true = grind (arith, nat_tests, e) in ap (λ b. Some (if b then c + y else c + x)) (sym l)
    by false e = let l : nat_le (c + x) (c + y) ≡ false = grind (arith, nat_tests, e) in ap (λ b. Some (if b then c + y else c + x)) (sym l)

pub there-more : (c : ℕ) (o : Option ℕ) → There o → There (more c o)
there-more c o t = (c + t.0, ap (more c) t.1)

pub there-left : (a b : Option ℕ) → There a → There (greater a b)
there-left None b t = absurd (none-some t.0 t.1)
there-left (Some x) None t = (x, refl)
there-left (Some x) (Some y) t = (_, refl)

pub there-right : (a b : Option ℕ) → There b → There (greater a b)
there-right None b t = t
there-right (Some x) None t = (x, refl)
there-right (Some x) (Some y) t = (_, refl)

pub size-join : {X : Type 0} (p m q : ℕ) (xs ys : List X) → p + length xs ≡ m → m + length ys ≡ q → p + length (xs ++ ys) ≡ q
size-join p m q xs ys e f = let s = append-size xs ys in omega (arith, s, e, f)

-- a thread's or a routine's line
abbrev pub IsCode : Kind → Type 0
IsCode (thread s a l) = Unit {0}
IsCode (routine h l) = Unit {0}
IsCode condition = ⊥

module _ (image : Parts) (costs : List ℕ) where
  pub unit-size : (kind : Kind) (p : ℕ) (V : Numbers) → p + length (unit_lines image costs kind p V) ≡ behind image p
  unit-size kind p V = by (half image p)
    where
      by : (o : Option ℤ) → p + length (half_lines image costs kind o V ++ numbers.line kind V ∷ []) ≡ behind_half o p + 1
      by None = refl
      by (Some u) = omega arith

  pub units-size : (kind : Kind) (n p q : ℕ) (V : Numbers) → AreUnits image p n q → p + length (units_lines image costs kind p n V) ≡ q
  units-size kind zero p q V u = (let e : p + 0 ≡ p = omega arith in e ∙ u)
  units-size kind (suc n) p q V u =
      let E = after (word_cost image costs (unit_word image p) + units_cost image costs (behind image p) n) V in
      size-join p (behind image p) q (unit_lines image costs kind p E) (units_lines image costs kind (behind image p) n V) (unit-size kind p E) (units-size kind n (behind image p) q V u.2)

  pub test-size : (kind : Kind) (p n at : ℕ) (V : Numbers) → AreUnits image p n at → p + length (test_lines image costs kind p n at V) ≡ behind image at
  test-size kind p n at V u =
      size-join p at (behind image at) (units_lines image costs kind p n (after (extra image costs at) V)) (unit_lines image costs kind at V) (units-size kind n p at (after (extra image costs at) V) u) (unit-size kind at V)

module _ (image : Parts) (cert : CertParts) (costs : List ℕ) (find : ℕ → Option Region) where
  abbrev pub At : ℕ → List Line → Type 0
  At p lines = AreAt cert p lines

  abbrev pub Good : ℕ → Type 0
  Good = IsGood image cert costs find

  abbrev pub On_line : Kind → ℕ → Numbers → Type 0
  On_line = Stands image cert costs find

  pub moved : (kind : Kind) (p q : ℕ) (V : Numbers) → p ≡ q → On_line kind p V → On_line kind q V
  moved kind p q V e h = ap (line_at cert.lines) (sym e) ∙ h

  pub same-numbers : (kind : Kind) (p : ℕ) (V W : Numbers) → ((view : View) → V view ≡ W view) → On_line kind p V → On_line kind p W
  same-numbers kind p V W f h = h ∙ line-same kind V W (λ view fit. f view)

  -- the place of a unit's word
  pub unit-word : (kind : Kind) (V : Numbers) (p : ℕ) → At p (unit_lines image costs kind p V) → On_line kind (word_place image p) V
  unit-word kind V p h = by (half image p) h
    where
      by : (o : Option ℤ) → At p (half_lines image costs kind o V ++ numbers.line kind V ∷ []) → On_line kind (behind_half o p) V
      by None k = k.0
      by (Some u) k = k.1.0

  -- the first place of straight units
  pub units-first : (kind : Kind) (n p q : ℕ) (V : Numbers) → AreUnits image p n q → At p (units_lines image costs kind p n V) → On_line kind q V → On_line kind p (after (units_cost image costs p n) V)
  units-first kind zero p q V u h e = same-numbers kind p V (after 0 V) (λ view. sym (more-zero (V view))) (moved kind q p V (sym u) e)
    where
      more-zero : (o : Option ℕ) → more 0 o ≡ o
      more-zero None = refl
      more-zero (Some n) = let e : 0 + n ≡ n = omega arith in ap Some e
  units-first kind (suc n) p q V u h e =
      let w = word_cost image costs (unit_word image p) in
      let r = units_cost image costs (behind image p) n in
      let x = extra image costs p in
      let E = after (w + r) V in
      same-numbers kind p (after x E) (after (units_cost image costs p (suc n)) V)
      (λ view. more-more x (w + r) (V view) ∙ more-by (x + (w + r)) (x + w + r) (V view) (omega arith))
      (unit-first image cert costs find kind E p (at-left cert (unit_lines image costs kind p E) (units_lines image costs kind (behind image p) n V) p h))

  pub test-first : (kind : Kind) (p n at : ℕ) (V : Numbers) → AreUnits image p n at → At p (test_lines image costs kind p n at V) → On_line kind p (testing image costs p n at V)
  test-first kind p n at V u h =
      let x = extra image costs at in
      let t = units_cost image costs p n in
      let E = after x V in
      let front = units_lines image costs kind p n E in
      let branch = at-right cert front (unit_lines image costs kind at V) p at (units-size image costs kind n p at E u) h in
      same-numbers kind p (after t E) (testing image costs p n at V) (λ view. more-more t x (V view))
      (units-first kind n p at E u (at-left cert front (unit_lines image costs kind at V) p h) (unit-first image cert costs find kind V at branch))

  pub keeps : (kind : Kind) (V W : Numbers) (q : ℕ) → On_line kind q W → keeps_kind image cert (numbers.line kind V) q ≡ true
  keeps kind V W q h = ap (same_kind (numbers.line kind V)) h ∙ kind-same kind V W

  pub opens : (s : ℕ) (a : List ℕ) (q : ℕ) (V : Numbers) → On_line (thread s a []) q V → IsPlain image cert costs find q → IsOpen image cert costs q s a
  opens s a q V h plain = (ap (is_thread s a []) h ∙ own-thread s a [] (map (level V) (range_with_len 0 (length a + 1))), plain)

  -- a condition's straight code is closed by its `cend`
  abbrev pub Closes : Kind → ℕ → Numbers → Type 0
  Closes (thread s a l) q V = Unit {0}
  Closes (routine h l) q V = Unit {0}
  Closes condition q V = IsWord image q Cend × (V Value ≡ Some (cost_of costs class.Cend))

  pub code-closes : (kind : Kind) (q : ℕ) (V : Numbers) → IsCode kind → Closes kind q V
  code-closes (thread s a l) q V c = tt
  code-closes (routine h l) q V c = tt
  code-closes condition q V c = absurd c

  pub units-plain : (n p q : ℕ) → AreUnits image p n q → IsPlain image cert costs find p → IsPlain image cert costs find q
  units-plain zero p q u c = subst (IsPlain image cert costs find) u c
  units-plain (suc n) p q u c = units-plain n (behind image p) q u.2 (unit-plain image cert costs find p (Does u.0) u.1 refl)

  pub branched-full : (kind : Kind) (V W : Numbers) → IsFull kind V → IsFull kind (branched image costs V W)
  branched-full kind V W full =
      full-map kind V (branched image costs V W)
      (λ view fit t. there-left (more (cost_of costs class.Untaken) (V view)) (more (cost_of costs class.Taken) (W view)) (there-more (cost_of costs class.Untaken) (V view) t)) full

  module _ (positive : (c : Class) → 1 ≤ cost_of costs c) where
    does-meets : (kind : Kind) (n p q : ℕ) (V : Numbers) → AreUnits image p (suc n) q →
        On_line kind p (after (extra image costs p) (after (word_cost image costs (unit_word image p) + units_cost image costs (behind image p) n) V)) →
        On_line kind (behind image p) (after (units_cost image costs (behind image p) n) V) → IsPlain image cert costs find (behind image p) → IsFull kind V → Closes kind q V → Meets image cert costs find p kind
    does-meets (thread s a []) n p q V u here next plain full closes =
        let kind = thread s a [] in
        let x = extra image costs p in
        let w = word_cost image costs (unit_word image p) in
        let r = units_cost image costs (behind image p) n in
        let c : w ≡ cost_of costs u.0 = ap (word_cost image costs) u.1 in
        let one = positive u.0 in
        let E = after x (after (w + r) V) in
        let F = after r V in
        straight-at image cert costs find p s a (Does u.0) u.1 refl
        (passing (Words p 1 (behind image p)) (u.0, u.1, refl) refl (omega (arith, c, one)) (omega arith) (omega arith) (opens s a (behind image p) F next plain)
        (λ side k within.
        let view = On side k in
        numbered image cert costs find kind E p view here within (full-after image cert costs find kind x (after (w + r) V) (full-after image cert costs find kind (w + r) V full))
        ∙ more-same x (w + r) (x + w + 0) r (V view) (omega arith)
        ∙ sym (ap (more (x + w + 0)) (numbered image cert costs find kind F (behind image p) view next within (full-after image cert costs find kind r V full))))
        (ap (λ o. stretch image find o p) u.1))
    does-meets (thread s a (y ∷ l)) n p q V u here next plain full closes = tt
    does-meets (routine h l) n p q V u here next plain full closes = tt
    does-meets condition n p q V u here next plain full closes =
        let x = extra image costs p in
        let w = word_cost image costs (unit_word image p) in
        let r = units_cost image costs (behind image p) n in
        let c = cost_of costs class.Cend in
        let e : x + (w + r + c) ≡ x + w + r + c = omega arith in
        record {
          count = suc n;
          close = q;
          units = u;
          closes = closes.0;
          value_is = ap value_of here ∙ value-is condition (after x (after (w + r) V)) (x + w + r + c) tt (ap (λ o. more x (more (w + r) o)) closes.1 ∙ ap Some e);
        }

    -- straight units
    pub units-law : (kind : Kind) (n p q : ℕ) (V : Numbers) → AreUnits image p n q → IsPlain image cert costs find p → Known image cert costs find kind → IsFull kind V → At p (units_lines image costs kind p n V) → On_line kind q V → Closes kind q V →
        Every p q Good
    units-law kind zero p q V u plain known full h e closes = every-none p q Good u
    units-law kind (suc n) p q V u plain known full h e closes =
        let w = word_cost image costs (unit_word image p) in
        let next = behind image p in
        let r = units_cost image costs next n in
        let E = after (w + r) V in
        let F = after r V in
        let c : w ≡ cost_of costs u.0 = ap (word_cost image costs) u.1 in
        let front = unit_lines image costs kind p E in
        let back = units_lines image costs kind next n V in
        let mine = at-left cert front back p h in
        let rest = at-right cert front back p next (unit-size image costs kind p E) h in
        let there = units-first kind n next q V u.2 rest e in
        let fullE = full-after image cert costs find kind (w + r) V full in
        let fullF = full-after image cert costs find kind r V full in
        let after_it = unit-plain image cert costs find p (Does u.0) u.1 refl in
        every-join p next q Good
        (unit-good image cert costs find kind E p (Does u.0) u.1 refl plain known fullE mine (λ un. keeps kind E F next there)
        (λ view fit.
        let s : E view ≡ more (cost_of costs u.0) (F view) = more-by (w + r) (cost_of costs u.0 + r) (V view) (omega (arith, c)) ∙ sym (more-more (cost_of costs u.0) r (V view)) in
        let C : Option ℕ → Type 0 = Covers (E view) in
        edge-holds image cert costs find (word_place image p) view (cost_of costs u.0) next (E view) (F view)
        (numbered image cert costs find kind E (word_place image p) view (unit-word kind E p mine) fit fullE) (numbered image cert costs find kind F next view there fit fullF) (subst C s (itself image cert costs find (E view))))
        (λ goal k. absurd k) (does-meets kind n p q V u (unit-first image cert costs find kind E p mine) there after_it full closes))
        (units-law kind n next q V u.2 after_it known full rest e closes)

    -- a jump
    jump-meets : (kind : Kind) (p goal : ℕ) (V : Numbers) → IsUnit image p (Jump (Some goal)) → IsCode kind → On_line kind p (after (extra image costs p) (after (cost_of costs class.Jump) V)) → On_line kind goal V → IsPlain image cert costs find goal → IsFull kind V →
        Meets image cert costs find p kind
    jump-meets (thread s a []) p goal V u code here there plain full =
        let kind = thread s a [] in
        let x = extra image costs p in
        let c = cost_of costs class.Jump in
        straight-at image cert costs find p s a (Jump (Some goal)) u refl
        (jumping goal u (opens s a goal V there plain)
        (λ side k within.
        let view = On side k in
        numbered image cert costs find kind (after x (after c V)) p view here within (full-after image cert costs find kind x (after c V) (full-after image cert costs find kind c V full))
        ∙ more-more x c (V view) ∙ sym (ap (more (x + c)) (numbered image cert costs find kind V goal view there within full))))
    jump-meets (thread s a (y ∷ l)) p goal V u code here there plain full = tt
    jump-meets (routine h l) p goal V u code here there plain full = tt
    jump-meets condition p goal V u code here there plain full = absurd code

    pub jump-law : (kind : Kind) (p goal : ℕ) (V : Numbers) → IsUnit image p (Jump (Some goal)) → IsCode kind → IsPlain image cert costs find p → Known image cert costs find kind → IsFull kind V → At p (jump_lines image costs kind p V) → On_line kind goal V → IsPlain image cert costs find goal →
        Every p (behind image p) Good
    jump-law kind p goal V u code plain known full h there clear =
        let c = cost_of costs class.Jump in
        let E = after c V in
        let fullE = full-after image cert costs find kind c V full in
        unit-good image cert costs find kind E p (Jump (Some goal)) u refl plain known fullE h (λ un. keeps kind E V goal there)
        (λ view fit. edge-holds image cert costs find (word_place image p) view c goal (E view) (V view)
        (numbered image cert costs find kind E (word_place image p) view (unit-word kind E p h) fit fullE) (numbered image cert costs find kind V goal view there fit full) (itself image cert costs find (E view)))
        (λ g k. ⊎_elim (λ e. subst (IsPlain image cert costs find) e clear) (λ n. absurd n) k) (jump-meets kind p goal V u code (unit-first image cert costs find kind E p h) there clear full)

    -- a branch
    branch-meets : (kind : Kind) (p goal : ℕ) (V W : Numbers) → IsUnit image p (Branch (Some goal)) → IsCode kind → On_line kind p (after (extra image costs p) (branched image costs V W)) → IsFull kind (branched image costs V W) →
        On_line kind (behind image p) V → IsPlain image cert costs find (behind image p) → IsFull kind V → On_line kind goal W → IsPlain image cert costs find goal → IsFull kind W → Meets image cert costs find p kind
    branch-meets (thread s a []) p goal V W u code here full next plain fullV there clear fullW =
        let kind = thread s a [] in
        let x = extra image costs p in
        let n = cost_of costs class.Untaken in
        let t = cost_of costs class.Taken in
        let B = branched image costs V W in
        straight-at image cert costs find p s a (Branch (Some goal)) u refl
        (branching goal u (opens s a goal W there clear) (opens s a (behind image p) V next plain)
        (λ side k within.
        let view = On side k in
        let v = sym (ap (more (x + n)) (numbered image cert costs find kind V (behind image p) view next within fullV)) in
        let w = sym (ap (more (x + t)) (numbered image cert costs find kind W goal view there within fullW)) in
        numbered image cert costs find kind (after x B) p view here within (full-after image cert costs find kind x B full)
        ∙ more-greater x (more n (V view)) (more t (W view))
        ∙ ap (λ o. greater o (more x (more t (W view)))) (more-more x n (V view) ∙ v)
        ∙ ap (λ o. greater (more (x + n) (number image cert costs view (behind image p))) o) (more-more x t (W view) ∙ w)))
    branch-meets (thread s a (y ∷ l)) p goal V W u code here full next plain fullV there clear fullW = tt
    branch-meets (routine h l) p goal V W u code here full next plain fullV there clear fullW = tt
    branch-meets condition p goal V W u code here full next plain fullV there clear fullW = absurd code

    pub branch-law : (kind : Kind) (p goal : ℕ) (V W : Numbers) → IsUnit image p (Branch (Some goal)) → IsCode kind → IsPlain image cert costs find p → Known image cert costs find kind → At p (unit_lines image costs kind p (branched image costs V W)) →
        On_line kind (behind image p) V → IsFull kind V → On_line kind goal W → IsPlain image cert costs find goal → IsFull kind W → Every p (behind image p) Good
    branch-law kind p goal V W u code plain known h next fullV there clear fullW =
        let n = cost_of costs class.Untaken in
        let t = cost_of costs class.Taken in
        let B = branched image costs V W in
        let full = branched-full kind V W fullV in
        let at = unit-word kind B p h in
        unit-good image cert costs find kind B p (Branch (Some goal)) u refl plain known full h
        (λ un. and-two (keeps_kind image cert (numbers.line kind B) (behind image p)) (keeps_kind image cert (numbers.line kind B) goal) (keeps kind B V (behind image p) next) (keeps kind B W goal there))
        (λ view fit.
        let b = numbered image cert costs find kind B (word_place image p) view at fit full in
        all-append Holding (edge image cert costs (word_place image p) view n (behind image p)) (edge image cert costs (word_place image p) view t goal)
        (edge-holds image cert costs find (word_place image p) view n (behind image p) (B view) (V view) b (numbered image cert costs find kind V (behind image p) view next fit fullV) (greater-left (more n (V view)) (more t (W view))))
        (edge-holds image cert costs find (word_place image p) view t goal (B view) (W view) b (numbered image cert costs find kind W goal view there fit fullW) (greater-right (more n (V view)) (more t (W view)))))
        (λ g k. ⊎_elim (λ e. subst (IsPlain image cert costs find) e clear) (λ x. absurd x) k)
        (branch-meets kind p goal V W u code (unit-first image cert costs find kind B p h) full next (unit-plain image cert costs find p (Branch (Some goal)) u refl) fullV there clear fullW)

    -- a test and its branch
    pub test-law : (kind : Kind) (p n at goal : ℕ) (V W : Numbers) → AreUnits image p n at → IsUnit image at (Branch (Some goal)) → IsCode kind → IsPlain image cert costs find p → Known image cert costs find kind →
        At p (test_lines image costs kind p n at (branched image costs V W)) → On_line kind (behind image at) V → IsFull kind V → On_line kind goal W → IsPlain image cert costs find goal → IsFull kind W → Every p (behind image at) Good
    test-law kind p n at goal V W units u code plain known h next fullV there clear fullW =
        let B = branched image costs V W in
        let x = extra image costs at in
        let E = after x B in
        let front = units_lines image costs kind p n E in
        let back = unit_lines image costs kind at B in
        let mine = at-left cert front back p h in
        let branch = at-right cert front back p at (units-size image costs kind n p at E units) h in
        let full = branched-full kind V W fullV in
        every-join p at (behind image at) Good
        (units-law kind n p at E units plain known (full-after image cert costs find kind x B full) mine (unit-first image cert costs find kind B at branch) (code-closes kind at E code))
        (branch-law kind at goal V W u code (units-plain n p at units plain) known branch next fullV there clear fullW)

-- The numbers where a thread's code begins: on what they depend, and that at each level one is there.
use Rattle.std.proofs.Common.{◌≡◌, ◌⊎◌, ◌≤◌, ◌<◌, ◌+◌, ◌++◌, ◌&&◌, ◌||◌, min, ℕ, zero, suc, Bool, true, false, if◌then◌else◌, List, [], ◌∷◌, length, Option, Some, None, refl, sym, ap, ◌∙◌, inl, inr, ⊎_elim, arith}
use Rattle.std.proofs.lemmas.Bool.{false≢true}
use Rattle.std.proofs.lemmas.Option.{none-some}
use Rattle.mb_isa.specs.declared.Class.TheVariants as class
use Rattle.mb_isa.specs.Costs.{cost_of}
use Rattle.pt_image.specs.declared.Parts.{Parts}
use Rattle.tk_paths.specs.declared.view.Side.{Side}
use Rattle.tk_paths.specs.declared.view.Side.TheVariants.{ToPause, ToEnd}
use Rattle.tk_paths.specs.declared.view.View.TheVariants.{On}
use Rattle.tk_paths.specs.Sums.{plus, greater, all_ends, most, most_paused}
use Rattle.tk_paths.specs.Kinds.{abort_at}
use Rattle.tk_paths.specs.Acceptance.{on_side, more}
use Rattle.tk_paths.specs.Regions.{extra, units_cost, through}
use Rattle.tk_paths.specs.Greatest.{stays}
use Rattle.tk_paths.specs.Codes.{Code, Passed, Sequence, Either, Turns, Forever, Resting, Forking, Guarded, exit, all_end, can_end, IsLasting, IsLaidIn}
use Rattle.tk_paths.specs.Numbers.{Numbers, level, nothing, Handler, after, branched, jumping, handled, rested, left, with_abort, entered}
use Rattle.tk_paths.proofs.Lines.{There, append-size}
use Rattle.tk_paths.proofs.UnitLaws.{there-more, there-left, there-right}

-- the first of two flags, or the second
and-false : (a b : Bool) → (a && b) ≡ false → (a ≡ false) ⊎ (b ≡ false)
and-false true b h = inr h
and-false false b h = inl refl

or-false : (a b : Bool) → (a || b) ≡ false → (a ≡ false) × (b ≡ false)
or-false true b h = absurd (false≢true (sym h))
or-false false b h = (refl, h)

there-plus : (a b : Option ℕ) → There a → There b → There (plus a b)
there-plus None b s t = absurd (none-some s.0 s.1)
there-plus (Some x) None s t = absurd (none-some t.0 t.1)
there-plus (Some x) (Some y) s t = (x + y, refl)

-- numbers of children
module _ (f : Side → ℕ → Option ℕ) where
  -- some number of each child is there
  abbrev pub AreThere : ℕ → ℕ → Type 0
  AreThere c n = (x : ℕ) → c ≤ x → x < c + n → (side : Side) × There (f side x)

  one-there : (c : ℕ) (side : Side) → There (f side c) → There (greater (f ToPause c) (f ToEnd c))
  one-there c ToPause t = there-left (f ToPause c) (f ToEnd c) t
  one-there c ToEnd t = there-right (f ToPause c) (f ToEnd c) t

  most-there : (n c : ℕ) → AreThere c n → There (most f c n)
  most-there zero c h = (0, refl)
  most-there (suc n) c h =
      let a = h c (omega arith) (omega arith) in
      there-plus (greater (f ToPause c) (f ToEnd c)) (most f (c + 1) n) (one-there c a.0 a.1) (most-there n (c + 1) (λ x l u. h x (omega (arith, l)) (omega (arith, u))))

  pub group-there : (n c : ℕ) → AreThere c n → There (all_ends f c n) ⊎ There (most_paused f c n)
  group-there zero c h = inl (0, refl)
  group-there (suc n) c h =
      let rest : AreThere (c + 1) n = λ x l u. h x (omega (arith, l)) (omega (arith, u)) in
      let a = h c (omega arith) (omega arith) in
      let P = plus (f ToPause c) (most f (c + 1) n) in
      let E = plus (f ToEnd c) (most_paused f (c + 1) n) in
      by a.0 a.1 (group-there n (c + 1) rest) (λ t. there-left P E (there-plus (f ToPause c) (most f (c + 1) n) t (most-there n (c + 1) rest)))
    where
      by : (side : Side) → There (f side c) → There (all_ends f (c + 1) n) ⊎ There (most_paused f (c + 1) n) → (There (f ToPause c) → There (most_paused f c (suc n))) →
          There (all_ends f c (suc n)) ⊎ There (most_paused f c (suc n))
      by ToPause t r pause = inr (pause t)
      by ToEnd t r pause =
          ⊎_elim (λ e. inl (there-plus (f ToEnd c) (all_ends f (c + 1) n) t e))
          (λ p. inr (there-right (plus (f ToPause c) (most f (c + 1) n)) (plus (f ToEnd c) (most_paused f (c + 1) n)) (there-plus (f ToEnd c) (most_paused f (c + 1) n) t p))) r

  -- a child that can't end has no number to its end
  pub none-ends : (ends : ℕ → Bool) → ((c : ℕ) → ends c ≡ false → f ToEnd c ≡ None) → (n c : ℕ) → all_end ends c n ≡ false → all_ends f c n ≡ None
  none-ends ends quiet zero c h = absurd (false≢true (sym h))
  none-ends ends quiet (suc n) c h =
      ⊎_elim (λ e. ap (λ o. plus o (all_ends f (c + 1) n)) (quiet c e)) (λ e. plus-none (f ToEnd c) (all_ends f (c + 1) n) (none-ends ends quiet n (c + 1) e)) (and-false (ends c) (all_end ends (c + 1) n) h)
    where
      plus-none : (a b : Option ℕ) → b ≡ None → plus a b ≡ None
      plus-none None b e = refl
      plus-none (Some x) b e = ap (plus (Some x)) e

  -- two numberings that agree on the children
  module _ (g : Side → ℕ → Option ℕ) where
    abbrev pub Alike : ℕ → ℕ → Type 0
    Alike c n = (side : Side) (x : ℕ) → c ≤ x → x < c + n → f side x ≡ g side x

    alike-rest : (c n : ℕ) → Alike c (suc n) → Alike (c + 1) n
    alike-rest c n h side x l u = h side x (omega (arith, l)) (omega (arith, u))

    pub ends-alike : (n c : ℕ) → Alike c n → all_ends f c n ≡ all_ends g c n
    ends-alike zero c h = refl
    ends-alike (suc n) c h =
        ap (λ o. plus o (all_ends f (c + 1) n)) (h ToEnd c (omega arith) (omega arith)) ∙ ap (plus (g ToEnd c)) (ends-alike n (c + 1) (alike-rest c n h))

    most-alike : (n c : ℕ) → Alike c n → most f c n ≡ most g c n
    most-alike zero c h = refl
    most-alike (suc n) c h =
        let p = h ToPause c (omega arith) (omega arith) in
        let e = h ToEnd c (omega arith) (omega arith) in
        ap (λ o. plus (greater o (f ToEnd c)) (most f (c + 1) n)) p ∙ ap (λ o. plus (greater (g ToPause c) o) (most f (c + 1) n)) e
        ∙ ap (plus (greater (g ToPause c) (g ToEnd c))) (most-alike n (c + 1) (alike-rest c n h))

    pub paused-alike : (n c : ℕ) → Alike c n → most_paused f c n ≡ most_paused g c n
    paused-alike zero c h = refl
    paused-alike (suc n) c h =
        let p = h ToPause c (omega arith) (omega arith) in
        let e = h ToEnd c (omega arith) (omega arith) in
        let rest = alike-rest c n h in
        let left_f = plus (f ToPause c) (most f (c + 1) n) in
        let left_g = plus (g ToPause c) (most g (c + 1) n) in
        let right_f = plus (f ToEnd c) (most_paused f (c + 1) n) in
        ap (λ o. greater o right_f) (ap (λ o. plus o (most f (c + 1) n)) p ∙ ap (plus (g ToPause c)) (most-alike n (c + 1) rest))
        ∙ ap (greater left_g) (ap (λ o. plus o (most_paused f (c + 1) n)) e ∙ ap (plus (g ToEnd c)) (paused-alike n (c + 1) rest))

module _ (image : Parts) (costs : List ℕ) where
  pub handled-front : (side : Side) (aborts others : List Handler) (k : ℕ) → k ≤ length aborts → handled image costs side (aborts ++ others) k ≡ handled image costs side aborts k
  handled-front side [] [] k h = refl
  handled-front side [] (x ∷ others) zero h = refl
  handled-front side [] (x ∷ others) (suc k) h = absurd (omega (arith, h))
  handled-front side (x ∷ aborts) others zero h = refl
  handled-front side (x ∷ aborts) others (suc k) h =
      ap (greater (if (abort_at image x.0).weak then on_side side (Some (x.1)) else None)) (handled-front side aborts others k (omega (arith, h)))

  -- two stacks of aborts whose handlers are alike up to a level
  abbrev pub AreAlike : ℕ → List Handler → List Handler → Type 0
  AreAlike m a b = (side : Side) (k : ℕ) → k ≤ m → handled image costs side a k ≡ handled image costs side b k

  alike-with : (m j : ℕ) (a b : List Handler) (V W : Numbers) → m ≤ length a → length a ≡ length b → AreAlike m a b → AreAlike m (with_abort image costs a j V) (with_abort image costs b j W)
  alike-with m j a b V W high size h side k within =
      handled-front side a ((j, level V (length a)) ∷ []) k (omega (arith, within, high)) ∙ h side k within
      ∙ sym (handled-front side b ((j, level W (length b)) ∷ []) k (omega (arith, within, high, size)))

  size-with : (j : ℕ) (a b : List Handler) (V W : Numbers) → length a ≡ length b → length (with_abort image costs a j V) ≡ length (with_abort image costs b j W)
  size-with j a b V W size =
      let x = append-size a ((j, level V (length a)) ∷ []) in
      let y = append-size b ((j, level W (length b)) ∷ []) in
      omega (arith, x, y, size)

  longer : (m j : ℕ) (a : List Handler) (V : Numbers) → m ≤ length a → m ≤ length (with_abort image costs a j V)
  longer m j a V h = let x = append-size a ((j, level V (length a)) ∷ []) in omega (arith, x, h)

  rested-alike : (m : ℕ) (a b : List Handler) → AreAlike m a b → (side : Side) (k : ℕ) → k ≤ m → rested image costs a (On side k) ≡ rested image costs b (On side k)
  rested-alike m a b h side k within = ap (greater (stays side)) (h side k within)

  module _ (starts : Side → ℕ → Option ℕ) where
    abbrev AlikeUpTo : ℕ → Numbers → Numbers → Type 0
    AlikeUpTo m V W = (side : Side) (k : ℕ) → k ≤ m → V (On side k) ≡ W (On side k)

    left-alike : (m : ℕ) (a b : List Handler) (V W : Numbers) → length a ≡ length b → AlikeUpTo m V W → AlikeUpTo m (left image costs a V) (left image costs b W)
    left-alike m a b V W size h side k within =
        ap (more (cost_of costs class.Leave)) (ap (λ n. V (On side (min k n))) size ∙ h side (min k (length b)) (omega (arith, within)))

    branched-alike : (m : ℕ) (V W X Y : Numbers) → AlikeUpTo m V W → AlikeUpTo m X Y → AlikeUpTo m (branched image costs V X) (branched image costs W Y)
    branched-alike m V W X Y f g side k within =
        ap (λ o. greater (more (cost_of costs class.Untaken) o) (more (cost_of costs class.Taken) (X (On side k)))) (f side k within)
        ∙ ap (λ o. greater (more (cost_of costs class.Untaken) (W (On side k))) (more (cost_of costs class.Taken) o)) (g side k within)

    after-alike : (m c : ℕ) (V W : Numbers) → AlikeUpTo m V W → AlikeUpTo m (after c V) (after c W)
    after-alike m c V W h side k within = ap (more c) (h side k within)

    -- Up to a level they depend on the handlers below it and on what is behind, up to that level.
    pub entered-alike : (code : Code) (m : ℕ) (a b : List Handler) (V W : Numbers) → m ≤ length a → length a ≡ length b → AreAlike m a b → AlikeUpTo m V W →
        AlikeUpTo m (entered image costs starts a code V) (entered image costs starts b code W)
    entered-alike (Passed r) m a b V W high size alike h = after-alike m (through image costs r) V W h
    entered-alike (Sequence x y) m a b V W high size alike h =
        entered-alike x m a b (entered image costs starts a y V) (entered image costs starts b y W) high size alike (entered-alike y m a b V W high size alike h)
    entered-alike (Either p n at x y) m a b V W high size alike h =
        let J = jumping image costs (exit x) V in
        let K = jumping image costs (exit x) W in
        let X = entered image costs starts a x J in
        let X' = entered image costs starts b x K in
        let Y = entered image costs starts a y V in
        let Y' = entered image costs starts b y W in
        after-alike m (units_cost image costs p n + extra image costs at) (branched image costs X Y) (branched image costs X' Y')
        (branched-alike m X X' Y Y' (entered-alike x m a b J K high size alike (after-alike m (extra image costs (exit x) + cost_of costs class.Jump) V W h)) (entered-alike y m a b V W high size alike h))
    entered-alike (Turns p n at body q) m a b V W high size alike h =
        let X = entered image costs starts a body nothing in
        let X' = entered image costs starts b body nothing in
        after-alike m (units_cost image costs p n + extra image costs at) (branched image costs X V) (branched image costs X' W)
        (branched-alike m X X' V W (entered-alike body m a b nothing nothing high size alike (λ side k w. refl)) h)
    entered-alike (Forever body q) m a b V W high size alike h = entered-alike body m a b nothing nothing high size alike (λ side k w. refl)
    entered-alike (Resting p) m a b V W high size alike h = after-alike m (cost_of costs class.Eot) (rested image costs a) (rested image costs b) (rested-alike m a b alike)
    entered-alike (Forking p lo n) m a b V W high size alike h = λ side k within.
        ap (λ o. more (cost_of costs class.Fork) (greater (plus (most_paused starts lo n) o) (plus (all_ends starts lo n) (V (On side k))))) (rested-alike m a b alike side k within)
        ∙ ap (λ o. more (cost_of costs class.Fork) (greater (plus (most_paused starts lo n) (rested image costs b (On side k))) (plus (all_ends starts lo n) o))) (h side k within)
    entered-alike (Guarded p j body) m a b V W high size alike h =
        let A = with_abort image costs a j V in
        let B = with_abort image costs b j W in
        after-alike m (cost_of costs class.Abrt) (entered image costs starts A body (left image costs a V)) (entered image costs starts B body (left image costs b W))
        (entered-alike body m A B (left image costs a V) (left image costs b W) (longer m j a V high) (size-with j a b V W size) (alike-with m j a b V W high size alike) (left-alike m a b V W size h))

    -- Where a code can't end, they don't depend on what is behind.
    module _ (ends : ℕ → Bool) (quiet : (c : ℕ) → ends c ≡ false → starts ToEnd c ≡ None) where
      pub entered-lasts : (code : Code) (m : ℕ) (a b : List Handler) (V W : Numbers) → can_end ends code ≡ false → m ≤ length a → length a ≡ length b → AreAlike m a b →
          AlikeUpTo m (entered image costs starts a code V) (entered image costs starts b code W)
      entered-lasts (Passed r) m a b V W c high size alike = absurd (false≢true (sym c))
      entered-lasts (Sequence x y) m a b V W c high size alike =
          let Y = entered image costs starts a y V in
          let Y' = entered image costs starts b y W in
          ⊎_elim (λ e. entered-lasts x m a b Y Y' e high size alike) (λ e. entered-alike x m a b Y Y' high size alike (entered-lasts y m a b V W e high size alike)) (and-false (can_end ends x) (can_end ends y) c)
      entered-lasts (Either p n at x y) m a b V W c high size alike =
          let e = or-false (can_end ends x) (can_end ends y) c in
          let J = jumping image costs (exit x) V in
          let K = jumping image costs (exit x) W in
          let X = entered image costs starts a x J in
          let X' = entered image costs starts b x K in
          let Y = entered image costs starts a y V in
          let Y' = entered image costs starts b y W in
          after-alike m (units_cost image costs p n + extra image costs at) (branched image costs X Y) (branched image costs X' Y')
          (branched-alike m X X' Y Y' (entered-lasts x m a b J K e.0 high size alike) (entered-lasts y m a b V W e.1 high size alike))
      entered-lasts (Turns p n at body q) m a b V W c high size alike = absurd (false≢true (sym c))
      entered-lasts (Forever body q) m a b V W c high size alike = entered-alike body m a b nothing nothing high size alike (λ side k w. refl)
      entered-lasts (Resting p) m a b V W c high size alike = after-alike m (cost_of costs class.Eot) (rested image costs a) (rested image costs b) (rested-alike m a b alike)
      entered-lasts (Forking p lo n) m a b V W c high size alike = λ side k within.
          let none = none-ends starts ends quiet n lo c in
          ap (λ o. more (cost_of costs class.Fork) (greater (plus (most_paused starts lo n) (rested image costs a (On side k))) (plus o (V (On side k))))) none
          ∙ ap (λ o. more (cost_of costs class.Fork) (greater (plus (most_paused starts lo n) o) None)) (rested-alike m a b alike side k within)
          ∙ ap (λ o. more (cost_of costs class.Fork) (greater (plus (most_paused starts lo n) (rested image costs b (On side k))) (plus o (W (On side k))))) (sym none)
      entered-lasts (Guarded p j body) m a b V W c high size alike =
          let A = with_abort image costs a j V in
          let B = with_abort image costs b j W in
          after-alike m (cost_of costs class.Abrt) (entered image costs starts A body (left image costs a V)) (entered image costs starts B body (left image costs b W))
          (entered-lasts body m A B (left image costs a V) (left image costs b W) c (longer m j a V high) (size-with j a b V W size) (alike-with m j a b V W high size alike))

      pub entered-same : (code : Code) (a : List Handler) (V W : Numbers) → can_end ends code ≡ false → AlikeUpTo (length a) (entered image costs starts a code V) (entered image costs starts a code W)
      entered-same code a V W c = entered-lasts code (length a) a a V W c (omega arith) refl (λ side k w. refl)

      -- ---- at each level a number is there

      abbrev pub FullUpTo : ℕ → Numbers → Type 0
      FullUpTo m V = (k : ℕ) → k ≤ m → (side : Side) × There (V (On side k))

      full-later : (m c : ℕ) (V : Numbers) → FullUpTo m V → FullUpTo m (after c V)
      full-later m c V h k w = let t = h k w in (t.0, there-more c (V (On t.0 k)) t.1)

      branched-first : (m : ℕ) (V W : Numbers) → FullUpTo m V → FullUpTo m (branched image costs V W)
      branched-first m V W h k w =
          let t = h k w in
          (t.0, there-left (more (cost_of costs class.Untaken) (V (On t.0 k))) (more (cost_of costs class.Taken) (W (On t.0 k))) (there-more (cost_of costs class.Untaken) (V (On t.0 k)) t.1))

      stays-there : (o : Option ℕ) → There (greater (stays ToPause) o)
      stays-there o = there-left (Some 0) o (0, refl)

      left-full : (a : List Handler) (V : Numbers) (n : ℕ) → FullUpTo (length a) V → FullUpTo n (left image costs a V)
      left-full a V n h k w = let t = h (min k (length a)) (omega arith) in (t.0, there-more (cost_of costs class.Leave) (V (On t.0 (min k (length a)))) t.1)

      -- a fork's children have numbers
      abbrev pub Parents : Code → Type 0
      Parents (Passed r) = Unit {0}
      Parents (Sequence x y) = Parents x × Parents y
      Parents (Either p n at x y) = Parents x × Parents y
      Parents (Turns p n at body q) = Parents body
      Parents (Forever body q) = Parents body
      Parents (Resting p) = Unit {0}
      Parents (Forking p lo n) = AreThere starts lo n
      Parents (Guarded p j body) = Parents body

      -- a fork's children have numbers
      pub parents-of : (s : ℕ) → ((c : ℕ) → s < c → c < length image.slots → (side : Side) × There (starts side c)) → (stack : List ℕ) (code : Code) → IsLaidIn image s stack code → Parents code
      parents-of s f a (Passed r) l = tt
      parents-of s f a (Sequence x y) l = (parents-of s f a x l.0, parents-of s f a y l.1)
      parents-of s f a (Either p n at x y) l = (parents-of s f a x l.3, parents-of s f a y l.6)
      parents-of s f a (Turns p n at body q) l = parents-of s f a body l.3
      parents-of s f a (Forever body q) l = parents-of s f a body l.0
      parents-of s f a (Resting p) l = tt
      parents-of s f a (Forking p lo n) l = λ c low high. let x = l.2 in let y = l.4 in f c (omega (arith, x, low)) (omega (arith, y, high))
      parents-of s f a (Guarded p j body) l = parents-of s f (a ++ j ∷ []) body l.4

      -- a body that can't end
      lasting-full : (body : Code) (a : List Handler) → can_end ends body ≡ false → ((V : Numbers) → FullUpTo (length a) V → FullUpTo (length a) (entered image costs starts a body V)) →
          FullUpTo (length a) (entered image costs starts a body nothing)
      lasting-full body a c full k w =
          let Z : Numbers = λ view. Some 0 in
          let t = full Z (λ i x. (ToPause, (0, refl))) k w in
          (t.0, (t.1.0, entered-same body a nothing Z c t.0 k w ∙ t.1.1))

      pub entered-full : (code : Code) (a : List Handler) (V : Numbers) → IsLasting ends code → Parents code → FullUpTo (length a) V → FullUpTo (length a) (entered image costs starts a code V)
      entered-full (Passed r) a V last kids h = full-later (length a) (through image costs r) V h
      entered-full (Sequence x y) a V last kids h = entered-full x a (entered image costs starts a y V) last.0 kids.0 (entered-full y a V last.1 kids.1 h)
      entered-full (Either p n at x y) a V last kids h =
          let J = jumping image costs (exit x) V in
          let X = entered image costs starts a x J in
          let Y = entered image costs starts a y V in
          full-later (length a) (units_cost image costs p n + extra image costs at) (branched image costs X Y)
          (branched-first (length a) X Y (entered-full x a J last.0 kids.0 (full-later (length a) (extra image costs (exit x) + cost_of costs class.Jump) V h)))
      entered-full (Turns p n at body q) a V last kids h =
          let X = entered image costs starts a body nothing in
          full-later (length a) (units_cost image costs p n + extra image costs at) (branched image costs X V) (branched-first (length a) X V (lasting-full body a last.1 (λ W f. entered-full body a W last.0 kids f)))
      entered-full (Forever body q) a V last kids h = lasting-full body a last.1 (λ W f. entered-full body a W last.0 kids f)
      entered-full (Resting p) a V last kids h = λ k w. (ToPause, there-more (cost_of costs class.Eot) (rested image costs a (On ToPause k)) (stays-there (handled image costs ToPause a k)))
      entered-full (Forking p lo n) a V last kids h = λ k w.
          let c = cost_of costs class.Fork in
          ⊎_elim
          (λ e. let t = h k w in
          let P = plus (most_paused starts lo n) (rested image costs a (On t.0 k)) in
          let E = plus (all_ends starts lo n) (V (On t.0 k)) in
          (t.0, there-more c (greater P E) (there-right P E (there-plus (all_ends starts lo n) (V (On t.0 k)) e t.1))))
          (λ g.
          let P = plus (most_paused starts lo n) (rested image costs a (On ToPause k)) in
          let E = plus (all_ends starts lo n) (V (On ToPause k)) in
          (ToPause, there-more c (greater P E) (there-left P E (there-plus (most_paused starts lo n) (rested image costs a (On ToPause k)) g (stays-there (handled image costs ToPause a k))))))
          (group-there starts n lo kids)
      entered-full (Guarded p j body) a V last kids h = λ k w.
          let A = with_abort image costs a j V in
          let L = left image costs a V in
          let t = entered-full body A L last kids (left-full a V (length A) h) k (longer k j a V w) in
          (t.0, there-more (cost_of costs class.Abrt) (entered image costs starts A body L (On t.0 k)) t.1)

  -- ---- they depend on the numbers of later slots alone

  pub entered-starts : (f g : Side → ℕ → Option ℕ) (s : ℕ) (stack : List ℕ) (code : Code) → IsLaidIn image s stack code → ((side : Side) (c : ℕ) → s < c → f side c ≡ g side c) → (m : ℕ) (a b : List Handler) (V W : Numbers) → m ≤ length a → length a ≡ length b →
      AreAlike m a b → ((side : Side) (k : ℕ) → k ≤ m → V (On side k) ≡ W (On side k)) → (side : Side) (k : ℕ) → k ≤ m → entered image costs f a code V (On side k) ≡ entered image costs g b code W (On side k)
  entered-starts f g s stack (Passed r) l same m a b V W high size alike h = after-alike f m (through image costs r) V W h
  entered-starts f g s stack (Sequence x y) l same m a b V W high size alike h =
      entered-starts f g s stack x l.0 same m a b (entered image costs f a y V) (entered image costs g b y W) high size alike (entered-starts f g s stack y l.1 same m a b V W high size alike h)
  entered-starts f g s stack (Either p n at x y) l same m a b V W high size alike h =
      let J = jumping image costs (exit x) V in
      let K = jumping image costs (exit x) W in
      let X = entered image costs f a x J in
      let X' = entered image costs g b x K in
      let Y = entered image costs f a y V in
      let Y' = entered image costs g b y W in
      after-alike f m (units_cost image costs p n + extra image costs at) (branched image costs X Y) (branched image costs X' Y')
      (branched-alike f m X X' Y Y' (entered-starts f g s stack x l.3 same m a b J K high size alike (after-alike f m (extra image costs (exit x) + cost_of costs class.Jump) V W h)) (entered-starts f g s stack y l.6 same m a b V W high size alike h))
  entered-starts f g s stack (Turns p n at body q) l same m a b V W high size alike h =
      let X = entered image costs f a body nothing in
      let X' = entered image costs g b body nothing in
      after-alike f m (units_cost image costs p n + extra image costs at) (branched image costs X V) (branched image costs X' W)
      (branched-alike f m X X' V W (entered-starts f g s stack body l.3 same m a b nothing nothing high size alike (λ side k w. refl)) h)
  entered-starts f g s stack (Forever body q) l same m a b V W high size alike h = entered-starts f g s stack body l.0 same m a b nothing nothing high size alike (λ side k w. refl)
  entered-starts f g s stack (Resting p) l same m a b V W high size alike h = after-alike f m (cost_of costs class.Eot) (rested image costs a) (rested image costs b) (rested-alike m a b alike)
  entered-starts f g s stack (Forking p lo n) l same m a b V W high size alike h = λ side k within.
      let low = l.2 in
      let kids : (x : Side) (c : ℕ) → lo ≤ c → c < lo + n → f x c ≡ g x c = λ x c u v. same x c (omega (arith, u, low)) in
      ap (λ o. more (cost_of costs class.Fork) (greater (plus o (rested image costs a (On side k))) (plus (all_ends f lo n) (V (On side k))))) (paused-alike f g n lo kids)
      ∙ ap (λ o. more (cost_of costs class.Fork) (greater (plus (most_paused g lo n) o) (plus (all_ends f lo n) (V (On side k))))) (rested-alike m a b alike side k within)
      ∙ ap (λ o. more (cost_of costs class.Fork) (greater (plus (most_paused g lo n) (rested image costs b (On side k))) (plus o (V (On side k))))) (ends-alike f g n lo kids)
      ∙ ap (λ o. more (cost_of costs class.Fork) (greater (plus (most_paused g lo n) (rested image costs b (On side k))) (plus (all_ends g lo n) o))) (h side k within)
  entered-starts f g s stack (Guarded p j body) l same m a b V W high size alike h =
      let A = with_abort image costs a j V in
      let B = with_abort image costs b j W in
      after-alike f m (cost_of costs class.Abrt) (entered image costs f A body (left image costs a V)) (entered image costs g B body (left image costs b W))
      (entered-starts f g s (stack ++ j ∷ []) body l.4 same m A B (left image costs a V) (left image costs b W) (longer m j a V high) (size-with j a b V W size) (alike-with m j a b V W high size alike) (left-alike f m a b V W size h))

  -- ---- to the end, where no abort is old

  handled-zero : (side : Side) (a : List Handler) → handled image costs side a 0 ≡ None
  handled-zero side [] = refl
  handled-zero side (x ∷ a) = refl

  more-none : (c : ℕ) (o : Option ℕ) → o ≡ None → more c o ≡ None
  more-none c o e = ap (more c) e

  greater-none : (a b : Option ℕ) → a ≡ None → b ≡ None → greater a b ≡ None
  greater-none a b e f = ap (λ o. greater o b) e ∙ f

  plus-none : (a b : Option ℕ) → b ≡ None → plus a b ≡ None
  plus-none None b e = refl
  plus-none (Some x) b e = ap (plus (Some x)) e

  rested-none : (a : List Handler) → rested image costs a (On ToEnd 0) ≡ None
  rested-none a = handled-zero ToEnd a

  branched-none : (V W : Numbers) → V (On ToEnd 0) ≡ None → W (On ToEnd 0) ≡ None → branched image costs V W (On ToEnd 0) ≡ None
  branched-none V W e f =
      greater-none (more (cost_of costs class.Untaken) (V (On ToEnd 0))) (more (cost_of costs class.Taken) (W (On ToEnd 0))) (more-none (cost_of costs class.Untaken) (V (On ToEnd 0)) e) (more-none (cost_of costs class.Taken) (W (On ToEnd 0)) f)

  left-zero : (a : List Handler) (V : Numbers) → left image costs a V (On ToEnd 0) ≡ more (cost_of costs class.Leave) (V (On ToEnd 0))
  left-zero a V = let e : min 0 (length a) ≡ 0 = omega arith in ap (λ n. more (cost_of costs class.Leave) (V (On ToEnd n))) e

  module _ (starts : Side → ℕ → Option ℕ) where
    silent : (code : Code) (a : List Handler) (V : Numbers) → V (On ToEnd 0) ≡ None → entered image costs starts a code V (On ToEnd 0) ≡ None
    silent (Passed r) a V e = more-none (through image costs r) (V (On ToEnd 0)) e
    silent (Sequence x y) a V e = silent x a (entered image costs starts a y V) (silent y a V e)
    silent (Either p n at x y) a V e =
        let J = jumping image costs (exit x) V in
        let X = entered image costs starts a x J in
        let Y = entered image costs starts a y V in
        more-none (units_cost image costs p n + extra image costs at) (branched image costs X Y (On ToEnd 0))
        (branched-none X Y (silent x a J (more-none (extra image costs (exit x) + cost_of costs class.Jump) (V (On ToEnd 0)) e)) (silent y a V e))
    silent (Turns p n at body q) a V e =
        let X = entered image costs starts a body nothing in
        more-none (units_cost image costs p n + extra image costs at) (branched image costs X V (On ToEnd 0)) (branched-none X V (silent body a nothing refl) e)
    silent (Forever body q) a V e = silent body a nothing refl
    silent (Resting p) a V e = more-none (cost_of costs class.Eot) (rested image costs a (On ToEnd 0)) (rested-none a)
    silent (Forking p lo n) a V e =
        let P = plus (most_paused starts lo n) (rested image costs a (On ToEnd 0)) in
        let E = plus (all_ends starts lo n) (V (On ToEnd 0)) in
        more-none (cost_of costs class.Fork) (greater P E) (greater-none P E (plus-none (most_paused starts lo n) (rested image costs a (On ToEnd 0)) (rested-none a)) (plus-none (all_ends starts lo n) (V (On ToEnd 0)) e))
    silent (Guarded p j body) a V e =
        let L = left image costs a V in
        let A = with_abort image costs a j V in
        more-none (cost_of costs class.Abrt) (entered image costs starts A body L (On ToEnd 0)) (silent body A L (left-zero a V ∙ more-none (cost_of costs class.Leave) (V (On ToEnd 0)) e))

    -- a code that can't end has no number to its end
    pub never-ends : (ends : ℕ → Bool) → ((c : ℕ) → ends c ≡ false → starts ToEnd c ≡ None) → (code : Code) (a : List Handler) (V : Numbers) → can_end ends code ≡ false → entered image costs starts a code V (On ToEnd 0) ≡ None
    never-ends ends quiet (Passed r) a V c = absurd (false≢true (sym c))
    never-ends ends quiet (Sequence x y) a V c =
        let Y = entered image costs starts a y V in
        ⊎_elim (λ e. never-ends ends quiet x a Y e) (λ e. silent x a Y (never-ends ends quiet y a V e)) (and-false (can_end ends x) (can_end ends y) c)
    never-ends ends quiet (Either p n at x y) a V c =
        let e = or-false (can_end ends x) (can_end ends y) c in
        let J = jumping image costs (exit x) V in
        let X = entered image costs starts a x J in
        let Y = entered image costs starts a y V in
        more-none (units_cost image costs p n + extra image costs at) (branched image costs X Y (On ToEnd 0)) (branched-none X Y (never-ends ends quiet x a J e.0) (never-ends ends quiet y a V e.1))
    never-ends ends quiet (Turns p n at body q) a V c = absurd (false≢true (sym c))
    never-ends ends quiet (Forever body q) a V c = silent body a nothing refl
    never-ends ends quiet (Resting p) a V c = more-none (cost_of costs class.Eot) (rested image costs a (On ToEnd 0)) (rested-none a)
    never-ends ends quiet (Forking p lo n) a V c =
        let P = plus (most_paused starts lo n) (rested image costs a (On ToEnd 0)) in
        let E = plus (all_ends starts lo n) (V (On ToEnd 0)) in
        more-none (cost_of costs class.Fork) (greater P E)
        (greater-none P E (plus-none (most_paused starts lo n) (rested image costs a (On ToEnd 0)) (rested-none a)) (ap (λ o. plus o (V (On ToEnd 0))) (none-ends starts ends quiet n lo c)))
    never-ends ends quiet (Guarded p j body) a V c =
        let L = left image costs a V in
        let A = with_abort image costs a j V in
        more-none (cost_of costs class.Abrt) (entered image costs starts A body L (On ToEnd 0)) (never-ends ends quiet body A L c)

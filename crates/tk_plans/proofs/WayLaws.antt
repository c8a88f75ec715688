-- The dearest ways of regions, and turns of loops one after another.
use Rattle.std.proofs.Common.{◌≡◌, ℕ, ◌+◌, ◌-◌, ◌≤◌, ◌++◌, zero, suc, Bool, true, false, if◌then◌else◌, List, [], ◌∷◌, map, length, slice_index_or, refl, sym, ap, ◌∙◌, append_assoc, arith}
use Rattle.std.proofs.lemmas.List.{append-nil}
use Rattle.pt_image.specs.declared.Parts.{Parts}
use Rattle.tk_paths.specs.Regions.{Region, Choice, Counted, Repeated, times, dearest_way}
use Rattle.tk_paths.specs.Trees.{regions_from, routine_at}
use Rattle.tk_plans.specs.Ways.{side_taken, is_left, turns_by}

-- ---- turns

times-none : (n : ℕ) → times n [] ≡ []
times-none zero = refl
times-none (suc n) = times-none n

pub no_turns : (old turn : List Bool) (n : ℕ) → length turn ≡ 0 → old ≡ old ++ times n turn
no_turns old [] n h = sym (append-nil old) ∙ ap (λ l. old ++ l) (sym (times-none n))
no_turns old (b ∷ turn) n h = absurd (omega (arith, h))

pub turn_more : (c turn : List Bool) (n : ℕ) → 1 ≤ n → (c ++ turn) ++ times (n - 1) turn ≡ c ++ times n turn
turn_more c turn n h =
    let e : n ≡ suc (n - 1) = omega (arith, h) in
    append_assoc c turn (times (n - 1) turn) ∙ ap (λ m. c ++ times m turn) (sym e)

pub turn_end : (c turn : List Bool) (n : ℕ) → n ≤ 0 → c ≡ c ++ times n turn
turn_end c turn n h = let e : n ≡ 0 = omega (arith, h) in sym (append-nil c) ∙ ap (λ m. c ++ times m turn) (sym e)

pub ruleset turnings = (no_turns, turn_more, turn_end)

pub turns_left : (old mid new turn : List Bool) (left : Bool) (m : ℕ) → left ≡ true → mid ≡ old ++ times m turn → new ≡ mid ++ true ∷ [] → new ≡ old ++ turns_by left m turn
turns_left old mid new turn left m t e f =
    f ∙ ap (λ l. l ++ true ∷ []) e ∙ append_assoc old (times m turn) (true ∷ []) ∙ ap (λ b. old ++ turns_by b m turn) (sym t)

pub turns_used : (old new turn : List Bool) (left : Bool) (m : ℕ) → left ≡ false → new ≡ old ++ times (m + 1) turn → new ≡ old ++ turns_by left m turn
turns_used old new turn left m t e =
    let s : m + 1 ≡ suc m = omega arith in
    e ∙ ap (λ n. old ++ times n turn) s ∙ ap (λ b. old ++ turns_by b m turn) (sym t)

module _ (image : Parts) (costs : List ℕ) where
  -- the way of the routine of a number
  pub way_is : (routines : List Region) (p f : ℕ) → slice_index_or (map (dearest_way image costs) routines) f [] ≡ dearest_way image costs (routine_at routines p f)
  way_is [] p zero = refl
  way_is [] p (suc f) = refl
  way_is (r ∷ routines) p zero = refl
  way_is (r ∷ routines) p (suc f) = way_is routines p f

  -- regions one behind the other, wherever they end
  pub ways_anywhere : (rs : List Region) (p q : ℕ) → dearest_way image costs (regions_from p rs) ≡ dearest_way image costs (regions_from q rs)
  ways_anywhere [] p q = refl
  ways_anywhere (r ∷ rs) p q = ap (λ l. dearest_way image costs r ++ l) (ways_anywhere rs p q)

  module _ (whole : Region) (old mid new : List Bool) where
    pub taken_way : (x y : Region) (p n at : ℕ) (t : Bool) → whole ≡ Choice p n at x y → t ≡ side_taken image costs x y → t ≡ true → mid ≡ old ++ t ∷ [] →
        new ≡ mid ++ dearest_way image costs y → new ≡ old ++ dearest_way image costs whole
    taken_way x y p n at t w s is m e =
        e ∙ ap (λ l. l ++ dearest_way image costs y) (m ∙ ap (λ (b : Bool). old ++ b ∷ []) is) ∙ append_assoc old (true ∷ []) (dearest_way image costs y)
        ∙ ap (λ (b : Bool). old ++ (if b then true ∷ dearest_way image costs y else false ∷ dearest_way image costs x)) (sym is ∙ s)
        ∙ sym (ap (λ (r : Region). old ++ dearest_way image costs r) w)

    pub untaken_way : (x y : Region) (p n at : ℕ) (t : Bool) → whole ≡ Choice p n at x y → t ≡ side_taken image costs x y → t ≡ false → mid ≡ old ++ t ∷ [] →
        new ≡ mid ++ dearest_way image costs x → new ≡ old ++ dearest_way image costs whole
    untaken_way x y p n at t w s is m e =
        e ∙ ap (λ l. l ++ dearest_way image costs x) (m ∙ ap (λ (b : Bool). old ++ b ∷ []) is) ∙ append_assoc old (false ∷ []) (dearest_way image costs x)
        ∙ ap (λ (b : Bool). old ++ (if b then true ∷ dearest_way image costs y else false ∷ dearest_way image costs x)) (sym is ∙ s)
        ∙ sym (ap (λ (r : Region). old ++ dearest_way image costs r) w)

    pub counted_way : (body : Region) (p m n at q : ℕ) (t : Bool) (turn : List Bool) → whole ≡ Counted p m n at body q → t ≡ is_left image costs p m n at body →
        turn ≡ false ∷ dearest_way image costs body → new ≡ old ++ turns_by t m turn → new ≡ old ++ dearest_way image costs whole
    counted_way body p m n at q t turn w s e f =
        f ∙ ap (λ l. old ++ turns_by t m l) e ∙ ap (λ (b : Bool). old ++ turns_by b m (false ∷ dearest_way image costs body)) s
        ∙ ap (λ l. old ++ l) (by (is_left image costs p m n at body))
        ∙ sym (ap (λ (r : Region). old ++ dearest_way image costs r) w)
      where
        by : (b : Bool) → turns_by b m (false ∷ dearest_way image costs body)
            ≡ (if b then times m (false ∷ dearest_way image costs body) ++ true ∷ [] else times (suc m) (false ∷ dearest_way image costs body))
        by true = refl
        by false = refl

    pub repeated_way : (body : Region) (p m q : ℕ) (turn : List Bool) → whole ≡ Repeated p m body q → turn ≡ dearest_way image costs body →
        new ≡ old ++ times (m + 1) turn → new ≡ old ++ dearest_way image costs whole
    repeated_way body p m q turn w e f =
        let s : m + 1 ≡ suc m = omega arith in
        f ∙ ap (λ l. old ++ times (m + 1) l) e ∙ ap (λ n. old ++ times n (dearest_way image costs body)) s
        ∙ sym (ap (λ (r : Region). old ++ dearest_way image costs r) w)

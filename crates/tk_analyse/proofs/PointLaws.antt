-- Of a slot's points the one that gives its number, one point after another from the last.
use Rattle.std.proofs.Common.{◌≡◌, ℕ, ◌-◌, ◌≤◌, ◌==◌, nat_le, Bool, true, false, if◌then◌else◌, List, [], ◌∷◌, drop, length, get_or, Option, Some, None, IfSome, Bor, refl, sym, ap, ◌∙◌, subst}
use Rattle.std.specs.Option.{option_copied}
use Rattle.std.specs.List.{AllByRecursion}
use Rattle.pt_image.specs.declared.Point.{Point}
use Rattle.pt_image.specs.declared.Parts.{Parts}
use Rattle.tk_paths.specs.Sums.{greater}
use Rattle.tk_paths.specs.Greatest.{best}
use Rattle.tk_paths.specs.Walks.{most_cycles}
use Rattle.tk_paths.specs.Faults.{IsSmall}
use Rattle.tk_paths.specs.Waits.{IsSmallWait}
use Rattle.tk_paths.specs.Choices.{is_second}
use Rattle.tk_paths.specs.Dearest.{Begun, best_begun}
use Rattle.tk_threads.proofs.EntranceLaws.{front}
use Rattle.tk_analyse.specs.Begun.{best_point, at_point}
use Rattle.tk_analyse.specs.Points.{IsSmallSum}

greater-second : (a b : Option ℕ) → is_second a b ≡ true → greater a b ≡ b
greater-second None b t = refl
greater-second (Some x) None t = cc
greater-second (Some x) (Some y) t = ap (λ (c : Bool). Some (if c then y else x)) t

greater-first : (a b : Option ℕ) → is_second a b ≡ false → greater a b ≡ a
greater-first None b t = cc
greater-first (Some x) None t = refl
greater-first (Some x) (Some y) t = ap (λ (c : Bool). Some (if c then y else x)) t

-- ---- what holds of all points

module _ (P : Point → Type 0) where
  copied-holds : (o : Option (Bor Point)) → IfSome (option_copied o) P → IfSome o (λ (q : Bor Point). P q.now)
  copied-holds None h = tt
  copied-holds (Some q) h = h

  chosen-holds : (given : Point → Option ℕ) (s : ℕ) (points : List Point) → AllByRecursion P points → IfSome (best_point given s points) P
  chosen-holds given s [] all = tt
  chosen-holds given s (p ∷ points) all = by (p.slot == s) (is_second (given p) (best given s points)) (chosen-holds given s points all.1)
    where
      by : (b c : Bool) → IfSome (best_point given s points) P →
          IfSome (if b then (if c then best_point given s points else Some p) else best_point given s points) P
      by true true h = h
      by true false h = all.0
      by false c h = h

  -- it holds of the one that gives a slot its number
  pub best_holds : (given : Point → Option ℕ) (s : ℕ) (points : List Point) (o : Option (Bor Point)) → option_copied o ≡ best_point given s points →
      AllByRecursion P points → IfSome o (λ (q : Bor Point). P q.now)
  best_holds given s points o e all =
      let Q : Option Point → Type 0 = λ p. IfSome p P in
      copied-holds o (subst Q (sym e) (chosen-holds given s points all))

-- what that one gives is there
there : (o rest : Option ℕ) → is_second o rest ≡ false → IsSmall o → IsSmallSum o
there None rest t h = cc
there (Some n) rest t h = h

chosen-there : (given : Point → Option ℕ) (s : ℕ) (points : List Point) → AllByRecursion (λ (p : Point). IsSmall (given p)) points →
    IfSome (best_point given s points) (λ (p : Point). IsSmallSum (given p))
chosen-there given s [] all = tt
chosen-there given s (p ∷ points) all =
    by (p.slot == s) (is_second (given p) (best given s points)) (there (given p) (best given s points)) (chosen-there given s points all.1)
  where
    by : (b c : Bool) → (c ≡ false → IsSmall (given p) → IsSmallSum (given p)) → IfSome (best_point given s points) (λ (q : Point). IsSmallSum (given q)) →
        IfSome (if b then (if c then best_point given s points else Some p) else best_point given s points) (λ (q : Point). IsSmallSum (given q))
    by true true f h = h
    by true false f h = f refl all.0
    by false c f h = h

pub best_there : (given : Point → Option ℕ) (s : ℕ) (points : List Point) (o : Option (Bor Point)) → option_copied o ≡ best_point given s points →
    AllByRecursion (λ (p : Point). IsSmall (given p)) points → IfSome o (λ (q : Bor Point). IsSmallSum (given q.now))
best_there given s points o e all =
    let P : Point → Type 0 = λ p. IsSmallSum (given p) in
    let Q : Option Point → Type 0 = λ p. IfSome p P in
    copied-holds P o (subst Q (sym e) (chosen-there given s points all))

-- where what each gives is small, so is the greatest for a slot
greater-small : (a b : Option ℕ) → IsSmall a → IsSmall b → IsSmall (greater a b)
greater-small None b f g = g
greater-small (Some a) None f g = f
greater-small (Some a) (Some b) f g = by (nat_le a b)
  where
    by : (c : Bool) → (if c then b else a) ≤ most_cycles
    by true = g
    by false = f

pub best_small : (given : Point → Option ℕ) (s : ℕ) (points : List Point) → AllByRecursion (λ (p : Point). IsSmall (given p)) points →
    IsSmall (best given s points)
best_small given s [] all = tt
best_small given s (p ∷ points) all = by (p.slot == s) (best_small given s points all.1)
  where
    by : (b : Bool) → IsSmall (best given s points) → IsSmall (if b then greater (given p) (best given s points) else best given s points)
    by true h = greater-small (given p) (best given s points) all.0 h
    by false h = h

-- and what the children of its forks come to
pub waits_of : (image : Parts) (pairs : List (Option ℕ × Option ℕ)) (s : ℕ) (points : List Point) → AllByRecursion (IsSmallWait image pairs) points →
    AllByRecursion (λ (p : Point). p.slot ≡ s → IsSmallWait image pairs p) points
waits_of image pairs s [] all = tt
waits_of image pairs s (p ∷ points) all = (λ e. all.0, waits_of image pairs s points all.1)

module _ (given : Point → Option ℕ) (s : ℕ) (points : List Point) (i : ℕ) (x : Point) (some : 1 ≤ i) (low : i ≤ length points) (is : x ≡ get_or points (i - 1) x) where
  abbrev rest : List Point
  rest = drop i points

  -- of another slot
  pub other_best : (x.slot == s) ≡ false → best given s (drop i points) ≡ best given s (drop (i - 1) points)
  other_best t = sym (ap (best given s) (front points i x some low is) ∙ ap (λ (b : Bool). if b then greater (given x) (best given s rest) else best given s rest) t)

  pub other_point : (x.slot == s) ≡ false → best_point given s (drop i points) ≡ best_point given s (drop (i - 1) points)
  other_point t =
      sym (ap (best_point given s) (front points i x some low is)
      ∙ ap (λ (b : Bool). if b then (if is_second (given x) (best given s rest) then best_point given s rest else Some x) else best_point given s rest) t)

  -- of this slot, and not the dearer
  pub less_best : (g m : Option ℕ) → (x.slot == s) ≡ true → g ≡ given x → m ≡ best given s (drop i points) → is_second g m ≡ true → m ≡ best given s (drop (i - 1) points)
  less_best g m t e f d =
      sym (ap (best given s) (front points i x some low is) ∙ ap (λ (b : Bool). if b then greater (given x) (best given s rest) else best given s rest) t
      ∙ ap (λ (o : Option ℕ). greater o (best given s rest)) (sym e) ∙ ap (greater g) (sym f) ∙ greater-second g m d)

  pub less_point : (g m : Option ℕ) → (x.slot == s) ≡ true → g ≡ given x → m ≡ best given s (drop i points) → is_second g m ≡ true →
      best_point given s (drop i points) ≡ best_point given s (drop (i - 1) points)
  less_point g m t e f d =
      sym (ap (best_point given s) (front points i x some low is)
      ∙ ap (λ (b : Bool). if b then (if is_second (given x) (best given s rest) then best_point given s rest else Some x) else best_point given s rest) t
      ∙ ap (λ (b : Bool). if b then best_point given s rest else Some x) (ap (λ (o : Option ℕ). is_second o (best given s rest)) (sym e) ∙ ap (is_second g) (sym f) ∙ d))

  -- of this slot, and the dearer
  pub more_best : (g m : Option ℕ) → (x.slot == s) ≡ true → g ≡ given x → m ≡ best given s (drop i points) → is_second g m ≡ false → g ≡ best given s (drop (i - 1) points)
  more_best g m t e f d =
      sym (ap (best given s) (front points i x some low is) ∙ ap (λ (b : Bool). if b then greater (given x) (best given s rest) else best given s rest) t
      ∙ ap (λ (o : Option ℕ). greater o (best given s rest)) (sym e) ∙ ap (greater g) (sym f) ∙ greater-first g m d)

  pub more_point : (g m : Option ℕ) → (x.slot == s) ≡ true → g ≡ given x → m ≡ best given s (drop i points) → is_second g m ≡ false →
      Some x ≡ best_point given s (drop (i - 1) points)
  more_point g m t e f d =
      sym (ap (best_point given s) (front points i x some low is)
      ∙ ap (λ (b : Bool). if b then (if is_second (given x) (best given s rest) then best_point given s rest else Some x) else best_point given s rest) t
      ∙ ap (λ (b : Bool). if b then best_point given s rest else Some x) (ap (λ (o : Option ℕ). is_second o (best given s rest)) (sym e) ∙ ap (is_second g) (sym f) ∙ d))

pub ruleset points = (other_best, other_point, less_best, less_point, more_best, more_point)

pub point_begun : (given : Point → Option ℕ) (begun : Point → Begun) (s : ℕ) (points : List Point) → best_begun given begun s points ≡ at_point begun (best_point given s points)
point_begun given begun s [] = refl
point_begun given begun s (p ∷ points) = by (p.slot == s) (is_second (given p) (best given s points)) (point_begun given begun s points)
  where
    by : (b c : Bool) → best_begun given begun s points ≡ at_point begun (best_point given s points) →
        (if b then (if c then best_begun given begun s points else begun p) else best_begun given begun s points)
        ≡ at_point begun (if b then (if c then best_point given s points else Some p) else best_point given s points)
    by true true e = e
    by true false e = refl
    by false c e = e

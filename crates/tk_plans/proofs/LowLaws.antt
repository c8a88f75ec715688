-- The numbers of lines that are low are, and so is what follows a rest.
use Rattle.std.proofs.Common.{◌≤◌, ◌+◌, ℕ, zero, suc, Bool, true, false, nat_le, if◌then◌else◌, List, [], ◌∷◌, slice_get, Option, Some, None, refl, arith}
use Rattle.std.proofs.lemmas.Bool.Decides.{nat_tests}
use Rattle.std.specs.Prelude.{IfSome}
use Rattle.std.specs.List.{AllByRecursion}
use Rattle.pt_image.specs.declared.Parts.{Parts}
use Rattle.tk_cert.specs.declared.cert.Line.{Line}
use Rattle.tk_cert.specs.declared.cert.Line.TheVariants.{Bare, Thread, Routine, Cond}
use Rattle.tk_paths.specs.declared.view.Side.{Side}
use Rattle.tk_paths.specs.declared.view.Side.TheVariants.{ToPause, ToEnd}
use Rattle.tk_paths.specs.declared.view.View.TheVariants.{On}
use Rattle.tk_paths.specs.Sums.{greater}
use Rattle.tk_paths.specs.Kinds.{line_at, abort_at}
use Rattle.tk_paths.specs.Acceptance.{on_side, number_in}
use Rattle.tk_paths.specs.Walks.{most_cycles}
use Rattle.tk_paths.specs.Counts.{Below, ArePairBelow, Within}
use Rattle.tk_paths.specs.Greatest.{stays, handlers, resting}
use Rattle.tk_paths.specs.Told.{told_by}
use Rattle.tk_paths.proofs.Lists.{index-among}
use Rattle.tk_plans.specs.Low.{AreLow}

below-is : (b : ℕ) (o : Option ℕ) → Below b o → IfSome o (λ n. n ≤ b)
below-is b None h = tt
below-is b (Some n) h = h n refl

pair-low : (b : ℕ) (side : Side) (pairs : List (Option ℕ × Option ℕ)) (k : ℕ) → AllByRecursion (ArePairBelow b) pairs →
    IfSome (on_side side (slice_get pairs k)) (λ n. n ≤ b)
pair-low b side [] k h = tt
pair-low b ToPause (p ∷ pairs) zero h = below-is b p.0 h.0.0
pair-low b ToEnd (p ∷ pairs) zero h = below-is b p.1 h.0.1
pair-low b side (p ∷ pairs) (suc k) h = pair-low b side pairs k h.1

line-low : (b : ℕ) (side : Side) (k : ℕ) (line : Line) → Within b line → IfSome (number_in (On side k) line) (λ n. n ≤ b)
line-low b side k Bare h = tt
line-low b side k (Thread slot stack loops levels) h = pair-low b side levels k h
line-low b side k (Routine height loops value) h = tt
line-low b side k (Cond value) h = tt

-- a number of a place
pub number_low : (lines : List Line) (side : Side) (k place : ℕ) → AreLow lines → IfSome (number_in (On side k) (line_at lines place)) (λ n. n ≤ most_cycles)
number_low lines side k place h = line-low most_cycles side k (line_at lines place) (index-among (Within most_cycles) lines place Bare h tt)

some-less : (x y b : ℕ) → x ≤ b → y ≤ b → (if nat_le x y then y else x) ≤ b
some-less x y b f g = grind (arith, nat_tests)

greater-low : (x y : Option ℕ) (b : ℕ) → IfSome x (λ n. n ≤ b) → IfSome y (λ n. n ≤ b) → IfSome (greater x y) (λ n. n ≤ b)
greater-low None y b f g = g
greater-low (Some x) None b f g = f
greater-low (Some x) (Some y) b f g = some-less x y b f g

-- what follows a rest
module _ (image : Parts) (lines : List Line) (bounds : List (Option ℕ × Option ℕ)) (costs : List ℕ) (low : AreLow lines) where
  handlers-low : (side : Side) (i : ℕ) (stack : List ℕ) (k : ℕ) → IfSome (handlers image (told_by lines bounds) costs side i stack k) (λ n. n ≤ most_cycles)
  handlers-low side i [] k = tt
  handlers-low side i (j ∷ stack) zero = tt
  handlers-low side i (j ∷ stack) (suc k) =
      greater-low (if (abort_at image j).weak then number_in (On side i) (line_at lines ((abort_at image j).handler)) else None)
      (handlers image (told_by lines bounds) costs side (i + 1) stack k) most_cycles
      (by (abort_at image j).weak) (handlers-low side (i + 1) stack k)
    where
      by : (weak : Bool) → IfSome (if weak then number_in (On side i) (line_at lines ((abort_at image j).handler)) else None) (λ n. n ≤ most_cycles)
      by true = number_low lines side i ((abort_at image j).handler) low
      by false = tt

  stays-low : (side : Side) → IfSome (stays side) (λ n. n ≤ most_cycles)
  stays-low ToPause = omega arith
  stays-low ToEnd = tt

  pub resting_low : (stack : List ℕ) (k : ℕ) (side : Side) → IfSome (resting image (told_by lines bounds) costs stack k side) (λ n. n ≤ most_cycles)
  resting_low stack k side =
      greater-low (stays side) (handlers image (told_by lines bounds) costs side 0 stack k) most_cycles (stays-low side) (handlers-low side 0 stack k)

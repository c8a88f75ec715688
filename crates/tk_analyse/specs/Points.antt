-- Where the sums of slots that are resumed are small: what each pause and each fork gives, and what the children of forks come to.
use Rattle.std.specs.Prelude.{ℕ, ◌≤◌, List, Option}
use Rattle.std.specs.Option.{IsSomeAnd}
use Rattle.std.specs.List.{AllByRecursion}
use Rattle.pt_image.specs.declared.Point.{Point}
use Rattle.pt_image.specs.declared.Parts.{Parts}
use Rattle.tk_cert.specs.declared.cert.Line.{Line}
use Rattle.tk_paths.specs.declared.view.Side.{Side}
use Rattle.tk_paths.specs.Walks.{most_cycles}
use Rattle.tk_paths.specs.Greatest.{paused, waited}
use Rattle.tk_paths.specs.Faults.{IsSmall}
use Rattle.tk_paths.specs.Told.{told_by}
use Rattle.tk_paths.specs.Waits.{IsSmallWait}

-- a number is there, and is one that a tick may take
abbrev pub IsSmallSum : Option ℕ → Type 0
IsSmallSum o = IsSomeAnd o (λ n. n ≤ most_cycles)

-- what each pause gives its slot, resumed to a side, is small
abbrev pub HasSmallPauses : Parts → List Line → List (Option ℕ × Option ℕ) → List ℕ → Side → Type 0
HasSmallPauses image lines bounds costs side =
    AllByRecursion (λ (p : Point). IsSmall (paused image (told_by lines bounds) costs side p)) image.pauses

-- so is what each fork gives it
abbrev pub HasSmallForks : Parts → List Line → List (Option ℕ × Option ℕ) → List ℕ → Side → Type 0
HasSmallForks image lines bounds costs side =
    AllByRecursion (λ (p : Point). IsSmall (waited image (told_by lines bounds) costs side p)) image.forks

-- so is what the children of each fork come to
abbrev pub HasSmallWaits : Parts → List (Option ℕ × Option ℕ) → Type 0
HasSmallWaits image bounds = AllByRecursion (IsSmallWait image bounds) image.forks

-- all of these, to either side
pub record HasSmallPoints (image : Parts) (lines : List Line) (bounds : List (Option ℕ × Option ℕ)) (costs : List ℕ) : Type 0 where
  pub pauses : (side : Side) → HasSmallPauses image lines bounds costs side
  pub forks : (side : Side) → HasSmallForks image lines bounds costs side
  pub waits : HasSmallWaits image bounds

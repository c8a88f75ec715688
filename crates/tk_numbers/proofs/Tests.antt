-- The two ways of a branch.
use Rattle.std.proofs.Common.{◌≡◌, ℕ, List, refl}
use Rattle.pt_image.specs.declared.Parts.{Parts}
use Rattle.tk_paths.specs.Numbers.{Numbers, branched}
use Rattle.tk_paths.specs.Levels.{branching, dearer}
use Rattle.tk_paths.specs.Faults.{AllSmall}

pub branching_is : (image : Parts) (costs : List ℕ) (V W : Numbers) → branching costs V W ≡ branched image costs V W
unfolding branching dearer
branching_is image costs V W = refl

pub branching_small : (image : Parts) (costs : List ℕ) (V W : Numbers) → AllSmall (branched image costs V W) → AllSmall (branching costs V W)
unfolding branching dearer
branching_small image costs V W h = h

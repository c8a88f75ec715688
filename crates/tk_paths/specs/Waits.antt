-- Where the sums of slots that are resumed are small: those over the children of forks, and what slots come to.
use Rattle.std.specs.Prelude.{◌≡◌, ℕ, zero, suc, ◌+◌, ◌≤◌, List, Option}
use Rattle.std.specs.List.{AllByRecursion}
use Rattle.pt_image.specs.declared.Point.{Point}
use Rattle.pt_image.specs.declared.Parts.{Parts}
use Rattle.tk_cert.specs.declared.cert.Line.{Line}
use Rattle.tk_paths.specs.declared.view.Side.TheVariants.{ToPause, ToEnd}
use Rattle.tk_paths.specs.Shape.{children_at}
use Rattle.tk_paths.specs.Sums.{resumed_most}
use Rattle.tk_paths.specs.Walks.{most_cycles}
use Rattle.tk_paths.specs.Faults.{IsSmall}
use Rattle.tk_paths.specs.Told.{pair_at, known_from, resumption, slots_from}

-- what the children of a fork come to
abbrev pub IsSmallWait : Parts → List (Option ℕ × Option ℕ) → Point → Type 0
IsSmallWait image pairs p = resumed_most (pair_at pairs) ((children_at image p.at).0) ((children_at image p.at).1) ≤ most_cycles

-- of each fork of a slot
abbrev pub AreSmallWaits : Parts → List (Option ℕ × Option ℕ) → ℕ → Type 0
AreSmallWaits image pairs s = AllByRecursion (λ (p : Point). p.slot ≡ s → IsSmallWait image pairs p) image.forks

-- so many slots from one on, each as those behind it are known
unfoldable pub AreSmallSlots : Parts → List ℕ → List Line → ℕ → ℕ → Type 0
AreSmallSlots image costs lines s zero = Unit {0}
AreSmallSlots image costs lines s (suc n) =
    AreSmallSlots image costs lines (s + 1) n
    × AreSmallWaits image (known_from s (slots_from image costs lines (s + 1) n)) s
    × IsSmall (resumption image costs lines (known_from s (slots_from image costs lines (s + 1) n)) s ToPause)
    × IsSmall (resumption image costs lines (known_from s (slots_from image costs lines (s + 1) n)) s ToEnd)

-- The ranges that an image keeps: docs/files.md, "The image file".
use Rattle.std.specs.Prelude.{ℕ, ◌<◌, ◌≤◌, ◌==◌, List, length, map}
use Rattle.std.specs.List.{AllByRecursion, IsDistinct}
use Rattle.pt_image.specs.declared.image.AbortLine.{AbortLine}
use Rattle.pt_image.specs.declared.image.Point.{Point}
use Rattle.pt_image.specs.declared.image.Parts.{Parts}

-- each number is below the limit
abbrev pub AllBelow : ℕ → List ℕ → Type 0
AllBelow limit ns = AllByRecursion (λ n. n < limit) ns

-- both places lie inside the code
abbrev pub IsAbortLine : Parts → AbortLine → Type 0
IsAbortLine p a = (a.cond < length p.code) × (a.handler < length p.code)

-- the place lies inside the code, the slot inside the slots, and the stack has at most eight numbers of abort lines
abbrev pub IsPoint : Parts → Point → Type 0
IsPoint p x = (x.at < length p.code) × (x.slot < length p.slots) × (length x.stack ≤ 8) × AllBelow (length p.aborts) x.stack

abbrev pub places_of : List Point → List ℕ
places_of points = map (λ (x : Point). x.at) points

abbrev pub IsCode : Parts → Type 0
IsCode p = (1 ≤ length p.code) × (length p.code ≤ 65536)

abbrev pub IsMemory : Parts → Type 0
IsMemory p = length p.memory ≤ 16384

-- at most 64 memory words
abbrev pub AreSignals : Parts → List ℕ → Type 0
AreSignals p words = (length words ≤ 64) × AllBelow (length p.memory) words

abbrev pub AreSlots : Parts → Type 0
AreSlots p = (1 ≤ length p.slots) × (length p.slots ≤ 64) × AllBelow (length p.code) p.slots

abbrev pub AreAborts : Parts → Type 0
AreAborts p = (length p.aborts ≤ 65536) × AllByRecursion (IsAbortLine p) p.aborts

-- no place stands twice
abbrev pub ArePoints : Parts → List Point → Type 0
ArePoints p points = (length points ≤ 65536) × AllByRecursion (IsPoint p) points × IsDistinct (λ m n. m == n) (places_of points)

pub record IsImage (p : Parts) : Type 0 where
  pub code : IsCode p
  pub memory : IsMemory p
  pub inputs : AreSignals p p.inputs
  pub outputs : AreSignals p p.outputs
  pub slots : AreSlots p
  pub aborts : AreAborts p
  pub pauses : ArePoints p p.pauses
  pub forks : ArePoints p p.forks

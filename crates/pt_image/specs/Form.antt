-- Which texts are those of images, and at which group of lines another text is first at fault: docs/files.md, "The image file".
use Rattle.std.specs.Prelude.{◌≡◌, ℕ, ◌≤◌, ◌^◌, List, Result, Ok, Err}
use Rattle.std.specs.List.{AllByRecursion}
use Rattle.std.specs.Int.{w32}
use Rattle.std.specs.Int.RustNames.{FitsSigned}
use Rattle.pt_base.specs.Forms.{Form, IsFault}
use Rattle.pt_image.specs.declared.fault.ImageFault.{ImageFault}
use Rattle.pt_image.specs.declared.fault.ImageFault.TheVariants as faults
use Rattle.pt_image.specs.declared.image.Parts.{Parts}
use Rattle.pt_image.specs.Ranges.{AllBelow, IsCode, IsMemory, AreSignals, AreSlots, AreAborts, ArePoints}
use Rattle.pt_image.specs.Text.{groups}
use Rattle.pt_image.specs.Whole.{most_bytes}

-- each code word and each memory word has 32 bits
pub record AreWords (p : Parts) : Type 0 where
  pub code : AllBelow (2 ^ 32) p.code
  pub memory : AllByRecursion (FitsSigned w32) p.memory

-- the lists of the first groups of lines are within their ranges; the first group is the heading
pub record Ranges (number : ℕ) (p : Parts) : Type 0 where
  pub code : 2 ≤ number → IsCode p
  pub words : 2 ≤ number → AllBelow (2 ^ 32) p.code
  pub memory : 3 ≤ number → IsMemory p
  pub values : 3 ≤ number → AllByRecursion (FitsSigned w32) p.memory
  pub inputs : 4 ≤ number → AreSignals p p.inputs
  pub outputs : 5 ≤ number → AreSignals p p.outputs
  pub slots : 6 ≤ number → AreSlots p
  pub aborts : 7 ≤ number → AreAborts p
  pub pauses : 8 ≤ number → ArePoints p p.pauses
  pub forks : 9 ≤ number → ArePoints p p.forks

-- The form of image files: nine groups of lines, and the end.
abbrev pub image_form : Form Parts
image_form = record { groups = groups; Ranges = Ranges; most = most_bytes; last = 10 }

-- the fault that was given is that of the first group at fault
abbrev pub FaultIsFirst : List ℕ → Result Parts ImageFault → Type 0
FaultIsFirst text (Ok p) = Unit {0}
FaultIsFirst text (Err (faults.Form number)) = IsFault image_form number text
FaultIsFirst text (Err faults.Memory) = Unit {0}

-- it is these lists, unless memory ran out
abbrev pub IsRead : Parts → Result Parts ImageFault → Type 0
IsRead p (Ok q) = q ≡ p
IsRead p (Err (faults.Form number)) = ⊥
IsRead p (Err faults.Memory) = Unit {0}

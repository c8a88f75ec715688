-- What is proved of the layout.
use Rattle.std.specs.Prelude.{ℕ, ◌≤◌, List}
use Rattle.mb_isa.specs.Costs.{IsCosts}
use Rattle.pt_image.specs.Form.{AreWords}
use Rattle.pt_image.specs.Ranges.{IsImage}
use Rattle.pc_lower.specs.Flow.{Flow}
use Rattle.tk_cert.specs.declared.cert.Walk.{Walk}
use Rattle.tk_paths.specs.Bounded.{IsAcceptedFor}
use Rattle.tk_paths.specs.Walks.{most_cycles, IsWorst}
use Rattle.tk_paths.specs.Programs.{IsProgram, certificate}
use Rattle.tk_paths.specs.Counts.{AreSmall}
use Rattle.pc_lower.specs.Laid.{Placing}
use Rattle.pc_lower.specs.StepCounts.{Sizes}
use Rattle.pc_lower.specs.Words.{Writing}
use Rattle.pc_lower.specs.Image.{IsImageOf}
use Rattle.pc_lower.specs.Numbering.{parent_of}
use Rattle.pc_lower.specs.Limits.{IsWithinLimits}
use Rattle.pc_emit.specs.Image.{image_of}
use Rattle.pc_emit.specs.Sections.{program_of}
use Rattle.pc_emit.specs.Eots.{ListsAll}
use Rattle.pc_emit.specs.Fits.{placed, CanBeEmitted, AreSizes}

-- The image of a flow holds the flow.
abbrev pub AFlowIsLaidOut : Type 0
AFlowIsLaidOut =
    (f : Flow) (writing : Writing) (placing : Placing) (further : ℕ) (sizes : Sizes) (costs : List ℕ) →
    CanBeEmitted f writing placing further → AreSizes f writing sizes → IsCosts costs →
    IsImageOf (parent_of f) (image_of writing f further) costs f writing sizes (placed f writing placing)

-- It is within the ranges of an image, and each of its words has 32 bits.
abbrev pub ALaidFlowIsInItsRanges : Type 0
ALaidFlowIsInItsRanges =
    (f : Flow) (writing : Writing) (placing : Placing) (further : ℕ) →
    CanBeEmitted f writing placing further → IsImage (image_of writing f further) × AreWords (image_of writing f further)

-- Its lists have all that the flow has, and its pauses are at the `eot` words of its code.
abbrev pub ALaidFlowListsAll : Type 0
ALaidFlowListsAll =
    (f : Flow) (writing : Writing) (placing : Placing) (further : ℕ) →
    CanBeEmitted f writing placing further → ListsAll f (image_of writing f further)

-- It holds the flow's program, as certificates see programs.
abbrev pub ALaidFlowIsAProgram : Type 0
ALaidFlowIsAProgram =
    (f : Flow) (writing : Writing) (placing : Placing) (further : ℕ) →
    CanBeEmitted f writing placing further → IsProgram (image_of writing f further) (program_of writing f)

-- So the certificate of that program, with any walk, is accepted whatever the words cost, and its bound is the worst of the image.
abbrev pub ALaidFlowIsCertified : Type 0
ALaidFlowIsCertified =
    (f : Flow) (writing : Writing) (placing : Placing) (further : ℕ) (costs : List ℕ) (walk : Walk) →
    CanBeEmitted f writing placing further → IsCosts costs →
    IsAcceptedFor (image_of writing f further) (certificate (image_of writing f further) costs (program_of writing f) walk) costs
    × ((certificate (image_of writing f further) costs (program_of writing f) walk).bound ≤ most_cycles →
    IsWorst (image_of writing f further) costs (certificate (image_of writing f further) costs (program_of writing f) walk).bound)

-- Within the limits of the language the counts of the program that it holds are within what a tick may cost at most.
abbrev pub AFlowIsSmall : Type 0
AFlowIsSmall =
    (f : Flow) (writing : Writing) (placing : Placing) (further : ℕ) (sizes : Sizes) → CanBeEmitted f writing placing further →
    AreSizes f writing sizes → IsWithinLimits (image_of writing f further) f writing sizes →
    IsProgram (image_of writing f further) (program_of writing f) → AreSmall (image_of writing f further) (program_of writing f)

-- The laws of this crate.
use Rattle.std.specs.Prelude.{◌≡◌, ℕ, ◌≤◌, FitsSigned, length, Bool, List}
use Rattle.std.specs.Int.{w32}
use Rattle.std.specs.List.{AllByRecursion}
use Rattle.mb_isa.specs.Costs.{IsCosts}
use Rattle.pt_image.specs.declared.Parts.{Parts}
use Rattle.mb_isa.specs.Cells.{Cells}
use Rattle.pc_meaning.specs.Tree.{Program}
use Rattle.pc_lower.specs.Flow.{State}
use Rattle.pc_lower.specs.Lowered.{flow_of}
use Rattle.pc_lower.specs.Sound.{ProgramFits}
use Rattle.pc_lower.specs.Laid.{Placing}
use Rattle.pc_lower.specs.StepCounts.{Sizes}
use Rattle.pc_lower.specs.Words.{Writing}
use Rattle.pc_lower.specs.Image.{IsImageOf}
use Rattle.pc_lower.specs.Limits.{IsWithinLimits}
use Rattle.pc_lower.specs.Runs.{RunLaws}
use Rattle.pc_lower.specs.RegionLaws.{Agree}
use Rattle.pc_lower.specs.Layable.{CanBeLaid}
use Rattle.pc_grammar.specs.Typing.{Typing}
use Rattle.pc_grammar.specs.Keeping.{IsTyped}
use Rattle.pc_rules.specs.Judging.{IsWithin}
use Rattle.pc_lower.specs.Placing.{typed_flow, placing_of}
use Rattle.pc_lower.specs.Few.{WritesFew, sizes_for}
use Rattle.pc_lower.specs.Cells.{KeepsCells, ArePorts}
use Rattle.pc_lower.specs.Meant.{DoesWhatIsMeant}

-- An image of the flow of a program, within the limits, does what the program means.
abbrev pub ImagesDoWhatIsMeant : Type 0
ImagesDoWhatIsMeant =
    (p : Program) (parent : ℕ → ℕ) (image : Parts) (writing : Writing) (sizes : Sizes) (placing : Placing)
    (compared : ℕ → Cells → State → Bool) → ProgramFits p →
    ((costs : List ℕ) → IsCosts costs → IsImageOf parent image costs (flow_of p) writing sizes placing) →
    IsWithinLimits image (flow_of p) writing sizes → RunLaws image (flow_of p) writing (Agree compared) → DoesWhatIsMeant p image

-- The flow of each accepted program can be laid out, wherever the words of its functions begin.
abbrev pub FlowsCanBeLaid : Type 0
FlowsCanBeLaid = (t : Typing) → IsTyped t → IsWithin t → (entrance : ℕ → ℕ) → CanBeLaid (typed_flow t) (placing_of t entrance)

-- It is within the limits, however its words are written within the worst of each step and test.
abbrev pub FlowsAreWithinLimits : Type 0
FlowsAreWithinLimits =
    (t : Typing) → IsTyped t → IsWithin t → (writing : Writing) → WritesFew writing → (image : Parts) →
    image.inputs ≡ (typed_flow t).inputs → image.outputs ≡ (typed_flow t).outputs →
    IsWithinLimits image (typed_flow t) writing (sizes_for writing (typed_flow t).bodies)

-- Its steps keep to its cells; inputs and outputs are 64 cells at most of each, and the cells have 15,000 words at most, which are
-- declared with words of 32 bits.
abbrev pub FlowsKeepToTheirCells : Type 0
FlowsKeepToTheirCells =
    (t : Typing) → IsTyped t → IsWithin t →
    KeepsCells (typed_flow t) × ArePorts (typed_flow t) (typed_flow t).inputs × ArePorts (typed_flow t) (typed_flow t).outputs
    × (length (typed_flow t).declared ≤ 15000) × AllByRecursion (FitsSigned w32) (typed_flow t).declared

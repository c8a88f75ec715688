-- The laws of this crate, at the machine's data.
use Rattle.std.specs.Prelude.{◌≡◌, ℕ, ℤ, ◌+◌, ◌*◌, ◌<◌, ◌≤◌, ◌++◌, length, Bool, IsTrue, true, List, []}
use Rattle.std.specs.List.{AllByRecursion}
use Rattle.mb_isa.specs.Costs.{IsCosts}
use Rattle.mb_pfu.specs.Tree.{Tree}
use Rattle.pt_image.specs.declared.Parts.{Parts}
use Rattle.mb_isa.specs.Tick.{base_of}
use Rattle.mb_isa.specs.Cells.{Cells, machine}
use Rattle.mb_isa.specs.Free.{IsConfiguration}
use Rattle.mb_isa.specs.Run.{run_of}
use Rattle.pc_lower.specs.declared.nodes.Step.{Step}
use Rattle.pc_lower.specs.declared.nodes.Test.{Test}
use Rattle.pc_lower.specs.Flow.{State, Temps, Node, Rest, Flow, Position, sampled}
use Rattle.pc_lower.specs.Slots.{Fits}
use Rattle.pc_lower.specs.Standing.{Stands}
use Rattle.pc_lower.specs.Laid.{Placing}
use Rattle.pc_lower.specs.StepCounts.{Sizes}
use Rattle.pc_lower.specs.Law.{unnested, unit_at}
use Rattle.pc_lower.specs.Program.{InOrder}
use Rattle.pc_lower.specs.Words.{Writing, DataLaws}
use Rattle.pc_lower.specs.Image.{IsImageOf, StandsAt, steps_at, TickIs}
use Rattle.pc_lower.specs.Sizing.{sizes_of, Count}
use Rattle.pc_lower.specs.Limits.{started_by, IsWithinLimits}
use Rattle.pc_lower.specs.Numbering.{AreSlots, slots_of, function_of, first_started, HaveSlots}
use Rattle.pc_lower.specs.Runs.{IsSteady, IsRow, RunLaws, AreTicksOf, beginning}
use Rattle.pc_lower.specs.Slotwise.{StandsSlotwise}
use Rattle.pc_lower.specs.Example as example

-- registers and memory stand for a state where all these comparisons of the two hold
abbrev pub Agree : (ℕ → Cells → State → Bool) → Cells → State → Type 0
Agree compared d w = (n : ℕ) → IsTrue (compared n d w)

-- Each tick of an image of a flow does what the flow does in that tick, on every row of inputs, from wherever it stands.
abbrev pub TicksAreThoseOfTheFlow : Type 0
TicksAreThoseOfTheFlow =
    (parent : ℕ → ℕ) (image : Parts) (costs : List ℕ) (f : Flow) (writing : Writing) (sizes : Sizes) (placing : Placing)
    (compared : ℕ → Cells → State → Bool) (row : List ℤ) →
    IsImageOf parent image costs f writing sizes placing →
    DataLaws (machine image row) (Agree compared) (sampled f row) writing →
    (p : Position) (before : State) (from : Tree) (d : Cells) (stands : StandsAt parent image f p from) → Agree compared d before →
    TickIs parent image f costs (machine image row) (Agree compared) row p before from d
    (steps_at parent image f writing sizes p from stands)

-- There are sizes that hold what each function takes with all that it calls and starts, and no more than need be.
abbrev pub SizesAreThere : Type 0
SizesAreThere =
    (words : List Step → ℕ) (test_words : Test → ℕ) (bodies : List Node) → InOrder 0 bodies →
    (f : ℕ) → Count (sizes_of words test_words bodies) bodies f

-- Within the limits of the language no tick of an image is charged more than 1,000,000,000,000, for every cost table.
abbrev pub TicksAreLimited : Type 0
TicksAreLimited =
    (parent : ℕ → ℕ) (image : Parts) (costs : List ℕ) (f : Flow) (writing : Writing) (sizes : Sizes) (placing : Placing) →
    IsImageOf parent image costs f writing sizes placing → IsWithinLimits image f writing sizes →
    (p : Position) (t : Tree) (stands : StandsAt parent image f p t) →
    base_of image costs + 255 * steps_at parent image f writing sizes p t stands ≤ 1000000000000

-- For every list of input rows, every cost table and every limit from 1,000,000,000,000 cycles on, the run of an image of a flow
-- is the run of the flow.
abbrev pub RunsAreThoseOfTheFlow : Type 0
RunsAreThoseOfTheFlow =
    (parent : ℕ → ℕ) (image : Parts) (costs : List ℕ) (f : Flow) (writing : Writing) (sizes : Sizes) (placing : Placing)
    (compared : ℕ → Cells → State → Bool) (kept : Position → Bool) (most : ℕ) →
    IsImageOf parent image costs f writing sizes placing → IsWithinLimits image f writing sizes →
    RunLaws image f writing (Agree compared) → IsSteady f (λ p. IsTrue (kept p)) → 1000000000000 ≤ most →
    (temps : Temps) (rows : List (List ℤ)) → AllByRecursion IsRow rows → AreTicksOf parent image f (beginning f temps) rows (run_of image costs most rows)

-- Wherever a flow stands between two ticks, the unit is in a configuration: so what is said of all free ticks is said of its ticks.
abbrev pub FlowsStandInConfigurations : Type 0
FlowsStandInConfigurations =
    (parent : ℕ → ℕ) (image : Parts) (costs : List ℕ) (f : Flow) (writing : Writing) (sizes : Sizes) (placing : Placing) →
    IsImageOf parent image costs f writing sizes placing → length image.slots ≤ 64 →
    (p : Position) (t : Tree) → StandsAt parent image f p t → IsConfiguration image (unit_at image unnested t)

-- Where a tree is where a residual stands, each slot has the state that the residual gives it, and all others are free.
abbrev pub SlotsStandAsTheResidual : Type 0
SlotsStandAsTheResidual =
    (parent : ℕ → ℕ) (image : Parts) (r : Rest) (t : Tree) → Stands image [] r t → Fits parent 0 t → StandsSlotwise image r t

-- What these laws ask for can be met: all of it holds of the example.
abbrev pub TheExampleMeetsThem : Type 0
TheExampleMeetsThem =
    (costs : List ℕ) → IsCosts costs →
    IsImageOf example.parent example.image costs example.flow example.writing example.sizes example.placing
    × IsWithinLimits example.image example.flow example.writing example.sizes
    × ((row : List ℤ) → DataLaws (machine example.image row) (Agree (λ n d w. true)) (sampled example.flow row) example.writing)

-- There is one list of functions for the slots of a flow, and the threads of each fork are in slots of their own.
abbrev pub SlotsAreNumbered : Type 0
SlotsAreNumbered =
    (f : Flow) → InOrder 0 f.bodies → f.main < length f.bodies →
    AreSlots f (slots_of f) × ((functions : List ℕ) → AreSlots f functions → functions ≡ slots_of f)
    × ((c : ℕ) → c < length (slots_of f) → (before functions behind : List ℕ) →
    started_by f.bodies (function_of f c) ≡ before ++ (functions ++ behind) → HaveSlots f c (first_started f c + length before) functions)

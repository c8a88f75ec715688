-- The laws of these words, at the machine's data.
use Rattle.std.specs.Prelude.{◌≡◌, ℕ, ◌-◌, ◌≤◌, pos, FitsSigned, List, ◌++◌, length, replicate}
use Rattle.std.specs.List.{AllByRecursion}
use Rattle.std.specs.Int.{w32}
use Rattle.pt_image.specs.declared.Parts.{Parts}
use Rattle.pt_image.specs.Ranges.{AllBelow}
use Rattle.pc_lower.specs.declared.nodes.Step.{Step}
use Rattle.pc_lower.specs.declared.nodes.Test.{Test}
use Rattle.pc_lower.specs.Flow.{Flow}
use Rattle.pc_lower.specs.Words.{words_in}
use Rattle.pc_lower.specs.RegionLaws.{Agree}
use Rattle.pc_lower.specs.Runs.{RunLaws}
use Rattle.pc_regs.specs.declared.placement.Placement.{Placement}
use Rattle.pc_regs.specs.Placement.{memory_words, IsPlacement}
use Rattle.pc_regs.specs.Words.{steps_words, test_words, writing_of}
use Rattle.pc_regs.specs.Represents.{compared}
use Rattle.pc_regs.specs.Assignment.{with_temporaries, placement_of}
use Rattle.pc_regs.specs.Writings.{WritesWork, FlowWritten}
use Rattle.pc_regs.specs.Counts.{most_steps_words, most_test_words}

-- The cells of a flow stand at the beginning of an image's memory, zeros behind them; inputs and outputs are cells, the same in both.
pub record HasCells (p : Placement) (image : Parts) (f : Flow) : Type 0 where
  pub count : length f.declared ≡ p.cells
  pub words : AllByRecursion (FitsSigned w32) f.declared
  pub memory : image.memory ≡ f.declared ++ replicate (memory_words p - p.cells) (pos 0)
  pub inputs : image.inputs ≡ f.inputs
  pub outputs : image.outputs ≡ f.outputs
  pub inputs_are_cells : AllBelow p.cells f.inputs
  pub outputs_are_cells : AllBelow p.cells f.outputs

-- The words of steps do them, and those of a test decide it, for a branch and for a condition, whatever row is sampled; an image
-- with the flow's cells begins with the declared words, and shows the words of the flow's outputs.
abbrev pub WordsDoTheSteps : Type 0
WordsDoTheSteps =
    (p : Placement) (image : Parts) (f : Flow) → IsPlacement p → HasCells p image f → RunLaws image f (writing_of p) (Agree (compared p))

-- All words that are written are words that the data do, and branches that they decide, in every image.
abbrev pub WordsAreWork : Type 0
WordsAreWork = (p : Placement) → IsPlacement p → WritesWork (writing_of p)

-- Steps and tests take no more words than the table says.
abbrev pub WordsAreFew : Type 0
WordsAreFew =
    (p : Placement) → ((steps : List Step) → words_in (steps_words p steps) ≤ most_steps_words steps)
    × ((t : Test) → words_in (test_words p t) ≤ most_test_words t)

-- The temporaries that a flow uses are enough: what is written with more of them is written with these.
abbrev pub UsedTemporariesAreEnough : Type 0
UsedTemporariesAreEnough =
    (f : Flow) (temporaries : ℕ) → IsPlacement (with_temporaries (length f.declared) temporaries) →
    FlowWritten (writing_of (with_temporaries (length f.declared) temporaries)) f →
    IsPlacement (placement_of f) × FlowWritten (writing_of (placement_of f)) f

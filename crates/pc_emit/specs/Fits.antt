-- What a flow and a writing keep so that the image is one of the flow.
use Rattle.std.specs.Prelude.{ℕ, ◌+◌, ◌≤◌, FitsSigned, length, slice_index_or, List}
use Rattle.std.specs.Int.{w32}
use Rattle.std.specs.List.{AllByRecursion}
use Rattle.pt_image.specs.Ranges.{AllBelow}
use Rattle.pc_lower.specs.declared.nodes.Step.{Step}
use Rattle.pc_lower.specs.declared.nodes.Test.{Test}
use Rattle.pc_lower.specs.Flow.{Flow}
use Rattle.pc_lower.specs.Laid.{Placing}
use Rattle.pc_lower.specs.Words.{words_in, Writing}
use Rattle.pc_lower.specs.StepCounts.{Sizes}
use Rattle.pc_lower.specs.Sizing.{Count}
use Rattle.pc_lower.specs.Numbering.{function_of}
use Rattle.pc_lower.specs.Layable.{CanBeLaid}
use Rattle.pc_regs.specs.Writings.{WritesWork, FlowWritten}
use Rattle.pc_emit.specs.Image.{entrances_of, code_size}

-- where the words of functions begin, and the slots that run them
abbrev pub placed : Flow → Writing → Placing → Placing
placed f writing placing = record {
  thread = function_of f;
  called = placing.called;
  entrance = λ g. slice_index_or (entrances_of writing f) g 0;
  links = placing.links;
  counters = placing.counters;
}

-- inputs or outputs are at most 64 words of the cells
abbrev pub ArePorts : Flow → List ℕ → Type 0
ArePorts f words = (length words ≤ 64) × AllBelow (length f.declared) words

-- Of `placing` this speaks of which functions are called, and of their links and counters.
pub record CanBeEmitted (f : Flow) (writing : Writing) (placing : Placing) (further : ℕ) : Type 0 where
  pub laid : CanBeLaid f (placed f writing placing)
  pub work : WritesWork writing
  pub written : FlowWritten writing f
  pub code : code_size writing f ≤ 60000
  pub memory : length f.declared + further ≤ 16384
  pub declared : AllByRecursion (FitsSigned w32) f.declared
  pub inputs : ArePorts f f.inputs
  pub outputs : ArePorts f f.outputs

-- The sizes count what is written, and what functions take with all that they call and start.
pub record AreSizes (f : Flow) (writing : Writing) (sizes : Sizes) : Type 0 where
  pub words : (p : List Step) → words_in (writing.words_of p) ≤ sizes.words p
  pub test_words : (t : Test) → words_in (writing.test_words_of t) + 2 ≤ sizes.test_words t
  pub counts : (g : ℕ) → Count sizes f.bodies g

-- The image of a flow: docs/architecture.md, "Layout".
use Rattle.std.specs.Prelude.{ℕ, ◌+◌, ◌==◌, pos, Bool, if◌then◌else◌, List, [], ◌∷◌, ◌++◌, map, replicate, slice_index_or, unwrap_or, Option, Some, None}
use Rattle.mb_isa.specs.declared.words.Instr.{Instr}
use Rattle.mb_isa.specs.declared.words.Instr.TheVariants.{End, Ret, Cend}
use Rattle.mb_isa.specs.Codes.{code_of}
use Rattle.pt_image.specs.declared.image.AbortLine.{AbortLine}
use Rattle.pt_image.specs.declared.image.Parts.{Parts}
use Rattle.pc_lower.specs.declared.nodes.Test.{Test}
use Rattle.pc_lower.specs.Flow.{Node, Flow}
use Rattle.pc_lower.specs.Words.{words_in, Writing}
use Rattle.pc_lower.specs.Numbering.{slots_of, first_started}
use Rattle.pc_emit.specs.Part.{Part, joined, just}
use Rattle.pc_regs.specs.Writings.{instrs}
use Rattle.pc_emit.specs.Code.{size, short, code}

-- the place of a number in a list, counted from a number
abbrev pub found_from : ℕ → ℕ → List ℕ → Option ℕ
found_from c g [] = None
found_from c g (x ∷ xs) = if x == g then Some c else found_from (c + 1) g xs

-- the slot that runs a function, if any does
abbrev pub slot_of : List ℕ → ℕ → Option ℕ
slot_of slots g = found_from 0 g slots

-- a thread ends, a routine goes back
abbrev pub closing : Option ℕ → Instr
closing None = Ret
closing (Some slot) = End

module _ (writing : Writing) where
  -- functions in the order of the text, each with the word that closes it
  abbrev pub functions_size : List Node → ℕ
  functions_size [] = 0
  functions_size (n ∷ nodes) = size writing n + 1 + functions_size nodes

  -- where they begin
  abbrev pub entrances_from : List Node → (at : ℕ) → List ℕ
  entrances_from [] at = []
  entrances_from (n ∷ nodes) at = at ∷ entrances_from nodes (at + size writing n + 1)

  module _ (entrances slots : List ℕ) (first : ℕ → ℕ) where
    -- a function, in the slot that runs it
    abbrev pub function_code : (slot : Option ℕ) → Node → (at : ℕ) → Part
    function_code slot n at =
        joined (code writing entrances (unwrap_or slot 0) n [] (first (unwrap_or slot 0)) at) (just (closing slot ∷ []))

    -- functions from a number on
    abbrev pub functions_code : (g : ℕ) → List Node → (at : ℕ) → Part
    functions_code g [] at = just []
    functions_code g (n ∷ nodes) at =
        joined (function_code (slot_of slots g) n at) (functions_code (g + 1) nodes (at + size writing n + 1))

  -- the conditions of aborts, each with its `cend`
  abbrev pub condition_size : Test → ℕ
  condition_size t = words_in (writing.test_words_of t) + 1

  abbrev pub conditions_size : List (Bool × Test) → ℕ
  conditions_size [] = 0
  conditions_size (a ∷ aborts) = condition_size a.1 + conditions_size aborts

  abbrev pub conditions_words : List (Bool × Test) → List Instr
  conditions_words [] = []
  conditions_words (a ∷ aborts) = instrs (writing.test_words_of a.1) ++ Cend (writing.register_of a.1) ∷ conditions_words aborts

  -- the lines of aborts from a number on, whose conditions stand from a place on: strength, condition and handler
  abbrev pub abort_lines : List (Bool × Test) → (number at : ℕ) → (handlers : List ℕ) → List AbortLine
  abort_lines [] number at handlers = []
  abort_lines (a ∷ aborts) number at handlers =
      record { weak = a.0; cond = short at; handler = slice_index_or handlers number 0 }
      ∷ abort_lines aborts (number + 1) (at + condition_size a.1) handlers

  module _ (f : Flow) where
    abbrev pub entrances_of : List ℕ
    entrances_of = entrances_from f.bodies 0

    -- all functions, and behind them the conditions
    abbrev pub whole_of : Part
    whole_of =
        joined (functions_code entrances_of (slots_of f) (first_started f) 0 f.bodies 0) (just (conditions_words f.aborts))

    -- so many words in all
    abbrev pub code_size : ℕ
    code_size = functions_size f.bodies + conditions_size f.aborts

    -- The memory has the words that the cells are declared with, and so many further words.
    abbrev pub image_of : (further : ℕ) → Parts
    image_of further = record {
      code = map code_of whole_of.words;
      memory = f.declared ++ replicate further (pos 0);
      inputs = f.inputs;
      outputs = f.outputs;
      slots = map (λ g. short (slice_index_or entrances_of g 0)) (slots_of f);
      aborts = abort_lines f.aborts 0 (functions_size f.bodies) whole_of.handlers;
      pauses = whole_of.pauses;
      forks = whole_of.forks;
    }

-- The trees in memory that are the sections of a flow's image: `specs/Sections.antt` says which sections these are.
use Rattle.std.specs.Prelude.{ℕ, ◌+◌, ◌-◌, Bool, true, false, List, [], ◌∷◌, ◌++◌, length, slice_index_or, Option, Some, None}
use Rattle.pc_lower.specs.declared.nodes.Step.{Step}
use Rattle.pc_lower.specs.declared.nodes.Test.{Test}
use Rattle.pc_lower.specs.Flow.{Node, Nodes, straight, sequence, branch, turns, bounded, call, pause, fork, guard, no_nodes, and, Flow}
use Rattle.pc_lower.specs.Words.{words_in, Writing}
use Rattle.pc_lower.specs.Limits.{threads_of}
use Rattle.pc_lower.specs.Numbering.{slots_of, first_started}
use Rattle.tk_paths.specs.declared.trees.Region.{Region}
use Rattle.tk_paths.specs.declared.trees.Region.TheVariants as region
use Rattle.tk_paths.specs.declared.trees.Code.{Code}
use Rattle.tk_paths.specs.declared.trees.Code.TheVariants as code
use Rattle.tk_paths.specs.declared.trees.Section.{Section}
use Rattle.tk_paths.specs.declared.trees.Section.TheVariants.{OfThread, OfRoutine, OfCondition, Unused}
use Rattle.pc_emit.specs.Code.{loop_size, test_size, option_size, size}
use Rattle.pc_emit.specs.Image.{slot_of, condition_size, functions_size}
use Rattle.pc_emit.specs.Sections.{is_among, used_calls, counted, numbers_of}

-- for each function from a number on, whether a used one behind it calls it
abbrev pub calls_from : (slots : List ℕ) (g : ℕ) → List Node → List Bool
calls_from slots g [] = []
calls_from slots g (n ∷ nodes) = is_among g (used_calls slots (g + 1) nodes) ∷ calls_from slots (g + 1) nodes

-- the numbers of routines, where it is told of each function whether a used one calls it
abbrev pub numbers_by : (slots : List ℕ) (count g : ℕ) → List Bool → List ℕ
numbers_by slots count g [] = []
numbers_by slots count g (called ∷ rest) = count ∷ numbers_by slots (counted (slot_of slots g) called count) (g + 1) rest

abbrev pub nowhere : ℕ → Region
nowhere at = region.Words at 0 at

-- `numbers` are the numbers of routines by their functions
abbrev pub made_calling : (numbers : List ℕ) → ℕ → (at : ℕ) → Region
made_calling numbers f at = region.Calling at (slice_index_or numbers f 0)

module _ (writing : Writing) where
  -- the place behind nodes at a place
  abbrev pub behind : Nodes → (at : ℕ) → ℕ
  behind no_nodes at = at
  behind (and n nodes) at = behind nodes (at + size writing n)

  abbrev pub made_straight : List Step → (at : ℕ) → Region
  made_straight steps at = region.Words at (length (writing.words_of steps)) (at + words_in (writing.words_of steps))

  abbrev pub made_loop : (most : ℕ) → Option Test → (at : ℕ) → (body : Region) → (out : ℕ) → Region
  made_loop most None at body out = region.Repeated at (most - 1) body out
  made_loop most (Some test) at body out =
      region.Counted at (most - 1) (length (writing.test_words_of test)) (at + loop_size most + 1 + words_in (writing.test_words_of test))
      body out

  abbrev pub made_turns : Option Test → (at : ℕ) → (body : Code) → (out : ℕ) → Code
  made_turns None at body out = code.Forever body out
  made_turns (Some test) at body out =
      code.Turns at (length (writing.test_words_of test)) (at + words_in (writing.test_words_of test)) body out

  abbrev pub made_condition : Test → (at : ℕ) → Section
  made_condition test at = OfCondition at (length (writing.test_words_of test)) (at + words_in (writing.test_words_of test))

  module _ (numbers : List ℕ) where
    abbrev mutual
      pub made_region : Node → (at : ℕ) → Region
      made_region (straight steps) at = made_straight steps at
      made_region (sequence nodes) at = region.Sequence (made_regions nodes at) (behind nodes at)
      made_region (branch test a b) at =
          region.Choice at (length (writing.test_words_of test)) (at + words_in (writing.test_words_of test))
          (made_region a (at + test_size writing test))
          (made_region b (at + test_size writing test + size writing a + 2))
      made_region (turns test body) at = nowhere at
      made_region (bounded most test body) at =
          made_loop most test at (made_region body (at + loop_size most + 1 + option_size writing test))
          (at + loop_size most + 1 + option_size writing test + size writing body + 2)
      made_region (call f) at = made_calling numbers f at
      made_region (pause i) at = nowhere at
      made_region (fork i fs) at = nowhere at
      made_region (guard j body) at = nowhere at

      pub made_regions : Nodes → (at : ℕ) → List Region
      made_regions no_nodes at = []
      made_regions (and n nodes) at = made_region n at ∷ made_regions nodes (at + size writing n)

    abbrev mutual
      pub made_code : Node → (child at : ℕ) → Code
      made_code (straight steps) child at = code.Passed (made_region (straight steps) at)
      made_code (sequence nodes) child at = code.Sequence (made_codes nodes child at) (behind nodes at)
      made_code (branch test a b) child at =
          code.Either at (length (writing.test_words_of test)) (at + words_in (writing.test_words_of test))
          (made_code a child (at + test_size writing test))
          (made_code b (child + length (threads_of a)) (at + test_size writing test + size writing a + 2))
      made_code (turns test body) child at =
          made_turns test at (made_code body child (at + option_size writing test)) (at + option_size writing test + size writing body + 2)
      made_code (bounded most test body) child at = code.Passed (made_region (bounded most test body) at)
      made_code (call f) child at = code.Passed (made_region (call f) at)
      made_code (pause i) child at = code.Resting at
      made_code (fork i fs) child at = code.Forking at child (length fs)
      made_code (guard j body) child at = code.Guarded at j (made_code body child (at + 1))

      pub made_codes : Nodes → (child at : ℕ) → List Code
      made_codes no_nodes child at = []
      made_codes (and n nodes) child at = made_code n child at ∷ made_codes nodes (child + length (threads_of n)) (at + size writing n)

  abbrev pub made_conditions : List (Bool × Test) → (at : ℕ) → List Section
  made_conditions [] at = []
  made_conditions (a ∷ aborts) at = made_condition a.1 at ∷ made_conditions aborts (at + condition_size writing a.1)

  module _ (numbers slots : List ℕ) (first : ℕ → ℕ) where
    abbrev pub made_function : (slot : Option ℕ) → (called : Bool) → Node → (at : ℕ) → Section
    made_function None true n at = OfRoutine (made_region numbers n at)
    made_function None false n at = Unused (size writing n + 1)
    made_function (Some slot) called n at = OfThread slot (made_code numbers n (first slot) at)

    abbrev pub made_functions : (g : ℕ) → List Node → (at : ℕ) → List Section
    made_functions g [] at = []
    made_functions g (n ∷ nodes) at =
        made_function (slot_of slots g) (is_among g (used_calls slots (g + 1) nodes)) n at
        ∷ made_functions (g + 1) nodes (at + size writing n + 1)

  module _ (f : Flow) where
    -- all sections
    abbrev pub made_sections : List Section
    made_sections =
        made_functions (numbers_of writing f) (slots_of f) (first_started f) 0 f.bodies 0
        ++ made_conditions f.aborts (functions_size writing f.bodies)

-- Which program the image of a flow holds, as certificates see programs: docs/architecture.md, "Layout", and docs/bounds.md, "Programs".
use Rattle.std.specs.Prelude.{ℕ, ◌+◌, ◌-◌, ◌==◌, Bool, true, false, if◌then◌else◌, List, [], ◌∷◌, ◌++◌, length, slice_index_or, Option, Some, None}
use Rattle.std.specs.List.{list_any}
use Rattle.pc_lower.specs.declared.nodes.Test.{Test}
use Rattle.pc_lower.specs.Flow.{Node, Nodes, straight, sequence, branch, turns, bounded, call, pause, fork, guard, no_nodes, and, Flow}
use Rattle.pc_lower.specs.Words.{words_in, Writing}
use Rattle.pc_lower.specs.Limits.{threads_of}
use Rattle.pc_lower.specs.Numbering.{slots_of, first_started}
use Rattle.tk_paths.specs.Regions.{Region, Words, Then, Choice, Counted, Repeated, Calling}
use Rattle.tk_paths.specs.Codes.{Code, Passed, Sequence, Either, Turns, Forever, Resting, Forking, Guarded}
use Rattle.tk_paths.specs.Programs.{Section, OfThread, OfRoutine, OfCondition, Unused, Program}
use Rattle.tk_paths.specs.Trees.{nowhere, routine_at, program_of_sections}
use Rattle.pc_emit.specs.Code.{loop_size, test_size, option_size, size}
use Rattle.pc_emit.specs.Image.{slot_of, condition_size, functions_size}

-- ---- which functions are used

-- the functions that a node calls, in the order of the text
abbrev mutual
  pub calls_in : Node → List ℕ
  calls_in (straight steps) = []
  calls_in (sequence nodes) = calls_in_all nodes
  calls_in (branch test a b) = calls_in a ++ calls_in b
  calls_in (turns test body) = calls_in body
  calls_in (bounded most test body) = calls_in body
  calls_in (call f) = f ∷ []
  calls_in (pause i) = []
  calls_in (fork i fs) = []
  calls_in (guard j body) = calls_in body

  pub calls_in_all : Nodes → List ℕ
  calls_in_all no_nodes = []
  calls_in_all (and n nodes) = calls_in n ++ calls_in_all nodes

abbrev pub is_among : ℕ → List ℕ → Bool
is_among g numbers = list_any (λ f. f == g) numbers

-- what a function does for the program: a slot runs it, or one that does something calls it, or it does nothing
abbrev pub is_used : Option ℕ → (called : Bool) → Bool
is_used None called = called
is_used (Some slot) called = true

-- one more behind a used routine
abbrev pub counted : Option ℕ → (called : Bool) → ℕ → ℕ
counted None true count = count + 1
counted slot called count = count

-- `slots` are the functions that run in slots
module _ (slots : List ℕ) where
  -- the calls of the used functions among these, which are numbered from a number on; a function is called by later ones alone
  abbrev pub used_calls : (g : ℕ) → List Node → List ℕ
  used_calls g [] = []
  used_calls g (n ∷ nodes) =
      if is_used (slot_of slots g) (is_among g (used_calls (g + 1) nodes)) then calls_in n ++ used_calls (g + 1) nodes
      else used_calls (g + 1) nodes

  -- the numbers of routines: how many used ones stand before a function, for functions from a number on
  abbrev pub numbers_from : (count g : ℕ) → List Node → List ℕ
  numbers_from count g [] = []
  numbers_from count g (n ∷ nodes) =
      count ∷ numbers_from (counted (slot_of slots g) (is_among g (used_calls (g + 1) nodes)) count) (g + 1) nodes

-- ---- regions and codes

module _ (writing : Writing) where
  -- a loop of so many turns at a place, and the place behind its jump back
  abbrev pub loop_region : (most : ℕ) → Option Test → (at : ℕ) → (body : Region) → (out : ℕ) → Region
  loop_region most None at body out = Repeated at (most - 1) body out
  loop_region most (Some test) at body out =
      Counted at (most - 1) (length (writing.test_words_of test)) (at + loop_size most + 1 + words_in (writing.test_words_of test)) body out

  -- a loop without a number at a place, and the place behind it
  abbrev pub turns_code : Option Test → (at : ℕ) → (body : Code) → (out : ℕ) → Code
  turns_code None at body out = Forever body out
  turns_code (Some test) at body out =
      Turns at (length (writing.test_words_of test)) (at + words_in (writing.test_words_of test)) body out

  -- the numbers of routines by their functions, and the regions of the routines so far
  module _ (numbers : List ℕ) (routines : List Region) where
    abbrev pub calling : ℕ → (at : ℕ) → Region
    calling f at = Calling at (routine_at routines at (slice_index_or numbers f 0))

    -- a node of a routine, or of the body of a loop with a number, at a place: neither has a pause, nor a loop without a number
    abbrev mutual
      pub region : Node → (at : ℕ) → Region
      region (straight steps) at = Words at (length (writing.words_of steps)) (at + words_in (writing.words_of steps))
      region (sequence nodes) at = regions nodes at
      region (branch test a b) at =
          Choice at (length (writing.test_words_of test)) (at + words_in (writing.test_words_of test))
          (region a (at + test_size writing test))
          (region b (at + test_size writing test + size writing a + 2))
      region (turns test body) at = nowhere at
      region (bounded most test body) at =
          loop_region most test at (region body (at + loop_size most + 1 + option_size writing test))
          (at + loop_size most + 1 + option_size writing test + size writing body + 2)
      region (call f) at = calling f at
      region (pause i) at = nowhere at
      region (fork i fs) at = nowhere at
      region (guard j body) at = nowhere at

      pub regions : Nodes → (at : ℕ) → Region
      regions no_nodes at = nowhere at
      regions (and n nodes) at = Then (region n at) (regions nodes (at + size writing n))

    -- a node of a thread at a place; `child` is the first slot that its forks start
    abbrev mutual
      pub thread_code : Node → (child at : ℕ) → Code
      thread_code (straight steps) child at = Passed (region (straight steps) at)
      thread_code (sequence nodes) child at = thread_codes nodes child at
      thread_code (branch test a b) child at =
          Either at (length (writing.test_words_of test)) (at + words_in (writing.test_words_of test))
          (thread_code a child (at + test_size writing test))
          (thread_code b (child + length (threads_of a)) (at + test_size writing test + size writing a + 2))
      thread_code (turns test body) child at =
          turns_code test at (thread_code body child (at + option_size writing test)) (at + option_size writing test + size writing body + 2)
      thread_code (bounded most test body) child at = Passed (region (bounded most test body) at)
      thread_code (call f) child at = Passed (calling f at)
      thread_code (pause i) child at = Resting at
      thread_code (fork i fs) child at = Forking at child (length fs)
      thread_code (guard j body) child at = Guarded at j (thread_code body child (at + 1))

      pub thread_codes : Nodes → (child at : ℕ) → Code
      thread_codes no_nodes child at = Passed (nowhere at)
      thread_codes (and n nodes) child at =
          Sequence (thread_code n child at) (thread_codes nodes (child + length (threads_of n)) (at + size writing n))

  -- ---- sections

  -- the conditions of aborts from a place on
  abbrev pub condition_sections : List (Bool × Test) → (at : ℕ) → List Section
  condition_sections [] at = []
  condition_sections (a ∷ aborts) at =
      OfCondition at (length (writing.test_words_of a.1)) (at + words_in (writing.test_words_of a.1))
      ∷ condition_sections aborts (at + condition_size writing a.1)

  module _ (numbers slots : List ℕ) (first : ℕ → ℕ) where
    -- a function at a place: a thread's, where a slot runs it, or a routine, where a used function calls it
    abbrev pub function_section : List Region → (slot : Option ℕ) → (called : Bool) → Node → (at : ℕ) → Section
    function_section routines None true n at = OfRoutine (region numbers routines n at)
    function_section routines None false n at = Unused (size writing n + 1)
    function_section routines (Some slot) called n at = OfThread slot (thread_code numbers routines n (first slot) at)

    -- the routines so far, with a function that may be one
    abbrev pub with_routine : List Region → (slot : Option ℕ) → (called : Bool) → Node → (at : ℕ) → List Region
    with_routine routines None true n at = routines ++ region numbers routines n at ∷ []
    with_routine routines slot called n at = routines

    -- functions from a number on, and behind them other sections
    abbrev pub function_sections : List Region → (g : ℕ) → List Node → (at : ℕ) → (behind : List Section) → List Section
    function_sections routines g [] at behind = behind
    function_sections routines g (n ∷ nodes) at behind =
        function_section routines (slot_of slots g) (is_among g (used_calls slots (g + 1) nodes)) n at
        ∷ function_sections (with_routine routines (slot_of slots g) (is_among g (used_calls slots (g + 1) nodes)) n at)
        (g + 1) nodes (at + size writing n + 1) behind

  module _ (f : Flow) where
    abbrev pub numbers_of : List ℕ
    numbers_of = numbers_from (slots_of f) 0 0 f.bodies

    -- The sections of the image of a flow: its functions in the order of the text, and behind them the conditions.
    abbrev pub sections_of : List Section
    sections_of =
        function_sections numbers_of (slots_of f) (first_started f) [] 0 f.bodies 0
        (condition_sections f.aborts (functions_size writing f.bodies))

    -- The program that the image holds.
    abbrev pub program_of : Program
    program_of = program_of_sections sections_of

-- Laws of the unit's moves, for the crates above: docs/machine.md, "The unit".
use Rattle.std.specs.Prelude.{◌≡◌, ℕ, Bool, true, false, not, List, ◌++◌}
use Rattle.mb_pfu.specs.Rows.{is_free, numbered, due, is_cut}
use Rattle.mb_pfu.specs.declared.parts.Watch.{Watch}
use Rattle.mb_pfu.specs.Tree.{Tree, is_in, slot_of, next_job, next_test, tests_begun, entered, left, test_answered, report, reported_watches}
use Rattle.mb_pfu.specs.DueList.{due_tests, first_of, first_tests, rest_of, all_entries}

-- a slot is free exactly where it isn't in the tree
abbrev pub FreeOutside : Type 0
FreeOutside = (s : ℕ) (t : Tree) → is_free (slot_of s t) ≡ not (is_in (numbered s) 0 t)

-- to enter or leave an abort changes no slot's state, and not which slot is ready first
pub record AbortsKeepStates : Type 0 where
  pub enter_states : (q s : ℕ) (l : Watch) (t : Tree) → slot_of q (entered s l t) ≡ slot_of q t
  pub leave_states : (q s : ℕ) (t : Tree) → slot_of q (left s t) ≡ slot_of q t
  pub enter_next : (s : ℕ) (l : Watch) (t : Tree) → next_job (entered s l t) ≡ next_job t
  pub leave_next : (s : ℕ) (t : Tree) → next_job (left s t) ≡ next_job t

-- what the slot of the first due test watches for
abbrev pub watched_first : Tree → List Watch
watched_first t = reported_watches (report due 0 t)

-- an answer that cuts takes off the due tests of its slot and of the group below, and any other the first one
pub record AnswersTakeOff : Type 0 where
  pub cuts : (fired : Bool) (t : Tree) → is_in due 0 t ≡ true → is_cut fired (watched_first t) ≡ true → due_tests t ≡ first_tests 0 t ++ due_tests (test_answered fired t)
  pub keeps : (fired : Bool) (t : Tree) → is_in due 0 t ≡ true → is_cut fired (watched_first t) ≡ false → due_tests (test_answered fired t) ≡ rest_of (due_tests t)

-- where the tests begin all entries are due, in depth-first order and of each slot from the outermost on; the next test is
-- the first of those that are due
pub record TestsAreInOrder : Type 0 where
  pub begins : (t : Tree) → due_tests (tests_begun t) ≡ all_entries t
  pub next : (t : Tree) → next_test t ≡ first_of (due_tests t)

-- The list of the tests that are due.
use Rattle.std.specs.Prelude.{ℕ, ◌+◌, if◌then◌else◌, List, [], ◌∷◌, Option, Some, None}
use Rattle.mb_pfu.specs.declared.parts.Watch.{Watch}
use Rattle.mb_pfu.specs.Rows.{due, any_due}
use Rattle.mb_pfu.specs.Tree.{Tree, Group, Leaf, Waits, no_more, member, is_in}

-- the tests of slot k from entry i on, before more tests
abbrev pub tests_from : ℕ → ℕ → List Watch → List (ℕ × ℕ) → List (ℕ × ℕ)
tests_from k i [] rest = rest
tests_from k i (l ∷ watches) rest = if l.due then (k, i) ∷ tests_from k (i + 1) watches rest else tests_from k (i + 1) watches rest

abbrev mutual
  pub tests_then : ℕ → Tree → List (ℕ × ℕ) → List (ℕ × ℕ)
  tests_then k (Leaf watches activity) rest = tests_from k 0 watches rest
  tests_then k (Waits watches at lo group) rest = tests_from k 0 watches (group_tests_then lo group rest)

  pub group_tests_then : ℕ → Group → List (ℕ × ℕ) → List (ℕ × ℕ)
  group_tests_then k no_more rest = rest
  group_tests_then k (member t ts) rest = tests_then k t (group_tests_then (k + 1) ts rest)

-- the tests that are due, each a slot and the place of an entry, in depth-first order and from the outermost on
abbrev pub due_tests : Tree → List (ℕ × ℕ)
due_tests t = tests_then 0 t []

abbrev pub first_of : List (ℕ × ℕ) → Option (ℕ × ℕ)
first_of [] = None
first_of (x ∷ xs) = Some x

abbrev pub rest_of : List (ℕ × ℕ) → List (ℕ × ℕ)
rest_of [] = []
rest_of (x ∷ xs) = xs

abbrev mutual
  -- the tests of the first slot that has one, and of the group below it
  pub first_tests : ℕ → Tree → List (ℕ × ℕ)
  first_tests k (Leaf watches activity) = tests_from k 0 watches []
  first_tests k (Waits watches at lo group) = if any_due watches then tests_from k 0 watches (group_tests_then lo group []) else group_first_tests lo group

  pub group_first_tests : ℕ → Group → List (ℕ × ℕ)
  group_first_tests k no_more = []
  group_first_tests k (member t ts) = if is_in due k t then first_tests k t else group_first_tests (k + 1) ts

-- all entries of slot k from entry i on, before more
abbrev pub entries_from : ℕ → ℕ → List Watch → List (ℕ × ℕ) → List (ℕ × ℕ)
entries_from k i [] rest = rest
entries_from k i (l ∷ watches) rest = (k, i) ∷ entries_from k (i + 1) watches rest

abbrev mutual
  pub entries_then : ℕ → Tree → List (ℕ × ℕ) → List (ℕ × ℕ)
  entries_then k (Leaf watches activity) rest = entries_from k 0 watches rest
  entries_then k (Waits watches at lo group) rest = entries_from k 0 watches (group_entries_then lo group rest)

  pub group_entries_then : ℕ → Group → List (ℕ × ℕ) → List (ℕ × ℕ)
  group_entries_then k no_more rest = rest
  group_entries_then k (member t ts) rest = entries_then k t (group_entries_then (k + 1) ts rest)

-- all entries, each a slot and a place, in depth-first order and from the outermost on
abbrev pub all_entries : Tree → List (ℕ × ℕ)
all_entries t = entries_then 0 t []

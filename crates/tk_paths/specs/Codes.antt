-- The code of a thread, how it lies in an image, and which parts of it can come to their end within a tick: docs/bounds.md, "Programs".
use Rattle.std.specs.Prelude.{◌≡◌, ℕ, zero, suc, ◌+◌, ◌<◌, ◌≤◌, ◌++◌, ◌&&◌, ◌||◌, max, Bool, true, false, IsTrue, List, [], ◌∷◌, length, Some}
use Rattle.pt_image.specs.declared.Parts.{Parts}
use Rattle.pt_image.specs.Listed.{is_listed}
use Rattle.tk_paths.specs.declared.word.Word.TheVariants.{Jump, Branch, Fork, Eot, Abrt, Leave}
use Rattle.tk_paths.specs.Kinds.{abort_at}
use Rattle.tk_paths.specs.Regions.{Region, Words, Then, Choice, Counted, Repeated, Calling, from, to, links_in, counters_in, behind, IsUnit, IsWord, AreUnits, IsLaid}

-- Regions that a thread passes, and places where it rests.
pub data Code : Type 0 where
  Passed : (region : Region) → Code
  Sequence : (first next : Code) → Code
  -- as a region's choice: a test, its branch, the side where it is not taken with a jump behind it, the side where it is
  Either : (from count branch : ℕ) (untaken taken : Code) → Code
  -- a loop with a test: the units of the test, its branch, the body, the jump back
  Turns : (from count branch : ℕ) (body : Code) (to : ℕ) → Code
  -- a loop without one: the body, the jump back
  Forever : (body : Code) (to : ℕ) → Code
  -- a pause
  Resting : (place : ℕ) → Code
  -- a fork of so many slots from the first on
  Forking : (place first count : ℕ) → Code
  -- an abort by its number: the body, and `leave`
  Guarded : (place number : ℕ) (body : Code) → Code

-- the place where it begins, and the one behind it
abbrev pub entry : Code → ℕ
entry (Passed r) = from r
entry (Sequence x y) = entry x
entry (Either p n at x y) = p
entry (Turns p n at body q) = p
entry (Forever body q) = entry body
entry (Resting p) = p
entry (Forking p lo n) = p
entry (Guarded p j body) = p

abbrev pub exit : Code → ℕ
exit (Passed r) = to r
exit (Sequence x y) = exit y
exit (Either p n at x y) = exit y
exit (Turns p n at body q) = q
exit (Forever body q) = q
exit (Resting p) = p + 1
exit (Forking p lo n) = p + 1
exit (Guarded p j body) = exit body + 1

-- how many bounded loops a place of a region is inside at most, those of routines not counted
abbrev pub loops_in : Region → ℕ
loops_in (Words p n q) = 0
loops_in (Then x y) = max (loops_in x) (loops_in y)
loops_in (Choice p n at x y) = max (loops_in x) (loops_in y)
loops_in (Counted p m n at body q) = loops_in body + 1
loops_in (Repeated p m body q) = loops_in body + 1
loops_in (Calling p callee) = 0

-- each routine that a region calls, and each that a code does
abbrev pub EachCalled : (Region → Type 0) → Region → Type 0
EachCalled P (Words p n q) = Unit {0}
EachCalled P (Then x y) = EachCalled P x × EachCalled P y
EachCalled P (Choice p n at x y) = EachCalled P x × EachCalled P y
EachCalled P (Counted p m n at body q) = EachCalled P body
EachCalled P (Repeated p m body q) = EachCalled P body
EachCalled P (Calling p callee) = P callee

abbrev pub EachCall : (Region → Type 0) → Code → Type 0
EachCall P (Passed r) = EachCalled P r
EachCall P (Sequence x y) = EachCall P x × EachCall P y
EachCall P (Either p n at x y) = EachCall P x × EachCall P y
EachCall P (Turns p n at body q) = EachCall P body
EachCall P (Forever body q) = EachCall P body
EachCall P (Resting p) = Unit {0}
EachCall P (Forking p lo n) = Unit {0}
EachCall P (Guarded p j body) = EachCall P body

-- which slots can end in the tick in which they start
module _ (ends : ℕ → Bool) where
  abbrev pub all_end : ℕ → ℕ → Bool
  all_end c zero = true
  all_end c (suc n) = ends c && all_end (c + 1) n

  -- a code can come from its beginning to its end within a tick
  abbrev pub can_end : Code → Bool
  can_end (Passed r) = true
  can_end (Sequence x y) = can_end x && can_end y
  can_end (Either p n at x y) = can_end x || can_end y
  can_end (Turns p n at body q) = true
  can_end (Forever body q) = false
  can_end (Resting p) = false
  can_end (Forking p lo n) = all_end lo n
  can_end (Guarded p j body) = can_end body

  -- the body of a loop without a number of turns can't
  abbrev pub IsLasting : Code → Type 0
  IsLasting (Passed r) = Unit {0}
  IsLasting (Sequence x y) = IsLasting x × IsLasting y
  IsLasting (Either p n at x y) = IsLasting x × IsLasting y
  IsLasting (Turns p n at body q) = IsLasting body × (can_end body ≡ false)
  IsLasting (Forever body q) = IsLasting body × (can_end body ≡ false)
  IsLasting (Resting p) = Unit {0}
  IsLasting (Forking p lo n) = Unit {0}
  IsLasting (Guarded p j body) = IsLasting body

module _ (image : Parts) where
  -- a region is laid, and the unit has room for its links, its counters and its loops
  abbrev pub IsRoomy : Region → Type 0
  IsRoomy r = IsLaid image r × (loops_in r ≤ 8) × (links_in r ≤ 16) × (counters_in r ≤ 136)

  module _ (s : ℕ) where
    -- A code's words lie in the image, inside these aborts of slot s, with its pauses, forks and aborts in their tables.
    abbrev pub IsLaidIn : List ℕ → Code → Type 0
    IsLaidIn stack (Passed r) = IsRoomy r
    IsLaidIn stack (Sequence x y) = IsLaidIn stack x × IsLaidIn stack y × (exit x ≡ entry y)
    IsLaidIn stack (Either p n at x y) =
        AreUnits image p n at × IsUnit image at (Branch (Some (entry y))) × (behind image at ≡ entry x) × IsLaidIn stack x
        × IsUnit image (exit x) (Jump (Some (exit y))) × (behind image (exit x) ≡ entry y) × IsLaidIn stack y
    IsLaidIn stack (Turns p n at body q) =
        AreUnits image p n at × IsUnit image at (Branch (Some q)) × (behind image at ≡ entry body) × IsLaidIn stack body
        × IsUnit image (exit body) (Jump (Some p)) × (behind image (exit body) ≡ q)
    IsLaidIn stack (Forever body q) =
        IsLaidIn stack body × IsUnit image (exit body) (Jump (Some (entry body))) × (behind image (exit body) ≡ q)
    IsLaidIn stack (Resting p) = IsWord image p Eot × IsTrue (is_listed image.pauses p s stack)
    IsLaidIn stack (Forking p lo n) =
        IsWord image p (Fork lo n) × IsTrue (is_listed image.forks p s stack) × (s < lo) × (1 ≤ n) × (lo + n ≤ length image.slots)
    IsLaidIn stack (Guarded p j body) =
        IsWord image p (Abrt j) × (j < length image.aborts) × (length stack < 8) × (p + 1 ≡ entry body) × IsLaidIn (stack ++ j ∷ []) body
        × IsWord image (exit body) Leave × ((abort_at image j).handler ≡ exit body + 1)

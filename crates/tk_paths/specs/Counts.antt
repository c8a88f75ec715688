-- How many cycles the numbers of a program come to at most, told from its words alone: docs/bounds.md, "Programs".
use Rattle.std.specs.Prelude.{◌≡◌, ℕ, zero, suc, ◌+◌, ◌-◌, ◌*◌, ◌≤◌, ◌==◌, max, if◌then◌else◌, List, [], ◌∷◌, length, slice_get, slice_index_or, Option, Some}
use Rattle.std.specs.List.{AllByRecursion}
use Rattle.pt_image.specs.declared.Point.{Point}
use Rattle.pt_image.specs.declared.Parts.{Parts}
use Rattle.mb_isa.specs.Tick.{base_of}
use Rattle.tk_cert.specs.declared.cert.Line.{Line}
use Rattle.tk_cert.specs.declared.cert.Line.TheVariants.{Bare, Thread, Routine, Cond}
use Rattle.tk_cert.specs.declared.cert.Walk.{Walk}
use Rattle.tk_cert.specs.declared.cert.CertParts.{CertParts}
use Rattle.tk_cert.specs.Form.{IsWalk, IsInForm}
use Rattle.tk_paths.specs.declared.view.Side.{Side}
use Rattle.tk_paths.specs.Sums.{resumed_most}
use Rattle.tk_paths.specs.Shape.{children_at}
use Rattle.tk_paths.specs.Acceptance.{resumed}
use Rattle.tk_paths.specs.Walks.{most_cycles}
use Rattle.mb_isa.specs.Costs.{IsCosts}
use Rattle.pt_image.specs.Ranges.{IsImage}
use Rattle.tk_paths.specs.Regions.{Region, Words, Then, Choice, Counted, Repeated, Calling, from, to, behind}
use Rattle.tk_paths.specs.Codes.{Code, Passed, Sequence, Either, Turns, Forever, Resting, Forking, Guarded, entry, exit}
use Rattle.tk_paths.specs.Programs.{Section, OfThread, OfRoutine, OfCondition, Unused, Program, IsProgram, starts_in, certificate}

-- a number that is there is at most this
abbrev pub Below : ℕ → Option ℕ → Type 0
Below b o = (n : ℕ) → o ≡ Some n → n ≤ b

abbrev pub ArePairBelow : ℕ → Option ℕ × Option ℕ → Type 0
ArePairBelow b p = Below b p.0 × Below b p.1

-- so are all of a line
abbrev pub Within : ℕ → Line → Type 0
Within b Bare = Unit {0}
Within b (Thread slot stack loops levels) = AllByRecursion (ArePairBelow b) levels
Within b (Routine height loops value) = value ≤ b
Within b (Cond value) = value ≤ b

-- no word is charged more
abbrev pub dearest : ℕ
dearest = 255

-- the words from a place to another, each once
abbrev pub words_most : ℕ → ℕ → ℕ
words_most p q = (q - p) * dearest

-- the sum over so many slots from slot c on
abbrev pub total : (ℕ → ℕ) → ℕ → ℕ → ℕ
total worth c zero = 0
total worth c (suc n) = worth c + total worth (c + 1) n

-- how often a word is passed at most on a way from a place of a code to its end or to a rest in it: once to the end of the body of a loop
-- that the place is inside, once from the beginning of the loop, and once more where a rest leads behind one of at most eight aborts
abbrev pub ways : ℕ
ways = 10

module _ (image : Parts) where
  -- a whole turn of a bounded loop of these words, whose body comes to t
  abbrev pub turn_most : ℕ → Region → ℕ → ℕ → ℕ
  turn_most p body q t = words_most (behind image p) (from body) + t + words_most (to body) q

  -- the way through a region, whichever it is
  abbrev pub region_most : Region → ℕ
  region_most (Words p n q) = words_most p q
  region_most (Then x y) = region_most x + region_most y
  region_most (Choice p n at x y) = words_most p (from x) + max (region_most x + words_most (to x) (from y)) (region_most y)
  region_most (Counted p m n at body q) =
      words_most p (behind image p) + suc m * turn_most p body q (region_most body) + (words_most (behind image p) (from body) + dearest)
  region_most (Repeated p m body q) =
      words_most p (behind image p) + suc m * turn_most p body q (region_most body) + words_most (behind image p) (from body)
  region_most (Calling p callee) = region_most callee + 2 * dearest

  -- what slots start with, at most
  module _ (starts : ℕ → ℕ) where
    -- a way from the beginning of a code to its end or a rest, each word once; a fork starts its children
    abbrev pub way_most : Code → ℕ
    way_most (Passed r) = region_most r
    way_most (Sequence x y) = way_most x + way_most y
    way_most (Either p n at x y) = words_most p (entry x) + max (way_most x + words_most (exit x) (entry y)) (way_most y)
    way_most (Turns p n at body q) = words_most p (entry body) + way_most body + words_most (exit body) q
    way_most (Forever body q) = way_most body + words_most (exit body) q
    way_most (Resting p) = dearest
    way_most (Forking p lo n) = dearest + total starts lo n
    way_most (Guarded p j body) = way_most body + 2 * dearest

    -- from any place of it
    abbrev pub code_most : Code → ℕ
    code_most code = ways * way_most code

  -- what slots start with, from slot s on
  abbrev pub starts_most_from : ℕ → List Code → List ℕ
  starts_most_from s [] = []
  starts_most_from s (code ∷ codes) =
      (way_most (λ c. slice_index_or (starts_most_from (s + 1) codes) (c - (s + 1)) 0) code + dearest)
      ∷ starts_most_from (s + 1) codes

  abbrev pub starts_most : List Code → ℕ → ℕ
  starts_most codes c = slice_index_or (starts_most_from 0 codes) c 0

  -- the greatest that a section's places have
  abbrev pub section_most : List Code → Section → ℕ
  section_most codes (OfThread s code) = code_most (starts_most codes) code + dearest
  section_most codes (OfRoutine r) = region_most r + dearest
  section_most codes (OfCondition p n q) = words_most p q + dearest
  section_most codes (Unused n) = 0

  abbrev pub greatest_most : List Code → List Section → ℕ
  greatest_most codes [] = 0
  greatest_most codes (x ∷ sections) = max (section_most codes x) (greatest_most codes sections)

  -- the greatest of the conditions
  abbrev pub condition_most : Section → ℕ
  condition_most (OfCondition p n q) = words_most p q + dearest
  condition_most other = 0

  abbrev pub tests_most : List Section → ℕ
  tests_most [] = 0
  tests_most (x ∷ sections) = max (condition_most x) (tests_most sections)

  -- the greatest sum over the children of a slot's forks
  abbrev pub waited_most : (ℕ → ℕ) → ℕ → List Point → ℕ
  waited_most worth s [] = 0
  waited_most worth s (p ∷ points) =
      max (if p.slot == s then total worth ((children_at image p.at).0) ((children_at image p.at).1) else 0) (waited_most worth s points)

  -- What a place comes to, a slot that is resumed inside at most eight aborts, and a tick.
  module _ (program : Program) where
    abbrev pub place_most : ℕ
    place_most = greatest_most program.threads program.sections

    abbrev pub slots_most_from : ℕ → ℕ → List ℕ
    slots_most_from s zero = []
    slots_most_from s (suc n) =
        (8 * tests_most program.sections + place_most
        + waited_most (λ c. slice_index_or (slots_most_from (s + 1) n) (c - (s + 1)) 0) s image.forks)
        ∷ slots_most_from (s + 1) n

    abbrev pub slots_most : ℕ → ℕ
    slots_most c = slice_index_or (slots_most_from 0 (length image.slots)) c 0

-- No number of a program's certificate is greater than these counts.
pub record IsCounted (image : Parts) (program : Program) (costs : List ℕ) (cert : CertParts) : Type 0 where
  pub lines : AllByRecursion (Within (place_most image program)) cert.lines
  pub weights : AllByRecursion (λ (w : ℕ × ℕ). w.1 ≤ place_most image program) cert.weights
  pub starts : (side : Side) (s : ℕ) → Below (starts_most image program.threads s) (starts_in image costs program.threads side s)
  pub slots : (s : ℕ) (side : Side) → Below (slots_most image program s) (resumed image cert costs side s)
  pub bound : cert.bound ≤ base_of image costs + max (starts_most image program.threads 0) (slots_most image program 0)

-- They hold whatever the costs are.
abbrev pub NumbersAreCounted : Type 0
NumbersAreCounted =
    (image : Parts) (program : Program) (costs : List ℕ) (walk : Walk) → IsImage image → IsCosts costs → IsProgram image program →
    IsCounted image program costs (certificate image costs program walk)

-- All counts are within what a tick may cost at most, so all numbers are, whatever the costs are.
pub record AreSmall (image : Parts) (program : Program) : Type 0 where
  pub places : place_most image program ≤ most_cycles
  pub slots : (s : ℕ) → slots_most image program s ≤ most_cycles
  pub bound : (costs : List ℕ) → IsCosts costs →
      base_of image costs + max (starts_most image program.threads 0) (slots_most image program 0) ≤ most_cycles

-- So the certificate, with any walk of its file's form, is within the ranges of the file.
abbrev pub CertificatesAreInForm : Type 0
CertificatesAreInForm =
    (image : Parts) (program : Program) (costs : List ℕ) (walk : Walk) → IsImage image → IsCosts costs → IsProgram image program →
    AreSmall image program → IsWalk walk → IsInForm (certificate image costs program walk)

-- each fork of a code
abbrev pub EachFork : (ℕ → ℕ → Type 0) → Code → Type 0
EachFork P (Passed r) = Unit {0}
EachFork P (Sequence x y) = EachFork P x × EachFork P y
EachFork P (Either p n at x y) = EachFork P x × EachFork P y
EachFork P (Turns p n at body q) = EachFork P body
EachFork P (Forever body q) = EachFork P body
EachFork P (Resting p) = Unit {0}
EachFork P (Forking p lo n) = P lo n
EachFork P (Guarded p j body) = EachFork P body

-- No number of a certificate is greater than what a tick may cost at most, nor is what the children of a fork come to where each of
-- them gives its greater number, as they start or as they are resumed.
pub record HasSmallNumbers (image : Parts) (program : Program) (costs : List ℕ) (cert : CertParts) : Type 0 where
  pub lines : AllByRecursion (Within most_cycles) cert.lines
  pub weights : AllByRecursion (λ (w : ℕ × ℕ). w.1 ≤ most_cycles) cert.weights
  pub started : (s : ℕ) (code : Code) → slice_get program.threads s ≡ Some code →
      EachFork (λ lo n. resumed_most (starts_in image costs program.threads) lo n ≤ most_cycles) code
  pub slots : (s : ℕ) (side : Side) → Below most_cycles (resumed image cert costs side s)
  pub waits : AllByRecursion
      (λ (p : Point). resumed_most (resumed image cert costs) ((children_at image p.at).0) ((children_at image p.at).1) ≤ most_cycles) image.forks
  pub bound : cert.bound ≤ most_cycles

-- Small counts make small numbers.
abbrev pub SmallCountsAreKept : Type 0
SmallCountsAreKept =
    (image : Parts) (program : Program) (costs : List ℕ) (walk : Walk) → IsImage image → IsCosts costs → IsProgram image program →
    AreSmall image program → HasSmallNumbers image program costs (certificate image costs program walk)

-- A program in an image, and the certificate that its numbers make: docs/bounds.md, "Programs".
use Rattle.std.specs.Prelude.{◌≡◌, ◌⊎◌, ℕ, zero, suc, ◌+◌, ◌-◌, ◌<◌, ◌≤◌, ◌++◌, Bool, false, List, [], ◌∷◌, length, replicate, slice_get, slice_index_or, Option, Some, None}
use Rattle.std.specs.List.{AllByRecursion, flat_map}
use Rattle.mb_isa.specs.declared.Class.TheVariants as class
use Rattle.mb_isa.specs.declared.Instr.TheVariants as instr
use Rattle.mb_isa.specs.Costs.{IsCosts}
use Rattle.pt_image.specs.declared.Point.{Point}
use Rattle.pt_image.specs.declared.Parts.{Parts}
use Rattle.pt_image.specs.Ranges.{IsImage}
use Rattle.mb_isa.specs.Tick.{base_of}
use Rattle.tk_cert.specs.declared.cert.Line.{Line}
use Rattle.tk_cert.specs.declared.cert.Line.TheVariants.{Bare}
use Rattle.tk_cert.specs.declared.cert.Walk.{Walk}
use Rattle.tk_cert.specs.declared.cert.CertParts.{CertParts}
use Rattle.tk_cert.specs.Demands.{AllHold}
use Rattle.tk_paths.specs.declared.view.Side.{Side}
use Rattle.tk_paths.specs.declared.view.Side.TheVariants.{ToPause, ToEnd}
use Rattle.tk_paths.specs.declared.view.View.TheVariants.{On, Value}
use Rattle.tk_paths.specs.declared.word.Word.TheVariants.{End, Ret, Cend}
use Rattle.tk_paths.specs.Sums.{greater, greatest}
use Rattle.tk_paths.specs.Words.{instr_at}
use Rattle.tk_paths.specs.Kinds.{start_of, abort_at}
use Rattle.tk_paths.specs.Shape.{apart}
use Rattle.tk_paths.specs.Acceptance.{on_side}
use Rattle.tk_paths.specs.Bounded.{IsAcceptedFor}
use Rattle.tk_paths.specs.Walks.{most_cycles, IsWorst}
use Rattle.tk_paths.specs.Regions.{Region, from, to, links_in, IsWord, AreUnits, IsLaid}
use Rattle.tk_paths.specs.Greatest.{best, paused, waited, beginnings, IsGreatest}
use Rattle.tk_paths.specs.Codes.{Code, entry, exit, loops_in, EachCalled, EachCall, can_end, IsLasting, IsLaidIn}
use Rattle.tk_paths.specs.Numbers.{thread, routine, condition, Numbers, level, line, just, units_lines, region_lines, region_weights, entered, code_lines, code_weights, cost}

-- The pieces of an image's code, in its order.
pub data Section : Type 0 where
  -- a thread's code, and `end`
  OfThread : (slot : ℕ) (code : Code) → Section
  -- a routine that threads call, themselves or by others, and `ret`
  OfRoutine : (region : Region) → Section
  -- a condition's straight code, and `cend`
  OfCondition : (from count close : ℕ) → Section
  -- so many words of routines that no thread calls
  Unused : (words : ℕ) → Section

pub record Program : Type 0 where
  -- the code of each slot
  pub threads : List Code
  pub sections : List Section

-- one pair of a list, whose first has number s
abbrev pub pair_from : ℕ → List (Option ℕ × Option ℕ) → Side → ℕ → Option ℕ
pair_from s pairs side c = on_side side (slice_get pairs (c - s))

-- which slots can end in the tick in which they start, from slot s on; a slot starts only later ones
abbrev pub enders_from : ℕ → List Code → List Bool
enders_from s [] = []
enders_from s (code ∷ codes) =
    can_end (λ c. slice_index_or (enders_from (s + 1) codes) (c - (s + 1)) false) code ∷ enders_from (s + 1) codes

abbrev pub ends_in : List Code → ℕ → Bool
ends_in codes c = slice_index_or (enders_from 0 codes) c false

-- a routine is higher than those that it calls
abbrev pub height : Region → ℕ
height r = links_in r + 1

module _ (image : Parts) where
  -- a section begins at this place, and the sections behind it follow, up to the end of the code
  abbrev pub AreSections : ℕ → List Section → Type 0
  AreSections place [] = place ≡ length image.code
  AreSections place (OfThread s code ∷ rest) =
      (place ≡ entry code) × IsLaidIn image s [] code × IsWord image (exit code) End × AreSections (exit code + 1) rest
  AreSections place (OfRoutine r ∷ rest) =
      (place ≡ from r) × IsLaid image r × (loops_in r ≤ 8) × (height r ≤ 16) × IsWord image (to r) Ret × AreSections (to r + 1) rest
  AreSections place (OfCondition p n q ∷ rest) =
      (place ≡ p) × AreUnits image p n q × IsWord image q Cend × AreSections (q + 1) rest
  AreSections place (Unused n ∷ rest) = AreSections (place + n) rest

-- a section is one of these
abbrev pub IsIn : Section → List Section → Type 0
IsIn x [] = ⊥
IsIn x (y ∷ sections) = (y ≡ x) ⊎ IsIn x sections

-- a place is one of a thread's code
abbrev pub IsInThread : List Section → ℕ → Type 0
IsInThread [] place = ⊥
IsInThread (OfThread s code ∷ rest) place = ((entry code ≤ place) × (place < exit code)) ⊎ IsInThread rest place
IsInThread (other ∷ rest) place = IsInThread rest place

-- a section calls only routines that are sections, and the loops of a thread last
abbrev pub IsClosed : Program → Section → Type 0
IsClosed program (OfThread s code) =
    (slice_get program.threads s ≡ Some code) × EachCall (λ callee. IsIn (OfRoutine callee) program.sections) code
    × IsLasting (ends_in program.threads) code
IsClosed program (OfRoutine r) = EachCalled (λ callee. IsIn (OfRoutine callee) program.sections) r
IsClosed program (OfCondition p n q) = Unit {0}
IsClosed program (Unused n) = Unit {0}

-- a pause, and a fork, at a place of a thread's code
abbrev pub IsPauseIn : Parts → Program → ℕ → Type 0
IsPauseIn image program place = (instr_at image place ≡ Some instr.Eot) × IsInThread program.sections place

abbrev pub IsForkIn : Parts → Program → ℕ → Type 0
IsForkIn image program place = (lo n : ℕ) × (instr_at image place ≡ Some (instr.Fork lo n)) × IsInThread program.sections place

-- The program's words and tables are those of the image.
pub record IsProgram (image : Parts) (program : Program) : Type 0 where
  pub laid : AreSections image 0 program.sections
  pub closed : AllByRecursion (IsClosed program) program.sections
  -- each slot has its thread, and each abort its condition
  pub slots : length program.threads ≡ length image.slots
  pub thread : (s : ℕ) (code : Code) → slice_get program.threads s ≡ Some code →
      (start_of image s ≡ entry code) × IsIn (OfThread s code) program.sections
  pub tested : (j : ℕ) → j < length image.aborts →
      (n close : ℕ) × IsIn (OfCondition (abort_at image j).cond n close) program.sections
  -- what is listed is a pause, or a fork, in the code of a thread
  pub pauses : AllByRecursion (λ (p : Point). IsPauseIn image program p.at) image.pauses
  pub forks : AllByRecursion (λ (p : Point). IsForkIn image program p.at) image.forks
  pub apart : AllHold (apart image)

module _ (image : Parts) (costs : List ℕ) where
  -- the numbers of a thread's `end`
  abbrev pub ended : Numbers
  ended (On ToPause k) = None
  ended (On ToEnd k) = Some (cost image costs class.End)
  ended Value = None

  -- the numbers with which slots start, from slot s on
  abbrev pub starts_from : ℕ → List Code → List (Option ℕ × Option ℕ)
  starts_from s [] = []
  starts_from s (code ∷ codes) =
      level (entered image costs (pair_from (s + 1) (starts_from (s + 1) codes)) [] code ended) 0 ∷ starts_from (s + 1) codes

  abbrev pub starts_in : List Code → Side → ℕ → Option ℕ
  starts_in codes = pair_from 0 (starts_from 0 codes)

  module _ (program : Program) where
    abbrev pub section_lines : Section → List Line
    section_lines (OfThread s code) =
        code_lines image costs (starts_in program.threads) s [] code ended ++ line (thread s [] []) ended ∷ []
    section_lines (OfRoutine r) =
        region_lines image costs (routine (height r) []) r (just (cost image costs class.Ret))
        ++ line (routine (height r) []) (just (cost image costs class.Ret)) ∷ []
    section_lines (OfCondition p n q) =
        units_lines image costs condition p n (just (cost image costs class.Cend))
        ++ line condition (just (cost image costs class.Cend)) ∷ []
    section_lines (Unused n) = replicate n Bare

    abbrev pub section_weights : Section → List (ℕ × ℕ)
    section_weights (OfThread s code) = code_weights image costs code
    section_weights (OfRoutine r) = region_weights image costs r
    section_weights (OfCondition p n q) = []
    section_weights (Unused n) = []

    abbrev pub lines : List Line
    lines = flat_map section_lines program.sections

    -- the slots, from slot s on; what a slot that waits comes to is told from later slots
    abbrev pub so_far : List (Option ℕ × Option ℕ) → CertParts
    so_far pairs = record { bound = 0; lines = lines; weights = []; slot_bounds = pairs; walk = record { states = []; choices = [] } }

    abbrev pub resumption : List (Option ℕ × Option ℕ) → ℕ → Side → Option ℕ
    resumption pairs s side =
        greater (best (paused image (so_far pairs) costs side) s image.pauses) (best (waited image (so_far pairs) costs side) s image.forks)

    -- what is known as the numbers of slot s are told: those of later slots
    abbrev pub known_from : ℕ → List (Option ℕ × Option ℕ) → List (Option ℕ × Option ℕ)
    known_from s later = replicate (s + 1) (None, None) ++ later

    abbrev pub slots_from : ℕ → ℕ → List (Option ℕ × Option ℕ)
    slots_from s zero = []
    slots_from s (suc n) =
        (resumption (known_from s (slots_from (s + 1) n)) s ToPause, resumption (known_from s (slots_from (s + 1) n)) s ToEnd)
        ∷ slots_from (s + 1) n

    abbrev pub slot_bounds : List (Option ℕ × Option ℕ)
    slot_bounds = slots_from 0 (length image.slots)

    -- The certificate of a program, with any walk.
    abbrev pub certificate : Walk → CertParts
    certificate walk = record {
      bound = base_of image costs + greatest (beginnings image (so_far slot_bounds) costs);
      lines = lines;
      weights = flat_map section_weights program.sections;
      slot_bounds = slot_bounds;
      walk = walk;
    }

-- The certificate of a program is accepted, whatever the costs are, and its numbers are the greatest.
abbrev pub ProgramsAreAccepted : Type 0
ProgramsAreAccepted =
    (image : Parts) (program : Program) (costs : List ℕ) (walk : Walk) → IsImage image → IsCosts costs → IsProgram image program →
    IsAcceptedFor image (certificate image costs program walk) costs × IsGreatest image (certificate image costs program walk) costs

-- So its bound is the worst of the image.
abbrev pub ProgramBoundsAreWorst : Type 0
ProgramBoundsAreWorst =
    (image : Parts) (program : Program) (costs : List ℕ) (walk : Walk) → IsImage image → IsCosts costs → IsProgram image program →
    (certificate image costs program walk).bound ≤ most_cycles → IsWorst image costs (certificate image costs program walk).bound

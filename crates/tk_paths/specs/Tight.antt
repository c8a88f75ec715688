-- Tight certificates: docs/bounds.md, "Tight certificates". The conditions of acceptance say that each number reaches what is asked
-- of it; here each number that is there is one of the things that are asked of it.
use Rattle.std.specs.Prelude.{◌≡◌, ℕ, ◌+◌, ◌-◌, ◌≤◌, min, IsTrue, List, length, Some, None}
use Rattle.mb_isa.specs.declared.Instr.TheVariants as instr
use Rattle.mb_isa.specs.declared.Class.TheVariants as class
use Rattle.mb_isa.specs.Costs.{cost_of}
use Rattle.pt_image.specs.declared.Parts.{Parts}
use Rattle.pt_image.specs.Listed.{is_listed}
use Rattle.mb_isa.specs.Tick.{base_of}
use Rattle.tk_cert.specs.declared.cert.CertParts.{CertParts}
use Rattle.tk_paths.specs.declared.view.Side.{Side}
use Rattle.tk_paths.specs.declared.view.Side.TheVariants.{ToEnd}
use Rattle.tk_paths.specs.Words.{instr_at}
use Rattle.tk_paths.specs.Kinds.{line_at, is_cond, upper_at}
use Rattle.tk_paths.specs.Acceptance.{value, resumed, begins}
use Rattle.tk_paths.specs.Bounded.{IsAcceptedFor}
use Rattle.tk_paths.specs.Walks.{most_cycles, IsWorst}
use Rattle.tk_paths.specs.Passages.{Passage, Asked}
use Rattle.tk_paths.specs.Reached.{IsOpen, Has, Rests, After, Sum, Resumed, Tested}

module _ (image : Parts) (cert : CertParts) (costs : List ℕ) where
  -- a number of an open place is a charge and the number to which it leads
  pub data Edge (s : ℕ) (stack : List ℕ) (k place : ℕ) (side : Side) (n : ℕ) : Type 0 where
    across : (cost to m : ℕ) → Passage image costs place cost to → IsOpen image cert costs to s stack → Has image cert costs side k to m →
        n ≡ cost + m → Edge s stack k place side n
    entering : (j m : ℕ) → instr_at image place ≡ Some (instr.Abrt j) → Has image cert costs side k (place + 1) m →
        n ≡ cost_of costs class.Abrt + m → Edge s stack k place side n
    -- outside the innermost abort a level is at most the number of the other aborts
    leaving : (m : ℕ) → instr_at image place ≡ Some instr.Leave → Has image cert costs side (min k (length stack - 1)) (place + 1) m →
        n ≡ cost_of costs class.Leave + m → Edge s stack k place side n
    pausing : (m : ℕ) → instr_at image place ≡ Some instr.Eot → Rests image cert costs stack k side m → n ≡ cost_of costs class.Eot + m →
        Edge s stack k place side n
    forking : (lo count : ℕ) (y : Side) (g m : ℕ) → instr_at image place ≡ Some (instr.Fork lo count) → Sum image cert costs lo count y g →
        After image cert costs stack k place y side m →
        n ≡ cost_of costs class.Fork + (g + m) → Edge s stack k place side n
    ending : instr_at image place ≡ Some instr.End → side ≡ ToEnd → n ≡ cost_of costs class.End → Edge s stack k place side n

  -- behind the conditions of a fork's slot that waits: a sum of its children that are resumed, and what comes after the group
  abbrev pub Joined : ℕ → ℕ → ℕ → List ℕ → Side → ℕ → Type 0
  Joined at lo count stack side n =
      (y : Side) × (g m : ℕ) × Resumed image cert costs lo count (Some y) g × After image cert costs stack (length stack) at y side m
      × (n ≡ g + m)

  -- a number of a slot that is resumed is that of one listed pause or fork
  pub data Resumption (s : ℕ) (side : Side) (n : ℕ) : Type 0 where
    at_pause : (at : ℕ) (stack : List ℕ) → IsTrue (is_listed image.pauses at s stack) →
        Tested image cert costs 0 stack (λ x m. Has image cert costs x (length stack) (at + 1) m) side n → Resumption s side n
    -- a child of the fork is resumed, also where a strong abort leads away from it
    at_fork : (at : ℕ) (stack : List ℕ) (lo count : ℕ) → IsTrue (is_listed image.forks at s stack) →
        instr_at image at ≡ Some (instr.Fork lo count) →
        (end : Side) (sum : ℕ) → Resumed image cert costs lo count (Some end) sum →
        Tested image cert costs 0 stack (Joined at lo count stack) side n → Resumption s side n

  -- the bound is what the tick itself is charged and one of the numbers that it covers
  pub data Top : Type 0 where
    over : cert.bound ≡ base_of image costs → Top
    starts : (side : Side) (n : ℕ) → begins image cert costs side 0 ≡ Some n → cert.bound ≡ base_of image costs + n → Top
    resumes : (side : Side) (n : ℕ) → resumed image cert costs side 0 ≡ Some n → cert.bound ≡ base_of image costs + n → Top

  pub record IsTight : Type 0 where
    pub edge : (place s : ℕ) (stack : List ℕ) (k : ℕ) (side : Side) (n : ℕ) → IsOpen image cert costs place s stack → k ≤ length stack →
        Has image cert costs side k place n → Edge s stack k place side n
    pub asked : (place : ℕ) → IsTrue (is_cond (line_at cert.lines place)) → upper_at image cert.lines place ≡ None →
        Asked image costs place (value image cert costs place)
    pub resumption : (s : ℕ) (side : Side) (n : ℕ) → resumed image cert costs side s ≡ Some n → Resumption s side n
    pub top : Top

-- The bound of a certificate that is accepted and tight is the worst of the image.
abbrev pub TightIsWorst : Type 0
TightIsWorst =
    (image : Parts) (cert : CertParts) (costs : List ℕ) → IsAcceptedFor image cert costs → IsTight image cert costs →
    cert.bound ≤ most_cycles → IsWorst image costs cert.bound

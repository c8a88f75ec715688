-- What is known of an open place: its numbers, from those of the places to which its stretch leads, and which stretch that is.
use Rattle.std.proofs.Common.{◌≡◌, ◌≤◌, ◌+◌, ℕ, List, Option, Some, None}
use Rattle.mb_isa.specs.declared.Instr.{Instr}
use Rattle.mb_isa.specs.declared.Instr.TheVariants as instr
use Rattle.mb_isa.specs.declared.Class.TheVariants as class
use Rattle.mb_isa.specs.Costs.{cost_of}
use Rattle.pt_image.specs.declared.Parts.{Parts}
use Rattle.tk_cert.specs.declared.cert.CertParts.{CertParts}
use Rattle.tk_paths.specs.declared.word.Word.TheVariants.{Jump, Branch}
use Rattle.tk_paths.specs.Acceptance.{more}
use Rattle.tk_paths.specs.Reached.{IsOpen}
use Rattle.tk_paths.specs.Regions.{Region, from, to, links_in, counters_in, behind, unit_word, IsUnit, IsLaid, extra, through}
use Rattle.tk_paths.specs.Greatest.{num, resting, grouping, ended, branched, left, Are, IsStraight, IsGreatestWith}
use Rattle.tk_paths.specs.Greatest as greatest
use Rattle.tk_paths.specs.Choices.{stretch}

module _ (image : Parts) (cert : CertParts) (costs : List ℕ) (find : ℕ → Option Region) where
  pub data IsStep (place s : ℕ) (stack : List ℕ) : Type 0 where
    passing : (r : Region) → IsLaid image r → from r ≡ place → 1 ≤ through image costs r → links_in r ≤ 16 → counters_in r ≤ 136 →
        IsOpen image cert costs (to r) s stack → Are image cert costs place stack (λ side k. more (through image costs r) (num image cert costs side k (to r))) →
        stretch image find (unit_word image place) place ≡ Some r → IsStep place s stack
    jumping : (goal : ℕ) → IsUnit image place (Jump (Some goal)) → IsOpen image cert costs goal s stack →
        Are image cert costs place stack (λ side k. more (extra image costs place + cost_of costs class.Jump) (num image cert costs side k goal)) → IsStep place s stack
    branching : (goal : ℕ) → IsUnit image place (Branch (Some goal)) → IsOpen image cert costs goal s stack →
        IsOpen image cert costs (behind image place) s stack → Are image cert costs place stack (branched image cert costs place goal) → IsStep place s stack

  abbrev pub IsStepWith : Option Instr → ℕ → ℕ → List ℕ → Type 0
  IsStepWith (Some (instr.Abrt j)) place s stack = Are image cert costs place stack (λ side k. more (cost_of costs class.Abrt) (num image cert costs side k (place + 1)))
  IsStepWith (Some instr.Leave) place s stack = Are image cert costs place stack (left image cert costs place stack)
  IsStepWith (Some instr.Eot) place s stack = Are image cert costs place stack (λ side k. more (cost_of costs class.Eot) (resting image cert costs stack k side))
  IsStepWith (Some (instr.Fork lo count)) place s stack =
      Are image cert costs place stack (λ side k. more (cost_of costs class.Fork) (grouping image cert costs place lo count stack k side))
  IsStepWith (Some instr.End) place s stack = Are image cert costs place stack (λ side k. ended image cert costs side)
  IsStepWith other place s stack = IsStep place s stack

  straight-of : (place s : ℕ) (stack : List ℕ) → IsStep place s stack → IsStraight image cert costs place s stack
  straight-of place s stack (passing r laid e one few less there are told) = greatest.passing r laid e one few less there are
  straight-of place s stack (jumping goal u there are) = greatest.jumping goal u there are
  straight-of place s stack (branching goal u there next are) = greatest.branching goal u there next are

  pub great-of : (o : Option Instr) (place s : ℕ) (stack : List ℕ) → IsStepWith o place s stack → IsGreatestWith image cert costs o place s stack
  great-of (Some (instr.Abrt j)) place s stack h = h
  great-of (Some instr.Leave) place s stack h = h
  great-of (Some instr.Eot) place s stack h = h
  great-of (Some (instr.Fork lo count)) place s stack h = h
  great-of (Some instr.End) place s stack h = h
  great-of (Some other) place s stack h = straight-of place s stack h
  great-of None place s stack h = straight-of place s stack h

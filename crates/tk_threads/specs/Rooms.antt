-- Where the sums of codes, of sections and of what slots start with are small.
use Rattle.std.specs.Prelude.{ℕ, ◌+◌, ◌<◌, ◌≤◌, ◌^◌, List, [], ◌∷◌, Option}
use Rattle.mb_isa.specs.declared.Class.TheVariants as class
use Rattle.pt_image.specs.declared.Parts.{Parts}
use Rattle.tk_paths.specs.declared.view.Side.{Side}
use Rattle.tk_paths.specs.Sums.{resumed_most}
use Rattle.tk_paths.specs.Walks.{most_cycles}
use Rattle.tk_paths.specs.Regions.{units_cost, through}
use Rattle.tk_paths.specs.Codes.{Code, Passed, Sequence, Either, Turns, Forever, Resting, Forking, Guarded, exit}
use Rattle.tk_paths.specs.Numbers.{Numbers, Handler, cost, nothing, just, branched, jumping, left, with_abort, entered}
use Rattle.tk_paths.specs.Programs.{Section, OfThread, OfRoutine, OfCondition, Unused, ended, pair_from, starts_from}
use Rattle.tk_paths.specs.Faults.{AllSmall, HasRoom}
use Rattle.tk_numbers.specs.Charges.{testing_cost}
use Rattle.tk_numbers.specs.Routines.{IsShallow}

module _ (image : Parts) (costs : List ℕ) where
  -- where slots start with these numbers, and these are behind a code
  module _ (starts : Side → ℕ → Option ℕ) where
    -- what is told up to where it begins
    abbrev pub IsSmallEntry : List Handler → Code → Numbers → Type 0
    IsSmallEntry aborts (Passed r) V = HasRoom (through image costs r) V
    IsSmallEntry aborts (Sequence x y) V = IsSmallEntry aborts y V × IsSmallEntry aborts x (entered image costs starts aborts y V)
    IsSmallEntry aborts (Either p n at x y) V =
        AllSmall (jumping image costs (exit x) V) × IsSmallEntry aborts x (jumping image costs (exit x) V) × IsSmallEntry aborts y V
        × HasRoom (testing_cost image costs p n at)
        (branched image costs (entered image costs starts aborts x (jumping image costs (exit x) V)) (entered image costs starts aborts y V))
    IsSmallEntry aborts (Turns p n at body q) V =
        IsSmallEntry aborts body nothing
        × HasRoom (testing_cost image costs p n at) (branched image costs (entered image costs starts aborts body nothing) V)
    IsSmallEntry aborts (Forever body q) V = IsSmallEntry aborts body nothing
    IsSmallEntry aborts (Resting p) V = AllSmall (entered image costs starts aborts (Resting p) V)
    IsSmallEntry aborts (Forking p lo n) V =
        (resumed_most starts lo n ≤ most_cycles) × AllSmall (entered image costs starts aborts (Forking p lo n) V)
    IsSmallEntry aborts (Guarded p j body) V =
        AllSmall (left image costs aborts V) × IsSmallEntry (with_abort image costs aborts j V) body (left image costs aborts V)
        × AllSmall (entered image costs starts aborts (Guarded p j body) V)

    -- and at all of its places
    abbrev pub IsSmallCode : List Handler → Code → Numbers → Type 0
    IsSmallCode aborts (Passed r) V = HasRoom (through image costs r) V
    IsSmallCode aborts (Sequence x y) V = IsSmallCode aborts y V × IsSmallCode aborts x (entered image costs starts aborts y V)
    IsSmallCode aborts (Either p n at x y) V =
        AllSmall (jumping image costs (exit x) V) × IsSmallCode aborts x (jumping image costs (exit x) V) × IsSmallCode aborts y V
        × HasRoom (testing_cost image costs p n at)
        (branched image costs (entered image costs starts aborts x (jumping image costs (exit x) V)) (entered image costs starts aborts y V))
    IsSmallCode aborts (Turns p n at body q) V =
        IsSmallEntry aborts (Turns p n at body q) V
        × AllSmall (jumping image costs (exit body) (entered image costs starts aborts (Turns p n at body q) V))
        × IsSmallCode aborts body (jumping image costs (exit body) (entered image costs starts aborts (Turns p n at body q) V))
    IsSmallCode aborts (Forever body q) V =
        IsSmallEntry aborts body nothing × AllSmall (jumping image costs (exit body) (entered image costs starts aborts body nothing))
        × IsSmallCode aborts body (jumping image costs (exit body) (entered image costs starts aborts body nothing))
    IsSmallCode aborts (Resting p) V = IsSmallEntry aborts (Resting p) V
    IsSmallCode aborts (Forking p lo n) V = IsSmallEntry aborts (Forking p lo n) V
    IsSmallCode aborts (Guarded p j body) V =
        AllSmall (left image costs aborts V) × IsSmallCode (with_abort image costs aborts j V) body (left image costs aborts V)
        × AllSmall (entered image costs starts aborts (Guarded p j body) V)

  -- what slots start with, from slot s on
  unfoldable pub AreSmallStarts : ℕ → List Code → Type 0
  AreSmallStarts s [] = Unit {0}
  AreSmallStarts s (code ∷ codes) =
      AreSmallStarts (s + 1) codes
      × IsSmallEntry (pair_from (s + 1) (starts_from image costs (s + 1) codes)) [] code (ended image costs)

-- the lines of a section
abbrev pub IsSmallSection : Parts → List ℕ → (Side → ℕ → Option ℕ) → Section → Type 0
IsSmallSection image costs starts (OfThread s code) = IsSmallCode image costs starts [] code (ended image costs)
IsSmallSection image costs starts (OfRoutine r) =
    HasRoom (through image costs r) (just (cost image costs class.Ret)) × IsShallow (OfRoutine r)
IsSmallSection image costs starts (OfCondition p n q) = HasRoom (units_cost image costs p n) (just (cost image costs class.Cend))
IsSmallSection image costs starts (Unused n) = Unit {0}

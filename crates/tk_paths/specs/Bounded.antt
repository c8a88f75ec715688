-- What a bound is worth: docs/bounds.md, "What a yes means".
use Rattle.std.specs.Prelude.{ℕ, ℤ, ◌≤◌, Bool, List, [], ◌∷◌, length, slice_index_or}
use Rattle.std.specs.List.{AllByRecursion}
use Rattle.mb_isa.specs.Costs.{IsCosts}
use Rattle.mb_pfu.specs.Tree.{Leaf, Running}
use Rattle.mb_pfu.specs.Unit.{State}
use Rattle.pt_image.specs.declared.Parts.{Parts}
use Rattle.pt_image.specs.Ranges.{IsImage}
use Rattle.mb_isa.specs.Cells.{Cells, machine}
use Rattle.mb_isa.specs.Free.{free, IsConfiguration}
use Rattle.mb_isa.specs.Tick.{Outcome, Ends, Trapped, Open, tick, IsSafeWithin}
use Rattle.tk_cert.specs.declared.cert.CertParts.{CertParts}
use Rattle.tk_cert.specs.Shapes.{IsCert}
use Rattle.tk_cert.specs.Demands.{AllHold}
use Rattle.tk_paths.specs.Acceptance.{asks}

-- a free tick is charged at most the bound, whether it ends or runs out of choices, and doesn't trap
abbrev pub IsFreelyWithin : ℕ → Outcome (List Bool) → Type 0
IsFreelyWithin bound (Ends cycles unit after) = cycles ≤ bound
IsFreelyWithin bound (Trapped kind at charged) = ⊥
IsFreelyWithin bound (Open charged) = charged ≤ bound

-- No free tick traps or is charged more than the bound, finished or not, whatever its configuration and choices.
abbrev pub BoundsFreeTicks : Parts → List ℕ → ℕ → Type 0
BoundsFreeTicks image costs bound = (most : ℕ) (u : State) (choices : List Bool) → bound ≤ most → IsConfiguration image u → IsFreelyWithin bound (tick free image costs most u choices)

-- the unit of a machine that is loaded
abbrev pub loaded : Parts → State
loaded image = record { slots = length image.slots; tree = Leaf [] (Running (slice_index_or image.slots 0 0)); links = []; counters = [] }

-- a tick, and those after it where it ends
abbrev pub and_after : (State → Cells → List (Outcome Cells)) → Outcome Cells → List (Outcome Cells)
and_after more (Ends cycles unit after) = Ends cycles unit after ∷ more unit after
and_after more other = other ∷ []

-- the ticks of a run, each with a limit of its own and its inputs; a trap ends them
abbrev pub ticks : Parts → List ℕ → List (ℕ × List ℤ) → State → Cells → List (Outcome Cells)
ticks image costs [] u d = []
ticks image costs (row ∷ rows) u d = and_after (ticks image costs rows) (tick (machine image row.1) image costs row.0 u d)

-- Each tick of each run ends, or a bad address stops it, within the bound, where each tick may be charged as much.
abbrev pub BoundsRuns : Parts → List ℕ → ℕ → Type 0
BoundsRuns image costs bound =
    (rows : List (ℕ × List ℤ)) (d : Cells) → AllByRecursion (λ (row : ℕ × List ℤ). bound ≤ row.0) rows → AllByRecursion (IsSafeWithin bound) (ticks image costs rows (loaded image) d)

-- of which images, certificates and cost tables all demands hold
pub record IsAcceptedFor (image : Parts) (cert : CertParts) (costs : List ℕ) : Type 0 where
  pub image_is : IsImage image
  pub cert_is : IsCert cert
  pub priced : IsCosts costs
  pub hold : AllHold (asks image cert costs)

-- where all demands hold, the bound bounds every free tick, whoever made image, certificate and costs
abbrev pub FreeTicksAreBounded : Type 0
FreeTicksAreBounded = (image : Parts) (cert : CertParts) (costs : List ℕ) → IsAcceptedFor image cert costs → BoundsFreeTicks image costs cert.bound

-- and every tick of every run
abbrev pub RunsAreBounded : Type 0
RunsAreBounded = (image : Parts) (cert : CertParts) (costs : List ℕ) → IsAcceptedFor image cert costs → BoundsRuns image costs cert.bound

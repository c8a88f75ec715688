-- The laws that tie the machine's ticks to free ticks, and to what pays for them.
use Rattle.std.specs.Prelude.{ℕ, ℤ, ◌+◌, ◌≤◌, Bool, IsTrue, List, []}
use Rattle.mb_isa.specs.Costs.{IsCosts}
use Rattle.mb_pfu.specs.Unit.{State}
use Rattle.pt_image.specs.declared.Parts.{Parts}
use Rattle.mb_isa.specs.Control.{Control, tests_on}
use Rattle.mb_isa.specs.Tick.{tick, base_of, begun, IsSafeWithin, Pays}
use Rattle.mb_isa.specs.Cells.{Cells, machine}
use Rattle.mb_isa.specs.Free.{free}
use Rattle.mb_isa.specs.Follows.{IsFollowed}

-- each tick of the machine is followed by a free tick
abbrev pub TicksAreFollowed : Type 0
TicksAreFollowed = (image : Parts) (costs : List ℕ) (most : ℕ) (u : State) (values : List ℤ) (d : Cells) → IsFollowed free image costs most u [] (tick (machine image values) image costs most u d)

-- the cycles that a tick may take from a unit, where `worth` pays for what comes after its beginning
abbrev pub paid : Parts → List ℕ → (Control → ℕ) → State → ℕ
paid image costs worth u = base_of image costs + worth (tests_on (begun u))

-- each tick of the machine that begins well is safe within what is paid
abbrev pub TicksArePaid : Type 0
TicksArePaid =
    (image : Parts) (costs : List ℕ) (most : ℕ) (u : State) (values : List ℤ) (d : Cells) (is_good : Control → Bool) (worth : Control → ℕ)
    → IsCosts costs → Pays (machine image values) image costs (λ c. IsTrue (is_good c)) worth → IsTrue (is_good (tests_on (begun u)))
    → paid image costs worth u ≤ most → IsSafeWithin (paid image costs worth u) (tick (machine image values) image costs most u d)

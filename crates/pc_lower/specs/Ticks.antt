-- What it says that whole ticks do what a flow means.
use Rattle.std.specs.Prelude.{◌≡◌, ℕ, ◌+◌, ◌*◌, ◌≤◌, Bool, List, []}
use Rattle.mb_pfu.specs.Tree.{Tree, Leaf, Running}
use Rattle.pt_image.specs.declared.Parts.{Parts}
use Rattle.mb_isa.specs.Step.{Rules}
use Rattle.mb_isa.specs.Tick.{Ends as TickEnds, base_of, tick}
use Rattle.pc_lower.specs.Flow.{State, Node, Rest, End, state_of, flow_at, flows_of, again}
use Rattle.pc_lower.specs.Residuals.{body_at, Of}
use Rattle.pc_lower.specs.Slots.{Fits}
use Rattle.pc_lower.specs.Places.{slot_start}
use Rattle.pc_lower.specs.Law.{unnested, unit_at}
use Rattle.pc_lower.specs.StepCounts.{Sizes, tick_in}
use Rattle.pc_lower.specs.Turns.{StandsAs}
use Rattle.pc_lower.specs.Tests.{tests_in}

module _ (parent : ℕ → ℕ) (image : Parts) (costs : List ℕ) {Data : Type 0} (rules : Rules Data) (Represents : Data → State → Type 0) where
  -- a tick from a tree and data comes to this end, within so many steps beside what the tick itself is charged
  pub record Ticks (from : Tree) (d : Data) (o : End) (u : ℕ) : Type 0 where
    pub tree : Tree
    pub stands : StandsAs image o tree
    pub fits : Fits parent 0 tree
    pub after : Data
    pub charge : ℕ
    pub within : charge ≤ 255 * u
    pub represents : Represents after (state_of o)
    pub runs : (most : ℕ) → base_of image costs + charge ≤ most →
        tick rules image costs most (unit_at image unnested from) d
        ≡ TickEnds (base_of image costs + charge) (unit_at image unnested tree) after

  module _ (bodies : List Node) (weak : ℕ → Bool) (main : ℕ) (sizes : Sizes) where
    -- the first tick starts `main`
    abbrev pub FirstTick : Type 0
    FirstTick = (d : Data) (state : State) → Represents (rules.sampled d) state →
        Ticks (Leaf [] (Running (slot_start image 0))) d (flow_at (flows_of bodies) main state) (sizes.threads main)

    -- A later one goes on with what is left of it. The state that the conditions leave is as good as that of the last tick's
    -- end; then the inputs are sampled.
    pub record LaterTick (sample : State → State) (fires : ℕ → Bool) (tests : ℕ → ℕ) (Calm : List ℕ → State → Type 0)
        (r : Rest) (of : Of bodies (body_at bodies main) r) (from : Tree) (d : Data) : Type 0 where
      pub state : State
      pub calm : Calm [] state
      pub ticks : Ticks from d (again (flows_of bodies) weak fires r (sample state))
          (tests_in tests r + tick_in sizes bodies (body_at bodies main) r of)

-- What it says that the turns of a tick do what a flow means.
use Rattle.std.specs.Prelude.{◌≡◌, ℕ, ◌+◌, ◌*◌, ◌≤◌, Bool, List, []}
use Rattle.mb_pfu.specs.Tree.{Tree, Leaf, Running, Finished}
use Rattle.pt_image.specs.declared.Parts.{Parts}
use Rattle.mb_isa.specs.Step.{Rules}
use Rattle.mb_isa.specs.Tick.{Ends as TickEnds, run as tick_run}
use Rattle.pc_lower.specs.Flow.{State, Node, Rest, End, Through, Halted, state_of, flow_at, flows_of, again}
use Rattle.pc_lower.specs.Residuals.{body_at, Of}
use Rattle.pc_lower.specs.Slots.{Fits}
use Rattle.pc_lower.specs.Places.{slot_start}
use Rattle.pc_lower.specs.Standing.{Stands, woken}
use Rattle.pc_lower.specs.Law.{unnested, unit_at, turning}
use Rattle.pc_lower.specs.StepCounts.{Sizes, tick_in}

-- a tree is where a program stands that has come to this end
abbrev pub StandsAs : Parts → End → Tree → Type 0
StandsAs image (Through state) t = t ≡ Leaf [] Finished
StandsAs image (Halted r state) t = Stands image [] r t

module _ (parent : ℕ → ℕ) (image : Parts) (costs : List ℕ) {Data : Type 0} (rules : Rules Data) (Represents : Data → State → Type 0) where
  -- The turns of a tick, from a tree and data, come to this end within so many steps, wherever so much may be charged.
  pub record Reaches (from : Tree) (d : Data) (o : End) (u : ℕ) : Type 0 where
    pub tree : Tree
    pub stands : StandsAs image o tree
    pub fits : Fits parent 0 tree
    pub after : Data
    pub charge : ℕ
    pub within : charge ≤ 255 * u
    pub represents : Represents after (state_of o)
    pub runs : (most charged fuel : ℕ) → charged + charge ≤ most → most + 1 ≤ fuel + charged →
        tick_run rules image costs fuel most charged (turning image from) d
        ≡ TickEnds (charged + charge) (unit_at image unnested tree) after

  module _ (bodies : List Node) (weak : ℕ → Bool) (main : ℕ) (sizes : Sizes) where
    -- the turns of each tick do what `main` means
    pub record TurnsAreRight : Type 0 where
      pub starts : (d : Data) (state : State) → Represents d state →
          Reaches (Leaf [] (Running (slot_start image 0))) d (flow_at (flows_of bodies) main state) (sizes.threads main)
      pub resumes : (fires : ℕ → Bool) (r : Rest) (of : Of bodies (body_at bodies main) r) (d : Data) (state : State) → Represents d state →
          Reaches (woken image fires [] r) d (again (flows_of bodies) weak fires r state) (tick_in sizes bodies (body_at bodies main) r of)

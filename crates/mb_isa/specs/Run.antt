-- The loaded machine, its ticks as they are seen from outside, and its runs: docs/machine.md, "State" and "Tick".
use Rattle.std.specs.Prelude.{ℕ, ℤ, pos, List, [], ◌∷◌, length, replicate, slice_index_or}
use Rattle.mb_pfu.specs.declared.TrapKind.{TrapKind}
use Rattle.mb_pfu.specs.declared.TrapKind.TheVariants.{Late}
use Rattle.mb_pfu.specs.Tree.{Leaf, Running}
use Rattle.mb_pfu.specs.Unit.{State}
use Rattle.pt_image.specs.declared.Parts.{Parts}
use Rattle.mb_isa.specs.Tick as steps
use Rattle.mb_isa.specs.Cells.{Cells, machine, outputs_of}

-- what a machine has come to between two ticks
pub record MachineState : Type 0 where
  pub unit : State
  pub cells : Cells

-- slot 0 is ready at its starting place, and the others are free
abbrev pub loaded_unit : Parts → State
loaded_unit image = record { slots = length image.slots; tree = Leaf [] (Running (slice_index_or image.slots 0 0)); links = []; counters = [] }

-- all registers are 0, and the memory is the image's
abbrev pub loaded_cells : Parts → Cells
loaded_cells image = record { registers = replicate 32 (pos 0); memory = image.memory }

abbrev pub loaded : Parts → MachineState
loaded image = record { unit = loaded_unit image; cells = loaded_cells image }

-- a tick ends with its cycles, its outputs and what the machine has come to; or it traps at a place, with what was charged
pub data Ticked : Type 0 where
  Ends : (cycles : ℕ) → (outputs : List ℤ) → (state : MachineState) → Ticked
  Trapped : (kind : TrapKind) → (at : ℕ) → (charged : ℕ) → Ticked

-- the machine's data always say how to go on, so no tick of it is open
abbrev pub seen : Parts → steps.Outcome Cells → Ticked
seen image (steps.Ends cycles unit cells) = Ends cycles (outputs_of image cells) (record { unit = unit; cells = cells })
seen image (steps.Trapped kind at charged) = Trapped kind at charged
seen image (steps.Open charged) = Trapped Late 0 charged

-- the tick from a state, on a value for each input
abbrev pub tick_from : Parts → List ℕ → MachineState → List ℤ → ℕ → Ticked
tick_from image costs s values most = seen image (steps.tick (machine image values) image costs most s.unit s.cells)

abbrev pub after_tick : (MachineState → List Ticked) → Ticked → List Ticked
after_tick go (Ends cycles outputs state) = Ends cycles outputs state ∷ go state
after_tick go (Trapped kind at charged) = Trapped kind at charged ∷ []

-- the ticks of a list of input rows from a state; a trap ends them
abbrev pub ticks_from : Parts → List ℕ → ℕ → MachineState → List (List ℤ) → List Ticked
ticks_from image costs most s [] = []
ticks_from image costs most s (row ∷ rows) = after_tick (λ state. ticks_from image costs most state rows) (tick_from image costs s row most)

-- the run of an image on a list of input rows
abbrev pub run_of : Parts → List ℕ → ℕ → List (List ℤ) → List Ticked
run_of image costs most rows = ticks_from image costs most (loaded image) rows

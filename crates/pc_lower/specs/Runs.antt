-- What it says that a run of an image is the run of its flow.
use Rattle.std.specs.Prelude.{◌≡◌, ℕ, ℤ, ◌≤◌, FitsSigned, List, [], ◌∷◌}
use Rattle.std.specs.Int.{w32}
use Rattle.std.specs.List.{AllByRecursion}
use Rattle.pt_image.specs.declared.Parts.{Parts}
use Rattle.mb_isa.specs.Cells.{Cells, machine, outputs_of}
use Rattle.mb_isa.specs.Run.{Ticked, Ends, Trapped, loaded_cells}
use Rattle.pc_meaning.specs.Runs.{words_at}
use Rattle.pc_lower.specs.Flow.{State, Temps, End, Through, Halted, Flow, Position, Fresh, Point, point_of, goes, sampled, moved}
use Rattle.pc_lower.specs.Words.{Writing, DataLaws}
use Rattle.pc_lower.specs.Image.{StandsAt}

-- the same end, whatever the temporaries hold
abbrev pub SameEnd : End → End → Type 0
SameEnd (Through w) (Through v) = w.store ≡ v.store
SameEnd (Through w) (Halted r v) = ⊥
SameEnd (Halted q w) (Through v) = ⊥
SameEnd (Halted q w) (Halted r v) = (q ≡ r) × (w.store ≡ v.store)

-- From each position that a run comes to, a tick does the same whatever the temporaries hold.
pub record IsSteady (f : Flow) (Kept : Position → Type 0) : Type 0 where
  pub fresh : Kept Fresh
  pub same : (p : Position) → Kept p → (b c w v : State) → b.store ≡ c.store → w.store ≡ v.store → SameEnd (goes f p b w) (goes f p c v)
  pub keeps : (p : Position) → Kept p → (b w : State) → Kept (point_of (goes f p b w)).position

-- the words of a row have 32 bits
abbrev pub IsRow : List ℤ → Type 0
IsRow row = AllByRecursion (FitsSigned w32) row

-- What registers and memory owe in a run: on each row the laws of the data; at the beginning they stand for the declared words;
-- and the outputs' words are in their places.
pub record RunLaws (image : Parts) (f : Flow) (writing : Writing) (Represents : Cells → State → Type 0) : Type 0 where
  pub data_laws : (row : List ℤ) → IsRow row → DataLaws (machine image row) Represents (sampled f row) writing
  pub temps : Temps
  pub begins : Represents (loaded_cells image) (record { store = f.declared; temps = temps })
  pub shows : (d : Cells) (w : State) → Represents d w → outputs_of image d ≡ words_at f.outputs w.store

-- the point at which a run begins
abbrev pub beginning : Flow → Temps → Point
beginning f temps = record { position = Fresh; state = record { store = f.declared; temps = temps } }

module _ (parent : ℕ → ℕ) (image : Parts) (f : Flow) where
  -- The ticks of a machine are those of the flow from a point on these rows: none traps, each shows the flow's outputs, is
  -- charged at most 1,000,000,000,000, and leaves the slots where the flow stands.
  abbrev pub AreTicksOf : Point → List (List ℤ) → List Ticked → Type 0
  AreTicksOf p [] ticks = ticks ≡ []
  AreTicksOf p (row ∷ rows) [] = ⊥
  AreTicksOf p (row ∷ rows) (Trapped kind at charged ∷ more) = ⊥
  AreTicksOf p (row ∷ rows) (Ends cycles outputs s ∷ more) =
      (outputs ≡ words_at f.outputs (moved f p row).state.store) × (cycles ≤ 1000000000000)
      × StandsAt parent image f (moved f p row).position s.unit.tree × AreTicksOf (moved f p row) rows more

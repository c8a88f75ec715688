-- What a call of `pretc go` comes to: docs/commands.md, "go".
use Rattle.std.specs.Prelude.{◌≡◌, ◌≢◌, ◌≤◌, ℕ, ℤ, List, [], ◌∷◌, ◌++◌, length, map, Option}
use Rattle.pt_outside.specs.Counts.{Rose}
use Rattle.pt_outside.specs.Files.{Files, Stores, Tears}
use Rattle.pt_outside.specs.Told.{ShelfTold}
use Rattle.pt_image.specs.declared.image.Parts.{Parts}
use Rattle.pt_image.specs.Text.{text_of}
use Rattle.mb_isa.specs.Costs.{unit}
use Rattle.mb_core.specs.Machine.{Whole, fresh}
use Rattle.mb_isa.specs.Run.{run_of}
use Rattle.pc_grammar.specs.Trees.{Program}
use Rattle.pc_grammar.specs.Typing.{Typing}
use Rattle.pc_rules.specs.Verdicts.{BreaksFirst}
use Rattle.pc_meaning.specs.Programs.{program_of}
use Rattle.pc_meaning.specs.Runs.{meaning_of}
use Rattle.pc_compile.specs.Compiled.{Compiles}
use Rattle.pretc_run.specs.declared.endings.Ending.{Ending}
use Rattle.pretc_run.specs.declared.endings.Ending.TheVariants.{WantOfMemory, StoreFault}
use Rattle.pretc_run.specs.Endings.{number_of}
use Rattle.pretc_run.specs.Told.{told}
use Rattle.pretc_run.specs.Running.{run_lines, RunEnds, RunBreaks}
use Rattle.pretc_top.specs.Outside.{Outside}
use Rattle.pretc_top.specs.Loading.{IsAsBefore, ProgramFails, IsTaken}

-- the cycles that a tick may take
abbrev pub cycles_most : ℕ
cycles_most = 1000000000000

-- the program was loaded and keeps every rule, and was compiled to an image, which does what it means
pub record IsBuilt (program : List ℕ) (image : Parts) (files : Option Files) : Type 0 where
  pub tree : Program
  pub typing : Typing
  pub taken : IsTaken program files tree typing
  pub compiled : Compiles typing image

-- a text was stored, and nothing else
pub record IsStored (name text : List ℕ) (old new : ShelfTold) : Type 0 where
  pub stored : Stores old.files new.files name text
  pub load_faults : new.load_faults ≡ old.load_faults
  pub store_faults : new.store_faults ≡ old.store_faults

-- a store failed, which alone was counted
pub record IsFailedStore (name text : List ℕ) (old new : ShelfTold) : Type 0 where
  pub rose : Rose old.store_faults new.store_faults
  pub later : old.store_faults ≤ new.store_faults
  pub torn : Tears old.files new.files name text
  pub load_faults : new.load_faults ≡ old.load_faults

-- a text wasn't stored
pub data StoreFails (name text : List ℕ) (old new : ShelfTold) : Ending → Type 0 where
  store_fault : IsFailedStore name text old new → StoreFails name text old new StoreFault
  store_memory : IsAsBefore old new → StoreFails name text old new WantOfMemory

-- the program was compiled, and the one text of its image stored
pub record IsMade (program name : List ℕ) (image : Parts) (old new : ShelfTold) : Type 0 where
  pub built : IsBuilt program image old.files
  pub stored : IsStored name (text_of image) old new

-- the image is stored, and the machine loaded with it, with a place for each input and output
pub record IsReady (program name : List ℕ) (old new : ShelfTold) (machine : Whole) (inputs outputs : ℕ) : Type 0 where
  pub image : Parts
  pub made : IsMade program name image old new
  pub machine_is : machine ≡ fresh image unit
  pub inputs_are : inputs ≡ length image.inputs
  pub outputs_are : outputs ≡ length image.outputs

-- no program was taken, or no memory was found for its image, or that wasn't stored, or no memory was found for the machine
pub data IsUnready (program name : List ℕ) (old new : ShelfTold) : Ending → Type 0 where
  unbuilt : (e : Ending) → ProgramFails BreaksFirst program old new e → IsUnready program name old new e
  unstored : (e : Ending) (image : Parts) → IsBuilt program image old.files → StoreFails name (text_of image) old new e → IsUnready program name old new e
  unloaded : (image : Parts) → IsMade program name image old new → IsUnready program name old new WantOfMemory

-- the lines of the ticks of an image on these rows, at unit costs
abbrev pub go_lines : Parts → List (List ℤ) → List (List ℕ)
go_lines image rows = run_lines image unit cycles_most rows

-- the outputs of the ticks on these rows are those of the program's meaning
abbrev pub ShowsMeaning : Typing → Parts → List (List ℤ) → Type 0
ShowsMeaning typing image rows = map (λ (tick : List ℤ × ℕ). tick.0) (told (run_of image unit cycles_most rows)) ≡ meaning_of (program_of typing) rows

-- The image of the program is stored, and ran on the trace to the end of its run, with these lines; no tick trapped.
pub record GoRan (program name : List ℕ) (old new : Outside) (due : List (List ℕ)) (e : Ending) : Type 0 where
  pub image : Parts
  pub made : IsMade program name image old.shelf new.shelf
  pub rows : List (List ℤ)
  pub last : List ℕ
  pub ends : RunEnds image unit cycles_most rows old.source new.source last e
  pub due_is : due ≡ go_lines image rows ++ last ∷ []
  pub shown : ShowsMeaning made.built.typing image rows
  pub untrapped : number_of e ≢ 10

-- the image of the program is stored, and the report of its run broke off
pub record GoBroke (program name : List ℕ) (old new : Outside) : Type 0 where
  pub image : Parts
  pub made : IsMade program name image old.shelf new.shelf
  pub breaks : RunBreaks image unit cycles_most old.source new.source old.sink new.sink

-- How a file comes from the shelf, and a program from its file.
use Rattle.std.specs.Prelude.{◌≡◌, ◌≤◌, ℕ, List, Option}
use Rattle.pt_base.specs.declared.Rule.{Rule}
use Rattle.pt_base.specs.declared.Span.{Span}
use Rattle.pt_outside.specs.Counts.{Rose}
use Rattle.pt_outside.specs.Files.{Files, KeepsFiles, Holds, Lacks}
use Rattle.pt_outside.specs.Told.{ShelfTold}
use Rattle.pc_grammar.specs.Trees.{Program}
use Rattle.pc_rules.specs.Sources.{IsSource}
use Rattle.pc_grammar.specs.Typing.{Typing}
use Rattle.pc_rules.specs.Verdicts.{IsAccepted}
use Rattle.pretc_run.specs.declared.endings.Ending.{Ending}
use Rattle.pretc_run.specs.declared.endings.Ending.TheVariants.{Refused, ReadFault, WantOfMemory, NoFile}

-- one byte more than a source may have
abbrev pub source_most : ℕ
source_most = 1048577

-- a shelf whose files and counts are as before
pub record IsAsBefore (old new : ShelfTold) : Type 0 where
  pub files : KeepsFiles old.files new.files
  pub load_faults : new.load_faults ≡ old.load_faults
  pub store_faults : new.store_faults ≡ old.store_faults

-- a load failed, which alone was counted
pub record IsFailedLoad (old new : ShelfTold) : Type 0 where
  pub rose : Rose old.load_faults new.load_faults
  pub later : old.load_faults ≤ new.load_faults
  pub files : KeepsFiles old.files new.files
  pub store_faults : new.store_faults ≡ old.store_faults

-- a file wasn't loaded
pub data LoadFails (name : List ℕ) (old new : ShelfTold) : Ending → Type 0 where
  load_fault : IsFailedLoad old new → LoadFails name old new ReadFault
  no_file : Lacks old.files name → IsAsBefore old new → LoadFails name old new NoFile
  load_memory : IsAsBefore old new → LoadFails name old new WantOfMemory

-- no program was taken, where these rules are looked at
pub data ProgramFails (B : List ℕ → Rule → Span → Type 0) (program : List ℕ) (old new : ShelfTold) : Ending → Type 0 where
  program_missing : (e : Ending) → LoadFails program old new e → ProgramFails B program old new e
  program_refused : (text : List ℕ) (rule : Rule) (span : Span) → Holds old.files program source_most text → B text rule span → IsAsBefore old new →
      ProgramFails B program old new (Refused rule span)
  program_memory : IsAsBefore old new → ProgramFails B program old new WantOfMemory

-- the program was loaded, and its tokens spell this tree
pub record IsLoaded (program : List ℕ) (files : Option Files) (tree : Program) : Type 0 where
  pub text : List ℕ
  pub held : Holds files program source_most text
  pub source : IsSource text tree

-- the program was loaded and keeps every rule; this is its tree, and the same with numbers for names
pub record IsTaken (program : List ℕ) (files : Option Files) (tree : Program) (typing : Typing) : Type 0 where
  pub text : List ℕ
  pub held : Holds files program source_most text
  pub accepted : IsAccepted text tree typing

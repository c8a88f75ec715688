-- What a call of `pretc run` comes to: docs/commands.md, "run".
use Rattle.std.specs.Prelude.{◌≡◌, ◌≢◌, ℕ, ℤ, List, [], ◌∷◌, ◌++◌, length, map, Option}
use Rattle.pt_base.specs.declared.Rule.{Rule}
use Rattle.pt_base.specs.declared.Span.{Span}
use Rattle.pt_outside.specs.Files.{Files, Holds}
use Rattle.pt_outside.specs.Told.{ShelfTold}
use Rattle.pt_image.specs.declared.image.Parts.{Parts}
use Rattle.pt_image.specs.Ranges.{IsImage}
use Rattle.pt_image.specs.Text as image_file
use Rattle.pt_trace.specs.Report.{bound_line}
use Rattle.mb_isa.specs.Run.{run_of}
use Rattle.mb_core.specs.Machine.{Whole, fresh}
use Rattle.pc_grammar.specs.Trees.{Program}
use Rattle.pc_grammar.specs.Typing.{Typing}
use Rattle.pc_rules.specs.Verdicts.{IsAccepted, BreaksFirst}
use Rattle.pc_meaning.specs.Programs.{program_of}
use Rattle.pc_meaning.specs.Runs.{meaning_of}
use Rattle.tk_cert.specs.declared.CertParts.{CertParts}
use Rattle.tk_cert.specs.Text as cert_file
use Rattle.pretc_run.specs.declared.endings.Ending.{Ending}
use Rattle.pretc_run.specs.declared.endings.Ending.TheVariants.{Refused, WantOfMemory}
use Rattle.pretc_run.specs.Endings.{number_of}
use Rattle.pretc_run.specs.Told.{told}
use Rattle.pretc_run.specs.Writing.{BrokeOff}
use Rattle.pretc_run.specs.Running.{RunEnds, IsNext}
use Rattle.pretc_top.specs.Outside.{Outside}
use Rattle.pretc_top.specs.Loading.{source_most, IsAsBefore, LoadFails}
use Rattle.pretc_top.specs.Check.{CostsHeld, CostsRead, CostsFail, CostsNotLoaded}
use Rattle.pretc_top.specs.Go.{IsStored, StoreFails}
use Rattle.pretc_top.specs.Exec.{exec_lines}
use Rattle.pretc_top.specs.Certified.{IsCertified}

-- the program and the table of costs were loaded, in this order
pub record AreSources (program costs : List ℕ) (old new : ShelfTold) (text : List ℕ) (table : Option (List ℕ)) : Type 0 where
  pub program_held : Holds old.files program source_most text
  pub costs_held : CostsHeld old.files costs table
  pub kept : IsAsBefore old new

-- one of them wasn't loaded
pub data SourcesFail (program costs : List ℕ) (old new : ShelfTold) : Ending → Type 0 where
  no_program : (e : Ending) → LoadFails program old new e → SourcesFail program costs old new e
  no_table : (e : Ending) (text : List ℕ) → Holds old.files program source_most text → CostsNotLoaded costs old new e →
      SourcesFail program costs old new e

-- The program of the text keeps every rule, and was compiled to this image and analysed under the costs of the table, or at unit costs
-- where there is none.
pub record Analyses (text : List ℕ) (table : Option (List ℕ)) (image : Parts) (cert : CertParts) (costs : List ℕ) : Type 0 where
  pub tree : Program
  pub typing : Typing
  pub accepted : IsAccepted text tree typing
  pub costs_read : CostsRead table costs
  pub certified : IsCertified typing costs image cert

-- the program breaks a rule, the table of costs is refused, or no memory was found
pub data Unanalysed (text : List ℕ) (table : Option (List ℕ)) : Ending → Type 0 where
  rule_broken : (rule : Rule) (span : Span) → BreaksFirst text rule span → Unanalysed text table (Refused rule span)
  costs_refused : (e : Ending) (tree : Program) (typing : Typing) → IsAccepted text tree typing → CostsFail table e → Unanalysed text table e
  no_memory : Unanalysed text table WantOfMemory

-- the sources were loaded from these files, compiled and analysed
pub record IsAnalysed (program costs : List ℕ) (files : Option Files) (image : Parts) (cert : CertParts) (priced : List ℕ) : Type 0 where
  pub text : List ℕ
  pub table : Option (List ℕ)
  pub program_held : Holds files program source_most text
  pub costs_held : CostsHeld files costs table
  pub analyses : Analyses text table image cert priced

-- Then the one text of the image was stored, and after it that of the certificate, and nothing else.
pub record IsKept (image_name cert_name : List ℕ) (image : Parts) (cert : CertParts) (old new : ShelfTold) : Type 0 where
  pub between : ShelfTold
  pub image_stored : IsStored image_name (image_file.text_of image) old between
  pub cert_stored : IsStored cert_name (cert_file.text_of cert) between new

-- how `run` ends before its report: a file isn't loaded, the sources come to nothing, the image or the certificate isn't stored, or no
-- memory was found for the machine
pub data RunUnready (program costs image_name cert_name : List ℕ) (old new : ShelfTold) : Ending → Type 0 where
  run_not_loaded : (e : Ending) → SourcesFail program costs old new e → RunUnready program costs image_name cert_name old new e
  run_unanalysed : (text : List ℕ) (table : Option (List ℕ)) (e : Ending) → AreSources program costs old new text table → Unanalysed text table e →
      RunUnready program costs image_name cert_name old new e
  run_image_unstored : (image : Parts) (cert : CertParts) (priced : List ℕ) (e : Ending) → IsAnalysed program costs old.files image cert priced →
      StoreFails image_name (image_file.text_of image) old new e → RunUnready program costs image_name cert_name old new e
  run_cert_unstored : (image : Parts) (cert : CertParts) (priced : List ℕ) (between : ShelfTold) (e : Ending) → IsAnalysed program costs old.files image cert priced →
      IsStored image_name (image_file.text_of image) old between → StoreFails cert_name (cert_file.text_of cert) between new e →
      RunUnready program costs image_name cert_name old new e
  run_unloaded : (image : Parts) (cert : CertParts) (priced : List ℕ) → IsAnalysed program costs old.files image cert priced →
      IsKept image_name cert_name image cert old new → RunUnready program costs image_name cert_name old new WantOfMemory

-- image and certificate are stored, and the machine loaded with the image, with a place for each input and output
pub record RunReady (program costs image_name cert_name : List ℕ) (old new : ShelfTold) (machine : Whole) (inputs outputs bound : ℕ) : Type 0 where
  pub image : Parts
  pub cert : CertParts
  pub priced : List ℕ
  pub analysed : IsAnalysed program costs old.files image cert priced
  pub stored : IsKept image_name cert_name image cert old new
  pub bound_is : bound ≡ cert.bound
  pub machine_is : machine ≡ fresh image priced
  pub inputs_are : inputs ≡ length image.inputs
  pub outputs_are : outputs ≡ length image.outputs

-- the outputs of the ticks on these rows are those of the program's meaning
abbrev pub ShowsWithin : Typing → Parts → List ℕ → ℕ → List (List ℤ) → Type 0
ShowsWithin typing image costs bound rows =
    map (λ (tick : List ℤ × ℕ). tick.0) (told (run_of image costs bound rows)) ≡ meaning_of (program_of typing) rows

-- Image and certificate are stored, and the image ran on the trace within the bound to the end of its run, with these lines; its outputs
-- are the meaning's, and no tick trapped.
pub record RunRan (program costs image_name cert_name : List ℕ) (old new : Outside) (due : List (List ℕ)) (e : Ending) : Type 0 where
  pub image : Parts
  pub cert : CertParts
  pub priced : List ℕ
  pub analysed : IsAnalysed program costs old.shelf.files image cert priced
  pub stored : IsKept image_name cert_name image cert old.shelf new.shelf
  pub rows : List (List ℤ)
  pub last : List ℕ
  pub ends : RunEnds image priced cert.bound rows old.source new.source last e
  pub due_is : due ≡ exec_lines image priced cert.bound rows ++ last ∷ []
  pub shown : ShowsWithin analysed.analyses.typing image priced cert.bound rows
  pub untrapped : number_of e ≢ 10

-- its report broke off behind the lines of the ticks on these rows
pub record RunPulled (program costs image_name cert_name : List ℕ) (old new : Outside) : Type 0 where
  pub image : Parts
  pub cert : CertParts
  pub priced : List ℕ
  pub analysed : IsAnalysed program costs old.shelf.files image cert priced
  pub stored : IsKept image_name cert_name image cert old.shelf new.shelf
  pub rows : List (List ℤ)
  pub next : List ℕ
  pub is_next : IsNext image priced cert.bound rows old.source new.source next
  pub broke : BrokeOff old.sink new.sink (exec_lines image priced cert.bound rows) next

-- its report broke off, in the line of the bound or behind it
pub data RunBroke (program costs image_name cert_name : List ℕ) (old new : Outside) : Type 0 where
  run_in_the_bound : (image : Parts) (cert : CertParts) (priced : List ℕ) → IsAnalysed program costs old.shelf.files image cert priced →
      IsKept image_name cert_name image cert old.shelf new.shelf → new.source ≡ old.source → BrokeOff old.sink new.sink [] (bound_line cert.bound) →
      RunBroke program costs image_name cert_name old new
  run_behind_the_bound : RunPulled program costs image_name cert_name old new → RunBroke program costs image_name cert_name old new

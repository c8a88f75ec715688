-- What a call of `pretc exec` comes to: docs/commands.md, "exec".
use Rattle.std.specs.Prelude.{◌≡◌, ℕ, ℤ, List, [], ◌∷◌, ◌++◌, length, Option, Some}
use Rattle.pt_outside.specs.Told.{ShelfTold, SourceTold, SinkTold}
use Rattle.pt_image.specs.declared.image.Parts.{Parts}
use Rattle.pt_image.specs.Ranges.{IsImage}
use Rattle.pt_trace.specs.Report.{bound_line}
use Rattle.mb_pfu.specs.declared.TrapKind.{TrapKind}
use Rattle.mb_pfu.specs.declared.TrapKind.TheVariants.{BadAddress}
use Rattle.mb_isa.specs.Run.{Ticked, Ends, Trapped, run_of}
use Rattle.mb_core.specs.Machine.{Whole, fresh}
use Rattle.tk_cert.specs.declared.CertParts.{CertParts}
use Rattle.tk_cert.specs.Demands.{Demand, first_failing, AllHold}
use Rattle.tk_paths.specs.Acceptance.{asks}
use Rattle.tk_paths.specs.Bounded.{BoundsRuns}
use Rattle.pretc_run.specs.declared.endings.Ending.{Ending}
use Rattle.pretc_run.specs.declared.endings.Ending.TheVariants.{WantOfMemory}
use Rattle.pretc_run.specs.Endings.{write_fault}
use Rattle.pretc_run.specs.Writing.{Wrote, BrokeOff}
use Rattle.pretc_run.specs.Running.{run_lines, RunEnds, IsNext}
use Rattle.pretc_run.specs.Reporting.{ReportComes}
use Rattle.pretc_top.specs.Outside.{Outside}
use Rattle.pretc_top.specs.Loading.{IsAsBefore}
use Rattle.pretc_top.specs.Check.{AreRead, Unread, CostsRead, AreLoaded, LoadsFail, refusal_of}

-- the texts are those of this image and a certificate with this bound, which is accepted under these costs
pub record Approves (image_text cert_text : List ℕ) (costs_text : Option (List ℕ)) (image : Parts) (costs : List ℕ) (bound : ℕ) : Type 0 where
  pub cert : CertParts
  pub read : AreRead image_text cert_text image cert
  pub priced : CostsRead costs_text costs
  pub accepted : AllHold (asks image cert costs)
  pub bound_is : bound ≡ cert.bound
  pub runs : BoundsRuns image costs bound

-- one of the texts isn't read, or the certificate isn't accepted
pub data Unapproved (image_text cert_text : List ℕ) (costs_text : Option (List ℕ)) : Ending → Type 0 where
  not_in_form : (e : Ending) → Unread image_text cert_text costs_text e → Unapproved image_text cert_text costs_text e
  unaccepted : (image : Parts) (cert : CertParts) (costs : List ℕ) (d : Demand) → AreRead image_text cert_text image cert → CostsRead costs_text costs →
      first_failing (asks image cert costs) ≡ Some d → Unapproved image_text cert_text costs_text (refusal_of d)

-- the files were loaded, and the certificate is accepted
pub record IsApproved (image cert costs : List ℕ) (old new : ShelfTold) (image_read : Parts) (costs_read : List ℕ) (bound : ℕ) : Type 0 where
  pub image_text : List ℕ
  pub cert_text : List ℕ
  pub costs_text : Option (List ℕ)
  pub loaded : AreLoaded image cert costs old new image_text cert_text costs_text
  pub approves : Approves image_text cert_text costs_text image_read costs_read bound

-- how `exec` ends before its report: a file isn't loaded, the certificate isn't accepted, or no memory was found for the machine
pub data ExecUnready (image cert costs : List ℕ) (old new : ShelfTold) : Ending → Type 0 where
  exec_not_loaded : (e : Ending) → LoadsFail image cert costs old new e → ExecUnready image cert costs old new e
  exec_unapproved : (image_text cert_text : List ℕ) (costs_text : Option (List ℕ)) (e : Ending) → AreLoaded image cert costs old new image_text cert_text costs_text →
      Unapproved image_text cert_text costs_text e → ExecUnready image cert costs old new e
  exec_memory : IsAsBefore old new → ExecUnready image cert costs old new WantOfMemory

-- the machine is loaded with an image whose bound was accepted, with a place for each input and output
pub record ExecReady (image cert costs : List ℕ) (old new : ShelfTold) (machine : Whole) (inputs outputs bound : ℕ) : Type 0 where
  pub image_read : Parts
  pub costs_read : List ℕ
  pub approved : IsApproved image cert costs old new image_read costs_read bound
  pub ranges : IsImage image_read
  pub machine_is : machine ≡ fresh image_read costs_read
  pub inputs_are : inputs ≡ length image_read.inputs
  pub outputs_are : outputs ≡ length image_read.outputs

-- the report under a bound: its line broke off before the trace was read, or was written, and then the run was reported
pub data BoundedReport (image : Parts) (costs : List ℕ) (bound : ℕ) (before after : SourceTold) (sink now : SinkTold) (answer : ℕ) : Type 0 where
  bound_broke : answer ≡ write_fault → after ≡ before → BrokeOff sink now [] (bound_line bound) → BoundedReport image costs bound before after sink now answer
  bound_said : (mid : SinkTold) → Wrote sink mid (bound_line bound ∷ []) → ReportComes image costs bound before after mid now answer →
      BoundedReport image costs bound before after sink now answer

-- the lines of the ticks on these rows, behind that of the bound
abbrev pub exec_lines : Parts → List ℕ → ℕ → List (List ℤ) → List (List ℕ)
exec_lines image costs bound rows = bound_line bound ∷ run_lines image costs bound rows

-- a tick that traps does so at a bad address
abbrev pub TrapsSafely : Ticked → Type 0
TrapsSafely (Ends cycles outputs state) = Unit {0}
TrapsSafely (Trapped kind at charged) = kind ≡ BadAddress

abbrev pub AllTrapSafely : List Ticked → Type 0
AllTrapSafely [] = Unit {0}
AllTrapSafely (o ∷ os) = TrapsSafely o × AllTrapSafely os

-- the accepted image ran on the trace to the end of its run, with these lines; whatever the rows, it traps at bad addresses alone
pub record ExecRan (image cert costs : List ℕ) (old new : Outside) (due : List (List ℕ)) (e : Ending) : Type 0 where
  pub image_read : Parts
  pub costs_read : List ℕ
  pub bound : ℕ
  pub approved : IsApproved image cert costs old.shelf new.shelf image_read costs_read bound
  pub rows : List (List ℤ)
  pub last : List ℕ
  pub ends : RunEnds image_read costs_read bound rows old.source new.source last e
  pub due_is : due ≡ exec_lines image_read costs_read bound rows ++ last ∷ []
  pub safe : (more : List (List ℤ)) → AllTrapSafely (run_of image_read costs_read bound more)

-- the report of the accepted image broke off behind the lines of the ticks on these rows
pub record ExecPulled (image cert costs : List ℕ) (old new : Outside) : Type 0 where
  pub image_read : Parts
  pub costs_read : List ℕ
  pub bound : ℕ
  pub approved : IsApproved image cert costs old.shelf new.shelf image_read costs_read bound
  pub rows : List (List ℤ)
  pub next : List ℕ
  pub is_next : IsNext image_read costs_read bound rows old.source new.source next
  pub broke : BrokeOff old.sink new.sink (exec_lines image_read costs_read bound rows) next

-- its report broke off, in the line of the bound or behind it
pub data ExecBroke (image cert costs : List ℕ) (old new : Outside) : Type 0 where
  in_the_bound : (image_read : Parts) (costs_read : List ℕ) (bound : ℕ) → IsApproved image cert costs old.shelf new.shelf image_read costs_read bound →
      new.source ≡ old.source → BrokeOff old.sink new.sink [] (bound_line bound) → ExecBroke image cert costs old new
  behind_the_bound : ExecPulled image cert costs old new → ExecBroke image cert costs old new

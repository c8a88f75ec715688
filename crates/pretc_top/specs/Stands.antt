-- What stands after a call that wasn't done: docs/commands.md, "Statuses".
use Rattle.std.specs.Prelude.{◌≡◌, ◌≤◌, ◌+◌, ℕ, ℤ, List, [], ◌∷◌, ◌++◌, length, Option, Some}
use Rattle.pt_trace.specs.Given.{HasRead, IsBad, IsCut}
use Rattle.pt_image.specs.declared.image.Parts.{Parts}
use Rattle.pt_image.specs.Text.{text_of}
use Rattle.pretc_run.specs.declared.endings.Ending.{Ending}
use Rattle.pretc_run.specs.declared.endings.Ending.TheVariants.{ReadFault, WantOfMemory, BadTrace, Trapped, StoreFault}
use Rattle.pretc_run.specs.Endings.{line_of}
use Rattle.pretc_run.specs.Running.{HasFailed, IsTrapped}
use Rattle.mb_pfu.specs.declared.TrapKind.TheVariants.{BadAddress}
use Rattle.pretc_top.specs.Exec.{IsApproved, exec_lines, ExecPulled, ExecBroke}
use Rattle.pretc_run.specs.Writing.{first_of, Wrote, BrokeOff}
use Rattle.pretc_top.specs.declared.commands.Command.{Command}
use Rattle.pretc_top.specs.declared.commands.Command.TheVariants.{Go, Run, Mean, Exec}
use Rattle.pretc_top.specs.Outside.{Outside}
use Rattle.pt_outside.specs.Told.{ShelfTold}
use Rattle.pretc_top.specs.Loading.{IsAsBefore, IsFailedLoad}
use Rattle.pc_meaning.specs.Programs.{program_of}
use Rattle.pretc_run.specs.Meant.{width_of, meant_lines}
use Rattle.pretc_top.specs.Mean.{IsMeant}
use Rattle.pretc_top.specs.Go.{go_lines, IsBuilt, IsStored, IsFailedStore, IsMade}
use Rattle.tk_cert.specs.declared.CertParts.{CertParts}
use Rattle.tk_cert.specs.Text as cert_file
use Rattle.pretc_top.specs.Run.{IsAnalysed, IsKept, RunPulled, RunBroke}
use Rattle.pretc_top.specs.Comes.{Ends}

-- the line of this ending alone was written, and nothing of the trace was read
pub record OnlySaid (old new : Outside) (e : Ending) : Type 0 where
  pub wrote : Wrote old.sink new.sink (line_of e ∷ [])
  pub source : new.source ≡ old.source

-- Each step of `go` before the trace was done, the trace gave these rows, and the lines of their ticks were written and then
-- that of this ending.
pub record GoStopped (program name : List ℕ) (old new : Outside) (e : Ending) (P : (width : ℕ) → (rows : List (List ℤ)) → Type 0) : Type 0 where
  pub image : Parts
  pub made : IsMade program name image old.shelf new.shelf
  pub rows : List (List ℤ)
  pub trace : P (length image.inputs) rows
  pub wrote : Wrote old.sink new.sink (go_lines image rows ++ line_of e ∷ [])

-- The program of `mean` was taken, the trace gave these rows, and the lines of their ticks were written and then that of this
-- ending.
pub record MeanStopped (program : List ℕ) (old new : Outside) (e : Ending) (P : (width : ℕ) → (rows : List (List ℤ)) → Type 0) : Type 0 where
  pub meant : IsMeant program old new
  pub rows : List (List ℤ)
  pub trace : P (width_of (program_of meant.typing)) rows
  pub wrote : Wrote old.sink new.sink (meant_lines (program_of meant.typing) rows ++ line_of e ∷ [])

-- `exec` accepted its certificate, the trace gave these rows, and the lines of the bound and of their ticks were written and then
-- that of this ending
pub record ExecStopped (image cert costs : List ℕ) (old new : Outside) (e : Ending) (P : Parts → List ℕ → ℕ → (rows : List (List ℤ)) → Type 0) : Type 0 where
  pub image_read : Parts
  pub costs_read : List ℕ
  pub bound : ℕ
  pub approved : IsApproved image cert costs old.shelf new.shelf image_read costs_read bound
  pub rows : List (List ℤ)
  pub trace : P image_read costs_read bound rows
  pub wrote : Wrote old.sink new.sink (exec_lines image_read costs_read bound rows ++ line_of e ∷ [])

-- `run` stored image and certificate, the trace gave these rows, and the lines of the bound and of their ticks were written and then
-- that of this ending
pub record RunStopped (program costs image_name cert_name : List ℕ) (old new : Outside) (e : Ending) (P : (width : ℕ) → (rows : List (List ℤ)) → Type 0) : Type 0 where
  pub image : Parts
  pub cert : CertParts
  pub priced : List ℕ
  pub analysed : IsAnalysed program costs old.shelf.files image cert priced
  pub stored : IsKept image_name cert_name image cert old.shelf new.shelf
  pub rows : List (List ℤ)
  pub trace : P (length image.inputs) rows
  pub wrote : Wrote old.sink new.sink (exec_lines image priced cert.bound rows ++ line_of e ∷ [])

-- 3: a load failed, or a pull of the trace, and the rows are then those of its lines that stand whole in what was pulled
pub data AfterReadFault (old new : Outside) : Option (Command (List ℕ)) → Type 0 where
  load_failed : (command : Option (Command (List ℕ))) → IsFailedLoad old.shelf new.shelf → OnlySaid old new ReadFault → AfterReadFault old new command
  pull_failed : (program image : List ℕ) → HasFailed old.source new.source →
      GoStopped program image old new ReadFault (λ width rows. IsCut width old.source.left new.source.left rows) →
      AfterReadFault old new (Some (Go program image))
  run_pull_failed : (program costs image cert : List ℕ) → HasFailed old.source new.source →
      RunStopped program costs image cert old new ReadFault (λ width rows. IsCut width old.source.left new.source.left rows) →
      AfterReadFault old new (Some (Run program costs image cert))
  exec_pull_failed : (image cert costs : List ℕ) → HasFailed old.source new.source →
      ExecStopped image cert costs old new ReadFault (λ i c b rows. IsCut (length i.inputs) old.source.left new.source.left rows) →
      AfterReadFault old new (Some (Exec image cert costs))
  mean_pull_failed : (program : List ℕ) → HasFailed old.source new.source →
      MeanStopped program old new ReadFault (λ width rows. IsCut width old.source.left new.source.left rows) →
      AfterReadFault old new (Some (Mean program))

-- The report of `go` broke off after the lines of the ticks on some rows, in the line after them. Of the trace no more was
-- pulled than the lines of the rows that were read, at most one more than those, and 2,048 bytes.
pub record GoPulled (program name : List ℕ) (old new : Outside) : Type 0 where
  pub image : Parts
  pub made : IsMade program name image old.shelf new.shelf
  pub rows : List (List ℤ)
  pub next : List ℕ
  pub broke : BrokeOff old.sink new.sink (go_lines image rows) next
  pub read : List (List ℤ)
  pub has_read : HasRead (length image.inputs) old.source.left new.source.left read
  pub one_more : length read ≤ length rows + 1

-- the same of `mean`
pub record MeanPulled (program : List ℕ) (old new : Outside) : Type 0 where
  pub meant : IsMeant program old new
  pub rows : List (List ℤ)
  pub next : List ℕ
  pub broke : BrokeOff old.sink new.sink (meant_lines (program_of meant.typing) rows) next
  pub read : List (List ℤ)
  pub has_read : HasRead (width_of (program_of meant.typing)) old.source.left new.source.left read
  pub one_more : length read ≤ length rows + 1

-- 4: a front of the lines that were due was written, before the trace was read or in the report
pub data AfterWriteFault (old new : Outside) : Option (Command (List ℕ)) → Type 0 where
  before_the_trace : (command : Option (Command (List ℕ))) (due whole rest : List (List ℕ)) (e : Ending) → Ends old new command due e →
      new.source ≡ old.source → due ≡ whole ++ rest → BrokeOff old.sink new.sink whole (first_of rest) → AfterWriteFault old new command
  in_the_report : (program image : List ℕ) → GoPulled program image old new → AfterWriteFault old new (Some (Go program image))
  in_the_bound_line_of_run : (program costs image cert : List ℕ) → new.source ≡ old.source → RunBroke program costs image cert old new →
      AfterWriteFault old new (Some (Run program costs image cert))
  behind_the_bound_line_of_run : (program costs image cert : List ℕ) (p : RunPulled program costs image cert old new) (read : List (List ℤ)) →
      HasRead (length p.image.inputs) old.source.left new.source.left read → length read ≤ length p.rows + 1 →
      AfterWriteFault old new (Some (Run program costs image cert))
  in_the_bound_line : (image cert costs : List ℕ) → new.source ≡ old.source → ExecBroke image cert costs old new →
      AfterWriteFault old new (Some (Exec image cert costs))
  behind_the_bound_line : (image cert costs : List ℕ) (p : ExecPulled image cert costs old new) (read : List (List ℤ)) →
      HasRead (length p.image_read.inputs) old.source.left new.source.left read → length read ≤ length p.rows + 1 →
      AfterWriteFault old new (Some (Exec image cert costs))
  in_the_meaning : (program : List ℕ) → MeanPulled program old new → AfterWriteFault old new (Some (Mean program))

-- 5: nothing was stored, or the image was, or in `run` the certificate too, before a report; or `mean` found no memory for the tick on one row more
pub data AfterMemory (old new : Outside) : Option (Command (List ℕ)) → Type 0 where
  memory_before : (command : Option (Command (List ℕ))) → IsAsBefore old.shelf new.shelf → OnlySaid old new WantOfMemory → AfterMemory old new command
  memory_stored : (program name : List ℕ) (image : Parts) → IsMade program name image old.shelf new.shelf → OnlySaid old new WantOfMemory →
      AfterMemory old new (Some (Go program name))
  memory_half_stored : (program costs image_name cert_name : List ℕ) (image : Parts) (cert : CertParts) (priced : List ℕ) →
      IsAnalysed program costs old.shelf.files image cert priced → IsStored image_name (text_of image) old.shelf new.shelf → OnlySaid old new WantOfMemory →
      AfterMemory old new (Some (Run program costs image_name cert_name))
  memory_both_stored : (program costs image_name cert_name : List ℕ) (image : Parts) (cert : CertParts) (priced : List ℕ) →
      IsAnalysed program costs old.shelf.files image cert priced → IsKept image_name cert_name image cert old.shelf new.shelf → OnlySaid old new WantOfMemory →
      AfterMemory old new (Some (Run program costs image_name cert_name))
  memory_at_a_tick : (program : List ℕ) (row : List ℤ) → new.source.faults ≡ old.source.faults →
      MeanStopped program old new WantOfMemory (λ width rows. HasRead width old.source.left new.source.left (rows ++ row ∷ [])) →
      AfterMemory old new (Some (Mean program))

-- 7: the rows are those before the first bad line of the trace, which is refused by this rule
pub data AfterBadTrace (old new : Outside) : Option (Command (List ℕ)) → Type 0 where
  go_bad_trace : (program image : List ℕ) (rule line : ℕ) → new.source.faults ≡ old.source.faults →
      GoStopped program image old new (BadTrace rule line) (λ width rows. IsBad width old.source.left rows rule line) →
      AfterBadTrace old new (Some (Go program image))
  run_bad_trace : (program costs image cert : List ℕ) (rule line : ℕ) → new.source.faults ≡ old.source.faults →
      RunStopped program costs image cert old new (BadTrace rule line) (λ width rows. IsBad width old.source.left rows rule line) →
      AfterBadTrace old new (Some (Run program costs image cert))
  exec_bad_trace : (image cert costs : List ℕ) (rule line : ℕ) → new.source.faults ≡ old.source.faults →
      ExecStopped image cert costs old new (BadTrace rule line) (λ i c b rows. IsBad (length i.inputs) old.source.left rows rule line) →
      AfterBadTrace old new (Some (Exec image cert costs))
  mean_bad_trace : (program : List ℕ) (rule line : ℕ) → new.source.faults ≡ old.source.faults →
      MeanStopped program old new (BadTrace rule line) (λ width rows. IsBad width old.source.left rows rule line) →
      AfterBadTrace old new (Some (Mean program))

-- 10: the tick on one row more, which is read, trapped at a bad address
pub data AfterTrap (old new : Outside) : Option (Command (List ℕ)) → Type 0 where
  exec_trapped : (image cert costs : List ℕ) (row : List ℤ) (at tick : ℕ) → new.source.faults ≡ old.source.faults →
      ExecStopped image cert costs old new (Trapped at tick) (λ i c b rows. (tick ≡ length rows) × IsTrapped i c b rows row BadAddress at) →
      AfterTrap old new (Some (Exec image cert costs))

-- 11: the image was built, and its store failed, or in `run` that of the certificate after it
pub data AfterStoreFault (old new : Outside) : Option (Command (List ℕ)) → Type 0 where
  go_store_failed : (program name : List ℕ) (image : Parts) → IsBuilt program image old.shelf.files →
      IsFailedStore name (text_of image) old.shelf new.shelf → OnlySaid old new StoreFault → AfterStoreFault old new (Some (Go program name))
  run_image_store_failed : (program costs image_name cert_name : List ℕ) (image : Parts) (cert : CertParts) (priced : List ℕ) →
      IsAnalysed program costs old.shelf.files image cert priced → IsFailedStore image_name (text_of image) old.shelf new.shelf → OnlySaid old new StoreFault →
      AfterStoreFault old new (Some (Run program costs image_name cert_name))
  run_cert_store_failed : (program costs image_name cert_name : List ℕ) (image : Parts) (cert : CertParts) (priced : List ℕ) (between : ShelfTold) →
      IsAnalysed program costs old.shelf.files image cert priced → IsStored image_name (text_of image) old.shelf between →
      IsFailedStore cert_name (cert_file.text_of cert) between new.shelf → OnlySaid old new StoreFault → AfterStoreFault old new (Some (Run program costs image_name cert_name))

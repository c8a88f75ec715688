-- How an image runs on a trace: docs/commands.md, "The report".
use Rattle.std.specs.Prelude.{◌≡◌, ◌≤◌, ℕ, ℤ, List, [], ◌∷◌, ◌++◌, length, Some}
use Rattle.pt_outside.specs.Counts.{Rose}
use Rattle.pt_outside.specs.Told.{SourceTold, SinkTold}
use Rattle.pt_image.specs.declared.image.Parts.{Parts}
use Rattle.pt_trace.specs.Given.{HasRead, IsWhole, IsBad, IsCut}
use Rattle.pt_trace.specs.Report.{tick_line}
use Rattle.pretc_run.specs.Lines.{tick_lines, last_line}
use Rattle.mb_pfu.specs.declared.TrapKind.{TrapKind}
use Rattle.mb_isa.specs.Run.{Trapped}
use Rattle.mb_isa.specs.Run.{run_of}
use Rattle.pretc_run.specs.declared.endings.Ending.{Ending}
use Rattle.pretc_run.specs.declared.endings.Ending.TheVariants as end
use Rattle.pretc_run.specs.Endings.{line_of}
use Rattle.pretc_run.specs.Told.{told, AllEnded}
use Rattle.pretc_run.specs.Writing.{Wrote, BrokeOff}

-- the lines of the ticks on these rows
abbrev pub run_lines : Parts → List ℕ → ℕ → List (List ℤ) → List (List ℕ)
run_lines image costs most rows = tick_lines 0 (told (run_of image costs most rows))

-- these rows were read, and no tick on them trapped
pub record HasTicked (image : Parts) (costs : List ℕ) (most : ℕ) (rows : List (List ℤ)) (before after : SourceTold) : Type 0 where
  pub read : HasRead (length image.inputs) before.left after.left rows
  pub ended : AllEnded (run_of image costs most rows)

-- the tick on one row more trapped
pub record IsTrapped (image : Parts) (costs : List ℕ) (most : ℕ) (rows : List (List ℤ)) (row : List ℤ) (kind : TrapKind) (at : ℕ) : Type 0 where
  pub charged : ℕ
  pub traps : run_of image costs most (rows ++ row ∷ []) ≡ run_of image costs most rows ++ Trapped kind at charged ∷ []

-- a pull failed: the count of faults rose, and it didn't fall
pub record HasFailed (before after : SourceTold) : Type 0 where
  pub later : before.faults ≤ after.faults
  pub rose : Rose before.faults after.faults

-- how a run ends after the ticks on these rows, and the line that is due then: the trace was read to its end, has a bad line, or
-- its source failed, or a tick trapped
pub data RunEnds (image : Parts) (costs : List ℕ) (most : ℕ) (rows : List (List ℤ)) (before after : SourceTold) : List ℕ → Ending → Type 0 where
  run_done : HasTicked image costs most rows before after → IsWhole (length image.inputs) before.left after.left rows → after.faults ≡ before.faults →
      RunEnds image costs most rows before after (last_line (told (run_of image costs most rows))) end.Done
  run_bad : (rule line : ℕ) → HasTicked image costs most rows before after → IsBad (length image.inputs) before.left rows rule line → after.faults ≡ before.faults →
      RunEnds image costs most rows before after (line_of (end.BadTrace rule line)) (end.BadTrace rule line)
  run_fault : HasTicked image costs most rows before after → IsCut (length image.inputs) before.left after.left rows → HasFailed before after →
      RunEnds image costs most rows before after (line_of end.ReadFault) end.ReadFault
  run_trapped : (row : List ℤ) (kind : TrapKind) (at : ℕ) → HasRead (length image.inputs) before.left after.left (rows ++ row ∷ []) →
      AllEnded (run_of image costs most rows) → IsTrapped image costs most rows row kind at → after.faults ≡ before.faults →
      RunEnds image costs most rows before after (line_of (end.Trapped at (length rows))) (end.Trapped at (length rows))

-- a line that is due after the lines of the ticks on these rows: that of the tick on one row more, or the last one
pub data IsNext (image : Parts) (costs : List ℕ) (most : ℕ) (rows : List (List ℤ)) (before after : SourceTold) : List ℕ → Type 0 where
  next_tick : (row outputs : List ℤ) (cycles : ℕ) → HasTicked image costs most (rows ++ row ∷ []) before after →
      told (run_of image costs most (rows ++ row ∷ [])) ≡ told (run_of image costs most rows) ++ (outputs, cycles) ∷ [] → after.faults ≡ before.faults →
      IsNext image costs most rows before after (tick_line (length rows) outputs (Some cycles))
  next_last : (e : Ending) (line : List ℕ) → RunEnds image costs most rows before after line e → IsNext image costs most rows before after line

-- the report broke off after the lines of the ticks on these rows, each of which ended
pub record RunBreaks (image : Parts) (costs : List ℕ) (most : ℕ) (before after : SourceTold) (sink now : SinkTold) : Type 0 where
  pub rows : List (List ℤ)
  pub ended : AllEnded (run_of image costs most rows)
  pub next : List ℕ
  pub is_next : IsNext image costs most rows before after next
  pub broke : BrokeOff sink now (run_lines image costs most rows) next

-- all lines of the run were written, the last one too
pub record RunWrote (image : Parts) (costs : List ℕ) (most : ℕ) (before after : SourceTold) (sink now : SinkTold) (e : Ending) : Type 0 where
  pub rows : List (List ℤ)
  pub last : List ℕ
  pub ends : RunEnds image costs most rows before after last e
  pub wrote : Wrote sink now (run_lines image costs most rows ++ last ∷ [])

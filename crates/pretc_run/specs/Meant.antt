-- How the meaning of a program runs on a trace: docs/commands.md, "The report".
use Rattle.std.specs.Prelude.{◌≡◌, ℕ, ◌+◌, ℤ, List, [], ◌∷◌, ◌++◌, length, None}
use Rattle.pt_outside.specs.Told.{SourceTold, SinkTold}
use Rattle.pt_trace.specs.Given.{HasRead, IsWhole, IsBad, IsCut}
use Rattle.pt_trace.specs.Report.{tick_line, ticks_line}
use Rattle.pc_meaning.specs.Tree.{Program}
use Rattle.pc_meaning.specs.Runs.{meaning_of}
use Rattle.pretc_run.specs.declared.endings.Ending.{Ending}
use Rattle.pretc_run.specs.declared.endings.Ending.TheVariants as end
use Rattle.pretc_run.specs.Endings.{number_of, line_of, write_fault}
use Rattle.pretc_run.specs.Writing.{Wrote, BrokeOff, IsAnswered, Answers}
use Rattle.pretc_run.specs.Running.{HasFailed}

-- the lines of ticks from number k on, with their outputs alone
abbrev pub plain_lines : ℕ → List (List ℤ) → List (List ℕ)
plain_lines k [] = []
plain_lines k (outputs ∷ ticks) = tick_line k outputs None ∷ plain_lines (k + 1) ticks

-- the lines of the meaning on these rows
abbrev pub meant_lines : Program → List (List ℤ) → List (List ℕ)
meant_lines program rows = plain_lines 0 (meaning_of program rows)

abbrev pub width_of : Program → ℕ
width_of program = length program.inputs

-- these rows of the trace were read
abbrev pub HasReadRows : Program → List (List ℤ) → (before after : SourceTold) → Type 0
HasReadRows program rows before after = HasRead (width_of program) before.left after.left rows

-- how a meaning ends after the ticks on these rows, and the line that is due then: the trace was read to its end, has a bad
-- line, or its source failed, or no memory was found for the tick on one row more
pub data MeanEnds (program : Program) (rows : List (List ℤ)) (before after : SourceTold) : List ℕ → Ending → Type 0 where
  mean_done : HasReadRows program rows before after → IsWhole (width_of program) before.left after.left rows →
      after.faults ≡ before.faults → MeanEnds program rows before after (ticks_line (length rows)) end.Done
  mean_bad : (rule line : ℕ) → HasReadRows program rows before after → IsBad (width_of program) before.left rows rule line →
      after.faults ≡ before.faults → MeanEnds program rows before after (line_of (end.BadTrace rule line)) (end.BadTrace rule line)
  mean_fault : HasReadRows program rows before after → IsCut (width_of program) before.left after.left rows →
      HasFailed before after → MeanEnds program rows before after (line_of end.ReadFault) end.ReadFault
  mean_lacks : (row : List ℤ) → HasReadRows program (rows ++ row ∷ []) before after →
      after.faults ≡ before.faults → MeanEnds program rows before after (line_of end.WantOfMemory) end.WantOfMemory

-- the outputs of the tick on one row more are these
abbrev pub MeansNext : Program → List (List ℤ) → (row outputs : List ℤ) → Type 0
MeansNext program rows row outputs = meaning_of program (rows ++ row ∷ []) ≡ meaning_of program rows ++ outputs ∷ []

-- a line that is due after the lines of the ticks on these rows: that of the tick on one row more, or the last one
pub data IsNextMeant (program : Program) (rows : List (List ℤ)) (before after : SourceTold) : List ℕ → Type 0 where
  next_meant : (row outputs : List ℤ) → HasReadRows program (rows ++ row ∷ []) before after → MeansNext program rows row outputs →
      after.faults ≡ before.faults → IsNextMeant program rows before after (tick_line (length rows) outputs None)
  next_end : (e : Ending) (line : List ℕ) → MeanEnds program rows before after line e → IsNextMeant program rows before after line

-- the report broke off after the lines of the ticks on these rows
pub record MeanBreaks (program : Program) (before after : SourceTold) (sink now : SinkTold) : Type 0 where
  pub rows : List (List ℤ)
  pub next : List ℕ
  pub is_next : IsNextMeant program rows before after next
  pub broke : BrokeOff sink now (meant_lines program rows) next

-- all lines of the meaning were written, the last one too
pub record MeanWrote (program : Program) (before after : SourceTold) (sink now : SinkTold) (e : Ending) : Type 0 where
  pub rows : List (List ℤ)
  pub last : List ℕ
  pub ends : MeanEnds program rows before after last e
  pub wrote : Wrote sink now (meant_lines program rows ++ last ∷ [])

-- what the report of a meaning comes to, the flush after it included: the meaning ended, and all its lines are written and sent; or
-- the report broke off, at the latest in the flush after its last line
pub data MeanComes (program : Program) (before after : SourceTold) (sink now : SinkTold) (answer : ℕ) : Type 0 where
  mean_ends : (rows : List (List ℤ)) (last : List ℕ) (e : Ending) → MeanEnds program rows before after last e →
      IsAnswered (meant_lines program rows ++ last ∷ []) (number_of e) sink now answer → MeanComes program before after sink now answer
  mean_breaks : answer ≡ write_fault → MeanBreaks program before after sink now → MeanComes program before after sink now answer

-- what a call that reports the meaning of an accepted program comes to: no memory was found before the first tick, and the source
-- was left as it was, or the meaning began
pub data MeanCallComes (program : Program) (before after : SourceTold) (sink now : SinkTold) (answer : ℕ) : Type 0 where
  never_began : after ≡ before → Answers (line_of end.WantOfMemory ∷ []) (number_of end.WantOfMemory) sink now answer →
      MeanCallComes program before after sink now answer
  began : MeanComes program before after sink now answer → MeanCallComes program before after sink now answer

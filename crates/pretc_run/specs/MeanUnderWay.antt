-- What a meaning has done after each of its ticks, and what one step of it does.
use Rattle.std.specs.Prelude.{◌≡◌, ℕ, ℤ, List, [], ◌∷◌, ◌++◌, length, map, Option, Some, None, Result, Ok, Err}
use Rattle.pt_outside.specs.Told.{SourceTold, SinkTold}
use Rattle.pt_outside.specs.declared.traits.Failed.{Failed}
use Rattle.pt_trace.specs.Next.{Reader}
use Rattle.pt_trace.specs.Given.{HasGiven}
use Rattle.pt_trace.specs.declared.reader.TraceFault.{TraceFault}
use Rattle.pt_trace.specs.declared.reader.TraceFault.TheVariants.{Refused, ReadFault}
use Rattle.pt_trace.specs.Report.{tick_line}
use Rattle.pc_meaning.specs.Tree.{Program}
use Rattle.pc_meaning.specs.Runs.{Moment, ticked, outputs_at, moments_from, meaning_of}
use Rattle.pc_meaning.specs.Programs.{program_of}
use Rattle.pc_meaning.specs.Moments.{State, moment}
use Rattle.pretc_run.specs.declared.endings.Ending.{Ending}
use Rattle.pretc_run.specs.declared.endings.Ending.TheVariants as end
use Rattle.pretc_run.specs.Endings.{line_of}
use Rattle.pretc_run.specs.Writing.{Wrote, BrokeOff}
use Rattle.pretc_run.specs.UnderWay.{SaysLast}
use Rattle.pretc_run.specs.Meant.{meant_lines, width_of, MeanWrote, MeanBreaks}

-- how a fault of the trace ends the meaning
abbrev pub ending_of : TraceFault → Ending
ending_of (Refused rule line) = end.BadTrace rule line
ending_of ReadFault = end.ReadFault

-- what a meaning begins with: the program, the source and the sink
pub record MeanStart : Type 0 where
  pub program : Program
  pub source : SourceTold
  pub sink : SinkTold

-- the outputs of the ticks on more rows, from a moment on
abbrev pub meant_from : Program → Moment → List (List ℤ) → List (List ℤ)
meant_from program m more = map (outputs_at program) (moments_from program m more)

-- the ticks on these rows are done, and their lines are written
pub record IsMeaning (start : MeanStart) (rows : List (List ℤ)) (state : State) (reader : Reader)
    (source : SourceTold) (sink : SinkTold) : Type 0 where
  pub program_is : program_of state.typing ≡ start.program
  pub meant : (more : List (List ℤ)) →
      meaning_of start.program (rows ++ more) ≡ meaning_of start.program rows ++ meant_from start.program (moment state) more
  pub count : length (meaning_of start.program rows) ≡ length rows
  pub given : HasGiven (width_of start.program) start.source.left reader source.left rows
  pub faults : source.faults ≡ start.source.faults
  pub wrote : Wrote start.sink sink (meant_lines start.program rows)

-- the line of a tick was pushed, or broke off
abbrev pub SaysTick : List ℕ → SinkTold → SinkTold → Result (Option Ending) Failed → Type 0
SaysTick line before after (Ok None) = Wrote before after (line ∷ [])
SaysTick line before after (Ok (Some e)) = ⊥
SaysTick line before after (Err failed) = BrokeOff before after [] line

-- a tick is that of the meaning, and its line was pushed or broke off; or no memory was found for it
pub data MeanTickComes (program : Program) (row : List ℤ) (tick : ℕ) (was now : Moment) (before after : SinkTold)
    (result : Result (Option Ending) Failed) : Type 0 where
  tick_meant : now ≡ ticked program was row → SaysTick (tick_line tick (outputs_at program now) None) before after result →
      MeanTickComes program row tick was now before after result
  tick_lacks : SaysLast end.WantOfMemory (line_of end.WantOfMemory) before after result →
      MeanTickComes program row tick was now before after result

-- a step after these rows: one tick more is done, or the meaning has ended, or its report broke off
abbrev pub MeanStepComes : MeanStart → List (List ℤ) → State → Reader → SourceTold → SinkTold → Result (Option Ending) Failed → Type 0
MeanStepComes start rows state reader source sink (Ok None) =
    (row : List ℤ) × IsMeaning start (rows ++ row ∷ []) state reader source sink
MeanStepComes start rows state reader source sink (Ok (Some e)) = MeanWrote start.program start.source source start.sink sink e
MeanStepComes start rows state reader source sink (Err failed) = MeanBreaks start.program start.source source start.sink sink

-- what a meaning on a trace comes to
abbrev pub MeanRunComes : MeanStart → SourceTold → SinkTold → Result Ending Failed → Type 0
MeanRunComes start source sink (Ok e) = MeanWrote start.program start.source source start.sink sink e
MeanRunComes start source sink (Err failed) = MeanBreaks start.program start.source source start.sink sink

-- What a run has done after each of its ticks, and what one step of it does.
use Rattle.std.specs.Prelude.{◌≡◌, ℕ, ℤ, max, List, [], ◌∷◌, ◌++◌, length, Option, Some, None, Result, Ok, Err}
use Rattle.pt_outside.specs.Told.{SourceTold, SinkTold}
use Rattle.pt_outside.specs.declared.traits.Failed.{Failed}
use Rattle.pt_image.specs.declared.image.Parts.{Parts}
use Rattle.pt_trace.specs.Next.{Reader}
use Rattle.pt_trace.specs.Given.{HasGiven}
use Rattle.pt_trace.specs.Report.{tick_line, greatest}
use Rattle.pretc_run.specs.Lines.{tick_lines}
use Rattle.mb_core.specs.Machine.{Whole}
use Rattle.mb_isa.specs.Run.{loaded, ticks_from}
use Rattle.mb_isa.specs.Run.{Ticked, Ends, Trapped}
use Rattle.pretc_run.specs.declared.endings.Ending.{Ending}
use Rattle.pretc_run.specs.declared.endings.Ending.TheVariants as end
use Rattle.pretc_run.specs.Endings.{line_of}
use Rattle.pretc_run.specs.Told.{told, AllEnded}
use Rattle.pretc_run.specs.Writing.{Wrote, BrokeOff}
use Rattle.pretc_run.specs.Running.{RunWrote, RunBreaks}

-- what a run begins with: the image, its costs and the greatest charge of a tick, the source and the sink
pub record Start : Type 0 where
  pub image : Parts
  pub costs : List ℕ
  pub most : ℕ
  pub source : SourceTold
  pub sink : SinkTold

-- the ticks on these rows are done, none of them trapped, and their lines are written
pub record IsUnderWay (start : Start) (rows : List (List ℤ)) (machine : Whole) (reader : Reader) (worst : ℕ) (source : SourceTold) (sink : SinkTold) : Type 0 where
  pub outcomes : List Ticked
  pub image_is : machine.image ≡ start.image
  pub costs_is : machine.costs ≡ start.costs
  pub going : machine.trap ≡ None
  pub run : (more : List (List ℤ)) →
      ticks_from start.image start.costs start.most (loaded start.image) (rows ++ more) ≡ outcomes ++ ticks_from start.image start.costs start.most machine.state more
  pub ended : AllEnded outcomes
  pub count : length outcomes ≡ length rows
  pub given : HasGiven (length start.image.inputs) start.source.left reader source.left rows
  pub faults : source.faults ≡ start.source.faults
  pub wrote : Wrote start.sink sink (tick_lines 0 (told outcomes))
  pub worst_is : worst ≡ greatest (told outcomes)

-- a line was pushed, or broke off
abbrev pub PushComes : {T : Type 0} → List ℕ → SinkTold → SinkTold → Result T Failed → Type 0
PushComes line before after (Ok value) = Wrote before after (line ∷ [])
PushComes line before after (Err failed) = BrokeOff before after [] line

-- the last line of a run was pushed, or broke off
abbrev pub SaysLast : Ending → List ℕ → SinkTold → SinkTold → Result (Option Ending) Failed → Type 0
SaysLast e line before after (Ok None) = ⊥
SaysLast e line before after (Ok (Some ending)) = (ending ≡ e) × Wrote before after (line ∷ [])
SaysLast e line before after (Err failed) = BrokeOff before after [] line

-- the machine's tick ended, and its line was pushed or broke off
pub record TickEnds (cycles : ℕ) (old new : Whole) (worst now : ℕ) : Type 0 where
  pub image : new.image ≡ old.image
  pub costs : new.costs ≡ old.costs
  pub going : new.trap ≡ None
  pub worst_is : now ≡ max worst cycles

abbrev pub TickComes : Ticked → ℕ → Whole → Whole → ℕ → ℕ → SinkTold → SinkTold → Result (Option Ending) Failed → Type 0
TickComes (Ends cycles outputs state) tick old new worst now before after (Ok None) =
    TickEnds cycles old new worst now × (new.state ≡ state) × Wrote before after (tick_line tick outputs (Some cycles) ∷ [])
TickComes (Ends cycles outputs state) tick old new worst now before after (Ok (Some e)) = ⊥
TickComes (Ends cycles outputs state) tick old new worst now before after (Err failed) = BrokeOff before after [] (tick_line tick outputs (Some cycles))
TickComes (Trapped kind at charged) tick old new worst now before after result = SaysLast (end.Trapped at tick) (line_of (end.Trapped at tick)) before after result

-- a step after these rows: one tick more is done, or the run has ended, or its report broke off
abbrev pub StepComes : Start → List (List ℤ) → Whole → Reader → ℕ → SourceTold → SinkTold → Result (Option Ending) Failed → Type 0
StepComes start rows machine reader worst source sink (Ok None) = (row : List ℤ) × IsUnderWay start (rows ++ row ∷ []) machine reader worst source sink
StepComes start rows machine reader worst source sink (Ok (Some e)) = RunWrote start.image start.costs start.most start.source source start.sink sink e
StepComes start rows machine reader worst source sink (Err failed) = RunBreaks start.image start.costs start.most start.source source start.sink sink

-- what a run comes to
abbrev pub RunComes : Start → SourceTold → SinkTold → Result Ending Failed → Type 0
RunComes start source sink (Ok e) = RunWrote start.image start.costs start.most start.source source start.sink sink e
RunComes start source sink (Err failed) = RunBreaks start.image start.costs start.most start.source source start.sink sink

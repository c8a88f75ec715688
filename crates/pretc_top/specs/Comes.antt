-- What a call comes to, whatever its words: docs/commands.md.
use Rattle.std.specs.Prelude.{◌≡◌, ℕ, List, [], ◌∷◌, Option, Some, None}
use Rattle.pt_outside.specs.Told.{SinkTold}
use Rattle.pc_rules.specs.Sources as source
use Rattle.pc_rules.specs.Verdicts.{BreaksFirst}
use Rattle.pretc_run.specs.declared.endings.Ending.{Ending}
use Rattle.pretc_run.specs.declared.endings.Ending.TheVariants.{Usage}
use Rattle.pretc_run.specs.Endings.{number_of, line_of, write_fault}
use Rattle.pretc_run.specs.Writing.{IsAnswered, Answers}
use Rattle.pretc_top.specs.declared.commands.Command.{Command}
use Rattle.pretc_top.specs.declared.commands.Command.TheVariants.{Go, Run, Check, Print, Rules, Mean, Gen, Job, Exec}
use Rattle.pretc_top.specs.Outside.{Outside}
use Rattle.pretc_top.specs.Go.{IsUnready, GoRan, GoBroke}
use Rattle.pretc_top.specs.Run.{RunUnready, RunRan, RunBroke}
use Rattle.pretc_top.specs.Check.{CheckEnds}
use Rattle.pretc_top.specs.Says.{SaysEnds, IsPrinted, IsRuled, GenEnds}
use Rattle.pretc_top.specs.Job.{JobEnds}
use Rattle.pretc_top.specs.Exec.{ExecUnready, ExecRan, ExecBroke}
use Rattle.pretc_top.specs.Mean.{MeanRan, MeanBroke}
use Rattle.pretc_top.specs.Loading.{ProgramFails}

-- a call ended so, with lines that were due, and they were written and sent or broke off
pub record Concludes (P : List (List ℕ) → Ending → Type 0) (sink now : SinkTold) (answer : ℕ) : Type 0 where
  pub due : List (List ℕ)
  pub ending : Ending
  pub ends : P due ending
  pub answers : Answers due (number_of ending) sink now answer

-- how a command ends that has read nothing of the trace, with the lines that are due; words that are none touch nothing
pub data Ends (old new : Outside) : Option (Command (List ℕ)) → List (List ℕ) → Ending → Type 0 where
  no_command : new.shelf ≡ old.shelf → Ends old new None (line_of Usage ∷ []) Usage
  go_ends : (program image : List ℕ) (e : Ending) → IsUnready program image old.shelf new.shelf e →
      Ends old new (Some (Go program image)) (line_of e ∷ []) e
  run_ends : (program costs image cert : List ℕ) (e : Ending) → RunUnready program costs image cert old.shelf new.shelf e →
      Ends old new (Some (Run program costs image cert)) (line_of e ∷ []) e
  check_ends : (image cert costs : List ℕ) (due : List (List ℕ)) (e : Ending) → CheckEnds image cert costs old.shelf new.shelf due e →
      Ends old new (Some (Check image cert costs)) due e
  print_ends : (program : List ℕ) (due : List (List ℕ)) (e : Ending) →
      SaysEnds source.Breaks IsPrinted program old.shelf new.shelf due e → Ends old new (Some (Print program)) due e
  rules_ends : (program : List ℕ) (due : List (List ℕ)) (e : Ending) →
      SaysEnds BreaksFirst IsRuled program old.shelf new.shelf due e → Ends old new (Some (Rules program)) due e
  mean_ends : (program : List ℕ) (e : Ending) → ProgramFails BreaksFirst program old.shelf new.shelf e →
      Ends old new (Some (Mean program)) (line_of e ∷ []) e
  exec_ends : (image cert costs : List ℕ) (e : Ending) → ExecUnready image cert costs old.shelf new.shelf e →
      Ends old new (Some (Exec image cert costs)) (line_of e ∷ []) e
  gen_ends : (n : ℕ) (due : List (List ℕ)) (e : Ending) → new.shelf ≡ old.shelf → GenEnds n due e → Ends old new (Some (Gen n)) due e
  job_ends : (n : ℕ) (due : List (List ℕ)) (e : Ending) → new.shelf ≡ old.shelf → JobEnds n due e → Ends old new (Some (Job n)) due e

-- how a command ends that has run on the trace, with the lines of its report
pub data Ran (old new : Outside) : Option (Command (List ℕ)) → List (List ℕ) → Ending → Type 0 where
  go_ran : (program image : List ℕ) (due : List (List ℕ)) (e : Ending) → GoRan program image old new due e →
      Ran old new (Some (Go program image)) due e
  run_ran : (program costs image cert : List ℕ) (due : List (List ℕ)) (e : Ending) → RunRan program costs image cert old new due e →
      Ran old new (Some (Run program costs image cert)) due e
  exec_ran : (image cert costs : List ℕ) (due : List (List ℕ)) (e : Ending) → ExecRan image cert costs old new due e →
      Ran old new (Some (Exec image cert costs)) due e
  mean_ran : (program : List ℕ) (due : List (List ℕ)) (e : Ending) → MeanRan program old new due e → Ran old new (Some (Mean program)) due e

-- the report of a command that runs on the trace broke off
pub data Broke (old new : Outside) : Option (Command (List ℕ)) → Type 0 where
  go_broke : (program image : List ℕ) → GoBroke program image old new → Broke old new (Some (Go program image))
  run_broke : (program costs image cert : List ℕ) → RunBroke program costs image cert old new → Broke old new (Some (Run program costs image cert))
  exec_broke : (image cert costs : List ℕ) → ExecBroke image cert costs old new → Broke old new (Some (Exec image cert costs))
  mean_broke : (program : List ℕ) → MeanBroke program old new → Broke old new (Some (Mean program))

-- what a call comes to: it ends and leaves the source as it was, or it has run on the trace, or its report broke off
pub data Comes (command : Option (Command (List ℕ))) (old new : Outside) (answer : ℕ) : Type 0 where
  ends : (due : List (List ℕ)) (e : Ending) → Ends old new command due e → new.source ≡ old.source →
      Answers due (number_of e) old.sink new.sink answer → Comes command old new answer
  ran : (due : List (List ℕ)) (e : Ending) → Ran old new command due e → IsAnswered due (number_of e) old.sink new.sink answer →
      Comes command old new answer
  broke : answer ≡ write_fault → Broke old new command → Comes command old new answer

-- What a report comes to, the flush after it included: docs/commands.md, "The report".
use Rattle.std.specs.Prelude.{◌≡◌, ℕ, ℤ, List, [], ◌∷◌, ◌++◌}
use Rattle.pt_outside.specs.Told.{SourceTold, SinkTold}
use Rattle.pt_image.specs.declared.image.Parts.{Parts}
use Rattle.pretc_run.specs.declared.endings.Ending.{Ending}
use Rattle.pretc_run.specs.Endings.{number_of, write_fault}
use Rattle.pretc_run.specs.Writing.{IsAnswered}
use Rattle.pretc_run.specs.Running.{run_lines, RunEnds, RunBreaks}

-- the run ended, and all its lines are written and sent; or the report broke off, at the latest in the flush after its last line
pub data ReportComes (image : Parts) (costs : List ℕ) (most : ℕ) (before after : SourceTold) (sink now : SinkTold) (answer : ℕ) : Type 0 where
  report_ends : (rows : List (List ℤ)) (last : List ℕ) (e : Ending) → RunEnds image costs most rows before after last e →
      IsAnswered (run_lines image costs most rows ++ last ∷ []) (number_of e) sink now answer → ReportComes image costs most before after sink now answer
  report_breaks : answer ≡ write_fault → RunBreaks image costs most before after sink now → ReportComes image costs most before after sink now answer

-- The end of a report.
use Rattle.std.proofs.Common.{◌≡◌, ℕ, ℤ, List, [], ◌∷◌, ◌++◌}
use Rattle.pt_outside.specs.Told.{SourceTold, SinkTold}
use Rattle.pt_image.specs.declared.image.Parts.{Parts}
use Rattle.mb_isa.specs.Run.{run_of}
use Rattle.pc_meaning.specs.Tree.{Program}
use Rattle.pretc_run.specs.declared.endings.Ending.{Ending}
use Rattle.pretc_run.specs.Endings.{number_of}
use Rattle.pretc_run.specs.Told.{AllEnded}
use Rattle.pretc_run.specs.Writing.{Closes, closed, unsent}
use Rattle.pretc_run.specs.Running.{run_lines, RunEnds, run_done, run_bad, run_fault, run_trapped, next_last, RunWrote}
use Rattle.pretc_run.specs.Reporting.{ReportComes, report_ends, report_breaks}
use Rattle.pretc_run.specs.Meant.{meant_lines, next_end, MeanWrote, MeanComes, mean_ends, mean_breaks}
use Rattle.pretc_run.proofs.Written.{answered_closed, unsent_last}

-- a run that has ended has ended all its ticks
ends_ended : {image : Parts} {costs : List ℕ} {most : ℕ} {rows : List (List ℤ)} {before after : SourceTold} {last : List ℕ} {e : Ending} →
    RunEnds image costs most rows before after last e → AllEnded (run_of image costs most rows)
ends_ended (run_done ticked whole stays) = ticked.ended
ends_ended (run_bad rule line ticked bad stays) = ticked.ended
ends_ended (run_fault ticked cut failed) = ticked.ended
ends_ended (run_trapped row kind at read ended trapped stays) = ended

-- all lines of a run are written, and the call is closed
pub report_closes : (image : Parts) (costs : List ℕ) (most : ℕ) (before after : SourceTold) (sink mid now : SinkTold) (e : Ending) (answer : ℕ) →
    RunWrote image costs most before after sink mid e → Closes (number_of e) mid now answer → ReportComes image costs most before after sink now answer
report_closes image costs most before after sink mid now e answer w (closed h) =
    report_ends w.rows w.last e w.ends (answered_closed sink mid now (run_lines image costs most w.rows ++ w.last ∷ []) (number_of e) answer w.wrote h)
report_closes image costs most before after sink mid now e answer w (unsent is h) =
    report_breaks is (record {
      rows = w.rows;
      ended = ends_ended w.ends;
      next = w.last;
      is_next = next_last e w.last w.ends;
      broke = unsent_last sink mid now (run_lines image costs most w.rows) w.last w.wrote h;
    })

-- all lines of a meaning are written, and the call is closed
pub mean_closes : (program : Program) (before after : SourceTold) (sink mid now : SinkTold) (e : Ending) (answer : ℕ) →
    MeanWrote program before after sink mid e → Closes (number_of e) mid now answer → MeanComes program before after sink now answer
mean_closes program before after sink mid now e answer w (closed h) =
    mean_ends w.rows w.last e w.ends (answered_closed sink mid now (meant_lines program w.rows ++ w.last ∷ []) (number_of e) answer w.wrote h)
mean_closes program before after sink mid now e answer w (unsent is h) =
    mean_breaks is (record {
      rows = w.rows;
      next = w.last;
      is_next = next_end e w.last w.ends;
      broke = unsent_last sink mid now (meant_lines program w.rows) w.last w.wrote h;
    })

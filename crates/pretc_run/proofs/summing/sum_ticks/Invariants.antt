use Rattle.std.proofs.Common.{◌≡◌, ◌-◌, ◌≤◌, length}
use Rattle.pt_trace.specs.Report.{greatest}
use Rattle.mb_isa.specs.Run.{run_of}
use Rattle.pretc_run.specs.Told.{told}
use Rattle.pretc_run.specs.Counted.{counted_rows, sum_of}
use Rattle.pretc_run.proofs.Counting.{IsCounted}
use Rattle.pretc_run.proofs.summing.sum_ticks.Given as goal

-- the ticks so far are counted in
abbrev pub invariant-ticks : goal.invariant-ticks
invariant-ticks l = record {
  few : l.tick ≤ 1000;
  inputs : length l.row ≡ length l.fn.machine.image.inputs;
  places : length l.outputs ≡ length l.fn.machine.image.outputs;
  counted : IsCounted l.fn.machine.image l.fn.machine.costs l.most (length l.fn.machine.image.inputs)
      (sum_of (told (run_of l.fn.machine.image l.fn.machine.costs l.most (counted_rows (length l.fn.machine.image.inputs) 0 1000))))
      (greatest (told (run_of l.fn.machine.image l.fn.machine.costs l.most (counted_rows (length l.fn.machine.image.inputs) 0 1000))))
      l.machine l.tick (1000 - l.tick) l.totals;
}

abbrev pub decreases-ticks : goal.decreases-ticks
decreases-ticks l = 1000 - l.tick

use Rattle.std.proofs.Common.{◌≡◌, ◌≤◌, ◌-◌, ℤ, List, [], length}
use Rattle.pretc_run.specs.UnderWay.{Start, IsUnderWay}
use Rattle.pretc_run.proofs.running.run_trace.Given as goal

-- the ticks on some rows are done
abbrev pub invariant-ticks : goal.invariant-ticks
invariant-ticks g l = record {
  under_way : (start : Start) → start.most ≡ l.most → IsUnderWay start [] l.fn.machine l.fn.reader 0 (g.I.Source.told l.fn.input) (g.O.Sink.told l.fn.out)
      → (rows : List (List ℤ)) × IsUnderWay start rows l.machine l.reader l.worst (g.I.Source.told l.input) (g.O.Sink.told l.out);
  width : length l.row ≡ l.reader.width;
  inputs : length l.row ≡ length l.machine.image.inputs;
  places : length l.outputs ≡ length l.machine.image.outputs;
  few : length l.machine.image.outputs ≤ 64;
  kept : length l.reader.kept ≤ 2048;
}

abbrev pub decreases-ticks : goal.decreases-ticks
decreases-ticks g l = 1000000 - l.reader.given

use Rattle.std.proofs.Common.{◌≡◌, ◌≤◌, ◌-◌, ℤ, List, [], length}
use Rattle.pc_meaning.specs.Programs.{program_of}
use Rattle.pretc_run.specs.MeanUnderWay.{MeanStart, IsMeaning}
use Rattle.pretc_run.proofs.meaning.mean_trace.Given as goal

-- the ticks on some rows are done
abbrev pub invariant-ticks : goal.invariant-ticks
invariant-ticks g l = record {
  under_way : (start : MeanStart) → IsMeaning start [] l.fn.meaning l.fn.reader (g.I.Source.told l.fn.input) (g.O.Sink.told l.fn.out)
      → (rows : List (List ℤ)) × IsMeaning start rows l.meaning l.reader (g.I.Source.told l.input) (g.O.Sink.told l.out);
  width : length l.row ≡ l.reader.width;
  places : length l.outputs ≡ length (program_of l.meaning.typing).outputs;
  few : length l.outputs ≤ 64;
  kept : length l.reader.kept ≤ 2048;
}

abbrev pub decreases-ticks : goal.decreases-ticks
decreases-ticks g l = 1000000 - l.reader.given

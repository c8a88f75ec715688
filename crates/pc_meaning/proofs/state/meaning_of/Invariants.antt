use Rattle.std.proofs.Common.{◌≡◌, ◌++◌, drop, map}
use Rattle.pc_meaning.specs.Runs.{outputs_at, moments_from, meaning_of}
use Rattle.pc_meaning.specs.Programs.{program_of}
use Rattle.pc_meaning.specs.Moments.{moment}
use Rattle.pc_meaning.proofs.state.meaning_of.Given as goal

abbrev pub invariant-loop-row : goal.invariant-loop-row
invariant-loop-row l = record {
  typing : l.meaning.typing ≡ l.typed;
  ticks : l.ticks.items ++ map (outputs_at (program_of l.typed)) (moments_from (program_of l.typed) (moment l.meaning) (drop l.row-index l.rows)) ≡ meaning_of (program_of l.typed) l.rows;
}

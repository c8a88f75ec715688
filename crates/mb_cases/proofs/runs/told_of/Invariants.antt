use Rattle.std.proofs.Common.{◌≡◌}
use Rattle.mb_cases.proofs.runs.told_of.Given as goal

abbrev pub invariant-loop-row : goal.invariant-loop-row
invariant-loop-row l = l.machine.image ≡ l.image

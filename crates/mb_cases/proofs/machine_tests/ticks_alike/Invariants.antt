use Rattle.std.proofs.Common.{◌≡◌}
use Rattle.mb_cases.proofs.machine_tests.ticks_alike.Given as goal

abbrev pub invariant-loop : goal.invariant-loop
invariant-loop l = l.machine.image ≡ l.image

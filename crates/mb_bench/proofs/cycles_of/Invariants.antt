use Rattle.std.proofs.Common.{◌≡◌, length}
use Rattle.mb_bench.proofs.cycles_of.Given as goal

abbrev pub invariant-loop : goal.invariant-loop
invariant-loop l = record { image : l.machine.image ≡ l.fn.machine.image; outputs : length l.outputs ≡ length l.fn.outputs }

use Rattle.std.proofs.Common.{◌≡◌, ◌++◌, drop}
use Rattle.pc_emit.specs.Made.{numbers_by}
use Rattle.pc_emit.proofs.used.numbers.Given as goal

abbrev pub invariant-loop-function : goal.invariant-loop-function
invariant-loop-function l =
    l.numbers.items ++ numbers_by l.slots l.count l.function (drop l.function l.called) ≡ numbers_by l.slots 0 0 l.called

use Rattle.std.proofs.Common.{◌≡◌, take}
use Rattle.pretc_run.specs.Counted.{added}
use Rattle.pretc_run.proofs.summing.added.Given as goal

-- the values so far are added
abbrev pub invariant-loop-value : goal.invariant-loop-value
invariant-loop-value l = l.total ≡ added l.sum (take l.value-index l.values)

use Rattle.std.proofs.Common.{◌≡◌, ◌+◌, drop}
use Rattle.pc_meaning.specs.Programs.{number_of}
use Rattle.pc_lower.proofs.marks.number.Given as goal

abbrev pub invariant-loop-other : goal.invariant-loop-other
invariant-loop-other l = l.count + number_of (drop l.other-index l.spans) l.span ≡ number_of l.spans l.span

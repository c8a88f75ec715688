use Rattle.std.proofs.Common.{length}
use Rattle.pretc_top.proofs.Lines.{IsPushed}
use Rattle.pretc_top.proofs.printing.push_lines.Given as goal

-- the lines before the rest were pushed
abbrev pub invariant-lines : goal.invariant-lines
invariant-lines g l = IsPushed l.text l.rest (g.O.Sink.told l.fn.out) (g.O.Sink.told l.out)

abbrev pub decreases-lines : goal.decreases-lines
decreases-lines g l = length l.rest

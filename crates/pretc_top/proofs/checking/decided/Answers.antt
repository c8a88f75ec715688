use Rattle.std.proofs.Common.{sym, subst}
use Rattle.pretc_top.specs.declared.saying.Saying.{Saying}
use Rattle.pretc_top.specs.Check.{Decided}
use Rattle.pretc_top.proofs.Judging.{yes_at, no_at}
use Rattle.pretc_top.proofs.checking.decided.Goals as goal

pub returns-in-Yes : goal.returns-in-Yes
returns-in-Yes c =
    yes_at c.args.image.now c.args.cert.now c.args.costs.now c.yes_line.new.into c.check.result c.in-Yes.reached c.bound.result c.bound.ensures c.in-Yes.is
    c.check.ensures.accepted c.check.ensures.free_ticks c.check.ensures.runs c.check.ensures.reached c.check.ensures.worst c.yes_line.ensures

pub returns-in-No : goal.returns-in-No
returns-in-No c =
    let P : Saying → Type 0 = λ s. Decided c.args.image.now c.args.cert.now c.args.costs.now s.line s.ending in
    subst P (sym c.said.ensures)
    (no_at c.args.image.now c.args.cert.now c.args.costs.now c.check.result c.in-No.condition c.in-No.at c.in-No.level c.in-No.needed c.in-No.given c.check.ensures.verdict c.in-No.is)

use Rattle.std.proofs.Common.{◌∙◌, sym}
use Rattle.mb_pfu.proofs.Trees.{busy-here, busy-past}
use Rattle.mb_pfu.proofs.table.any_busy.Goals as goal

pub returns-then-is_some : goal.returns-then-is_some
returns-then-is_some c =
    sym (c.loop-i.invariant ∙ busy-here c.args.lo c.loop-i.i c.args.starts.now c.args.rows.now c.place_of.result c.loop-i-test.true c.place_of.ensures.report (sym c.is_some.ensures ∙ c.if-is_some.true))

pub loop-i-preserved : goal.loop-i-preserved
loop-i-preserved c =
    c.loop-i.invariant ∙ busy-past c.args.lo c.loop-i.i c.args.starts.now c.args.rows.now c.place_of.result c.loop-i-test.true c.place_of.ensures.report (sym c.is_some.ensures ∙ c.if-is_some.false)

use Rattle.std.proofs.Common.{arith, ◌∙◌}
use Rattle.mb_pfu.proofs.Reliefs.{relief-fired, relief-not_fired}
use Rattle.mb_pfu.proofs.row.innermost_fired.Goals as goal

pub returns-then-entry-clause-found : goal.returns-then-entry-clause-found
returns-then-entry-clause-found c = c.loop-i.invariant.rest ∙ relief-fired c.args.watches.now c.loop-i.i _ (omega arith) c.loop-i.invariant.within c.if-entry.true

pub loop-i-preserved : goal.loop-i-preserved
loop-i-preserved c = record {
  within = omega arith;
  rest = c.loop-i.invariant.rest ∙ relief-not_fired c.args.watches.now c.loop-i.i _ (omega arith) c.loop-i.invariant.within c.if-entry.false;
}

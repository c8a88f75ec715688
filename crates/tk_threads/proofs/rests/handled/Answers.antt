use Rattle.std.proofs.Common.{◌≡◌, ◌≤◌, ◌-◌, refl, arith}
use Rattle.tk_paths.specs.declared.view.Side.TheVariants.{ToPause, ToEnd}
use Rattle.tk_threads.proofs.RestLaws.{handled-start, handled-more}
use Rattle.tk_threads.proofs.rests.handled.Goals as goal

pub loop-i-init : goal.loop-i-init
loop-i-init c =
    let e = c.min-i.ensures in
    record {
      within = omega (arith, e);
      low = omega (arith, e);
      pause = handled-start c.args.image.now c.args.costs.now ToPause c.args.aborts.now c.args.count c.min-i.result e;
      end = handled-start c.args.image.now c.args.costs.now ToEnd c.args.aborts.now c.args.count c.min-i.result e;
    }

pub loop-i-preserved : goal.loop-i-preserved
loop-i-preserved c =
    let l = c.loop-i in
    let within = l.invariant.within in
    let low = l.invariant.low in
    let some : 1 ≤ l.i = omega arith in
    record {
      within = omega arith;
      low = omega arith;
      pause =
          handled-more c.args.image.now c.args.costs.now ToPause c.args.aborts.now l.i c.args.count _ c.old_handler-pair.result.0 l.most.0 c.greater.result some within low refl
          c.old_handler-pair.ensures.pause l.invariant.pause c.greater.ensures;
      end =
          handled-more c.args.image.now c.args.costs.now ToEnd c.args.aborts.now l.i c.args.count _ c.old_handler-pair.result.1 l.most.1 c.greater-in-loop-i.result some within low refl
          c.old_handler-pair.ensures.end l.invariant.end c.greater-in-loop-i.ensures;
    }

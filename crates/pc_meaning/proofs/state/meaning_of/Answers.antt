use Rattle.std.proofs.Common.{◌≡◌, ap, ◌∙◌, arith}
use Rattle.std.proofs.lemmas.Grind.{common_steps}
use Rattle.pc_meaning.specs.Runs.{ticked, outputs_at, meaning_of}
use Rattle.pc_meaning.specs.Programs.{program_of}
use Rattle.pc_meaning.specs.Moments.{moment}
use Rattle.pc_meaning.proofs.Going.{one_tick}
use Rattle.pc_meaning.proofs.state.meaning_of.Goals as goal

pub loop-row-preserved : goal.loop-row-preserved
loop-row-preserved c =
    let p = program_of c.args.typed.now in
    let m = moment c.loop-row.meaning in
    let next = moment c.tick.new.self in
    let row = c.row-item.result in
    let typing = c.loop-row.invariant.typing in
    let went =
    c.in_ok-tick.ensures.ticked
    ∙ ap (λ t. ticked (program_of t) m c.items.result.now) typing
    ∙ ap (ticked p m) c.items.ensures
    in
    let out : c.of.result ≡ c.tick.new.out = grind (arith, common_steps) in
    let shown = out ∙ c.in_ok-tick.ensures.outputs ∙ ap (λ t. outputs_at (program_of t) next) typing in
    record {
      typing = c.tick.ensures.typing ∙ typing;
      ticks = one_tick p m next c.loop-row.ticks.items c.push.new.self.items (meaning_of p c.args.rows.now) c.args.rows.now c.loop-row.row-index row c.of.result c.loop-row-test.true c.row-item.is went shown c.in_ok-push.ensures.items c.loop-row.invariant.ticks;
    }

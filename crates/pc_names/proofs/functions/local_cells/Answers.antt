use Rattle.std.proofs.Common.{◌≡◌, ◌+◌, ◌∷◌, drop, ap, ◌∙◌}
use Rattle.pc_grammar.specs.Typing.{cell_number, numbered_value}
use Rattle.pc_grammar.proofs.Lists.{next_at}
use Rattle.pc_names.specs.Names.{cell_in}
use Rattle.pc_names.proofs.Making.{local_added, local_counted, local_named}
use Rattle.pc_names.proofs.functions.local_cells.Goals as goal

pub loop-name-preserved : goal.loop-name-preserved
loop-name-preserved c =
    let before = c.args.known.now in
    let locals = c.args.locals.now in
    let i = c.loop-name.name-index in
    let own = c.loop-name.own in
    let grown = c.in_ok-own-2.own in
    let p = c.loop-name-item.result in
    let rest = drop (i + 1) locals in
    let is : drop i locals ≡ p ∷ rest = next_at locals i p c.loop-name-test.true c.loop-name-item.is in
    let of_is : c.in_ok-of.of ≡ numbered_value (cell_number before own) p.1 = c.in_ok-of.ensures ∙ ap (λ s. numbered_value (cell_in s) p.1) c.of.ensures in
    record {
      typed = local_added before own grown p rest (drop i locals) c.loop-name.all c.push.new.self _ c.loop-name.next c.in_ok-of.of is c.in_ok-own-2.ensures c.in_ok-push.ensures.ok c.loop-name.invariant.counted of_is c.loop-name.invariant.typed;
      counted = local_counted before own grown p rest (drop i locals) c.loop-name.next c.in_ok-own-2.ensures c.loop-name.invariant.counted;
      named = local_named before own grown p rest (drop i locals) _ is c.in_ok-own-2.ensures c.loop-name.invariant.named;
    }

use Rattle.std.proofs.Common.{List}
use Rattle.pc_grammar.specs.declared.programs.Item.{Item}
use Rattle.pc_print.specs.Parts.{text}
use Rattle.pc_print.specs.Canonical.{item, items}
use Rattle.pc_print.proofs.Pieces.{text-append}
use Rattle.pc_print.proofs.Walks.{walk_step}
use Rattle.pc_print.proofs.items.put_items.Goals as goal

pub loop-i-preserved : goal.loop-i-preserved
loop-i-preserved c =
    walk_step (λ (rest : List Item). text (items rest)) (λ (i : Item). text (item i))
    (λ i rest. text-append (item i) (items rest))
    c.args.all.now c.loop-i.i-index c.i-item.result c.loop-i.out.items c.put_item.new.out.items _ c.loop-i-test.true c.i-item.is c.in_ok-put_item.ensures c.loop-i.invariant

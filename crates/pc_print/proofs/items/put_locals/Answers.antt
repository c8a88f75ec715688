use Rattle.std.proofs.Common.{List, Option}
use Rattle.pc_grammar.specs.declared.expressions.Word.{Word}
use Rattle.pc_grammar.specs.declared.expressions.Expr.{Expr}
use Rattle.pc_print.specs.Parts.{text}
use Rattle.pc_print.specs.Canonical.{local, locals}
use Rattle.pc_print.proofs.Pieces.{text-append}
use Rattle.pc_print.proofs.Walks.{walk_step}
use Rattle.pc_print.proofs.items.put_locals.Goals as goal

pub loop-name-preserved : goal.loop-name-preserved
loop-name-preserved c =
    walk_step (λ (rest : List (Word × Option (Expr Word))). text (locals rest)) (λ (p : Word × Option (Expr Word)). text (local p))
    (λ p rest. text-append (local p) (locals rest))
    c.args.all.now c.loop-name.name-index c.loop-name-item.result c.loop-name.out.items c.put_local.new.out.items _ c.loop-name-test.true c.loop-name-item.is c.in_ok-put_local.ensures c.loop-name.invariant

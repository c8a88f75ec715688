use Rattle.std.proofs.Common.{List}
use Rattle.pt_base.specs.declared.operators.BinOp.{BinOp}
use Rattle.pc_grammar.specs.declared.expressions.Word.{Word}
use Rattle.pc_grammar.specs.declared.expressions.Expr.{Expr}
use Rattle.pc_print.specs.Parts.{text}
use Rattle.pc_print.specs.Canonical.{written, pieces, further, operands}
use Rattle.pc_print.proofs.Pieces.{text-append}
use Rattle.pc_print.proofs.Walks.{walk_step}
use Rattle.pc_print.proofs.expressions.+put_expression.Goals as goal

pub put_operands-loop-op-preserved : goal.put_operands-loop-op-preserved
put_operands-loop-op-preserved t c =
    walk_step (λ (rest : List (BinOp × Expr Word)). text (operands c.args.level (pieces rest))) (λ (p : BinOp × Expr Word). text (further c.args.level (p.0, written p.1)))
    (λ p rest. text-append (further c.args.level (p.0, written p.1)) (operands c.args.level (pieces rest)))
    c.args.rest.now c.loop-op.op-index c.loop-op-item.result c.loop-op.out.items c.put_further.new.out.items _ c.loop-op-test.true c.loop-op-item.is c.in_ok-put_further.ensures c.loop-op.invariant

use Rattle.std.proofs.Common.{List}
use Rattle.pc_grammar.specs.declared.expressions.Word.{Word}
use Rattle.pc_grammar.specs.declared.expressions.Expr.{Expr}
use Rattle.pc_print.specs.Parts.{text}
use Rattle.pc_print.specs.Canonical.{expression, more_listed, behind_comma}
use Rattle.pc_print.proofs.Pieces.{text-append}
use Rattle.pc_print.proofs.Walks.{walk_step}
use Rattle.pc_print.proofs.lines.put_more_arguments.Goals as goal

pub loop-e-preserved : goal.loop-e-preserved
loop-e-preserved c =
    walk_step (λ (rest : List (Expr Word)). text (more_listed expression rest)) (λ (e : Expr Word). text (behind_comma (expression e)))
    (λ e rest. text-append (behind_comma (expression e)) (more_listed expression rest))
    c.args.rest.now c.loop-e.e-index c.e-item.result c.loop-e.out.items c.put_further_argument.new.out.items _ c.loop-e-test.true c.e-item.is c.in_ok-put_further_argument.ensures c.loop-e.invariant

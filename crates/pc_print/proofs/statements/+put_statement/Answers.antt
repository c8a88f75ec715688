use Rattle.std.proofs.Common.{List}
use Rattle.pc_grammar.specs.declared.expressions.Word.{Word}
use Rattle.pc_grammar.specs.declared.statements.Stmt.{Stmt}
use Rattle.pc_print.specs.Parts.{text}
use Rattle.pc_print.specs.Canonical.{statement, statements}
use Rattle.pc_print.proofs.Pieces.{text-append}
use Rattle.pc_print.proofs.Walks.{walk_step}
use Rattle.pc_print.proofs.statements.+put_statement.Goals as goal

pub put_statements-loop-s-preserved : goal.put_statements-loop-s-preserved
put_statements-loop-s-preserved t c =
    walk_step (λ (rest : List (Stmt Word)). text (statements c.args.level rest)) (λ (s : Stmt Word). text (statement s c.args.level))
    (λ s rest. text-append (statement s c.args.level) (statements c.args.level rest))
    c.args.all.now c.loop-s.s-index c.s-item.result c.loop-s.out.items c.put_statement.new.out.items _ c.loop-s-test.true c.s-item.is c.in_ok-put_statement.ensures c.loop-s.invariant

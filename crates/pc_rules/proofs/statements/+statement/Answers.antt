use Rattle.std.proofs.Common.{◌≡◌, min, sym, ap, ◌∙◌}
use Rattle.pc_rules.specs.Weights.{expression_weight, loop_words, statement_words}
use Rattle.pc_rules.proofs.Passages.{loop_capped, while_words}
use Rattle.pc_rules.proofs.statements.+statement.Goals as goal

pub statement-returns-in-While : goal.statement-returns-in-While
statement-returns-in-While t c =
    let counted = c.args.counting.now in
    let w = c.in-While in
    let body : c.statement-in-While.result ≡ min 2000001 (statement_words counted w.body) = c.statement-in-While.ensures ∙ ap (λ s. min 2000001 (statement_words counted s)) c.get-in-While.ensures in
    c.turns.ensures
    ∙ ap (λ n. min 2000001 (loop_words counted w.most n c.statement-in-While.result)) c.expression-tested.ensures
    ∙ ap (λ n. min 2000001 (loop_words counted w.most (min 2000001 (expression_weight w.test)) n)) body
    ∙ loop_capped 2000001 counted w.most (expression_weight w.test) (statement_words counted w.body)
    ∙ ap (min 2000001) (while_words counted w.span w.test w.most w.body)
    ∙ ap (λ s. min 2000001 (statement_words counted s)) (sym w.is)

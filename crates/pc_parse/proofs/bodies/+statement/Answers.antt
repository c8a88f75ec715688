use Rattle.std.proofs.Common.{◌∙◌, sym, rules}
use Rattle.pc_parse.proofs.Ends.{is_if, is_while, is_abort, is_weak}
use Rattle.std.proofs.lemmas.Result.{IfErr-weaker}
use Rattle.pc_parse.proofs.Steps.{IsPlain, plain_refuses}
use Rattle.pc_parse.proofs.bodies.+statement.Goals as goal

pub statement-branch-alloc-requires : goal.statement-branch-alloc-requires
statement-branch-alloc-requires t c = (search rules, is_if c.in-Some.token.sort (sym c.statement_beginning.ensures ∙ c.in-If.is))

pub statement-repetition-requires : goal.statement-repetition-requires
statement-repetition-requires t c = (search rules, is_while c.in-Some.token.sort (sym c.statement_beginning.ensures ∙ c.in-While.is))

pub statement-strong_abort-requires : goal.statement-strong_abort-requires
statement-strong_abort-requires t c = (search rules, is_abort c.in-Some.token.sort (sym c.statement_beginning.ensures ∙ c.in-Abort.is))

pub statement-weak_abort-requires : goal.statement-weak_abort-requires
statement-weak_abort-requires t c = (search rules, is_weak c.in-Some.token.sort (sym c.statement_beginning.ensures ∙ c.in-Weak.is))

pub statement-returns-in_default-statement_beginning-clause-err : goal.statement-returns-in_default-statement_beginning-clause-err
statement-returns-in_default-statement_beginning-clause-err t c =
    let plain : IsPlain c.statement_beginning.result = record {
      not_block = c.in_default-statement_beginning.not-Block;
      not_if = c.in_default-statement_beginning.not-If;
      not_while = c.in_default-statement_beginning.not-While;
      not_abort = c.in_default-statement_beginning.not-Abort;
      not_weak = c.in_default-statement_beginning.not-Weak;
    } in
    IfErr-weaker c.simple_statement.result _ _
    (λ f h. plain_refuses c.args.source.now c.args.room c.statement_beginning.result c.args.tokens.now c.in-Some.token c.in-Some.rest.now f c.in-Some.ensures c.statement_beginning.ensures plain h)
    c.simple_statement.ensures.err

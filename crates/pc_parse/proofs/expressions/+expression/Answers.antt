use Rattle.std.proofs.Common.{◌-◌, ◌∷◌, ◌∙◌, sym, subst, arith, rules}
use Rattle.std.proofs.lemmas.Result.{err_from_is_err_and}
use Rattle.pc_parse.proofs.Chains.{chain_goes_on, chain_refuses, chain_ends}
use Rattle.pc_parse.proofs.Pairs.{fails_last}
use Rattle.pc_grammar.specs.declared.expressions.Expr.TheVariants.{Elem}
use Rattle.pc_parse.specs.Expressions.{OperandTakes}
use Rattle.pc_parse.proofs.Holds.{is_name}
use Rattle.pc_parse.proofs.Operands.{takes_name, element_takes, inside_refuses, fails_nothing, fails_deep_unary, fails_deep_inside}
use Rattle.pc_parse.proofs.expressions.+expression.Goals as goal

pub chain_at-returns-in_err-e-clause-err : goal.chain_at-returns-in_err-e-clause-err
chain_at-returns-in_err-e-clause-err t c =
    let p = err_from_is_err_and c.from_residual-in_err-e.result c.from_residual-in_err-e.ensures.1 in
    rw (p.1, p.2) (chain_refuses c.args.source.now c.args.room (c.args.level - 1) c.args.level c.args.tokens.now _ _ _ _ _ _ (omega arith) c.loop-op.invariant c.in-Some.ensures c.in_err-e.ensures.err)

pub chain_at-loop-op-preserved : goal.chain_at-loop-op-preserved
chain_at-loop-op-preserved t c = chain_goes_on c.args.source.now c.args.room (c.args.level - 1) c.args.level c.args.tokens.now _ _ _ _ _ _ _ _ (omega arith) c.loop-op.invariant c.in-Some.ensures c.in_ok-e.ensures.ok c.in_ok-push.ensures.ok

pub chain_at-returns-clause-ok : goal.chain_at-returns-clause-ok
chain_at-returns-clause-ok t c = chain_ends c.args.source.now c.args.room (c.args.level - 1) c.args.level c.args.tokens.now _ _ _ _ (omega arith) c.loop-op.invariant c.in_default.ensures c.in_ok-chain_of.ensures

pub between-returns-in_default-after-clause-err : goal.between-returns-in_default-after-clause-err
between-returns-in_default-after-clause-err t c =
    fails_last c.args.source.now c.args.room c.args.pair _ _ c.args.tokens.now c.in-Some.rest.now c.in_ok-e.e c.in_ok-e.rest.now c.opens.ensures c.closes.ensures c.in-Some.ensures c.in_ok-e.ensures.ok c.in_default-after.ensures

pub operand-returns-in_err-e-in-Parenthesis-clause-err : goal.operand-returns-in_err-e-in-Parenthesis-clause-err
operand-returns-in_err-e-in-Parenthesis-clause-err t c =
    let p = err_from_is_err_and c.from_residual-in_err-e-in-Parenthesis.result c.from_residual-in_err-e-in-Parenthesis.ensures.1 in
    rw (p.1, p.2) (inside_refuses c.args.source.now c.args.room c.args.tokens.now c.in-Some.token c.in-Some.rest.now _ c.in-Some.ensures (sym c.operand_opening.ensures ∙ c.in-Parenthesis.is) (omega arith) c.in_err-e-in-Parenthesis.ensures.err)

pub operand-returns-then-room-eq0-clause-err : goal.operand-returns-then-room-eq0-clause-err
operand-returns-then-room-eq0-clause-err t c =
    fails_deep_unary c.args.source.now c.args.room c.in-Unary.op c.args.tokens.now c.in-Some.token c.in-Some.rest.now c.in-Some.ensures (sym c.operand_opening.ensures ∙ c.in-Unary.is) c.if-room-eq0.true

pub operand-returns-then-room-eq0-2-clause-err : goal.operand-returns-then-room-eq0-2-clause-err
operand-returns-then-room-eq0-2-clause-err t c =
    fails_deep_inside c.args.source.now c.args.room c.args.tokens.now c.in-Some.token c.in-Some.rest.now c.in-Some.ensures (sym c.operand_opening.ensures ∙ c.in-Parenthesis.is) c.if-room-eq0-2.true

pub operand-returns-in-Nothing-clause-err : goal.operand-returns-in-Nothing-clause-err
operand-returns-in-Nothing-clause-err t c =
    fails_nothing c.args.source.now c.args.room c.args.tokens.now c.in-Some.token c.in-Some.rest.now c.in-Some.ensures (sym c.operand_opening.ensures ∙ c.in-Nothing.is)

pub operand-element-requires : goal.operand-element-requires
operand-element-requires t c = (search rules, (is_name c.in-Some.token.sort (sym c.operand_opening.ensures ∙ c.in-Name.is), search rules))

pub operand-returns-in_ok-word-in-Name-clause-ok : goal.operand-returns-in_ok-word-in-Name-clause-ok
operand-returns-in_ok-word-in-Name-clause-ok t c =
    takes_name c.args.source.now c.args.room c.args.tokens.now c.in-Some.token c.in-Some.rest.now c.in_ok-word-in-Name.field-0 c.in-Some.ensures (sym c.operand_opening.ensures ∙ c.in-Name.is) (search rules) c.in_ok-word-in-Name.ensures

pub element-returns-clause-ok : goal.element-returns-clause-ok
element-returns-clause-ok t c =
    subst (λ e. OperandTakes c.args.source.now c.args.room (c.args.token ∷ c.args.rest.now) (Elem c.in_ok-name.name e) c.in_ok-index.last.now) (sym c.in_ok-new.ensures)
    (element_takes c.args.source.now c.args.room c.args.token c.args.rest.now c.in_ok-name.name c.in_ok-index.index c.in_ok-index.last.now c.requires.name (omega arith) c.in_ok-index.ensures.ok (search rules) c.in_ok-name.ensures)

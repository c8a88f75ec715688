use Rattle.std.proofs.Common.{◌++◌, sym, ap, ◌∙◌, append_assoc}
use Rattle.pc_grammar.specs.Uses.{expression_uses}
use Rattle.pc_names.specs.Rest.{chain_uses}
use Rattle.pc_names.proofs.Walks.{chain}
use Rattle.pc_names.proofs.uses.+expression.Goals as goal

pub expression-returns-in_ok-operands-in-Chain : goal.expression-returns-in_ok-operands-in-Chain
expression-returns-in_ok-operands-in-Chain t c =
    let old = c.args.uses.now.items in
    let first = c.in-Chain.first in
    let rest = c.in-Chain.rest in
    c.in_ok-operands-in-Chain.ensures
    ∙ ap (λ us. us ++ chain_uses c.as_slice.result.now) c.in_ok-expression-in-Chain.ensures
    ∙ ap (λ r. (old ++ expression_uses c.get-in-Chain.result.now) ++ chain_uses r) c.as_slice.ensures
    ∙ ap (λ e. (old ++ expression_uses e) ++ chain_uses rest) c.get-in-Chain.ensures
    ∙ append_assoc old (expression_uses first) (chain_uses rest)
    ∙ ap (λ us. old ++ us) (sym (chain first rest))
    ∙ ap (λ e. old ++ expression_uses e) (sym c.in-Chain.is)

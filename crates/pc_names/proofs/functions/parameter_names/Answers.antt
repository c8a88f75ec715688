use Rattle.std.proofs.Common.{◌≡◌, ◌+◌, ◌∷◌, ◌++◌, drop, sym, ap, ◌∙◌}
use Rattle.pc_grammar.proofs.Lists.{next_at}
use Rattle.pc_names.proofs.functions.parameter_names.Goals as goal

pub with-requires : goal.with-requires
with-requires c =
    let parameters = c.args.parameters.now in
    let i = c.loop-word.word-index in
    let names = c.loop-word.names in
    let word = c.word-item.result in
    let is : drop i parameters ≡ word ∷ drop (i + 1) parameters = next_at parameters i word c.loop-word-test.true c.word-item.is in
    c.requires names (drop (i + 1) parameters) word (sym c.loop-word.invariant ∙ ap (λ rest. names ++ rest) is)

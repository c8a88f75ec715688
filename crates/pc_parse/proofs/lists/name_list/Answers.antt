use Rattle.std.proofs.Common.{◌∷◌, [], ◌++◌, ap, ◌∙◌}
use Rattle.std.proofs.lemmas.Result.{err_from_is_err_and}
use Rattle.pc_parse.proofs.Rows.{names_begin, names_go_on, names_refuse}
use Rattle.pc_parse.proofs.lists.name_list.Goals as goal

pub loop-next-init : goal.loop-next-init
loop-next-init c = names_begin c.args.source.now c.args.tokens.now c.in_ok-word.word c.in_ok-word.left.now _ c.in_ok-word.ensures.ok (c.in_ok-push.ensures.ok ∙ ap (λ x. x ++ c.in_ok-word.word ∷ []) c.new-all.ensures)

pub loop-next-preserved : goal.loop-next-preserved
loop-next-preserved c = names_go_on c.args.source.now c.args.tokens.now _ _ _ c.in_ok-word-2.word _ _ c.loop-next.invariant c.in-Some.ensures c.in_ok-word-2.ensures.ok c.in_ok-push-2.ensures.ok

pub returns-in_err-word-2-clause-err : goal.returns-in_err-word-2-clause-err
returns-in_err-word-2-clause-err c =
    let p = err_from_is_err_and c.from_residual-in_err-word-2.result c.from_residual-in_err-word-2.ensures.1 in
    rw (p.1, p.2) (names_refuse c.args.source.now c.args.tokens.now _ _ _ _ c.loop-next.invariant c.in-Some.ensures c.in_err-word-2.ensures.err)

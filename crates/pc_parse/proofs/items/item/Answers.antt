use Rattle.std.proofs.Common.{◌∙◌, sym}
use Rattle.std.proofs.lemmas.Result.{err_from_is_err_and, IfErr-weaker}
use Rattle.pc_parse.proofs.Openings.{is_void}
use Rattle.pc_parse.proofs.ItemSteps.{name_refuses, behind_refuses, fails_nothing}
use Rattle.pc_parse.proofs.items.item.Goals as goal

pub returns-in_err-name-in-Int-clause-err : goal.returns-in_err-name-in-Int-clause-err
returns-in_err-name-in-Int-clause-err c =
    let p = err_from_is_err_and c.from_residual.result c.from_residual.ensures.1 in
    rw (p.1, p.2) (name_refuses c.args.source.now c.args.tokens.now c.in-Some.token c.in-Some.rest.now _ c.in-Some.ensures (sym c.opens_item.ensures ∙ c.in-Int.is) c.in_err-name-in-Int.ensures.err)

pub routine-requires : goal.routine-requires
routine-requires c = is_void c.in-Some.token.sort (sym c.opens_item.ensures ∙ c.in-Void.is)

pub returns-in_ok-name-in-Int-clause-err : goal.returns-in_ok-name-in-Int-clause-err
returns-in_ok-name-in-Int-clause-err c =
    IfErr-weaker c.named_item.result _ _
    (λ f h. behind_refuses c.args.source.now c.args.tokens.now c.in-Some.token c.in-Some.rest.now c.in_ok-name-in-Int.name c.in_ok-name-in-Int.behind.now f c.in-Some.ensures (sym c.opens_item.ensures ∙ c.in-Int.is) c.in_ok-name-in-Int.ensures.ok h)
    c.named_item.ensures.err

pub returns-in-Nothing-clause-err : goal.returns-in-Nothing-clause-err
returns-in-Nothing-clause-err c = fails_nothing c.args.source.now c.args.tokens.now c.in-Some.token c.in-Some.rest.now c.in-Some.ensures (sym c.opens_item.ensures ∙ c.in-Nothing.is)

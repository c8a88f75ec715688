use Rattle.std.proofs.Common.{◌≡◌, Some, ◌∙◌, sym, ap}
use Rattle.std.proofs.lemmas.Result.{err_from_is_err_and}
use Rattle.pc_grammar.specs.declared.tokens.Sort.TheVariants.{Name}
use Rattle.pc_grammar.specs.Refusing.{first}
use Rattle.pc_parse.proofs.Functions.{routine_no_name, routine_frame_refuses, routine_not_closed}
use Rattle.pc_parse.proofs.items.routine.Goals as goal

pub returns-in_default-sort : goal.returns-in_default-sort
returns-in_default-sort c = record {
  ok = tt;
  err = routine_no_name c.args.source.now c.args.token c.args.rest.now c.requires
      (λ h. c.in_default-sort.not-Name (let a : Some c.in-Some.named.sort ≡ Some Name = ap first (sym c.in-Some.ensures) ∙ h in cc));
}

pub returns-in_err-frame-clause-err : goal.returns-in_err-frame-clause-err
returns-in_err-frame-clause-err c =
    let p = err_from_is_err_and c.from_residual-in_err-frame.result c.from_residual-in_err-frame.ensures.1 in
    rw (p.1, p.2) (routine_frame_refuses c.args.source.now c.args.token c.in-Some.named c.args.rest.now c.in-Some.behind.now _ c.requires c.in-Some.ensures c.in-Name.is c.in_err-frame.ensures.err)

pub returns-in_default-after-clause-err : goal.returns-in_default-after-clause-err
returns-in_default-after-clause-err c =
    routine_not_closed c.args.source.now c.args.token c.in-Some.named c.args.rest.now c.in-Some.behind.now c.in_ok-frame.frame c.in_ok-frame.body_end.now c.requires c.in-Some.ensures c.in-Name.is c.in_ok-frame.ensures.ok c.in_default-after.ensures

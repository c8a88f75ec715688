use Rattle.std.proofs.Common.{rules, ◌<◌, ◌^◌, sym, ap, ◌∙◌, FitsSigned, w32, to_z-of_z}
use Rattle.pc_meaning.specs.Values.{value}
use Rattle.pc_meaning.specs.Programs.{expression_of}
use Rattle.pc_meaning.proofs.Trees.{expression-Number}
use Rattle.pc_meaning.proofs.Rolled.{literal}
use Rattle.pc_meaning.proofs.values.+value.Goals as goal

pub value_of-returns-in-Number : goal.value_of-returns-in-Number
value_of-returns-in-Number t c =
    let n = c.in-Number.n in
    let less : n < 2 ^ 32 = search rules in
    let fits : FitsSigned w32 c.cast_signed.result = search rules in
    to_z-of_z fits ∙ c.cast_signed.ensures ∙ literal n less ∙ ap (λ v. value v c.args.store.now) (sym (expression-Number c.args.rooms.now n)) ∙ ap (λ e. value (expression_of c.args.rooms.now e) c.args.store.now) (sym c.in-Number.is)

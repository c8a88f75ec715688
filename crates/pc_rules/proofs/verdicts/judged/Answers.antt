use Rattle.std.proofs.Common.{Result, subst}
use Rattle.pt_base.specs.declared.Refusal.{Refusal}
use Rattle.pc_grammar.specs.Trees.{Program}
use Rattle.pc_rules.specs.Sources.{IsRead}
use Rattle.pc_grammar.specs.Typing.{Typing}
use Rattle.pc_names.specs.Resolving.{IsResolved}
use Rattle.pc_rules.proofs.Phases.{source_refused, names_refused, rules_refused}
use Rattle.pc_rules.proofs.verdicts.judged.Goals as goal

pub returns-in-Err : goal.returns-in-Err
returns-in-Err c = record { verdict = source_refused c.args.text.now c.source_of.result c.in-Err.refusal c.in-Err.is c.source_of.ensures; sizes = tt }

pub returns-in-Err-resolve : goal.returns-in-Err-resolve
returns-in-Err-resolve c =
    let P : Result Program Refusal → Type 0 = λ r. IsRead c.args.text.now r in
    record { verdict = names_refused c.args.text.now c.in-Ok.program c.resolve.result c.in-Err-resolve.refusal c.in-Err-resolve.is (subst P c.in-Ok.is c.source_of.ensures) c.resolve.ensures; sizes = tt }

pub returns-in-Err-judge : goal.returns-in-Err-judge
returns-in-Err-judge c =
    let P : Result Program Refusal → Type 0 = λ r. IsRead c.args.text.now r in
    let Q : Result Typing Refusal → Type 0 = λ r. IsResolved c.in-Ok.program r in
    record {
      verdict = rules_refused c.args.text.now c.in-Ok.program c.in-Ok-resolve.typed c.judge.result c.in-Err-judge.refusal c.in-Err-judge.is (subst P c.in-Ok.is c.source_of.ensures)
          (subst Q c.in-Ok-resolve.is c.resolve.ensures) c.judge.ensures.verdict;
      sizes = tt;
    }

use Rattle.std.proofs.Common.{sym, subst}
use Rattle.pretc_run.specs.declared.endings.Ending.{Ending}
use Rattle.pretc_top.specs.Run.{Unanalysed, costs_refused, no_memory}
use Rattle.pretc_top.proofs.Carrying.{unanalysed}
use Rattle.pretc_top.proofs.running.analyse_sources.Goals as goal

pub certify-requires : goal.certify-requires
certify-requires c = record { within = c.in-Ok.ensures.verdict.within }

pub returns-in-Err-clause-failed : goal.returns-in-Err-clause-failed
returns-in-Err-clause-failed c = unanalysed _ _ c.in-Err.refusal c.ending_of.result c.in-Err.ensures.verdict c.ending_of.ensures

pub returns-in-Err-costs_of-clause-failed : goal.returns-in-Err-costs_of-clause-failed
returns-in-Err-costs_of-clause-failed c =
    costs_refused c.in-Err-costs_of.ending c.in-Ok.accepted.program c.in-Ok.accepted.typed c.in-Ok.ensures.verdict c.in-Err-costs_of.ensures.failed

pub returns-in-Ok-certify-clause-analysed : goal.returns-in-Ok-certify-clause-analysed
returns-in-Ok-certify-clause-analysed c = record {
  tree = c.in-Ok.accepted.program;
  typing = c.in-Ok.accepted.typed;
  accepted = c.in-Ok.ensures.verdict;
  costs_read = c.in-Ok-costs_of.ensures.read;
  certified = c.in-Ok-certify.ensures.certified;
}

pub returns-clause-failed : goal.returns-clause-failed
returns-clause-failed c =
    let P : Ending → Type 0 = λ e. Unanalysed c.args.sources.now.program c.args.sources.now.costs e in
    subst P (sym c.in-Err-certify.ensures.failed) no_memory

use Rattle.pretc_top.specs.Loading.{program_missing}
use Rattle.pretc_top.proofs.Unread.{unaccepted}
use Rattle.pretc_top.proofs.stages.load_accepted.Goals as goal

pub returns-in-Err-clause-failed : goal.returns-in-Err-clause-failed
returns-in-Err-clause-failed g c = program_missing c.in-Err.ending c.in-Err.ensures.failed

pub returns-clause-failed : goal.returns-clause-failed
returns-clause-failed g c =
    unaccepted _ _ _ c.in-Ok.text c.in-Err-judged.refusal c.ending_of.result c.in-Ok.ensures.held c.in-Err-judged.ensures.verdict c.in-Ok.ensures.kept c.ending_of.ensures

use Rattle.std.proofs.Common.{◌∙◌, ap}
use Rattle.mb_pfu.specs.Rows.{report_in, ready}
use Rattle.mb_pfu.specs.Tree.{reported_number, next_job}
use Rattle.mb_pfu.proofs.Trees.{next-tree, sound-of}
use Rattle.mb_pfu.proofs.Firsts.{job-ready}
use Rattle.mb_pfu.proofs.slots.Slots.next_job.Goals as goal

pub returns-clause-ready : goal.returns-clause-ready
returns-clause-ready c =
    job-ready c.args.self.now _ (sound-of _ _ c.self.invariant c.self.view_is)
    (c.first_ready_of.ensures ∙ ap (λ rs. reported_number (report_in ready rs)) c.deref.ensures.0 ∙ next-tree _ c.self.invariant.spelled ∙ ap next_job c.self.view_is)

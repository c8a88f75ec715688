use Rattle.std.proofs.Common.{◌∙◌, ap}
use Rattle.mb_pfu.specs.Rows.{report_in, due, reported_test}
use Rattle.mb_pfu.specs.Tree.{next_test}
use Rattle.mb_pfu.proofs.Trees.{next_test-tree, sound-of}
use Rattle.mb_pfu.proofs.Firsts.{test-there}
use Rattle.mb_pfu.proofs.slots.Slots.next_test.Goals as goal

pub returns-clause-there : goal.returns-clause-there
returns-clause-there c =
    test-there c.args.self.now _ (sound-of _ _ c.self.invariant c.self.view_is)
    (c.next_test.ensures ∙ ap (λ rs. reported_test (report_in due rs)) c.deref.ensures.0 ∙ next_test-tree _ c.self.invariant.spelled ∙ ap next_test c.self.view_is)

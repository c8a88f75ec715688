use Rattle.std.proofs.Common.{sym, ◌∙◌}
use Rattle.tk_cert.specs.Demands.{first_failing}
use Rattle.tk_paths.specs.Acceptance.{asks}
use Rattle.tk_judge.proofs.Verdicts.{answers-some, answers-none}
use Rattle.tk_judge.proofs.checking.decided.Goals as goal

pub returns-in-Some-clause-verdict : goal.returns-in-Some-clause-verdict
returns-in-Some-clause-verdict c = answers-some (first_failing (asks c.args.image.now c.args.cert.now c.args.costs.now)) c.in-Some.refusal (sym c.in-Some.is ∙ c.judge.ensures.first)

pub returns-in-Some-clause-accepted : goal.returns-in-Some-clause-accepted
returns-in-Some-clause-accepted c = (λ said. absurd said, λ all. absurd (cc (c.in-Some.is, c.judge.ensures.holds.1 all)))

pub returns-in-None-clause-verdict : goal.returns-in-None-clause-verdict
returns-in-None-clause-verdict c = answers-none (first_failing (asks c.args.image.now c.args.cert.now c.args.costs.now)) c.is_reached.result (sym c.in-None.is ∙ c.judge.ensures.first)

pub returns-in-None-clause-accepted : goal.returns-in-None-clause-accepted
returns-in-None-clause-accepted c = (λ said. c.judge.ensures.holds.0 c.in-None.is, λ all. tt)

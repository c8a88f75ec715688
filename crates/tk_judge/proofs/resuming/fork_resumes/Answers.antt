use Rattle.std.proofs.Common.{sym, ap, ◌∙◌}
use Rattle.tk_shape.specs.Refused.{refused}
use Rattle.tk_judge.specs.Asks.{if_any, fork_both, has_restarted}
use Rattle.tk_judge.proofs.Points.{fork_resumes_are}
use Rattle.tk_judge.proofs.resuming.fork_resumes.Goals as goal

pub returns : goal.returns
returns c =
    let holds = c.has_restarted-holds.ensures ∙ (λ t. has_restarted c.args.cert.now (c.from.ensures t) (c.from-2.ensures t)) in
    c.if_restarted.ensures
    ∙ ap (λ b. refused (if_any b (fork_both c.args.image.now c.args.cert.now c.args.costs.now c.args.p.now c.args.lo c.args.count))) holds
    ∙ sym (fork_resumes_are c.args.image.now c.args.cert.now c.args.costs.now c.args.p.now c.args.lo c.args.count)

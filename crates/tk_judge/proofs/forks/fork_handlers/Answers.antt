use Rattle.std.proofs.Common.{◌∙◌, ℕ, Option}
use Rattle.tk_cert.specs.Demands.{at_least}
use Rattle.tk_paths.specs.declared.view.View.TheVariants.{On}
use Rattle.tk_paths.specs.Sums.{plus, most_paused}
use Rattle.tk_paths.specs.Acceptance.{number, more, weak_handlers}
use Rattle.tk_shape.specs.declared.refusal.Refusal.{Refusal}
use Rattle.tk_shape.specs.Refused.{refused}
use Rattle.tk_shape.specs.Children.{starting}
use Rattle.tk_judge.proofs.forks.fork_handlers.Goals as goal

pub returns : goal.returns
returns c =
    let image = c.args.image.now in
    let cert = c.args.cert.now in
    let costs = c.args.costs.now in
    let asked : Option ℕ → ℕ → Option ℕ → Option Refusal =
    λ given charge rest. refused (weak_handlers image cert costs (λ i handler. at_least 5 c.args.place c.args.level given (more charge (plus rest (number image cert costs (On c.args.side i) handler)))) 0 c.args.stack.now c.args.level) in
    let charge = c.from.ensures ∙ c.cost.ensures.cost in
    let rest = c.most_paused.ensures.sum ∙ (λ t. most_paused (starting image cert) (c.from-2.ensures t) (c.from-3.ensures t)) in
    c.rested_handlers.ensures ∙ (λ t. asked (c.number.ensures t) (charge t) (rest t))

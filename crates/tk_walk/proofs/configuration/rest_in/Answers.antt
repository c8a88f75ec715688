use Rattle.std.proofs.Common.{◌≡◌, sym, ap, ◌∙◌}
use Rattle.tk_cert.specs.declared.cert.State.TheVariants.{Free, Start, Ended}
use Rattle.tk_walk.specs.Building.{is_loose}
use Rattle.tk_walk.proofs.Resting.{never}
use Rattle.tk_walk.proofs.configuration.rest_in.Goals as goal

pub returns-in-Free : goal.returns-in-Free
returns-in-Free c =
    never c.args.image.now c.args.states.now c.args.s c.args.unit.now c.requires.building c.requires.ready (ap is_loose (sym c.state_at.ensures ∙ c.in-Free.is))
    (λ e. let e' : Free ≡ Ended = sym c.in-Free.is ∙ c.state_at.ensures ∙ e in cc) c.args.unit.now

pub returns-in-Start : goal.returns-in-Start
returns-in-Start c =
    never c.args.image.now c.args.states.now c.args.s c.args.unit.now c.requires.building c.requires.ready (ap is_loose (sym c.state_at.ensures ∙ c.in-Start.is))
    (λ e. let e' : Start ≡ Ended = sym c.in-Start.is ∙ c.state_at.ensures ∙ e in cc) c.args.unit.now

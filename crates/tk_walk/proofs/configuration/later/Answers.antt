use Rattle.std.proofs.Common.{◌≡◌, false, true, sym, ◌∙◌}
use Rattle.tk_walk.proofs.Beginning.{later-begins, later-not, none-later}
use Rattle.tk_walk.proofs.configuration.later.Goals as goal

pub returns-then-are_states : goal.returns-then-are_states
returns-then-are_states c = later-begins c.args.image.now c.args.states.now c.in-Some.unit c.requires.later c.in-Some.ensures c.sound.ensures.tree c.sound.ensures.others (c.are_states.ensures.0 c.if-are_states.true)

pub returns-in-None : goal.returns-in-None
returns-in-None c = none-later c.args.image.now c.args.states.now c.requires.later c.in-None.ensures

pub returns-else-are_states : goal.returns-else-are_states
returns-else-are_states c =
    later-not c.args.image.now c.args.states.now c.in-Some.unit c.requires.later c.in-Some.ensures c.sound.ensures.tree c.sound.ensures.others
    (λ e. let t : true ≡ false = sym (c.are_states.ensures.1 e) ∙ c.if-are_states.false in cc)

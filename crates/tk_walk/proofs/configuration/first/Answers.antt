use Rattle.std.proofs.Common.{◌≡◌, ℕ, List, get_or, false, true, sym, ap, ◌∙◌}
use Rattle.tk_walk.proofs.Beginning.{first-begins, first-not}
use Rattle.tk_walk.proofs.configuration.first.Goals as goal

pub returns-then-are_states : goal.returns-then-are_states
returns-then-are_states c =
    first-begins c.args.image.now c.args.states.now c.begin-unit.result (get_or c.slots-2.result.now 0 0) (rw c.slots.ensures at c.begin-unit.ensures) (ap (λ (xs : List ℕ). get_or xs 0 0) c.slots-2.ensures) c.requires.start c.sound.ensures.tree c.sound.ensures.others
    (c.are_states.ensures.0 c.if-are_states.true)

pub returns : goal.returns
returns c =
    first-not c.args.image.now c.args.states.now c.begin-unit.result (get_or c.slots-2.result.now 0 0) (rw c.slots.ensures at c.begin-unit.ensures) (ap (λ (xs : List ℕ). get_or xs 0 0) c.slots-2.ensures) c.requires.start c.sound.ensures.tree c.sound.ensures.others
    (λ e. let t : true ≡ false = sym (c.are_states.ensures.1 e) ∙ c.if-are_states.false in cc)

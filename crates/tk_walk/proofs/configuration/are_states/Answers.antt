use Rattle.std.proofs.Common.{◌≡◌, true, false, refl, sym, ap, ◌∙◌, arith, below_more}
use Rattle.mb_pfu.specs.Tree.{slot_of}
use Rattle.tk_paths.specs.Walks.{state_of}
use Rattle.tk_walk.specs.Building.{state_at}
use Rattle.tk_walk.proofs.Loops.{states-length, states-differ, states-same}
use Rattle.tk_walk.proofs.configuration.are_states.Goals as goal

pub returns-then-states-slots : goal.returns-then-states-slots
returns-then-states-slots c = ((λ (h : false ≡ true). cc), (λ e. absurd (omega (arith, states-length c.args.unit.now c.args.states.now e, c.requires.slots))))

pub returns-then-not-are_same : goal.returns-then-not-are_same
returns-then-not-are_same c = (
  (λ (h : false ≡ true). cc),
  (λ e. absurd (states-differ c.args.unit.now c.args.states.now c.loop-s.s (omega (arith, c.requires.slots))
      (λ same.
      let both : c.are_same.result ≡ true = c.are_same.ensures.1 (c.state_at.ensures ∙ same ∙ ap state_of (sym c.slot.ensures) ∙ sym c.state_of.ensures) in
      let e' : true ≡ false = sym both ∙ c.if-not-are_same.true in cc) e)),
)

pub loop-s-preserved : goal.loop-s-preserved
loop-s-preserved c =
    below_more (λ q. state_at c.args.states.now q ≡ state_of (slot_of q c.args.unit.now.tree)) c.loop-s.s c.loop-s.invariant
    (sym c.state_at.ensures ∙ c.are_same.ensures.0 c.if-not-are_same.false ∙ c.state_of.ensures ∙ ap state_of c.slot.ensures)

pub returns : goal.returns
returns c = ((λ h. states-same c.args.unit.now c.args.states.now (omega (arith, c.requires.slots)) (λ q low. c.loop-s.invariant q (omega (arith, c.requires.slots)))), (λ e. refl))

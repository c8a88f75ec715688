use Rattle.std.proofs.Common.{◌≡◌, ◌+◌, ◌-◌, false, List, ◌∷◌, map, drop, get_or, reverse, sym, ap, subst, ◌∙◌, arith}
use Rattle.std.proofs.lemmas.List.{drop_more}
use Rattle.pc_lower.specs.declared.nodes.Node.{Node}
use Rattle.pc_lower.specs.declared.nodes.Node.TheVariants.{Pause}
use Rattle.pc_lower.specs.Trees.{read}
use Rattle.pc_emit.specs.Image.{slot_of}
use Rattle.pc_emit.specs.Sections.{is_among, is_used}
use Rattle.pc_emit.specs.Made.{calls_from}
use Rattle.pc_emit.proofs.Callers.{AreCalls, called-more, unused-more}
use Rattle.pc_emit.proofs.used.calls.Goals as goal

pub loop-number-preserved : goal.loop-number-preserved
loop-number-preserved c =
    let slots = c.args.slots.now in
    let bodies = c.args.bodies.now in
    let l = c.loop-number in
    let g = l.number - 1 in
    let test = c.loop-number-test.true in
    let within = l.invariant.within in
    let n : Node = get_or bodies g (Pause 0) in
    let next : l.number ≡ g + 1 = omega (arith, test) in
    let f : drop g bodies ≡ n ∷ drop l.number bodies =
    drop_more bodies g (Pause 0) (omega (arith, test, within)) ∙ ap (λ i. n ∷ drop i bodies) (sym next) in
    let nodes = map read (drop l.number bodies) in
    let b = c.is_among-is_called.result in
    let is : b ≡ is_among g l.calls.items = c.is_among-is_called.ensures ∙ ap (is_among g) c.deref.ensures.value in
    let not : is_used (slot_of slots g) b ≡ false = sym (c.is_used.ensures ∙ ap (λ s. is_used s b) c.slot_of.ensures.slot) ∙ c.if-is_used.false in
    record {
      within = omega (arith, test, within);
      called =
          ap reverse c.in_ok-push.ensures.items
          ∙ called-more slots g l.number (read n) nodes l.called.items l.calls.items b next l.invariant.called l.invariant.calls is
          ∙ ap (λ (all : List Node). calls_from slots g (map read all)) (sym f);
      calls = subst (λ (all : List Node). AreCalls slots l.calls.items g (map read all)) (sym f)
          (unused-more slots g l.number (read n) nodes l.calls.items b next l.invariant.calls is not);
    }

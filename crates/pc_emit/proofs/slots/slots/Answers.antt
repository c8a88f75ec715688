use Rattle.std.proofs.Common.{◌≡◌, suc, ◌+◌, ◌-◌, ◌++◌, length, map, sym, ap, ◌∙◌, append_assoc, arith}
use Rattle.pc_lower.specs.Trees.{read}
use Rattle.pc_lower.specs.Numbering.{all_started, generations}
use Rattle.pc_emit.proofs.slots.slots.Goals as goal

pub loop-turn-preserved : goal.loop-turn-preserved
loop-turn-preserved c =
    let k = c.loop-turn._turn in
    let test = c.loop-turn-test.true in
    let bodies = map read c.args.bodies.now in
    let all = length c.args.bodies.now in
    let slots = c.loop-turn.slots.items in
    let here = c.loop-turn.generation.items in
    let left : all - k ≡ suc (all - (k + 1)) = omega (arith, test) in
    let next : c.in_ok-generation-2.generation.items ≡ all_started bodies here =
    c.in_ok-generation-2.ensures ∙ ap (all_started bodies) c.deref-in-loop-turn.ensures.value in
    ap (λ l. l ++ generations bodies (all - (k + 1)) c.in_ok-generation-2.generation.items) (c.in_ok-extend_from_slice.ensures.items ∙ ap (λ l. slots ++ l) c.deref.ensures.value)
    ∙ ap (λ l. (slots ++ here) ++ generations bodies (all - (k + 1)) l) next
    ∙ append_assoc slots here (generations bodies (all - (k + 1)) (all_started bodies here))
    ∙ ap (λ n. slots ++ generations bodies n here) (sym left)
    ∙ c.loop-turn.invariant

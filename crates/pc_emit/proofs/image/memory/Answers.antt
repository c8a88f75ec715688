use Rattle.std.proofs.Common.{◌≡◌, pos, suc, ◌+◌, ◌-◌, [], ◌∷◌, ◌++◌, replicate, sym, ap, ◌∙◌, append_assoc, arith}
use Rattle.pc_emit.proofs.image.memory.Goals as goal

pub loop-word-preserved : goal.loop-word-preserved
loop-word-preserved c =
    let k = c.loop-word._word in
    let test = c.loop-word-test.true in
    let left : c.args.further - k ≡ suc (c.args.further - (k + 1)) = omega (arith, test) in
    let more = replicate (c.args.further - (k + 1)) (pos 0) in
    ap (λ words. words ++ more) c.in_ok-push.ensures.items
    ∙ append_assoc c.loop-word.memory.items (pos 0 ∷ []) more
    ∙ ap (λ n. c.loop-word.memory.items ++ replicate n (pos 0)) (sym left)
    ∙ c.loop-word.invariant

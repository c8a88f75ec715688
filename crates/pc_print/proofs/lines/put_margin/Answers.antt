use Rattle.std.proofs.Common.{◌≡◌, suc, ◌+◌, ◌-◌, ◌∷◌, [], ◌++◌, sym, ap, ◌∙◌, append_assoc, arith}
use Rattle.pc_print.specs.Parts.{blanks}
use Rattle.pc_print.proofs.lines.put_margin.Goals as goal

pub loop-turn-preserved : goal.loop-turn-preserved
loop-turn-preserved c =
    let left = c.args.level - (c.loop-turn._turn + 1) in
    let e : c.args.level - c.loop-turn._turn ≡ suc left = omega arith in
    ap (λ x. x ++ blanks left) c.in_ok-extend_from_slice.ensures.items
    ∙ append_assoc c.loop-turn.out.items (32 ∷ 32 ∷ []) (blanks left)
    ∙ ap (λ n. c.loop-turn.out.items ++ blanks n) (sym e)
    ∙ c.loop-turn.invariant

use Rattle.std.proofs.Common.{◌≡◌, ◌+◌, [], drop, ap, sym, ◌∙◌, arith}
use Rattle.std.proofs.lemmas.List.{drop_all}
use Rattle.pc_lower.specs.Flow.{sequence}
use Rattle.pc_lower.specs.Trees.{read, all_read}
use Rattle.pc_lower.proofs.FlowTrees.{read-Sequence}
use Rattle.pc_regs.specs.Words.{writing_of}
use Rattle.pc_emit.specs.Code.{size, sizes}
use Rattle.pc_emit.proofs.sizes.+size.Goals as goal

pub returns-after-loop-node : goal.returns-after-loop-node
returns-after-loop-node t c =
    let w = writing_of c.args.placement in
    let nodes = c.as_slice-nodes.result.now in
    let l = c.loop-node in
    let is : read c.args.node.now ≡ sequence (all_read nodes) =
    ap read c.in-Sequence.is ∙ read-Sequence c.in-Sequence.parts ∙ ap (λ ns. sequence (all_read ns)) (sym c.as_slice-nodes.ensures) in
    let none : drop l.node-index nodes ≡ [] = drop_all l.node-index nodes c.loop-node-test.false in
    let more : l.all ≡ l.all + 0 = omega arith in
    more ∙ ap (λ ns. l.all + sizes w (all_read ns)) (sym none) ∙ l.invariant.all ∙ ap (size w) (sym is)

use Rattle.std.proofs.Common.{◌≡◌, ◌+◌, List, [], length, drop, sym, ap, subst, ◌∙◌, arith, length-append}
use Rattle.std.proofs.lemmas.List.{drop_all}
use Rattle.pc_lower.specs.declared.nodes.Node.{Node}
use Rattle.pc_lower.specs.Flow.{Node as Tree, sequence}
use Rattle.pc_lower.proofs.FlowTrees.{read-Sequence}
use Rattle.pc_lower.specs.Trees.{read, all_read}
use Rattle.pc_lower.specs.Limits.{threads_of, threads_of_all}
use Rattle.pc_regs.specs.Words.{writing_of}
use Rattle.pc_emit.specs.Part.{joined}
use Rattle.pc_emit.specs.Code.{code, codes}
use Rattle.pc_regs.specs.Writings.{NodesWritten}
use Rattle.pc_emit.proofs.Places.{front, joined_nothing, node_more}
use Rattle.pc_emit.proofs.nodes.+put_node.Goals as goal

pub loop-node-preserved : goal.loop-node-preserved
loop-node-preserved t c =
    let w = writing_of c.args.placement in
    let es = c.args.entrances.now in
    let s = c.args.slot in
    let k = c.args.stack.now in
    let l = c.loop-node in
    let out = l.out in
    let n = c.node-item.result in
    let rest = drop (l.node-index + 1) c.as_slice-nodes.result.now in
    let f = front c.as_slice-nodes.result.now l.node-index n c.loop-node-test.true c.node-item.is in
    let next = c.in_ok-next-in-Sequence.ensures.next in
    record {
      part =
          node_more w es s k l.next c.in_ok-next-in-Sequence.next out c.put_node.new.out (read n) (all_read rest) c.in_ok-next-in-Sequence.ensures.part next
          ∙ ap (λ (all : List Node). joined out (codes w es s (all_read all) k l.next (length out.words))) (sym f)
          ∙ l.invariant.part;
      next =
          let old = l.invariant.next in
          let h : length (threads_of_all (all_read (drop l.node-index c.as_slice-nodes.result.now))) ≡ length (threads_of (read n)) + length (threads_of_all (all_read rest)) =
          ap (λ (all : List Node). length (threads_of_all (all_read all))) f ∙ length-append (threads_of (read n)) (threads_of_all (all_read rest)) in
          omega (arith, old, h, next);
      written = (subst (λ (all : List Node). NodesWritten w (all_read all)) f l.invariant.written).1;
    }

pub returns-after-loop-node-clause-part : goal.returns-after-loop-node-clause-part
returns-after-loop-node-clause-part t c =
    let w = writing_of c.args.placement in
    let es = c.args.entrances.now in
    let s = c.args.slot in
    let k = c.args.stack.now in
    let l = c.loop-node in
    let nodes = c.as_slice-nodes.result.now in
    let before = c.args.out.now in
    let is : read c.args.node.now ≡ sequence (all_read nodes) =
    ap read c.in-Sequence.is ∙ read-Sequence c.in-Sequence.parts ∙ ap (λ (ns : List Node). sequence (all_read ns)) (sym c.as_slice-nodes.ensures) in
    let none : drop l.node-index nodes ≡ [] = drop_all l.node-index nodes c.loop-node-test.false in
    sym (joined_nothing l.out)
    ∙ ap (λ (ns : List Node). joined l.out (codes w es s (all_read ns) k l.next (length l.out.words))) (sym none)
    ∙ l.invariant.part
    ∙ ap (λ (n : Tree). joined before (code w es s n k c.args.child (length before.words))) (sym is)

pub returns-after-loop-node-clause-next : goal.returns-after-loop-node-clause-next
returns-after-loop-node-clause-next t c =
    let l = c.loop-node in
    let nodes = c.as_slice-nodes.result.now in
    let is : read c.args.node.now ≡ sequence (all_read nodes) =
    ap read c.in-Sequence.is ∙ read-Sequence c.in-Sequence.parts ∙ ap (λ (ns : List Node). sequence (all_read ns)) (sym c.as_slice-nodes.ensures) in
    let none : drop l.node-index nodes ≡ [] = drop_all l.node-index nodes c.loop-node-test.false in
    let zero : length (threads_of_all (all_read (drop l.node-index nodes))) ≡ 0 = ap (λ (ns : List Node). length (threads_of_all (all_read ns))) none in
    let all : length (threads_of (read c.args.node.now)) ≡ length (threads_of_all (all_read nodes)) = ap (λ (n : Tree). length (threads_of n)) is in
    let old = l.invariant.next in
    omega (arith, zero, all, old)

use Rattle.std.proofs.Common.{◌≡◌, ◌++◌, List, [], length, drop, append-nil, ap, sym, ◌∙◌, arith}
use Rattle.std.proofs.lemmas.List.{drop_all}
use Rattle.pc_lower.specs.declared.nodes.Node.{Node}
use Rattle.pc_lower.specs.Flow.{Node as Tree, sequence}
use Rattle.pc_lower.specs.Trees.{read, all_read}
use Rattle.pc_lower.proofs.FlowTrees.{read-Sequence}
use Rattle.pc_lower.specs.Limits.{threads_of, threads_of_all}
use Rattle.tk_paths.specs.declared.trees.Code.{Code}
use Rattle.tk_paths.specs.declared.trees.Code.TheVariants as code
use Rattle.pc_regs.specs.Words.{writing_of}
use Rattle.pc_emit.specs.Made.{behind, made_code, made_codes}
use Rattle.pc_emit.proofs.thread.+code.Goals as goal

pub returns-in_ok-to-in-Sequence-clause-code : goal.returns-in_ok-to-in-Sequence-clause-code
returns-in_ok-to-in-Sequence-clause-code t c =
    let w = writing_of c.args.placement in
    let ns = c.args.numbers.now in
    let l = c.loop-node in
    let at = c.args.at in
    let child = c.args.child in
    let nodes = c.as_slice-nodes.result.now in
    let is : read c.args.node.now ≡ sequence (all_read nodes) =
    ap read c.in-Sequence.is ∙ read-Sequence c.in-Sequence.nodes ∙ ap (λ (all : List Node). sequence (all_read all)) (sym c.as_slice-nodes.ensures) in
    let none : drop l.node-index nodes ≡ [] = drop_all l.node-index nodes c.loop-node-test.false in
    let parts : l.parts ≡ made_codes w ns (all_read nodes) child at =
    sym (append-nil l.parts) ∙ ap (λ (all : List Node). l.parts ++ made_codes w ns (all_read all) l.next l.place) (sym none) ∙ l.invariant.parts in
    let to : c.in_ok-to-in-Sequence.to ≡ behind w (all_read nodes) at =
    c.in_ok-to-in-Sequence.ensures ∙ ap (λ (all : List Node). behind w (all_read all) l.place) (sym none) ∙ l.invariant.place in
    ap (λ (all : List Code). code.Sequence all c.in_ok-to-in-Sequence.to) parts
    ∙ ap (code.Sequence (made_codes w ns (all_read nodes) child at)) to
    ∙ ap (λ (n : Tree). made_code w ns n child at) (sym is)

pub returns-in_ok-to-in-Sequence-clause-next : goal.returns-in_ok-to-in-Sequence-clause-next
returns-in_ok-to-in-Sequence-clause-next t c =
    let l = c.loop-node in
    let nodes = c.as_slice-nodes.result.now in
    let is : read c.args.node.now ≡ sequence (all_read nodes) =
    ap read c.in-Sequence.is ∙ read-Sequence c.in-Sequence.nodes ∙ ap (λ (all : List Node). sequence (all_read all)) (sym c.as_slice-nodes.ensures) in
    let none : drop l.node-index nodes ≡ [] = drop_all l.node-index nodes c.loop-node-test.false in
    let zero : length (threads_of_all (all_read (drop l.node-index nodes))) ≡ 0 = ap (λ (ns : List Node). length (threads_of_all (all_read ns))) none in
    let all : length (threads_of (read c.args.node.now)) ≡ length (threads_of_all (all_read nodes)) = ap (λ (n : Tree). length (threads_of n)) is in
    let old = l.invariant.next in
    omega (arith, zero, all, old)

use Rattle.std.proofs.Common.{◌≡◌, ◌++◌, List, [], drop, append-nil, ap, sym, ◌∙◌}
use Rattle.std.proofs.lemmas.List.{drop_all}
use Rattle.pc_lower.specs.declared.nodes.Node.{Node}
use Rattle.pc_lower.specs.Flow.{Node as Tree, sequence}
use Rattle.pc_lower.specs.Trees.{read, all_read}
use Rattle.pc_lower.proofs.FlowTrees.{read-Sequence}
use Rattle.tk_paths.specs.declared.trees.Region.{Region}
use Rattle.tk_paths.specs.declared.trees.Region.TheVariants as region
use Rattle.pc_regs.specs.Words.{writing_of}
use Rattle.pc_emit.specs.Made.{behind, made_region, made_regions}
use Rattle.pc_emit.proofs.region.+region.Goals as goal

pub returns-in_ok-to-in-Sequence : goal.returns-in_ok-to-in-Sequence
returns-in_ok-to-in-Sequence t c =
    let w = writing_of c.args.placement in
    let ns = c.args.numbers.now in
    let l = c.loop-node in
    let at = c.args.at in
    let nodes = c.as_slice-nodes.result.now in
    let is : read c.args.node.now ≡ sequence (all_read nodes) =
    ap read c.in-Sequence.is ∙ read-Sequence c.in-Sequence.nodes ∙ ap (λ (all : List Node). sequence (all_read all)) (sym c.as_slice-nodes.ensures) in
    let none : drop l.node-index nodes ≡ [] = drop_all l.node-index nodes c.loop-node-test.false in
    let parts : l.parts ≡ made_regions w ns (all_read nodes) at =
    sym (append-nil l.parts) ∙ ap (λ (all : List Node). l.parts ++ made_regions w ns (all_read all) l.place) (sym none) ∙ l.invariant.parts in
    let to : c.in_ok-to-in-Sequence.to ≡ behind w (all_read nodes) at =
    c.in_ok-to-in-Sequence.ensures ∙ ap (λ (all : List Node). behind w (all_read all) l.place) (sym none) ∙ l.invariant.place in
    ap (λ (all : List Region). region.Sequence all c.in_ok-to-in-Sequence.to) parts
    ∙ ap (region.Sequence (made_regions w ns (all_read nodes) at)) to
    ∙ ap (λ (n : Tree). made_region w ns n at) (sym is)

use Rattle.std.proofs.Common.{ℕ, ◌+◌, List, drop, sym, ap, ◌∙◌}
use Rattle.pc_grammar.specs.declared.statements.Stmt.{Stmt}
use Rattle.pc_meaning.specs.Lefts.{routines_of, trees}
use Rattle.pc_meaning.proofs.Leaving.{drop-at, drop-past}
use Rattle.pc_lower.specs.Flow.{and}
use Rattle.pc_lower.specs.Lowered.{nodes_of}
use Rattle.pc_lower.proofs.Trees.{before, before-push, before-none}
use Rattle.pc_lower.proofs.statements.+node.Goals as goal

pub nodes-loop-s-preserved : goal.nodes-loop-s-preserved
nodes-loop-s-preserved t c =
    let rooms = c.args.rooms.now in
    let functions = c.args.functions.now in
    let all = c.args.all.now in
    let i = c.loop-s.s-index in
    let of_rest = λ (l : List (Stmt ℕ)). nodes_of (routines_of rooms functions) (trees rooms functions l) in
    let nodes = c.loop-s.nodes in
    let rest = of_rest (drop (i + 1) all) in
    ap (λ l. before l rest) c.in_ok-push.ensures.ok
    ∙ before-push nodes c.in_ok-node.node rest
    ∙ ap (λ n. before nodes (and n rest)) c.in_ok-node.ensures
    ∙ ap (λ l. before nodes (of_rest l)) (sym (drop-at all i c.s-item.result c.loop-s-test.true c.s-item.is))
    ∙ c.loop-s.invariant

pub nodes-returns : goal.nodes-returns
nodes-returns t c =
    let rooms = c.args.rooms.now in
    let functions = c.args.functions.now in
    let nodes = c.loop-s.nodes in
    sym (before-none nodes)
    ∙ ap (λ l. before nodes (nodes_of (routines_of rooms functions) (trees rooms functions l))) (sym (drop-past c.args.all.now c.loop-s.s-index c.loop-s-test.false))
    ∙ c.loop-s.invariant

use Rattle.std.proofs.Common.{◌+◌, ◌++◌, map, drop, sym, ap, ◌∙◌}
use Rattle.pc_meaning.specs.Programs.{routine_of, numbering_of}
use Rattle.pc_meaning.specs.Lefts.{trees}
use Rattle.pc_meaning.proofs.Leaving.{drop-at}
use Rattle.pc_lower.specs.Trees.{pairs_of}
use Rattle.pc_lower.specs.Aborts.{aborts_in_all, aborts_of}
use Rattle.pc_lower.specs.Lowered.{conditions_of}
use Rattle.pc_lower.proofs.Trees.{aborts-then}
use Rattle.pc_lower.proofs.conditions.aborts.Goals as goal

pub loop-function-preserved : goal.loop-function-preserved
loop-function-preserved c =
    let rooms = c.args.rooms.now in
    let functions = c.args.functions.now in
    let n = numbering_of functions in
    let i = c.loop-function.function-index in
    let f = c.function-item.result in
    let old = pairs_of c.loop-function.aborts.items in
    aborts-then old (pairs_of c.push_all.new.aborts.items) (aborts_in_all (trees rooms functions f.body)) (aborts_of (map (routine_of rooms n) (drop (i + 1) functions)))
    (c.in_ok-push_all.ensures ∙ ap (λ l. old ++ conditions_of (aborts_in_all (trees rooms functions l))) c.as_slice.ensures)
    ∙ ap (λ l. old ++ conditions_of (aborts_of (map (routine_of rooms n) l))) (sym (drop-at functions i f c.loop-function-test.true c.function-item.is))
    ∙ c.loop-function.invariant

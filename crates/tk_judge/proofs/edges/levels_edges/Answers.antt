use Rattle.std.proofs.Common.{sym, ◌∙◌, ℕ, List, flat_map}
use Rattle.std.specs.List.{range_with_len}
use Rattle.tk_cert.specs.Demands.{Demand}
use Rattle.tk_shape.specs.Refused.{refused}
use Rattle.tk_shape.proofs.Refusals.{refused-past, refused-at}
use Rattle.tk_judge.specs.Asks.{level_edges}
use Rattle.tk_judge.proofs.edges.levels_edges.Goals as goal

pub returns-in-Some : goal.returns-in-Some
returns-in-Some c =
    let f : ℕ → List Demand = level_edges c.args.image.now c.args.cert.now c.args.costs.now c.args.place c.args.line.now c.args.word in
    sym (refused-at f (refused (flat_map (level_edges c.args.image.now c.args.cert.now c.args.costs.now c.args.place c.args.line.now c.args.word) (range_with_len 0 c.args.levels))) c.loop-level.level c.args.levels c.in-Some.refusal c.loop-level-test.true c.loop-level.invariant (sym c.level_edges.ensures ∙ c.in-Some.is))

pub loop-level-preserved : goal.loop-level-preserved
loop-level-preserved c =
    let f : ℕ → List Demand = level_edges c.args.image.now c.args.cert.now c.args.costs.now c.args.place c.args.line.now c.args.word in
    refused-past f (refused (flat_map (level_edges c.args.image.now c.args.cert.now c.args.costs.now c.args.place c.args.line.now c.args.word) (range_with_len 0 c.args.levels))) c.loop-level.level c.args.levels c.loop-level-test.true c.loop-level.invariant (sym c.level_edges.ensures ∙ c.in_default.is)

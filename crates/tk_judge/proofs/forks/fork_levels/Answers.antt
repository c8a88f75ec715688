use Rattle.std.proofs.Common.{sym, ◌∙◌, ℕ, List, flat_map}
use Rattle.std.specs.List.{range_with_len}
use Rattle.tk_cert.specs.Demands.{Demand}
use Rattle.tk_shape.specs.Refused.{refused}
use Rattle.tk_shape.proofs.Refusals.{refused-past, refused-at}
use Rattle.tk_paths.specs.Acceptance.{fork_at_level}
use Rattle.tk_judge.proofs.forks.fork_levels.Goals as goal

pub returns-in-Some : goal.returns-in-Some
returns-in-Some c =
    let f : ℕ → List Demand = fork_at_level c.args.image.now c.args.cert.now c.args.costs.now c.args.place c.args.stack.now c.args.lo c.args.count in
    sym (refused-at f (refused (flat_map (fork_at_level c.args.image.now c.args.cert.now c.args.costs.now c.args.place c.args.stack.now c.args.lo c.args.count) (range_with_len 0 c.args.levels))) c.loop-level.level c.args.levels c.in-Some.refusal c.loop-level-test.true c.loop-level.invariant (sym c.fork_at_level.ensures ∙ c.in-Some.is))

pub loop-level-preserved : goal.loop-level-preserved
loop-level-preserved c =
    let f : ℕ → List Demand = fork_at_level c.args.image.now c.args.cert.now c.args.costs.now c.args.place c.args.stack.now c.args.lo c.args.count in
    refused-past f (refused (flat_map (fork_at_level c.args.image.now c.args.cert.now c.args.costs.now c.args.place c.args.stack.now c.args.lo c.args.count) (range_with_len 0 c.args.levels))) c.loop-level.level c.args.levels c.loop-level-test.true c.loop-level.invariant (sym c.fork_at_level.ensures ∙ c.in_default.is)

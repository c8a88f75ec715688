use Rattle.std.proofs.Common.{sym, ◌∙◌, length, ℕ, List, flat_map}
use Rattle.tk_cert.specs.Demands.{Demand}
use Rattle.tk_paths.specs.Kinds.{places_of}
use Rattle.tk_shape.specs.Refused.{refused}
use Rattle.tk_shape.proofs.Refusals.{refused-past, refused-at}
use Rattle.tk_judge.specs.Asks.{pauses_at}
use Rattle.tk_judge.proofs.pauses.pauses.Goals as goal

pub returns-in-Some : goal.returns-in-Some
returns-in-Some c =
    let f : ℕ → List Demand = pauses_at c.args.image.now c.args.cert.now c.args.costs.now in
    sym (refused-at f (refused (flat_map (pauses_at c.args.image.now c.args.cert.now c.args.costs.now) (places_of c.args.image.now))) c.loop-place.place (length c.code-place-end.result.now) c.in-Some.refusal c.loop-place-test.true c.loop-place.invariant (sym c.pauses_at.ensures ∙ c.in-Some.is))

pub loop-place-preserved : goal.loop-place-preserved
loop-place-preserved c =
    let f : ℕ → List Demand = pauses_at c.args.image.now c.args.cert.now c.args.costs.now in
    refused-past f (refused (flat_map (pauses_at c.args.image.now c.args.cert.now c.args.costs.now) (places_of c.args.image.now))) c.loop-place.place (length c.code-place-end.result.now) c.loop-place-test.true c.loop-place.invariant (sym c.pauses_at.ensures ∙ c.in_default.is)

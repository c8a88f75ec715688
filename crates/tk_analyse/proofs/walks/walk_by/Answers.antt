use Rattle.std.proofs.Common.{◌≡◌, ◌++◌, replicate, length, refl, ap, ◌∙◌, arith}
use Rattle.tk_cert.specs.declared.cert.State.TheVariants.{Free}
use Rattle.tk_paths.specs.Told.{told_by}
use Rattle.tk_analyse.specs.Begun.{begun_by}
use Rattle.tk_plans.specs.Plans.{plans}
use Rattle.tk_analyse.proofs.StoodLaws.{all_stood}
use Rattle.tk_analyse.proofs.BegunLaws.{walk_is}
use Rattle.tk_analyse.proofs.walks.walk_by.Goals as goal

pub returns-clause-exact : goal.returns-clause-exact
returns-clause-exact c =
    let a = c.args in
    let next = plans a.image.now a.lines.now a.bounds.now a.costs.now a.program.now a.most in
    let how = c.beginning_of-how.result in
    let b = begun_by a.image.now a.lines.now a.bounds.now a.costs.now a.program.now a.most how in
    let all : c.loop.counter ≡ length c.slots-count.result.now = omega (arith, c.loop.auto.counter-end, c.loop-test.false) in
    let free = c.loop.invariant ∙ ap (λ n. replicate n Free) all ∙ ap (λ l. replicate (length l) Free) c.slots-count.ensures in
    walk_is a.image.now (told_by a.lines.now a.bounds.now) a.costs.now next how b _ c.begun.new.states.items c.begun.new.answers.items c.begun.new.choices.items
    c.beginning_of-how.ensures refl c.of.ensures
    (all_stood (length a.image.now.slots) b.0 c.loop.states.items c.begun.new.states.items free c.in_ok-begun.ensures.states)
    (c.of-2.ensures ∙ c.in_ok-extend_from_slice.ensures.items ∙ ap (λ l. c.begun.new.answers.items ++ l) c.as_slice.ensures.value)
    (c.in_ok-begun.ensures.answers ∙ ap (λ l. l ++ b.1.0) c.new-answers.ensures.items)
    (c.in_ok-begun.ensures.choices ∙ ap (λ l. l ++ b.1.1) c.new-choices.ensures.items)

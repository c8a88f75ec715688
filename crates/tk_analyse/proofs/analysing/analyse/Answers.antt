use Rattle.std.proofs.Common.{ap, ◌∙◌}
use Rattle.tk_cert.specs.declared.cert.CertParts.{CertParts}
use Rattle.tk_paths.specs.Trees.{read_program}
use Rattle.tk_analyse.proofs.Certified.{certifies, has_shape, has_walk, in_form}
use Rattle.tk_analyse.proofs.analysing.analyse.Goals as goal

pub of-requires : goal.of-requires
of-requires c =
    has_shape c.args.image.now c.args.costs.now (read_program c.args.program.now) c.a_program_is_accepted.ensures c.ranges-2.ensures
    c.cost-tick.ensures.in_range c.requires.program c.in-Ok.parts c.in-Ok.ensures.exact

pub returns-in-Ok-clause-told : goal.returns-in-Ok-clause-told
returns-in-Ok-clause-told c = ap (λ (x : CertParts). x.walk) c.of.ensures ∙ c.in-Ok.ensures.walk

pub returns-in-Ok-clause-walk : goal.returns-in-Ok-clause-walk
returns-in-Ok-clause-walk c =
    has_walk c.args.image.now c.args.costs.now (read_program c.args.program.now) c.a_program_walk_is_in_form.ensures c.ranges-2.ensures
    c.cost-tick.ensures.in_range c.requires.program c.in-Ok.parts c.of.result c.of.ensures c.in-Ok.ensures.exact c.in-Ok.ensures.within
    c.in-Ok.ensures.walk

pub returns-in-Ok-clause-certifies : goal.returns-in-Ok-clause-certifies
returns-in-Ok-clause-certifies c =
    certifies c.args.image.now c.args.costs.now (read_program c.args.program.now) c.a_program_is_accepted.ensures c.a_program_bound_is_worst.ensures
    c.a_yes_bounds_free_ticks.ensures c.a_yes_bounds_runs.ensures c.a_program_walk_costs_the_bound.ensures c.ranges-2.ensures c.cost-tick.ensures.in_range
    c.requires.program c.in-Ok.parts c.of.result c.of.ensures c.in-Ok.ensures.exact c.in-Ok.ensures.within c.in-Ok.ensures.walk

pub returns-in-Ok-clause-in_form : goal.returns-in-Ok-clause-in_form
returns-in-Ok-clause-in_form c =
    in_form c.args.image.now c.args.costs.now (read_program c.args.program.now) c.a_small_program_is_in_form.ensures c.a_program_walk_is_in_form.ensures
    c.ranges-2.ensures c.cost-tick.ensures.in_range c.requires.program c.in-Ok.parts c.of.result c.of.ensures c.in-Ok.ensures.exact
    c.in-Ok.ensures.within c.in-Ok.ensures.walk c.requires.small

use Rattle.std.proofs.Common.{ap, ◌∙◌}
use Rattle.std.specs.Prelude.{slice_get, unwrap_or}
use Rattle.pc_grammar.specs.Typing.{function_number}
use Rattle.pc_names.proofs.Starts.{function_is}
use Rattle.pc_names.proofs.known.Known.function.Goals as goal

pub returns : goal.returns
returns c =
    let w = c.args.name.now in
    c.start_at.ensures
    ∙ ap (λ ns. unwrap_or (slice_get ns (unwrap_or c.number.result 0)) 0) c.deref.ensures.value
    ∙ ap (λ o. unwrap_or (slice_get c.self.inside.functions.items (unwrap_or o 0)) 0) c.number.ensures
    ∙ function_is c.self.inside.before.now c.self.inside.names c.self.inside.functions.items w c.self.invariant.named c.self.invariant.functions_are
    ∙ ap (λ is. function_number is w) c.self.view_is

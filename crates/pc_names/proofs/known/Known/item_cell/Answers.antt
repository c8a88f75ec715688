use Rattle.std.proofs.Common.{ap, ◌∙◌}
use Rattle.std.specs.Prelude.{slice_get, unwrap_or, length}
use Rattle.pc_grammar.specs.Typing.{cells_of, until}
use Rattle.pc_names.proofs.Starts.{item_cell_is}
use Rattle.pc_names.proofs.known.Known.item_cell.Goals as goal

pub returns : goal.returns
returns c =
    let w = c.args.name.now in
    c.start_at.ensures
    ∙ ap (λ ns. unwrap_or (slice_get ns (unwrap_or c.number.result 0)) 0) c.deref.ensures.value
    ∙ ap (λ o. unwrap_or (slice_get c.self.inside.cells.items (unwrap_or o 0)) 0) c.number.ensures
    ∙ item_cell_is c.self.inside.before.now c.self.inside.names c.self.inside.cells.items w c.self.invariant.named c.self.invariant.cells_are
    ∙ ap (λ is. length (cells_of (until w is))) c.self.view_is

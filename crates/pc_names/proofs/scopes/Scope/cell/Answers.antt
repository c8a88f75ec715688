use Rattle.std.proofs.Common.{◌+◌, sym, ap, ◌∙◌}
use Rattle.pc_names.specs.Names.{cell_in}
use Rattle.pc_names.proofs.Starts.{own_cell, other_cell}
use Rattle.pc_names.proofs.scopes.Scope.cell.Goals as goal

pub returns-in-None : goal.returns-in-None
returns-in-None c =
    let inside = c.self.inside in
    c.item_cell.ensures ∙ other_cell inside.known.now inside.own.now c.args.name.now (sym c.in-None.ensures) ∙ ap (λ s. cell_in s c.args.name.now) c.self.view_is

pub returns-in-Some : goal.returns-in-Some
returns-in-Some c =
    let inside = c.self.inside in
    ap (λ n. n + c.in-Some.place) c.cell_count.ensures
    ∙ own_cell inside.known.now inside.own.now c.args.name.now c.in-Some.place (sym c.in-Some.ensures) ∙ ap (λ s. cell_in s c.args.name.now) c.self.view_is

use Rattle.std.proofs.Common.{◌≡◌, ◌<◌, ◌∙◌, sym, length, arith, Some}
use Rattle.mb_core.specs.Tables.{listed_at}
use Rattle.mb_core.proofs.Listings.{absent, present, alone}
use Rattle.mb_core.proofs.tables.is_in.Goals as goal

pub slice_bounds-is_listed-end : goal.slice_bounds-is_listed-end
slice_bounds-is_listed-end c =
    let within : c.in-Some.i < length c.args.points.now = (c.requires.only c.args.place c.in-Some.i (sym c.number_at.ensures ∙ c.in-Some.is)).0 in
    omega arith

pub returns-in-None : goal.returns-in-None
returns-in-None c = sym (absent c.args.points.now c.args.table.now c.args.place c.args.slot c.args.stack.now c.requires (sym c.number_at.ensures ∙ c.in-None.is))

pub returns-in-Some : goal.returns-in-Some
returns-in-Some c =
    let found : listed_at c.args.table.now c.args.place ≡ Some c.in-Some.i = sym c.number_at.ensures ∙ c.in-Some.is in
    let within : c.in-Some.i < length c.args.points.now = (c.requires.only c.args.place c.in-Some.i found).0 in
    c.is_listed.ensures ∙ alone c.args.points.now c.args.place c.args.slot c.in-Some.i c.args.stack.now within
    ∙ sym (present c.args.points.now c.args.table.now c.args.place c.args.slot c.in-Some.i c.args.stack.now c.requires found)

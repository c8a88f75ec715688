use Rattle.std.proofs.Common.{◌≡◌, List, length, take, ap, arith}
use Rattle.pc_grammar.specs.declared.programs.Item.{Item}
use Rattle.pc_grammar.specs.Typing.{cells_of}
use Rattle.pc_names.proofs.Fitting.{At, at, cells_at, own_fits}
use Rattle.pc_names.proofs.functions.functions.Goals as goal

pub add_function-requires-clause-once : goal.add_function-requires-clause-once
add_function-requires-clause-once c =
    let items : List Item = c.args.items.now in
    let item : Item = c.index-items-place.result in
    let here : At items c.loop-place.place item = at items c.loop-place.place item c.loop-place-test.true c.index-items-place.is in
    c.requires.numbered.own_once item here.listed

pub add_function-requires-clause-fit : goal.add_function-requires-clause-fit
add_function-requires-clause-fit c =
    let items : List Item = c.args.items.now in
    let place = c.loop-place.place in
    let item : Item = c.index-items-place.result in
    let here : At items place item = at items place item c.loop-place-test.true c.index-items-place.is in
    let known : length (cells_of c.loop-place.known) ≡ length (cells_of (take place items)) = ap (λ is. length (cells_of is)) c.loop-place.invariant.known in
    omega (arith, known, cells_at items place item c.requires.numbered here, own_fits item)

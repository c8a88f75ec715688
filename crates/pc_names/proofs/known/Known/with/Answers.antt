use Rattle.std.proofs.Common.{◌≡◌, ◌+◌, List, [], ◌∷◌, ◌++◌, map, length, take, sym, ap, ◌∙◌, arith}
use Rattle.std.proofs.lemmas.List.{take_more}
use Rattle.pc_grammar.specs.declared.programs.Item.{Item}
use Rattle.pc_grammar.specs.Places.{word_of, is_among}
use Rattle.pc_grammar.specs.Typing.{cells_of, functions_in}
use Rattle.pc_names.proofs.Starts.{known_with}
use Rattle.pc_names.proofs.Fitting.{At, at, cells_at, functions_at, new_at}
use Rattle.pc_names.proofs.known.Known.with.Goals as goal

pub invariant_of-result : goal.invariant_of-result
invariant_of-result c =
    let old = c.self.inside in
    let place = c.args.place in
    let items : List Item = c.args.items.now in
    let item : Item = c.index-items-place.result in
    let grown : take (place + 1) items ≡ old.before.now ++ item ∷ [] =
    take_more items place item c.requires.inside
    ∙ ap (λ i. take place items ++ i ∷ []) (sym c.index-items-place.is)
    ∙ ap (λ is. is ++ item ∷ []) (sym (c.self.view_is ∙ c.requires.before)) in
    known_with old.before.now (take (place + 1) items) item old.names c.in_ok-names.names old.cells.items c.push.new.self.items old.functions.items c.push-2.new.self.items
    old.cell_count c.cells_with-cell_count.result old.function_count c.functions_with-function_count.result c.self.invariant grown
    (c.in_ok-names.ensures ∙ ap (λ w. old.names ++ w ∷ []) c.name_of.ensures) c.in_ok-push.ensures.items c.in_ok-push-2.ensures.items c.cells_with-cell_count.ensures c.functions_with-function_count.ensures

pub with-requires : goal.with-requires
with-requires c =
    let items : List Item = c.args.items.now in
    let place = c.args.place in
    let item : Item = c.index-items-place.result in
    let old = c.self.inside in
    let here : At items place item = at items place item c.requires.inside c.index-items-place.is in
    ap (λ w. is_among w old.names) c.name_of.ensures
    ∙ ap (is_among (word_of item)) (c.self.invariant.named ∙ ap (map word_of) (c.self.view_is ∙ c.requires.before))
    ∙ new_at items place item c.requires.numbered here

pub cells_with-cell_count-requires : goal.cells_with-cell_count-requires
cells_with-cell_count-requires c =
    let items : List Item = c.args.items.now in
    let place = c.args.place in
    let item : Item = c.index-items-place.result in
    let here : At items place item = at items place item c.requires.inside c.index-items-place.is in
    let all : c.self.inside.cell_count ≡ length (cells_of (take place items)) = c.self.invariant.all_cells ∙ ap (λ is. length (cells_of is)) (c.self.view_is ∙ c.requires.before) in
    omega (arith, all, cells_at items place item c.requires.numbered here)

pub functions_with-function_count-requires : goal.functions_with-function_count-requires
functions_with-function_count-requires c =
    let items : List Item = c.args.items.now in
    let place = c.args.place in
    let item : Item = c.index-items-place.result in
    let here : At items place item = at items place item c.requires.inside c.index-items-place.is in
    let all : c.self.inside.function_count ≡ functions_in (take place items) = c.self.invariant.all_functions ∙ ap functions_in (c.self.view_is ∙ c.requires.before) in
    omega (arith, all, functions_at items place item c.requires.numbered here)

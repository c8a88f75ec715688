use Rattle.std.proofs.Common.{ℕ, ◌<◌, ◌^◌, List, sym, subst}
use Rattle.pc_grammar.specs.declared.programs.Item.{Item}
use Rattle.pc_grammar.specs.Typing.{functions_in}
use Rattle.pc_names.specs.Names.{CanBeNumbered}
use Rattle.pc_names.proofs.Fitting.{can_be_numbered}
use Rattle.pc_names.proofs.resolving.typed.Goals as goal

pub functions-requires-clause-numbered : goal.functions-requires-clause-numbered
functions-requires-clause-numbered c =
    let P : ℕ → Type 0 = λ n. n < 2 ^ 32 in
    subst CanBeNumbered (sym c.items-items.ensures.items) (can_be_numbered c.args.program.now c.items-items.ensures.tree (subst P c.length-length.ensures.length c.length-length.type_inv) c.requires.unbroken)

pub main_number-main-requires : goal.main_number-main-requires
main_number-main-requires c =
    let P : ℕ → Type 0 = λ n. n < 2 ^ 32 in
    let Q : List Item → Type 0 = λ items. functions_in items < 2 ^ 32 in
    let can : CanBeNumbered c.args.program.now.items = can_be_numbered c.args.program.now c.items-items.ensures.tree (subst P c.length-length.ensures.length c.length-length.type_inv) c.requires.unbroken in
    subst Q (sym c.items-items.ensures.items) can.functions_fit

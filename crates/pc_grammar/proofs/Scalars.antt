-- The items of a program of the grammar: an input, an output or a variable of one word, never a parameter's kind.
use Rattle.std.proofs.Common.{◌≡◌, ℕ, Bool, true, false, List, [], ◌∷◌, ◌++◌, ⊎_elim, refl, sym, subst, ap, ◌∙◌}
use Rattle.std.specs.Prelude.{Contains}
use Rattle.pt_base.proofs.Elements.{in_cases, in_none}
use Rattle.pc_grammar.specs.declared.tokens.Token.{Token}
use Rattle.pc_grammar.specs.declared.expressions.Word.{Word}
use Rattle.pc_grammar.specs.declared.programs.CellKind.{CellKind}
use Rattle.pc_grammar.specs.declared.programs.CellKind.TheVariants.{Input, Output, Plain}
use Rattle.pc_grammar.specs.declared.programs.Item.{Item}
use Rattle.pc_grammar.specs.Items.{SpellsReactive, reactive, SpellsFunction, function, SpellsNamedItem, plain, started, array, giving, SpellsItem, input, output, named, routine}
use Rattle.pc_grammar.specs.Programs.{IsProgram, none, more}
use Rattle.pc_grammar.specs.Keeping.{IsTyped}
use Rattle.pc_grammar.specs.Typing.{Typing, typing_of}
use Rattle.pc_grammar.specs.Meant.{MeansWell}
use Rattle.pc_grammar.proofs.Meaning.{is_scalar_kind, is_scalar, whole_means}

reactive_is : {source : List ℕ} {kind : CellKind} {w : List Token} {i : Item} → is_scalar_kind kind ≡ true → SpellsReactive source kind w i → is_scalar i ≡ true
reactive_is e (reactive d s) = e

function_is : {source : List ℕ} {name : Word} {w : List Token} {i : Item} → SpellsFunction source name w i → is_scalar i ≡ true
function_is (function b is d e) = refl

named_is : {source : List ℕ} {name : Word} {w : List Token} {i : Item} → SpellsNamedItem source name w i → is_scalar i ≡ true
named_is (plain z is) = refl
named_is (started d) = refl
named_is (array d) = refl
named_is (giving d) = function_is d

item_is : {source : List ℕ} {w : List Token} {i : Item} → SpellsItem source w i → is_scalar i ≡ true
item_is (input t is d) = reactive_is refl d
item_is (output t is d) = reactive_is refl d
item_is (named p d) = named_is d
item_is (routine t n b is_t is_n is_b d) = refl

items_are : {source : List ℕ} {w : List Token} {items : List Item} → IsProgram source w items → (i : Item) → Contains items i → is_scalar i ≡ true
items_are none i h = absurd (in_none i h)
items_are (more {i = x} {rest = rest} d later) i h = ⊎_elim (λ is. subst (λ z. is_scalar z ≡ true) is (item_is d)) (λ l. items_are later i l) (in_cases x i rest h)

-- what a program with numbers for names keeps is that it means well
pub means_well : (t : Typing) → IsTyped t → MeansWell t
unfolding typing_of
means_well t typed = subst MeansWell (sym typed.same) (whole_means typed.program.items typed.program.length typed.unbroken (items_are typed.tree.spelled))

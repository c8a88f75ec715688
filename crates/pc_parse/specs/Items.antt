-- What an item begins with, and what each function answers that reads an item.
use Rattle.std.specs.Prelude.{ℕ, List}
use Rattle.pc_grammar.specs.declared.tokens.Sort.{Sort}
use Rattle.pc_grammar.specs.declared.tokens.Sort.TheVariants.{IntWord, VoidWord, ReactiveInputWord, ReactiveOutputWord}
use Rattle.pc_grammar.specs.declared.tokens.Token.{Token}
use Rattle.pc_grammar.specs.declared.expressions.Word.{Word}
use Rattle.pc_grammar.specs.declared.programs.CellKind.{CellKind}
use Rattle.pc_grammar.specs.declared.programs.Item.{Item}
use Rattle.pc_parse.specs.Reading.{Takes, Fails, Always}
use Rattle.pc_parse.specs.declared.items.ItemOpening.{ItemOpening}
use Rattle.pc_parse.specs.declared.items.ItemOpening.TheVariants.{Input as InputOpening, Output as OutputOpening, Int as IntOpening, Void as VoidOpening, Nothing as NothingOpening}
use Rattle.pc_grammar.specs.Items.{SpellsFunction, SpellsItem, SpellsNamedItem, SpellsReactive, SpellsSize}

-- what an item begins with
unfoldable pub item_opening_of : Sort → ItemOpening
item_opening_of ReactiveInputWord = InputOpening
item_opening_of ReactiveOutputWord = OutputOpening
item_opening_of IntWord = IntOpening
item_opening_of VoidWord = VoidOpening
item_opening_of _ = NothingOpening

abbrev pub SizeTakes : List Token → ℕ → List Token → Type 0
SizeTakes = Takes SpellsSize Always

abbrev pub SizeFails : List Token → ℕ → Type 0
SizeFails = Fails SpellsSize Always

abbrev pub ReactiveTakes : List ℕ → CellKind → List Token → Item → List Token → Type 0
ReactiveTakes source kind = Takes (SpellsReactive source kind) Always

abbrev pub ReactiveFails : List ℕ → CellKind → List Token → ℕ → Type 0
ReactiveFails source kind = Fails (SpellsReactive source kind) Always

abbrev pub FunctionTakes : List ℕ → Word → List Token → Item → List Token → Type 0
FunctionTakes source name = Takes (SpellsFunction source name) Always

abbrev pub FunctionFails : List ℕ → Word → List Token → ℕ → Type 0
FunctionFails source name = Fails (SpellsFunction source name) Always

abbrev pub NamedItemTakes : List ℕ → Word → List Token → Item → List Token → Type 0
NamedItemTakes source name = Takes (SpellsNamedItem source name) Always

abbrev pub NamedItemFails : List ℕ → Word → List Token → ℕ → Type 0
NamedItemFails source name = Fails (SpellsNamedItem source name) Always

abbrev pub ItemTakes : List ℕ → List Token → Item → List Token → Type 0
ItemTakes source = Takes (SpellsItem source) Always

abbrev pub ItemFails : List ℕ → List Token → ℕ → Type 0
ItemFails source = Fails (SpellsItem source) Always

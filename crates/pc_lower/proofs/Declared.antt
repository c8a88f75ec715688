-- The words that the cells of a program are declared with are of 32 bits.
use Rattle.std.proofs.Common.{ℕ, zero, suc, List, [], ◌∷◌, map, sym, subst, rules}
use Rattle.std.specs.Prelude.{FitsSigned, ℤ, pos, neg_ℤ, replicate}
use Rattle.std.specs.Int.{w32}
use Rattle.std.specs.List.{AllByRecursion}
use Rattle.std.proofs.lemmas.Int.{SFits-int_wrap}
use Rattle.pc_grammar.specs.declared.tokens.Token.{Token}
use Rattle.pc_grammar.specs.declared.expressions.Word.{Word}
use Rattle.pc_grammar.specs.declared.programs.CellKind.{CellKind}
use Rattle.pc_grammar.specs.declared.programs.CellKind.TheVariants.{Parameter, Local}
use Rattle.pc_grammar.specs.declared.programs.Item.{Item}
use Rattle.pc_grammar.specs.declared.programs.Item.TheVariants.{Scalar, Array, Function as FunctionItem}
use Rattle.pc_grammar.specs.Constants.{SpellsStart, positive, negative}
use Rattle.pc_grammar.specs.Items.{SpellsReactive, reactive, SpellsFunction, function, SpellsNamedItem, plain, started, array, giving, SpellsItem, input, output, named, routine}
use Rattle.pc_grammar.specs.Programs.{IsProgram, none, more}
use Rattle.pc_grammar.specs.declared.typed.Cell.{Cell}
use Rattle.pc_grammar.specs.Places.{names_of}
use Rattle.pc_grammar.specs.Typing.{Typing, cell_of, item_cells, cells_of, typing_of}
use Rattle.pc_grammar.specs.Keeping.{IsTyped}
use Rattle.pc_meaning.specs.Programs.{declared_of, program_of}
use Rattle.pc_lower.proofs.FlowWords.{all-append}

zero-fits : FitsSigned w32 (pos 0)
zero-fits = search rules

abbrev ItemFits : Item → Type 0
ItemFits (Scalar kind name start) = FitsSigned w32 start
ItemFits (Array name size) = Unit {0}
ItemFits (FunctionItem name gives parameters locals body result) = Unit {0}

start-fits : {w : List Token} {z : ℤ} → SpellsStart w z → FitsSigned w32 z
start-fits (positive {value = v} a is e) = SFits-int_wrap w32 (pos v)
start-fits (negative {value = v} a m is minus e) = SFits-int_wrap w32 (neg_ℤ (pos v))

reactive-fits : {source : List ℕ} {kind : CellKind} {w : List Token} {i : Item} → SpellsReactive source kind w i → ItemFits i
reactive-fits (reactive p s) = start-fits s

function-fits : {source : List ℕ} {name : Word} {w : List Token} {i : Item} → SpellsFunction source name w i → ItemFits i
function-fits (function b is f e) = tt

named-fits : {source : List ℕ} {name : Word} {w : List Token} {i : Item} → SpellsNamedItem source name w i → ItemFits i
named-fits (plain z is) = zero-fits
named-fits (started s) = start-fits s
named-fits (array s) = tt
named-fits (giving f) = function-fits f

item-fits : {source : List ℕ} {w : List Token} {i : Item} → SpellsItem source w i → ItemFits i
item-fits (input t is r) = reactive-fits r
item-fits (output t is r) = reactive-fits r
item-fits (named p n) = named-fits n
item-fits (routine t n b void name brace f) = tt

program-fits : {source : List ℕ} {ts : List Token} {items : List Item} → IsProgram source ts items → AllByRecursion ItemFits items
program-fits none = tt
program-fits (more i rest) = (item-fits i, program-fits rest)

-- ---- the cells

abbrev CellFits : Cell → Type 0
CellFits k = FitsSigned w32 k.start

own-fit : (kind : CellKind) (ws : List Word) → AllByRecursion CellFits (map (cell_of kind) ws)
own-fit kind [] = tt
own-fit kind (w ∷ ws) = (zero-fits, own-fit kind ws)

item-cells-fit : (i : Item) → ItemFits i → AllByRecursion CellFits (item_cells i)
item-cells-fit (Scalar kind name start) h = (h, tt)
item-cells-fit (Array name size) h = (zero-fits, tt)
item-cells-fit (FunctionItem name gives parameters locals body result) h = all-append CellFits (map (cell_of Parameter) parameters) (map (cell_of Local) (names_of locals)) (own-fit Parameter parameters) (own-fit Local (names_of locals))

cells-fit : (items : List Item) → AllByRecursion ItemFits items → AllByRecursion CellFits (cells_of items)
cells-fit [] h = tt
cells-fit (i ∷ items) h = all-append CellFits (item_cells i) (cells_of items) (item-cells-fit i h.0) (cells-fit items h.1)

same-fit : (n : ℕ) (z : ℤ) → FitsSigned w32 z → AllByRecursion (FitsSigned w32) (replicate n z)
same-fit zero z h = tt
same-fit (suc n) z h = (h, same-fit n z h)

declared-fit : (cells : List Cell) → AllByRecursion CellFits cells → AllByRecursion (FitsSigned w32) (declared_of cells)
declared-fit [] h = tt
declared-fit (k ∷ cells) h = all-append (FitsSigned w32) (replicate k.size k.start) (declared_of cells) (same-fit k.size k.start h.0) (declared-fit cells h.1)

pub declared-words : (t : Typing) → IsTyped t → AllByRecursion (FitsSigned w32) (program_of t).declared
unfolding typing_of
declared-words t typed =
    subst (λ x. AllByRecursion (FitsSigned w32) (program_of x).declared) (sym typed.same)
    (declared-fit (cells_of typed.program.items) (cells-fit typed.program.items (program-fits typed.tree.spelled)))

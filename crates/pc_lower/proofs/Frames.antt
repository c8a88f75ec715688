-- What the grammar promises of each item: a function has a result exactly where it gives one, and its expressions are nested as
-- the grammar nests them.
use Rattle.std.proofs.Common.{◌≡◌, ℕ, Bool, List, [], ◌∷◌, ◌++◌, Option, refl}
use Rattle.std.specs.Prelude.{is_some}
use Rattle.pc_grammar.specs.declared.tokens.Token.{Token}
use Rattle.pc_grammar.specs.declared.expressions.Word.{Word}
use Rattle.pc_grammar.specs.declared.expressions.Expr.{Expr}
use Rattle.pc_grammar.specs.declared.statements.Stmt.{Stmt}
use Rattle.pc_grammar.specs.declared.programs.CellKind.{CellKind}
use Rattle.pc_grammar.specs.declared.programs.Item.{Item}
use Rattle.pc_grammar.specs.declared.programs.Item.TheVariants.{Scalar, Array, Function as FunctionItem}
use Rattle.pc_grammar.specs.Frames.{bare, valued, SpellsLocals, none as no_locals, more as more_locals, framed}
use Rattle.pc_grammar.specs.Items.{SpellsReactive, reactive, SpellsFunction, function, SpellsNamedItem, plain, started, array, giving, SpellsItem, input, output, named, routine}
use Rattle.pc_grammar.specs.Programs.{IsProgram, none as no_items, more as more_items}
use Rattle.pc_grammar.specs.Typing.{cell_number, numbered_value, typed_locals}
use Rattle.pc_meaning.specs.declared.places.Room.{Room}
use Rattle.pc_meaning.specs.Programs.{Numbering, optional, locals_of}
use Rattle.pc_lower.specs.Counts.{SomeNested, StatementsNested, LocalsNested}
use Rattle.pc_lower.proofs.Placed.{placed_statements}
use Rattle.pc_lower.proofs.Spelled.{Small, small_left, small_right}
use Rattle.pc_lower.proofs.Nestings.{AllLiteralsFit, enclosed_nested, body_kept}

pub record FunctionKept (gives : Bool) (locals : List (Word × Option (Expr Word))) (body : List (Stmt Word)) (result : Option (Expr Word)) : Type 0 where
  pub given : is_some result ≡ gives
  pub locals_nested : (rooms : List Room) (before : List Item) (own : List Word) → LocalsNested (locals_of rooms (typed_locals before own locals))
  pub body_nested : (rooms : List Room) (cell function : Word → ℕ) (n : Numbering) → StatementsNested (placed_statements rooms cell function n body)
  pub literals : (rooms : List Room) (cell function : Word → ℕ) (n : Numbering) → AllLiteralsFit (placed_statements rooms cell function n body)
  pub result_nested : (rooms : List Room) (cell : Word → ℕ) → SomeNested (optional rooms (numbered_value cell result))

abbrev pub ItemKept : Item → Type 0
ItemKept (Scalar kind name start) = Unit {0}
ItemKept (Array name size) = Unit {0}
ItemKept (FunctionItem name gives parameters locals body result) = FunctionKept gives locals body result

abbrev pub EachKept : List Item → Type 0
EachKept [] = Unit {0}
EachKept (x ∷ items) = ItemKept x × EachKept items

pub each_at : (before : List Item) (x : Item) (after : List Item) → EachKept (before ++ x ∷ after) → ItemKept x
each_at [] x after k = k.0
each_at (y ∷ before) x after k = each_at before x after k.1

locals_kept : {source : List ℕ} {w : List Token} {locals : List (Word × Option (Expr Word))} → SpellsLocals source w locals → (rooms : List Room) (before : List Item) (own : List Word) → LocalsNested (locals_of rooms (typed_locals before own locals))
locals_kept no_locals rooms before own = tt
locals_kept (more_locals (bare {name = x} z is p) rest) rooms before own = (tt, locals_kept rest rooms before (own ++ x ∷ []))
locals_kept (more_locals (valued {name = x} p d) rest) rooms before own = (enclosed_nested rooms (cell_number before own) d, locals_kept rest rooms before (own ++ x ∷ []))

reactive_kept : {source : List ℕ} {kind : CellKind} {w : List Token} {x : Item} → SpellsReactive source kind w x → ItemKept x
reactive_kept (reactive p s) = tt

function_kept : {source : List ℕ} {name : Word} {w : List Token} {x : Item} → SpellsFunction source name w x → Small w → ItemKept x
function_kept (function {w = w} {v = v} b is (framed {w = ps} {u = ls} {v = body} brace is_brace p l d) r) small =
    let inside = small_right ps (brace ∷ (ls ++ body)) (small_left w (v ++ b ∷ []) small) in
    let small_body = small_right ls body inside.1 in
    record {
      given = refl;
      locals_nested = locals_kept l;
      body_nested = λ rooms cell function n. (body_kept rooms cell function n d small_body).0;
      literals = λ rooms cell function n. (body_kept rooms cell function n d small_body).1;
      result_nested = λ rooms cell. enclosed_nested rooms cell r;
    }

named_kept : {source : List ℕ} {name : Word} {w : List Token} {x : Item} → SpellsNamedItem source name w x → Small w → ItemKept x
named_kept (plain z is) small = tt
named_kept (started s) small = tt
named_kept (array s) small = tt
named_kept (giving f) small = function_kept f small

item_kept : {source : List ℕ} {w : List Token} {x : Item} → SpellsItem source w x → Small w → ItemKept x
item_kept (input t is d) small = reactive_kept d
item_kept (output t is d) small = reactive_kept d
item_kept (named {w = w} {v = v} p d) small = named_kept d (small_right w v small)
item_kept (routine {w = w} t n b is is_name closes (framed {w = ps} {u = ls} {v = body} brace is_brace p l d)) small =
    let inside = small_right ps (brace ∷ (ls ++ body)) (small_left w (b ∷ []) small.1.1) in
    let small_body = small_right ls body inside.1 in
    record {
      given = refl;
      locals_nested = locals_kept l;
      body_nested = λ rooms cell function n. (body_kept rooms cell function n d small_body).0;
      literals = λ rooms cell function n. (body_kept rooms cell function n d small_body).1;
      result_nested = λ rooms cell. tt;
    }

pub items_kept : {source : List ℕ} {w : List Token} {items : List Item} → IsProgram source w items → Small w → EachKept items
items_kept no_items small = tt
items_kept (more_items {w = w} {v = v} d rest) small = (item_kept d (small_left w v small), items_kept rest (small_right w v small))

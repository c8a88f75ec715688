-- The tree of a program with numbers for names: docs/language.md, "Names".
use Rattle.std.specs.Prelude.{ℕ, ◌+◌, pos, List, [], ◌∷◌, ◌++◌, Option, Some, None, map, length, position, take, unwrap_or}
use Rattle.pc_grammar.specs.declared.expressions.Word.{Word}
use Rattle.pc_grammar.specs.declared.expressions.Expr.{Expr, fold-Expr}
use Rattle.pc_grammar.specs.declared.expressions.Expr.TheOpen.{Expr-F, Number as OpenNumber, Var as OpenVar, Elem as OpenElem, Unary as OpenUnary, Chain as OpenChain}
use Rattle.pc_grammar.specs.declared.expressions.Expr.TheVariants.{Number, Var, Elem, Unary, Chain}
use Rattle.pc_grammar.specs.declared.expressions.Goal.{Goal}
use Rattle.pc_grammar.specs.declared.expressions.Goal.TheVariants.{Nothing, Var as GoalVar, Elem as GoalElem}
use Rattle.pc_grammar.specs.declared.statements.Stmt.{Stmt, fold-Stmt}
use Rattle.pc_grammar.specs.declared.statements.Stmt.TheOpen.{Stmt-F, Skip as OpenSkip, Assign as OpenAssign, Call as OpenCall, Block as OpenBlock, If as OpenIf, While as OpenWhile, Eot as OpenEot, Par as OpenPar, Abort as OpenAbort}
use Rattle.pc_grammar.specs.declared.statements.Stmt.TheVariants.{Skip, Assign, Call, Block, If, While, Eot, Par, Abort}
use Rattle.pc_grammar.specs.declared.programs.CellKind.{CellKind}
use Rattle.pc_grammar.specs.declared.programs.CellKind.TheVariants.{Array as ArrayKind, Parameter, Local}
use Rattle.pc_grammar.specs.declared.programs.Item.{Item}
use Rattle.pc_grammar.specs.declared.programs.Item.TheVariants.{Scalar, Array, Function as FunctionItem}
use Rattle.pc_grammar.specs.declared.typed.Cell.{Cell}
use Rattle.pc_grammar.specs.declared.typed.Function.{Function}
use Rattle.pc_grammar.specs.Places.{same_text, has_name, names_of, is_thread}
use Rattle.pc_grammar.specs.Breaking.{is_main_item}

-- ---- trees with numbers for names

abbrev pub numbered_step : (Word → ℕ) → Expr-F Word (Expr ℕ) → Expr ℕ
numbered_step cell (OpenNumber n) = Number n
numbered_step cell (OpenVar w) = Var (cell w)
numbered_step cell (OpenElem w index) = Elem (cell w) index
numbered_step cell (OpenUnary op e) = Unary op e
numbered_step cell (OpenChain first rest) = Chain first rest

-- the expression with a number for each name
abbrev pub numbered : (Word → ℕ) → Expr Word → Expr ℕ
numbered cell = fold-Expr Word (Expr ℕ) (numbered_step cell)

abbrev pub numbered_value : (Word → ℕ) → Option (Expr Word) → Option (Expr ℕ)
numbered_value cell None = None
numbered_value cell (Some e) = Some (numbered cell e)

abbrev pub numbered_goal : (Word → ℕ) → Goal Word → Goal ℕ
numbered_goal cell Nothing = Nothing
numbered_goal cell (GoalVar w) = GoalVar (cell w)
numbered_goal cell (GoalElem w index) = GoalElem (cell w) (numbered cell index)

abbrev pub numbered_statement_step : (Word → ℕ) → (Word → ℕ) → Stmt-F Word (Stmt ℕ) → Stmt ℕ
numbered_statement_step cell function OpenSkip = Skip
numbered_statement_step cell function (OpenAssign goal value) = Assign (numbered_goal cell goal) (numbered cell value)
numbered_statement_step cell function (OpenCall goal f arguments) = Call (numbered_goal cell goal) (function f) (map (numbered cell) arguments)
numbered_statement_step cell function (OpenBlock all) = Block all
numbered_statement_step cell function (OpenIf test first second) = If (numbered cell test) first second
numbered_statement_step cell function (OpenWhile span test most body) = While span (numbered cell test) most body
numbered_statement_step cell function (OpenEot span) = Eot span
numbered_statement_step cell function (OpenPar span threads) = Par span (map function threads)
numbered_statement_step cell function (OpenAbort span weak body test) = Abort span weak body (numbered cell test)

-- the statement with a number for each name of a cell and of a function
abbrev pub numbered_statement : (Word → ℕ) → (Word → ℕ) → Stmt Word → Stmt ℕ
numbered_statement cell function = fold-Stmt Word (Stmt ℕ) (numbered_statement_step cell function)

-- ---- cells in order of declaration

abbrev pub cell_of : CellKind → Word → Cell
cell_of kind w = record { name = w.text; kind = kind; size = 1; start = pos 0 }

abbrev pub item_cells : Item → List Cell
item_cells (Scalar kind name start) = record { name = name.text; kind = kind; size = 1; start = start } ∷ []
item_cells (Array name size) = record { name = name.text; kind = ArrayKind; size = size; start = pos 0 } ∷ []
item_cells (FunctionItem name gives parameters locals body result) = map (cell_of Parameter) parameters ++ map (cell_of Local) (names_of locals)

abbrev pub cells_of : List Item → List Cell
cells_of [] = []
cells_of (i ∷ rest) = item_cells i ++ cells_of rest

-- ---- the number of a name

-- the items before the first of this name
abbrev pub until : Word → List Item → List Item
until w items = take (unwrap_or (position (has_name w) items) 0) items

abbrev pub own_number : ℕ → List Item → Word → Option ℕ → ℕ
own_number base before w (Some k) = base + k
own_number base before w None = length (cells_of (until w before))

-- a cell's number: that of a parameter or local of this name, else that of the first item of this name
unfoldable pub cell_number : List Item → List Word → Word → ℕ
cell_number before own w = own_number (length (cells_of before)) before w (position (same_text w) own)

abbrev pub functions_in : List Item → ℕ
functions_in [] = 0
functions_in (FunctionItem name gives parameters locals body result ∷ rest) = 1 + functions_in rest
functions_in (_ ∷ rest) = functions_in rest

unfoldable pub function_number : List Item → Word → ℕ
function_number before w = functions_in (until w before)

-- ---- functions

abbrev pub numbers_from : {A : Type 0} → ℕ → List A → List ℕ
numbers_from n [] = []
numbers_from n (x ∷ rest) = n ∷ numbers_from (n + 1) rest

abbrev pub typed_locals : List Item → List Word → List (Word × Option (Expr Word)) → List (ℕ × Option (Expr ℕ))
typed_locals before own [] = []
typed_locals before own (p ∷ rest) = (length (cells_of before) + length own, numbered_value (cell_number before own) p.1) ∷ typed_locals before (own ++ p.0 ∷ []) rest

-- the functions of an item, given all items and those before it
abbrev pub typed_item : List Item → List Item → Item → List Function
typed_item all before (FunctionItem name gives parameters locals body result) = record {
  name = name;
  thread = is_thread all name;
  gives = gives;
  parameters = numbers_from (length (cells_of before)) parameters;
  locals = typed_locals before parameters locals;
  body = map (numbered_statement (cell_number before (parameters ++ names_of locals)) (function_number before)) body;
  result = numbered_value (cell_number before (parameters ++ names_of locals)) result;
} ∷ []
typed_item all before _ = []

abbrev pub typed_from : List Item → List Item → List Item → List Function
typed_from all before [] = []
typed_from all before (i ∷ rest) = typed_item all before i ++ typed_from all (before ++ i ∷ []) rest

-- ---- the program

pub record Typing : Type 0 where
  pub cells : List Cell
  pub functions : List Function
  pub main : ℕ
  pub length : ℕ

-- the program of these items with numbers for names
unfoldable pub typing_of : List Item → ℕ → Typing
typing_of items end = record {
  cells = cells_of items;
  functions = typed_from items [] items;
  main = functions_in (take (unwrap_or (position is_main_item items) 0) items);
  length = end;
}

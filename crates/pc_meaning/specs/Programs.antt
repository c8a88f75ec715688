-- The program that the meaning takes, of a program with numbers for names: docs/language.md, "The meaning of a program".
use Rattle.std.specs.Prelude.{ℕ, ◌+◌, nat_lt, ℤ, Bool, true, false, if◌then◌else◌, List, [], ◌∷◌, ◌++◌, map, replicate, slice_get, unwrap_or, Option, Some, None}
use Rattle.pt_base.specs.declared.Span.{Span}
use Rattle.pt_base.specs.declared.operators.BinOp.{BinOp}
use Rattle.pc_grammar.specs.declared.expressions.Expr.{Expr, fold-Expr}
use Rattle.pc_grammar.specs.declared.expressions.Expr.TheOpen.{Expr-F, Number, Var, Elem, Unary, Chain}
use Rattle.pc_grammar.specs.declared.expressions.Goal.{Goal}
use Rattle.pc_grammar.specs.declared.expressions.Goal.TheVariants.{Nothing, Var as GoalVar, Elem as GoalElem}
use Rattle.pc_grammar.specs.declared.statements.Stmt.{Stmt, fold-Stmt}
use Rattle.pc_grammar.specs.declared.statements.Stmt.TheOpen.{Stmt-F, Skip, Assign, Call, Block, If, While, Eot, Par, Abort}
use Rattle.pc_grammar.specs.declared.programs.CellKind.{CellKind}
use Rattle.pc_grammar.specs.declared.programs.CellKind.TheVariants.{Input, Output}
use Rattle.pc_grammar.specs.declared.typed.Cell.{Cell}
use Rattle.pc_grammar.specs.declared.typed.Function.{Function}
use Rattle.pc_grammar.specs.Typing.{Typing}
use Rattle.pc_meaning.specs.declared.places.Room.{Room}
use Rattle.pc_meaning.specs.Tree.{Expression, Operands, number, cell, element, unary, chain, alone, operand, Goal as Target, nowhere, to_cell, to_element, Statement, Statements, skip, assign, call_of, block, if_so, repeat, loop, eot, par, abort, none, each, Routine, Program}

-- ---- cells in the store

-- the words of each cell, one cell after another
abbrev pub rooms_from : ℕ → List Cell → List Room
rooms_from place [] = []
rooms_from place (k ∷ cells) = record { first = place; size = k.size } ∷ rooms_from (place + k.size) cells

abbrev pub rooms_of : List Cell → List Room
rooms_of cells = rooms_from 0 cells

abbrev pub no_room : Room
no_room = record { first = 0; size = 0 }

abbrev pub room_at : List Room → ℕ → Room
room_at rooms c = unwrap_or (slice_get rooms c) no_room

-- the place of a cell's first word
abbrev pub place_of : List Room → ℕ → ℕ
place_of rooms c = (room_at rooms c).first

-- the words that the cells are declared with
abbrev pub declared_of : List Cell → List ℤ
declared_of [] = []
declared_of (k ∷ cells) = replicate k.size k.start ++ declared_of cells

abbrev pub is_input : CellKind → Bool
is_input Input = true
is_input _ = false

abbrev pub is_output : CellKind → Bool
is_output Output = true
is_output _ = false

-- an input, or an output
abbrev pub wanted : Bool → CellKind → Bool
wanted true = is_input
wanted false = is_output

-- the places of the cells of a kind
abbrev pub chosen : (CellKind → Bool) → List Cell → List Room → List ℕ
chosen test [] rooms = []
chosen test (k ∷ cells) [] = []
chosen test (k ∷ cells) (r ∷ rooms) = if test k.kind then r.first ∷ chosen test cells rooms else chosen test cells rooms

-- ---- each `EOT`, `PAR` and abort has its number among those of the text, counted from 0

abbrev pub joined : {A : Type 0} → List (List A) → List A
joined [] = []
joined (l ∷ rest) = l ++ joined rest

abbrev pub or_none : {A : Type 0} → Option (List A) → List A
or_none None = []
or_none (Some l) = l

-- the spans of the `EOT`s, of the `PAR`s and of the aborts in a statement
abbrev pub eots_step : Stmt-F ℕ (List Span) → List Span
eots_step (Block all) = joined all
eots_step (If test first second) = first ++ or_none second
eots_step (While span test most body) = body
eots_step (Eot span) = span ∷ []
eots_step (Abort span weak body test) = body
eots_step _ = []

abbrev pub pars_step : Stmt-F ℕ (List Span) → List Span
pars_step (Block all) = joined all
pars_step (If test first second) = first ++ or_none second
pars_step (While span test most body) = body
pars_step (Par span threads) = span ∷ []
pars_step (Abort span weak body test) = body
pars_step _ = []

abbrev pub aborts_step : Stmt-F ℕ (List Span) → List Span
aborts_step (Block all) = joined all
aborts_step (If test first second) = first ++ or_none second
aborts_step (While span test most body) = body
aborts_step (Abort span weak body test) = span ∷ body
aborts_step _ = []

-- the spans of all functions, in the order of the text
abbrev pub spans_of : (Stmt-F ℕ (List Span) → List Span) → List Function → List Span
spans_of step functions = joined (map (λ f. joined (map (fold-Stmt ℕ (List Span) step) f.body)) functions)

-- the number of a span: how many of these begin earlier in the text
abbrev pub number_of : List Span → Span → ℕ
number_of [] s = 0
number_of (x ∷ spans) s = (if nat_lt x.from s.from then 1 else 0) + number_of spans s

-- ---- trees with places for the numbers of cells

abbrev pub operands_from : List (BinOp × Expression) → Operands
operands_from [] = alone
operands_from (p ∷ rest) = operand p.0 p.1 (operands_from rest)

abbrev pub expression_step : List Room → Expr-F ℕ Expression → Expression
expression_step rooms (Number n) = number n
expression_step rooms (Var c) = cell (place_of rooms c)
expression_step rooms (Elem c index) = element (place_of rooms c) (room_at rooms c).size index
expression_step rooms (Unary op e) = unary op e
expression_step rooms (Chain first rest) = chain first (operands_from rest)

abbrev pub expression_of : List Room → Expr ℕ → Expression
expression_of rooms = fold-Expr ℕ Expression (expression_step rooms)

abbrev pub operands_of : List Room → List (BinOp × Expr ℕ) → Operands
operands_of rooms [] = alone
operands_of rooms (p ∷ rest) = operand p.0 (expression_of rooms p.1) (operands_of rooms rest)

abbrev pub target_of : List Room → Goal ℕ → Target
target_of rooms Nothing = nowhere
target_of rooms (GoalVar c) = to_cell (place_of rooms c)
target_of rooms (GoalElem c index) = to_element (place_of rooms c) (room_at rooms c).size (expression_of rooms index)

abbrev pub statements_from : List Statement → Statements
statements_from [] = none
statements_from (s ∷ rest) = each s (statements_from rest)

abbrev pub or_skip : Option Statement → Statement
or_skip None = skip
or_skip (Some s) = s

abbrev pub loop_from : Option ℕ → Expression → Statement → Statement
loop_from None test body = loop test body
loop_from (Some most) test body = repeat most test body

-- the number of the `EOT`, `PAR` or abort with a span
pub record Numbering : Type 0 where
  pub eot_number : Span → ℕ
  pub par_number : Span → ℕ
  pub abort_number : Span → ℕ

abbrev pub statement_step : List Room → Numbering → Stmt-F ℕ Statement → Statement
statement_step rooms n Skip = skip
statement_step rooms n (Assign goal e) = assign (target_of rooms goal) (expression_of rooms e)
statement_step rooms n (Call goal f arguments) = call_of (target_of rooms goal) f (map (expression_of rooms) arguments)
statement_step rooms n (Block all) = block (statements_from all)
statement_step rooms n (If test first second) = if_so (expression_of rooms test) first (or_skip second)
statement_step rooms n (While span test most body) = loop_from most (expression_of rooms test) body
statement_step rooms n (Eot span) = eot (n.eot_number span)
statement_step rooms n (Par span threads) = par (n.par_number span) threads
statement_step rooms n (Abort span weak body test) = abort (n.abort_number span) weak body (expression_of rooms test)

abbrev pub statement_of : List Room → Numbering → Stmt ℕ → Statement
statement_of rooms n = fold-Stmt ℕ Statement (statement_step rooms n)

abbrev pub statements_of : List Room → Numbering → List (Stmt ℕ) → Statements
statements_of rooms n [] = none
statements_of rooms n (s ∷ rest) = each (statement_of rooms n s) (statements_of rooms n rest)

-- ---- a whole program

abbrev pub optional : List Room → Option (Expr ℕ) → Option Expression
optional rooms None = None
optional rooms (Some e) = Some (expression_of rooms e)

abbrev pub locals_of : List Room → List (ℕ × Option (Expr ℕ)) → List (ℕ × Option Expression)
locals_of rooms [] = []
locals_of rooms (l ∷ rest) = (place_of rooms l.0, optional rooms l.1) ∷ locals_of rooms rest

abbrev pub routine_of : List Room → Numbering → Function → Routine
routine_of rooms n f = record {
  parameters = map (place_of rooms) f.parameters;
  locals = locals_of rooms f.locals;
  body = statements_of rooms n f.body;
  result = optional rooms f.result;
}

abbrev pub numbering_of : List Function → Numbering
numbering_of functions = record {
  eot_number = number_of (spans_of eots_step functions);
  par_number = number_of (spans_of pars_step functions);
  abort_number = number_of (spans_of aborts_step functions);
}

abbrev pub program_of : Typing → Program
program_of t = record {
  routines = map (routine_of (rooms_of t.cells) (numbering_of t.functions)) t.functions;
  main = t.main;
  declared = declared_of t.cells;
  inputs = chosen is_input t.cells (rooms_of t.cells);
  outputs = chosen is_output t.cells (rooms_of t.cells);
}

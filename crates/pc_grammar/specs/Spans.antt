-- The spans of a program, in the order of the text: docs/language.md, "Spans".
use Rattle.std.specs.Prelude.{ℕ, ◌<◌, ◌≤◌, List, [], ◌∷◌, ◌++◌, Option, Some, None}
use Rattle.pt_base.specs.declared.rules.Span.{Span}
use Rattle.pc_grammar.specs.declared.expressions.Word.{Word}
use Rattle.pc_grammar.specs.declared.expressions.Expr.{Expr, fold-Expr}
use Rattle.pc_grammar.specs.declared.expressions.Expr.TheOpen.{Expr-F, Number, Var, Elem, Unary, Chain}
use Rattle.pc_grammar.specs.declared.expressions.Goal.{Goal}
use Rattle.pc_grammar.specs.declared.expressions.Goal.TheVariants.{Nothing, Var as GoalVar, Elem as GoalElem}
use Rattle.pc_grammar.specs.declared.statements.Stmt.{Stmt, fold-Stmt}
use Rattle.pc_grammar.specs.declared.statements.Stmt.TheOpen.{Stmt-F, Skip, Assign, Call, Block, If, While, Eot, Par, Abort}
use Rattle.pc_grammar.specs.declared.programs.Item.{Item}
use Rattle.pc_grammar.specs.declared.programs.Item.TheVariants.{Scalar, Array, Function}
use Rattle.pc_grammar.specs.Trees.{Program, IsTree}

-- the spans of each of a list, one after another
abbrev pub each : {A : Type 0} → (A → List Span) → List A → List Span
each spans [] = []
each spans (a ∷ rest) = spans a ++ each spans rest

-- the spans of what is there
abbrev pub optional : {A : Type 0} → (A → List Span) → Option A → List Span
optional spans None = []
optional spans (Some a) = spans a

abbrev pub name_spans : Word → List Span
name_spans x = x.span ∷ []

-- ---- expressions: the names

abbrev pub expression_spans_of : Expr-F Word (List Span) → List Span
expression_spans_of (Number n) = []
expression_spans_of (Var x) = name_spans x
expression_spans_of (Elem x index) = x.span ∷ index
expression_spans_of (Unary op e) = e
expression_spans_of (Chain head rest) = head ++ each (λ p. p.1) rest

abbrev pub expression_spans : Expr Word → List Span
expression_spans = fold-Expr Word (List Span) expression_spans_of

-- ---- statements: the names, and the first words of those that keep them

abbrev pub goal_spans : Goal Word → List Span
goal_spans Nothing = []
goal_spans (GoalVar x) = name_spans x
goal_spans (GoalElem x index) = x.span ∷ expression_spans index

abbrev pub statement_spans_of : Stmt-F Word (List Span) → List Span
statement_spans_of Skip = []
statement_spans_of (Assign goal value) = goal_spans goal ++ expression_spans value
statement_spans_of (Call goal function arguments) = goal_spans goal ++ function.span ∷ each expression_spans arguments
statement_spans_of (Block all) = each (λ s. s) all
statement_spans_of (If test first second) = expression_spans test ++ (first ++ optional (λ s. s) second)
statement_spans_of (While span test most body) = span ∷ (expression_spans test ++ body)
statement_spans_of (Eot span) = span ∷ []
statement_spans_of (Par span threads) = span ∷ each name_spans threads
statement_spans_of (Abort span weak body test) = span ∷ (body ++ expression_spans test)

abbrev pub statement_spans : Stmt Word → List Span
statement_spans = fold-Stmt Word (List Span) statement_spans_of

-- ---- items

abbrev pub local_spans : Word × Option (Expr Word) → List Span
local_spans p = p.0.span ∷ optional expression_spans p.1

abbrev pub frame_spans : List Word → List (Word × Option (Expr Word)) → List (Stmt Word) → List Span
frame_spans parameters locals body = each name_spans parameters ++ (each local_spans locals ++ each statement_spans body)

abbrev pub item_spans : Item → List Span
item_spans (Scalar kind x start) = name_spans x
item_spans (Array x size) = name_spans x
item_spans (Function x gives parameters locals body result) = x.span ∷ (frame_spans parameters locals body ++ optional expression_spans result)

abbrev pub spans_of : List Item → List Span
spans_of = each item_spans

-- ---- the law

-- each span has a byte or more and begins where the one before it has ended or later, the first at `from`; the last ends at `to` at most
abbrev pub Rises : ℕ → List Span → ℕ → Type 0
Rises from [] to = from ≤ to
Rises from (s ∷ rest) to = (from ≤ s.from) × (s.from < s.to) × Rises s.to rest to

abbrev pub SpansRise : Type 0
SpansRise = (program : Program) → IsTree program → Rises 0 (spans_of program.items) program.length

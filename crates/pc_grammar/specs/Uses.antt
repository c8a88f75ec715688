-- Where a statement or an expression names something, in the order of the text: docs/language.md, "Names".
use Rattle.std.specs.Prelude.{Bool, true, false, ◌||◌, List, [], ◌∷◌, ◌++◌, Option, Some, None, map, length}
use Rattle.pt_base.specs.declared.operators.BinOp.{BinOp}
use Rattle.pc_grammar.specs.declared.expressions.Expr.{Expr, fold-Expr}
use Rattle.pc_grammar.specs.declared.expressions.Expr.TheOpen.{Expr-F, Number, Var, Elem, Unary, Chain}
use Rattle.pc_grammar.specs.declared.expressions.Goal.{Goal}
use Rattle.pc_grammar.specs.declared.expressions.Goal.TheVariants.{Nothing, Var as GoalVar, Elem as GoalElem}
use Rattle.pc_grammar.specs.declared.statements.Stmt.{Stmt, fold-Stmt}
use Rattle.pc_grammar.specs.declared.statements.Stmt.TheOpen.{Stmt-F, Skip, Assign, Call, Block, If, While, Eot, Par, Abort}
use Rattle.pc_grammar.specs.declared.roles.Role.{Role}
use Rattle.pc_grammar.specs.declared.roles.Role.TheVariants.{Reads, ReadsElement, Writes, WritesElement, Calls, Starts}

-- a name, a word of the source or a number, and what it does where it stands
pub record Use (N : Type 0) : Type 0 where
  pub role : Role
  pub word : N

abbrev pub use_of : {N : Type 0} → Role → N → Use N
use_of role word = record { role = role; word = word }

abbrev pub joined : {A : Type 0} → List (List A) → List A
joined [] = []
joined (l ∷ rest) = l ++ joined rest

-- ---- expressions

abbrev pub operands_uses : {N : Type 0} → List (BinOp × List (Use N)) → List (Use N)
operands_uses [] = []
operands_uses (p ∷ rest) = p.1 ++ operands_uses rest

abbrev pub expression_step : {N : Type 0} → Expr-F N (List (Use N)) → List (Use N)
expression_step (Number n) = []
expression_step (Var w) = use_of Reads w ∷ []
expression_step (Elem w index) = use_of ReadsElement w ∷ index
expression_step (Unary op e) = e
expression_step (Chain first rest) = first ++ operands_uses rest

abbrev pub expression_uses : {N : Type 0} → Expr N → List (Use N)
expression_uses {N} = fold-Expr N (List (Use N)) expression_step

abbrev pub expressions_uses : {N : Type 0} → List (Expr N) → List (Use N)
expressions_uses es = joined (map expression_uses es)

abbrev pub value_uses : {N : Type 0} → Option (Expr N) → List (Use N)
value_uses None = []
value_uses (Some e) = expression_uses e

-- ---- statements

abbrev pub goal_uses : {N : Type 0} → Goal N → List (Use N)
goal_uses Nothing = []
goal_uses (GoalVar w) = use_of Writes w ∷ []
goal_uses (GoalElem w index) = use_of WritesElement w ∷ expression_uses index

abbrev pub is_taken : {N : Type 0} → Goal N → Bool
is_taken Nothing = false
is_taken (GoalVar w) = true
is_taken (GoalElem w index) = true

abbrev pub else_uses : {N : Type 0} → Option (List (Use N)) → List (Use N)
else_uses None = []
else_uses (Some uses) = uses

abbrev pub statement_step : {N : Type 0} → Stmt-F N (List (Use N)) → List (Use N)
statement_step Skip = []
statement_step (Assign goal value) = goal_uses goal ++ expression_uses value
statement_step (Call goal function arguments) = goal_uses goal ++ (use_of (Calls (length arguments) (is_taken goal)) function ∷ expressions_uses arguments)
statement_step (Block all) = joined all
statement_step (If test first second) = expression_uses test ++ (first ++ else_uses second)
statement_step (While span test most body) = expression_uses test ++ body
statement_step (Eot span) = []
statement_step (Par span threads) = map (use_of Starts) threads
statement_step (Abort span weak body test) = body ++ expression_uses test

abbrev pub statement_uses : {N : Type 0} → Stmt N → List (Use N)
statement_uses {N} = fold-Stmt N (List (Use N)) statement_step

abbrev pub statements_uses : {N : Type 0} → List (Stmt N) → List (Use N)
statements_uses all = joined (map statement_uses all)

-- ---- pauses: whether `EOT`, `PAR` or an abort stands in a statement

abbrev pub any_of : List Bool → Bool
any_of [] = false
any_of (b ∷ rest) = b || any_of rest

abbrev pub else_pauses : Option Bool → Bool
else_pauses None = false
else_pauses (Some b) = b

abbrev pub pauses_step : {N : Type 0} → Stmt-F N Bool → Bool
pauses_step Skip = false
pauses_step (Assign goal value) = false
pauses_step (Call goal function arguments) = false
pauses_step (Block all) = any_of all
pauses_step (If test first second) = first || else_pauses second
pauses_step (While span test most body) = body
pauses_step (Eot span) = true
pauses_step (Par span threads) = true
pauses_step (Abort span weak body test) = true

abbrev pub holds_pause : {N : Type 0} → Stmt N → Bool
holds_pause {N} = fold-Stmt N Bool pauses_step

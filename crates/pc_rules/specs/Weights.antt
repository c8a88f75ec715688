-- How many words a program takes at most, and how many one passage of its threads: docs/language.md, "Weights".
use Rattle.std.specs.Prelude.{ℕ, ◌+◌, ◌*◌, List, [], ◌∷◌, Option, Some, None, sum, sum_by, if◌then◌else◌}
use Rattle.pc_grammar.specs.declared.Expr.{Expr, fold-Expr}
use Rattle.pc_grammar.specs.declared.Expr.TheOpen.{Expr-F, Number, Var, Elem, Unary, Chain}
use Rattle.pc_grammar.specs.declared.Goal.{Goal}
use Rattle.pc_grammar.specs.declared.Goal.TheVariants.{Nothing, Var as GoalVar, Elem as GoalElem}
use Rattle.pc_grammar.specs.declared.Stmt.{Stmt, fold-Stmt}
use Rattle.pc_grammar.specs.declared.Stmt.TheOpen.{Stmt-F, Skip, Assign, Call, Block, If, While, Eot, Par, Abort}
use Rattle.pc_grammar.specs.declared.Function.{Function}
use Rattle.pc_grammar.specs.Typing.{Typing}
use Rattle.pc_rules.specs.Known.{known_of, each_given}

-- ---- expressions

abbrev pub expression_step : Expr-F ℕ ℕ → ℕ
expression_step (Number n) = 4
expression_step (Var x) = 4
expression_step (Elem x index) = 24 + index
expression_step (Unary op e) = 12 + e
expression_step (Chain first rest) = first + sum_by (λ p. 16 + p.1) rest

abbrev pub expression_weight : Expr ℕ → ℕ
expression_weight = fold-Expr ℕ ℕ expression_step

-- 4 where there is no value
abbrev pub value_weight : Option (Expr ℕ) → ℕ
value_weight None = 4
value_weight (Some e) = expression_weight e

abbrev pub result_weight : Option (Expr ℕ) → ℕ
result_weight None = 0
result_weight (Some e) = 4 + expression_weight e

-- ---- statements

abbrev pub goal_weight : Goal ℕ → ℕ
goal_weight Nothing = 0
goal_weight (GoalVar x) = 4
goal_weight (GoalElem x index) = 24 + expression_weight index

abbrev pub call_weight : Goal ℕ → List (Expr ℕ) → ℕ
call_weight goal arguments = 8 + sum_by (λ e. 4 + expression_weight e) arguments + goal_weight goal

abbrev pub or_nothing : Option ℕ → ℕ
or_nothing None = 0
or_nothing (Some n) = n

-- What is counted: the words of the code, by `None`, or those of one passage, given those of each function. The two differ
-- at calls and loops alone.

-- what a call of a function adds
abbrev pub called_words : Option (List ℕ) → ℕ → ℕ
called_words None f = 0
called_words (Some passages) f = known_of passages f

-- in one passage a loop with `#n` makes up to n turns, and looks once more
abbrev pub loop_words : Option (List ℕ) → Option ℕ → ℕ → ℕ → ℕ
loop_words counted None test body = 8 + test + body
loop_words None (Some most) test body = 12 + test + body
loop_words (Some passages) (Some most) test body = 12 + (most + 1) * (8 + test + body)

abbrev pub words_step : Option (List ℕ) → Stmt-F ℕ ℕ → ℕ
words_step counted Skip = 0
words_step counted (Assign goal value) = goal_weight goal + expression_weight value
words_step counted (Call goal function arguments) = call_weight goal arguments + called_words counted function
words_step counted (Block all) = sum all
words_step counted (If test first second) = 8 + expression_weight test + first + or_nothing second
words_step counted (While span test most body) = loop_words counted most (expression_weight test) body
words_step counted (Eot span) = 4
words_step counted (Par span threads) = 4
words_step counted (Abort span weak body test) = 8 + expression_weight test + body

abbrev pub statement_words : Option (List ℕ) → Stmt ℕ → ℕ
statement_words counted = fold-Stmt ℕ ℕ (words_step counted)

-- the most words of a statement
abbrev pub statement_weight : Stmt ℕ → ℕ
statement_weight = statement_words None

-- the most words of one passage of a statement, given those of each function
abbrev pub statement_passage : List ℕ → Stmt ℕ → ℕ
statement_passage known = statement_words (Some known)

-- ---- functions and programs

-- the words of a function but for its body
abbrev pub frame_weight : Function → ℕ
frame_weight f = 8 + sum_by (λ p. 4 + value_weight p.1) f.locals + result_weight f.result

abbrev pub function_words : Option (List ℕ) → Function → ℕ
function_words counted f = frame_weight f + sum_by (statement_words counted) f.body

abbrev pub function_weight : Function → ℕ
function_weight = function_words None

abbrev pub function_passage : List ℕ → Function → ℕ
function_passage known = function_words (Some known)

-- the most words of a program
abbrev pub program_weight : Typing → ℕ
program_weight t = sum_by function_weight t.functions

-- of each function the most words of one passage, given those before it
abbrev pub passages : List Function → List ℕ
passages functions = each_given function_passage [] functions

-- the sum over the threads
abbrev pub thread_sum : List Function → List ℕ → ℕ
thread_sum [] sizes = 0
thread_sum (f ∷ rest) [] = 0
thread_sum (f ∷ rest) (n ∷ sizes) = (if f.thread then n else 0) + thread_sum rest sizes

-- the most words of one passage of all threads
abbrev pub program_passage : Typing → ℕ
program_passage t = thread_sum t.functions (passages t.functions)

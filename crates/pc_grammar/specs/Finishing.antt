-- Which statements may finish: docs/language.md, "Loops and limits".
use Rattle.std.specs.Prelude.{ℕ, Bool, true, false, ◌&&◌, ◌||◌, not, List, [], ◌∷◌, ◌++◌, Option, Some, None, map, slice_get, unwrap_or, nat_eq}
use Rattle.std.specs.List.{list_all}
use Rattle.pc_grammar.specs.declared.expressions.Expr.{Expr, out-Expr}
use Rattle.pc_grammar.specs.declared.expressions.Expr.TheOpen.{Expr-F, Number}
use Rattle.pc_grammar.specs.declared.statements.Stmt.{Stmt, fold-Stmt}
use Rattle.pc_grammar.specs.declared.statements.Stmt.TheOpen.{Stmt-F, Skip, Assign, Call, Block, If, While, Eot, Par, Abort}
use Rattle.pc_grammar.specs.declared.typed.Function.{Function}

abbrev pub is_literal_truth : Expr-F ℕ (Expr ℕ) → Bool
is_literal_truth (Number n) = not (nat_eq n 0)
is_literal_truth _ = false

-- a number that isn't 0
abbrev pub is_always_true : Expr ℕ → Bool
is_always_true test = is_literal_truth (out-Expr ℕ test)

abbrev pub all_of : List Bool → Bool
all_of [] = true
all_of (b ∷ rest) = b && all_of rest

-- a missing `else` may finish
abbrev pub else_finishes : Option Bool → Bool
else_finishes None = true
else_finishes (Some b) = b

-- what is known of a function by its number
abbrev pub is_known : List Bool → ℕ → Bool
is_known known f = unwrap_or (slice_get known f) true

abbrev pub loop_finishes : Option ℕ → Expr ℕ → Bool
loop_finishes None test = not (is_always_true test)
loop_finishes (Some most) test = true

abbrev pub finishes_step : List Bool → Stmt-F ℕ Bool → Bool
finishes_step known Skip = true
finishes_step known (Assign goal value) = true
finishes_step known (Call goal function arguments) = true
finishes_step known (Block all) = all_of all
finishes_step known (If test first second) = first || else_finishes second
finishes_step known (While span test most body) = loop_finishes most test
finishes_step known (Eot span) = false
finishes_step known (Par span threads) = list_all (is_known known) threads
finishes_step known (Abort span weak body test) = body

-- whether a statement may finish, given of each function whether it may
abbrev pub finishes : List Bool → Stmt ℕ → Bool
finishes known = fold-Stmt ℕ Bool (finishes_step known)

abbrev pub all_finish : List Bool → List (Stmt ℕ) → Bool
all_finish known body = all_of (map (finishes known) body)

abbrev pub finishing_from : List Bool → List Function → List Bool
finishing_from known [] = known
finishing_from known (f ∷ rest) = finishing_from (known ++ all_finish known f.body ∷ []) rest

-- of each function whether it may finish, given those before it
abbrev pub finishing : List Function → List Bool
finishing functions = finishing_from [] functions

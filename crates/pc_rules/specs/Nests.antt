-- The loops and aborts of a program, with what they stand in; heights of functions: docs/language.md, "Loops and limits".
use Rattle.std.specs.Prelude.{ℕ, ◌+◌, max, List, [], ◌∷◌, ◌++◌, Option, Some, None, map}
use Rattle.pt_base.specs.declared.Span.{Span}
use Rattle.pc_grammar.specs.declared.Stmt.{Stmt, fold-Stmt, para-Stmt}
use Rattle.pc_grammar.specs.declared.Stmt.TheOpen.{Stmt-F, Call, Block, If, While, Abort}
use Rattle.pc_grammar.specs.declared.Function.{Function}
use Rattle.pc_grammar.specs.Uses.{joined}
use Rattle.pc_grammar.specs.Typing.{Typing}
use Rattle.pc_rules.specs.Known.{known_of, each_given}

-- a loop, with `most` where it has `#n`, and an abort; each with how many of its kind it stands in
pub data Nest : Type 0 where
  Loop : Span → Option ℕ → Stmt ℕ → ℕ → Nest
  Aborted : Span → ℕ → Nest

-- a loop with `#n` counts
abbrev pub one_more : Option ℕ → ℕ → ℕ
one_more None loops = loops
one_more (Some most) loops = loops + 1

abbrev pub all_nests : List (Stmt ℕ × (ℕ → ℕ → List Nest)) → ℕ → ℕ → List Nest
all_nests [] aborts loops = []
all_nests (s ∷ rest) aborts loops = s.1 aborts loops ++ all_nests rest aborts loops

abbrev pub else_nests : Option (Stmt ℕ × (ℕ → ℕ → List Nest)) → ℕ → ℕ → List Nest
else_nests None aborts loops = []
else_nests (Some s) aborts loops = s.1 aborts loops

abbrev pub nests_step : Stmt-F ℕ (Stmt ℕ × (ℕ → ℕ → List Nest)) → ℕ → ℕ → List Nest
nests_step (Block all) aborts loops = all_nests all aborts loops
nests_step (If test first second) aborts loops = first.1 aborts loops ++ else_nests second aborts loops
nests_step (While span test most body) aborts loops = Loop span most body.0 loops ∷ body.1 aborts (one_more most loops)
nests_step (Abort span weak body test) aborts loops = Aborted span aborts ∷ body.1 (aborts + 1) loops
nests_step _ aborts loops = []

-- the loops and aborts of a statement that stands in so many aborts and loops with `#n`
abbrev pub nests : Stmt ℕ → ℕ → ℕ → List Nest
nests = para-Stmt ℕ (ℕ → ℕ → List Nest) nests_step

abbrev pub function_nests : Function → List Nest
function_nests f = joined (map (λ s. nests s 0 0) f.body)

abbrev pub program_nests : Typing → List Nest
program_nests t = joined (map function_nests t.functions)

-- ---- heights

abbrev pub greatest : List ℕ → ℕ
greatest [] = 0
greatest (n ∷ rest) = max n (greatest rest)

abbrev pub else_height : Option ℕ → ℕ
else_height None = 0
else_height (Some n) = n

abbrev pub height_step : List ℕ → Stmt-F ℕ ℕ → ℕ
height_step known (Call goal function arguments) = known_of known function
height_step known (Block all) = greatest all
height_step known (If test first second) = max first (else_height second)
height_step known (While span test most body) = body
height_step known (Abort span weak body test) = body
height_step known _ = 0

-- the greatest height of the functions that a statement calls
abbrev pub called_height : List ℕ → Stmt ℕ → ℕ
called_height known = fold-Stmt ℕ ℕ (height_step known)

-- one more than the greatest height of the functions that it calls
abbrev pub function_height : List ℕ → Function → ℕ
function_height known f = 1 + greatest (map (called_height known) f.body)

-- the height of each function, given those before it
abbrev pub heights : List Function → List ℕ
heights functions = each_given function_height [] functions

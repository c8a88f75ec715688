-- How many temporaries and words the flow of a program takes at most.
use Rattle.std.specs.Prelude.{ℕ, suc, ◌+◌, ◌*◌, ◌<◌, ◌≤◌, max, Bool, List, [], ◌∷◌, ◌++◌, Option, Some, None, slice_get, unwrap_or}
use Rattle.pt_base.specs.declared.operators.UnOp.{UnOp}
use Rattle.pt_base.specs.declared.operators.UnOp.TheVariants.{Neg, Not, Flip}
use Rattle.pt_base.specs.declared.operators.BinOp.{BinOp}
use Rattle.pt_base.specs.declared.operators.BinOp.TheVariants.{Or, And, BitOr, BitXor, BitAnd, Equal, NotEqual, Less, LessEqual, Greater, GreaterEqual, ShiftLeft, ShiftRight, Add, Sub, Mul, Div, Rem}
use Rattle.pc_meaning.specs.Tree.{Expression, Operands, number, cell, element, unary, chain, alone, operand, Goal, nowhere, to_cell, to_element, Statement, Statements, skip, assign, call_of, block, if_so, repeat, loop, eot, par, abort, none, each, Routine}
use Rattle.pc_lower.specs.declared.nodes.Place.{Place}
use Rattle.pc_lower.specs.declared.nodes.Place.TheVariants.{Temp as temp, Held as held}
use Rattle.pc_lower.specs.declared.nodes.Step.{Step}
use Rattle.pc_lower.specs.declared.nodes.Step.TheVariants.{Const as const, Load as load, Save as save, Unary as unary_step, Binary as binary_step, TakeElement as take_element, PutElement as put_element, Move as move}
use Rattle.pc_lower.specs.declared.nodes.Test.{Test}
use Rattle.pc_lower.specs.Flow.{Node, Nodes, straight, sequence, branch, turns, bounded, call, pause, fork, guard, no_nodes, and}

-- ---- temporaries

-- a value as the grammar nests it: so many levels deep, and of a level of operators, 0 the loosest and 10 the unary ones
mutual
  pub data Nested : (deep level : ℕ) → Expression → Type 0 where
    nested_number : {deep level n : ℕ} → deep ≤ 64 → level ≤ 10 → Nested deep level (number n)
    nested_cell : {deep level place : ℕ} → deep ≤ 64 → level ≤ 10 → Nested deep level (cell place)
    nested_element : {deep level first size : ℕ} {e : Expression} → level ≤ 10 → Nested (suc deep) 0 e → Nested deep level (element first size e)
    nested_unary : {deep level : ℕ} {op : UnOp} {e : Expression} → level ≤ 10 → Nested (suc deep) 10 e → Nested deep level (unary op e)
    -- the operands of a chain are of a tighter level
    nested_chain : {deep level own : ℕ} {e : Expression} {rest : Operands} → level ≤ own → Nested deep (suc own) e → AllNested deep (suc own) rest → Nested deep level (chain e rest)
    -- in parentheses
    nested_in : {deep level : ℕ} {e : Expression} → level ≤ 10 → Nested (suc deep) 0 e → Nested deep level e

  pub data AllNested : (deep level : ℕ) → Operands → Type 0 where
    nested_alone : {deep level : ℕ} → AllNested deep level alone
    nested_operand : {deep level : ℕ} {op : BinOp} {e : Expression} {rest : Operands} → Nested deep level e → AllNested deep level rest → AllNested deep level (operand op e rest)

abbrev pub GoalNested : Goal → Type 0
GoalNested nowhere = Unit {0}
GoalNested (to_cell place) = Unit {0}
GoalNested (to_element first size index) = Nested 0 0 index

abbrev pub EachNested : List Expression → Type 0
EachNested [] = Unit {0}
EachNested (e ∷ es) = Nested 0 0 e × EachNested es

abbrev pub SomeNested : Option Expression → Type 0
SomeNested None = Unit {0}
SomeNested (Some e) = Nested 0 0 e

abbrev mutual
  pub StatementNested : Statement → Type 0
  StatementNested skip = Unit {0}
  StatementNested (assign goal e) = GoalNested goal × Nested 0 0 e
  StatementNested (call_of goal f es) = GoalNested goal × EachNested es
  StatementNested (block all) = StatementsNested all
  StatementNested (if_so test first second) = Nested 0 0 test × StatementNested first × StatementNested second
  StatementNested (repeat most test body) = Nested 0 0 test × StatementNested body
  StatementNested (loop test body) = Nested 0 0 test × StatementNested body
  StatementNested (eot i) = Unit {0}
  StatementNested (par i threads) = Unit {0}
  StatementNested (abort j weak body test) = StatementNested body × Nested 0 0 test

  pub StatementsNested : Statements → Type 0
  StatementsNested none = Unit {0}
  StatementsNested (each s rest) = StatementNested s × StatementsNested rest

abbrev pub LocalsNested : List (ℕ × Option Expression) → Type 0
LocalsNested [] = Unit {0}
LocalsNested (l ∷ locals) = SomeNested l.1 × LocalsNested locals

abbrev pub RoutineNested : Routine → Type 0
RoutineNested r = LocalsNested r.locals × StatementsNested r.body × SomeNested r.result

abbrev pub RoutinesNested : List Routine → Type 0
RoutinesNested [] = Unit {0}
RoutinesNested (r ∷ rest) = RoutineNested r × RoutinesNested rest

module _ (most : ℕ) where
  abbrev pub PlaceWithin : Place → Type 0
  PlaceWithin (temp k) = k < most
  PlaceWithin (held h) = ⊥

  abbrev pub StepWithin : Step → Type 0
  StepWithin (const to n) = PlaceWithin to
  StepWithin (load to place) = PlaceWithin to
  StepWithin (save place by) = PlaceWithin by
  StepWithin (unary_step op to by) = PlaceWithin to × PlaceWithin by
  StepWithin (binary_step op to left right) = PlaceWithin to × PlaceWithin left × PlaceWithin right
  StepWithin (take_element to first size index) = PlaceWithin to × PlaceWithin index
  StepWithin (put_element first size index by) = PlaceWithin index × PlaceWithin by
  StepWithin (move to by) = PlaceWithin to × PlaceWithin by

  abbrev pub StepsWithin : List Step → Type 0
  StepsWithin [] = Unit {0}
  StepsWithin (s ∷ steps) = StepWithin s × StepsWithin steps

  abbrev pub TestWithin : Test → Type 0
  TestWithin t = StepsWithin t.steps × PlaceWithin t.by

  abbrev pub SomeWithin : Option Test → Type 0
  SomeWithin None = Unit {0}
  SomeWithin (Some t) = TestWithin t

  abbrev mutual
    pub NodeWithin : Node → Type 0
    NodeWithin (straight steps) = StepsWithin steps
    NodeWithin (sequence nodes) = NodesWithin nodes
    NodeWithin (branch test first second) = TestWithin test × NodeWithin first × NodeWithin second
    NodeWithin (turns test body) = SomeWithin test × NodeWithin body
    NodeWithin (bounded n test body) = SomeWithin test × NodeWithin body
    NodeWithin (call f) = Unit {0}
    NodeWithin (pause i) = Unit {0}
    NodeWithin (fork i fs) = Unit {0}
    NodeWithin (guard j body) = NodeWithin body

    pub NodesWithin : Nodes → Type 0
    NodesWithin no_nodes = Unit {0}
    NodesWithin (and n nodes) = NodeWithin n × NodesWithin nodes

  abbrev pub BodiesWithin : List Node → Type 0
  BodiesWithin [] = Unit {0}
  BodiesWithin (n ∷ rest) = NodeWithin n × BodiesWithin rest

  abbrev pub ConditionsWithin : List (Bool × Test) → Type 0
  ConditionsWithin [] = Unit {0}
  ConditionsWithin (a ∷ rest) = TestWithin a.1 × ConditionsWithin rest

-- how many temporaries a value takes
abbrev mutual
  pub need : Expression → ℕ
  need (number n) = 1
  need (cell place) = 1
  need (element first size index) = need index
  need (unary op e) = need e
  need (chain e rest) = max (need e) (needs rest)

  pub needs : Operands → ℕ
  needs alone = 0
  needs (operand op e rest) = max (1 + need e) (needs rest)

-- ---- words, each place counted in memory and each number as wide

abbrev pub unary_words : UnOp → ℕ
unary_words Neg = 5
unary_words Flip = 5
unary_words Not = 9

abbrev pub binary_words : BinOp → ℕ
binary_words Add = 7
binary_words Sub = 7
binary_words Mul = 7
binary_words Div = 7
binary_words Rem = 9
binary_words ShiftLeft = 7
binary_words ShiftRight = 7
binary_words BitAnd = 7
binary_words BitOr = 7
binary_words BitXor = 7
binary_words Less = 9
binary_words Greater = 9
binary_words LessEqual = 10
binary_words GreaterEqual = 10
binary_words NotEqual = 11
binary_words Equal = 12
binary_words And = 13
binary_words Or = 13

abbrev pub step_words : Step → ℕ
step_words (const to n) = 4
step_words (load to place) = 4
step_words (save place by) = 4
step_words (unary_step op to by) = unary_words op
step_words (binary_step op to left right) = binary_words op
step_words (take_element to first size index) = 16
step_words (put_element first size index by) = 20
step_words (move to by) = 4

abbrev pub steps_words : List Step → ℕ
steps_words [] = 0
steps_words (s ∷ steps) = step_words s + steps_words steps

-- with the load of the place that is looked at
abbrev pub test_words : Test → ℕ
test_words t = steps_words t.steps + 2

-- and the branch
abbrev pub some_words : Option Test → ℕ
some_words None = 0
some_words (Some t) = test_words t + 2

-- `drop` stands where there is a test
abbrev pub drop_words : Option Test → ℕ
drop_words None = 0
drop_words (Some t) = 1

abbrev mutual
  pub node_words : Node → ℕ
  node_words (straight steps) = steps_words steps
  node_words (sequence nodes) = nodes_words nodes
  node_words (branch test first second) = test_words test + 2 + node_words first + 2 + node_words second
  node_words (turns test body) = some_words test + node_words body + 2
  node_words (bounded n test body) = 2 + 1 + some_words test + node_words body + 2 + drop_words test
  node_words (call f) = 1
  node_words (pause i) = 1
  node_words (fork i fs) = 1
  node_words (guard j body) = 1 + node_words body + 1

  pub nodes_words : Nodes → ℕ
  nodes_words no_nodes = 0
  nodes_words (and n nodes) = node_words n + nodes_words nodes

-- conditions, each with its `cend`
abbrev pub conditions_words : List (Bool × Test) → ℕ
conditions_words [] = 0
conditions_words (a ∷ rest) = test_words a.1 + 1 + conditions_words rest

-- functions, each with its `end` or `ret`
abbrev pub bodies_words : List Node → ℕ
bodies_words [] = 0
bodies_words (n ∷ rest) = node_words n + 1 + bodies_words rest

-- ---- words of one passage: at most so many of a loop's turns

abbrev pub count_at : List ℕ → ℕ → ℕ
count_at known f = unwrap_or (slice_get known f) 0

module _ (known : List ℕ) where
  abbrev mutual
    pub node_passage : Node → ℕ
    node_passage (straight steps) = steps_words steps
    node_passage (sequence nodes) = nodes_passage nodes
    node_passage (branch test first second) = test_words test + 2 + node_passage first + 2 + node_passage second
    node_passage (turns test body) = some_words test + node_passage body + 2
    node_passage (bounded n test body) = 2 + (n + 1) * (1 + some_words test + node_passage body + 2) + drop_words test
    node_passage (call f) = 1 + count_at known f
    node_passage (pause i) = 1
    node_passage (fork i fs) = 1
    node_passage (guard j body) = 1 + node_passage body + 1

    pub nodes_passage : Nodes → ℕ
    nodes_passage no_nodes = 0
    nodes_passage (and n nodes) = node_passage n + nodes_passage nodes

abbrev pub passages_from : List ℕ → List Node → List ℕ
passages_from known [] = known
passages_from known (n ∷ rest) = passages_from (known ++ (node_passage known n + 1) ∷ []) rest

-- ---- the weights of the language

abbrev mutual
  pub value_weight : Expression → ℕ
  value_weight (number n) = 4
  value_weight (cell place) = 4
  value_weight (element first size index) = 24 + value_weight index
  value_weight (unary op e) = 12 + value_weight e
  value_weight (chain e rest) = value_weight e + operands_weight rest

  pub operands_weight : Operands → ℕ
  operands_weight alone = 0
  operands_weight (operand op e rest) = 16 + value_weight e + operands_weight rest

abbrev pub goal_weight : Goal → ℕ
goal_weight nowhere = 0
goal_weight (to_cell place) = 4
goal_weight (to_element first size index) = 24 + value_weight index

abbrev pub arguments_weight : List Expression → ℕ
arguments_weight [] = 0
arguments_weight (e ∷ es) = 4 + value_weight e + arguments_weight es

abbrev mutual
  pub weight : Statement → ℕ
  weight skip = 0
  weight (assign goal e) = goal_weight goal + value_weight e
  weight (call_of goal f es) = 8 + arguments_weight es + goal_weight goal
  weight (block all) = weights all
  weight (if_so test first second) = 8 + value_weight test + weight first + weight second
  weight (repeat most test body) = 12 + value_weight test + weight body
  weight (loop test body) = 8 + value_weight test + weight body
  weight (eot i) = 4
  weight (par i threads) = 4
  weight (abort j weak body test) = 8 + value_weight test + weight body

  pub weights : Statements → ℕ
  weights none = 0
  weights (each s rest) = weight s + weights rest

abbrev pub or_four : Option Expression → ℕ
or_four None = 4
or_four (Some e) = value_weight e

abbrev pub locals_weight : List (ℕ × Option Expression) → ℕ
locals_weight [] = 0
locals_weight (l ∷ locals) = 4 + or_four l.1 + locals_weight locals

abbrev pub result_weight : Option Expression → ℕ
result_weight None = 0
result_weight (Some e) = 4 + value_weight e

abbrev pub routine_weight : Routine → ℕ
routine_weight r = 8 + locals_weight r.locals + result_weight r.result + weights r.body

abbrev pub routines_weight : List Routine → ℕ
routines_weight [] = 0
routines_weight (r ∷ rest) = routine_weight r + routines_weight rest

module _ (known : List ℕ) where
  abbrev mutual
    pub single : Statement → ℕ
    single skip = 0
    single (assign goal e) = goal_weight goal + value_weight e
    single (call_of goal f es) = 8 + arguments_weight es + goal_weight goal + count_at known f
    single (block all) = singles all
    single (if_so test first second) = 8 + value_weight test + single first + single second
    single (repeat most test body) = 12 + (most + 1) * (8 + value_weight test + single body)
    single (loop test body) = 8 + value_weight test + single body
    single (eot i) = 4
    single (par i threads) = 4
    single (abort j weak body test) = 8 + value_weight test + single body

    pub singles : Statements → ℕ
    singles none = 0
    singles (each s rest) = single s + singles rest

  abbrev pub routine_single : Routine → ℕ
  routine_single r = 8 + locals_weight r.locals + result_weight r.result + singles r.body

abbrev pub singles_from : List ℕ → List Routine → List ℕ
singles_from known [] = known
singles_from known (r ∷ rest) = singles_from (known ++ routine_single known r ∷ []) rest

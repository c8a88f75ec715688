-- The steps of statements whose expressions name cells keep to the cells.
use Rattle.std.proofs.Common.{ℕ, zero, suc, ◌+◌, ◌<◌, ◌≤◌, Bool, List, [], ◌∷◌, ◌++◌, Option, Some, None, rules}
use Rattle.std.specs.Prelude.{FitsSigned, pos}
use Rattle.std.specs.Int.{w32}
use Rattle.std.specs.List.{AllByRecursion}
use Rattle.std.proofs.lemmas.Int.{SFits-int_wrap}
use Rattle.pt_base.specs.Operators.{word_of}
use Rattle.pc_meaning.specs.Tree.{Expression, Operands, number, cell, element, unary, chain, alone, operand, Goal, nowhere, to_cell, to_element, Statement, Statements, skip, assign, call_of, block, if_so, repeat, loop, eot, par, abort, none, each, Routine}
use Rattle.pc_meaning.specs.Statements.{routine_at}
use Rattle.pc_lower.specs.declared.nodes.Test.{Test}
use Rattle.pc_lower.specs.Flow.{Node, Nodes}
use Rattle.pc_lower.specs.Lowered.{steps_of, operands_of, number_test, loop_test, taken, passed, steps_or_zero, locals_steps, bounded_of, node_of, nodes_of, finished, body_of, bodies_of, conditions_of}
use Rattle.pc_lower.specs.Aborts.{aborts_in, aborts_in_all, aborts_of}
use Rattle.pc_lower.specs.Cells.{StepKeeps, StepsKeep, OptionKeeps, NodeKeeps, NodesKeep}

pub all-append : {A : Type 0} (P : A → Type 0) (xs ys : List A) → AllByRecursion P xs → AllByRecursion P ys → AllByRecursion P (xs ++ ys)
all-append P [] ys h k = k
all-append P (x ∷ xs) ys h k = (h.0, all-append P xs ys h.1 k)

-- ---- expressions and statements that name cells

module _ (cells : ℕ) where
  abbrev mutual
    pub NamesCells : Expression → Type 0
    NamesCells (number n) = Unit {0}
    NamesCells (cell place) = place < cells
    NamesCells (element first size index) = (first + size ≤ cells) × NamesCells index
    NamesCells (unary op e) = NamesCells e
    NamesCells (chain e rest) = NamesCells e × AllNameCells rest

    pub AllNameCells : Operands → Type 0
    AllNameCells alone = Unit {0}
    AllNameCells (operand op e rest) = NamesCells e × AllNameCells rest

  abbrev pub GoalCells : Goal → Type 0
  GoalCells nowhere = Unit {0}
  GoalCells (to_cell place) = place < cells
  GoalCells (to_element first size index) = (first + size ≤ cells) × NamesCells index

  abbrev pub EachCells : List Expression → Type 0
  EachCells [] = Unit {0}
  EachCells (e ∷ es) = NamesCells e × EachCells es

  abbrev pub SomeCells : Option Expression → Type 0
  SomeCells None = Unit {0}
  SomeCells (Some e) = NamesCells e

  module _ (routines : List Routine) where
    abbrev mutual
      pub StatementCells : Statement → Type 0
      StatementCells skip = Unit {0}
      StatementCells (assign goal e) = GoalCells goal × NamesCells e
      StatementCells (call_of goal f es) = GoalCells goal × EachCells es × AllByRecursion (λ place. place < cells) (routine_at routines f).parameters
      StatementCells (block all) = StatementsCells all
      StatementCells (if_so test first second) = NamesCells test × StatementCells first × StatementCells second
      StatementCells (repeat most test body) = NamesCells test × StatementCells body
      StatementCells (loop test body) = NamesCells test × StatementCells body
      StatementCells (eot i) = Unit {0}
      StatementCells (par i threads) = Unit {0}
      StatementCells (abort j weak body test) = StatementCells body × NamesCells test

      pub StatementsCells : Statements → Type 0
      StatementsCells none = Unit {0}
      StatementsCells (each s rest) = StatementCells s × StatementsCells rest

    abbrev pub LocalsCells : List (ℕ × Option Expression) → Type 0
    LocalsCells [] = Unit {0}
    LocalsCells (l ∷ locals) = (l.0 < cells) × SomeCells l.1 × LocalsCells locals

    pub record RoutineCells (r : Routine) : Type 0 where
      pub locals : LocalsCells r.locals
      pub body : StatementsCells r.body
      pub result : SomeCells r.result

  -- ---- their steps

  word-fits : (n : ℕ) → FitsSigned w32 (word_of (pos n))
  word-fits n = SFits-int_wrap w32 (pos n)

  zero-fits : FitsSigned w32 (pos 0)
  zero-fits = search rules

  mutual
    steps-keep : (e : Expression) (k : ℕ) → NamesCells e → StepsKeep cells (steps_of e k)
    steps-keep (number n) k h = (word-fits n, tt)
    steps-keep (cell place) k h = (h, tt)
    steps-keep (element first size index) k h = all-append (StepKeeps cells) (steps_of index k) _ (steps-keep index k h.1) (h.0, tt)
    steps-keep (unary op e) k h = all-append (StepKeeps cells) (steps_of e k) _ (steps-keep e k h) (tt, tt)
    steps-keep (chain e rest) k h = all-append (StepKeeps cells) (steps_of e k) (operands_of rest k) (steps-keep e k h.0) (operands-keep rest k h.1)

    operands-keep : (rest : Operands) (k : ℕ) → AllNameCells rest → StepsKeep cells (operands_of rest k)
    operands-keep alone k h = tt
    operands-keep (operand op e rest) k h = all-append (StepKeeps cells) (steps_of e (suc k)) _ (steps-keep e (suc k) h.0) (tt, operands-keep rest k h.1)

  number-keeps : (n : ℕ) → OptionKeeps cells (number_test n)
  number-keeps zero = (word-fits 0, tt)
  number-keeps (suc n) = tt

  test-keeps : (e : Expression) → NamesCells e → OptionKeeps cells (loop_test e)
  test-keeps (number n) h = number-keeps n
  test-keeps (cell place) h = steps-keep (cell place) 0 h
  test-keeps (element first size index) h = steps-keep (element first size index) 0 h
  test-keeps (unary op e) h = steps-keep (unary op e) 0 h
  test-keeps (chain e rest) h = steps-keep (chain e rest) 0 h

  taken-keeps : (goal : Goal) → GoalCells goal → StepsKeep cells (taken goal)
  taken-keeps nowhere h = tt
  taken-keeps (to_cell place) h = (h, tt)
  taken-keeps (to_element first size index) h = all-append (StepKeeps cells) (steps_of index 1) _ (steps-keep index 1 h.1) (h.0, tt)

  passed-keep : (places : List ℕ) (es : List Expression) → AllByRecursion (λ place. place < cells) places → EachCells es → StepsKeep cells (passed places es)
  passed-keep [] es h k = tt
  passed-keep (place ∷ places) [] h k = tt
  passed-keep (place ∷ places) (e ∷ es) h k = all-append (StepKeeps cells) (steps_of e 0) _ (steps-keep e 0 k.0) (h.0, passed-keep places es h.1 k.1)

  zero-keeps : (o : Option Expression) → SomeCells o → StepsKeep cells (steps_or_zero o)
  zero-keeps None h = (zero-fits, tt)
  zero-keeps (Some e) h = steps-keep e 0 h

  module _ (routines : List Routine) where
    locals-keep : (locals : List (ℕ × Option Expression)) → LocalsCells routines locals → StepsKeep cells (locals_steps locals)
    locals-keep [] h = tt
    locals-keep (l ∷ locals) h = all-append (StepKeeps cells) (steps_or_zero l.1) _ (zero-keeps l.1 h.1) (h.0, locals-keep locals h.2)

    bounded-keeps : (most : ℕ) (test : Option Test) (body : Node) → OptionKeeps cells test → NodeKeeps cells body → NodeKeeps cells (bounded_of most test body)
    bounded-keeps zero test body h k = tt
    bounded-keeps (suc n) test body h k = (h, k)

    mutual
      node-keeps : (s : Statement) → StatementCells routines s → NodeKeeps cells (node_of routines s)
      node-keeps skip h = tt
      node-keeps (assign goal e) h = all-append (StepKeeps cells) (steps_of e 0) (taken goal) (steps-keep e 0 h.1) (taken-keeps goal h.0)
      node-keeps (call_of goal f es) h = (passed-keep (routine_at routines f).parameters es h.2 h.1, (tt, (taken-keeps goal h.0, tt)))
      node-keeps (block all) h = nodes-keep all h
      node-keeps (if_so test first second) h = (steps-keep test 0 h.0, node-keeps first h.1, node-keeps second h.2)
      node-keeps (repeat most test body) h = bounded-keeps most (loop_test test) (node_of routines body) (test-keeps test h.0) (node-keeps body h.1)
      node-keeps (loop test body) h = (test-keeps test h.0, node-keeps body h.1)
      node-keeps (eot i) h = tt
      node-keeps (par i threads) h = tt
      node-keeps (abort j weak body test) h = node-keeps body h.0

      nodes-keep : (all : Statements) → StatementsCells routines all → NodesKeep cells (nodes_of routines all)
      nodes-keep none h = tt
      nodes-keep (each s rest) h = (node-keeps s h.0, nodes-keep rest h.1)

    finished-keeps : (result : Option Expression) (nodes : Nodes) → SomeCells result → NodesKeep cells nodes → NodesKeep cells (finished routines result nodes)
    finished-keeps None nodes h k = k
    finished-keeps (Some e) nodes h k = (k, (steps-keep e 0 h, tt))

    pub body-keeps : (r : Routine) → RoutineCells routines r → NodeKeeps cells (body_of routines r)
    body-keeps r h = (locals-keep r.locals h.locals, finished-keeps r.result (nodes_of routines r.body) h.result (nodes-keep r.body h.body))

    mutual
      conditions-keep : (s : Statement) → StatementCells routines s → AllByRecursion (λ (a : Bool × Expression). NamesCells a.1) (aborts_in s)
      conditions-keep skip h = tt
      conditions-keep (assign goal e) h = tt
      conditions-keep (call_of goal f es) h = tt
      conditions-keep (block all) h = all-conditions-keep all h
      conditions-keep (if_so test first second) h = all-append (λ (a : Bool × Expression). NamesCells a.1) (aborts_in first) (aborts_in second) (conditions-keep first h.1) (conditions-keep second h.2)
      conditions-keep (repeat most test body) h = conditions-keep body h.1
      conditions-keep (loop test body) h = conditions-keep body h.1
      conditions-keep (eot i) h = tt
      conditions-keep (par i threads) h = tt
      conditions-keep (abort j weak body test) h = (h.1, conditions-keep body h.0)

      all-conditions-keep : (all : Statements) → StatementsCells routines all → AllByRecursion (λ (a : Bool × Expression). NamesCells a.1) (aborts_in_all all)
      all-conditions-keep none h = tt
      all-conditions-keep (each s rest) h = all-append (λ (a : Bool × Expression). NamesCells a.1) (aborts_in s) (aborts_in_all rest) (conditions-keep s h.0) (all-conditions-keep rest h.1)

    pub routines-conditions : (rest : List Routine) → AllByRecursion (RoutineCells routines) rest → AllByRecursion (λ (a : Bool × Expression). NamesCells a.1) (aborts_of rest)
    routines-conditions [] h = tt
    routines-conditions (r ∷ rest) h = all-append (λ (a : Bool × Expression). NamesCells a.1) (aborts_in_all r.body) (aborts_of rest) (all-conditions-keep r.body h.0.body) (routines-conditions rest h.1)

    pub bodies-keep : (rest : List Routine) → AllByRecursion (RoutineCells routines) rest → AllByRecursion (NodeKeeps cells) (bodies_of routines rest)
    bodies-keep [] h = tt
    bodies-keep (r ∷ rest) h = (body-keeps r h.0, bodies-keep rest h.1)

  pub tests-keep : (aborts : List (Bool × Expression)) → AllByRecursion (λ (a : Bool × Expression). NamesCells a.1) aborts → AllByRecursion (λ (a : Bool × Test). StepsKeep cells a.1.steps) (conditions_of aborts)
  tests-keep [] h = tt
  tests-keep (a ∷ aborts) h = (steps-keep a.1 0 h.0, tests-keep aborts h.1)

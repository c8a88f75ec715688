-- The flow of a program.
use Rattle.std.specs.Prelude.{ℕ, zero, suc, pos, Bool, List, [], ◌∷◌, ◌++◌, Option, Some, None}
use Rattle.pt_base.specs.Operators.{word_of}
use Rattle.pc_meaning.specs.Tree.{Expression, Operands, number, cell, element, unary, chain, alone, operand, Goal, nowhere, to_cell, to_element, Statement, Statements, skip, assign, call_of, block, if_so, repeat, loop, eot, par, abort, none, each, Routine, Program}
use Rattle.pc_lower.specs.Aborts.{aborts_of}
use Rattle.pc_meaning.specs.Outcomes.{Residual, Threads, here, seq, in_abort, in_par, no_more, ended, paused}
use Rattle.pc_meaning.specs.Statements.{routine_at}
use Rattle.pc_lower.specs.declared.nodes.Place.TheVariants.{Temp as temp}
use Rattle.pc_lower.specs.declared.nodes.Step.{Step}
use Rattle.pc_lower.specs.declared.nodes.Step.TheVariants.{Const as const, Load as load, Save as save, Unary as unary_step, Binary as binary_step, TakeElement as take_element, PutElement as put_element}
use Rattle.pc_lower.specs.declared.nodes.Test.{Test}
use Rattle.pc_lower.specs.Flow.{Node, Nodes, straight, sequence, branch, turns, bounded, call, pause, fork, guard, no_nodes, and, Rest, Rests, at, ahead, within, group, nobody, over, going, Flow}

-- ---- values: the word comes into temporary k, by temporaries from k on

abbrev mutual
  pub steps_of : Expression → ℕ → List Step
  steps_of (number n) k = const (temp k) (word_of (pos n)) ∷ []
  steps_of (cell place) k = load (temp k) place ∷ []
  steps_of (element first size index) k = steps_of index k ++ take_element (temp k) first size (temp k) ∷ []
  steps_of (unary op e) k = steps_of e k ++ unary_step op (temp k) (temp k) ∷ []
  steps_of (chain e rest) k = steps_of e k ++ operands_of rest k

  pub operands_of : Operands → ℕ → List Step
  operands_of alone k = []
  operands_of (operand op e rest) k = steps_of e (suc k) ++ (binary_step op (temp k) (temp k) (temp (suc k)) ∷ operands_of rest k)

abbrev pub test_of : Expression → Test
test_of e = record { steps = steps_of e 0; by = temp 0 }

-- a number that isn't 0 has no test
abbrev pub number_test : ℕ → Option Test
number_test zero = Some (test_of (number 0))
number_test (suc n) = None

abbrev pub loop_test : Expression → Option Test
loop_test (number n) = number_test n
loop_test (cell place) = Some (test_of (cell place))
loop_test (element first size index) = Some (test_of (element first size index))
loop_test (unary op e) = Some (test_of (unary op e))
loop_test (chain e rest) = Some (test_of (chain e rest))

-- temporary 0 goes to its goal
abbrev pub taken : Goal → List Step
taken nowhere = []
taken (to_cell place) = save place (temp 0) ∷ []
taken (to_element first size index) = steps_of index 1 ++ put_element first size (temp 1) (temp 0) ∷ []

-- each parameter is saved as soon as its argument is there
abbrev pub passed : List ℕ → List Expression → List Step
passed [] es = []
passed (place ∷ places) [] = []
passed (place ∷ places) (e ∷ es) = steps_of e 0 ++ (save place (temp 0) ∷ passed places es)

abbrev pub steps_or_zero : Option Expression → List Step
steps_or_zero None = const (temp 0) (pos 0) ∷ []
steps_or_zero (Some e) = steps_of e 0

abbrev pub locals_steps : List (ℕ × Option Expression) → List Step
locals_steps [] = []
locals_steps (l ∷ locals) = steps_or_zero l.1 ++ (save l.0 (temp 0) ∷ locals_steps locals)

-- ---- statements

abbrev pub bounded_of : ℕ → Option Test → Node → Node
bounded_of zero test body = sequence no_nodes
bounded_of (suc n) test body = bounded (suc n) test body

module _ (routines : List Routine) where
  abbrev mutual
    pub node_of : Statement → Node
    node_of skip = sequence no_nodes
    node_of (assign goal e) = straight (steps_of e 0 ++ taken goal)
    node_of (call_of goal f es) = sequence (and (straight (passed (routine_at routines f).parameters es)) (and (call f) (and (straight (taken goal)) no_nodes)))
    node_of (block all) = sequence (nodes_of all)
    node_of (if_so test first second) = branch (test_of test) (node_of first) (node_of second)
    node_of (repeat most test body) = bounded_of most (loop_test test) (node_of body)
    node_of (loop test body) = turns (loop_test test) (node_of body)
    node_of (eot i) = pause i
    node_of (par i threads) = fork i threads
    node_of (abort j weak body test) = guard j (node_of body)

    pub nodes_of : Statements → Nodes
    nodes_of none = no_nodes
    nodes_of (each s rest) = and (node_of s) (nodes_of rest)

  -- what is left of a statement is this of its node
  abbrev mutual
    pub rest_of : Residual → Rest
    rest_of (here i) = at i
    rest_of (seq r rest) = ahead (rest_of r) (nodes_of rest)
    rest_of (in_abort j weak test r) = within j (rest_of r)
    rest_of (in_par i threads) = group i (rests_of threads)

    pub rests_of : Threads → Rests
    rests_of no_more = nobody
    rests_of (ended more) = over (rests_of more)
    rests_of (paused r more) = going (rest_of r) (rests_of more)

  -- a result stays in temporary 0
  abbrev pub finished : Option Expression → Nodes → Nodes
  finished None body = body
  finished (Some e) body = and (sequence body) (and (straight (steps_of e 0)) no_nodes)

  abbrev pub body_of : Routine → Node
  body_of r = sequence (and (straight (locals_steps r.locals)) (finished r.result (nodes_of r.body)))

abbrev pub bodies_of : List Routine → List Routine → List Node
bodies_of routines [] = []
bodies_of routines (r ∷ rest) = body_of routines r ∷ bodies_of routines rest

abbrev pub conditions_of : List (Bool × Expression) → List (Bool × Test)
conditions_of [] = []
conditions_of (a ∷ rest) = (a.0, test_of a.1) ∷ conditions_of rest

abbrev pub flow_of : Program → Flow
flow_of p = record {
  bodies = bodies_of p.routines p.routines;
  main = p.main;
  aborts = conditions_of (aborts_of p.routines);
  declared = p.declared;
  inputs = p.inputs;
  outputs = p.outputs;
}

-- Each place of a flow is below 652.
use Rattle.std.proofs.Common.{ℕ, zero, suc, ◌+◌, ◌*◌, ◌<◌, ◌≤◌, max, List, [], ◌∷◌, ◌++◌, Option, Some, None, arith}
use Rattle.std.proofs.Math.Nat.{le-max_left, le-max_right}
use Rattle.pc_meaning.specs.Tree.{Expression, Operands, number, cell, element, unary, chain, alone, operand, Goal, nowhere, to_cell, to_element, Statement, Statements, skip, assign, call_of, block, if_so, repeat, loop, eot, par, abort, none, each, Routine}
use Rattle.pc_lower.specs.declared.nodes.Step.{Step}
use Rattle.pc_lower.specs.declared.nodes.Test.{Test}
use Rattle.pc_lower.specs.Flow.{Node}
use Rattle.pc_lower.specs.Lowered.{steps_of, operands_of, test_of, loop_test, taken, passed, steps_or_zero, locals_steps, bounded_of, node_of, nodes_of, finished, body_of}
use Rattle.pc_lower.specs.Counts.{Nested, AllNested, nested_number, nested_cell, nested_element, nested_unary, nested_chain, nested_in, nested_operand, GoalNested, EachNested, SomeNested, StatementNested, StatementsNested, LocalsNested, RoutineNested, StepsWithin, TestWithin, SomeWithin, NodeWithin, NodesWithin, need, needs}
use Rattle.pc_lower.specs.Lowered.{body_of}

max_plus : (a b c k : ℕ) → a + c ≤ k → b + c ≤ k → max a b + c ≤ k
max_plus a b c k p q = grind arith

mutual
  need-some : (e : Expression) → 1 ≤ need e
  need-some (number n) = omega arith
  need-some (cell place) = omega arith
  need-some (element first size index) = need-some index
  need-some (unary op e) = need-some e
  need-some (chain e rest) = let a = need-some e in let b = le-max_left (need e) (needs rest) in omega (arith, a, b)

mutual
  need_bound : (deep level : ℕ) (e : Expression) → Nested deep level e → need e + (level + 10 * deep) ≤ 651
  need_bound deep level e (nested_number {deep = d} {level = l} {n = n} below tight) = omega (arith, below, tight)
  need_bound deep level e (nested_cell {deep = d} {level = l} {place = p} below tight) = omega (arith, below, tight)
  need_bound deep level e (nested_element {deep = d} {level = l} {e = index} tight h) = let a = need_bound (suc d) 0 index h in omega (arith, tight, a)
  need_bound deep level e (nested_unary {deep = d} {level = l} {e = x} tight h) = let a = need_bound (suc d) 10 x h in omega (arith, tight, a)
  need_bound deep level e (nested_chain {deep = d} {level = l} {own = own} {e = x} {rest = rest} looser h hs) =
      let a = need_bound d (suc own) x h in
      let b : needs rest + (own + 10 * d) ≤ 651 = needs_bound d own rest hs (omega (arith, a)) in
      let c : max (need x) (needs rest) + (own + 10 * d) ≤ 651 = max_plus (need x) (needs rest) (own + 10 * d) 651 (omega (arith, a)) b in
      omega (arith, c, looser)
  need_bound deep level e (nested_in {deep = d} {level = l} {e = x} tight h) = let a = need_bound (suc d) 0 x h in omega (arith, tight, a)

  needs_bound : (deep own : ℕ) (rest : Operands) → AllNested deep (suc own) rest → own + 10 * deep ≤ 651 → needs rest + (own + 10 * deep) ≤ 651
  needs_bound deep own alone h few = omega (arith, few)
  needs_bound deep own (operand op e rest) (nested_operand h hs) few =
      let a = need_bound deep (suc own) e h in
      max_plus (1 + need e) (needs rest) (own + 10 * deep) 651 (omega (arith, a)) (needs_bound deep own rest hs few)

within_append : (most : ℕ) (a b : List Step) → StepsWithin most a → StepsWithin most b → StepsWithin most (a ++ b)
within_append most [] b p q = q
within_append most (s ∷ a) b p q = (p.0, within_append most a b p.1 q)

mutual
  within : (e : Expression) (k most : ℕ) → k + need e ≤ most → StepsWithin most (steps_of e k)
  within (number n) k most le = (omega (arith, le), tt)
  within (cell place) k most le = (omega (arith, le), tt)
  within (element first size index) k most le =
      let a = need-some index in
      let b : k < most = omega (arith, a, le) in
      within_append most (steps_of index k) _ (within index k most le) ((b, b), tt)
  within (unary op e) k most le =
      let a = need-some e in
      let b : k < most = omega (arith, a, le) in
      within_append most (steps_of e k) _ (within e k most le) ((b, b), tt)
  within (chain e rest) k most le =
      let a = le-max_left (need e) (needs rest) in
      let b = le-max_right (need e) (needs rest) in
      within_append most (steps_of e k) (operands_of rest k) (within e k most (omega (arith, le, a))) (all_within rest k most (omega (arith, le, b)))

  all_within : (rest : Operands) (k most : ℕ) → k + needs rest ≤ most → StepsWithin most (operands_of rest k)
  all_within alone k most le = tt
  all_within (operand op e rest) k most le =
      let a = le-max_left (1 + need e) (needs rest) in
      let b = le-max_right (1 + need e) (needs rest) in
      let c = need-some e in
      let d : k < most = omega (arith, le, a, c) in
      let f : suc k < most = omega (arith, le, a, c) in
      within_append most (steps_of e (suc k)) _ (within e (suc k) most (omega (arith, le, a))) ((d, d, f), all_within rest k most (omega (arith, le, b)))

first_within : (e : Expression) → Nested 0 0 e → StepsWithin 652 (steps_of e 0)
first_within e h = let a = need_bound 0 0 e h in within e 0 652 (omega (arith, a))

zero_within : 0 < 652
zero_within = omega arith

test_within : (e : Expression) → Nested 0 0 e → TestWithin 652 (test_of e)
test_within e h = (first_within e h, zero_within)

some_within : (e : Expression) → Nested 0 0 e → SomeWithin 652 (loop_test e)
some_within (number zero) h = test_within (number 0) h
some_within (number (suc n)) h = tt
some_within (cell place) h = test_within (cell place) h
some_within (element first size index) h = test_within (element first size index) h
some_within (unary op e) h = test_within (unary op e) h
some_within (chain e rest) h = test_within (chain e rest) h

taken_within : (goal : Goal) → GoalNested goal → StepsWithin 652 (taken goal)
taken_within nowhere h = tt
taken_within (to_cell place) h = (zero_within, tt)
taken_within (to_element first size index) h =
    let a = need_bound 0 0 index h in
    within_append 652 (steps_of index 1) _ (within index 1 652 (omega (arith, a))) ((omega arith, zero_within), tt)

passed_within : (places : List ℕ) (es : List Expression) → EachNested es → StepsWithin 652 (passed places es)
passed_within [] es h = tt
passed_within (place ∷ places) [] h = tt
passed_within (place ∷ places) (e ∷ es) h = within_append 652 (steps_of e 0) _ (first_within e h.0) (zero_within, passed_within places es h.1)

zero_or_within : (e : Option Expression) → SomeNested e → StepsWithin 652 (steps_or_zero e)
zero_or_within None h = (zero_within, tt)
zero_or_within (Some e) h = first_within e h

locals_within : (locals : List (ℕ × Option Expression)) → LocalsNested locals → StepsWithin 652 (locals_steps locals)
locals_within [] h = tt
locals_within (l ∷ locals) h = within_append 652 (steps_or_zero l.1) _ (zero_or_within l.1 h.0) (zero_within, locals_within locals h.1)

bounded_within : (n : ℕ) (t : Option Test) (body : Node) → SomeWithin 652 t → NodeWithin 652 body → NodeWithin 652 (bounded_of n t body)
bounded_within zero t body p q = tt
bounded_within (suc n) t body p q = (p, q)

module _ (routines : List Routine) where
  mutual
    node_within : (s : Statement) → StatementNested s → NodeWithin 652 (node_of routines s)
    node_within skip h = tt
    node_within (assign goal e) h = within_append 652 (steps_of e 0) (taken goal) (first_within e h.1) (taken_within goal h.0)
    node_within (call_of goal f es) h = (passed_within _ es h.1, (tt, (taken_within goal h.0, tt)))
    node_within (block all) h = nodes_within all h
    node_within (if_so test first second) h = (test_within test h.0, node_within first h.1, node_within second h.2)
    node_within (repeat most test body) h = bounded_within most (loop_test test) (node_of routines body) (some_within test h.0) (node_within body h.1)
    node_within (loop test body) h = (some_within test h.0, node_within body h.1)
    node_within (eot i) h = tt
    node_within (par i threads) h = tt
    node_within (abort j weak body test) h = node_within body h.0

    nodes_within : (all : Statements) → StatementsNested all → NodesWithin 652 (nodes_of routines all)
    nodes_within none h = tt
    nodes_within (each s rest) h = (node_within s h.0, nodes_within rest h.1)

  finished_within : (result : Option Expression) (body : Statements) → SomeNested result → StatementsNested body → NodesWithin 652 (finished routines result (nodes_of routines body))
  finished_within None body p q = nodes_within body q
  finished_within (Some e) body p q = (nodes_within body q, (first_within e p, tt))

  pub routine_within : (r : Routine) → RoutineNested r → NodeWithin 652 (body_of routines r)
  routine_within r h = (locals_within r.locals h.0, finished_within r.result r.body h.2 h.1)

  pub condition_within : (e : Expression) → Nested 0 0 e → TestWithin 652 (test_of e)
  condition_within = test_within

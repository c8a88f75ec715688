-- A flow's words are within the weights of the language.
use Rattle.std.proofs.Common.{◌≡◌, ℕ, zero, suc, ◌+◌, ◌*◌, ◌≤◌, Bool, List, [], ◌∷◌, ◌++◌, length, Option, Some, None, refl, arith, length-append}
use Rattle.std.proofs.Math.Nat.{mul-le-mul_left}
use Rattle.pt_base.specs.declared.operators.UnOp.{UnOp}
use Rattle.pt_base.specs.declared.operators.UnOp.TheVariants.{Neg, Not, Flip}
use Rattle.pt_base.specs.declared.operators.BinOp.{BinOp}
use Rattle.pt_base.specs.declared.operators.BinOp.TheVariants.{Or, And, BitOr, BitXor, BitAnd, Equal, NotEqual, Less, LessEqual, Greater, GreaterEqual, ShiftLeft, ShiftRight, Add, Sub, Mul, Div, Rem}
use Rattle.pc_meaning.specs.Tree.{Expression, Operands, number, cell, element, unary, chain, alone, operand, Goal, nowhere, to_cell, to_element, Statement, Statements, skip, assign, call_of, block, if_so, repeat, loop, eot, par, abort, none, each, Routine}
use Rattle.pc_lower.specs.Aborts.{aborts_in, aborts_in_all, aborts_of}
use Rattle.pc_meaning.specs.Statements.{routine_at}
use Rattle.pc_lower.specs.declared.nodes.Place.TheVariants.{Temp as temp}
use Rattle.pc_lower.specs.declared.nodes.Step.{Step}
use Rattle.pc_lower.specs.declared.nodes.Step.TheVariants.{TakeElement as take_element, PutElement as put_element, Unary as unary_step, Binary as binary_step, Save as save}
use Rattle.pc_lower.specs.declared.nodes.Test.{Test}
use Rattle.pc_lower.specs.Flow.{Node, Nodes}
use Rattle.pc_lower.specs.Lowered.{steps_of, operands_of, loop_test, taken, passed, steps_or_zero, locals_steps, bounded_of, node_of, nodes_of, finished, body_of, bodies_of, conditions_of}
use Rattle.pc_lower.specs.Counts.{unary_words, binary_words, steps_words, some_words, drop_words, node_words, nodes_words, conditions_words, bodies_words, count_at, node_passage, nodes_passage, passages_from, value_weight, operands_weight, goal_weight, arguments_weight, weight, weights, or_four, locals_weight, result_weight, routine_weight, routines_weight, single, singles, routine_single, singles_from}
use Rattle.pc_meaning.proofs.Lookups.{both_grow_all}

words_append : (a b : List Step) → steps_words (a ++ b) ≡ steps_words a + steps_words b
words_append [] b = omega arith
words_append (s ∷ a) b = let h = words_append a b in omega (arith, h)

unary-few : (op : UnOp) → unary_words op ≤ 12
unary-few Neg = omega arith
unary-few Not = omega arith
unary-few Flip = omega arith

binary-few : (op : BinOp) → binary_words op ≤ 16
binary-few Or = omega arith
binary-few And = omega arith
binary-few BitOr = omega arith
binary-few BitXor = omega arith
binary-few BitAnd = omega arith
binary-few Equal = omega arith
binary-few NotEqual = omega arith
binary-few Less = omega arith
binary-few LessEqual = omega arith
binary-few Greater = omega arith
binary-few GreaterEqual = omega arith
binary-few ShiftLeft = omega arith
binary-few ShiftRight = omega arith
binary-few Add = omega arith
binary-few Sub = omega arith
binary-few Mul = omega arith
binary-few Div = omega arith
binary-few Rem = omega arith

mutual
  pub value-words : (e : Expression) (k : ℕ) → steps_words (steps_of e k) ≤ value_weight e
  value-words (number n) k = omega arith
  value-words (cell place) k = omega arith
  value-words (element first size index) k =
      let a = words_append (steps_of index k) (take_element (temp k) first size (temp k) ∷ []) in
      let b = value-words index k in
      omega (arith, a, b)
  value-words (unary op e) k =
      let a = words_append (steps_of e k) (unary_step op (temp k) (temp k) ∷ []) in
      let b = value-words e k in
      let c = unary-few op in
      omega (arith, a, b, c)
  value-words (chain e rest) k =
      let a = words_append (steps_of e k) (operands_of rest k) in
      let b = value-words e k in
      let c = operands-words rest k in
      omega (arith, a, b, c)

  operands-words : (rest : Operands) (k : ℕ) → steps_words (operands_of rest k) ≤ operands_weight rest
  operands-words alone k = omega arith
  operands-words (operand op e rest) k =
      let a = words_append (steps_of e (suc k)) (binary_step op (temp k) (temp k) (temp (suc k)) ∷ operands_of rest k) in
      let b = value-words e (suc k) in
      let c = binary-few op in
      let d = operands-words rest k in
      omega (arith, a, b, c, d)

taken-words : (goal : Goal) → steps_words (taken goal) ≤ goal_weight goal
taken-words nowhere = omega arith
taken-words (to_cell place) = omega arith
taken-words (to_element first size index) =
    let a = words_append (steps_of index 1) (put_element first size (temp 1) (temp 0) ∷ []) in
    let b = value-words index 1 in
    omega (arith, a, b)

passed-words : (places : List ℕ) (es : List Expression) → steps_words (passed places es) ≤ arguments_weight es
passed-words [] es = omega arith
passed-words (place ∷ places) [] = omega arith
passed-words (place ∷ places) (e ∷ es) =
    let a = words_append (steps_of e 0) (save place (temp 0) ∷ passed places es) in
    let b = value-words e 0 in
    let c = passed-words places es in
    omega (arith, a, b, c)

zero-words : (e : Option Expression) → steps_words (steps_or_zero e) ≤ or_four e
zero-words None = omega arith
zero-words (Some e) = value-words e 0

locals-words : (locals : List (ℕ × Option Expression)) → steps_words (locals_steps locals) ≤ locals_weight locals
locals-words [] = omega arith
locals-words (l ∷ locals) =
    let a = words_append (steps_or_zero l.1) (save l.0 (temp 0) ∷ locals_steps locals) in
    let b = zero-words l.1 in
    let c = locals-words locals in
    omega (arith, a, b, c)

assign-words : (goal : Goal) (e : Expression) → steps_words (steps_of e 0 ++ taken goal) ≤ goal_weight goal + value_weight e
assign-words goal e =
    let a = words_append (steps_of e 0) (taken goal) in
    let b = value-words e 0 in
    let c = taken-words goal in
    omega (arith, a, b, c)

some-words : (e : Expression) → some_words (loop_test e) + drop_words (loop_test e) ≤ value_weight e + 5
some-words (number zero) = omega arith
some-words (number (suc n)) = omega arith
some-words (cell place) = omega arith
some-words (element first size index) = let a = value-words (element first size index) 0 in omega (arith, a)
some-words (unary op e) = let a = value-words (unary op e) 0 in omega (arith, a)
some-words (chain e rest) = let a = value-words (chain e rest) 0 in omega (arith, a)

drop-few : (t : Option Test) → drop_words t ≤ 1
drop-few None = omega arith
drop-few (Some t) = omega arith

some-alone : (e : Expression) → some_words (loop_test e) ≤ value_weight e + 4
some-alone (number zero) = omega arith
some-alone (number (suc n)) = omega arith
some-alone (cell place) = omega arith
some-alone (element first size index) = let a = value-words (element first size index) 0 in omega (arith, a)
some-alone (unary op e) = let a = value-words (unary op e) 0 in omega (arith, a)
some-alone (chain e rest) = let a = value-words (chain e rest) 0 in omega (arith, a)

bounded-words : (n : ℕ) (t : Option Test) (body : Node) → node_words (bounded_of n t body) ≤ 5 + (some_words t + drop_words t) + node_words body
bounded-words zero t body = omega arith
bounded-words (suc n) t body = omega arith

conditions_append : (a b : List (Bool × Expression)) → conditions_words (conditions_of (a ++ b)) ≡ conditions_words (conditions_of a) + conditions_words (conditions_of b)
conditions_append [] b = omega arith
conditions_append (x ∷ a) b = let h = conditions_append a b in omega (arith, h)

module _ (routines : List Routine) where
  -- with the conditions of the aborts inside
  mutual
    pub statement-words : (s : Statement) → node_words (node_of routines s) + conditions_words (conditions_of (aborts_in s)) ≤ weight s
    statement-words skip = omega arith
    statement-words (assign goal e) = let a = assign-words goal e in omega (arith, a)
    statement-words (call_of goal f es) = let a = passed-words (routine_at routines f).parameters es in let b = taken-words goal in omega (arith, a, b)
    statement-words (block all) = statements-words all
    statement-words (if_so test first second) =
        let a = value-words test 0 in
        let b = statement-words first in
        let c = statement-words second in
        let d = conditions_append (aborts_in first) (aborts_in second) in
        omega (arith, a, b, c, d)
    statement-words (repeat most test body) =
        let a = bounded-words most (loop_test test) (node_of routines body) in
        let b = some-words test in
        let c = statement-words body in
        omega (arith, a, b, c)
    statement-words (loop test body) = let a = some-alone test in let b = statement-words body in omega (arith, a, b)
    statement-words (eot i) = omega arith
    statement-words (par i threads) = omega arith
    statement-words (abort j weak body test) = let a = value-words test 0 in let b = statement-words body in omega (arith, a, b)

    statements-words : (all : Statements) → nodes_words (nodes_of routines all) + conditions_words (conditions_of (aborts_in_all all)) ≤ weights all
    statements-words none = omega arith
    statements-words (each s rest) =
        let a = statement-words s in
        let b = statements-words rest in
        let c = conditions_append (aborts_in s) (aborts_in_all rest) in
        omega (arith, a, b, c)

  finished-words : (result : Option Expression) (body : Nodes) → nodes_words (finished routines result body) ≤ nodes_words body + result_weight result
  finished-words None body = omega arith
  finished-words (Some e) body = let a = value-words e 0 in omega (arith, a)

  routine-words : (r : Routine) → node_words (body_of routines r) + 1 + conditions_words (conditions_of (aborts_in_all r.body)) ≤ routine_weight r
  routine-words r =
      let a = locals-words r.locals in
      let b = finished-words r.result (nodes_of routines r.body) in
      let c = statements-words r.body in
      omega (arith, a, b, c)

  pub routines-words : (rs : List Routine) → bodies_words (bodies_of routines rs) + conditions_words (conditions_of (aborts_of rs)) ≤ routines_weight rs
  routines-words [] = omega arith
  routines-words (r ∷ rs) =
      let a = routine-words r in
      let b = routines-words rs in
      let c = conditions_append (aborts_in_all r.body) (aborts_of rs) in
      omega (arith, a, b, c)

-- ---- one passage

bounded-passage : (known : List ℕ) (n : ℕ) (t : Option Test) (body : Node) (test single_body : ℕ) → some_words t ≤ test + 4 → node_passage known body ≤ single_body → node_passage known (bounded_of n t body) ≤ 12 + (n + 1) * (8 + test + single_body)
bounded-passage known zero t body test single_body p q = omega arith
bounded-passage known (suc n) t body test single_body p q =
    let a : 1 + some_words t + node_passage known body + 2 ≤ 8 + test + single_body = omega (arith, p, q) in
    let b : (suc n + 1) * (1 + some_words t + node_passage known body + 2) ≤ (suc n + 1) * (8 + test + single_body) = mul-le-mul_left (suc n + 1) a in
    let c = drop-few t in
    omega (arith, b, c)

module _ (routines : List Routine) (known weighed : List ℕ) (fewer : (f : ℕ) → count_at known f ≤ count_at weighed f) where
  mutual
    pub statement-passage : (s : Statement) → node_passage known (node_of routines s) ≤ single weighed s
    statement-passage skip = omega arith
    statement-passage (assign goal e) = assign-words goal e
    statement-passage (call_of goal f es) = let a = passed-words (routine_at routines f).parameters es in let b = taken-words goal in let c = fewer f in omega (arith, a, b, c)
    statement-passage (block all) = statements-passage all
    statement-passage (if_so test first second) =
        let a = value-words test 0 in
        let b = statement-passage first in
        let c = statement-passage second in
        omega (arith, a, b, c)
    statement-passage (repeat most test body) = bounded-passage known most (loop_test test) (node_of routines body) (value_weight test) (single weighed body) (some-alone test) (statement-passage body)
    statement-passage (loop test body) = let a = some-alone test in let b = statement-passage body in omega (arith, a, b)
    statement-passage (eot i) = omega arith
    statement-passage (par i threads) = omega arith
    statement-passage (abort j weak body test) = let b = statement-passage body in omega (arith, b)

    statements-passage : (all : Statements) → nodes_passage known (nodes_of routines all) ≤ singles weighed all
    statements-passage none = omega arith
    statements-passage (each s rest) = let a = statement-passage s in let b = statements-passage rest in omega (arith, a, b)

  finished-passage : (result : Option Expression) (body : Nodes) → nodes_passage known (finished routines result body) ≤ nodes_passage known body + result_weight result
  finished-passage None body = omega arith
  finished-passage (Some e) body = let a = value-words e 0 in omega (arith, a)

  pub routine-passage : (r : Routine) → node_passage known (body_of routines r) + 1 ≤ routine_single weighed r
  routine-passage r =
      let a = locals-words r.locals in
      let b = finished-passage r.result (nodes_of routines r.body) in
      let c = statements-passage r.body in
      omega (arith, a, b, c)

passages-fewer : (routines rest : List Routine) (known weighed : List ℕ) → length known ≡ length weighed → ((f : ℕ) → count_at known f ≤ count_at weighed f) →
    (f : ℕ) → count_at (passages_from known (bodies_of routines rest)) f ≤ count_at (singles_from weighed rest) f
passages-fewer routines [] known weighed long h = h
passages-fewer routines (r ∷ rest) known weighed long h =
    let x = node_passage known (body_of routines r) + 1 in
    let y = routine_single weighed r in
    let a = length-append known (x ∷ []) in
    let b = length-append weighed (y ∷ []) in
    passages-fewer routines rest (known ++ x ∷ []) (weighed ++ y ∷ []) (omega (arith, a, b, long)) (both_grow_all (λ i m n. m ≤ n) 0 0 known weighed x y long h (routine-passage routines known weighed h r))

pub passages-few : (routines : List Routine) (f : ℕ) → count_at (passages_from [] (bodies_of routines routines)) f ≤ count_at (singles_from [] routines) f
passages-few routines = passages-fewer routines routines [] [] refl (λ f. omega arith)

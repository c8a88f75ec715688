-- The words of an image are within those that the rules count.
use Rattle.std.proofs.Common.{◌≡◌, ℕ, ◌+◌, ◌≤◌, Bool, true, false, List, [], ◌∷◌, Option, Some, None, refl, arith}
use Rattle.std.specs.Prelude.{nat_lt, if◌then◌else◌}
use Rattle.pt_base.specs.declared.UnOp.{UnOp}
use Rattle.pt_base.specs.declared.UnOp.TheVariants.{Neg, Not, Flip}
use Rattle.pt_base.specs.declared.BinOp.{BinOp}
use Rattle.pt_base.specs.declared.BinOp.TheVariants.{Or, And, BitOr, BitXor, BitAnd, Equal, NotEqual, Less, LessEqual, Greater, GreaterEqual, ShiftLeft, ShiftRight, Add, Sub, Mul, Div, Rem}
use Rattle.pc_lower.specs.declared.nodes.Step.{Step}
use Rattle.pc_lower.specs.declared.nodes.Step.TheVariants.{Const as const, Load as load, Save as save, Unary as unary_step, Binary as binary_step, TakeElement as take_element, PutElement as put_element, Move as move}
use Rattle.pc_lower.specs.declared.nodes.Test.{Test}
use Rattle.pc_lower.specs.Flow.{Node, Nodes, straight, sequence, branch, turns, bounded, call, pause, fork, guard, no_nodes, and, Flow}
use Rattle.pc_lower.specs.Counts as lowered
use Rattle.pc_lower.specs.Counts.{node_words, nodes_words, some_words, drop_words, bodies_words}
use Rattle.pc_lower.specs.Words.{Writing}
use Rattle.pc_lower.specs.Few.{WritesFew}
use Rattle.pc_regs.specs.declared.placement.Placement.{Placement}
use Rattle.pc_regs.specs.Words.{writing_of}
use Rattle.pc_regs.specs.Counts.{most_unary, most_binary, most_words, most_steps_words}
use Rattle.pc_regs.specs.Laws.{WordsAreFew}
use Rattle.pc_emit.specs.Code.{loop_size, drop_size, option_size, size, sizes}
use Rattle.pc_emit.specs.Image.{functions_size, conditions_size, code_size}

unary-same : (op : UnOp) → most_unary op ≡ lowered.unary_words op
unary-same Neg = refl
unary-same Not = refl
unary-same Flip = refl

binary-same : (op : BinOp) → most_binary op ≡ lowered.binary_words op
binary-same Or = refl
binary-same And = refl
binary-same BitOr = refl
binary-same BitXor = refl
binary-same BitAnd = refl
binary-same Equal = refl
binary-same NotEqual = refl
binary-same Less = refl
binary-same LessEqual = refl
binary-same Greater = refl
binary-same GreaterEqual = refl
binary-same ShiftLeft = refl
binary-same ShiftRight = refl
binary-same Add = refl
binary-same Sub = refl
binary-same Mul = refl
binary-same Div = refl
binary-same Rem = refl

step-same : (s : Step) → most_words s ≡ lowered.step_words s
step-same (const to n) = refl
step-same (load to word) = refl
step-same (save word by) = refl
step-same (unary_step op to by) = unary-same op
step-same (binary_step op to left right) = binary-same op
step-same (take_element to first size index) = refl
step-same (put_element first size index by) = refl
step-same (move to by) = refl

steps-same : (steps : List Step) → most_steps_words steps ≡ lowered.steps_words steps
steps-same [] = refl
steps-same (s ∷ steps) = let a = step-same s in let b = steps-same steps in omega (arith, a, b)

-- the words of a placement are within the worst
pub writes-few : WordsAreFew → (p : Placement) → WritesFew (writing_of p)
writes-few few p = record {
  steps = λ steps. (let a = (few p).0 steps in let b = steps-same steps in omega (arith, a, b));
  tests = λ t. (let a = (few p).1 t in let b = steps-same t.steps in omega (arith, a, b));
}

module _ (writing : Writing) (few : WritesFew writing) where
  loop-less : (most : ℕ) → loop_size most ≤ 2
  loop-less most = by (nat_lt most 65536)
    where
      by : (b : Bool) → (if b then 1 else 2) ≤ 2
      by true = omega arith
      by false = omega arith

  option-less : (o : Option Test) → option_size writing o ≤ some_words o
  option-less None = omega arith
  option-less (Some t) = let h = few.tests t in omega (arith, h)

  drop-less : (o : Option Test) → drop_size o ≤ drop_words o
  drop-less None = omega arith
  drop-less (Some t) = omega arith

  mutual
    size-less : (n : Node) → size writing n ≤ node_words n
    size-less (straight steps) = few.steps steps
    size-less (sequence nodes) = sizes-less nodes
    size-less (branch test a b) = let x = few.tests test in let y = size-less a in let z = size-less b in omega (arith, x, y, z)
    size-less (turns test body) = let x = option-less test in let y = size-less body in omega (arith, x, y)
    size-less (bounded most test body) = let w = loop-less most in let x = option-less test in let y = size-less body in let z = drop-less test in omega (arith, w, x, y, z)
    size-less (call f) = omega arith
    size-less (pause i) = omega arith
    size-less (fork i fs) = omega arith
    size-less (guard j body) = let y = size-less body in omega (arith, y)

    sizes-less : (nodes : Nodes) → sizes writing nodes ≤ nodes_words nodes
    sizes-less no_nodes = omega arith
    sizes-less (and n nodes) = let x = size-less n in let y = sizes-less nodes in omega (arith, x, y)

  functions-less : (bodies : List Node) → functions_size writing bodies ≤ bodies_words bodies
  functions-less [] = omega arith
  functions-less (n ∷ bodies) = let x = size-less n in let y = functions-less bodies in omega (arith, x, y)

  conditions-less : (aborts : List (Bool × Test)) → conditions_size writing aborts ≤ lowered.conditions_words aborts
  conditions-less [] = omega arith
  conditions-less (a ∷ aborts) = let x = few.tests a.1 in let y = conditions-less aborts in omega (arith, x, y)

  pub code-less : (f : Flow) → code_size writing f ≤ bodies_words f.bodies + lowered.conditions_words f.aborts
  code-less f = let x = functions-less f.bodies in let y = conditions-less f.aborts in omega (arith, x, y)

-- How many words a step takes at most: with each place in the memory and each number too wide for one word.
use Rattle.std.specs.Prelude.{ℕ, ◌+◌, List, [], ◌∷◌}
use Rattle.pt_base.specs.declared.UnOp.{UnOp}
use Rattle.pt_base.specs.declared.UnOp.TheVariants.{Neg, Not, Flip}
use Rattle.pt_base.specs.declared.BinOp.{BinOp}
use Rattle.pt_base.specs.declared.BinOp.TheVariants.{Or, And, BitOr, BitXor, BitAnd, Equal, NotEqual, Less, LessEqual, Greater, GreaterEqual, ShiftLeft, ShiftRight, Add, Sub, Mul, Div, Rem}
use Rattle.pc_lower.specs.declared.nodes.Step.{Step}
use Rattle.pc_lower.specs.declared.nodes.Step.TheVariants.{Const as const, Load as load, Save as save, Unary as unary_step, Binary as binary_step, TakeElement as take_element, PutElement as put_element, Move as move}
use Rattle.pc_lower.specs.declared.nodes.Test.{Test}

abbrev pub most_unary : UnOp → ℕ
most_unary Neg = 5
most_unary Flip = 5
most_unary Not = 9

abbrev pub most_binary : BinOp → ℕ
most_binary Add = 7
most_binary Sub = 7
most_binary Mul = 7
most_binary Div = 7
most_binary Rem = 9
most_binary ShiftLeft = 7
most_binary ShiftRight = 7
most_binary BitAnd = 7
most_binary BitOr = 7
most_binary BitXor = 7
most_binary Less = 9
most_binary Greater = 9
most_binary LessEqual = 10
most_binary GreaterEqual = 10
most_binary NotEqual = 11
most_binary Equal = 12
most_binary And = 13
most_binary Or = 13

abbrev pub most_words : Step → ℕ
most_words (const to n) = 4
most_words (load to word) = 4
most_words (save word by) = 4
most_words (unary_step op to by) = most_unary op
most_words (binary_step op to left right) = most_binary op
most_words (take_element to first size index) = 16
most_words (put_element first size index by) = 20
most_words (move to by) = 4

abbrev pub most_steps_words : List Step → ℕ
most_steps_words [] = 0
most_steps_words (s ∷ steps) = most_words s + most_steps_words steps

-- with the load of the word that is looked at
abbrev pub most_test_words : Test → ℕ
most_test_words t = most_steps_words t.steps + 2

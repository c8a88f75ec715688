-- The operators on words of 32 bits, as whole numbers modulo 2^32: docs/language.md, "Values".
use Rattle.std.specs.Prelude.{ℕ, zero, suc, ◌%◌, ◌^◌, ℤ, pos, negsuc, ◌+ℤ◌, ◌-ℤ◌, ◌*ℤ◌, neg_ℤ, int_lt, int_le, Bool, true, false, ◌==◌}
use Rattle.std.specs.Int.{w32, int_wrap, int_shr, int_bit_and, int_bit_or, int_bit_xor, int_bit_not, cast_unsigned}
use Rattle.std.specs.Int.RustNames.{int_div, int_rem}
use Rattle.pt_base.specs.declared.operators.UnOp.{UnOp}
use Rattle.pt_base.specs.declared.operators.UnOp.TheVariants.{Neg, Not, Flip}
use Rattle.pt_base.specs.declared.operators.BinOp.{BinOp}
use Rattle.pt_base.specs.declared.operators.BinOp.TheVariants.{Or, And, BitOr, BitXor, BitAnd, Equal, NotEqual, Less, LessEqual, Greater, GreaterEqual, ShiftLeft, ShiftRight, Add, Sub, Mul, Div, Rem}

-- the word that a whole number is, modulo 2^32
abbrev pub word_of : ℤ → ℤ
word_of z = int_wrap w32 z

abbrev pub truth_of : Bool → ℤ
truth_of true = pos 1
truth_of false = pos 0

-- the same number
abbrev pub same : ℤ → ℤ → Bool
same (pos a) (pos b) = a == b
same (negsuc a) (negsuc b) = a == b
same _ _ = false

abbrev pub not_of : Bool → Bool
not_of true = false
not_of false = true

-- a word counts as true where it isn't 0
abbrev pub is_true : ℤ → Bool
is_true a = not_of (same a (pos 0))

abbrev pub either : Bool → Bool → Bool
either true _ = true
either false b = b

abbrev pub both : Bool → Bool → Bool
both true b = b
both false _ = false

-- the quotient, rounded toward 0, and 0 where the divisor is 0
abbrev pub quotient_of : ℤ → ℤ → ℤ
quotient_of a (pos zero) = pos 0
quotient_of a (pos (suc b)) = word_of (int_div a (pos (suc b)))
quotient_of a (negsuc b) = word_of (int_div a (negsuc b))

-- a - (a / b) * b, so a itself where the divisor is 0
abbrev pub rest_of : ℤ → ℤ → ℤ
rest_of a (pos zero) = a
rest_of a (pos (suc b)) = int_rem a (pos (suc b))
rest_of a (negsuc b) = int_rem a (negsuc b)

-- by how many places a word shifts another: its lowest five bits
abbrev pub places_of : ℤ → ℕ
places_of b = cast_unsigned w32 b % 32

abbrev pub unary_of : UnOp → ℤ → ℤ
unary_of Neg a = word_of (neg_ℤ a)
unary_of Not a = truth_of (same a (pos 0))
unary_of Flip a = int_bit_not w32 a

abbrev pub binary_of : BinOp → ℤ → ℤ → ℤ
binary_of Or a b = truth_of (either (is_true a) (is_true b))
binary_of And a b = truth_of (both (is_true a) (is_true b))
binary_of BitOr a b = int_bit_or w32 a b
binary_of BitXor a b = int_bit_xor w32 a b
binary_of BitAnd a b = int_bit_and w32 a b
binary_of Equal a b = truth_of (same a b)
binary_of NotEqual a b = truth_of (not_of (same a b))
binary_of Less a b = truth_of (int_lt a b)
binary_of LessEqual a b = truth_of (int_le a b)
binary_of Greater a b = truth_of (int_lt b a)
binary_of GreaterEqual a b = truth_of (int_le b a)
binary_of ShiftLeft a b = word_of (a *ℤ pos (2 ^ places_of b))
binary_of ShiftRight a b = int_shr a (places_of b)
binary_of Add a b = word_of (a +ℤ b)
binary_of Sub a b = word_of (a -ℤ b)
binary_of Mul a b = word_of (a *ℤ b)
binary_of Div a b = quotient_of a b
binary_of Rem a b = rest_of a b

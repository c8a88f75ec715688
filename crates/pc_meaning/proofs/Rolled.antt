-- What the values of trees are, for the search.
use Rattle.std.proofs.Common.{◌≡◌, ℕ, ◌<◌, ◌^◌, ◌%◌, ap, arith}
use Rattle.std.specs.Prelude.{pos}
use Rattle.std.specs.Int.{w32, cast_signed, int_wrap}
use Rattle.pt_base.specs.Operators.{word_of}
use Rattle.pc_meaning.proofs.Trees.{expression-Number, expression-Var, expression-Elem, expression-Unary, expression-Chain, statement-Skip, statement-Assign, statement-Call, statement-Block, statement-If, statement-If_else, statement-While, statement-Eot, statement-Par, statement-Abort}

pub ruleset values = (expression-Number, expression-Var, expression-Elem, expression-Unary, expression-Chain)

-- a literal of 32 bits is its word
pub literal : (n : ℕ) → n < 2 ^ 32 → cast_signed w32 n ≡ word_of (pos n)
unfolding int_wrap
literal n less = ap (cast_signed w32) (let e : n ≡ n % 2 ^ 32 = grind (arith, less) in e)

pub ruleset statements = (statement-Skip, statement-Assign, statement-Call, statement-Block, statement-If, statement-If_else, statement-While, statement-Eot, statement-Par, statement-Abort)

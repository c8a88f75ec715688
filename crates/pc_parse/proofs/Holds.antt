-- What comes next and holds on to the expression before it.
use Rattle.std.proofs.Common.{◌≡◌, ℕ, suc, ◌<◌, List, [], ◌∷◌, Option, Some, None, refl, sym, ap, ◌∙◌, arith}
use Rattle.std.specs.Option.{option_map}
use Rattle.pt_base.specs.declared.operators.UnOp.{UnOp}
use Rattle.pt_base.specs.declared.operators.BinOp.{BinOp}
use Rattle.pc_grammar.specs.declared.tokens.Sort.{Sort}
use Rattle.pc_grammar.specs.declared.tokens.Sort.TheVariants.{Number, Name, OpenParenthesis, OpenBracket}
use Rattle.pc_grammar.specs.declared.tokens.Token.{Token}
use Rattle.pc_grammar.specs.declared.marks.Pair.{Pair}
use Rattle.pc_grammar.specs.declared.marks.Pair.TheVariants.{Parentheses, Brackets, Assignment, Result}
use Rattle.pc_grammar.specs.declared.marks.OperandOpening.TheVariants.{Number as NumberOpening, Name as NameOpening, Unary as UnaryOpening, Parenthesis as ParenthesisOpening}
use Rattle.pc_grammar.specs.Signs.{unary_in, binary_in, level_of, hold_of, opening_of, unary_opening, closes_of}
use Rattle.pc_grammar.specs.Refusing.{first}
use Rattle.pc_parse.specs.Expressions.{hold_in, Ends, NoneNext}

-- an operator holds at its level
pub operator_holds : (s : Sort) (op : BinOp) → binary_in s ≡ Some op → hold_of s ≡ Some (level_of op)
unfolding hold_of binary_in
operator_holds OpenBracket op is = cc
operator_holds s op is = ap (option_map level_of) is

-- where no operator is, an index holds alone
pub none_holds : (s : Sort) → binary_in s ≡ None → (level : ℕ) → 0 < level → hold_of s ≡ Some level → ⊥
unfolding hold_of
none_holds OpenBracket is level some eq = let a : Some 0 ≡ Some level = eq in let b : 0 ≡ level = cc in omega arith
none_holds s is level some eq = let a : Option.None ≡ Some level = ap (option_map level_of) (sym is) ∙ eq in cc

pub index_holds : hold_of OpenBracket ≡ Some 0
unfolding hold_of
index_holds = refl

pub closing_holds : (pair : Pair) → hold_of (closes_of pair) ≡ None
unfolding hold_of binary_in
closing_holds Parentheses = refl
closing_holds Brackets = refl
closing_holds Assignment = refl
closing_holds Result = refl

-- what is closed is at its end
pub ends_at : (level : ℕ) (b : Token) (r : List Token) → hold_of b.sort ≡ None → Ends level (b ∷ r)
ends_at level b r is n eq = let a : Option.None ≡ Some n = sym is ∙ eq in cc

pub ends_closed : (level : ℕ) (pair : Pair) (b : Token) (r : List Token) → b.sort ≡ closes_of pair → Ends level (b ∷ r)
ends_closed level pair b r is = ends_at level b r (ap hold_of is ∙ closing_holds pair)

pub ends_end : (level : ℕ) → Ends level []
ends_end level n eq = cc

pub ends_same : (level : ℕ) (a b : List Token) → first a ≡ first b → Ends level b → Ends level a
ends_same level a b eq h n is = h n (ap hold_in (sym eq) ∙ is)

pub ends_less : (level : ℕ) (rest : List Token) → Ends (suc level) rest → Ends level rest
ends_less level rest h n eq = let a : suc level < n = h n eq in omega arith

-- where an index follows, no operand is at its end
pub index_follows : (r : List Token) → first r ≡ Some OpenBracket → Ends 0 r → ⊥
index_follows r eq ends = let a : 0 < 0 = ends 0 (ap hold_in eq ∙ index_holds) in omega arith

level_positive : (op : BinOp) → 0 < level_of op
unfolding level_of
level_positive BinOp.Or = omega arith
level_positive BinOp.And = omega arith
level_positive BinOp.BitOr = omega arith
level_positive BinOp.BitXor = omega arith
level_positive BinOp.BitAnd = omega arith
level_positive BinOp.Equal = omega arith
level_positive BinOp.NotEqual = omega arith
level_positive BinOp.Less = omega arith
level_positive BinOp.LessEqual = omega arith
level_positive BinOp.Greater = omega arith
level_positive BinOp.GreaterEqual = omega arith
level_positive BinOp.ShiftLeft = omega arith
level_positive BinOp.ShiftRight = omega arith
level_positive BinOp.Add = omega arith
level_positive BinOp.Sub = omega arith
level_positive BinOp.Mul = omega arith
level_positive BinOp.Div = omega arith
level_positive BinOp.Rem = omega arith

operator_positive : (o : Option BinOp) (n : ℕ) → option_map level_of o ≡ Some n → 0 < n
operator_positive None n eq = cc
operator_positive (Some op) n eq = let a : level_of op ≡ n = cc in let b : 0 < level_of op = level_positive op in omega arith

hold_positive : (s : Sort) → (s ≡ OpenBracket → ⊥) → (n : ℕ) → hold_of s ≡ Some n → 0 < n
unfolding hold_of
hold_positive OpenBracket different n eq = absurd (different refl)
hold_positive s different n eq = operator_positive (binary_in s) n eq

pub operand_ends : (r : List Token) → (first r ≡ Some OpenBracket → ⊥) → Ends 0 r
operand_ends [] other n eq = cc
operand_ends (t ∷ r) other n eq = hold_positive t.sort (λ h. other (ap Some h)) n eq

-- what begins an operand
pub opening_unary : (s : Sort) (op : UnOp) → unary_in s ≡ Some op → opening_of s ≡ UnaryOpening op
unfolding opening_of unary_in
opening_unary (Number n) op is = cc
opening_unary Name op is = cc
opening_unary OpenParenthesis op is = cc
opening_unary s op is = ap unary_opening is

pub opening_number : (s : Sort) (n : ℕ) → s ≡ Number n → opening_of s ≡ NumberOpening n
unfolding opening_of
opening_number s n is = ap opening_of is

pub opening_name : (s : Sort) → s ≡ Name → opening_of s ≡ NameOpening
unfolding opening_of
opening_name s is = ap opening_of is

pub opening_parenthesis : (s : Sort) → s ≡ OpenParenthesis → opening_of s ≡ ParenthesisOpening
unfolding opening_of
opening_parenthesis s is = ap opening_of is

-- and back
pub is_number : (s : Sort) (n : ℕ) → opening_of s ≡ NumberOpening n → s ≡ Number n
unfolding opening_of unary_in
is_number (Number m) n is = ap Number (let a : NumberOpening m ≡ NumberOpening n = is in cc)
is_number s n is = cc

pub is_name : (s : Sort) → opening_of s ≡ NameOpening → s ≡ Name
unfolding opening_of unary_in
is_name Name is = refl
is_name s is = cc

pub is_parenthesis : (s : Sort) → opening_of s ≡ ParenthesisOpening → s ≡ OpenParenthesis
unfolding opening_of unary_in
is_parenthesis OpenParenthesis is = refl
is_parenthesis s is = cc

from_unary : (o : Option UnOp) (op : UnOp) → unary_opening o ≡ UnaryOpening op → o ≡ Some op
from_unary None op is = cc
from_unary (Some other) op is = ap Some (let a : UnaryOpening other ≡ UnaryOpening op = is in cc)

pub is_unary : (s : Sort) (op : UnOp) → opening_of s ≡ UnaryOpening op → unary_in s ≡ Some op
unfolding opening_of
is_unary (Number n) op is = cc
is_unary Name op is = cc
is_unary OpenParenthesis op is = cc
is_unary s op is = from_unary (unary_in s) op is

-- ---- no operator of a level comes next

pub none_at_end : (level : ℕ) (ts : List Token) → ts ≡ [] → NoneNext level ts
none_at_end level ts eq = record { none = λ h. let a : Option.None ≡ Some level = ap (λ x. hold_in (first x)) (sym eq) ∙ h in cc }

pub none_plain : (level : ℕ) (ts : List Token) (t : Token) (i : List Token) → 0 < level → ts ≡ t ∷ i → binary_in t.sort ≡ None → NoneNext level ts
none_plain level ts t i some eq is = record { none = λ h. none_holds t.sort is level some (ap (λ x. hold_in (first x)) (sym eq) ∙ h) }

pub none_other : (level : ℕ) (ts : List Token) (t : Token) (i : List Token) (op : BinOp) → ts ≡ t ∷ i → binary_in t.sort ≡ Some op → (level_of op ≡ level → ⊥) → NoneNext level ts
none_other level ts t i op eq is other = record {
  none = λ h.
      let a : Some (level_of op) ≡ Some level = sym (operator_holds t.sort op is) ∙ ap (λ x. hold_in (first x)) (sym eq) ∙ h in
      other (cc);
}

pub ruleset next_steps = (none_at_end, none_plain, none_other)

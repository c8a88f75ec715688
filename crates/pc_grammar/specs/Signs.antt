-- What each token is to an expression: docs/language.md, "Expressions".
use Rattle.std.specs.Prelude.{ℕ, Option, Some, None}
use Rattle.std.specs.Option.{option_map}
use Rattle.pt_base.specs.declared.operators.UnOp.{UnOp}
use Rattle.pt_base.specs.declared.operators.UnOp.TheVariants.{Neg, Not, Flip}
use Rattle.pt_base.specs.declared.operators.BinOp.{BinOp}
use Rattle.pt_base.specs.declared.operators.BinOp.TheVariants.{Or, And, BitOr, BitXor, BitAnd, Equal, NotEqual, Less, LessEqual, Greater, GreaterEqual, ShiftLeft, ShiftRight, Add, Sub, Mul, Div, Rem}
use Rattle.pc_grammar.specs.declared.tokens.Sort.{Sort}
use Rattle.pc_grammar.specs.declared.tokens.Sort.TheVariants.{Name, Number, IntWord, ElseWord, ReturnWord, AbortWord, WhenWord, PreWord, DoubleLeftAngle, DoubleRightAngle, LeftAngleEquals, RightAngleEquals, DoubleEquals, BangEquals, DoubleAmpersand, DoubleBar, OpenParenthesis, CloseParenthesis, OpenBrace, CloseBrace, OpenBracket, CloseBracket, Semicolon, Comma, Equals, Plus, Minus, Star, Slash, Percent, LeftAngle, RightAngle, Bang, Tilde, Ampersand, Bar, Caret, Hash}
use Rattle.pc_grammar.specs.declared.marks.Mark.{Mark}
use Rattle.pc_grammar.specs.declared.marks.Mark.TheVariants.{OpenParenthesis as OpenParenthesisMark, CloseParenthesis as CloseParenthesisMark, OpenBracket as OpenBracketMark, CloseBracket as CloseBracketMark, OpenBrace as OpenBraceMark, CloseBrace as CloseBraceMark, Equals as EqualsMark, Semicolon as SemicolonMark, Comma as CommaMark, Hash as HashMark, IntWord as IntMark, ElseWord as ElseMark, ReturnWord as ReturnMark, AbortWord as AbortMark, WhenWord as WhenMark, PreWord as PreMark}
use Rattle.pc_grammar.specs.declared.marks.Pair.{Pair}
use Rattle.pc_grammar.specs.declared.marks.Pair.TheVariants.{Parentheses, Brackets, Assignment, Result}
use Rattle.pc_grammar.specs.declared.marks.OperandOpening.{OperandOpening}
use Rattle.pc_grammar.specs.declared.marks.OperandOpening.TheVariants.{Number as NumberOpening, Name as NameOpening, Unary as UnaryOpening, Parenthesis as ParenthesisOpening, Nothing as NothingOpening}

-- the operators before an operand
unfoldable pub unary_in : Sort → Option UnOp
unary_in Minus = Some Neg
unary_in Bang = Some Not
unary_in Tilde = Some Flip
unary_in _ = None

-- the operators between operands
unfoldable pub binary_in : Sort → Option BinOp
binary_in DoubleBar = Some Or
binary_in DoubleAmpersand = Some And
binary_in Bar = Some BitOr
binary_in Caret = Some BitXor
binary_in Ampersand = Some BitAnd
binary_in DoubleEquals = Some Equal
binary_in BangEquals = Some NotEqual
binary_in LeftAngle = Some Less
binary_in LeftAngleEquals = Some LessEqual
binary_in RightAngle = Some Greater
binary_in RightAngleEquals = Some GreaterEqual
binary_in DoubleLeftAngle = Some ShiftLeft
binary_in DoubleRightAngle = Some ShiftRight
binary_in Plus = Some Add
binary_in Minus = Some Sub
binary_in Star = Some Mul
binary_in Slash = Some Div
binary_in Percent = Some Rem
binary_in _ = None

-- the level of an operator, from the tightest, 1, to the loosest, 10
unfoldable pub level_of : BinOp → ℕ
level_of Mul = 1
level_of Div = 1
level_of Rem = 1
level_of Add = 2
level_of Sub = 2
level_of ShiftLeft = 3
level_of ShiftRight = 3
level_of Less = 4
level_of LessEqual = 4
level_of Greater = 4
level_of GreaterEqual = 4
level_of Equal = 5
level_of NotEqual = 5
level_of BitAnd = 6
level_of BitXor = 7
level_of BitOr = 8
level_of And = 9
level_of Or = 10

-- how tightly a token holds on to the expression before it: the bracket of an index at 0, an operator at its level
unfoldable pub hold_of : Sort → Option ℕ
hold_of OpenBracket = Some 0
hold_of s = option_map level_of (binary_in s)

-- the tokens between which an expression stands
abbrev pub opens_of : Pair → Sort
opens_of Parentheses = OpenParenthesis
opens_of Brackets = OpenBracket
opens_of Assignment = Equals
opens_of Result = ReturnWord

abbrev pub closes_of : Pair → Sort
closes_of Parentheses = CloseParenthesis
closes_of Brackets = CloseBracket
closes_of Assignment = Semicolon
closes_of Result = Semicolon

abbrev pub sort_of : Mark → Sort
sort_of OpenParenthesisMark = OpenParenthesis
sort_of CloseParenthesisMark = CloseParenthesis
sort_of OpenBracketMark = OpenBracket
sort_of CloseBracketMark = CloseBracket
sort_of OpenBraceMark = OpenBrace
sort_of CloseBraceMark = CloseBrace
sort_of EqualsMark = Equals
sort_of SemicolonMark = Semicolon
sort_of CommaMark = Comma
sort_of HashMark = Hash
sort_of IntMark = IntWord
sort_of ElseMark = ElseWord
sort_of ReturnMark = ReturnWord
sort_of AbortMark = AbortWord
sort_of WhenMark = WhenWord
sort_of PreMark = PreWord

-- what an operand begins with
abbrev pub unary_opening : Option UnOp → OperandOpening
unary_opening (Some op) = UnaryOpening op
unary_opening None = NothingOpening

unfoldable pub opening_of : Sort → OperandOpening
opening_of (Number value) = NumberOpening value
opening_of Name = NameOpening
opening_of OpenParenthesis = ParenthesisOpening
opening_of s = unary_opening (unary_in s)

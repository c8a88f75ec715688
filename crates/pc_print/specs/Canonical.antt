-- The canonical text of a program: docs/language.md, "Canonical text".
use Rattle.std.specs.Prelude.{ℕ, suc, ◌+◌, ℤ, pos, negsuc, Bool, true, false, List, [], ◌∷◌, ◌++◌, Option, Some, None, map, nat_le, if◌then◌else◌}
use Rattle.pt_base.specs.declared.operators.UnOp.{UnOp}
use Rattle.pt_base.specs.declared.operators.UnOp.TheVariants.{Neg, Not, Flip}
use Rattle.pt_base.specs.declared.operators.BinOp.{BinOp}
use Rattle.pt_base.specs.declared.operators.BinOp.TheVariants.{Or, And, BitOr, BitXor, BitAnd, Equal, NotEqual, Less, LessEqual, Greater, GreaterEqual, ShiftLeft, ShiftRight, Add, Sub, Mul, Div, Rem}
use Rattle.pc_grammar.specs.declared.tokens.Sort.{Sort}
use Rattle.pc_grammar.specs.declared.tokens.Sort.TheVariants.{IntWord, VoidWord, IfWord, ElseWord, WhileWord, ReturnWord, ParWord, EotWord, AbortWord, WeakWord, WhenWord, PreWord, ReactiveInputWord, ReactiveOutputWord, DoubleLeftAngle, DoubleRightAngle, LeftAngleEquals, RightAngleEquals, DoubleEquals, BangEquals, DoubleAmpersand, DoubleBar, OpenParenthesis, CloseParenthesis, OpenBrace, CloseBrace, OpenBracket, CloseBracket, Semicolon, Comma, Equals, Plus, Minus, Star, Slash, Percent, LeftAngle, RightAngle, Bang, Tilde, Ampersand, Bar, Caret, Hash}
use Rattle.pc_grammar.specs.declared.expressions.Word.{Word}
use Rattle.pc_grammar.specs.declared.expressions.Expr.{Expr, fold-Expr}
use Rattle.pc_grammar.specs.declared.expressions.Expr.TheOpen.{Expr-F, Number as OpenNumber, Var as OpenVar, Elem as OpenElem, Unary as OpenUnary, Chain as OpenChain}
use Rattle.pc_grammar.specs.declared.expressions.Goal.{Goal}
use Rattle.pc_grammar.specs.declared.expressions.Goal.TheVariants.{Nothing, Var as GoalVar, Elem as GoalElem}
use Rattle.pc_grammar.specs.declared.statements.Stmt.{Stmt, fold-Stmt}
use Rattle.pc_grammar.specs.declared.statements.Stmt.TheOpen.{Stmt-F, Skip, Assign, Call, Block, If, While, Eot, Par, Abort}
use Rattle.pc_grammar.specs.declared.programs.CellKind.{CellKind}
use Rattle.pc_grammar.specs.declared.programs.CellKind.TheVariants.{Input, Output}
use Rattle.pc_grammar.specs.declared.programs.Item.{Item}
use Rattle.pc_grammar.specs.declared.programs.Item.TheVariants.{Scalar, Array, Function}
use Rattle.pc_grammar.specs.Signs.{level_of}
use Rattle.pc_grammar.specs.Trees.{Program}
use Rattle.pc_print.specs.Parts.{Part, mark, word, literal, blank, margin, line_end, text}

-- ---- expressions

abbrev pub unary_sign : UnOp → Sort
unary_sign Neg = Minus
unary_sign Not = Bang
unary_sign Flip = Tilde

abbrev pub binary_sign : BinOp → Sort
binary_sign Or = DoubleBar
binary_sign And = DoubleAmpersand
binary_sign BitOr = Bar
binary_sign BitXor = Caret
binary_sign BitAnd = Ampersand
binary_sign Equal = DoubleEquals
binary_sign NotEqual = BangEquals
binary_sign Less = LeftAngle
binary_sign LessEqual = LeftAngleEquals
binary_sign Greater = RightAngle
binary_sign GreaterEqual = RightAngleEquals
binary_sign ShiftLeft = DoubleLeftAngle
binary_sign ShiftRight = DoubleRightAngle
binary_sign Add = Plus
binary_sign Sub = Minus
binary_sign Mul = Star
binary_sign Div = Slash
binary_sign Rem = Percent

-- an expression's parts with no parentheses round them, the level of the chain that it is, 0 where it is none,
-- and whether it is a unary `-`
pub record Piece : Type 0 where
  pub level : ℕ
  pub negates : Bool
  pub parts : List Part

abbrev pub in_parentheses : List Part → List Part
in_parentheses parts = mark OpenParenthesis ∷ (parts ++ mark CloseParenthesis ∷ [])

-- in parentheses where it is a chain of this level or of a looser one
abbrev pub tighter : ℕ → Piece → List Part
tighter level p = if nat_le level p.level then in_parentheses p.parts else p.parts

abbrev pub is_neg : UnOp → Bool
is_neg Neg = true
is_neg Not = false
is_neg Flip = false

-- a blank between two unary `-`
abbrev pub gap : UnOp → Bool → List Part
gap Neg true = blank ∷ []
gap Neg false = []
gap Not negates = []
gap Flip negates = []

-- the level of a chain's operators
abbrev pub chain_level : {A : Type 0} → List (BinOp × A) → ℕ
chain_level [] = 1
chain_level (p ∷ rest) = level_of p.0

-- an operator of this level and its operand
abbrev pub further : ℕ → BinOp × Piece → List Part
further level p = blank ∷ mark (binary_sign p.0) ∷ blank ∷ tighter level p.1

abbrev pub operands : ℕ → List (BinOp × Piece) → List Part
operands level [] = []
operands level (p ∷ rest) = further level p ++ operands level rest

abbrev pub piece_of : Expr-F Word Piece → Piece
piece_of (OpenNumber n) = record { level = 0; negates = false; parts = literal n ∷ [] }
piece_of (OpenVar w) = record { level = 0; negates = false; parts = word w ∷ [] }
piece_of (OpenElem w index) = record { level = 0; negates = false; parts = word w ∷ mark OpenBracket ∷ (index.parts ++ mark CloseBracket ∷ []) }
piece_of (OpenUnary op e) = record { level = 0; negates = is_neg op; parts = mark (unary_sign op) ∷ (gap op e.negates ++ tighter 1 e) }
piece_of (OpenChain head rest) = record { level = chain_level rest; negates = false; parts = tighter (chain_level rest) head ++ operands (chain_level rest) rest }

abbrev pub written : Expr Word → Piece
written = fold-Expr Word Piece piece_of

-- each operator of a chain with its operand's piece
abbrev pub pieces : List (BinOp × Expr Word) → List (BinOp × Piece)
pieces rest = map (λ p. (p.0, written p.1)) rest

abbrev pub expression : Expr Word → List Part
expression e = (written e).parts

-- ---- lists with commas

abbrev pub behind_comma : List Part → List Part
behind_comma parts = mark Comma ∷ blank ∷ parts

abbrev pub more_listed : {A : Type 0} → (A → List Part) → List A → List Part
more_listed show [] = []
more_listed show (a ∷ rest) = behind_comma (show a) ++ more_listed show rest

abbrev pub listed : {A : Type 0} → (A → List Part) → List A → List Part
listed show [] = []
listed show (a ∷ rest) = show a ++ more_listed show rest

-- ---- statements

-- a line of a level
abbrev pub line : ℕ → List Part → List Part
line level parts = margin level ∷ (parts ++ line_end ∷ [])

abbrev pub equals : List Part
equals = blank ∷ mark Equals ∷ blank ∷ []

abbrev pub named : Word → List Part
named x = word x ∷ []

-- an assignment's goal and its `=`
abbrev pub goal : Goal Word → List Part
goal Nothing = []
goal (GoalVar x) = word x ∷ equals
goal (GoalElem x index) = word x ∷ mark OpenBracket ∷ (expression index ++ mark CloseBracket ∷ equals)

abbrev pub most_turns : Option ℕ → List Part
most_turns None = []
most_turns (Some n) = blank ∷ mark Hash ∷ literal n ∷ []

abbrev pub weakly : Bool → List Part
weakly true = mark WeakWord ∷ blank ∷ []
weakly false = []

-- ---- the lines of a statement

abbrev pub assignment_line : ℕ → Goal Word → Expr Word → List Part
assignment_line level target value = line level (goal target ++ (expression value ++ mark Semicolon ∷ []))

abbrev pub call_line : ℕ → Goal Word → Word → List (Expr Word) → List Part
call_line level target function arguments = line level (goal target ++ (word function ∷ (in_parentheses (listed expression arguments) ++ mark Semicolon ∷ [])))

abbrev pub threads_line : ℕ → List Word → List Part
threads_line level threads = line level (mark ParWord ∷ (in_parentheses (listed named threads) ++ mark Semicolon ∷ []))

abbrev pub pause_line : ℕ → List Part
pause_line level = line level (mark EotWord ∷ mark Semicolon ∷ [])

abbrev pub if_line : ℕ → Expr Word → List Part
if_line level test = line level (mark IfWord ∷ blank ∷ in_parentheses (expression test))

abbrev pub while_line : ℕ → Expr Word → Option ℕ → List Part
while_line level test most = line level (mark WhileWord ∷ blank ∷ (in_parentheses (expression test) ++ most_turns most))

abbrev pub abort_line : ℕ → Bool → List Part
abort_line level weak = line level (weakly weak ++ mark AbortWord ∷ [])

abbrev pub when_line : ℕ → Expr Word → List Part
when_line level test = line level (mark WhenWord ∷ blank ∷ mark PreWord ∷ blank ∷ (in_parentheses (expression test) ++ mark Semicolon ∷ []))

-- what several statements give at a level
abbrev pub all_at : ℕ → List (ℕ → List Part) → List Part
all_at level [] = []
all_at level (s ∷ rest) = s level ++ all_at level rest

abbrev pub else_at : ℕ → Option (ℕ → List Part) → List Part
else_at level None = []
else_at level (Some s) = line level (mark ElseWord ∷ []) ++ s (level + 1)

abbrev pub lines_of : Stmt-F Word (ℕ → List Part) → ℕ → List Part
lines_of Skip level = line level (mark Semicolon ∷ [])
lines_of (Assign target value) level = assignment_line level target value
lines_of (Call target function arguments) level = call_line level target function arguments
lines_of (Block all) level = line level (mark OpenBrace ∷ []) ++ (all_at (level + 1) all ++ line level (mark CloseBrace ∷ []))
lines_of (If test first second) level = if_line level test ++ (first (level + 1) ++ else_at level second)
lines_of (While span test most body) level = while_line level test most ++ body (level + 1)
lines_of (Eot span) level = pause_line level
lines_of (Par span threads) level = threads_line level threads
lines_of (Abort span weak body test) level = abort_line level weak ++ (body (level + 1) ++ when_line level test)

-- the lines of a statement at a level
abbrev pub statement : Stmt Word → ℕ → List Part
statement = fold-Stmt Word (ℕ → List Part) lines_of

abbrev pub statements : ℕ → List (Stmt Word) → List Part
statements level [] = []
statements level (s ∷ rest) = statement s level ++ statements level rest

-- ---- items

-- a word with its sign
abbrev pub signed : ℤ → List Part
signed (pos n) = literal n ∷ []
signed (negsuc n) = mark Minus ∷ literal (suc n) ∷ []

abbrev pub reactive : CellKind → List Part
reactive Input = mark ReactiveInputWord ∷ blank ∷ []
reactive Output = mark ReactiveOutputWord ∷ blank ∷ []
reactive _ = []

abbrev pub type_name : Bool → Sort
type_name true = IntWord
type_name false = VoidWord

abbrev pub declared : Word → List Part
declared x = mark IntWord ∷ blank ∷ word x ∷ []

-- what a local starts with, where it has a value
abbrev pub start_value : Option (Expr Word) → List Part
start_value None = []
start_value (Some e) = equals ++ expression e

abbrev pub local : Word × Option (Expr Word) → List Part
local p = line 1 (declared p.0 ++ (start_value p.1 ++ mark Semicolon ∷ []))

abbrev pub locals : List (Word × Option (Expr Word)) → List Part
locals [] = []
locals (p ∷ rest) = local p ++ locals rest

abbrev pub returned : Option (Expr Word) → List Part
returned None = []
returned (Some e) = line 1 (mark ReturnWord ∷ blank ∷ (expression e ++ mark Semicolon ∷ []))

abbrev pub scalar_line : CellKind → Word → ℤ → List Part
scalar_line kind x start = line 0 (reactive kind ++ (declared x ++ (equals ++ (signed start ++ mark Semicolon ∷ []))))

abbrev pub array_line : Word → ℕ → List Part
array_line x size = line 0 (declared x ++ mark OpenBracket ∷ literal size ∷ mark CloseBracket ∷ mark Semicolon ∷ [])

abbrev pub typed : Word → Bool → List Part
typed x gives = mark (type_name gives) ∷ blank ∷ word x ∷ []

abbrev pub head_line : Word → Bool → List Word → List Part
head_line x gives parameters = line 0 (typed x gives ++ (in_parentheses (listed declared parameters) ++ blank ∷ mark OpenBrace ∷ []))

abbrev pub item : Item → List Part
item (Scalar kind x start) = scalar_line kind x start
item (Array x size) = array_line x size
item (Function x gives parameters inner body result) = head_line x gives parameters ++ (locals inner ++ (statements 1 body ++ (returned result ++ line 0 (mark CloseBrace ∷ []))))

abbrev pub items : List Item → List Part
items [] = []
items (i ∷ rest) = item i ++ items rest

-- ---- texts

abbrev pub expression_text : Expr Word → List ℕ
expression_text e = text (expression e)

abbrev pub statement_text : ℕ → Stmt Word → List ℕ
statement_text level s = text (statement s level)

abbrev pub item_text : Item → List ℕ
item_text i = text (item i)

abbrev pub program_text : Program → List ℕ
program_text program = text (items program.items)

-- The keywords and the signs, and how each is spelled: docs/language.md, "Tokens".
use Rattle.std.specs.Prelude.{ℕ, List, [], ◌∷◌, codes}
use Rattle.pc_grammar.specs.declared.tokens.Sort.{Sort}
use Rattle.pc_grammar.specs.declared.tokens.Sort.TheVariants.{Name, Number, IntWord, VoidWord, IfWord, ElseWord, WhileWord, ReturnWord, ParWord, EotWord, AbortWord, WeakWord, WhenWord, PreWord, ReactiveInputWord, ReactiveOutputWord, DoubleLeftAngle, DoubleRightAngle, LeftAngleEquals, RightAngleEquals, DoubleEquals, BangEquals, DoubleAmpersand, DoubleBar, OpenParenthesis, CloseParenthesis, OpenBrace, CloseBrace, OpenBracket, CloseBracket, Semicolon, Comma, Equals, Plus, Minus, Star, Slash, Percent, LeftAngle, RightAngle, Bang, Tilde, Ampersand, Bar, Caret, Hash}

-- the bytes of a keyword or a sign
unfoldable pub spelling_of : Sort → List ℕ
spelling_of Name = []
spelling_of (Number value) = []
spelling_of IntWord = codes "int"
spelling_of VoidWord = codes "void"
spelling_of IfWord = codes "if"
spelling_of ElseWord = codes "else"
spelling_of WhileWord = codes "while"
spelling_of ReturnWord = codes "return"
spelling_of ParWord = codes "PAR"
spelling_of EotWord = codes "EOT"
spelling_of AbortWord = codes "abort"
spelling_of WeakWord = codes "weak"
spelling_of WhenWord = codes "when"
spelling_of PreWord = codes "pre"
spelling_of ReactiveInputWord = codes "ReactiveInput"
spelling_of ReactiveOutputWord = codes "ReactiveOutput"
spelling_of DoubleLeftAngle = codes "<<"
spelling_of DoubleRightAngle = codes ">>"
spelling_of LeftAngleEquals = codes "<="
spelling_of RightAngleEquals = codes ">="
spelling_of DoubleEquals = codes "=="
spelling_of BangEquals = codes "!="
spelling_of DoubleAmpersand = codes "&&"
spelling_of DoubleBar = codes "||"
spelling_of OpenParenthesis = codes "("
spelling_of CloseParenthesis = codes ")"
spelling_of OpenBrace = codes "{"
spelling_of CloseBrace = codes "}"
spelling_of OpenBracket = codes "["
spelling_of CloseBracket = codes "]"
spelling_of Semicolon = codes ";"
spelling_of Comma = codes ","
spelling_of Equals = codes "="
spelling_of Plus = codes "+"
spelling_of Minus = codes "-"
spelling_of Star = codes "*"
spelling_of Slash = codes "/"
spelling_of Percent = codes "%"
spelling_of LeftAngle = codes "<"
spelling_of RightAngle = codes ">"
spelling_of Bang = codes "!"
spelling_of Tilde = codes "~"
spelling_of Ampersand = codes "&"
spelling_of Bar = codes "|"
spelling_of Caret = codes "^"
spelling_of Hash = codes "#"

unfoldable pub keywords : List Sort
keywords = IntWord ∷ VoidWord ∷ IfWord ∷ ElseWord ∷ WhileWord ∷ ReturnWord ∷ ParWord ∷ EotWord ∷ AbortWord ∷ WeakWord ∷ WhenWord ∷ PreWord ∷ ReactiveInputWord ∷ ReactiveOutputWord ∷ []

-- longest first
unfoldable pub signs : List Sort
signs = DoubleLeftAngle ∷ DoubleRightAngle ∷ LeftAngleEquals ∷ RightAngleEquals ∷ DoubleEquals ∷ BangEquals ∷ DoubleAmpersand ∷ DoubleBar ∷ OpenParenthesis ∷ CloseParenthesis ∷ OpenBrace ∷ CloseBrace ∷ OpenBracket ∷ CloseBracket ∷ Semicolon ∷ Comma ∷ Equals ∷ Plus ∷ Minus ∷ Star ∷ Slash ∷ Percent ∷ LeftAngle ∷ RightAngle ∷ Bang ∷ Tilde ∷ Ampersand ∷ Bar ∷ Caret ∷ Hash ∷ []

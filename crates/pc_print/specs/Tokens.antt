-- The tokens of a canonical text, and trees that are the same but for their places: docs/language.md, "Canonical text".
use Rattle.std.specs.Prelude.{◌≡◌, ℕ, List, [], ◌∷◌, map, slice_range}
use Rattle.pt_base.specs.declared.rules.Span.{Span}
use Rattle.pc_grammar.specs.declared.tokens.Sort.{Sort}
use Rattle.pc_grammar.specs.declared.tokens.Sort.TheVariants.{Name, Number as NumberSort}
use Rattle.pc_grammar.specs.declared.tokens.Token.{Token}
use Rattle.pc_grammar.specs.declared.expressions.Word.{Word}
use Rattle.pc_grammar.specs.declared.expressions.Expr.{Expr, fold-Expr}
use Rattle.pc_grammar.specs.declared.expressions.Expr.TheVariants.{Number, Var, Elem, Unary, Chain}
use Rattle.pc_grammar.specs.declared.expressions.Expr.TheOpen.{Expr-F, Number as OpenNumber, Var as OpenVar, Elem as OpenElem, Unary as OpenUnary, Chain as OpenChain}
use Rattle.pc_grammar.specs.Lexing.{Lexes, whole}
use Rattle.pc_grammar.specs.Expressions.{IsExpression}
use Rattle.pc_print.specs.Parts.{Part, mark, word, literal, blank, margin, line_end}
use Rattle.pc_print.specs.Canonical.{expression, expression_text}

abbrev pub nowhere : Span
nowhere = record { from = 0; to = 0 }

-- a token of a sort, without a place of its own
abbrev pub token_of : Sort → Token
token_of s = record { sort = s; span = nowhere }

-- the tokens among parts; a name has its own span
abbrev pub tokens : List Part → List Token
tokens [] = []
tokens (mark s ∷ parts) = token_of s ∷ tokens parts
tokens (word w ∷ parts) = record { sort = Name; span = w.span } ∷ tokens parts
tokens (literal n ∷ parts) = token_of (NumberSort n) ∷ tokens parts
tokens (blank ∷ parts) = tokens parts
tokens (margin level ∷ parts) = tokens parts
tokens (line_end ∷ parts) = tokens parts

-- ---- places left out

abbrev pub bytes_of_name : Sort → List ℕ → List ℕ
bytes_of_name Name bytes = bytes
bytes_of_name _ bytes = []

-- a token without its place: its sort, and the bytes of a name
abbrev pub plain : List ℕ → Token → Sort × List ℕ
plain source t = (t.sort, bytes_of_name t.sort (slice_range source t.span.from t.span.to))

abbrev pub bare_of : Expr-F Word (Expr (List ℕ)) → Expr (List ℕ)
bare_of (OpenNumber n) = Number n
bare_of (OpenVar w) = Var w.text
bare_of (OpenElem w index) = Elem w.text index
bare_of (OpenUnary op e) = Unary op e
bare_of (OpenChain head rest) = Chain head rest

-- an expression with the bytes of its names alone
abbrev pub bare : Expr Word → Expr (List ℕ)
bare = fold-Expr Word (Expr (List ℕ)) bare_of

-- ---- laws

-- the canonical tokens of a tree that some tokens spell are alike to these tokens over this source
abbrev pub LookLike : List ℕ → Expr Word → List ℕ → List Token → Type 0
LookLike source e again ts = map (plain again) ts ≡ map (plain source) (tokens (expression e))

-- a tree that is spelled is spelled by its canonical tokens, and by tokens that are alike to them but for places
abbrev pub CanonicalTokensSpell : Type 0
CanonicalTokensSpell = (source : List ℕ) (ts : List Token) (e : Expr Word) → IsExpression source ts e → (again : List ℕ) (us : List Token) → LookLike source e again us →
    (f : Expr Word) × IsExpression again us f × (bare f ≡ bare e)

-- the canonical text of an expression that some source spells is cut into tokens that spell the same tree but for places
abbrev pub CanonicalTextSpells : Type 0
CanonicalTextSpells = (source : List ℕ) (ts : List Token) (e : Expr Word) → Lexes 0 source ts whole → IsExpression source ts e →
    (us : List Token) × (f : Expr Word) × Lexes 0 (expression_text e) us whole × IsExpression (expression_text e) us f × (bare f ≡ bare e)

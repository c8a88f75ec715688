-- Which tokens spell an item: docs/language.md, "Items".
use Rattle.std.specs.Prelude.{◌≡◌, ℕ, ℤ, pos, true, false, List, [], ◌∷◌, ◌++◌, Some, None}
use Rattle.pt_base.specs.declared.limits.TheConstants.{MOST_EXPRESSION_LEVELS}
use Rattle.pc_grammar.specs.declared.tokens.Sort.TheVariants.{Name, Number, VoidWord, ReactiveInputWord, ReactiveOutputWord, OpenBracket, CloseBracket, CloseBrace, Semicolon}
use Rattle.pc_grammar.specs.declared.tokens.Token.{Token}
use Rattle.pc_grammar.specs.declared.expressions.Word.{Word}
use Rattle.pc_grammar.specs.declared.expressions.Expr.{Expr}
use Rattle.pc_grammar.specs.declared.programs.CellKind.{CellKind}
use Rattle.pc_grammar.specs.declared.programs.CellKind.TheVariants.{Input, Output, Plain}
use Rattle.pc_grammar.specs.declared.programs.Item.{Item}
use Rattle.pc_grammar.specs.declared.programs.Item.TheVariants.{Scalar, Array, Function}
use Rattle.pc_grammar.specs.declared.marks.Pair.TheVariants.{Result}
use Rattle.pc_grammar.specs.Expressions.{word_at, SpellsBetween}
use Rattle.pc_grammar.specs.declared.frames.Frame.{Frame}
use Rattle.pc_grammar.specs.Constants.{SpellsStart}
use Rattle.pc_grammar.specs.Frames.{SpellsParameter, SpellsFrame}

-- `[ n ] ;`
pub data SpellsSize : List Token → ℕ → Type 0 where
  size : {value : ℕ} (a n b z : Token) → a.sort ≡ OpenBracket → n.sort ≡ Number value → b.sort ≡ CloseBracket → z.sort ≡ Semicolon → SpellsSize (a ∷ n ∷ b ∷ z ∷ []) value

-- `int name = const ;`
pub data SpellsReactive (source : List ℕ) (kind : CellKind) : List Token → Item → Type 0 where
  reactive : {w v : List Token} {name : Word} {z : ℤ} → SpellsParameter source w name → SpellsStart v z → SpellsReactive source kind (w ++ v) (Scalar kind name z)

-- a frame, `return e ;` and a brace
pub data SpellsFunction (source : List ℕ) (name : Word) : List Token → Item → Type 0 where
  function : {w v : List Token} {f : Frame} {e : Expr Word} (b : Token) → b.sort ≡ CloseBrace → SpellsFrame source w f → SpellsBetween source MOST_EXPRESSION_LEVELS Result v e →
      SpellsFunction source name (w ++ (v ++ b ∷ [])) (Function name true f.parameters f.locals f.body (Some e))

-- what stands behind `int` and a name; a variable without a value starts with 0
pub data SpellsNamedItem (source : List ℕ) (name : Word) : List Token → Item → Type 0 where
  plain : (z : Token) → z.sort ≡ Semicolon → SpellsNamedItem source name (z ∷ []) (Scalar Plain name (pos 0))
  started : {w : List Token} {z : ℤ} → SpellsStart w z → SpellsNamedItem source name w (Scalar Plain name z)
  array : {w : List Token} {value : ℕ} → SpellsSize w value → SpellsNamedItem source name w (Array name value)
  giving : {w : List Token} {i : Item} → SpellsFunction source name w i → SpellsNamedItem source name w i

pub data SpellsItem (source : List ℕ) : List Token → Item → Type 0 where
  input : {w : List Token} {i : Item} (t : Token) → t.sort ≡ ReactiveInputWord → SpellsReactive source Input w i → SpellsItem source (t ∷ w) i
  output : {w : List Token} {i : Item} (t : Token) → t.sort ≡ ReactiveOutputWord → SpellsReactive source Output w i → SpellsItem source (t ∷ w) i
  named : {w v : List Token} {name : Word} {i : Item} → SpellsParameter source w name → SpellsNamedItem source name v i → SpellsItem source (w ++ v) i
  routine : {w : List Token} {f : Frame} (t n b : Token) → t.sort ≡ VoidWord → n.sort ≡ Name → b.sort ≡ CloseBrace → SpellsFrame source w f →
      SpellsItem source (t ∷ n ∷ (w ++ b ∷ [])) (Function (word_at source n) false f.parameters f.locals f.body None)

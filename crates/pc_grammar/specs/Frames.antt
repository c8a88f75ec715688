-- Which tokens spell parameters, locals, and the frame of a function: docs/language.md, "Items".
use Rattle.std.specs.Prelude.{◌≡◌, ℕ, List, [], ◌∷◌, ◌++◌, Option, Some, None}
use Rattle.pt_base.specs.declared.limits.TheConstants.{MOST_EXPRESSION_LEVELS}
use Rattle.pc_grammar.specs.declared.tokens.Sort.TheVariants.{Name, IntWord, VoidWord, OpenParenthesis, CloseParenthesis, OpenBrace, Semicolon}
use Rattle.pc_grammar.specs.declared.tokens.Token.{Token}
use Rattle.pc_grammar.specs.declared.expressions.Word.{Word}
use Rattle.pc_grammar.specs.declared.expressions.Expr.{Expr}
use Rattle.pc_grammar.specs.declared.statements.Stmt.{Stmt}
use Rattle.pc_grammar.specs.declared.marks.Pair.TheVariants.{Assignment}
use Rattle.pc_grammar.specs.Expressions.{word_at, SpellsBetween}
use Rattle.pc_grammar.specs.Lists.{SpellsListed}
use Rattle.pc_grammar.specs.Statements.{IsBody}
use Rattle.pc_grammar.specs.declared.frames.Frame.{Frame}

-- `int name`
pub data SpellsParameter (source : List ℕ) : List Token → Word → Type 0 where
  parameter : (t n : Token) → t.sort ≡ IntWord → n.sort ≡ Name → SpellsParameter source (t ∷ n ∷ []) (word_at source n)

-- `( )`, `( void )`, or parameters in parentheses
pub data SpellsParameters (source : List ℕ) : List Token → List Word → Type 0 where
  nothing : (a b : Token) → a.sort ≡ OpenParenthesis → b.sort ≡ CloseParenthesis → SpellsParameters source (a ∷ b ∷ []) []
  void : (a v b : Token) → a.sort ≡ OpenParenthesis → v.sort ≡ VoidWord → b.sort ≡ CloseParenthesis → SpellsParameters source (a ∷ v ∷ b ∷ []) []
  some : {w : List Token} {all : List Word} → SpellsListed (SpellsParameter source) w all → SpellsParameters source w all

-- `int name ;` or `int name = e ;`
pub data SpellsLocal (source : List ℕ) : List Token → Word × Option (Expr Word) → Type 0 where
  bare : {w : List Token} {name : Word} (z : Token) → z.sort ≡ Semicolon → SpellsParameter source w name → SpellsLocal source (w ++ z ∷ []) (name, None)
  valued : {w v : List Token} {name : Word} {e : Expr Word} → SpellsParameter source w name → SpellsBetween source MOST_EXPRESSION_LEVELS Assignment v e → SpellsLocal source (w ++ v) (name, Some e)

pub data SpellsLocals (source : List ℕ) : List Token → List (Word × Option (Expr Word)) → Type 0 where
  none : SpellsLocals source [] []
  more : {w v : List Token} {one : Word × Option (Expr Word)} {rest : List (Word × Option (Expr Word))} → SpellsLocal source w one → SpellsLocals source v rest → SpellsLocals source (w ++ v) (one ∷ rest)

-- parameters, an opening brace, locals and statements
pub data SpellsFrame (source : List ℕ) : List Token → Frame → Type 0 where
  framed : {w u v : List Token} {ps : List Word} {ls : List (Word × Option (Expr Word))} {all : List (Stmt Word)} (b : Token) → b.sort ≡ OpenBrace →
      SpellsParameters source w ps → SpellsLocals source u ls → IsBody source v all → SpellsFrame source (w ++ b ∷ (u ++ v)) (record { parameters = ps; locals = ls; body = all })

-- Which tokens spell what a goal is set to, the head of a loop, and the condition of an abort: docs/language.md, "Statements".
use Rattle.std.specs.Prelude.{◌≡◌, ℕ, List, [], ◌∷◌, ◌++◌, Option, Some, None}
use Rattle.pt_base.specs.declared.limits.TheConstants.{MOST_EXPRESSION_LEVELS}
use Rattle.pc_grammar.specs.declared.tokens.Sort.TheVariants.{Name, Number, Equals, Semicolon, Hash, WhenWord, PreWord}
use Rattle.pc_grammar.specs.declared.tokens.Token.{Token}
use Rattle.pc_grammar.specs.declared.expressions.Word.{Word}
use Rattle.pc_grammar.specs.declared.expressions.Expr.{Expr}
use Rattle.pc_grammar.specs.declared.expressions.Goal.{Goal}
use Rattle.pc_grammar.specs.declared.statements.Stmt.{Stmt}
use Rattle.pc_grammar.specs.declared.statements.Stmt.TheVariants.{Assign, Call}
use Rattle.pc_grammar.specs.declared.marks.Pair.TheVariants.{Parentheses, Assignment}
use Rattle.pc_grammar.specs.Expressions.{word_at, SpellsBetween}
use Rattle.pc_grammar.specs.Lists.{SpellsArguments}

-- `= e ;` assigns, and `= f ( .. ) ;` calls
pub data SpellsSetting (source : List ℕ) (goal : Goal Word) : List Token → Stmt Word → Type 0 where
  value : {w : List Token} {e : Expr Word} → SpellsBetween source MOST_EXPRESSION_LEVELS Assignment w e → SpellsSetting source goal w (Assign goal e)
  call : {w : List Token} {all : List (Expr Word)} (a t z : Token) → a.sort ≡ Equals → t.sort ≡ Name → z.sort ≡ Semicolon →
      SpellsArguments source w all → SpellsSetting source goal (a ∷ t ∷ (w ++ z ∷ [])) (Call goal (word_at source t) all)

-- `( e )`, or `( e ) # n`
pub data SpellsLoop (source : List ℕ) : List Token → Expr Word × Option ℕ → Type 0 where
  free : {w : List Token} {e : Expr Word} → SpellsBetween source MOST_EXPRESSION_LEVELS Parentheses w e → SpellsLoop source w (e, None)
  counted : {w : List Token} {e : Expr Word} {most : ℕ} (h n : Token) → SpellsBetween source MOST_EXPRESSION_LEVELS Parentheses w e → h.sort ≡ Hash → n.sort ≡ Number most →
      SpellsLoop source (w ++ h ∷ n ∷ []) (e, Some most)

-- `when pre ( e ) ;`
pub data SpellsTest (source : List ℕ) : List Token → Expr Word → Type 0 where
  test : {w : List Token} {e : Expr Word} (a b z : Token) → a.sort ≡ WhenWord → b.sort ≡ PreWord → z.sort ≡ Semicolon →
      SpellsBetween source MOST_EXPRESSION_LEVELS Parentheses w e → SpellsTest source (a ∷ b ∷ (w ++ z ∷ [])) e

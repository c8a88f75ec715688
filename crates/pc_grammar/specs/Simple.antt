-- Which tokens spell a statement that holds no statement: docs/language.md, "Statements".
use Rattle.std.specs.Prelude.{◌≡◌, ℕ, List, [], ◌∷◌, ◌++◌}
use Rattle.pt_base.specs.declared.limits.TheConstants.{MOST_EXPRESSION_LEVELS}
use Rattle.pc_grammar.specs.declared.tokens.Sort.TheVariants.{Name, Semicolon, EotWord, ParWord}
use Rattle.pc_grammar.specs.declared.tokens.Token.{Token}
use Rattle.pc_grammar.specs.declared.expressions.Word.{Word}
use Rattle.pc_grammar.specs.declared.expressions.Expr.{Expr}
use Rattle.pc_grammar.specs.declared.expressions.Goal.TheVariants.{Nothing, Var, Elem}
use Rattle.pc_grammar.specs.declared.statements.Stmt.{Stmt}
use Rattle.pc_grammar.specs.declared.statements.Stmt.TheVariants.{Skip, Call, Eot, Par}
use Rattle.pc_grammar.specs.declared.marks.Pair.TheVariants.{Brackets}
use Rattle.pc_grammar.specs.Expressions.{word_at, SpellsBetween}
use Rattle.pc_grammar.specs.Lists.{SpellsListed, SpellsName, SpellsArguments}
use Rattle.pc_grammar.specs.Settings.{SpellsSetting}

-- what stands behind the name that begins a statement
pub data SpellsNamed (source : List ℕ) (name : Word) : List Token → Stmt Word → Type 0 where
  variable : {w : List Token} {s : Stmt Word} → SpellsSetting source (Var name) w s → SpellsNamed source name w s
  element : {w v : List Token} {index : Expr Word} {s : Stmt Word} → SpellsBetween source MOST_EXPRESSION_LEVELS Brackets w index → SpellsSetting source (Elem name index) v s → SpellsNamed source name (w ++ v) s
  routine : {w : List Token} {all : List (Expr Word)} (z : Token) → z.sort ≡ Semicolon → SpellsArguments source w all → SpellsNamed source name (w ++ z ∷ []) (Call Nothing name all)

pub data SpellsSimple (source : List ℕ) : List Token → Stmt Word → Type 0 where
  skip : (t : Token) → t.sort ≡ Semicolon → SpellsSimple source (t ∷ []) Skip
  named : {w : List Token} {s : Stmt Word} (t : Token) → t.sort ≡ Name → SpellsNamed source (word_at source t) w s → SpellsSimple source (t ∷ w) s
  eot : (t z : Token) → t.sort ≡ EotWord → z.sort ≡ Semicolon → SpellsSimple source (t ∷ z ∷ []) (Eot t.span)
  par : {w : List Token} {all : List Word} (t z : Token) → t.sort ≡ ParWord → z.sort ≡ Semicolon → SpellsListed (SpellsName source) w all → SpellsSimple source (t ∷ (w ++ z ∷ [])) (Par t.span all)

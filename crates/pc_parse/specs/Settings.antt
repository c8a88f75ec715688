-- What each function answers that reads what a goal is set to, the head of a loop, or the condition of an abort.
use Rattle.std.specs.Prelude.{◌≡◌, ℕ, List, ◌∷◌, Option, Some, None}
use Rattle.pc_grammar.specs.declared.tokens.Sort.TheVariants.{Name, Number, Equals, OpenParenthesis, Hash}
use Rattle.pc_grammar.specs.declared.tokens.Token.{Token}
use Rattle.pc_grammar.specs.declared.expressions.Word.{Word}
use Rattle.pc_grammar.specs.declared.expressions.Expr.{Expr}
use Rattle.pc_grammar.specs.declared.expressions.Goal.{Goal}
use Rattle.pc_grammar.specs.declared.statements.Stmt.{Stmt}
use Rattle.pc_grammar.specs.Refusing.{first}
use Rattle.pc_parse.specs.Reading.{Takes, Fails, Always}
use Rattle.pc_grammar.specs.Settings.{SpellsLoop, SpellsSetting, SpellsTest}

-- a call comes next: `= name (`
pub record CallComes (ts : List Token) (function : Token) (rest : List Token) : Type 0 where
  pub equals : Token
  pub whole : ts ≡ equals ∷ function ∷ rest
  pub is_equals : equals.sort ≡ Equals
  pub is_name : function.sort ≡ Name
  pub opens : first rest ≡ Some OpenParenthesis

pub record NoCall (ts : List Token) : Type 0 where
  pub none : (function : Token) (rest : List Token) → CallComes ts function rest → ⊥

pub record NumberComes (ts : List Token) (value : ℕ) (rest : List Token) : Type 0 where
  pub token : Token
  pub whole : ts ≡ token ∷ rest
  pub is : token.sort ≡ Number value

pub record NoNumber (ts : List Token) : Type 0 where
  pub none : (value : ℕ) → first ts ≡ Some (Number value) → ⊥

abbrev pub SettingTakes : List ℕ → Goal Word → List Token → Stmt Word → List Token → Type 0
SettingTakes source goal = Takes (SpellsSetting source goal) Always

abbrev pub SettingFails : List ℕ → Goal Word → List Token → ℕ → Type 0
SettingFails source goal = Fails (SpellsSetting source goal) Always

-- a loop without a bound isn't followed by one
abbrev pub NoHash : Expr Word × Option ℕ → List Token → Type 0
NoHash p ts = p.1 ≡ None → first ts ≡ Some Hash → ⊥

abbrev pub LoopTakes : List ℕ → List Token → Expr Word × Option ℕ → List Token → Type 0
LoopTakes source = Takes (SpellsLoop source) NoHash

abbrev pub LoopFails : List ℕ → List Token → ℕ → Type 0
LoopFails source = Fails (SpellsLoop source) NoHash

abbrev pub TestTakes : List ℕ → List Token → Expr Word → List Token → Type 0
TestTakes source = Takes (SpellsTest source) Always

abbrev pub TestFails : List ℕ → List Token → ℕ → Type 0
TestFails source = Fails (SpellsTest source) Always

-- What each function answers that reads a list with commas.
use Rattle.std.specs.Prelude.{◌≡◌, ℕ, List, Some}
use Rattle.pc_grammar.specs.declared.marks.TheConstants.{LEVELS}
use Rattle.pc_grammar.specs.declared.tokens.Sort.TheVariants.{Comma}
use Rattle.pc_grammar.specs.declared.tokens.Token.{Token}
use Rattle.pc_grammar.specs.declared.expressions.Word.{Word}
use Rattle.pc_grammar.specs.declared.expressions.Expr.{Expr}
use Rattle.pc_grammar.specs.Refusing.{first}
use Rattle.pc_parse.specs.Reading.{Takes, Fails, Always}
use Rattle.pc_parse.specs.Expressions.{Ends}
use Rattle.pc_grammar.specs.Lists.{SpellsArguments, SpellsList, SpellsListed, SpellsMore, SpellsName}

-- what may stand behind an expression in a list, and behind a name
abbrev pub AfterExpression : List Token → Type 0
AfterExpression ts = Ends LEVELS ts

abbrev pub AfterName : List Token → Type 0
AfterName ts = Unit {0}

-- a list ends where no comma comes next
pub record ListEnds (S : List Token → Type 0) (ts : List Token) : Type 0 where
  pub item : S ts
  pub comma : first ts ≡ Some Comma → ⊥

abbrev pub MoreTakes : {A : Type 0} → (List Token → A → Type 0) → (List Token → Type 0) → List Token → List A → List Token → Type 0
MoreTakes X S = Takes (SpellsMore X) (λ _. ListEnds S)

abbrev pub MoreFails : {A : Type 0} → (List Token → A → Type 0) → (List Token → Type 0) → List Token → ℕ → Type 0
MoreFails X S = Fails (SpellsMore X) (λ _. ListEnds S)

abbrev pub ListTakes : {A : Type 0} → (List Token → A → Type 0) → (List Token → Type 0) → List Token → List A → List Token → Type 0
ListTakes X S = Takes (SpellsList X) (λ _. ListEnds S)

abbrev pub ListFails : {A : Type 0} → (List Token → A → Type 0) → (List Token → Type 0) → List Token → ℕ → Type 0
ListFails X S = Fails (SpellsList X) (λ _. ListEnds S)

abbrev pub ListedTakes : {A : Type 0} → (List Token → A → Type 0) → List Token → List A → List Token → Type 0
ListedTakes X = Takes (SpellsListed X) Always

abbrev pub ListedFails : {A : Type 0} → (List Token → A → Type 0) → List Token → ℕ → Type 0
ListedFails X = Fails (SpellsListed X) Always

abbrev pub ArgumentsTakes : List ℕ → List Token → List (Expr Word) → List Token → Type 0
ArgumentsTakes source = Takes (SpellsArguments source) Always

abbrev pub ArgumentsFails : List ℕ → List Token → ℕ → Type 0
ArgumentsFails source = Fails (SpellsArguments source) Always

abbrev pub NameTakes : List ℕ → List Token → Word → List Token → Type 0
NameTakes source = Takes (SpellsName source) (λ _. AfterName)

abbrev pub NameFails : List ℕ → List Token → ℕ → Type 0
NameFails source = Fails (SpellsName source) (λ _. AfterName)

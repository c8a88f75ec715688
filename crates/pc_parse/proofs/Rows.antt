-- Lists of expressions, and of names.
use Rattle.std.proofs.Common.{◌≡◌, ℕ, ◌≤◌, List, [], ◌∷◌, ◌++◌, Option, Some, length, refl, sym, ap, subst, ◌∙◌}
use Rattle.pc_grammar.specs.declared.tokens.Sort.TheVariants.{Name, Comma, CloseParenthesis}
use Rattle.pc_grammar.specs.declared.tokens.Token.{Token}
use Rattle.pc_grammar.specs.declared.expressions.Word.{Word}
use Rattle.pc_grammar.specs.declared.expressions.Expr.{Expr}
use Rattle.pc_parse.specs.declared.reading.Failure.{Failure}
use Rattle.pc_grammar.specs.Signs.{hold_of, binary_in}
use Rattle.pc_grammar.specs.Refusing.{first}
use Rattle.pc_parse.specs.Reading.{Comes, Refuses}
use Rattle.pc_grammar.specs.Expressions.{word_at, IsExpression}
use Rattle.pc_parse.specs.Expressions.{LevelTakes, LevelFails}
use Rattle.pc_parse.proofs.Behind.{fails_here}
use Rattle.pc_parse.proofs.Holds.{ends_at, ends_same}
use Rattle.pc_parse.proofs.Operands.{some_token}
use Rattle.pc_parse.proofs.Unique.{unique_level}
use Rattle.pc_grammar.specs.Lists.{SpellsName, name}
use Rattle.pc_parse.specs.Lists.{ListTakes, ListFails, NameTakes, NameFails, AfterExpression, AfterName}
use Rattle.pc_parse.proofs.ListItems.{IsItem, ListSoFar, list_begins, list_first_refuses, list_goes_on, list_refuses, list_ends, takes_shorter, comes_shorter}

-- ---- items

comma_holds : hold_of Comma ≡ Option.None
unfolding hold_of binary_in
comma_holds = refl

close_holds : hold_of CloseParenthesis ≡ Option.None
unfolding hold_of binary_in
close_holds = refl

pub expression_item : (source : List ℕ) → IsItem (IsExpression source) AfterExpression
expression_item source = record {
  unique = λ w a w' a' r r' d ends d' ends' eq. unique_level d w' a' r r' ends d' ends' eq;
  comma = λ t r is. ends_at 10 t r (ap hold_of is ∙ comma_holds);
  close = λ t r is. ends_at 10 t r (ap hold_of is ∙ close_holds);
  same = λ r r' eq h. ends_same 10 r r' eq h;
}

unique_name : {source : List ℕ} {w : List Token} {a : Word} → SpellsName source w a → {w' : List Token} {a' : Word} → SpellsName source w' a' → (r r' : List Token) → w ++ r ≡ w' ++ r' → (r ≡ r') × (a ≡ a')
unique_name {source = source} (name t is) (name t' is') r r' eq = let at : t ≡ t' = cc in (cc, ap (word_at source) at)

pub name_item : (source : List ℕ) → IsItem (SpellsName source) AfterName
name_item source = record {
  unique = λ w a w' a' r r' d ends d' ends' eq. unique_name d d' r r' eq;
  comma = λ t r is. tt;
  close = λ t r is. tt;
  same = λ r r' eq h. tt;
}

-- ---- a name

pub takes_name : (source : List ℕ) (tokens : List Token) (t : Token) (rest : List Token) (called : Word) → tokens ≡ t ∷ rest → t.sort ≡ Name → called ≡ word_at source t → NameTakes source tokens called rest
takes_name source tokens t rest called eq is word = record { used = t ∷ []; whole = eq; spelled = subst (SpellsName source (t ∷ [])) (sym word) (name t is); stops = tt }

name_first : {source : List ℕ} {w : List Token} {a : Word} → SpellsName source w a → (r : List Token) → first (w ++ r) ≡ Some Name
name_first (name t is) r = ap Some is

pub fails_name : (source : List ℕ) (tokens : List Token) → (first tokens ≡ Some Name → ⊥) → NameFails source tokens (length tokens)
fails_name source tokens other =
    fails_here (SpellsName source) (λ _. AfterName) [] tokens tokens refl (some_token Name ∷ [], word_at source (some_token Name), name (some_token Name) refl)
    (λ others c r same k. other (sym same ∙ ap first k.whole ∙ name_first k.spelled r))

pub ruleset name_steps = (takes_name, fails_name)

-- ---- the loops, as the code has them

abbrev pub ExpressionsSoFar : List ℕ → List Token → List (Expr Word) → List Token → Type 0
ExpressionsSoFar source = ListSoFar (IsExpression source) AfterExpression (expression_item source)

pub expressions_begin : (source : List ℕ) (tokens : List Token) (e : Expr Word) (left : List Token) (items : List (Expr Word)) → LevelTakes source 64 10 tokens e left → items ≡ e ∷ [] → ExpressionsSoFar source tokens items left
expressions_begin source tokens e left items h is = list_begins (IsExpression source) AfterExpression (expression_item source) tokens e left items h is

pub expressions_first_refuse : (source : List ℕ) (tokens : List Token) (f : Failure) → Refuses (LevelFails source 64 10) tokens f → Refuses (ListFails (IsExpression source) AfterExpression) tokens f
expressions_first_refuse source tokens f h = list_first_refuses (IsExpression source) AfterExpression (expression_item source) tokens f h

pub expressions_go_on : (source : List ℕ) (tokens : List Token) (items : List (Expr Word)) (left next : List Token) (e : Expr Word) (after : List Token) (longer : List (Expr Word)) →
    ExpressionsSoFar source tokens items left → Comes Comma left next → LevelTakes source 64 10 next e after → longer ≡ items ++ e ∷ [] → ExpressionsSoFar source tokens longer after
expressions_go_on source tokens items left next e after longer s c h grows = list_goes_on (IsExpression source) AfterExpression (expression_item source) tokens items left next e after longer s c h grows

pub expressions_refuse : (source : List ℕ) (tokens : List Token) (items : List (Expr Word)) (left next : List Token) (f : Failure) → ExpressionsSoFar source tokens items left → Comes Comma left next → Refuses (LevelFails source 64 10) next f → Refuses (ListFails (IsExpression source) AfterExpression) tokens f
expressions_refuse source tokens items left next f s c h = list_refuses (IsExpression source) AfterExpression (expression_item source) tokens items left next f s c h

pub expressions_end : (source : List ℕ) (tokens : List Token) (items : List (Expr Word)) (left : List Token) → ExpressionsSoFar source tokens items left → (first left ≡ Some Comma → ⊥) → ListTakes (IsExpression source) AfterExpression tokens items left
expressions_end source tokens items left s other = list_ends (IsExpression source) AfterExpression (expression_item source) tokens items left s other

pub expression_shorter : (source : List ℕ) (ts : List Token) (e : Expr Word) (rest : List Token) → LevelTakes source 64 10 ts e rest → length rest ≤ length ts
expression_shorter source ts e rest h = takes_shorter (IsExpression source) (λ _. AfterExpression) ts e rest h

pub ruleset expression_steps = (expressions_begin, expressions_first_refuse, expressions_go_on, expressions_refuse, expressions_end, expression_shorter, comes_shorter)

abbrev pub NamesSoFar : List ℕ → List Token → List Word → List Token → Type 0
NamesSoFar source = ListSoFar (SpellsName source) AfterName (name_item source)

pub names_begin : (source : List ℕ) (tokens : List Token) (e : Word) (left : List Token) (items : List Word) → NameTakes source tokens e left → items ≡ e ∷ [] → NamesSoFar source tokens items left
names_begin source tokens e left items h is = list_begins (SpellsName source) AfterName (name_item source) tokens e left items h is

pub names_first_refuse : (source : List ℕ) (tokens : List Token) (f : Failure) → Refuses (NameFails source) tokens f → Refuses (ListFails (SpellsName source) AfterName) tokens f
names_first_refuse source tokens f h = list_first_refuses (SpellsName source) AfterName (name_item source) tokens f h

pub names_go_on : (source : List ℕ) (tokens : List Token) (items : List Word) (left next : List Token) (e : Word) (after : List Token) (longer : List Word) →
    NamesSoFar source tokens items left → Comes Comma left next → NameTakes source next e after → longer ≡ items ++ e ∷ [] → NamesSoFar source tokens longer after
names_go_on source tokens items left next e after longer s c h grows = list_goes_on (SpellsName source) AfterName (name_item source) tokens items left next e after longer s c h grows

pub names_refuse : (source : List ℕ) (tokens : List Token) (items : List Word) (left next : List Token) (f : Failure) → NamesSoFar source tokens items left → Comes Comma left next → Refuses (NameFails source) next f → Refuses (ListFails (SpellsName source) AfterName) tokens f
names_refuse source tokens items left next f s c h = list_refuses (SpellsName source) AfterName (name_item source) tokens items left next f s c h

pub names_end : (source : List ℕ) (tokens : List Token) (items : List Word) (left : List Token) → NamesSoFar source tokens items left → (first left ≡ Some Comma → ⊥) → ListTakes (SpellsName source) AfterName tokens items left
names_end source tokens items left s other = list_ends (SpellsName source) AfterName (name_item source) tokens items left s other

pub name_shorter : (source : List ℕ) (ts : List Token) (e : Word) (rest : List Token) → NameTakes source ts e rest → length rest ≤ length ts
name_shorter source ts e rest h = takes_shorter (SpellsName source) (λ _. AfterName) ts e rest h

pub ruleset name_list_steps = (names_begin, names_first_refuse, names_go_on, names_refuse, names_end, name_shorter, comes_shorter)

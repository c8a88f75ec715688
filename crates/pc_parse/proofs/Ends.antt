-- What statements begin with, and where they end.
use Rattle.std.proofs.Common.{◌≡◌, ℕ, Bool, List, [], ◌∷◌, ◌++◌, Option, Some, length, refl, sym, ap, subst, ◌∙◌, append_assoc, arith}
use Rattle.pc_grammar.specs.declared.tokens.Sort.{Sort}
use Rattle.pc_grammar.specs.declared.tokens.Sort.TheVariants.{IfWord, ElseWord, WhileWord, ReturnWord, AbortWord, WeakWord, OpenBrace, CloseBrace}
use Rattle.pc_grammar.specs.declared.tokens.Token.{Token}
use Rattle.pc_grammar.specs.declared.expressions.Word.{Word}
use Rattle.pc_grammar.specs.declared.statements.Stmt.{Stmt}
use Rattle.pc_grammar.specs.Refusing.{first}
use Rattle.pc_parse.specs.declared.simple.StatementOpening.{StatementOpening}
use Rattle.pc_parse.specs.declared.simple.StatementOpening.TheVariants.{Skip as SkipBeginning, Name as NameBeginning, Eot as EotBeginning, Par as ParBeginning, Block as BlockBeginning, If as IfBeginning, While as WhileBeginning, Abort as AbortBeginning, Weak as WeakBeginning, Nothing as NothingBeginning}
use Rattle.pc_parse.specs.Simple.{beginning_of}
use Rattle.pc_parse.proofs.Plain.{SimpleAfter, simple_after, simple_begins}
use Rattle.pc_grammar.specs.Statements.{SpellsStmt, simple, block, if_open, if_else, while, abort, weak_abort, SpellsParts, none, more}
use Rattle.pc_parse.specs.Statements.{Closes, at_end, at_brace, at_return}

-- ---- what begins a statement

pub brace_begins : beginning_of OpenBrace ≡ BlockBeginning
unfolding beginning_of
brace_begins = refl

pub if_begins : beginning_of IfWord ≡ IfBeginning
unfolding beginning_of
if_begins = refl

pub while_begins : beginning_of WhileWord ≡ WhileBeginning
unfolding beginning_of
while_begins = refl

pub abort_begins : beginning_of AbortWord ≡ AbortBeginning
unfolding beginning_of
abort_begins = refl

pub weak_begins : beginning_of WeakWord ≡ WeakBeginning
unfolding beginning_of
weak_begins = refl

pub else_begins : beginning_of ElseWord ≡ NothingBeginning
unfolding beginning_of
else_begins = refl

brace_ends : beginning_of CloseBrace ≡ NothingBeginning
unfolding beginning_of
brace_ends = refl

return_ends : beginning_of ReturnWord ≡ NothingBeginning
unfolding beginning_of
return_ends = refl

pub is_brace : (s : Sort) → beginning_of s ≡ BlockBeginning → s ≡ OpenBrace
unfolding beginning_of
is_brace OpenBrace is = refl
is_brace s is = cc

pub is_if : (s : Sort) → beginning_of s ≡ IfBeginning → s ≡ IfWord
unfolding beginning_of
is_if IfWord is = refl
is_if s is = cc

pub is_while : (s : Sort) → beginning_of s ≡ WhileBeginning → s ≡ WhileWord
unfolding beginning_of
is_while WhileWord is = refl
is_while s is = cc

pub is_abort : (s : Sort) → beginning_of s ≡ AbortBeginning → s ≡ AbortWord
unfolding beginning_of
is_abort AbortWord is = refl
is_abort s is = cc

pub is_weak : (s : Sort) → beginning_of s ≡ WeakBeginning → s ≡ WeakWord
unfolding beginning_of
is_weak WeakWord is = refl
is_weak s is = cc

simple_is : (source : List ℕ) (b : StatementOpening) (t : Token) (i : List Token) (s : Stmt Word) (r : List Token) → SimpleAfter source b t i s r → b ≡ NothingBeginning → ⊥
simple_is source SkipBeginning t i s r v is = cc
simple_is source NameBeginning t i s r v is = cc
simple_is source EotBeginning t i s r v is = cc
simple_is source ParBeginning t i s r v is = cc
simple_is source _ t i s r v is = v

-- no statement begins with a token that begins none
pub not_start : {source : List ℕ} {room : ℕ} {dangling : Bool} {w : List Token} {s : Stmt Word} → SpellsStmt source room dangling w s → (r : List Token) (x : Sort) → first (w ++ r) ≡ Some x → beginning_of x ≡ NothingBeginning → ⊥
not_start {source = source} {s = s} (simple {w = w} d) r x eq is =
    let b = simple_begins d r in
    let at : Some b.0.sort ≡ Some x = sym (ap first b.2) ∙ eq in
    let here : b.0.sort ≡ x = cc in
    simple_is source (beginning_of b.0.sort) b.0 b.1 s r (simple_after d b.0 b.1 r b.2) (ap beginning_of here ∙ is)
not_start (block a b opens closes d) r x eq is = let at : Some a.sort ≡ Some x = eq in let here : x ≡ OpenBrace = cc in let p : NothingBeginning ≡ BlockBeginning = sym is ∙ ap beginning_of here ∙ brace_begins in cc
not_start (if_open t word d a) r x eq is = let at : Some t.sort ≡ Some x = eq in let here : x ≡ IfWord = cc in let p : NothingBeginning ≡ IfBeginning = sym is ∙ ap beginning_of here ∙ if_begins in cc
not_start (if_else t e word other d a b) r x eq is = let at : Some t.sort ≡ Some x = eq in let here : x ≡ IfWord = cc in let p : NothingBeginning ≡ IfBeginning = sym is ∙ ap beginning_of here ∙ if_begins in cc
not_start (while t word d a) r x eq is = let at : Some t.sort ≡ Some x = eq in let here : x ≡ WhileWord = cc in let p : NothingBeginning ≡ WhileBeginning = sym is ∙ ap beginning_of here ∙ while_begins in cc
not_start (abort t word d) r x eq is = let at : Some t.sort ≡ Some x = eq in let here : x ≡ AbortWord = cc in let p : NothingBeginning ≡ AbortBeginning = sym is ∙ ap beginning_of here ∙ abort_begins in cc
not_start (weak_abort t a word inner d) r x eq is = let at : Some t.sort ≡ Some x = eq in let here : x ≡ WeakWord = cc in let p : NothingBeginning ≡ WeakBeginning = sym is ∙ ap beginning_of here ∙ weak_begins in cc

-- the first token of a statement, and the tokens after it
pub stmt_begins : {source : List ℕ} {room : ℕ} {dangling : Bool} {w : List Token} {s : Stmt Word} → SpellsStmt source room dangling w s → (r : List Token) → (t : Token) × (i : List Token) × (w ++ r ≡ t ∷ i)
stmt_begins (simple d) r = simple_begins d r
stmt_begins (block {w = w} a b opens closes d) r = (a, (w ++ b ∷ []) ++ r, refl)
stmt_begins (if_open {w = w} {v = v} t word d a) r = (t, (w ++ v) ++ r, refl)
stmt_begins (if_else {w = w} {v = v} {u = u} t x word other d a b) r = (t, (w ++ (v ++ x ∷ u)) ++ r, refl)
stmt_begins (while {w = w} {v = v} t word d a) r = (t, (w ++ v) ++ r, refl)
stmt_begins (abort {w = w} t word d) r = (t, w ++ r, refl)
stmt_begins (weak_abort {w = w} t a word inner d) r = (t, a ∷ (w ++ r), refl)

-- ---- where statements end

pub closes_same : (a b : List Token) → first a ≡ first b → Closes (first a) → Closes (first b)
closes_same a b eq h = subst Closes eq h

closing_begins_none : {o : Option Sort} → Closes o → (x : Sort) → o ≡ Some x → beginning_of x ≡ NothingBeginning
closing_begins_none at_end x eq = cc
closing_begins_none at_brace x eq = let here : x ≡ CloseBrace = cc in ap beginning_of here ∙ brace_ends
closing_begins_none at_return x eq = let here : x ≡ ReturnWord = cc in ap beginning_of here ∙ return_ends

pub not_closing : {source : List ℕ} {room : ℕ} {dangling : Bool} {w : List Token} {s : Stmt Word} → SpellsStmt source room dangling w s → (r : List Token) → Closes (first (w ++ r)) → ⊥
not_closing {w = w} d r h =
    let b = stmt_begins d r in
    let at : first (w ++ r) ≡ Some b.0.sort = ap first b.2 in
    not_start d r b.0.sort at (closing_begins_none h b.0.sort at)

pub not_else : {source : List ℕ} {room : ℕ} {dangling : Bool} {w : List Token} {s : Stmt Word} → SpellsStmt source room dangling w s → (r : List Token) → first (w ++ r) ≡ Some ElseWord → ⊥
not_else d r h = not_start d r ElseWord h else_begins

else_open : {o : Option Sort} → Closes o → o ≡ Some ElseWord → ⊥
else_open at_end eq = cc
else_open at_brace eq = cc
else_open at_return eq = cc

pub closing_not_else : (r : List Token) → Closes (first r) → first r ≡ Some ElseWord → ⊥
closing_not_else r h eq = else_open h eq

pub parts_not_else : {source : List ℕ} {room : ℕ} {w : List Token} {all : List (Stmt Word)} → SpellsParts source room w all → (r : List Token) → Closes (first r) → first (w ++ r) ≡ Some ElseWord → ⊥
parts_not_else none r h eq = closing_not_else r h eq
parts_not_else (more {w = w} {v = v} d ds) r h eq = not_else d (v ++ r) (ap first (sym (append_assoc w v r)) ∙ eq)

pub closes_empty : (ts : List Token) → length ts ≡ 0 → Closes (first ts)
closes_empty [] eq = at_end
closes_empty (t ∷ ts) eq = absurd (omega arith)

pub closes_brace : (ts : List Token) → first ts ≡ Some CloseBrace → Closes (first ts)
closes_brace ts eq = subst Closes (sym eq) at_brace

pub closes_return : (ts : List Token) → first ts ≡ Some ReturnWord → Closes (first ts)
closes_return ts eq = subst Closes (sym eq) at_return

return_is : {o : Option Sort} → Closes o → (o ≡ Option.None → ⊥) → (o ≡ Some CloseBrace → ⊥) → o ≡ Some ReturnWord
return_is at_end some brace = absurd (some refl)
return_is at_brace some brace = absurd (brace refl)
return_is at_return some brace = refl

pub open_still : (ts : List Token) → (length ts ≡ 0 → ⊥) → (first ts ≡ Some CloseBrace → ⊥) → Closes (first ts) → first ts ≡ Some ReturnWord
open_still ts some brace h = return_is h (none_first ts some) brace
  where
    none_first : (ts : List Token) → (length ts ≡ 0 → ⊥) → first ts ≡ Option.None → ⊥
    none_first [] some eq = some refl
    none_first (t ∷ ts) some eq = cc

pub ruleset closing_steps = (closes_empty, closes_brace, closes_return, open_still)

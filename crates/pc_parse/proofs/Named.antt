-- One lemma for each way on which the parser of what stands behind a name answers.
use Rattle.std.proofs.Common.{◌≡◌, ℕ, List, [], ◌∷◌, ◌++◌, Option, Some, length, refl, sym, ap, subst, ◌∙◌, append_assoc, append-nil}
use Rattle.pc_grammar.specs.declared.tokens.Sort.{Sort}
use Rattle.pc_grammar.specs.declared.tokens.Sort.TheVariants.{Number as NumberSort, Semicolon, Equals, OpenParenthesis, OpenBracket}
use Rattle.pc_grammar.specs.declared.tokens.Token.{Token}
use Rattle.pc_grammar.specs.declared.expressions.Word.{Word}
use Rattle.pc_grammar.specs.declared.expressions.Expr.{Expr}
use Rattle.pc_grammar.specs.declared.expressions.Expr.TheVariants.{Number}
use Rattle.pc_grammar.specs.declared.expressions.Goal.{Goal}
use Rattle.pc_grammar.specs.declared.expressions.Goal.TheVariants.{Nothing, Var, Elem}
use Rattle.pc_grammar.specs.declared.statements.Stmt.{Stmt}
use Rattle.pc_grammar.specs.declared.statements.Stmt.TheVariants.{Assign, Call}
use Rattle.pc_parse.specs.declared.reading.Failure.{Failure}
use Rattle.pc_parse.specs.declared.reading.Failure.TheVariants.{Broken, Memory}
use Rattle.pc_grammar.specs.declared.marks.Pair.TheVariants.{Brackets}
use Rattle.pc_grammar.specs.Refusing.{first}
use Rattle.pc_parse.specs.Reading.{Comes, Refuses, Always}
use Rattle.pc_grammar.specs.Expressions.{SpellsBetween, between}
use Rattle.pc_parse.specs.Expressions.{BetweenTakes, BetweenFails}
use Rattle.pc_parse.proofs.Behind.{fails_behind, fails_here}
use Rattle.pc_parse.proofs.Operands.{some_token}
use Rattle.pc_parse.proofs.Pairs.{some_level}
use Rattle.pc_parse.proofs.Unique.{between_first, unique_between}
use Rattle.pc_grammar.specs.Lists.{SpellsArguments}
use Rattle.pc_parse.specs.Lists.{ArgumentsTakes, ArgumentsFails}
use Rattle.pc_grammar.specs.Settings.{SpellsSetting, value}
use Rattle.pc_parse.specs.Settings.{SettingTakes, SettingFails}
use Rattle.pc_grammar.specs.Simple.{SpellsNamed, variable, element, routine}
use Rattle.pc_parse.specs.Simple.{NamedTakes, NamedFails}
use Rattle.pc_parse.proofs.Calls.{setting_first, unique_setting}
use Rattle.pc_parse.proofs.Listed.{arguments_first, unique_arguments}

-- ---- what stands there, by its first token

element_first : {source : List ℕ} {w : List Token} {e : Expr Word} → SpellsBetween source 64 Brackets w e → (v r : List Token) → first ((w ++ v) ++ r) ≡ Some OpenBracket
element_first {w = w} d v r = ap first (append_assoc w v r) ∙ between_first d (v ++ r)

routine_first : {source : List ℕ} {w : List Token} {all : List (Expr Word)} → SpellsArguments source w all → (z : Token) (r : List Token) → first ((w ++ z ∷ []) ++ r) ≡ Some OpenParenthesis
routine_first {w = w} d z r = ap first (append_assoc w (z ∷ []) r) ∙ arguments_first d (z ∷ r)

pub as_variable : {source : List ℕ} {name : Word} {w : List Token} {s : Stmt Word} → SpellsNamed source name w s → (r : List Token) → (first (w ++ r) ≡ Some OpenParenthesis → ⊥) → (first (w ++ r) ≡ Some OpenBracket → ⊥) → SpellsSetting source (Var name) w s
as_variable (variable d) r no_call no_index = d
as_variable (element {v = v} d ds) r no_call no_index = absurd (no_index (element_first d v r))
as_variable (routine z closes d) r no_call no_index = absurd (no_call (routine_first d z r))

pub record ElementParts (source : List ℕ) (name : Word) (w : List Token) (s : Stmt Word) : Type 0 where
  pub front : List Token
  pub back : List Token
  pub index : Expr Word
  pub inner : SpellsBetween source 64 Brackets front index
  pub set : SpellsSetting source (Elem name index) back s
  pub whole : w ≡ front ++ back

pub as_element : {source : List ℕ} {name : Word} {w : List Token} {s : Stmt Word} → SpellsNamed source name w s → (r : List Token) → first (w ++ r) ≡ Some OpenBracket → ElementParts source name w s
as_element (variable d) r at = let a : Some Equals ≡ Some OpenBracket = sym (setting_first d r) ∙ at in cc
as_element (element {w = w} {v = v} {index = index} d ds) r at = record { front = w; back = v; index = index; inner = d; set = ds; whole = refl }
as_element (routine z closes d) r at = let a : Some OpenParenthesis ≡ Some OpenBracket = sym (routine_first d z r) ∙ at in cc

pub record RoutineParts (source : List ℕ) (name : Word) (w : List Token) (s : Stmt Word) : Type 0 where
  pub front : List Token
  pub all : List (Expr Word)
  pub last : Token
  pub closes : last.sort ≡ Semicolon
  pub arguments : SpellsArguments source front all
  pub tree : s ≡ Call Nothing name all
  pub whole : w ≡ front ++ last ∷ []

pub as_routine : {source : List ℕ} {name : Word} {w : List Token} {s : Stmt Word} → SpellsNamed source name w s → (r : List Token) → first (w ++ r) ≡ Some OpenParenthesis → RoutineParts source name w s
as_routine (variable d) r at = let a : Some Equals ≡ Some OpenParenthesis = sym (setting_first d r) ∙ at in cc
as_routine (element {v = v} d ds) r at = let a : Some OpenBracket ≡ Some OpenParenthesis = sym (element_first d v r) ∙ at in cc
as_routine (routine {w = w} {all = all} z closes d) r at = record { front = w; all = all; last = z; closes = closes; arguments = d; tree = refl; whole = refl }

equals_is : (o : Option Sort) (s : Sort) → o ≡ Some Equals → o ≡ Some s → s ≡ Equals
equals_is o s a b = let c : Some s ≡ Some Equals = sym b ∙ a in cc

pub unique_named : {source : List ℕ} {name : Word} {w : List Token} {s : Stmt Word} → SpellsNamed source name w s → (w' : List Token) (s' : Stmt Word) (r r' : List Token) → SpellsNamed source name w' s' → w ++ r ≡ w' ++ r' → (r ≡ r') × (s ≡ s')
unique_named (variable d) w' s' r r' d' eq =
    let at : first (w' ++ r') ≡ Some Equals = ap first (sym eq) ∙ setting_first d r in
    let k = as_variable d' r' (λ h. let c : OpenParenthesis ≡ Equals = equals_is (first (w' ++ r')) OpenParenthesis at h in cc) (λ h. let c : OpenBracket ≡ Equals = equals_is (first (w' ++ r')) OpenBracket at h in cc) in
    unique_setting d w' s' r r' k eq
unique_named {source = source} {name = name} (element {w = w} {v = v} {index = index} d ds) w' s' r r' d' eq =
    let k = as_element d' r' (ap first (sym eq) ∙ element_first d v r) in
    let u = unique_between d k.front k.index (v ++ r) (k.back ++ r') k.inner (sym (append_assoc w v r) ∙ eq ∙ ap (λ x. x ++ r') k.whole ∙ append_assoc k.front k.back r') in
    unique_setting ds k.back s' r r' (subst (λ x. SpellsSetting source (Elem name x) k.back s') (sym u.1) k.set) u.0
unique_named {source = source} {name = name} (routine {w = w} z closes d) w' s' r r' d' eq =
    let k = as_routine d' r' (ap first (sym eq) ∙ routine_first d z r) in
    let u = unique_arguments d k.front k.all (z ∷ r) (k.last ∷ r') k.arguments (sym (append_assoc w (z ∷ []) r) ∙ eq ∙ ap (λ x. x ++ r') k.whole ∙ append_assoc k.front (k.last ∷ []) r') in
    let tail : z ∷ r ≡ k.last ∷ r' = u.0 in
    (cc, ap (Call Nothing name) u.1 ∙ sym k.tree)

-- ---- a variable

pub takes_variable : (source : List ℕ) (name : Word) (tokens : List Token) (s : Stmt Word) (rest : List Token) → SettingTakes source (Var name) tokens s rest → NamedTakes source name tokens s rest
takes_variable source name tokens s rest h = record { used = h.used; whole = h.whole; spelled = variable h.spelled; stops = tt }

pub variable_refuses : (source : List ℕ) (name : Word) (tokens : List Token) (f : Failure) → (first tokens ≡ Some OpenParenthesis → ⊥) → (first tokens ≡ Some OpenBracket → ⊥) → Refuses (SettingFails source (Var name)) tokens f → Refuses (NamedFails source name) tokens f
variable_refuses source name tokens (Broken n) no_call no_index f =
    fails_behind (SpellsSetting source (Var name)) Always (SpellsNamed source name) Always [] tokens tokens n refl f
    (λ v s d. ([], s, variable (subst (λ x. SpellsSetting source (Var name) x s) (sym (append-nil v)) d)))
    (λ others s r at _ k. (
      s,
      r,
      record {
        used = k.used;
        whole = k.whole;
        stops = tt;
        spelled = as_variable k.spelled r (λ h. no_call (sym at ∙ ap first k.whole ∙ h)) (λ h. no_index (sym at ∙ ap first k.whole ∙ h));
      },
    ))
variable_refuses source name tokens Memory no_call no_index f = tt

-- ---- an element

-- `= 0 ;` sets any goal
some_setting : (source : List ℕ) (goal : Goal Word) → SpellsSetting source goal (some_token Equals ∷ some_token (NumberSort 0) ∷ some_token Semicolon ∷ []) (Assign goal (Number 0))
some_setting source goal = value (between (some_token Equals) (some_token Semicolon) refl refl (some_level source 64 10))

pub takes_element : (source : List ℕ) (name : Word) (tokens : List Token) (index : Expr Word) (i : List Token) (s : Stmt Word) (rest : List Token) → BetweenTakes source 64 Brackets tokens index i → SettingTakes source (Elem name index) i s rest → NamedTakes source name tokens s rest
takes_element source name tokens index i s rest h k = record {
  used = h.used ++ k.used;
  whole = h.whole ∙ ap (λ x. h.used ++ x) k.whole ∙ sym (append_assoc h.used k.used rest);
  spelled = element h.spelled k.spelled;
  stops = tt;
}

pub index_refuses : (source : List ℕ) (name : Word) (tokens : List Token) (f : Failure) → first tokens ≡ Some OpenBracket → Refuses (BetweenFails source 64 Brackets) tokens f → Refuses (NamedFails source name) tokens f
index_refuses source name tokens (Broken n) at f =
    fails_behind (SpellsBetween source 64 Brackets) Always (SpellsNamed source name) Always [] tokens tokens n refl f
    (λ v index d. (some_token Equals ∷ some_token (NumberSort 0) ∷ some_token Semicolon ∷ [], Assign (Elem name index) (Number 0), element d (some_setting source (Elem name index))))
    (λ others s r same _ k.
    let v = as_element k.spelled r (ap first (sym k.whole) ∙ same ∙ at) in
    (v.index, v.back ++ r, record { used = v.front; whole = k.whole ∙ ap (λ x. x ++ r) v.whole ∙ append_assoc v.front v.back r; spelled = v.inner; stops = tt }))
index_refuses source name tokens Memory at f = tt

pub element_refuses : (source : List ℕ) (name : Word) (tokens : List Token) (index : Expr Word) (i : List Token) (f : Failure) → BetweenTakes source 64 Brackets tokens index i → Refuses (SettingFails source (Elem name index)) i f → Refuses (NamedFails source name) tokens f
element_refuses source name tokens index i (Broken n) h f =
    fails_behind (SpellsSetting source (Elem name index)) Always (SpellsNamed source name) Always h.used i tokens n h.whole f
    (λ v s d. ([], s, subst (λ x. SpellsNamed source name x s) (sym (append-nil (h.used ++ v))) (element h.spelled d)))
    (λ others s r _ same k.
    let v = as_element k.spelled r (ap first (sym k.whole) ∙ between_first h.spelled others) in
    let u = unique_between h.spelled v.front v.index others (v.back ++ r) v.inner (k.whole ∙ ap (λ x. x ++ r) v.whole ∙ append_assoc v.front v.back r) in
    (s, r, record { used = v.back; whole = u.0; spelled = subst (λ x. SpellsSetting source (Elem name x) v.back s) (sym u.1) v.set; stops = tt }))
element_refuses source name tokens index i Memory h f = tt

-- ---- a call

pub takes_routine : (source : List ℕ) (name : Word) (tokens : List Token) (all : List (Expr Word)) (r last : List Token) → ArgumentsTakes source tokens all r → Comes Semicolon r last → NamedTakes source name tokens (Call Nothing name all) last
takes_routine source name tokens all r last h z = record {
  used = h.used ++ z.token ∷ [];
  whole = h.whole ∙ ap (λ x. h.used ++ x) z.whole ∙ sym (append_assoc h.used (z.token ∷ []) last);
  spelled = routine z.token z.is h.spelled;
  stops = tt;
}

pub routine_refuses : (source : List ℕ) (name : Word) (tokens : List Token) (f : Failure) → first tokens ≡ Some OpenParenthesis → Refuses (ArgumentsFails source) tokens f → Refuses (NamedFails source name) tokens f
routine_refuses source name tokens (Broken n) at f =
    fails_behind (SpellsArguments source) Always (SpellsNamed source name) Always [] tokens tokens n refl f
    (λ v all d. (some_token Semicolon ∷ [], Call Nothing name all, routine (some_token Semicolon) refl d))
    (λ others s r same _ k.
    let v = as_routine k.spelled r (ap first (sym k.whole) ∙ same ∙ at) in
    (v.all, v.last ∷ r, record { used = v.front; whole = k.whole ∙ ap (λ x. x ++ r) v.whole ∙ append_assoc v.front (v.last ∷ []) r; spelled = v.arguments; stops = tt }))
routine_refuses source name tokens Memory at f = tt

pub routine_not_closed : (source : List ℕ) (name : Word) (tokens : List Token) (all : List (Expr Word)) (r : List Token) → ArgumentsTakes source tokens all r → (first r ≡ Some Semicolon → ⊥) → NamedFails source name tokens (length r)
routine_not_closed source name tokens all r h other =
    fails_here (SpellsNamed source name) Always h.used r tokens h.whole (some_token Semicolon ∷ [], Call Nothing name all, routine (some_token Semicolon) refl h.spelled)
    (λ others s end same k.
    let v = as_routine k.spelled end (ap first (sym k.whole) ∙ arguments_first h.spelled others) in
    let u = unique_arguments h.spelled v.front v.all others (v.last ∷ end) v.arguments (k.whole ∙ ap (λ x. x ++ end) v.whole ∙ append_assoc v.front (v.last ∷ []) end) in
    other (sym same ∙ ap first u.0 ∙ ap Some v.closes))

pub ruleset named_steps = (takes_variable, variable_refuses, takes_element, index_refuses, element_refuses, takes_routine, routine_refuses, routine_not_closed)

-- One lemma for each way on which the parser of what a goal is set to answers.
use Rattle.std.proofs.Common.{◌≡◌, ℕ, zero, suc, List, [], ◌∷◌, ◌++◌, Option, Some, length, refl, sym, ap, subst, ◌∙◌, append_assoc}
use Rattle.pc_grammar.specs.declared.tokens.Sort.TheVariants.{Name, Equals, Semicolon, OpenParenthesis}
use Rattle.pc_grammar.specs.declared.tokens.Token.{Token}
use Rattle.pc_grammar.specs.declared.expressions.Word.{Word}
use Rattle.pc_grammar.specs.declared.expressions.Expr.{Expr}
use Rattle.pc_grammar.specs.declared.expressions.Expr.TheVariants.{Var}
use Rattle.pc_grammar.specs.declared.expressions.Goal.{Goal}
use Rattle.pc_grammar.specs.declared.statements.Stmt.{Stmt}
use Rattle.pc_grammar.specs.declared.statements.Stmt.TheVariants.{Assign, Call}
use Rattle.pc_parse.specs.declared.reading.Failure.{Failure}
use Rattle.pc_parse.specs.declared.reading.Failure.TheVariants.{Broken, Memory}
use Rattle.pc_grammar.specs.declared.marks.Pair.TheVariants.{Assignment}
use Rattle.pc_grammar.specs.Signs.{hold_of, binary_in}
use Rattle.pc_grammar.specs.Refusing.{first}
use Rattle.pc_parse.specs.Reading.{Comes, Refuses, Always}
use Rattle.pc_grammar.specs.Expressions.{word_at, SpellsBetween, SpellsLevel, name, operand, chain, none, between}
use Rattle.pc_parse.specs.Expressions.{Ends, hold_in, BetweenTakes, BetweenFails}
use Rattle.pc_parse.proofs.Behind.{first_after, fails_behind, fails_here}
use Rattle.pc_parse.proofs.Holds.{ends_closed}
use Rattle.pc_parse.proofs.Operands.{some_token}
use Rattle.pc_parse.proofs.Unique.{between_after, unique_between, unique_level}
use Rattle.pc_grammar.specs.Lists.{SpellsArguments}
use Rattle.pc_parse.specs.Lists.{ArgumentsTakes, ArgumentsFails}
use Rattle.pc_grammar.specs.Settings.{SpellsSetting, value, call}
use Rattle.pc_parse.specs.Settings.{CallComes, NoCall, SettingTakes, SettingFails}
use Rattle.pc_parse.proofs.Listed.{arguments_first, unique_arguments}

-- ---- whether a call comes next

pub call_comes : (tokens i : List Token) (function : Token) (rest : List Token) → Comes Equals tokens i → i ≡ function ∷ rest → function.sort ≡ Name → first rest ≡ Some OpenParenthesis → CallComes tokens function rest
call_comes tokens i function rest a eq is opens = record { equals = a.token; whole = a.whole ∙ ap (λ x. a.token ∷ x) eq; is_equals = a.is; is_name = is; opens = opens }

pub no_equals : (tokens : List Token) → (first tokens ≡ Some Equals → ⊥) → NoCall tokens
no_equals tokens other = record { none = λ function rest c. other (ap first c.whole ∙ ap Some c.is_equals) }

behind_equals : (tokens i : List Token) (function : Token) (rest : List Token) → Comes Equals tokens i → CallComes tokens function rest → i ≡ function ∷ rest
behind_equals tokens i function rest a c = let both : a.token ∷ i ≡ c.equals ∷ function ∷ rest = sym a.whole ∙ c.whole in cc

pub no_function : (tokens i : List Token) → Comes Equals tokens i → i ≡ [] → NoCall tokens
no_function tokens i a eq = record { none = λ function rest c. let b : [] ≡ function ∷ rest = sym eq ∙ behind_equals tokens i function rest a c in cc }

pub no_name : (tokens i : List Token) (function : Token) (rest : List Token) → Comes Equals tokens i → i ≡ function ∷ rest → (function.sort ≡ Name → ⊥) → NoCall tokens
no_name tokens i function rest a eq other = record {
  none = λ function' rest' c.
      let b : function ∷ rest ≡ function' ∷ rest' = sym eq ∙ behind_equals tokens i function' rest' a c in
      let at : function ≡ function' = cc in
      other (ap (λ (x : Token). x.sort) at ∙ c.is_name);
}

pub no_parenthesis : (tokens i : List Token) (function : Token) (rest : List Token) → Comes Equals tokens i → i ≡ function ∷ rest → (first rest ≡ Some OpenParenthesis → ⊥) → NoCall tokens
no_parenthesis tokens i function rest a eq other = record {
  none = λ function' rest' c.
      let b : function ∷ rest ≡ function' ∷ rest' = sym eq ∙ behind_equals tokens i function' rest' a c in
      let at : rest ≡ rest' = cc in
      other (ap first at ∙ c.opens);
}

pub ruleset called_steps = (call_comes, no_equals, no_function, no_name, no_parenthesis)

-- ---- what a goal is set to

-- a name is an expression of each level
pub name_level : (source : List ℕ) (room level : ℕ) (t : Token) → t.sort ≡ Name → SpellsLevel source room level (t ∷ []) (Var (word_at source t))
name_level source room zero t is = operand (name t is)
name_level source room (suc level) t is = chain (name_level source room level t is) none

parenthesis_holds : hold_of OpenParenthesis ≡ Option.None
unfolding hold_of binary_in
parenthesis_holds = refl

call_ends : (i : List Token) → first i ≡ Some OpenParenthesis → Ends 10 i
call_ends i at n eq = let a : Option.None ≡ Some n = sym parenthesis_holds ∙ ap hold_in (sym at) ∙ eq in cc

-- an expression isn't followed by a parenthesis
pub no_value : {source : List ℕ} {w : List Token} {e : Expr Word} → SpellsBetween source 64 Assignment w e → (a t : Token) (i rest : List Token) → t.sort ≡ Name → first i ≡ Some OpenParenthesis → w ++ rest ≡ a ∷ t ∷ i → ⊥
no_value {source = source} {e = e} d a t i rest is at eq =
    let v = between_after d a (t ∷ i) rest eq in
    let u = unique_level (name_level source 64 10 t is) v.w e i (v.last ∷ rest) (call_ends i at) v.inner (ends_closed 10 Assignment v.last rest v.closes) v.whole in
    let clash : Some OpenParenthesis ≡ Some v.last.sort = sym at ∙ ap first u.0 in
    let closes : v.last.sort ≡ Semicolon = v.closes in
    cc

pub record CallAfter (source : List ℕ) (goal : Goal Word) (t : Token) (i : List Token) (s : Stmt Word) (rest : List Token) : Type 0 where
  pub last : Token
  pub closes : last.sort ≡ Semicolon
  pub w : List Token
  pub all : List (Expr Word)
  pub arguments : SpellsArguments source w all
  pub tree : s ≡ Call goal (word_at source t) all
  pub whole : i ≡ w ++ last ∷ rest

pub call_after : {source : List ℕ} {goal : Goal Word} {w : List Token} {s : Stmt Word} → SpellsSetting source goal w s → (a t : Token) (i rest : List Token) → t.sort ≡ Name → first i ≡ Some OpenParenthesis → w ++ rest ≡ a ∷ t ∷ i → CallAfter source goal t i s rest
call_after (value d) a t i rest is at eq = absurd (no_value d a t i rest is at eq)
call_after {source = source} {goal = goal} (call {w = w} {all = all} a' t' z is_equals is_name closes d) a t i rest is at eq =
    let here : t' ≡ t = cc in
    let tail : (w ++ z ∷ []) ++ rest ≡ i = cc in
    record { last = z; closes = closes; w = w; all = all; arguments = d; tree = ap (λ x. Call goal (word_at source x) all) here; whole = sym tail ∙ append_assoc w (z ∷ []) rest }

opened : {source : List ℕ} {w : List Token} {all : List (Expr Word)} → SpellsArguments source w all → (z : Token) (r : List Token) → first ((w ++ z ∷ []) ++ r) ≡ Some OpenParenthesis
opened {w = w} d z r = ap first (append_assoc w (z ∷ []) r) ∙ arguments_first d (z ∷ r)

unique_call : {source : List ℕ} {goal : Goal Word} {w : List Token} {all : List (Expr Word)} (a t z : Token) → t.sort ≡ Name → z.sort ≡ Semicolon → SpellsArguments source w all → {w' : List Token} {s : Stmt Word} → SpellsSetting source goal w' s → (r r' : List Token) → (a ∷ t ∷ (w ++ z ∷ [])) ++ r ≡ w' ++ r' → (r ≡ r') × (Call goal (word_at source t) all ≡ s)
unique_call {source = source} {goal = goal} {w = w} {all = all} a t z is closes d d' r r' eq =
    let v = call_after d' a t ((w ++ z ∷ []) ++ r) r' is (opened d z r) (sym eq) in
    let u = unique_arguments d v.w v.all (z ∷ r) (v.last ∷ r') v.arguments (sym (append_assoc w (z ∷ []) r) ∙ v.whole) in
    let tail : z ∷ r ≡ v.last ∷ r' = u.0 in
    (cc, ap (Call goal (word_at source t)) u.1 ∙ sym v.tree)

pub unique_setting : {source : List ℕ} {goal : Goal Word} {w : List Token} {s : Stmt Word} → SpellsSetting source goal w s → (w' : List Token) (s' : Stmt Word) (r r' : List Token) → SpellsSetting source goal w' s' → w ++ r ≡ w' ++ r' → (r ≡ r') × (s ≡ s')
unique_setting {goal = goal} (value {w = w} {e = e} d) w' s' r r' (value {e = e'} d') eq = let u = unique_between d w' e' r r' d' eq in (u.0, ap (Assign goal) u.1)
unique_setting (value d) w' s' r r' (call a t z is_equals is_name closes d') eq = absurd (no_value d a t _ r is_name (opened d' z r') eq)
unique_setting (call a t z is_equals is_name closes d) w' s' r r' d' eq = unique_call a t z is_name closes d d' r r' eq

pub setting_first : {source : List ℕ} {goal : Goal Word} {w : List Token} {s : Stmt Word} → SpellsSetting source goal w s → (rest : List Token) → first (w ++ rest) ≡ Some Equals
setting_first (value d) rest = Rattle.pc_parse.proofs.Unique.between_first d rest
setting_first (call a t z is_equals is_name closes d) rest = ap Some is_equals

pub takes_value : (source : List ℕ) (goal : Goal Word) (tokens : List Token) (e : Expr Word) (rest : List Token) → BetweenTakes source 64 Assignment tokens e rest → SettingTakes source goal tokens (Assign goal e) rest
takes_value source goal tokens e rest h = record { used = h.used; whole = h.whole; spelled = value h.spelled; stops = tt }

pub takes_call : (source : List ℕ) (goal : Goal Word) (tokens : List Token) (t : Token) (rest : List Token) (all : List (Expr Word)) (r last : List Token) (function : Word) →
    CallComes tokens t rest → ArgumentsTakes source rest all r → Comes Semicolon r last → function ≡ word_at source t → SettingTakes source goal tokens (Call goal function all) last
takes_call source goal tokens t rest all r last function c h z word = record {
  used = c.equals ∷ t ∷ (h.used ++ z.token ∷ []);
  whole = c.whole ∙ ap (λ x. c.equals ∷ t ∷ x) (h.whole ∙ ap (λ x. h.used ++ x) z.whole ∙ sym (append_assoc h.used (z.token ∷ []) last));
  spelled = subst (λ f. SpellsSetting source goal (c.equals ∷ t ∷ (h.used ++ z.token ∷ [])) (Call goal f all)) (sym word) (call c.equals t z.token c.is_equals c.is_name z.is h.spelled);
  stops = tt;
}

pub call_refuses : (source : List ℕ) (goal : Goal Word) (tokens : List Token) (t : Token) (rest : List Token) (f : Failure) → CallComes tokens t rest → Refuses (ArgumentsFails source) rest f → Refuses (SettingFails source goal) tokens f
call_refuses source goal tokens t rest (Broken n) c f =
    fails_behind (SpellsArguments source) Always (SpellsSetting source goal) Always (c.equals ∷ t ∷ []) rest tokens n c.whole f
    (λ v all d. (some_token Semicolon ∷ [], Call goal (word_at source t) all, call c.equals t (some_token Semicolon) c.is_equals c.is_name refl d))
    (λ others s r _ same k.
    let v = call_after k.spelled c.equals t others r c.is_name (same ∙ c.opens) (sym k.whole) in
    (v.all, v.last ∷ r, record { used = v.w; whole = v.whole; spelled = v.arguments; stops = tt }))
call_refuses source goal tokens t rest Memory c f = tt

pub call_not_closed : (source : List ℕ) (goal : Goal Word) (tokens : List Token) (t : Token) (rest : List Token) (all : List (Expr Word)) (r : List Token) →
    CallComes tokens t rest → ArgumentsTakes source rest all r → (first r ≡ Some Semicolon → ⊥) → SettingFails source goal tokens (length r)
call_not_closed source goal tokens t rest all r c h other =
    fails_here (SpellsSetting source goal) Always (c.equals ∷ t ∷ h.used) r tokens (c.whole ∙ ap (λ x. c.equals ∷ t ∷ x) h.whole)
    (some_token Semicolon ∷ [], Call goal (word_at source t) all, call c.equals t (some_token Semicolon) c.is_equals c.is_name refl h.spelled)
    (λ others s end same k.
    let v = call_after k.spelled c.equals t (h.used ++ others) end c.is_name (arguments_first h.spelled others) (sym k.whole) in
    let u = unique_arguments h.spelled v.w v.all others (v.last ∷ end) v.arguments v.whole in
    other (sym same ∙ ap first u.0 ∙ ap Some v.closes))

-- where no call comes next, what fails as a value fails
module _ (source : List ℕ) (goal : Goal Word) (tokens : List Token) (n : ℕ) (never : NoCall tokens) (f : BetweenFails source 64 Assignment tokens n) where
  short : (a t : Token) → a.sort ≡ Equals → t.sort ≡ Name → BetweenTakes source 64 Assignment (a ∷ t ∷ some_token Semicolon ∷ []) (Var (word_at source t)) []
  short a t is_equals is_name = record { used = a ∷ t ∷ some_token Semicolon ∷ []; whole = refl; spelled = between a (some_token Semicolon) is_equals refl (name_level source 64 10 t is_name); stops = tt }

  no_call_in : (before others : List Token) → before ≡ f.before → first others ≡ first f.rest → (a t : Token) (i : List Token) → a.sort ≡ Equals → t.sort ≡ Name → first i ≡ Some OpenParenthesis → before ++ others ≡ a ∷ t ∷ i → ⊥
  no_call_in [] others at same a t i is_equals is_name opens eq =
      f.stuck (a ∷ some_token Name ∷ some_token Semicolon ∷ []) (Var (word_at source (some_token Name))) [] (ap first (sym eq) ∙ same)
      (subst (λ b. BetweenTakes source 64 Assignment (b ++ (a ∷ some_token Name ∷ some_token Semicolon ∷ [])) (Var (word_at source (some_token Name))) []) at (short a (some_token Name) is_equals refl))
  no_call_in (x ∷ []) others at same a t i is_equals is_name opens eq =
      let here : a ≡ x = cc in
      let tail : others ≡ t ∷ i = cc in
      f.stuck (t ∷ some_token Semicolon ∷ []) (Var (word_at source t)) [] (ap first (sym tail) ∙ same)
      (subst (λ b. BetweenTakes source 64 Assignment (b ++ (t ∷ some_token Semicolon ∷ [])) (Var (word_at source t)) []) at
      (subst (λ y. BetweenTakes source 64 Assignment (y ∷ t ∷ some_token Semicolon ∷ []) (Var (word_at source t)) []) here (short a t is_equals is_name)))
  no_call_in (x ∷ y ∷ more) others at same a t i is_equals is_name opens eq =
      let one : a ≡ x = cc in
      let two : t ≡ y = cc in
      let tail : more ++ others ≡ i = cc in
      never.none y (more ++ f.rest) (record {
        equals = x;
        whole = f.whole ∙ ap (λ b. b ++ f.rest) (sym at);
        is_equals = ap (λ (k : Token). k.sort) (sym one) ∙ is_equals;
        is_name = ap (λ (k : Token). k.sort) (sym two) ∙ is_name;
        opens = sym (first_after more others f.rest same) ∙ ap first tail ∙ opens;
      })

  value_stuck : (others : List Token) {w : List Token} {s : Stmt Word} → SpellsSetting source goal w s → (r : List Token) → first others ≡ first f.rest → f.before ++ others ≡ w ++ r → ⊥
  value_stuck others (value {w = w} {e = e} d) r same eq = f.stuck others e r same (record { used = w; whole = eq; spelled = d; stops = tt })
  value_stuck others (call {w = w} a t z is_equals is_name closes d) r same eq = no_call_in f.before others refl same a t ((w ++ z ∷ []) ++ r) is_equals is_name (opened d z r) eq

  pub value_fails : SettingFails source goal tokens n
  value_fails = record {
    before = f.before;
    rest = f.rest;
    whole = f.whole;
    count = f.count;
    viable = (f.viable.0, Assign goal f.viable.1, value f.viable.2);
    stuck = λ others s r same k. value_stuck others k.spelled r same k.whole;
  }

pub value_refuses : (source : List ℕ) (goal : Goal Word) (tokens : List Token) (f : Failure) → NoCall tokens → Refuses (BetweenFails source 64 Assignment) tokens f → Refuses (SettingFails source goal) tokens f
value_refuses source goal tokens (Broken n) never f = value_fails source goal tokens n never f
value_refuses source goal tokens Memory never f = tt

pub ruleset setting_steps = (takes_value, takes_call, call_refuses, call_not_closed, value_refuses)

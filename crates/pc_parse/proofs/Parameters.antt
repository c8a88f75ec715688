-- One lemma for each way on which the parsers of parameters answer.
use Rattle.std.proofs.Common.{◌≡◌, ℕ, ◌≤◌, List, [], ◌∷◌, ◌++◌, Some, length, refl, sym, ap, subst, ◌∙◌, append_assoc}
use Rattle.pc_grammar.specs.declared.tokens.Sort.TheVariants.{Name, IntWord, VoidWord, Comma, OpenParenthesis, CloseParenthesis}
use Rattle.pc_grammar.specs.declared.tokens.Token.{Token}
use Rattle.pc_grammar.specs.declared.expressions.Word.{Word}
use Rattle.pc_parse.specs.declared.reading.Failure.{Failure}
use Rattle.pc_parse.specs.declared.reading.Failure.TheVariants.{Broken, Memory}
use Rattle.pc_grammar.specs.Refusing.{first}
use Rattle.pc_parse.specs.Reading.{Comes, Refuses, Always}
use Rattle.pc_grammar.specs.Expressions.{word_at}
use Rattle.pc_parse.proofs.Behind.{fails_behind, fails_here}
use Rattle.pc_parse.proofs.Operands.{some_token}
use Rattle.pc_grammar.specs.Lists.{SpellsList, listed}
use Rattle.pc_parse.specs.Lists.{ListEnds, ListTakes, ListFails, ListedTakes, AfterName}
use Rattle.pc_parse.proofs.ListItems.{IsItem, ListSoFar, list_parts, unique_list, list_begins, list_first_refuses, list_goes_on, list_refuses, list_ends, takes_shorter, comes_shorter}
use Rattle.pc_parse.proofs.Listed.{takes_listed, listed_inner, listed_first, unique_listed}
use Rattle.pc_grammar.specs.Frames.{SpellsParameter, parameter, SpellsParameters, nothing, void, some}
use Rattle.pc_parse.specs.Frames.{ParameterTakes, ParameterFails, ParametersTakes, ParametersFails}

-- ---- a parameter

pub record ParameterAfter (source : List ℕ) (t : Token) (i : List Token) (name : Word) (rest : List Token) : Type 0 where
  pub is_int : t.sort ≡ IntWord
  pub n : Token
  pub is_name : n.sort ≡ Name
  pub tree : name ≡ word_at source n
  pub whole : i ≡ n ∷ rest

parameter_after : {source : List ℕ} {w : List Token} {name : Word} → SpellsParameter source w name → (t : Token) (i rest : List Token) → w ++ rest ≡ t ∷ i → ParameterAfter source t i name rest
parameter_after (parameter t' n is_int is_name) t i rest eq =
    let at : t' ≡ t = cc in
    let tail : n ∷ rest ≡ i = cc in
    record { is_int = ap (λ (x : Token). x.sort) (sym at) ∙ is_int; n = n; is_name = is_name; tree = refl; whole = sym tail }

pub parameter_first : {source : List ℕ} {w : List Token} {name : Word} → SpellsParameter source w name → (rest : List Token) → first (w ++ rest) ≡ Some IntWord
parameter_first (parameter t n is_int is_name) rest = ap Some is_int

pub some_parameter : (source : List ℕ) → SpellsParameter source (some_token IntWord ∷ some_token Name ∷ []) (word_at source (some_token Name))
some_parameter source = parameter (some_token IntWord) (some_token Name) refl refl

pub unique_parameter : {source : List ℕ} {w : List Token} {name : Word} → SpellsParameter source w name → (w' : List Token) (name' : Word) (r r' : List Token) → SpellsParameter source w' name' → w ++ r ≡ w' ++ r' → (r ≡ r') × (name ≡ name')
unique_parameter {source = source} (parameter t n is_int is_name) w' name' r r' d' eq =
    let v = parameter_after d' t (n ∷ r) r' (sym eq) in
    let tail : n ∷ r ≡ v.n ∷ r' = v.whole in
    let at : n ≡ v.n = cc in
    (cc, ap (word_at source) at ∙ sym v.tree)

pub takes_parameter : (source : List ℕ) (tokens i : List Token) (n : Token) (rest : List Token) (name : Word) → Comes IntWord tokens i → i ≡ n ∷ rest → n.sort ≡ Name → name ≡ word_at source n → ParameterTakes source tokens name rest
takes_parameter source tokens i n rest name a eq is word = record {
  used = a.token ∷ n ∷ [];
  whole = a.whole ∙ ap (λ x. a.token ∷ x) eq;
  spelled = subst (SpellsParameter source (a.token ∷ n ∷ [])) (sym word) (parameter a.token n a.is is);
  stops = tt;
}

pub no_int : (source : List ℕ) (tokens : List Token) → (first tokens ≡ Some IntWord → ⊥) → ParameterFails source tokens (length tokens)
no_int source tokens other =
    fails_here (SpellsParameter source) (λ _. AfterName) [] tokens tokens refl (some_token IntWord ∷ some_token Name ∷ [], word_at source (some_token Name), some_parameter source)
    (λ others c r same k. other (sym same ∙ ap first k.whole ∙ parameter_first k.spelled r))

pub no_name : (source : List ℕ) (tokens i : List Token) → Comes IntWord tokens i → (first i ≡ Some Name → ⊥) → ParameterFails source tokens (length i)
no_name source tokens i a other =
    fails_here (SpellsParameter source) (λ _. AfterName) (a.token ∷ []) i tokens a.whole (some_token Name ∷ [], word_at source (some_token Name), parameter a.token (some_token Name) a.is refl)
    (λ others c r same k. let v = parameter_after k.spelled a.token others r (sym k.whole) in other (sym same ∙ ap first v.whole ∙ ap Some v.is_name))

pub ruleset parameter_steps = (takes_parameter, no_int, no_name)

-- ---- the list, as the code has it

pub parameter_item : (source : List ℕ) → IsItem (SpellsParameter source) AfterName
parameter_item source = record {
  unique = λ w a w' a' r r' d ends d' ends' eq. unique_parameter d w' a' r r' d' eq;
  comma = λ t r is. tt;
  close = λ t r is. tt;
  same = λ r r' eq h. tt;
}

abbrev pub ParametersSoFar : List ℕ → List Token → List Word → List Token → Type 0
ParametersSoFar source = ListSoFar (SpellsParameter source) AfterName (parameter_item source)

pub parameters_begin : (source : List ℕ) (tokens : List Token) (e : Word) (left : List Token) (items : List Word) → ParameterTakes source tokens e left → items ≡ e ∷ [] → ParametersSoFar source tokens items left
parameters_begin source tokens e left items h is = list_begins (SpellsParameter source) AfterName (parameter_item source) tokens e left items h is

pub parameters_first_refuse : (source : List ℕ) (tokens : List Token) (f : Failure) → Refuses (ParameterFails source) tokens f → Refuses (ListFails (SpellsParameter source) AfterName) tokens f
parameters_first_refuse source tokens f h = list_first_refuses (SpellsParameter source) AfterName (parameter_item source) tokens f h

pub parameters_go_on : (source : List ℕ) (tokens : List Token) (items : List Word) (left next : List Token) (e : Word) (after : List Token) (longer : List Word) →
    ParametersSoFar source tokens items left → Comes Comma left next → ParameterTakes source next e after → longer ≡ items ++ e ∷ [] → ParametersSoFar source tokens longer after
parameters_go_on source tokens items left next e after longer s c h grows = list_goes_on (SpellsParameter source) AfterName (parameter_item source) tokens items left next e after longer s c h grows

pub parameters_refuse : (source : List ℕ) (tokens : List Token) (items : List Word) (left next : List Token) (f : Failure) → ParametersSoFar source tokens items left → Comes Comma left next → Refuses (ParameterFails source) next f → Refuses (ListFails (SpellsParameter source) AfterName) tokens f
parameters_refuse source tokens items left next f s c h = list_refuses (SpellsParameter source) AfterName (parameter_item source) tokens items left next f s c h

pub parameters_end : (source : List ℕ) (tokens : List Token) (items : List Word) (left : List Token) → ParametersSoFar source tokens items left → (first left ≡ Some Comma → ⊥) → ListTakes (SpellsParameter source) AfterName tokens items left
parameters_end source tokens items left s other = list_ends (SpellsParameter source) AfterName (parameter_item source) tokens items left s other

pub parameter_shorter : (source : List ℕ) (ts : List Token) (e : Word) (rest : List Token) → ParameterTakes source ts e rest → length rest ≤ length ts
parameter_shorter source ts e rest h = takes_shorter (SpellsParameter source) (λ _. AfterName) ts e rest h

pub ruleset list_steps = (parameters_begin, parameters_first_refuse, parameters_go_on, parameters_refuse, parameters_end, parameter_shorter, comes_shorter)

-- ---- the parameters of a function, by what stands behind the parenthesis

pub parameters_first : {source : List ℕ} {w : List Token} {all : List Word} → SpellsParameters source w all → (rest : List Token) → first (w ++ rest) ≡ Some OpenParenthesis
parameters_first (nothing a b opens closes) rest = ap Some opens
parameters_first (void a v b opens is closes) rest = ap Some opens
parameters_first {source = source} (some d) rest = listed_first (SpellsParameter source) AfterName (parameter_item source) d rest

-- a list begins with `int`
list_first : {source : List ℕ} {w : List Token} {all : List Word} → SpellsList (SpellsParameter source) w all → (rest : List Token) → first (w ++ rest) ≡ Some IntWord
list_first {source = source} {w = w} d rest =
    let k = list_parts (SpellsParameter source) AfterName (parameter_item source) d in
    ap first (ap (λ x. x ++ rest) k.whole ∙ append_assoc k.front k.back rest) ∙ parameter_first k.item (k.back ++ rest)

inside_first : (source : List ℕ) (t : Token) (i : List Token) (all : List Word) (rest : List Token) → ListedTakes (SpellsParameter source) (t ∷ i) all rest → first i ≡ Some IntWord
inside_first source t i all rest k =
    let v = listed_inner (SpellsParameter source) AfterName (parameter_item source) t i all rest k in
    ap first v.2.whole ∙ list_first v.2.spelled (v.0 ∷ rest)

pub record NoneAfter (i : List Token) (all : List Word) (rest : List Token) : Type 0 where
  pub last : Token
  pub closes : last.sort ≡ CloseParenthesis
  pub tree : all ≡ []
  pub whole : i ≡ last ∷ rest

pub record VoidAfter (i : List Token) (all : List Word) (rest : List Token) : Type 0 where
  pub v : Token
  pub is_void : v.sort ≡ VoidWord
  pub last : Token
  pub closes : last.sort ≡ CloseParenthesis
  pub tree : all ≡ []
  pub whole : i ≡ v ∷ last ∷ rest

pub as_none : {source : List ℕ} {w : List Token} {all : List Word} → SpellsParameters source w all → (t : Token) (i rest : List Token) → first i ≡ Some CloseParenthesis → w ++ rest ≡ t ∷ i → NoneAfter i all rest
as_none (nothing a b opens closes) t i rest at eq = let tail : b ∷ rest ≡ i = cc in record { last = b; closes = closes; tree = refl; whole = sym tail }
as_none (void a v b opens is closes) t i rest at eq = let tail : v ∷ b ∷ rest ≡ i = cc in let clash : Some VoidWord ≡ Some CloseParenthesis = ap Some (sym is) ∙ ap first tail ∙ at in cc
as_none {source = source} {all = all} (some {w = w} d) t i rest at eq =
    let clash : Some IntWord ≡ Some CloseParenthesis = sym (inside_first source t i all rest (record { used = w; whole = sym eq; spelled = d; stops = tt })) ∙ at in cc

pub as_void : {source : List ℕ} {w : List Token} {all : List Word} → SpellsParameters source w all → (t : Token) (i rest : List Token) → first i ≡ Some VoidWord → w ++ rest ≡ t ∷ i → VoidAfter i all rest
as_void (nothing a b opens closes) t i rest at eq = let tail : b ∷ rest ≡ i = cc in let clash : Some CloseParenthesis ≡ Some VoidWord = ap Some (sym closes) ∙ ap first tail ∙ at in cc
as_void (void a v b opens is closes) t i rest at eq = let tail : v ∷ b ∷ rest ≡ i = cc in record { v = v; is_void = is; last = b; closes = closes; tree = refl; whole = sym tail }
as_void {source = source} {all = all} (some {w = w} d) t i rest at eq =
    let clash : Some IntWord ≡ Some VoidWord = sym (inside_first source t i all rest (record { used = w; whole = sym eq; spelled = d; stops = tt })) ∙ at in cc

pub as_some : {source : List ℕ} {w : List Token} {all : List Word} → SpellsParameters source w all → (t : Token) (i rest : List Token) → (first i ≡ Some CloseParenthesis → ⊥) → (first i ≡ Some VoidWord → ⊥) → w ++ rest ≡ t ∷ i → ListedTakes (SpellsParameter source) (t ∷ i) all rest
as_some (nothing a b opens closes) t i rest no_close no_void eq = let tail : b ∷ rest ≡ i = cc in absurd (no_close (ap first (sym tail) ∙ ap Some closes))
as_some (void a v b opens is closes) t i rest no_close no_void eq = let tail : v ∷ b ∷ rest ≡ i = cc in absurd (no_void (ap first (sym tail) ∙ ap Some is))
as_some (some {w = w} d) t i rest no_close no_void eq = record { used = w; whole = sym eq; spelled = d; stops = tt }

pub unique_parameters : {source : List ℕ} {w : List Token} {all : List Word} → SpellsParameters source w all → (w' : List Token) (all' : List Word) (r r' : List Token) → SpellsParameters source w' all' → w ++ r ≡ w' ++ r' → (r ≡ r') × (all ≡ all')
unique_parameters (nothing a b opens closes) w' all' r r' d' eq =
    let v = as_none d' a (b ∷ r) r' (ap Some closes) (sym eq) in
    let tail : b ∷ r ≡ v.last ∷ r' = v.whole in
    (cc, sym v.tree)
unique_parameters (void a x b opens is closes) w' all' r r' d' eq =
    let v = as_void d' a (x ∷ b ∷ r) r' (ap Some is) (sym eq) in
    let tail : x ∷ b ∷ r ≡ v.v ∷ v.last ∷ r' = v.whole in
    (cc, sym v.tree)
unique_parameters {source = source} {all = all} (some (listed {w = w} a b opens closes d)) w' all' r r' d' eq =
    let at : first ((w ++ b ∷ []) ++ r) ≡ Some IntWord = ap first (append_assoc w (b ∷ []) r) ∙ list_first d (b ∷ r) in
    let k = as_some d' a ((w ++ b ∷ []) ++ r) r' (λ h. let clash : Some IntWord ≡ Some CloseParenthesis = sym at ∙ h in cc) (λ h. let clash : Some IntWord ≡ Some VoidWord = sym at ∙ h in cc) (sym eq) in
    unique_listed (SpellsParameter source) AfterName (parameter_item source) (listed a b opens closes d) k.used all' r r' k.spelled k.whole

pub takes_none : (source : List ℕ) (tokens i last : List Token) → Comes OpenParenthesis tokens i → Comes CloseParenthesis i last → ParametersTakes source tokens [] last
takes_none source tokens i last a b = record { used = a.token ∷ b.token ∷ []; whole = a.whole ∙ ap (λ x. a.token ∷ x) b.whole; spelled = nothing a.token b.token a.is b.is; stops = tt }

pub takes_void : (source : List ℕ) (tokens i j last : List Token) → Comes OpenParenthesis tokens i → Comes VoidWord i j → Comes CloseParenthesis j last → ParametersTakes source tokens [] last
takes_void source tokens i j last a v b = record { used = a.token ∷ v.token ∷ b.token ∷ []; whole = a.whole ∙ ap (λ x. a.token ∷ x) (v.whole ∙ ap (λ x. v.token ∷ x) b.whole); spelled = void a.token v.token b.token a.is v.is b.is; stops = tt }

pub takes_some : (source : List ℕ) (tokens i : List Token) (all : List Word) (r last : List Token) → Comes OpenParenthesis tokens i → ListTakes (SpellsParameter source) AfterName i all r → Comes CloseParenthesis r last → ParametersTakes source tokens all last
takes_some source tokens i all r last a h b =
    let k = takes_listed (SpellsParameter source) AfterName (parameter_item source) tokens i all r last a h b in
    record { used = k.used; whole = k.whole; spelled = some k.spelled; stops = tt }

pub not_opened : (source : List ℕ) (tokens : List Token) → (first tokens ≡ Some OpenParenthesis → ⊥) → ParametersFails source tokens (length tokens)
not_opened source tokens other =
    fails_here (SpellsParameters source) Always [] tokens tokens refl (some_token OpenParenthesis ∷ some_token CloseParenthesis ∷ [], [], nothing (some_token OpenParenthesis) (some_token CloseParenthesis) refl refl)
    (λ others c r same k. other (sym same ∙ ap first k.whole ∙ parameters_first k.spelled r))

pub void_not_closed : (source : List ℕ) (tokens i j : List Token) → Comes OpenParenthesis tokens i → Comes VoidWord i j → (first j ≡ Some CloseParenthesis → ⊥) → ParametersFails source tokens (length j)
void_not_closed source tokens i j a v other =
    fails_here (SpellsParameters source) Always (a.token ∷ v.token ∷ []) j tokens (a.whole ∙ ap (λ x. a.token ∷ x) v.whole) (some_token CloseParenthesis ∷ [], [], void a.token v.token (some_token CloseParenthesis) a.is v.is refl)
    (λ others c r same k.
    let m = as_void k.spelled a.token (v.token ∷ others) r (ap Some v.is) (sym k.whole) in
    let both : v.token ∷ others ≡ m.v ∷ m.last ∷ r = m.whole in
    let tail : others ≡ m.last ∷ r = cc in
    other (sym same ∙ ap first tail ∙ ap Some m.closes))

pub some_refuses : (source : List ℕ) (tokens i : List Token) (f : Failure) → Comes OpenParenthesis tokens i → (first i ≡ Some CloseParenthesis → ⊥) → (first i ≡ Some VoidWord → ⊥) → Refuses (ListFails (SpellsParameter source) AfterName) i f → Refuses (ParametersFails source) tokens f
some_refuses source tokens i (Broken n) a no_close no_void f =
    fails_behind (SpellsList (SpellsParameter source)) (λ _. ListEnds AfterName) (SpellsParameters source) Always (a.token ∷ []) i tokens n a.whole f
    (λ v all d. (some_token CloseParenthesis ∷ [], all, some (listed a.token (some_token CloseParenthesis) a.is refl d)))
    (λ others c r _ same k.
    let m = listed_inner (SpellsParameter source) AfterName (parameter_item source) a.token others c r (as_some k.spelled a.token others r (λ h. no_close (sym same ∙ h)) (λ h. no_void (sym same ∙ h)) (sym k.whole)) in
    (c, m.0 ∷ r, m.2))
some_refuses source tokens i Memory a no_close no_void f = tt

pub some_not_closed : (source : List ℕ) (tokens i : List Token) (all : List Word) (r : List Token) → Comes OpenParenthesis tokens i → ListTakes (SpellsParameter source) AfterName i all r → (first r ≡ Some CloseParenthesis → ⊥) → ParametersFails source tokens (length r)
some_not_closed source tokens i all r a h other =
    fails_here (SpellsParameters source) Always (a.token ∷ h.used) r tokens (a.whole ∙ ap (λ x. a.token ∷ x) h.whole)
    (some_token CloseParenthesis ∷ [], all, some (listed a.token (some_token CloseParenthesis) a.is refl h.spelled))
    (λ others c end same k.
    let at : first (h.used ++ others) ≡ Some IntWord = list_first h.spelled others in
    let m = listed_inner (SpellsParameter source) AfterName (parameter_item source) a.token (h.used ++ others) c end (as_some k.spelled a.token (h.used ++ others) end (λ p. let clash : Some IntWord ≡ Some CloseParenthesis = sym at ∙ p in cc) (λ p. let clash : Some IntWord ≡ Some VoidWord = sym at ∙ p in cc) (sym k.whole)) in
    let ends : ListEnds AfterName others = record { item = tt; comma = λ p. h.stops.comma (sym same ∙ p) } in
    let u = unique_list (SpellsParameter source) AfterName (parameter_item source) h.spelled m.2.used c others (m.0 ∷ end) ends m.2.spelled m.2.stops m.2.whole in
    other (sym same ∙ ap first u.0 ∙ ap Some m.1))

pub ruleset parameters_steps = (takes_none, takes_void, takes_some, not_opened, void_not_closed, some_refuses, some_not_closed)

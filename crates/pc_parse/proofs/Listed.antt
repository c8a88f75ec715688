-- Lists in parentheses.
use Rattle.std.proofs.Common.{◌≡◌, ℕ, List, [], ◌∷◌, ◌++◌, ◌⊎◌, inl, inr, ⊎_elim, Some, length, refl, sym, ap, ◌∙◌, append_assoc}
use Rattle.pc_grammar.specs.declared.tokens.Sort.TheVariants.{Name, Comma, CloseParenthesis, OpenParenthesis}
use Rattle.pc_grammar.specs.declared.tokens.Token.{Token}
use Rattle.pc_grammar.specs.declared.expressions.Word.{Word}
use Rattle.pc_grammar.specs.declared.expressions.Expr.{Expr}
use Rattle.pc_parse.specs.declared.reading.Failure.{Failure}
use Rattle.pc_parse.specs.declared.reading.Failure.TheVariants.{Broken, Memory}
use Rattle.pc_grammar.specs.declared.marks.OperandOpening.TheVariants.{Nothing as NothingOpening}
use Rattle.pc_grammar.specs.Signs.{opening_of, unary_in}
use Rattle.pc_grammar.specs.Refusing.{first}
use Rattle.pc_parse.specs.Reading.{Comes, Refuses, Always}
use Rattle.pc_grammar.specs.Expressions.{word_at, IsExpression, SpellsLevel, operand, chain}
use Rattle.pc_parse.proofs.Behind.{fails_behind, fails_here}
use Rattle.pc_parse.proofs.Operands.{some_token}
use Rattle.pc_parse.proofs.Unique.{operand_as}
use Rattle.pc_grammar.specs.Lists.{none, SpellsList, list, SpellsListed, listed, SpellsArguments, no_arguments, some_arguments, SpellsName, name}
use Rattle.pc_parse.specs.Lists.{ListEnds, ListTakes, ListFails, ListedTakes, ListedFails, ArgumentsTakes, ArgumentsFails, AfterExpression, AfterName}
use Rattle.pc_parse.proofs.ListItems.{IsItem, list_parts, unique_list}
use Rattle.pc_parse.proofs.Rows.{expression_item, name_item}

module _ {A : Type 0} (X : List Token → A → Type 0) (S : List Token → Type 0) (law : IsItem X S) where
  pub record ListedAfter (t : Token) (i : List Token) (all : List A) (rest : List Token) : Type 0 where
    pub last : Token
    pub opens : t.sort ≡ OpenParenthesis
    pub closes : last.sort ≡ CloseParenthesis
    pub w : List Token
    pub inner : SpellsList X w all
    pub whole : i ≡ w ++ last ∷ rest

  pub listed_after : {w : List Token} {all : List A} → SpellsListed X w all → (t : Token) (i rest : List Token) → w ++ rest ≡ t ∷ i → ListedAfter t i all rest
  listed_after (listed {w = w} a b opens closes d) t i rest eq =
      let at : a ≡ t = cc in
      let tail : (w ++ b ∷ []) ++ rest ≡ i = cc in
      record { last = b; opens = ap (λ (x : Token). x.sort) (sym at) ∙ opens; closes = closes; w = w; inner = d; whole = sym tail ∙ append_assoc w (b ∷ []) rest }

  pub listed_first : {w : List Token} {all : List A} → SpellsListed X w all → (rest : List Token) → first (w ++ rest) ≡ Some OpenParenthesis
  listed_first (listed a b opens closes d) rest = ap Some opens

  close_ends : (b : Token) (r : List Token) → b.sort ≡ CloseParenthesis → ListEnds S (b ∷ r)
  close_ends b r is = record { item = law.close b r is; comma = λ h. let a : Some b.sort ≡ Some Comma = h in cc }

  pub unique_listed : {w : List Token} {all : List A} → SpellsListed X w all → (w' : List Token) (all' : List A) (r r' : List Token) → SpellsListed X w' all' → w ++ r ≡ w' ++ r' → (r ≡ r') × (all ≡ all')
  unique_listed (listed {w = w} a b opens closes d) w' all' r r' d' eq =
      let v = listed_after d' a ((w ++ b ∷ []) ++ r) r' (sym eq) in
      let u = unique_list X S law d v.w all' (b ∷ r) (v.last ∷ r') (close_ends b r closes) v.inner (close_ends v.last r' v.closes) (sym (append_assoc w (b ∷ []) r) ∙ v.whole) in
      let tail : b ∷ r ≡ v.last ∷ r' = u.0 in
      (cc, u.1)

  pub takes_listed : (tokens i : List Token) (all : List A) (r rest : List Token) → Comes OpenParenthesis tokens i → ListTakes X S i all r → Comes CloseParenthesis r rest → ListedTakes X tokens all rest
  takes_listed tokens i all r rest a h b = record {
    used = a.token ∷ (h.used ++ b.token ∷ []);
    whole = a.whole ∙ ap (λ x. a.token ∷ x) (h.whole ∙ ap (λ x. h.used ++ x) b.whole ∙ sym (append_assoc h.used (b.token ∷ []) rest));
    spelled = listed a.token b.token a.is b.is h.spelled;
    stops = tt;
  }

  pub fails_listed_open : (tokens w : List Token) (a : A) → X w a → (first tokens ≡ Some OpenParenthesis → ⊥) → ListedFails X tokens (length tokens)
  fails_listed_open tokens w a d other =
      fails_here (SpellsListed X) Always [] tokens tokens refl
      (some_token OpenParenthesis ∷ ((w ++ []) ++ some_token CloseParenthesis ∷ []), a ∷ [], listed (some_token OpenParenthesis) (some_token CloseParenthesis) refl refl (list d none))
      (λ others c r same k. other (sym same ∙ ap first k.whole ∙ listed_first k.spelled r))

  -- the list inside
  pub listed_inner : (t : Token) (i : List Token) (c : List A) (r : List Token) → ListedTakes X (t ∷ i) c r → (last : Token) × (last.sort ≡ CloseParenthesis) × ListTakes X S i c (last ∷ r)
  listed_inner t i c r k =
      let v = listed_after k.spelled t i r (sym k.whole) in
      (v.last, v.closes, record { used = v.w; whole = v.whole; spelled = v.inner; stops = close_ends v.last r v.closes })

  pub listed_refuses : (tokens i : List Token) (f : Failure) → Comes OpenParenthesis tokens i → Refuses (ListFails X S) i f → Refuses (ListedFails X) tokens f
  listed_refuses tokens i (Broken n) a f =
      fails_behind (SpellsList X) (λ _. ListEnds S) (SpellsListed X) Always (a.token ∷ []) i tokens n a.whole f
      (λ v all d. (some_token CloseParenthesis ∷ [], all, listed a.token (some_token CloseParenthesis) a.is refl d))
      (λ others c r _ same k. let v = listed_inner a.token others c r k in (c, v.0 ∷ r, v.2))
  listed_refuses tokens i Memory a f = tt

  pub fails_listed_last : (tokens i : List Token) (all : List A) (r : List Token) → Comes OpenParenthesis tokens i → ListTakes X S i all r → (first r ≡ Some CloseParenthesis → ⊥) → ListedFails X tokens (length r)
  fails_listed_last tokens i all r a h other =
      fails_here (SpellsListed X) Always (a.token ∷ h.used) r tokens (a.whole ∙ ap (λ x. a.token ∷ x) h.whole)
      (some_token CloseParenthesis ∷ [], all, listed a.token (some_token CloseParenthesis) a.is refl h.spelled)
      (λ others c rest same k.
      let v = listed_inner a.token (h.used ++ others) c rest k in
      let ends : ListEnds S others = record { item = law.same others r same h.stops.item; comma = λ p. h.stops.comma (sym same ∙ p) } in
      let u = unique_list X S law h.spelled v.2.used c others (v.0 ∷ rest) ends v.2.spelled v.2.stops v.2.whole in
      other (sym same ∙ ap first u.0 ∙ ap Some v.1))

-- ---- names in parentheses

pub names_take : (source : List ℕ) (tokens i : List Token) (all : List Word) (r rest : List Token) → Comes OpenParenthesis tokens i → ListTakes (SpellsName source) AfterName i all r → Comes CloseParenthesis r rest → ListedTakes (SpellsName source) tokens all rest
names_take source tokens i all r rest a h b = takes_listed (SpellsName source) AfterName (name_item source) tokens i all r rest a h b

pub names_not_opened : (source : List ℕ) (tokens : List Token) → (first tokens ≡ Some OpenParenthesis → ⊥) → ListedFails (SpellsName source) tokens (length tokens)
names_not_opened source tokens other = fails_listed_open (SpellsName source) AfterName (name_item source) tokens (some_token Name ∷ []) (word_at source (some_token Name)) (name (some_token Name) refl) other

pub names_refuse : (source : List ℕ) (tokens i : List Token) (f : Failure) → Comes OpenParenthesis tokens i → Refuses (ListFails (SpellsName source) AfterName) i f → Refuses (ListedFails (SpellsName source)) tokens f
names_refuse source tokens i f a h = listed_refuses (SpellsName source) AfterName (name_item source) tokens i f a h

pub names_not_closed : (source : List ℕ) (tokens i : List Token) (all : List Word) (r : List Token) → Comes OpenParenthesis tokens i → ListTakes (SpellsName source) AfterName i all r → (first r ≡ Some CloseParenthesis → ⊥) → ListedFails (SpellsName source) tokens (length r)
names_not_closed source tokens i all r a h other = fails_listed_last (SpellsName source) AfterName (name_item source) tokens i all r a h other

pub ruleset names_steps = (names_take, names_not_opened, names_refuse, names_not_closed)

-- ---- arguments

close_opens : opening_of CloseParenthesis ≡ NothingOpening
unfolding opening_of unary_in
close_opens = refl

-- no expression begins with a closing parenthesis
pub not_close : {source : List ℕ} {room level : ℕ} {w : List Token} {e : Expr Word} → SpellsLevel source room level w e → (t : Token) (i r : List Token) → w ++ r ≡ t ∷ i → t.sort ≡ CloseParenthesis → ⊥
not_close (operand d) t i r eq is = operand_as d NothingOpening t i r (ap opening_of is ∙ close_opens) eq
not_close (chain {w = w} {v = v} d ds) t i r eq is = not_close d t i (v ++ r) (sym (append_assoc w v r) ∙ eq) is

list_not_close : {source : List ℕ} {w : List Token} {all : List (Expr Word)} → SpellsList (IsExpression source) w all → (t : Token) (i r : List Token) → w ++ r ≡ t ∷ i → t.sort ≡ CloseParenthesis → ⊥
list_not_close {source = source} d t i r eq is =
    let k = list_parts (IsExpression source) AfterExpression (expression_item source) d in
    not_close k.item t i (k.back ++ r) (sym (append_assoc k.front k.back r) ∙ ap (λ x. x ++ r) (sym k.whole) ∙ eq) is

-- arguments before `rest` in the input t ∷ i
pub record NoneAfter (t : Token) (i : List Token) (all : List (Expr Word)) (rest : List Token) : Type 0 where
  pub last : Token
  pub opens : t.sort ≡ OpenParenthesis
  pub closes : last.sort ≡ CloseParenthesis
  pub tree : all ≡ []
  pub whole : i ≡ last ∷ rest

pub record SomeAfter (source : List ℕ) (t : Token) (i : List Token) (all : List (Expr Word)) (rest : List Token) : Type 0 where
  pub takes : ListedTakes (IsExpression source) (t ∷ i) all rest

pub arguments_after : {source : List ℕ} {w : List Token} {all : List (Expr Word)} → SpellsArguments source w all → (t : Token) (i rest : List Token) → w ++ rest ≡ t ∷ i → NoneAfter t i all rest ⊎ SomeAfter source t i all rest
arguments_after (no_arguments a b opens closes) t i rest eq =
    let at : a ≡ t = cc in
    let tail : b ∷ rest ≡ i = cc in
    inl (record { last = b; opens = ap (λ (x : Token). x.sort) (sym at) ∙ opens; closes = closes; tree = refl; whole = sym tail })
arguments_after (some_arguments {w = w} d) t i rest eq = inr (record { takes = record { used = w; whole = sym eq; spelled = d; stops = tt } })

pub arguments_first : {source : List ℕ} {w : List Token} {all : List (Expr Word)} → SpellsArguments source w all → (rest : List Token) → first (w ++ rest) ≡ Some OpenParenthesis
arguments_first (no_arguments a b opens closes) rest = ap Some opens
arguments_first {source = source} (some_arguments d) rest = listed_first (IsExpression source) AfterExpression (expression_item source) d rest

-- arguments don't begin as none and go on as some
not_both : (source : List ℕ) (t b : Token) (i : List Token) (all : List (Expr Word)) (rest : List Token) → b.sort ≡ CloseParenthesis → ListedTakes (IsExpression source) (t ∷ b ∷ i) all rest → ⊥
not_both source t b i all rest is k =
    let v = listed_inner (IsExpression source) AfterExpression (expression_item source) t (b ∷ i) all rest k in
    list_not_close v.2.spelled b i (v.0 ∷ rest) (sym v.2.whole) is

pub unique_arguments : {source : List ℕ} {w : List Token} {all : List (Expr Word)} → SpellsArguments source w all → (w' : List Token) (all' : List (Expr Word)) (r r' : List Token) → SpellsArguments source w' all' → w ++ r ≡ w' ++ r' → (r ≡ r') × (all ≡ all')
unique_arguments {source = source} (no_arguments a b opens closes) w' all' r r' d' eq = ⊎_elim
    (λ v. let tail : b ∷ r ≡ v.last ∷ r' = v.whole in (cc, sym v.tree))
    (λ v. absurd (not_both source a b r all' r' closes v.takes))
    (arguments_after d' a (b ∷ r) r' (sym eq))
unique_arguments {source = source} {w = w} {all = all} (some_arguments (listed {w = inner} a b opens closes d)) w' all' r r' d' eq = ⊎_elim
    (λ v. let k : ListedTakes (IsExpression source) (a ∷ v.last ∷ r') all r = record { used = w; whole = ap (λ x. a ∷ x) (sym v.whole); spelled = listed a b opens closes d; stops = tt } in
    absurd (not_both source a v.last r' all r v.closes k))
    (λ v. unique_listed (IsExpression source) AfterExpression (expression_item source) (listed a b opens closes d) v.takes.used all' r r' v.takes.spelled v.takes.whole)
    (arguments_after d' a ((inner ++ b ∷ []) ++ r) r' (sym eq))

pub takes_none : (source : List ℕ) (tokens i rest : List Token) → Comes OpenParenthesis tokens i → Comes CloseParenthesis i rest → ArgumentsTakes source tokens [] rest
takes_none source tokens i rest a b = record { used = a.token ∷ b.token ∷ []; whole = a.whole ∙ ap (λ x. a.token ∷ x) b.whole; spelled = no_arguments a.token b.token a.is b.is; stops = tt }

pub takes_some : (source : List ℕ) (tokens i : List Token) (all : List (Expr Word)) (r rest : List Token) → Comes OpenParenthesis tokens i → ListTakes (IsExpression source) AfterExpression i all r → Comes CloseParenthesis r rest → ArgumentsTakes source tokens all rest
takes_some source tokens i all r rest a h b =
    let k = takes_listed (IsExpression source) AfterExpression (expression_item source) tokens i all r rest a h b in
    record { used = k.used; whole = k.whole; spelled = some_arguments k.spelled; stops = tt }

pub arguments_not_opened : (source : List ℕ) (tokens : List Token) → (first tokens ≡ Some OpenParenthesis → ⊥) → ArgumentsFails source tokens (length tokens)
arguments_not_opened source tokens other =
    fails_here (SpellsArguments source) Always [] tokens tokens refl
    (some_token OpenParenthesis ∷ some_token CloseParenthesis ∷ [], [], no_arguments (some_token OpenParenthesis) (some_token CloseParenthesis) refl refl)
    (λ others c r same k. other (sym same ∙ ap first k.whole ∙ arguments_first k.spelled r))

-- arguments that aren't none
some_inside : (source : List ℕ) (t : Token) (others : List Token) (c : List (Expr Word)) (r : List Token) → (first others ≡ Some CloseParenthesis → ⊥) → ArgumentsTakes source (t ∷ others) c r → ListedTakes (IsExpression source) (t ∷ others) c r
some_inside source t others c r other k = ⊎_elim
    (λ v. absurd (other (ap first v.whole ∙ ap Some v.closes)))
    (λ v. v.takes)
    (arguments_after k.spelled t others r (sym k.whole))

pub arguments_refuse : (source : List ℕ) (tokens i : List Token) (f : Failure) → Comes OpenParenthesis tokens i → (first i ≡ Some CloseParenthesis → ⊥) → Refuses (ListFails (IsExpression source) AfterExpression) i f → Refuses (ArgumentsFails source) tokens f
arguments_refuse source tokens i (Broken n) a other f =
    fails_behind (SpellsList (IsExpression source)) (λ _. ListEnds AfterExpression) (SpellsArguments source) Always (a.token ∷ []) i tokens n a.whole f
    (λ v all d. (some_token CloseParenthesis ∷ [], all, some_arguments (listed a.token (some_token CloseParenthesis) a.is refl d)))
    (λ others c r _ same k.
    let v = listed_inner (IsExpression source) AfterExpression (expression_item source) a.token others c r (some_inside source a.token others c r (λ h. other (sym same ∙ h)) k) in
    (c, v.0 ∷ r, v.2))
arguments_refuse source tokens i Memory a other f = tt

pub arguments_not_closed : (source : List ℕ) (tokens i : List Token) (all : List (Expr Word)) (r : List Token) → Comes OpenParenthesis tokens i → ListTakes (IsExpression source) AfterExpression i all r → (first r ≡ Some CloseParenthesis → ⊥) → ArgumentsFails source tokens (length r)
arguments_not_closed source tokens i all r a h other =
    fails_here (SpellsArguments source) Always (a.token ∷ h.used) r tokens (a.whole ∙ ap (λ x. a.token ∷ x) h.whole)
    (some_token CloseParenthesis ∷ [], all, some_arguments (listed a.token (some_token CloseParenthesis) a.is refl h.spelled))
    (λ others c rest same k.
    let ends : ListEnds AfterExpression others = record { item = (expression_item source).same others r same h.stops.item; comma = λ p. h.stops.comma (sym same ∙ p) } in
    ⊎_elim
    (λ v. begins_closed v.last rest v.closes others (h.used ++ others) h.spelled refl v.whole)
    (λ v. let m = listed_inner (IsExpression source) AfterExpression (expression_item source) a.token (h.used ++ others) c rest v.takes in
    let u = unique_list (IsExpression source) AfterExpression (expression_item source) h.spelled m.2.used c others (m.0 ∷ rest) ends m.2.spelled m.2.stops m.2.whole in
    other (sym same ∙ ap first u.0 ∙ ap Some m.1))
    (arguments_after k.spelled a.token (h.used ++ others) rest (sym k.whole)))
  where
    begins_closed : (b : Token) (rest : List Token) → b.sort ≡ CloseParenthesis → (others whole : List Token) {w : List Token} {all : List (Expr Word)} → SpellsList (IsExpression source) w all → whole ≡ w ++ others → whole ≡ b ∷ rest → ⊥
    begins_closed b rest is others whole d eq at = list_not_close d b rest others (sym eq ∙ at) is

pub ruleset arguments_steps = (takes_none, takes_some, arguments_not_opened, arguments_refuse, arguments_not_closed)

-- One lemma for each way on which the parser of a statement without statements in it answers.
use Rattle.std.proofs.Common.{◌≡◌, ℕ, List, [], ◌∷◌, ◌++◌, Some, length, refl, sym, ap, subst, ◌∙◌, append_assoc, append-nil}
use Rattle.pc_grammar.specs.declared.tokens.Sort.{Sort}
use Rattle.pc_grammar.specs.declared.tokens.Sort.TheVariants.{Name, Semicolon, EotWord, ParWord}
use Rattle.pc_grammar.specs.declared.tokens.Token.{Token}
use Rattle.pc_grammar.specs.declared.expressions.Word.{Word}
use Rattle.pc_grammar.specs.declared.statements.Stmt.{Stmt}
use Rattle.pc_grammar.specs.declared.statements.Stmt.TheVariants.{Skip, Eot, Par}
use Rattle.pc_parse.specs.declared.reading.Failure.{Failure}
use Rattle.pc_parse.specs.declared.reading.Failure.TheVariants.{Broken, Memory}
use Rattle.pc_grammar.specs.Refusing.{first}
use Rattle.pc_parse.specs.Reading.{Comes, Refuses, Always}
use Rattle.pc_grammar.specs.Expressions.{word_at}
use Rattle.pc_parse.proofs.Behind.{fails_behind, fails_here}
use Rattle.pc_parse.proofs.Operands.{some_token}
use Rattle.pc_parse.specs.declared.simple.StatementOpening.{StatementOpening}
use Rattle.pc_parse.specs.declared.simple.StatementOpening.TheVariants.{Skip as SkipBeginning, Name as NameBeginning, Eot as EotBeginning, Par as ParBeginning}
use Rattle.pc_grammar.specs.Lists.{SpellsListed, SpellsName}
use Rattle.pc_parse.specs.Lists.{ListedTakes, ListedFails, AfterName}
use Rattle.pc_grammar.specs.Simple.{SpellsNamed, SpellsSimple, skip, named, eot, par}
use Rattle.pc_parse.specs.Simple.{beginning_of, NamedTakes, NamedFails, SimpleTakes, SimpleFails}
use Rattle.pc_parse.proofs.Listed.{unique_listed}
use Rattle.pc_parse.proofs.Named.{unique_named}
use Rattle.pc_parse.proofs.Rows.{name_item}

-- ---- what a statement begins with

pub begins_skip : (s : Sort) → beginning_of s ≡ SkipBeginning → s ≡ Semicolon
unfolding beginning_of
begins_skip Semicolon is = refl
begins_skip s is = cc

pub begins_name : (s : Sort) → beginning_of s ≡ NameBeginning → s ≡ Name
unfolding beginning_of
begins_name Name is = refl
begins_name s is = cc

pub begins_eot : (s : Sort) → beginning_of s ≡ EotBeginning → s ≡ EotWord
unfolding beginning_of
begins_eot EotWord is = refl
begins_eot s is = cc

pub begins_par : (s : Sort) → beginning_of s ≡ ParBeginning → s ≡ ParWord
unfolding beginning_of
begins_par ParWord is = refl
begins_par s is = cc

semicolon_is : beginning_of Semicolon ≡ SkipBeginning
unfolding beginning_of
semicolon_is = refl

name_is : beginning_of Name ≡ NameBeginning
unfolding beginning_of
name_is = refl

eot_is : beginning_of EotWord ≡ EotBeginning
unfolding beginning_of
eot_is = refl

par_is : beginning_of ParWord ≡ ParBeginning
unfolding beginning_of
par_is = refl

-- ---- a statement, by what it begins with

pub record NamedAfter (source : List ℕ) (t : Token) (i : List Token) (s : Stmt Word) (rest : List Token) : Type 0 where
  pub w : List Token
  pub inner : SpellsNamed source (word_at source t) w s
  pub whole : i ≡ w ++ rest

pub record EotAfter (t : Token) (i : List Token) (s : Stmt Word) (rest : List Token) : Type 0 where
  pub last : Token
  pub closes : last.sort ≡ Semicolon
  pub tree : s ≡ Eot t.span
  pub whole : i ≡ last ∷ rest

pub record ParAfter (source : List ℕ) (t : Token) (i : List Token) (s : Stmt Word) (rest : List Token) : Type 0 where
  pub w : List Token
  pub all : List Word
  pub last : Token
  pub closes : last.sort ≡ Semicolon
  pub inner : SpellsListed (SpellsName source) w all
  pub tree : s ≡ Par t.span all
  pub whole : i ≡ w ++ last ∷ rest

abbrev pub SimpleAfter : List ℕ → StatementOpening → Token → List Token → Stmt Word → List Token → Type 0
SimpleAfter source SkipBeginning t i s rest = (i ≡ rest) × (s ≡ Skip)
SimpleAfter source NameBeginning t i s rest = NamedAfter source t i s rest
SimpleAfter source EotBeginning t i s rest = EotAfter t i s rest
SimpleAfter source ParBeginning t i s rest = ParAfter source t i s rest
SimpleAfter source _ t i s rest = ⊥

at_token : (source : List ℕ) (b : StatementOpening) (t t' : Token) (i i' : List Token) (s : Stmt Word) (rest : List Token) → beginning_of t'.sort ≡ b → t' ∷ i' ≡ t ∷ i →
    SimpleAfter source b t' i' s rest → SimpleAfter source (beginning_of t.sort) t i s rest
at_token source b t t' i i' s rest is eq h =
    let one : t' ≡ t = cc in
    let two : i' ≡ i = cc in
    subst (λ x. SimpleAfter source (beginning_of x.sort) x i s rest) one (subst (λ x. SimpleAfter source x t' i s rest) (sym is) (subst (λ x. SimpleAfter source b t' x s rest) two h))

pub simple_after : {source : List ℕ} {w : List Token} {s : Stmt Word} → SpellsSimple source w s → (t : Token) (i rest : List Token) → w ++ rest ≡ t ∷ i → SimpleAfter source (beginning_of t.sort) t i s rest
simple_after {source = source} (skip t' is) t i rest eq = at_token source SkipBeginning t t' i rest Skip rest (ap beginning_of is ∙ semicolon_is) eq (refl, refl)
simple_after {source = source} (named {w = w} {s = s} t' is d) t i rest eq = at_token source NameBeginning t t' i (w ++ rest) s rest (ap beginning_of is ∙ name_is) eq (record { w = w; inner = d; whole = refl })
simple_after {source = source} (eot t' z is closes) t i rest eq = at_token source EotBeginning t t' i (z ∷ rest) (Eot t'.span) rest (ap beginning_of is ∙ eot_is) eq (record { last = z; closes = closes; tree = refl; whole = refl })
simple_after {source = source} (par {w = w} {all = all} t' z is closes d) t i rest eq =
    at_token source ParBeginning t t' i ((w ++ z ∷ []) ++ rest) (Par t'.span all) rest (ap beginning_of is ∙ par_is) eq
    (record { w = w; all = all; last = z; closes = closes; inner = d; tree = refl; whole = append_assoc w (z ∷ []) rest })

pub simple_as : {source : List ℕ} {w : List Token} {s : Stmt Word} → SpellsSimple source w s → (b : StatementOpening) (t : Token) (i rest : List Token) → beginning_of t.sort ≡ b → w ++ rest ≡ t ∷ i → SimpleAfter source b t i s rest
simple_as {source = source} {s = s} d b t i rest is eq = subst (λ x. SimpleAfter source x t i s rest) is (simple_after d t i rest eq)

pub unique_simple : {source : List ℕ} {w : List Token} {s : Stmt Word} → SpellsSimple source w s → (w' : List Token) (s' : Stmt Word) (r r' : List Token) → SpellsSimple source w' s' → w ++ r ≡ w' ++ r' → (r ≡ r') × (s ≡ s')
unique_simple (skip t is) w' s' r r' d' eq = let v = simple_as d' SkipBeginning t r r' (ap beginning_of is ∙ semicolon_is) (sym eq) in (v.0, sym v.1)
unique_simple (named {w = w} t is d) w' s' r r' d' eq =
    let v = simple_as d' NameBeginning t (w ++ r) r' (ap beginning_of is ∙ name_is) (sym eq) in
    unique_named d v.w s' r r' v.inner v.whole
unique_simple (eot t z is closes) w' s' r r' d' eq =
    let v = simple_as d' EotBeginning t (z ∷ r) r' (ap beginning_of is ∙ eot_is) (sym eq) in
    let tail : z ∷ r ≡ v.last ∷ r' = v.whole in
    (cc, sym v.tree)
unique_simple {source = source} (par {w = w} t z is closes d) w' s' r r' d' eq =
    let v = simple_as d' ParBeginning t ((w ++ z ∷ []) ++ r) r' (ap beginning_of is ∙ par_is) (sym eq) in
    let u = unique_listed (SpellsName source) AfterName (name_item source) d v.w v.all (z ∷ r) (v.last ∷ r') v.inner (sym (append_assoc w (z ∷ []) r) ∙ v.whole) in
    let tail : z ∷ r ≡ v.last ∷ r' = u.0 in
    (cc, ap (Par t.span) u.1 ∙ sym v.tree)

-- ---- the ways of the parser

pub takes_skip : (source : List ℕ) (tokens : List Token) (t : Token) (rest : List Token) → tokens ≡ t ∷ rest → beginning_of t.sort ≡ SkipBeginning → SimpleTakes source tokens Skip rest
takes_skip source tokens t rest eq is = record { used = t ∷ []; whole = eq; spelled = skip t (begins_skip t.sort is); stops = tt }

pub takes_named : (source : List ℕ) (name : Word) (tokens : List Token) (t : Token) (i : List Token) (s : Stmt Word) (rest : List Token) → tokens ≡ t ∷ i → beginning_of t.sort ≡ NameBeginning → name ≡ word_at source t → NamedTakes source name i s rest → SimpleTakes source tokens s rest
takes_named source name tokens t i s rest eq is word h = record {
  used = t ∷ h.used;
  whole = eq ∙ ap (λ x. t ∷ x) h.whole;
  spelled = named t (begins_name t.sort is) (subst (λ n. SpellsNamed source n h.used s) word h.spelled);
  stops = tt;
}

pub named_refuses : (source : List ℕ) (name : Word) (tokens : List Token) (t : Token) (i : List Token) (f : Failure) → tokens ≡ t ∷ i → beginning_of t.sort ≡ NameBeginning → name ≡ word_at source t → Refuses (NamedFails source name) i f → Refuses (SimpleFails source) tokens f
named_refuses source name tokens t i (Broken n) eq is word f =
    fails_behind (SpellsNamed source name) Always (SpellsSimple source) Always (t ∷ []) i tokens n eq f
    (λ v s d. ([], s, named t (begins_name t.sort is) (subst (λ x. SpellsNamed source (word_at source t) x s) (sym (append-nil v)) (subst (λ x. SpellsNamed source x v s) word d))))
    (λ others s r _ same k.
    let v = simple_as k.spelled NameBeginning t others r is (sym k.whole) in
    (s, r, record { used = v.w; whole = v.whole; spelled = subst (λ x. SpellsNamed source x v.w s) (sym word) v.inner; stops = tt }))
named_refuses source name tokens t i Memory eq is word f = tt

pub takes_eot : (source : List ℕ) (tokens : List Token) (t : Token) (i last : List Token) → tokens ≡ t ∷ i → beginning_of t.sort ≡ EotBeginning → Comes Semicolon i last → SimpleTakes source tokens (Eot t.span) last
takes_eot source tokens t i last eq is z = record { used = t ∷ z.token ∷ []; whole = eq ∙ ap (λ x. t ∷ x) z.whole; spelled = eot t z.token (begins_eot t.sort is) z.is; stops = tt }

pub eot_not_closed : (source : List ℕ) (tokens : List Token) (t : Token) (i : List Token) → tokens ≡ t ∷ i → beginning_of t.sort ≡ EotBeginning → (first i ≡ Some Semicolon → ⊥) → SimpleFails source tokens (length i)
eot_not_closed source tokens t i eq is other =
    fails_here (SpellsSimple source) Always (t ∷ []) i tokens eq (some_token Semicolon ∷ [], Eot t.span, eot t (some_token Semicolon) (begins_eot t.sort is) refl)
    (λ others s r same k. let v = simple_as k.spelled EotBeginning t others r is (sym k.whole) in other (sym same ∙ ap first v.whole ∙ ap Some v.closes))

pub takes_par : (source : List ℕ) (tokens : List Token) (t : Token) (i : List Token) (all : List Word) (r last : List Token) → tokens ≡ t ∷ i → beginning_of t.sort ≡ ParBeginning → ListedTakes (SpellsName source) i all r → Comes Semicolon r last → SimpleTakes source tokens (Par t.span all) last
takes_par source tokens t i all r last eq is h z = record {
  used = t ∷ (h.used ++ z.token ∷ []);
  whole = eq ∙ ap (λ x. t ∷ x) (h.whole ∙ ap (λ x. h.used ++ x) z.whole ∙ sym (append_assoc h.used (z.token ∷ []) last));
  spelled = par t z.token (begins_par t.sort is) z.is h.spelled;
  stops = tt;
}

pub par_refuses : (source : List ℕ) (tokens : List Token) (t : Token) (i : List Token) (f : Failure) → tokens ≡ t ∷ i → beginning_of t.sort ≡ ParBeginning → Refuses (ListedFails (SpellsName source)) i f → Refuses (SimpleFails source) tokens f
par_refuses source tokens t i (Broken n) eq is f =
    fails_behind (SpellsListed (SpellsName source)) Always (SpellsSimple source) Always (t ∷ []) i tokens n eq f
    (λ v all d. (some_token Semicolon ∷ [], Par t.span all, par t (some_token Semicolon) (begins_par t.sort is) refl d))
    (λ others s r _ same k.
    let v = simple_as k.spelled ParBeginning t others r is (sym k.whole) in
    (v.all, v.last ∷ r, record { used = v.w; whole = v.whole; spelled = v.inner; stops = tt }))
par_refuses source tokens t i Memory eq is f = tt

pub par_not_closed : (source : List ℕ) (tokens : List Token) (t : Token) (i : List Token) (all : List Word) (r : List Token) → tokens ≡ t ∷ i → beginning_of t.sort ≡ ParBeginning → ListedTakes (SpellsName source) i all r → (first r ≡ Some Semicolon → ⊥) → SimpleFails source tokens (length r)
par_not_closed source tokens t i all r eq is h other =
    fails_here (SpellsSimple source) Always (t ∷ h.used) r tokens (eq ∙ ap (λ x. t ∷ x) h.whole)
    (some_token Semicolon ∷ [], Par t.span all, par t (some_token Semicolon) (begins_par t.sort is) refl h.spelled)
    (λ others s end same k.
    let v = simple_as k.spelled ParBeginning t (h.used ++ others) end is (sym k.whole) in
    let u = unique_listed (SpellsName source) AfterName (name_item source) h.spelled v.w v.all others (v.last ∷ end) v.inner v.whole in
    other (sym same ∙ ap first u.0 ∙ ap Some v.closes))

-- what no statement without statements in it begins with
abbrev pub NotSimple : StatementOpening → Type 0
NotSimple SkipBeginning = ⊥
NotSimple NameBeginning = ⊥
NotSimple EotBeginning = ⊥
NotSimple ParBeginning = ⊥
NotSimple _ = Unit {0}

no_simple : (source : List ℕ) (b : StatementOpening) (t : Token) (i : List Token) (s : Stmt Word) (r : List Token) → NotSimple b → SimpleAfter source b t i s r → ⊥
no_simple source SkipBeginning t i s r bad v = bad
no_simple source NameBeginning t i s r bad v = bad
no_simple source EotBeginning t i s r bad v = bad
no_simple source ParBeginning t i s r bad v = bad
no_simple source _ t i s r bad v = v

pub simple_begins : {source : List ℕ} {w : List Token} {s : Stmt Word} → SpellsSimple source w s → (r : List Token) → (t : Token) × (i : List Token) × (w ++ r ≡ t ∷ i)
simple_begins (skip t is) r = (t, r, refl)
simple_begins (named {w = w} t is d) r = (t, w ++ r, refl)
simple_begins (eot t z is closes) r = (t, z ∷ r, refl)
simple_begins (par {w = w} t z is closes d) r = (t, (w ++ z ∷ []) ++ r, refl)

fails_beginning : (source : List ℕ) (tokens : List Token) → ((t : Token) (i : List Token) → tokens ≡ t ∷ i → NotSimple (beginning_of t.sort)) → SimpleFails source tokens (length tokens)
fails_beginning source tokens bad =
    fails_here (SpellsSimple source) Always [] tokens tokens refl (some_token Semicolon ∷ [], Skip, skip (some_token Semicolon) refl)
    (λ others s r same k. stuck tokens bad others s r same k)
  where
    stuck : (tokens : List Token) → ((t : Token) (i : List Token) → tokens ≡ t ∷ i → NotSimple (beginning_of t.sort)) → (others : List Token) (s : Stmt Word) (r : List Token) → first others ≡ first tokens → SimpleTakes source others s r → ⊥
    stuck tokens bad [] s r same k = let b = simple_begins k.spelled r in let e : [] ≡ b.0 ∷ b.1 = k.whole ∙ b.2 in cc
    stuck [] bad (x ∷ xs) s r same k = cc
    stuck (t ∷ i) bad (x ∷ xs) s r same k =
        let here : t.sort ≡ x.sort = let p : Some x.sort ≡ Some t.sort = same in cc in
        no_simple source (beginning_of x.sort) x xs s r (subst (λ y. NotSimple (beginning_of y)) here (bad t i refl)) (simple_after k.spelled x xs r (sym k.whole))

pub fails_empty : (source : List ℕ) (tokens : List Token) → tokens ≡ [] → SimpleFails source tokens (length tokens)
fails_empty source tokens eq = fails_beginning source tokens (λ t i h. let a : [] ≡ t ∷ i = sym eq ∙ h in cc)

not_simple : (b : StatementOpening) → (b ≡ SkipBeginning → ⊥) → (b ≡ NameBeginning → ⊥) → (b ≡ EotBeginning → ⊥) → (b ≡ ParBeginning → ⊥) → NotSimple b
not_simple SkipBeginning a b c d = a refl
not_simple NameBeginning a b c d = b refl
not_simple EotBeginning a b c d = c refl
not_simple ParBeginning a b c d = d refl
not_simple _ a b c d = tt

pub fails_simple : (source : List ℕ) (b : StatementOpening) (tokens : List Token) (t : Token) (i : List Token) → tokens ≡ t ∷ i → b ≡ beginning_of t.sort → (b ≡ SkipBeginning → ⊥) → (b ≡ NameBeginning → ⊥) → (b ≡ EotBeginning → ⊥) → (b ≡ ParBeginning → ⊥) → SimpleFails source tokens (length tokens)
fails_simple source b tokens t i eq is one two three four = fails_beginning source tokens (λ t' i' h.
    let a : t ∷ i ≡ t' ∷ i' = sym eq ∙ h in
    let at : t ≡ t' = cc in
    subst (λ (x : Token). NotSimple (beginning_of x.sort)) at (subst NotSimple is (not_simple b one two three four)))

pub ruleset simple_steps = (takes_skip, takes_named, named_refuses, takes_eot, eot_not_closed, takes_par, par_refuses, par_not_closed, fails_empty)

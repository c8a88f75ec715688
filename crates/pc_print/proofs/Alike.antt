-- Tokens that look like the canonical ones of lists, settings and simple statements spell the same but for places.
use Rattle.std.proofs.Common.{◌≡◌, ℕ, List, [], ◌∷◌, ◌++◌, map, slice_range, refl, sym, ap, subst, ◌∙◌}
use Rattle.pc_grammar.specs.declared.tokens.Sort.TheVariants.{Name, OpenParenthesis, CloseParenthesis, Comma}
use Rattle.pc_grammar.specs.declared.tokens.Token.{Token}
use Rattle.pc_grammar.specs.declared.expressions.Word.{Word}
use Rattle.pc_grammar.specs.declared.expressions.Expr.{Expr}
use Rattle.pc_grammar.specs.declared.marks.Pair.{Pair}
use Rattle.pc_grammar.specs.Signs.{opens_of, closes_of}
use Rattle.pc_grammar.specs.Expressions.{word_at, SpellsBetween, between, IsExpression}
use Rattle.pc_grammar.specs.Lists.{SpellsMore, none, more, SpellsList, list, SpellsListed, listed, SpellsArguments, no_arguments, some_arguments, SpellsName, name}
use Rattle.pc_print.specs.Parts.{Part, mark}
use Rattle.pc_print.specs.Canonical.{expression, in_parentheses, more_listed, listed as listed_parts, named as named_parts}
use Rattle.pc_print.specs.Tokens.{token_of, tokens, bytes_of_name, plain, bare}
use Rattle.pc_print.proofs.Spelled.{tokens-append, spelled_again}
use Rattle.pc_print.proofs.Respelled.{map-append, Front, front_of_map, Cut, cut_of_map, empty_of_map, Alike, respelled}

-- ---- tokens that look like others

abbrev pub Looks : List ℕ → List ℕ → List Token → List Token → Type 0
Looks source again v ts = map (plain again) v ≡ map (plain source) ts

pub looks_as : (source again : List ℕ) (v a b : List Token) → a ≡ b → Looks source again v a → Looks source again v b
looks_as source again v a b eq h = h ∙ ap (map (plain source)) eq

pub head_of : (source again : List ℕ) (v : List Token) (t : Token) (ts : List Token) → Looks source again v (t ∷ ts) → Front (plain again) v (plain source t) (map (plain source) ts)
head_of source again v t ts h = front_of_map (plain again) v (plain source t) (map (plain source) ts) h

pub cut_of : (source again : List ℕ) (v a b : List Token) → Looks source again v (a ++ b) → Cut (plain again) v (map (plain source) a) (map (plain source) b)
cut_of source again v a b h = cut_of_map (plain again) v (map (plain source) a) (map (plain source) b) (h ∙ map-append (plain source) a b)

-- one token
pub record Only (source again : List ℕ) (v : List Token) (t : Token) : Type 0 where
  pub first : Token
  pub whole : v ≡ first ∷ []
  pub is : plain again first ≡ plain source t

pub only_of : (source again : List ℕ) (v : List Token) (t : Token) → Looks source again v (t ∷ []) → Only source again v t
only_of source again v t h =
    let k = head_of source again v t [] h in
    record { first = k.first; whole = k.whole ∙ ap (λ r. k.first ∷ r) (empty_of_map (plain again) k.rest k.left); is = k.is }

pub sort_same : (source again : List ℕ) (t u : Token) → plain again u ≡ plain source t → u.sort ≡ t.sort
sort_same source again t u eq = ap (λ p. p.0) eq

abbrev pub name_token : Word → Token
name_token x = record { sort = Name; span = x.span }

-- a name of the source has the same bytes
pub name_same : (source again : List ℕ) (t u : Token) → plain again u ≡ plain source (name_token (word_at source t)) → (word_at again u).text ≡ (word_at source t).text
name_same source again t u eq =
    let other : u.sort ≡ Name = sort_same source again (name_token (word_at source t)) u eq in
    ap (λ s. bytes_of_name s (slice_range again u.span.from u.span.to)) (sym other) ∙ ap (λ p. p.1) eq

-- ---- expressions and lists

pub between_alike : {source : List ℕ} {pair : Pair} {w : List Token} {e : Expr Word} → SpellsBetween source 64 pair w e → (again : List ℕ) (v : List Token) →
    Looks source again v (token_of (opens_of pair) ∷ (tokens (expression e) ++ token_of (closes_of pair) ∷ [])) → Alike (SpellsBetween again 64 pair) v e
between_alike (between {source = source} {pair = pair} {w = w} {e = e} a b opens closes d) again v h =
    let k = head_of source again v (token_of (opens_of pair)) (tokens (expression e) ++ token_of (closes_of pair) ∷ []) h in
    let c = cut_of source again k.rest (tokens (expression e)) (token_of (closes_of pair) ∷ []) k.left in
    let z = only_of source again c.back (token_of (closes_of pair)) c.left in
    let i = respelled source (tokens (expression e)) e (spelled_again source w e d) again c.front c.is in
    let all : v ≡ k.first ∷ (c.front ++ z.first ∷ []) = k.whole ∙ ap (λ r. k.first ∷ r) (c.whole ∙ ap (λ r. c.front ++ r) z.whole) in
    record {
      tree = i.tree;
      spelled = subst (λ x. SpellsBetween again 64 pair x i.tree) (sym all)
          (between k.first z.first (sort_same source again (token_of (opens_of pair)) k.first k.is) (sort_same source again (token_of (closes_of pair)) z.first z.is) i.spelled);
      same = i.same;
    }

-- a tree of any kind, seen by `view`
pub record Seen {A B : Type 0} (X : List Token → A → Type 0) (view : A → B) (v : List Token) (a : A) : Type 0 where
  pub tree : A
  pub spelled : X v tree
  pub same : view tree ≡ view a

pub seen_as : {A B : Type 0} (X : List Token → A → Type 0) (view : A → B) (v u : List Token) (a : A) → v ≡ u → Seen X view u a → Seen X view v a
seen_as X view v u a eq k = record { tree = k.tree; spelled = subst (λ x. X x k.tree) (sym eq) k.spelled; same = k.same }

abbrev pub Again : {A B : Type 0} → List ℕ → List ℕ → (List Token → A → Type 0) → (List Token → A → Type 0) → (A → List Part) → (A → B) → Type 0
Again {A} {B} source again X Y show view = (w : List Token) (a : A) → X w a → (v : List Token) → Looks source again v (tokens (show a)) → Seen Y view v a

pub more_seen : {A B : Type 0} (source again : List ℕ) (X Y : List Token → A → Type 0) (show : A → List Part) (view : A → B) → Again source again X Y show view →
    {w : List Token} {all : List A} → SpellsMore X w all → (v : List Token) → Looks source again v (tokens (more_listed show all)) → Seen (SpellsMore Y) (map view) v all
more_seen source again X Y show view one none v h = record { tree = []; spelled = subst (λ x. SpellsMore Y x []) (sym (empty_of_map (plain again) v h)) none; same = refl }
more_seen source again X Y show view one (more {w = w} {v = u} {a = a} {rest = rest} t is d ds) v h =
    let k = head_of source again v (token_of Comma) (tokens (show a ++ more_listed show rest)) h in
    let c = cut_of source again k.rest (tokens (show a)) (tokens (more_listed show rest)) (looks_as source again k.rest (tokens (show a ++ more_listed show rest)) (tokens (show a) ++ tokens (more_listed show rest)) (tokens-append (show a) (more_listed show rest)) k.left) in
    let i = one w a d c.front c.is in
    let j = more_seen source again X Y show view one ds c.back c.left in
    let all : v ≡ k.first ∷ (c.front ++ c.back) = k.whole ∙ ap (λ r. k.first ∷ r) c.whole in
    record {
      tree = i.tree ∷ j.tree;
      spelled = subst (λ x. SpellsMore Y x (i.tree ∷ j.tree)) (sym all) (more k.first (sort_same source again (token_of Comma) k.first k.is) i.spelled j.spelled);
      same = ap (λ x. x ∷ map view j.tree) i.same ∙ ap (λ r. view a ∷ r) j.same;
    }

pub list_seen : {A B : Type 0} (source again : List ℕ) (X Y : List Token → A → Type 0) (show : A → List Part) (view : A → B) → Again source again X Y show view →
    {w : List Token} {all : List A} → SpellsList X w all → (v : List Token) → Looks source again v (tokens (listed_parts show all)) → Seen (SpellsList Y) (map view) v all
list_seen source again X Y show view one (list {w = w} {v = u} {a = a} {rest = rest} d ds) v h =
    let c = cut_of source again v (tokens (show a)) (tokens (more_listed show rest)) (looks_as source again v (tokens (show a ++ more_listed show rest)) (tokens (show a) ++ tokens (more_listed show rest)) (tokens-append (show a) (more_listed show rest)) h) in
    let i = one w a d c.front c.is in
    let j = more_seen source again X Y show view one ds c.back c.left in
    record {
      tree = i.tree ∷ j.tree;
      spelled = subst (λ x. SpellsList Y x (i.tree ∷ j.tree)) (sym c.whole) (list i.spelled j.spelled);
      same = ap (λ x. x ∷ map view j.tree) i.same ∙ ap (λ r. view a ∷ r) j.same;
    }

pub parenthesis-tokens : (parts : List Part) → tokens (in_parentheses parts) ≡ token_of OpenParenthesis ∷ (tokens parts ++ token_of CloseParenthesis ∷ [])
parenthesis-tokens parts = ap (λ r. token_of OpenParenthesis ∷ r) (tokens-append parts (mark CloseParenthesis ∷ []))

pub listed_seen : {A B : Type 0} (source again : List ℕ) (X Y : List Token → A → Type 0) (show : A → List Part) (view : A → B) → Again source again X Y show view →
    {w : List Token} {all : List A} → SpellsListed X w all → (v : List Token) → Looks source again v (tokens (in_parentheses (listed_parts show all))) → Seen (SpellsListed Y) (map view) v all
listed_seen source again X Y show view one (listed {all = all} a b opens closes d) v h =
    let inner = tokens (listed_parts show all) in
    let k = head_of source again v (token_of OpenParenthesis) (inner ++ token_of CloseParenthesis ∷ []) (looks_as source again v (tokens (in_parentheses (listed_parts show all))) (token_of OpenParenthesis ∷ (inner ++ token_of CloseParenthesis ∷ [])) (parenthesis-tokens (listed_parts show all)) h) in
    let c = cut_of source again k.rest inner (token_of CloseParenthesis ∷ []) k.left in
    let z = only_of source again c.back (token_of CloseParenthesis) c.left in
    let i = list_seen source again X Y show view one d c.front c.is in
    let whole : v ≡ k.first ∷ (c.front ++ z.first ∷ []) = k.whole ∙ ap (λ r. k.first ∷ r) (c.whole ∙ ap (λ r. c.front ++ r) z.whole) in
    record {
      tree = i.tree;
      spelled = subst (λ x. SpellsListed Y x i.tree) (sym whole) (listed k.first z.first (sort_same source again (token_of OpenParenthesis) k.first k.is) (sort_same source again (token_of CloseParenthesis) z.first z.is) i.spelled);
      same = i.same;
    }

pub expression_again : (source again : List ℕ) → Again source again (IsExpression source) (IsExpression again) expression bare
expression_again source again w e d v h = let i = respelled source (tokens (expression e)) e (spelled_again source w e d) again v h in record { tree = i.tree; spelled = i.spelled; same = i.same }

pub name_again : (source again : List ℕ) → Again source again (SpellsName source) (SpellsName again) named_parts (λ x. x.text)
name_again source again w x (name t is) v h =
    let k = only_of source again v (name_token (word_at source t)) h in
    seen_as (SpellsName again) (λ x. x.text) v (k.first ∷ []) (word_at source t) k.whole
    (record { tree = word_at again k.first; spelled = name k.first (sort_same source again (name_token (word_at source t)) k.first k.is); same = name_same source again t k.first k.is })

pub arguments_seen : (source again : List ℕ) {w : List Token} {all : List (Expr Word)} → SpellsArguments source w all → (v : List Token) → Looks source again v (tokens (in_parentheses (listed_parts expression all))) → Seen (SpellsArguments again) (map bare) v all
arguments_seen source again (no_arguments a b opens closes) v h =
    let k = head_of source again v (token_of OpenParenthesis) (token_of CloseParenthesis ∷ []) h in
    let z = only_of source again k.rest (token_of CloseParenthesis) k.left in
    seen_as (SpellsArguments again) (map bare) v (k.first ∷ z.first ∷ []) [] (k.whole ∙ ap (λ r. k.first ∷ r) z.whole)
    (record { tree = []; spelled = no_arguments k.first z.first (sort_same source again (token_of OpenParenthesis) k.first k.is) (sort_same source again (token_of CloseParenthesis) z.first z.is); same = refl })
arguments_seen source again (some_arguments d) v h =
    let i = listed_seen source again (IsExpression source) (IsExpression again) expression bare (expression_again source again) d v h in
    record { tree = i.tree; spelled = some_arguments i.spelled; same = i.same }

-- The sites of a program: what is found at its places.
use Rattle.std.proofs.Common.{◌≡◌, ℕ, ◌+◌, ◌<◌, Bool, true, false, List, [], ◌∷◌, ◌++◌, Option, None, map, length, take, get_or, refl, sym, ap, ◌∙◌, append_assoc}
use Rattle.std.specs.Prelude.{find, if◌then◌else◌}
use Rattle.std.proofs.lemmas.List.{map-append, take_more}
use Rattle.pc_grammar.specs.declared.expressions.Word.{Word}
use Rattle.pc_grammar.specs.declared.expressions.Expr.{Expr}
use Rattle.pc_grammar.specs.declared.statements.Stmt.{Stmt}
use Rattle.pc_grammar.specs.declared.programs.Item.{Item}
use Rattle.pc_grammar.specs.declared.programs.Item.TheVariants.{Function}
use Rattle.pc_grammar.specs.declared.roles.Role.{Role}
use Rattle.pc_grammar.specs.Uses.{Use, value_uses, statements_uses}
use Rattle.pc_grammar.specs.Places.{Place, place_of, locals_places, names_of, Found, Own, found, found_among, is_among, has_name}
use Rattle.pc_names.specs.Names.{HasNames}
use Rattle.pc_names.specs.Sites.{Site, site_of, site_with, sites_of_uses, sites_of_locals, sites_of_item}

found_own : (p : Place) → is_among p.word p.own ≡ true → found p ≡ Own
unfolding found
found_own p e = ap (λ b. if b then Own else found_among (find (has_name p.word) p.before)) e

found_item : (p : Place) → is_among p.word p.own ≡ false → found p ≡ found_among (find (has_name p.word) p.before)
unfolding found
found_item p e = ap (λ b. if b then Own else found_among (find (has_name p.word) p.before)) e

abbrev with_found : Place → Found → Site
with_found p f = record { role = p.role; word = p.word; found = f }

module _ (before : List Item) (own : List Word) (u : Use Word) (role : Role) (word : Word) where
  pub site_own : role ≡ u.role → word ≡ u.word → is_among u.word own ≡ true → site_with role word true None ≡ site_of (place_of before own u)
  site_own r w e = ap (λ x. site_with x word true None) r ∙ ap (λ x. site_with u.role x true None) w ∙ ap (with_found (place_of before own u)) (sym (found_own (place_of before own u) e))

  pub site_item : (item : Option Item) → role ≡ u.role → word ≡ u.word → is_among u.word own ≡ false → item ≡ find (has_name u.word) before → site_with role word false item ≡ site_of (place_of before own u)
  site_item item r w e i = ap (λ x. site_with x word false item) r ∙ ap (λ x. site_with u.role x false item) w ∙ ap (λ x. site_with u.role u.word false x) i ∙ ap (with_found (place_of before own u)) (sym (found_item (place_of before own u) e))

map-site : (before : List Item) (own : List Word) (uses : List (Use Word)) → map site_of (map (place_of before own) uses) ≡ sites_of_uses before own uses
map-site before own [] = refl
map-site before own (u ∷ uses) = ap (λ rest. site_of (place_of before own u) ∷ rest) (map-site before own uses)

pub locals_step : (before : List Item) (own : List Word) (p : Word × Option (Expr Word)) (rest : List (Word × Option (Expr Word))) → sites_of_locals before own (p ∷ rest) ≡ sites_of_uses before own (value_uses p.1) ++ sites_of_locals before (own ++ p.0 ∷ []) rest
locals_step before own p rest =
    map-append site_of (map (place_of before own) (value_uses p.1)) (locals_places before (own ++ p.0 ∷ []) rest)
    ∙ ap (λ sites. sites ++ sites_of_locals before (own ++ p.0 ∷ []) rest) (map-site before own (value_uses p.1))

-- what a loop over locals keeps
pub locals_kept : (before : List Item) (own grown : List Word) (p : Word × Option (Expr Word)) (rest locals : List (Word × Option (Expr Word))) (now new all : List Site) → locals ≡ p ∷ rest →
    new ≡ now ++ sites_of_uses before own (value_uses p.1) → grown ≡ own ++ p.0 ∷ [] → now ++ sites_of_locals before own locals ≡ all → new ++ sites_of_locals before grown rest ≡ all
locals_kept before own grown p rest locals now new all is added known kept =
    ap (λ xs. xs ++ sites_of_locals before grown rest) added
    ∙ ap (λ ws. (now ++ sites_of_uses before own (value_uses p.1)) ++ sites_of_locals before ws rest) known
    ∙ append_assoc now (sites_of_uses before own (value_uses p.1)) (sites_of_locals before (own ++ p.0 ∷ []) rest)
    ∙ ap (λ xs. now ++ xs) (sym (locals_step before own p rest))
    ∙ ap (λ ls. now ++ sites_of_locals before own ls) (sym is)
    ∙ kept

-- the names that are known behind one more local
pub names_more : (parameters : List Word) (locals : List (Word × Option (Expr Word))) (i : ℕ) (p : Word × Option (Expr Word)) → i < length locals → p ≡ get_or locals i p →
    parameters ++ names_of (take (i + 1) locals) ≡ (parameters ++ names_of (take i locals)) ++ p.0 ∷ []
names_more parameters locals i p inside is =
    ap (λ ls. parameters ++ names_of ls) (take_more locals i p inside ∙ ap (λ q. take i locals ++ q ∷ []) (sym is))
    ∙ ap (λ ws. parameters ++ ws) (map-append (λ q. q.0) (take i locals) (p ∷ []))
    ∙ sym (append_assoc parameters (names_of (take i locals)) (p.0 ∷ []))

-- a set of the names serves as well as the words
same_found : (before : List Item) (names words : List Word) (u : Use Word) → HasNames names words → found (place_of before names u) ≡ found (place_of before words u)
unfolding found
same_found before names words u has = ap (λ b. if b then Own else found_among (find (has_name u.word) before)) (has u.word)

pub same_sites : (before : List Item) (names words : List Word) (uses : List (Use Word)) → HasNames names words → sites_of_uses before names uses ≡ sites_of_uses before words uses
same_sites before names words [] has = refl
same_sites before names words (u ∷ uses) has =
    ap (λ f. with_found (place_of before words u) f ∷ sites_of_uses before names uses) (same_found before names words u has)
    ∙ ap (λ sites. site_of (place_of before words u) ∷ sites) (same_sites before names words uses has)

pub function_sites : (before : List Item) (name : Word) (gives : Bool) (parameters : List Word) (locals : List (Word × Option (Expr Word))) (body : List (Stmt Word)) (result : Option (Expr Word)) →
    sites_of_item before (Function name gives parameters locals body result) ≡ sites_of_locals before parameters locals ++ sites_of_uses before (parameters ++ names_of locals) (statements_uses body ++ value_uses result)
function_sites before name gives parameters locals body result =
    map-append site_of (locals_places before parameters locals) (map (place_of before (parameters ++ names_of locals)) (statements_uses body ++ value_uses result))
    ∙ ap (λ sites. sites_of_locals before parameters locals ++ sites) (map-site before (parameters ++ names_of locals) (statements_uses body ++ value_uses result))

-- what the walk over a function adds
pub item_added : (before : List Item) (item : Item) (name : Word) (gives : Bool) (parameters : List Word) (locals : List (Word × Option (Expr Word))) (body : List (Stmt Word)) (result : Option (Expr Word)) (old middle new : List Site) →
    item ≡ Function name gives parameters locals body result → middle ≡ old ++ sites_of_locals before parameters locals →
    new ≡ middle ++ sites_of_uses before (parameters ++ names_of locals) (statements_uses body ++ value_uses result) → new ≡ old ++ sites_of_item before item
item_added before item name gives parameters locals body result old middle new is first second =
    second
    ∙ ap (λ xs. xs ++ sites_of_uses before (parameters ++ names_of locals) (statements_uses body ++ value_uses result)) first
    ∙ append_assoc old (sites_of_locals before parameters locals) (sites_of_uses before (parameters ++ names_of locals) (statements_uses body ++ value_uses result))
    ∙ ap (λ xs. old ++ xs) (sym (function_sites before name gives parameters locals body result))
    ∙ ap (λ i. old ++ sites_of_item before i) (sym is)

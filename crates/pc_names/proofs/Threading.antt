-- Which names are threads.
use Rattle.std.proofs.Common.{◌≡◌, Bool, true, false, ◌||◌, ◌&&◌, List, [], ◌∷◌, Option, None, Some, map, refl, sym, ap, ◌∙◌}
use Rattle.std.specs.Prelude.{not, find, if◌then◌else◌}
use Rattle.std.specs.List.{list_any}
use Rattle.std.proofs.lemmas.List.Folds.{list_any-append}
use Rattle.pc_grammar.specs.declared.expressions.Word.{Word}
use Rattle.pc_grammar.specs.declared.programs.Item.{Item}
use Rattle.pc_grammar.specs.Places.{Place, places, Own, found, found_among, same_text, is_among, has_name, is_start, starts, is_main, is_thread}
use Rattle.pc_names.specs.Sites.{site_of, sites_of}
use Rattle.pc_names.specs.Started.{is_own, one_if, started_items}

own_test : (b : Bool) (o : Option Item) → is_own (if b then Own else found_among o) ≡ b
own_test true o = refl
own_test false None = refl
own_test false (Some i) = refl

pub is_own-found : (p : Place) → is_own (found p) ≡ is_among p.word p.own
unfolding found
is_own-found p = own_test (is_among p.word p.own) (find (has_name p.word) p.before)

one_test : (a m n : Bool) (name w : Word) → same_text name w ≡ m → (a && (m && n)) ≡ list_any (same_text name) (one_if (a && n) w)
one_test false m n name w e = refl
one_test true true true name w e = sym (ap (λ b. b || false) e)
one_test true false true name w e = sym (ap (λ b. b || false) e)
one_test true true false name w e = refl
one_test true false false name w e = refl

starts-is : (name : Word) (p : Place) → starts name p ≡ list_any (same_text name) (one_if (is_start p.role && not (is_own (found p))) p.word)
starts-is name p =
    one_test (is_start p.role) (same_text name p.word) (not (is_among p.word p.own)) name p.word refl
    ∙ ap (λ b. list_any (same_text name) (one_if (is_start p.role && not b) p.word)) (sym (is_own-found p))

any_started : (name : Word) (ps : List Place) → list_any (starts name) ps ≡ list_any (same_text name) (started_items (map site_of ps))
any_started name [] = refl
any_started name (p ∷ ps) =
    ap (λ b. b || list_any (starts name) ps) (starts-is name p)
    ∙ ap (λ b. list_any (same_text name) (one_if (is_start p.role && not (is_own (found p))) p.word) || b) (any_started name ps)
    ∙ sym (list_any-append (same_text name) (one_if (is_start p.role && not (is_own (found p))) p.word) (started_items (map site_of ps)))

thread-is : (items : List Item) (name : Word) → is_thread items name ≡ (is_main name || is_among name (started_items (sites_of items)))
unfolding is_thread
thread-is items name = ap (λ b. is_main name || b) (any_started name (places items))

pub main_is_thread : (items : List Item) (name : Word) → is_main name ≡ true → true ≡ is_thread items name
main_is_thread items name e = sym (thread-is items name ∙ ap (λ b. b || is_among name (started_items (sites_of items))) e)

pub other_is_thread : (items : List Item) (name : Word) → is_main name ≡ false → is_among name (started_items (sites_of items)) ≡ is_thread items name
other_is_thread items name e = sym (thread-is items name ∙ ap (λ b. b || is_among name (started_items (sites_of items))) e)

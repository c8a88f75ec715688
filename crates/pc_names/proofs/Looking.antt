-- The first item of each name, kept in a map.
use Rattle.std.proofs.Common.{◌≡◌, List, [], ◌∷◌, ◌++◌, Bool, true, false, Option, Some, None, refl, sym, ap, ◌∙◌, cond}
use Rattle.std.specs.Prelude.{find, is_some}
use Rattle.std.specs.Option.{option_map}
use Rattle.std.specs.Str.{bytes_eq}
use Rattle.std.specs.Cmp.Lexicographic.{bytes_decides}
use Rattle.pc_grammar.specs.declared.expressions.Word.{Word}
use Rattle.pc_grammar.specs.declared.programs.Item.{Item}
use Rattle.pc_grammar.specs.Places.{word_of, same_text, has_name}
use Rattle.pc_names.specs.Names.{FindsItems}
use Rattle.pc_names.specs.Equal.{same_text_equiv}

same_find : (v w : Word) (items : List Item) → same_text v w ≡ true → find (has_name v) items ≡ find (has_name w) items
same_find v w items e = ap (λ t. find (λ i. bytes_eq t (word_of i).text) items) ((bytes_decides v.text w.text).0 e)

-- what is found with one more item
abbrev pushed : Option Item → Bool → Item → Option Item
pushed (Some i) b j = Some i
pushed None b j = cond b (Some j) None

find-push : (p : Item → Bool) (items : List Item) (j : Item) → find p (items ++ j ∷ []) ≡ pushed (find p items) (p j) j
find-push p [] j = refl
find-push p (i ∷ items) j = by_head (p i) (find-push p items j)
  where
    by_head : (b : Bool) → find p (items ++ j ∷ []) ≡ pushed (find p items) (p j) j → cond b (Some i) (find p (items ++ j ∷ [])) ≡ pushed (cond b (Some i) (find p items)) (p j) j
    by_head true h = refl
    by_head false h = h

there_already : (o : Option Item) (b : Bool) (j : Item) → (b ≡ true → is_some o ≡ true) → o ≡ pushed o b j
there_already (Some i) b j h = refl
there_already None false j h = refl
there_already None true j h = let e : false ≡ true = h refl in cc

-- an item of a name that is there changes nothing
pub still_finds : (look : Word → Option Item) (items : List Item) (j : Item) → FindsItems look items → is_some (look (word_of j)) ≡ true → FindsItems look (items ++ j ∷ [])
still_finds look items j finds known w =
    let same : has_name w j ≡ true → is_some (look w) ≡ true = λ e. ap is_some (finds w ∙ same_find w (word_of j) items e ∙ sym (finds (word_of j))) ∙ known in
    there_already (look w) (has_name w j) j same ∙ ap (λ o. pushed o (has_name w j) j) (finds w) ∙ sym (find-push (has_name w) items j)

newly : (o : Option Item) (b c : Bool) (j : Item) → b ≡ c → (c ≡ true → is_some o ≡ false) → cond b (Some j) o ≡ pushed o c j
newly (Some i) true c j e h = let f : true ≡ false = h (sym e) in cc
newly (Some i) false c j e h = refl
newly None true true j e h = refl
newly None true false j e h = cc
newly None false false j e h = refl
newly None false true j e h = cc

-- an item of a new name is the first of it
pub newly_finds : (look grown : Word → Option Item) (items : List Item) (j : Item) → FindsItems look items → is_some (look (word_of j)) ≡ false →
    ((w : Word) → grown w ≡ cond (same_text (word_of j) w) (Some j) (look w)) → FindsItems grown (items ++ j ∷ [])
newly_finds look grown items j finds unknown updated w =
    let fresh : has_name w j ≡ true → is_some (look w) ≡ false = λ e. ap is_some (finds w ∙ same_find w (word_of j) items e ∙ sym (finds (word_of j))) ∙ unknown in
    updated w ∙ newly (look w) (same_text (word_of j) w) (has_name w j) j (same_text_equiv.symm (word_of j) w) fresh ∙ ap (λ o. pushed o (has_name w j) j) (finds w) ∙ sym (find-push (has_name w) items j)

pub is_some-map : {A B : Type 0} (f : A → B) (o : Option A) → is_some (option_map f o) ≡ is_some o
is_some-map f None = refl
is_some-map f (Some x) = refl

pub map-cond : {A B : Type 0} (f : A → B) (b : Bool) (x : A) (o : Option A) → option_map f (cond b (Some x) o) ≡ cond b (Some (f x)) (option_map f o)
map-cond f true x o = refl
map-cond f false x o = refl

-- Each thread of a program runs in a slot of its flow.
use Rattle.std.proofs.Common.{◌≡◌, ◌⊎◌, ℕ, Bool, true, false, ◌||◌, ◌&&◌, List, [], ◌∷◌, ◌++◌, map, take, Some, inl, inr, ⊎_elim, refl, sym, ap, subst, ◌∙◌}
use Rattle.std.specs.Prelude.{Contains, filter, not, position, slice_get, unwrap_or, codes, if◌then◌else◌}
use Rattle.std.specs.List.{list_any}
use Rattle.std.proofs.lemmas.Slice.Eq.{bytes_eq-Decides}
use Rattle.pt_base.specs.declared.rules.Rule.{Rule}
use Rattle.pt_base.specs.declared.rules.Span.{Span}
use Rattle.pt_base.proofs.Elements.{in_head, in_tail, in_none, in_cases, in_right}
use Rattle.pc_grammar.specs.declared.programs.Item.{Item}
use Rattle.pc_grammar.specs.declared.programs.Item.TheVariants.{Scalar, Array, Function as FunctionItem}
use Rattle.pc_grammar.specs.declared.roles.Role.{Role}
use Rattle.pc_grammar.specs.declared.roles.Role.TheVariants.{Reads, ReadsElement, Writes, WritesElement, Calls, Starts}
use Rattle.pc_grammar.specs.declared.typed.Function.{Function}
use Rattle.pc_grammar.specs.Uses.{Use, joined}
use Rattle.pc_grammar.specs.Places.{Place, places, same_text, is_among, is_start, starts, is_main, is_thread}
use Rattle.pc_grammar.specs.Breaking.{Breaks, is_main_item}
use Rattle.pc_grammar.specs.Typing.{Typing, cell_number, functions_in, function_number, typed_item, typed_from, typing_of}
use Rattle.pc_grammar.specs.Keeping.{IsTyped}
use Rattle.pc_grammar.specs.Meant.{starts_in, function_uses, started}
use Rattle.pc_grammar.proofs.Renaming.{number_in}
use Rattle.pc_grammar.proofs.FirstPassing.{left_true, right_true, cut_any}
use Rattle.pc_grammar.proofs.Standing.{declared, numbered_place, all_placed}
use Rattle.pc_lower.proofs.Threads.{same_bytes, not_not, named, one_place, main_is, main_there}

-- ---- lists

in-map : {A B : Type 0} (f : A → B) (xs : List A) (x : A) → Contains xs x → Contains (map f xs) (f x)
in-map f [] x h = absurd (in_none x h)
in-map f (y ∷ xs) x h =
    ⊎_elim (λ same. subst (λ z. Contains (map f (y ∷ xs)) (f z)) same (in_head (f y) (map f xs))) (λ later. in_tail (f y) (f x) (map f xs) (in-map f xs x later)) (in_cases y x xs h)

starts-contain : (uses : List (Use ℕ)) (u : Use ℕ) → Contains uses u → is_start u.role ≡ true → Contains (starts_in uses) u.word
starts-contain [] u h is = absurd (in_none u h)
starts-contain (x ∷ uses) u h is =
    ⊎_elim
    (λ same. let role : is_start x.role ≡ true = ap (λ (y : Use ℕ). is_start y.role) same ∙ is in subst (λ (y : Use ℕ). Contains (starts_in (x ∷ uses)) y.word) same (here (is_start x.role) role))
    (λ later. there (is_start x.role) (starts-contain uses u later is)) (in_cases x u uses h)
  where
    here : (b : Bool) → b ≡ true → Contains (map (λ (y : Use ℕ). y.word) (if b then x ∷ filter (λ y. is_start y.role) uses else filter (λ y. is_start y.role) uses)) x.word
    here true e = in_head x.word (starts_in uses)
    here false e = absurd (cc)

    there : (b : Bool) → Contains (starts_in uses) u.word → Contains (map (λ (y : Use ℕ). y.word) (if b then x ∷ filter (λ y. is_start y.role) uses else filter (λ y. is_start y.role) uses)) u.word
    there true h = in_tail x.word u.word (starts_in uses) h
    there false h = h

abbrev first-thread : List Function → Bool
first-thread [] = false
first-thread (f ∷ fs) = f.thread

-- ---- a thread is `main`, or is started

module _ (items : List Item) (end : ℕ) (unbroken : (rule : Rule) (span : Span) → Breaks items end rule span → ⊥) where
  abbrev whole : Typing
  whole = typing_of items end

  start-word : (p : Place) → is_start p.role ≡ true → (numbered_place p).word ≡ function_number p.before p.word
  start-word p is = by p.role refl
    where
      by : (r : Role) → p.role ≡ r → (numbered_place p).word ≡ function_number p.before p.word
      by Reads e = let bad : is_start Reads ≡ true = ap is_start (sym e) ∙ is in absurd (cc)
      by ReadsElement e = let bad : is_start ReadsElement ≡ true = ap is_start (sym e) ∙ is in absurd (cc)
      by Writes e = let bad : is_start Writes ≡ true = ap is_start (sym e) ∙ is in absurd (cc)
      by WritesElement e = let bad : is_start WritesElement ≡ true = ap is_start (sym e) ∙ is in absurd (cc)
      by (Calls arguments taken) e = let bad : is_start (Calls arguments taken) ≡ true = ap is_start (sym e) ∙ is in absurd (cc)
      by Starts e = ap (λ r. number_in (cell_number p.before p.own) (function_number p.before) r p.word) e

  started-there : (p : Place) → Contains (places items) p → is_start p.role ≡ true → Contains (starts_in (joined (map function_uses (typed_from items [] items)))) (function_number p.before p.word)
  started-there p listed is =
      subst (λ uses. Contains (starts_in uses) (function_number p.before p.word)) (sym (all_placed items [] items))
      (subst (Contains (starts_in (map numbered_place (places items)))) (start-word p is)
      (starts-contain (map numbered_place (places items)) (numbered_place p) (in-map numbered_place (places items) p listed) is))

  thread-named : (i : ℕ) (f : Function) → slice_get (typed_from items [] items) i ≡ Some f → f.thread ≡ true →
      (i ≡ functions_in (take (unwrap_or (position is_main_item items) 0) items)) ⊎ Contains (starts_in (joined (map function_uses (typed_from items [] items)))) i
  unfolding is_thread
  thread-named i f at thread = let d = declared items [] items i f at in item d.before d.item d.after d.whole d.is d.number
    where
      item : (before : List Item) (x : Item) (after : List Item) → items ≡ before ++ x ∷ after → typed_item items before x ≡ f ∷ [] → i ≡ functions_in before →
          (i ≡ functions_in (take (unwrap_or (position is_main_item items) 0) items)) ⊎ Contains (starts_in (joined (map function_uses (typed_from items [] items)))) i
      item before (Scalar kind name start) after w is number = absurd (cc)
      item before (Array name size) after w is number = absurd (cc)
      item before (FunctionItem name gives parameters locals body result) after w is number = by (is_main name) refl flag
        where
          flag : (is_main name || list_any (starts name) (places items)) ≡ true
          flag = ap first-thread is ∙ thread

          by : (b : Bool) → is_main name ≡ b → (b || list_any (starts name) (places items)) ≡ true →
              (i ≡ functions_in (take (unwrap_or (position is_main_item items) 0) items)) ⊎ Contains (starts_in (joined (map function_uses (typed_from items [] items)))) i
          by true is_it e =
              let a = cut_any is_main_item items (main_there items end unbroken) in
              let m = main_is items end unbroken a.of a.cut.passes in
              let same = one_place items end unbroken before (take a.cut.number items) (FunctionItem name gives parameters locals body result) a.of after a.cut.after w a.cut.whole ((bytes_eq-Decides name.text (codes "main")).0 is_it ∙ sym m.0) in
              inl (number ∙ ap functions_in same ∙ ap (λ o. functions_in (take (unwrap_or o 0) items)) (sym a.cut.at))
          by false is_it e =
              let a = cut_any (starts name) (places items) e in
              let p = a.of in
              let listed : Contains (places items) p = subst (λ zs. Contains zs p) (sym a.cut.whole) (in_right (take a.cut.number (places items)) (p ∷ a.cut.after) p (in_head p a.cut.after)) in
              let start : is_start p.role ≡ true = left_true (is_start p.role) _ a.cut.passes in
              let both = right_true (is_start p.role) (same_text name p.word && not (is_among p.word p.own)) a.cut.passes in
              let text : name.text ≡ p.word.text = same_bytes name p.word (left_true (same_text name p.word) _ both) in
              let calm : is_among p.word p.own ≡ false = not_not _ (right_true (same_text name p.word) (not (is_among p.word p.own)) both) in
              let n = named items end unbroken p listed calm in
              let same = one_place items end unbroken before n.before (FunctionItem name gives parameters locals body result) n.item after n.after w n.whole (text ∙ n.text) in
              let is_number : function_number p.before p.word ≡ i = n.number ∙ ap functions_in (sym same) ∙ sym number in
              inr (subst (Contains (starts_in (joined (map function_uses (typed_from items [] items))))) is_number (started-there p listed start))

pub thread-started : (t : Typing) → IsTyped t → (i : ℕ) (f : Function) → slice_get t.functions i ≡ Some f → f.thread ≡ true → (i ≡ t.main) ⊎ Contains (started t) i
unfolding typing_of
thread-started t typed =
    let items : List Item = typed.program.items in
    subst (λ x. (i : ℕ) (f : Function) → slice_get x.functions i ≡ Some f → f.thread ≡ true → (i ≡ x.main) ⊎ Contains (started x) i) (sym typed.same) (thread-named items typed.program.length typed.unbroken)

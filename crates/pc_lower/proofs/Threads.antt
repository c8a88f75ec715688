-- A function that is a thread has no result.
use Rattle.std.proofs.Common.{◌≡◌, ℕ, Bool, true, false, cond, ◌||◌, ◌&&◌, List, [], ◌∷◌, ◌++◌, ◌⊎◌, inl, inr, ⊎_elim, Option, Some, None, take, refl, sym, ap, subst, ◌∙◌, append_assoc}
use Rattle.std.specs.Prelude.{Contains, find, not, codes, unwrap_or}
use Rattle.std.specs.List.{list_any}
use Rattle.std.proofs.lemmas.Slice.Eq.{bytes_eq-Decides}
use Rattle.pt_base.specs.declared.rules.Rule.{Rule}
use Rattle.pt_base.specs.declared.rules.Span.{Span}
use Rattle.pt_base.proofs.Elements.{in_head, in_tail, in_none, in_right}
use Rattle.pc_grammar.specs.declared.expressions.Word.{Word}
use Rattle.pc_grammar.specs.declared.expressions.Expr.{Expr}
use Rattle.pc_grammar.specs.declared.statements.Stmt.{Stmt}
use Rattle.pc_grammar.specs.declared.programs.Item.{Item}
use Rattle.pc_grammar.specs.declared.programs.Item.TheVariants.{Scalar, Array, Function as FunctionItem}
use Rattle.pc_grammar.specs.declared.roles.Role.{Role}
use Rattle.pc_grammar.specs.declared.roles.Role.TheVariants.{Reads, ReadsElement, Writes, WritesElement, Calls, Starts}
use Rattle.pc_grammar.specs.Places.{Place, places, item_places, Found, Own, Known, found, found_among, word_of, same_text, is_among, has_name, is_start, starts, is_main, is_thread}
use Rattle.pc_grammar.specs.Breaking.{Breaks, item_twice, unknown, wrong_kind, no_main, is_wrong, is_main_item}
use Rattle.pc_grammar.specs.Typing.{functions_in, function_number}
use Rattle.pc_grammar.proofs.FirstPassing.{left_true, right_true, is_false, any_contains, cut_found, cut_any}
use Rattle.pc_grammar.proofs.Standing.{place_stands, placed_in}

pub same_bytes : (a b : Word) → same_text a b ≡ true → a.text ≡ b.text
same_bytes a b e = (bytes_eq-Decides a.text b.text).0 e

bytes_same : (a b : Word) → a.text ≡ b.text → same_text a b ≡ true
bytes_same a b e = (bytes_eq-Decides a.text b.text).1 e

-- two places of a list are one, or one of them comes before the other
cut_cases : {A : Type 0} (b c : List A) (x y : A) (u v : List A) → b ++ x ∷ u ≡ c ++ y ∷ v → (x ≡ y) ⊎ (Contains b y ⊎ Contains c x)
cut_cases [] [] x y u v e = inl (cc)
cut_cases [] (z ∷ c) x y u v e = let same : z ≡ x = cc in inr (inr (subst (λ w. Contains (z ∷ c) w) same (in_head z c)))
cut_cases (z ∷ b) [] x y u v e = let same : z ≡ y = cc in inr (inl (subst (λ w. Contains (z ∷ b) w) same (in_head z b)))
cut_cases (z ∷ b) (w ∷ c) x y u v e =
    let rest : b ++ x ∷ u ≡ c ++ y ∷ v = cc in
    ⊎_elim (λ same. inl same) (λ other. inr (⊎_elim (λ first. inl (in_tail z y b first)) (λ second. inr (in_tail w x c second)) other)) (cut_cases b c x y u v rest)

-- and so are the lists before them
before_cases : {A : Type 0} (b c : List A) (x y : A) (u v : List A) → b ++ x ∷ u ≡ c ++ y ∷ v → (b ≡ c) ⊎ (Contains b y ⊎ Contains c x)
before_cases [] [] x y u v e = inl refl
before_cases [] (z ∷ c) x y u v e = let same : z ≡ x = cc in inr (inr (subst (λ w. Contains (z ∷ c) w) same (in_head z c)))
before_cases (z ∷ b) [] x y u v e = let same : z ≡ y = cc in inr (inl (subst (λ w. Contains (z ∷ b) w) same (in_head z b)))
before_cases (z ∷ b) (w ∷ c) x y u v e =
    let rest : b ++ x ∷ u ≡ c ++ y ∷ v = cc in
    let same : z ≡ w = cc in
    ⊎_elim (λ alike. inl (ap (λ l. z ∷ l) alike ∙ ap (λ q. q ∷ c) same)) (λ other. inr (⊎_elim (λ first. inl (in_tail z y b first)) (λ second. inr (in_tail w x c second)) other)) (before_cases b c x y u v rest)

abbrev gives_of : Item → Bool
gives_of (FunctionItem name gives parameters locals body result) = gives
gives_of _ = false

not_both : (b : Bool) → b ≡ true → b ≡ false → ⊥
not_both true e f = cc
not_both false e f = cc

pub not_not : (b : Bool) → not b ≡ true → b ≡ false
not_not true e = absurd (cc)
not_not false e = refl

module _ (items : List Item) (end : ℕ) (unbroken : (rule : Rule) (span : Span) → Breaks items end rule span → ⊥) where
  -- no two items have one name
  one_item : (b c : List Item) (x y : Item) (u v : List Item) → items ≡ b ++ x ∷ u → items ≡ c ++ y ∷ v → (word_of x).text ≡ (word_of y).text → x ≡ y
  one_item b c x y u v is_x is_y same =
      ⊎_elim (λ e. e)
      (λ other. absurd (⊎_elim
      (λ first. unbroken _ _ (item_twice b u x is_x (any_contains (has_name (word_of x)) b y first (bytes_same (word_of x) (word_of y) same))))
      (λ second. unbroken _ _ (item_twice c v y is_y (any_contains (has_name (word_of y)) c x second (bytes_same (word_of y) (word_of x) (sym same)))))
      other))
      (cut_cases b c x y u v (sym is_x ∙ is_y))

  -- and so it stands in one place
  pub one_place : (b c : List Item) (x y : Item) (u v : List Item) → items ≡ b ++ x ∷ u → items ≡ c ++ y ∷ v → (word_of x).text ≡ (word_of y).text → b ≡ c
  one_place b c x y u v is_x is_y same =
      ⊎_elim (λ e. e)
      (λ other. absurd (⊎_elim
      (λ first. unbroken _ _ (item_twice b u x is_x (any_contains (has_name (word_of x)) b y first (bytes_same (word_of x) (word_of y) same))))
      (λ second. unbroken _ _ (item_twice c v y is_y (any_contains (has_name (word_of y)) c x second (bytes_same (word_of y) (word_of x) (sym same)))))
      other))
      (before_cases b c x y u v (sym is_x ∙ is_y))

  pub main_is : (x : Item) → is_main_item x ≡ true → ((word_of x).text ≡ codes "main") × (gives_of x ≡ false)
  main_is (Scalar kind name start) e = absurd (cc)
  main_is (Array name size) e = absurd (cc)
  main_is (FunctionItem name true parameters locals body result) e = absurd (cc)
  main_is (FunctionItem name false (w ∷ parameters) locals body result) e = absurd (cc)
  main_is (FunctionItem name false [] locals body result) e = ((bytes_eq-Decides name.text (codes "main")).0 e, refl)

  right_kind : (p : Place) (x : Found) → Contains (places items) p → found p ≡ x → is_wrong items p.role x ≡ false
  right_kind p x h e = ap (is_wrong items p.role) (sym e) ∙ is_false _ (λ w. unbroken _ _ (wrong_kind p h w))

  -- what a `PAR` names has no result
  started_plain : (p : Place) (x : Item) → Contains (places items) p → is_start p.role ≡ true → found p ≡ Known x → gives_of x ≡ false
  unfolding is_wrong
  started_plain p x h start e = by p.role refl x (right_kind p (Known x) h e)
    where
      by : (role : Role) → p.role ≡ role → (y : Item) → is_wrong items p.role (Known y) ≡ false → gives_of y ≡ false
      by Reads is y calm = let bad : is_start Reads ≡ true = ap is_start (sym is) ∙ start in absurd (cc)
      by ReadsElement is y calm = let bad : is_start ReadsElement ≡ true = ap is_start (sym is) ∙ start in absurd (cc)
      by Writes is y calm = let bad : is_start Writes ≡ true = ap is_start (sym is) ∙ start in absurd (cc)
      by WritesElement is y calm = let bad : is_start WritesElement ≡ true = ap is_start (sym is) ∙ start in absurd (cc)
      by (Calls arguments taken) is y calm = let bad : is_start (Calls arguments taken) ≡ true = ap is_start (sym is) ∙ start in absurd (cc)
      by Starts is (Scalar kind name begin) calm = refl
      by Starts is (Array name size) calm = refl
      by Starts is (FunctionItem name true parameters locals body result) calm =
          let bad : is_wrong items Starts (Known (FunctionItem name true parameters locals body result)) ≡ false = ap (λ r. is_wrong items r (Known (FunctionItem name true parameters locals body result))) (sym is) ∙ calm in absurd (cc)
      by Starts is (FunctionItem name false parameters locals body result) calm = refl

  -- the item that a place names stands in the program
  pub record Named (p : Place) : Type 0 where
    pub item : Item
    pub before : List Item
    pub after : List Item
    pub whole : items ≡ before ++ item ∷ after
    pub text : p.word.text ≡ (word_of item).text
    pub is : found p ≡ Known item
    pub number : function_number p.before p.word ≡ functions_in before

  pub named : (p : Place) → Contains (places items) p → is_among p.word p.own ≡ false → Named p
  unfolding found function_number
  named p h calm = by (find (has_name p.word) p.before) refl
    where
      found_is : (o : Option Item) → find (has_name p.word) p.before ≡ o → found p ≡ found_among o
      found_is o e = ap (λ b. cond b Own (found_among (find (has_name p.word) p.before))) calm ∙ ap found_among e

      prefix : (before : List Item) (x : Item) (after : List Item) → items ≡ before ++ x ∷ after → Contains (item_places before x) p → (rest : List Item) × (items ≡ p.before ++ rest)
      prefix before (Scalar kind name start) after w inside = absurd (in_none p inside)
      prefix before (Array name size) after w inside = absurd (in_none p inside)
      prefix before (FunctionItem name gives parameters locals body result) after w inside =
          let x : Item = FunctionItem name gives parameters locals body result in
          let s = place_stands before name gives parameters locals body result p inside in
          (x ∷ after, w ∙ ap (λ zs. zs ++ x ∷ after) (sym s.before_is))

      by : (o : Option Item) → find (has_name p.word) p.before ≡ o → Named p
      by None e = absurd (unbroken _ _ (unknown p h (found_is None e)))
      by (Some x) e =
          let c = cut_found (has_name p.word) p.before x e in
          let d = placed_in [] items p h in
          let r = prefix d.before d.item d.after d.whole d.placed in
          record {
            item = x;
            before = take c.number p.before;
            after = c.after ++ r.0;
            whole = r.1 ∙ ap (λ zs. zs ++ r.0) c.whole ∙ append_assoc (take c.number p.before) (x ∷ c.after) r.0;
            text = same_bytes p.word (word_of x) c.passes;
            is = found_is (Some x) e;
            number = ap (λ o. functions_in (take (unwrap_or o 0) p.before)) c.at;
          }

  pub main_there : list_any is_main_item items ≡ true
  main_there = truth (list_any is_main_item items) (λ e. unbroken _ _ (no_main e))
    where
      truth : (b : Bool) → (b ≡ false → ⊥) → b ≡ true
      truth true h = refl
      truth false h = absurd (h refl)

  pub thread_plain : (before : List Item) (name : Word) (gives : Bool) (parameters : List Word) (locals : List (Word × Option (Expr Word))) (body : List (Stmt Word)) (result : Option (Expr Word)) (after : List Item) →
      items ≡ before ++ FunctionItem name gives parameters locals body result ∷ after → is_thread items name ≡ true → gives ≡ false
  unfolding is_thread
  thread_plain before name gives parameters locals body result after whole thread = by (is_main name) refl thread
    where
      by : (b : Bool) → is_main name ≡ b → (b || list_any (starts name) (places items)) ≡ true → gives ≡ false
      by true is_it e =
          let a = cut_any is_main_item items main_there in
          let m = main_is a.of a.cut.passes in
          let same = one_item before (take a.cut.number items) (FunctionItem name gives parameters locals body result) a.of after a.cut.after whole a.cut.whole ((bytes_eq-Decides name.text (codes "main")).0 is_it ∙ sym m.0) in
          ap gives_of same ∙ m.1
      by false is_it e =
          let a = cut_any (starts name) (places items) e in
          let p = a.of in
          let listed : Contains (places items) p = subst (λ zs. Contains zs p) (sym a.cut.whole) (in_right (take a.cut.number (places items)) (p ∷ a.cut.after) p (in_head p a.cut.after)) in
          let start : is_start p.role ≡ true = left_true (is_start p.role) _ a.cut.passes in
          let both = right_true (is_start p.role) (same_text name p.word && not (is_among p.word p.own)) a.cut.passes in
          let text : name.text ≡ p.word.text = same_bytes name p.word (left_true (same_text name p.word) _ both) in
          let calm : is_among p.word p.own ≡ false = not_not _ (right_true (same_text name p.word) (not (is_among p.word p.own)) both) in
          let n = named p listed calm in
          let same = one_item before n.before (FunctionItem name gives parameters locals body result) n.item after n.after whole n.whole (text ∙ n.text) in
          ap gives_of same ∙ started_plain p n.item listed start n.is

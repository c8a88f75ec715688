-- The first element of a list that passes a test, and those before it; elements of lists and truths.
use Rattle.std.proofs.Common.{◌≡◌, ℕ, zero, suc, ◌+◌, ◌<◌, Bool, true, false, ◌||◌, ◌&&◌, cond, List, [], ◌∷◌, ◌++◌, ◌⊎◌, inl, inr, ⊎_elim, Option, Some, None, map, length, take, refl, sym, ap, subst, ◌∙◌, arith}
use Rattle.std.specs.Prelude.{Contains, find, filter, not, position, slice_get, is_some}
use Rattle.std.specs.List.{list_any}
use Rattle.std.specs.Option.{option_map}
use Rattle.pt_base.proofs.Elements.{in_head, in_tail, in_cases, in_none}
use Rattle.pc_grammar.proofs.Lists.{position-cons, is_some-position}

-- ---- truths

pub left_true : (a b : Bool) → (a && b) ≡ true → a ≡ true
left_true true b e = refl
left_true false b e = e

pub right_true : (a b : Bool) → (a && b) ≡ true → b ≡ true
right_true true b e = e
right_true false b e = absurd (cc)

pub both_true : (a b : Bool) → a ≡ true → b ≡ true → (a && b) ≡ true
both_true true b e f = f
both_true false b e f = absurd (cc)

pub is_false : (b : Bool) → (b ≡ true → ⊥) → b ≡ false
is_false true impossible = absurd (impossible refl)
is_false false impossible = refl

pub or_left : (a b : Bool) → a ≡ true → (a || b) ≡ true
or_left true b e = refl
or_left false b e = absurd (cc)

pub or_right : (a b : Bool) → b ≡ true → (a || b) ≡ true
or_right true b e = refl
or_right false b e = e

-- ---- elements

pub any_contains : {A : Type 0} (p : A → Bool) (xs : List A) (x : A) → Contains xs x → p x ≡ true → list_any p xs ≡ true
any_contains p [] x h e = absurd (in_none x h)
any_contains p (y ∷ xs) x h e =
    ⊎_elim
    (λ is. or_left (p y) (list_any p xs) (ap p is ∙ e))
    (λ later. or_right (p y) (list_any p xs) (any_contains p xs x later e))
    (in_cases y x xs h)

-- an element of a list that a function gives
pub record Given {A B : Type 0} (f : A → B) (xs : List A) (y : B) : Type 0 where
  pub of : A
  pub listed : Contains xs of
  pub is : f of ≡ y

pub in_map : {A B : Type 0} (f : A → B) (xs : List A) (y : B) → Contains (map f xs) y → Given f xs y
in_map f [] y h = absurd (in_none y h)
in_map f (x ∷ xs) y h =
    ⊎_elim
    (λ is. record { of = x; listed = in_head x xs; is = is })
    (λ later. let g = in_map f xs y later in record { of = g.of; listed = in_tail x g.of xs g.listed; is = g.is })
    (in_cases (f x) y (map f xs) h)

filtered : {A : Type 0} (p : A → Bool) (y : A) (xs : List A) (x : A) (b : Bool) → p y ≡ b → Contains (cond b (y ∷ filter p xs) (filter p xs)) x → (Contains (filter p xs) x → Contains xs x × (p x ≡ true)) → Contains (y ∷ xs) x × (p x ≡ true)
filtered p y xs x true e h below =
    ⊎_elim
    (λ is. (subst (λ z. Contains (y ∷ xs) z) is (in_head y xs), ap p (sym is) ∙ e))
    (λ later. let g = below later in (in_tail y x xs g.0, g.1))
    (in_cases y x (filter p xs) h)
filtered p y xs x false e h below = let g = below h in (in_tail y x xs g.0, g.1)

pub in_filter : {A : Type 0} (p : A → Bool) (xs : List A) (x : A) → Contains (filter p xs) x → Contains xs x × (p x ≡ true)
in_filter p [] x h = absurd (in_none x h)
in_filter p (y ∷ xs) x h = filtered p y xs x (p y) refl h (λ later. in_filter p xs x later)

-- ---- elements by number

pub get_left : {A : Type 0} (xs ys : List A) (k : ℕ) (x : A) → slice_get xs k ≡ Some x → slice_get (xs ++ ys) k ≡ Some x
get_left [] ys k x h = absurd (cc)
get_left (y ∷ xs) ys zero x h = h
get_left (y ∷ xs) ys (suc k) x h = get_left xs ys k x h

pub get_right : {A : Type 0} (xs ys : List A) (k : ℕ) → slice_get (xs ++ ys) (length xs + k) ≡ slice_get ys k
get_right [] ys k = let e : 0 + k ≡ k = omega arith in ap (slice_get ys) e
get_right (x ∷ xs) ys k = let e : suc (length xs) + k ≡ suc (length xs + k) = omega arith in ap (slice_get (x ∷ (xs ++ ys))) e ∙ get_right xs ys k

pub get_seam : {A : Type 0} (xs ys : List A) (x : A) → slice_get (xs ++ x ∷ ys) (length xs) ≡ Some x
get_seam [] ys x = refl
get_seam (y ∷ xs) ys x = get_seam xs ys x

pub contains_get : {A : Type 0} (xs : List A) (k : ℕ) (x : A) → slice_get xs k ≡ Some x → Contains xs x
contains_get [] k x h = absurd (cc)
contains_get (y ∷ xs) zero x h = let e : y ≡ x = cc in subst (λ z. Contains (y ∷ xs) z) e (in_head y xs)
contains_get (y ∷ xs) (suc k) x h = in_tail y x xs (contains_get xs k x h)

-- ---- the first that passes

pub record Cut {A : Type 0} (p : A → Bool) (xs : List A) (x : A) : Type 0 where
  pub number : ℕ
  pub at : position p xs ≡ Some number
  pub after : List A
  pub whole : xs ≡ take number xs ++ x ∷ after
  pub counted : length (take number xs) ≡ number
  pub passes : p x ≡ true

cut_here : {A : Type 0} (p : A → Bool) (y : A) (xs : List A) → p y ≡ true → Cut p (y ∷ xs) y
cut_here p y xs e = record { number = 0; at = position-cons p y xs ∙ ap (λ t. cond t (Some 0) (option_map suc (position p xs))) e; after = xs; whole = refl; counted = refl; passes = e }

cut_later : {A : Type 0} (p : A → Bool) (y x : A) (xs : List A) → p y ≡ false → Cut p xs x → Cut p (y ∷ xs) x
cut_later p y x xs e c = record {
  number = suc c.number;
  at = position-cons p y xs ∙ ap (λ t. cond t (Some 0) (option_map suc (position p xs))) e ∙ ap (option_map suc) c.at;
  after = c.after;
  whole = ap (λ zs. y ∷ zs) c.whole;
  counted = ap suc c.counted;
  passes = c.passes;
}

same_some : {A : Type 0} (x y : A) → Some x ≡ Some y → x ≡ y
same_some x y e = cc

cut_by_head : {A : Type 0} (p : A → Bool) (y : A) (xs : List A) (x : A) (b : Bool) → p y ≡ b → cond b (Some y) (find p xs) ≡ Some x → (find p xs ≡ Some x → Cut p xs x) → Cut p (y ∷ xs) x
cut_by_head p y xs x true e h below = subst (λ z. Cut p (y ∷ xs) z) (same_some y x h) (cut_here p y xs e)
cut_by_head p y xs x false e h below = cut_later p y x xs e (below h)

pub cut_found : {A : Type 0} (p : A → Bool) (xs : List A) (x : A) → find p xs ≡ Some x → Cut p xs x
cut_found p [] x h = absurd (cc)
cut_found p (y ∷ xs) x h = cut_by_head p y xs x (p y) refl h (λ below. cut_found p xs x below)

pub record Any {A : Type 0} (p : A → Bool) (xs : List A) : Type 0 where
  pub of : A
  pub cut : Cut p xs of

any_by_head : {A : Type 0} (p : A → Bool) (y : A) (xs : List A) (b : Bool) → p y ≡ b → (b || list_any p xs) ≡ true → (list_any p xs ≡ true → Any p xs) → Any p (y ∷ xs)
any_by_head p y xs true e h below = record { of = y; cut = cut_here p y xs e }
any_by_head p y xs false e h below = let a = below h in record { of = a.of; cut = cut_later p y a.of xs e a.cut }

pub cut_any : {A : Type 0} (p : A → Bool) (xs : List A) → list_any p xs ≡ true → Any p xs
cut_any p [] h = absurd (cc)
cut_any p (y ∷ xs) h = any_by_head p y xs (p y) refl h (λ below. cut_any p xs below)

no_some : {A : Type 0} (o : Option A) → is_some o ≡ false → o ≡ None
no_some None e = refl
no_some (Some x) e = absurd (cc)

pub cut_none : {A : Type 0} (p : A → Bool) (xs : List A) → list_any p xs ≡ false → position p xs ≡ None
cut_none p xs e = no_some (position p xs) (is_some-position p xs ∙ e)

-- ---- an element of the filtered list, and its place in the list

pub record Split {A : Type 0} (g : A → ℕ) (p : A → Bool) (xs : List A) (before : List ℕ) (n : ℕ) : Type 0 where
  pub front : List A
  pub of : A
  pub back : List A
  pub whole : xs ≡ front ++ of ∷ back
  pub passes : p of ≡ true
  pub is : g of ≡ n
  pub before_is : before ≡ map g (filter p front)

module _ {A : Type 0} (g : A → ℕ) (p : A → Bool) where
  dropped : (y : A) (xs : List A) (before : List ℕ) (n : ℕ) → p y ≡ false → Split g p xs before n → Split g p (y ∷ xs) before n
  dropped y xs before n e s = record {
    front = y ∷ s.front;
    of = s.of;
    back = s.back;
    whole = ap (λ zs. y ∷ zs) s.whole;
    passes = s.passes;
    is = s.is;
    before_is = s.before_is ∙ sym (ap (λ t. map g (cond t (y ∷ filter p s.front) (filter p s.front))) e);
  }

  kept : (y : A) (xs : List A) (before : List ℕ) (n m : ℕ) → p y ≡ true → g y ≡ m → Split g p xs before n → Split g p (y ∷ xs) (m ∷ before) n
  kept y xs before n m e same s = record {
    front = y ∷ s.front;
    of = s.of;
    back = s.back;
    whole = ap (λ zs. y ∷ zs) s.whole;
    passes = s.passes;
    is = s.is;
    before_is = ap (λ k. k ∷ before) (sym same) ∙ ap (λ zs. g y ∷ zs) s.before_is ∙ sym (ap (λ t. map g (cond t (y ∷ filter p s.front) (filter p s.front))) e);
  }

  split_kept : (y : A) (xs : List A) (before after : List ℕ) (n : ℕ) → p y ≡ true → g y ∷ map g (filter p xs) ≡ before ++ n ∷ after → ((rest : List ℕ) → map g (filter p xs) ≡ rest ++ n ∷ after → Split g p xs rest n) → Split g p (y ∷ xs) before n
  split_kept y xs [] after n e h below = let same : g y ≡ n = cc in record { front = []; of = y; back = xs; whole = refl; passes = e; is = same; before_is = refl }
  split_kept y xs (m ∷ rest) after n e h below =
      let same : g y ≡ m = cc in
      let tail : map g (filter p xs) ≡ rest ++ n ∷ after = cc in
      kept y xs rest n m e same (below rest tail)

  split_by_head : (y : A) (xs : List A) (before after : List ℕ) (n : ℕ) (b : Bool) → p y ≡ b → map g (cond b (y ∷ filter p xs) (filter p xs)) ≡ before ++ n ∷ after → ((rest : List ℕ) → map g (filter p xs) ≡ rest ++ n ∷ after → Split g p xs rest n) →
      Split g p (y ∷ xs) before n
  split_by_head y xs before after n true e h below = split_kept y xs before after n e h below
  split_by_head y xs before after n false e h below = dropped y xs before n e (below before h)

  pub split_filter : (xs : List A) (before after : List ℕ) (n : ℕ) → map g (filter p xs) ≡ before ++ n ∷ after → Split g p xs before n
  split_filter [] [] after n h = absurd (cc)
  split_filter [] (m ∷ before) after n h = absurd (cc)
  split_filter (y ∷ xs) before after n h = split_by_head y xs before after n (p y) refl h (λ rest below. split_filter xs rest after n below)

-- The lines of a certificate: which list of lines stands from a place on, and what the line of a kind with its numbers says.
use Rattle.std.proofs.Common.{◌≡◌, ◌≤◌, ◌<◌, ◌+◌, ◌++◌, ◌==◌, ◌&&◌, ℕ, zero, suc, true, List, [], ◌∷◌, map, length, is_some, slice_get, slice_index_or, Option, Some, None, refl, sym, ap, ◌∙◌, subst, inl, inr, ⊎_elim, arith}
use Rattle.std.proofs.lemmas.Bool.{or_right}
use Rattle.std.proofs.lemmas.Bool.Decides.{nat_tests}
use Rattle.std.proofs.lemmas.Option.{none-some}
use Rattle.std.specs.List.{list_all, flat_map, range_with_len}
use Rattle.pt_image.specs.Listed.{same_numbers}
use Rattle.tk_cert.specs.declared.cert.Line.{Line}
use Rattle.tk_cert.specs.declared.cert.Line.TheVariants as line
use Rattle.tk_cert.specs.declared.cert.CertParts.{CertParts}
use Rattle.tk_paths.specs.declared.view.Side.{Side}
use Rattle.tk_paths.specs.declared.view.Side.TheVariants.{ToPause, ToEnd}
use Rattle.tk_paths.specs.declared.view.View.{View}
use Rattle.tk_paths.specs.declared.view.View.TheVariants.{On, Value}
use Rattle.tk_paths.specs.Sums.{or_zero}
use Rattle.tk_paths.specs.Kinds.{line_at, is_thread, is_routine, loops_of, is_inside, same_kind}
use Rattle.tk_paths.specs.Shape.{has_number}
use Rattle.tk_paths.specs.Acceptance.{number_in, value_of, views_of, on_side}
use Rattle.tk_paths.proofs.Lists.{IsAmong}
use Rattle.tk_paths.specs.Numbers.{Kind, thread, routine, condition, Numbers, level}
use Rattle.tk_paths.specs.Numbers as numbers

-- a number is there
abbrev pub There : Option ℕ → Type 0
There o = (n : ℕ) × (o ≡ Some n)

-- the views of a kind
abbrev pub Fits : View → Kind → Type 0
Fits (On side k) (thread s a l) = k ≤ length a
Fits Value (thread s a l) = ⊥
Fits (On side k) (routine h l) = ⊥
Fits Value (routine h l) = Unit {0}
Fits (On side k) condition = ⊥
Fits Value condition = Unit {0}

-- at each level a number is there; of a routine and a condition, the number
abbrev pub IsFull : Kind → Numbers → Type 0
IsFull (thread s a l) V = (k : ℕ) → k ≤ length a → (side : Side) × There (V (On side k))
IsFull (routine h l) V = There (V Value)
IsFull condition V = There (V Value)

pub full-map : (kind : Kind) (V W : Numbers) → ((view : View) → Fits view kind → There (V view) → There (W view)) → IsFull kind V → IsFull kind W
full-map (thread s a l) V W f h = λ k w. let t = h k w in (t.0, f (On t.0 k) w t.1)
full-map (routine h l) V W f t = f Value tt t
full-map condition V W f t = f Value tt t

-- the loops of a kind, and another kind that differs in these alone
abbrev pub kind_loops : Kind → List ℕ
kind_loops (thread s a l) = l
kind_loops (routine h l) = l
kind_loops condition = []

abbrev pub with_loops : List ℕ → Kind → Kind
with_loops m (thread s a l) = thread s a m
with_loops m (routine h l) = routine h m
with_loops m condition = condition

pub numbers-same : (a : List ℕ) → same_numbers a a ≡ true
numbers-same [] = refl
numbers-same (n ∷ a) = let e : (n == n) ≡ true = grind (arith, nat_tests) in ap (λ b. b && same_numbers a a) e ∙ numbers-same a

nat-same : (n : ℕ) → (n == n) ≡ true
nat-same n = grind (arith, nat_tests)

pub own-thread : (s : ℕ) (a l : List ℕ) (v : List (Option ℕ × Option ℕ)) → is_thread s a l (line.Thread s a l v) ≡ true
own-thread s a l v = ap (λ b. b && same_numbers a a && same_numbers l l) (nat-same s) ∙ ap (λ b. b && same_numbers l l) (numbers-same a) ∙ numbers-same l

pub own-routine : (h : ℕ) (l : List ℕ) (n : ℕ) → is_routine h l (line.Routine h l n) ≡ true
own-routine h l n = ap (λ b. b && same_numbers l l) (nat-same h) ∙ numbers-same l

-- two lines of one kind, but for their loops
pub kind-inside : (kind : Kind) (V W : Numbers) (m : List ℕ) → is_inside (numbers.line kind V) m (numbers.line (with_loops m kind) W) ≡ true
kind-inside (thread s a l) V W m = own-thread s a m (map (level W) (range_with_len 0 (length a + 1)))
kind-inside (routine h l) V W m = own-routine h m (or_zero (W Value))
kind-inside condition V W m = refl

pub kind-same : (kind : Kind) (V W : Numbers) → same_kind (numbers.line kind V) (numbers.line kind W) ≡ true
kind-same (thread s a l) V W = own-thread s a l (map (level W) (range_with_len 0 (length a + 1)))
kind-same (routine h l) V W = own-routine h l (or_zero (W Value))
kind-same condition V W = refl

pub loops-line : (kind : Kind) (V : Numbers) → loops_of (numbers.line kind V) ≡ kind_loops kind
loops-line (thread s a l) V = refl
loops-line (routine h l) V = refl
loops-line condition V = refl

-- ---- numbers

pub get-level : {X : Type 0} (f : ℕ → X) (n low k i : ℕ) → k < n → low + k ≡ i → slice_get (map f (range_with_len low n)) k ≡ Some (f i)
get-level f zero low k i h e = absurd (omega (arith, h))
get-level f (suc n) low zero i h e = let z : low ≡ i = omega (arith, e) in ap (λ x. Some (f x)) z
get-level f (suc n) low (suc k) i h e = get-level f n (low + 1) k i (omega (arith, h)) (omega (arith, e))

pub range-size : (n low : ℕ) → length (range_with_len low n) ≡ n
range-size zero low = refl
range-size (suc n) low = let e = range-size n (low + 1) in omega (arith, e)

pub map-size : {X Y : Type 0} (f : X → Y) (xs : List X) → length (map f xs) ≡ length xs
map-size f [] = refl
map-size f (x ∷ xs) = let e = map-size f xs in omega (arith, e)

pub levels-size : (V : Numbers) (n : ℕ) → length (map (level V) (range_with_len 0 n)) ≡ n
levels-size V n = map-size (level V) (range_with_len 0 n) ∙ range-size n 0

side-level : (V : Numbers) (side : Side) (k : ℕ) → on_side side (Some (level V k)) ≡ V (On side k)
side-level V ToPause k = refl
side-level V ToEnd k = refl

there-zero : (o : Option ℕ) → There o → Some (or_zero o) ≡ o
there-zero None t = absurd (none-some t.0 t.1)
there-zero (Some n) t = refl

pub level-is : (s : ℕ) (a l : List ℕ) (V : Numbers) (side : Side) (k : ℕ) → k ≤ length a → number_in (On side k) (numbers.line (thread s a l) V) ≡ V (On side k)
level-is s a l V side k fit = ap (on_side side) (get-level (level V) (length a + 1) 0 k k (omega (arith, fit)) (omega arith)) ∙ side-level V side k

-- a number of a line is that of its place
pub number-is : (kind : Kind) (V : Numbers) (view : View) → Fits view kind → IsFull kind V → number_in view (numbers.line kind V) ≡ V view
number-is (thread s a l) V (On side k) fit full = level-is s a l V side k fit
number-is (thread s a l) V Value fit full = absurd fit
number-is (routine h l) V (On side k) fit full = absurd fit
number-is (routine h l) V Value fit full = there-zero (V Value) full
number-is condition V (On side k) fit full = absurd fit
number-is condition V Value fit full = there-zero (V Value) full

pub value-is : (kind : Kind) (V : Numbers) (n : ℕ) → Fits Value kind → V Value ≡ Some n → value_of (numbers.line kind V) ≡ n
value-is (thread s a l) V n fit e = absurd fit
value-is (routine h l) V n fit e = ap or_zero e
value-is condition V n fit e = ap or_zero e

-- the views of a line are those of its kind
range-among : (n low k : ℕ) → IsAmong k (range_with_len low n) → k < low + n
range-among zero low k h = absurd h
range-among (suc n) low k h = ⊎_elim (λ e. omega (arith, e)) (λ x. let r = range-among n (low + 1) k x in omega (arith, r)) h

abbrev both : ℕ → List View
both k = On ToPause k ∷ On ToEnd k ∷ []

all-views : (P : View → Type 0) (n low : ℕ) → ((side : Side) (k : ℕ) → k < low + n → P (On side k)) → (view : View) → IsAmong view (flat_map both (range_with_len low n)) → P view
all-views P zero low f view h = absurd h
all-views P (suc n) low f view h =
    ⊎_elim (λ e. subst P e (f ToPause low (omega arith)))
    (λ x. ⊎_elim (λ e. subst P e (f ToEnd low (omega arith))) (λ y. all-views P n (low + 1) (λ side k w. f side k (omega (arith, w))) view y) x) h

pub view-fits : (kind : Kind) (V : Numbers) (view : View) → IsAmong view (views_of (numbers.line kind V)) → Fits view kind
view-fits (thread s a l) V view h =
    let e = levels-size V (length a + 1) in
    let P : ℕ → Type 0 = λ n. IsAmong view (flat_map both (range_with_len 0 n)) in
    all-views (λ v. Fits v (thread s a l)) (length a + 1) 0 (λ side k w. omega (arith, w)) view (subst P e h)
view-fits (routine h l) V view (inl e) = let F : View → Type 0 = λ v. Fits v (routine h l) in subst F e tt
view-fits (routine h l) V view (inr x) = absurd x
view-fits condition V view (inl e) = let F : View → Type 0 = λ v. Fits v condition in subst F e tt
view-fits condition V view (inr x) = absurd x

-- ---- lists of lines

some-has : (o p : Option ℕ) → There o → has_number (o, p) ≡ true
some-has None p t = absurd (none-some t.0 t.1)
some-has (Some n) p t = refl

second-has : (o p : Option ℕ) → There p → has_number (o, p) ≡ true
second-has o None t = absurd (none-some t.0 t.1)
second-has o (Some n) t = or_right (is_some o) true refl

level-has : (V : Numbers) (k : ℕ) (side : Side) → There (V (On side k)) → has_number (level V k) ≡ true
level-has V k ToPause t = some-has (V (On ToPause k)) (V (On ToEnd k)) t
level-has V k ToEnd t = second-has (V (On ToPause k)) (V (On ToEnd k)) t

pub levels-full : (V : Numbers) (n low : ℕ) → ((k : ℕ) → k < low + n → (side : Side) × There (V (On side k))) → list_all has_number (map (level V) (range_with_len low n)) ≡ true
levels-full V zero low f = refl
levels-full V (suc n) low f =
    let t = f low (omega arith) in
    ap (λ b. b && list_all has_number (map (level V) (range_with_len (low + 1) n))) (level-has V low t.0 t.1)
    ∙ levels-full V n (low + 1) (λ k w. f k (omega (arith, w)))

-- equal numbers make equal lines
range-map : {X : Type 0} (f g : ℕ → X) (n low : ℕ) → ((k : ℕ) → k < low + n → f k ≡ g k) → map f (range_with_len low n) ≡ map g (range_with_len low n)
range-map f g zero low h = refl
range-map f g (suc n) low h =
    let a = h low (omega arith) in
    let b = range-map f g n (low + 1) (λ k w. h k (omega (arith, w))) in
    ap (λ x. x ∷ map f (range_with_len (low + 1) n)) a ∙ ap (λ xs. g low ∷ xs) b

pub line-same : (kind : Kind) (V W : Numbers) → ((view : View) → Fits view kind → V view ≡ W view) → numbers.line kind V ≡ numbers.line kind W
line-same (thread s a l) V W h =
    ap (line.Thread s a l)
    (range-map (level V) (level W) (length a + 1) 0
    (λ k w. let p = h (On ToPause k) (omega (arith, w)) in let e = h (On ToEnd k) (omega (arith, w)) in ap (λ x. (x, V (On ToEnd k))) p ∙ ap (λ x. (W (On ToPause k), x)) e))
line-same (routine g l) V W h = ap (λ o. line.Routine g l (or_zero o)) (h Value tt)
line-same condition V W h = ap (λ o. line.Cond (or_zero o)) (h Value tt)

module _ (cert : CertParts) where
  -- from a place on the lines are these
  abbrev pub AreAt : ℕ → List Line → Type 0
  AreAt p [] = Unit {0}
  AreAt p (x ∷ xs) = (line_at cert.lines p ≡ x) × AreAt (p + 1) xs

  pub at-left : (xs ys : List Line) (p : ℕ) → AreAt p (xs ++ ys) → AreAt p xs
  at-left [] ys p h = tt
  at-left (x ∷ xs) ys p h = (h.0, at-left xs ys (p + 1) h.1)

  pub at-right : (xs ys : List Line) (p q : ℕ) → p + length xs ≡ q → AreAt p (xs ++ ys) → AreAt q ys
  at-right [] ys p q e h = let z : p ≡ q = omega (arith, e) in let P : ℕ → Type 0 = λ x. AreAt x ys in subst P z h
  at-right (x ∷ xs) ys p q e h = at-right xs ys (p + 1) q (omega (arith, e)) h.1

index-at : {X : Type 0} (before : List X) (x : X) (xs : List X) (i : ℕ) (other : X) → length before ≡ i → slice_index_or (before ++ x ∷ xs) i other ≡ x
index-at [] x xs zero other e = refl
index-at [] x xs (suc i) other e = absurd (omega (arith, e))
index-at (y ∷ before) x xs zero other e = absurd (omega (arith, e))
index-at (y ∷ before) x xs (suc i) other e = index-at before x xs i other (omega (arith, e))

pub append-size : {X : Type 0} (xs ys : List X) → length (xs ++ ys) ≡ length xs + length ys
append-size [] ys = omega arith
append-size (x ∷ xs) ys = let e = append-size xs ys in omega (arith, e)

append-one : {X : Type 0} (xs : List X) (x : X) (ys : List X) → (xs ++ x ∷ []) ++ ys ≡ xs ++ x ∷ ys
append-one [] x ys = refl
append-one (y ∷ xs) x ys = ap (λ l. y ∷ l) (append-one xs x ys)

-- what stands behind the first lines of a certificate
pub lines-at : (cert : CertParts) (before rest : List Line) (p : ℕ) → cert.lines ≡ before ++ rest → length before ≡ p → AreAt cert p rest
lines-at cert before [] p e size = tt
lines-at cert before (x ∷ rest) p e size =
    let s = append-size before (x ∷ []) in
    (ap (λ l. line_at l p) e ∙ index-at before x rest p line.Bare size, lines-at cert (before ++ x ∷ []) rest (p + 1) (e ∙ sym (append-one before x rest)) (omega (arith, s, size)))

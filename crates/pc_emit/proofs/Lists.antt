-- Lists that stand in others from a number on.
use Rattle.std.proofs.Common.{◌≡◌, ℕ, suc, ◌+◌, ◌≤◌, List, [], ◌∷◌, ◌++◌, length, Some, slice_get, zero, append-nil, refl, sym, ap, ◌∙◌, append_assoc, length-append, arith}
use Rattle.std.specs.List.{AllByRecursion, range_with_len}

pub record IsAt {A : Type 0} (all : List A) (n : ℕ) (part : List A) : Type 0 where
  pub before : List A
  pub after : List A
  pub is : all ≡ before ++ (part ++ after)
  pub count : length before ≡ n

pub at_first : {A : Type 0} {all : List A} {n : ℕ} (p q : List A) → IsAt all n (p ++ q) → IsAt all n p
at_first p q s = record {
  before = s.before;
  after = q ++ s.after;
  is = s.is ∙ ap (λ l. s.before ++ l) (append_assoc p q s.after);
  count = s.count;
}

pub at_second : {A : Type 0} {all : List A} {n : ℕ} (p q : List A) → IsAt all n (p ++ q) → IsAt all (n + length p) q
at_second p q s = record {
  before = s.before ++ p;
  after = s.after;
  is = s.is ∙ ap (λ l. s.before ++ l) (append_assoc p q s.after) ∙ sym (append_assoc s.before p (q ++ s.after));
  count = length-append s.before p ∙ ap (λ m. m + length p) s.count;
}

pub at_whole : {A : Type 0} (all : List A) → IsAt all 0 all
at_whole all = record { before = []; after = []; is = sym (append-nil all); count = refl }

pub at_within : {A : Type 0} {all : List A} {n : ℕ} (part : List A) → IsAt all n part → n + length part ≤ length all
at_within {all = all} part s =
    let e : length all ≡ length s.before + (length part + length s.after) =
    ap length s.is ∙ length-append s.before (part ++ s.after) ∙ ap (λ m. length s.before + m) (length-append part s.after) in
    let c = s.count in
    omega arith

seam : {A : Type 0} (before : List A) (x : A) (after : List A) → slice_get (before ++ x ∷ after) (length before) ≡ Some x
seam [] x after = refl
seam (y ∷ before) x after = seam before x after

pub at_get : {A : Type 0} {all : List A} {n : ℕ} (x : A) (more : List A) → IsAt all n (x ∷ more) → slice_get all n ≡ Some x
at_get {all = all} x more s =
    ap (slice_get all) (sym s.count) ∙ ap (λ l. slice_get l (length s.before)) s.is ∙ seam s.before x (more ++ s.after)

-- what holds of each element holds of one
middle : {A : Type 0} (P : A → Type 0) (before : List A) (x : A) (after : List A) → AllByRecursion P (before ++ x ∷ after) → P x
middle P [] x after h = h.0
middle P (y ∷ before) x after h = middle P before x after h.1

pub all_append : {A : Type 0} (P : A → Type 0) (xs ys : List A) → AllByRecursion P xs → AllByRecursion P ys → AllByRecursion P (xs ++ ys)
all_append P [] ys h k = k
all_append P (x ∷ xs) ys h k = (h.0, all_append P xs ys h.1 k)

pub at_moved : {A : Type 0} {all : List A} {n m : ℕ} (part : List A) → IsAt all n part → n ≡ m → IsAt all m part
at_moved part s e = record { before = s.before; after = s.after; is = s.is; count = s.count ∙ e }

-- a number in a list that counts from a number
counts : (before : List ℕ) (a n i : ℕ) (rest : List ℕ) → range_with_len a n ≡ before ++ i ∷ rest → i ≡ a + length before
counts [] a zero i rest h = cc
counts [] a (suc n) i rest h = let e : a ≡ i = cc in omega (arith, e)
counts (x ∷ before) a zero i rest h = cc
counts (x ∷ before) a (suc n) i rest h =
    let e : range_with_len (a + 1) n ≡ before ++ i ∷ rest = cc in
    let k = counts before (a + 1) n i rest e in
    omega (arith, k)

pub counted_at : {k : ℕ} (n i : ℕ) (more : List ℕ) → IsAt (range_with_len 0 n) k (i ∷ more) → i ≡ k
counted_at n i more s = let e = counts s.before 0 n i (more ++ s.after) s.is in let c = s.count in omega (arith, e, c)

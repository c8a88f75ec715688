-- What is known of a function is what its body does, given those before it.
use Rattle.std.proofs.Common.{◌≡◌, ℕ, zero, suc, ◌+◌, ◌<◌, ◌≤◌, List, [], ◌∷◌, ◌++◌, length, take, refl, sym, ap, ◌∙◌, arith, length-append, append_assoc, append-nil}
use Rattle.std.specs.Prelude.{slice_get, unwrap_or}
use Rattle.std.proofs.lemmas.Option.{slice_get_past}
use Rattle.std.proofs.Math.Seq.{take-append_seam}
use Rattle.pc_meaning.specs.Tree.{Routine}
use Rattle.pc_meaning.specs.Outcomes.{Done}
use Rattle.pc_meaning.specs.Statements.{routine_at, Known, known_at, start_routine, starts_from, starts_of}
use Rattle.pc_meaning.proofs.Lookups.{slice_get_middle}

-- what is known grows at its end, by one entry for each function
pub record Grown (known all : Known) (count : ℕ) : Type 0 where
  pub more : Known
  pub whole : all ≡ known ++ more
  pub many : length more ≡ count

grows : (routines rest : List Routine) (known : Known) → Grown known (starts_from routines known rest) (length rest)
grows routines [] known = record { more = []; whole = sym (append-nil known); many = refl }
grows routines (r ∷ rest) known =
    let new = start_routine routines known r in
    let h = grows routines rest (known ++ new ∷ []) in
    record { more = new ∷ h.more; whole = h.whole ∙ append_assoc known (new ∷ []) h.more; many = ap suc h.many }

known_is : (routines rest : List Routine) (known : Known) (i f : ℕ) → f ≡ length known + i → i < length rest →
    known_at (starts_from routines known rest) f ≡ start_routine routines (take f (starts_from routines known rest)) (routine_at rest i)
known_is routines [] known i f at less = absurd (omega arith)
known_is routines (r ∷ rest) known zero f at less =
    let new = start_routine routines known r in
    let h = grows routines rest (known ++ new ∷ []) in
    let whole = h.whole ∙ append_assoc known (new ∷ []) h.more in
    let e : f ≡ length known = omega arith in
    let kept = ap (take f) whole ∙ ap (λ n. take n (known ++ new ∷ h.more)) e ∙ take-append_seam known (new ∷ h.more) in
    ap (λ k. known_at k f) whole
    ∙ ap (known_at (known ++ new ∷ h.more)) e
    ∙ ap (λ o. unwrap_or o Done) (slice_get_middle known new h.more)
    ∙ ap (λ k. start_routine routines k r) (sym kept)
known_is routines (r ∷ rest) known (suc i) f at less =
    let new = start_routine routines known r in
    let e = length-append known (new ∷ []) in
    known_is routines rest (known ++ new ∷ []) i f (omega (arith, e, at)) (omega arith)

-- a function does what its body does, where those before it are known
pub known_before : (routines : List Routine) (f : ℕ) → f < length routines →
    known_at (starts_of routines) f ≡ start_routine routines (take f (starts_of routines)) (routine_at routines f)
known_before routines f less = known_is routines routines [] f f (omega arith) less

pub length-starts : (routines : List Routine) → length (starts_of routines) ≡ length routines
length-starts routines = let h = grows routines routines [] in ap length h.whole ∙ h.many

-- ---- a list that is cut

slice_get-cut : {X : Type 0} (xs : List X) (n i : ℕ) → i < n → slice_get (take n xs) i ≡ slice_get xs i
slice_get-cut [] zero i less = refl
slice_get-cut [] (suc n) i less = refl
slice_get-cut (x ∷ xs) zero i less = absurd (omega arith)
slice_get-cut (x ∷ xs) (suc n) zero less = refl
slice_get-cut (x ∷ xs) (suc n) (suc i) less = slice_get-cut xs n i (omega arith)

length-cut : {X : Type 0} (xs : List X) (n : ℕ) → length (take n xs) ≤ n
length-cut [] zero = omega arith
length-cut [] (suc n) = omega arith
length-cut (x ∷ xs) zero = omega arith
length-cut (x ∷ xs) (suc n) = let h = length-cut xs n in omega arith

pub cut-whole : {X : Type 0} (xs : List X) (n : ℕ) → length xs ≡ n → take n xs ≡ xs
cut-whole [] zero is = refl
cut-whole [] (suc n) is = refl
cut-whole (x ∷ xs) zero is = absurd (omega arith)
cut-whole (x ∷ xs) (suc n) is = ap (λ l. x ∷ l) (cut-whole xs n (omega arith))

-- of the functions that are known, each does what its body does
pub cut_before : (routines : List Routine) (known f : ℕ) → f < known → known ≤ length routines →
    known_at (take known (starts_of routines)) f ≡ start_routine routines (take f (starts_of routines)) (routine_at routines f)
cut_before routines known f less few =
    ap (λ o. unwrap_or o Done) (slice_get-cut (starts_of routines) known f less) ∙ known_before routines f (omega arith)

-- and of the others nothing is known
pub cut_past : (routines : List Routine) (known f : ℕ) → known ≤ f → known_at (take known (starts_of routines)) f ≡ Done
cut_past routines known f past =
    let h = length-cut (starts_of routines) known in
    ap (λ o. unwrap_or o Done) (slice_get_past (take known (starts_of routines)) f (omega arith))

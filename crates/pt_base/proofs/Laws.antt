-- What is read at the front of a text is spelled so, and what is spelled so is read, whatever follows it.
use Rattle.std.proofs.Common.{◌≡◌, ℕ, zero, suc, Bool, true, false, cond, eqb, List, [], ◌∷◌, ◌++◌, length, Option, Some, None, refl, sym, ap, subst, ◌∙◌, ◌⊎◌, append_assoc, inl, inr}
use Rattle.std.specs.List.{AllByRecursion}
use Rattle.std.proofs.lemmas.Bool.{eqb-true, eq-eqb}
use Rattle.pt_base.specs.Spelling.{each}
use Rattle.pt_base.specs.Reading.{◌>>=◌, Reader, past_at, past_all_at, many_at}
use Rattle.pt_base.specs.Reads.{AreMany}
pub use Rattle.pt_base.specs.Reads.{Reads, Anything}

-- the value of a step that gave one
pub bind_some : {A B : Type 0} (r : Option A) (f : A → Option B) (y : B) → (r >>= f) ≡ Some y → (x : A) × (r ≡ Some x) × (f x ≡ Some y)
bind_some (Some x) f y e = (x, refl, e)
bind_some None f y e = absurd cc

abbrev pub done : {A : Type 0} → A → Option A
done x = Some x

pub some_is : {A : Type 0} (x y : A) → done x ≡ done y → x ≡ y
some_is x y e = cc

-- a test that passed
pub test_some : {A : Type 0} (b : Bool) (o : Option A) (y : A) → cond b o None ≡ Some y → (b ≡ true) × (o ≡ Some y)
test_some true o y e = (refl, e)
test_some false o y e = absurd cc

-- a test that did not pass
pub test_none : {A : Type 0} (b : Bool) (o : Option A) (y : A) → cond b None o ≡ Some y → (b ≡ false) × (o ≡ Some y)
test_none true o y e = absurd cc
test_none false o y e = (refl, e)

-- ---- bytes

pub past_found : (c : ℕ) (bytes rest : List ℕ) → past_at c bytes ≡ Some rest → bytes ≡ c ∷ rest
past_found c [] rest e = absurd cc
past_found c (b ∷ bs) rest e =
    let t = test_some (eqb b c) (Some bs) rest e in
    let s : b ≡ c = eqb-true b c t.0 in
    let r : bs ≡ rest = some_is bs rest t.1 in
    rw (s, r) refl

pub past_again : (c : ℕ) (rest : List ℕ) → past_at c (c ∷ rest) ≡ Some rest
past_again c rest = rw (eq-eqb c c refl) refl

pub past_all_found : (cs bytes rest : List ℕ) → past_all_at cs bytes ≡ Some rest → bytes ≡ cs ++ rest
past_all_found [] bytes rest e = some_is bytes rest e
past_all_found (c ∷ cs) bytes rest e =
    let b = bind_some (past_at c bytes) (λ x. past_all_at cs x) rest e in
    past_found c bytes b.0 b.1 ∙ ap (λ (t : List ℕ). c ∷ t) (past_all_found cs b.0 rest b.2)

pub past_all_again : (cs rest : List ℕ) → past_all_at cs (cs ++ rest) ≡ Some rest
past_all_again [] rest = refl
past_all_again (c ∷ cs) rest = rw (past_again c (cs ++ rest)) (past_all_again cs rest)

-- which way a test went
pub chosen : {A : Type 0} (b : Bool) (x y z : A) → cond b x y ≡ z → ((b ≡ true) × (x ≡ z)) ⊎ ((b ≡ false) × (y ≡ z))
chosen true x y z e = inl (refl, e)
chosen false x y z e = inr (refl, e)

-- ---- many values

-- values that were read, each within its range, and how they are spelled
pub many_found : {A : Type 0} (read : Reader A) (spell : A → List ℕ) (IsIn : A → Type 0) (Stops : List ℕ → Type 0) → Reads read spell IsIn Stops → (n : ℕ) (bytes : List ℕ) (xs : List A) (rest : List ℕ) → many_at read n bytes ≡ Some (xs, rest)
    → (length xs ≡ n) × AllByRecursion IsIn xs × (bytes ≡ each spell xs ++ rest)
many_found {A} read spell IsIn Stops reads zero bytes xs rest e =
    subst (λ (y : List A × List ℕ). (length y.0 ≡ 0) × AllByRecursion IsIn y.0 × (bytes ≡ each spell y.0 ++ y.1)) (some_is ([], bytes) (xs, rest) e) (refl, tt, refl)
many_found {A} read spell IsIn Stops reads (suc n) bytes xs rest e =
    let a = bind_some (read bytes) (λ first. many_at read n first.1 >>= λ others. Some (first.0 ∷ others.0, others.1)) (xs, rest) e in
    let b = bind_some (many_at read n a.0.1) (λ others. Some (a.0.0 ∷ others.0, others.1)) (xs, rest) a.2 in
    let first = reads.found bytes a.0.0 a.0.1 a.1 in
    let second = many_found read spell IsIn Stops reads n a.0.1 b.0.0 b.0.1 b.1 in
    let both : bytes ≡ (spell a.0.0 ++ each spell b.0.0) ++ b.0.1 = first.1 ∙ ap (λ (t : List ℕ). spell a.0.0 ++ t) second.2 ∙ sym (append_assoc (spell a.0.0) (each spell b.0.0) b.0.1) in
    subst (λ (y : List A × List ℕ). (length y.0 ≡ suc n) × AllByRecursion IsIn y.0 × (bytes ≡ each spell y.0 ++ y.1)) (some_is (a.0.0 ∷ b.0.0, b.0.1) (xs, rest) b.2) (ap suc second.0, (first.0, second.1), both)

stops_each : {A : Type 0} (spell : A → List ℕ) (Stops : List ℕ → Type 0) → ((x : A) (rest : List ℕ) → Stops (spell x ++ rest)) → (xs : List A) (rest : List ℕ) → Stops rest → Stops (each spell xs ++ rest)
stops_each spell Stops begins [] rest s = s
stops_each spell Stops begins (x ∷ xs) rest s = rw append_assoc (begins x (each spell xs ++ rest))

-- values that are spelled one after another are read, where the spelling of each stops the one before
pub many_again : {A : Type 0} (read : Reader A) (spell : A → List ℕ) (IsIn : A → Type 0) (Stops : List ℕ → Type 0) → Reads read spell IsIn Stops → ((x : A) (rest : List ℕ) → Stops (spell x ++ rest)) → (xs : List A) (rest : List ℕ) → AllByRecursion IsIn xs → Stops rest
    → many_at read (length xs) (each spell xs ++ rest) ≡ Some (xs, rest)
many_again {A} read spell IsIn Stops reads begins [] rest all s = refl
many_again {A} read spell IsIn Stops reads begins (x ∷ xs) rest all s =
    let e = append_assoc (spell x) (each spell xs) rest in
    ap (many_at read (suc (length xs))) e ∙ rw (reads.again x (each spell xs ++ rest) all.0 (stops_each spell Stops begins xs rest s), many_again read spell IsIn Stops reads begins xs rest all.1 s) refl

pub many_read : {A : Type 0} (read : Reader A) (spell : A → List ℕ) (IsIn : A → Type 0) → Reads read spell IsIn Anything → (n : ℕ) → Reads (many_at read n) (each spell) (AreMany n IsIn) Anything
many_read read spell IsIn reads n =
    record {
      found = λ bytes xs rest e. let f = many_found read spell IsIn Anything reads n bytes xs rest e in ((f.0, f.1), f.2);
      again = λ xs rest are stop. subst (λ k. many_at read k (each spell xs ++ rest) ≡ Some (xs, rest)) are.0 (many_again read spell IsIn Anything reads (λ x r. tt) xs rest are.1 tt);
    }

-- so many values are read
pub many_length : {A : Type 0} (read : Reader A) (n : ℕ) (bytes : List ℕ) (xs : List A) (rest : List ℕ) → many_at read n bytes ≡ Some (xs, rest) → length xs ≡ n
many_length {A} read zero bytes xs rest e =
    subst (λ (y : List A × List ℕ). length y.0 ≡ 0) (some_is ([], bytes) (xs, rest) e) refl
many_length {A} read (suc n) bytes xs rest e =
    let a = bind_some (read bytes) (λ first. many_at read n first.1 >>= λ others. Some (first.0 ∷ others.0, others.1)) (xs, rest) e in
    let b = bind_some (many_at read n a.0.1) (λ others. Some (a.0.0 ∷ others.0, others.1)) (xs, rest) a.2 in
    subst (λ (y : List A × List ℕ). length y.0 ≡ suc n) (some_is (a.0.0 ∷ b.0.0, b.0.1) (xs, rest) b.2) (ap suc (many_length read n a.0.1 b.0.0 b.0.1 b.1))

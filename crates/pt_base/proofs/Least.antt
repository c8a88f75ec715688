-- What was found first is the least of what was noted, and nothing was found where nothing was noted.
use Rattle.std.proofs.Common.{◌≡◌, ℕ, ◌<◌, ◌≤◌, Bool, true, false, ◌&&◌, ◌||◌, List, [], ◌∷◌, Some, None, ◌⊎◌, inl, inr, ⊎_elim, refl, sym, ap, subst, ◌∙◌, arith}
use Rattle.std.specs.Prelude.{Contains, nat_lt, nat_eq}
use Rattle.pt_base.specs.declared.rules.Rule.{Rule}
use Rattle.pt_base.specs.declared.rules.Span.{Span}
use Rattle.pt_base.specs.First.{number_of, ComesFirst, earlier, here, IsFirst, Fault, comes_before, sooner_of, sooner, first_of, fault_if}
use Rattle.pt_base.proofs.Elements.{in_head, in_tail, in_cases, in_none}

-- ---- a fault or none

pub fault_in : (b : Bool) (f : Fault) → b ≡ true → Contains (fault_if b f) f
fault_in true f h = in_head f []
fault_in false f h = absurd (cc)

pub in_fault : (b : Bool) (f g : Fault) → Contains (fault_if b f) g → (b ≡ true) × (f ≡ g)
in_fault true f g h = (refl, ⊎_elim (λ is. is) (λ later. absurd (in_none g later)) (in_cases f g [] h))
in_fault false f g h = absurd (in_none g h)

-- ---- the order

abbrev Before : Fault → Fault → Type 0
Before f g = ComesFirst f.0 g.0 f.1 g.1

before_same : (f : Fault) → Before f f
before_same f = here refl (omega arith)

before_trans : (f g h : Fault) → Before f g → Before g h → Before f h
before_trans f g h (earlier a) (earlier b) = earlier (omega arith)
before_trans f g h (earlier a) (here b m) = earlier (omega arith)
before_trans f g h (here a n) (earlier b) = earlier (omega arith)
before_trans f g h (here a n) (here b m) = here (a ∙ b) (omega arith)

test_true : (a b n m : ℕ) → (nat_lt a b || (nat_eq a b && nat_lt n m)) ≡ true → (a < b) ⊎ ((a ≡ b) × (n ≤ m))
test_true a b n m h = grind arith

test_false : (a b n m : ℕ) → (nat_lt a b || (nat_eq a b && nat_lt n m)) ≡ false → (b < a) ⊎ ((b ≡ a) × (m ≤ n))
test_false a b n m h = grind arith

before_true : (f g : Fault) → comes_before f g ≡ true → Before f g
before_true f g h = ⊎_elim (λ a. earlier a) (λ p. here p.0 p.1) (test_true f.1.from g.1.from (number_of f.0) (number_of g.0) h)

before_false : (f g : Fault) → comes_before f g ≡ false → Before g f
before_false f g h = ⊎_elim (λ a. earlier a) (λ p. here p.0 p.1) (test_false f.1.from g.1.from (number_of f.0) (number_of g.0) h)

-- ---- the least

-- what was found of a fault and some more
record Least (f : Fault) (faults : List Fault) : Type 0 where
  pub found : Fault
  pub is : first_of (Some f) faults ≡ Some found
  pub listed : Contains (f ∷ faults) found
  pub first : Before found f
  pub least : (g : Fault) → Contains faults g → Before found g

sooner_true : (f g : Fault) → comes_before f g ≡ true → sooner (Some g) f ≡ Some f
sooner_true f g h = ap (λ b. sooner_of b f g) h

sooner_false : (f g : Fault) → comes_before f g ≡ false → sooner (Some g) f ≡ Some g
sooner_false f g h = ap (λ b. sooner_of b f g) h

bool_cases : (b : Bool) → (b ≡ true) ⊎ (b ≡ false)
bool_cases true = inl refl
bool_cases false = inr refl

least : (f : Fault) (faults : List Fault) → Least f faults
least f [] = record { found = f; is = refl; listed = in_head f []; first = before_same f; least = λ g h. absurd (in_none g h) }
least f (g ∷ faults) =
    ⊎_elim
    (λ sooner_is.
    let w = least g faults in
    record {
      found = w.found;
      is = ap (λ o. first_of o faults) (sooner_true g f sooner_is) ∙ w.is;
      listed = in_tail f w.found (g ∷ faults) w.listed;
      first = before_trans w.found g f w.first (before_true g f sooner_is);
      least = λ h listed. ⊎_elim (λ is. subst (λ x. Before w.found x) is w.first) (λ later. w.least h later) (in_cases g h faults listed);
    })
    (λ later_is.
    let w = least f faults in
    record {
      found = w.found;
      is = ap (λ o. first_of o faults) (sooner_false g f later_is) ∙ w.is;
      listed = ⊎_elim (λ is. subst (λ x. Contains (f ∷ g ∷ faults) x) is (in_head f (g ∷ faults))) (λ later. in_tail f w.found (g ∷ faults) (in_tail g w.found faults later)) (in_cases f w.found faults w.listed);
      first = w.first;
      least = λ h listed. ⊎_elim (λ is. subst (λ x. Before w.found x) is (before_trans w.found f g w.first (before_false g f later_is))) (λ later. w.least h later) (in_cases g h faults listed);
    })
    (bool_cases (comes_before g f))

abbrev pub Listed : List Fault → Rule → Span → Type 0
Listed faults rule span = Contains faults (rule, span)

same_some : (f g : Fault) → Some f ≡ Some g → f ≡ g
same_some f g h = cc

-- what was found first is the least
pub first_is_least : (faults : List Fault) (rule : Rule) (span : Span) → first_of None faults ≡ Some (rule, span) → IsFirst (Listed faults) rule span
first_is_least [] rule span h = absurd (cc)
first_is_least (f ∷ faults) rule span h =
    let w = least f faults in
    let same : w.found ≡ (rule, span) = same_some w.found (rule, span) (sym w.is ∙ h) in
    record {
      broken = subst (λ x. Contains (f ∷ faults) x) same w.listed;
      least = λ other another listed. subst (λ x. Before x (other, another)) same
          (⊎_elim (λ is. subst (λ x. Before w.found x) is w.first) (λ later. w.least (other, another) later) (in_cases f (other, another) faults listed));
    }

-- nothing was found where nothing was noted
pub first_is_none : (faults : List Fault) → first_of None faults ≡ None → (f : Fault) → Contains faults f → ⊥
first_is_none [] h g listed = in_none g listed
first_is_none (f ∷ faults) h g listed = let w = least f faults in let is : first_of (Some f) faults ≡ Some w.found = w.is in absurd (cc)

-- the same of what is broken by `B`, where that is just what was noted
pub first_of_broken : (B : Rule → Span → Type 0) (faults : List Fault) → ((rule : Rule) (span : Span) → Listed faults rule span → B rule span) → ((rule : Rule) (span : Span) → B rule span → Listed faults rule span) →
    (rule : Rule) (span : Span) → first_of None faults ≡ Some (rule, span) → IsFirst B rule span
first_of_broken B faults broken listed rule span h =
    let first = first_is_least faults rule span h in
    record { broken = broken rule span first.broken; least = λ other another b. first.least other another (listed other another b) }

pub none_broken : (B : Rule → Span → Type 0) (faults : List Fault) → ((rule : Rule) (span : Span) → B rule span → Listed faults rule span) → first_of None faults ≡ None → (rule : Rule) (span : Span) → B rule span → ⊥
none_broken B faults listed h rule span b = first_is_none faults h (rule, span) (listed rule span b)

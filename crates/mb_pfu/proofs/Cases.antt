-- Cases of truth values, and of what may be there.
use Rattle.std.proofs.Common.{◌≡◌, Bool, true, false, ◌||◌, Option, Some, None, refl, is_some}
use Rattle.mb_pfu.specs.Rows.{or_else}

-- by the two values
pub split : {P : Type 0} (b : Bool) → (b ≡ true → P) → (b ≡ false → P) → P
split true yes_case no_case = yes_case refl
split false yes_case no_case = no_case refl

-- by whether it is there
pub see : {X P : Type 0} (o : Option X) → (o ≡ None → P) → ((y : X) → o ≡ Some y → P) → P
see None none some = none refl
see (Some y) none some = some y refl

pub or-left-false : (a b : Bool) → (a || b) ≡ false → a ≡ false
or-left-false true b h = cc
or-left-false false b h = refl

pub or-right-false : (a b : Bool) → (a || b) ≡ false → b ≡ false
or-right-false true b h = cc
or-right-false false b h = h

pub or-right : (a b : Bool) → a ≡ false → (a || b) ≡ true → b ≡ true
or-right a b e h = rw e at h

pub or_else-assoc : {X : Type 0} (a b c : Option X) → or_else (or_else a b) c ≡ or_else a (or_else b c)
or_else-assoc None b c = refl
or_else-assoc (Some a) b c = refl

pub or_else-none : {X : Type 0} (a : Option X) → or_else a None ≡ a
or_else-none None = refl
or_else-none (Some a) = refl

pub or_else-some : {X : Type 0} (a b : Option X) → is_some a ≡ true → or_else a b ≡ a
or_else-some None b h = cc
or_else-some (Some a) b h = refl

pub none-there : {X : Type 0} (o : Option X) → is_some o ≡ false → o ≡ None
none-there None h = refl
none-there (Some x) h = cc

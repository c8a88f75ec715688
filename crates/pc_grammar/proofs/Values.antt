-- What digits spell, read from the front.
use Rattle.std.proofs.Common.{Some, None, ◌≡◌, ℕ, zero, suc, ◌+◌, ◌*◌, ◌^◌, ◌<◌, ◌≤◌, false, List, ◌∷◌, length, drop, get_or, Some, refl, sym, subst, arith, nat_lt}
use Rattle.std.proofs.Math.Nat.{pow-zero, pow-suc, mul-le-mul, le-mul_of_pos_right, add-mul, mul_assoc, mul_comm}
use Rattle.std.proofs.lemmas.List.{drop_more}
use Rattle.std.proofs.lemmas.Bool.{le-ltb}
use Rattle.pc_grammar.specs.Numbers.{digit_value, value_of, within_32_bits}

-- the digits before the index are worth `value`
pub record ReadSoFar (base : ℕ) (digits : List ℕ) (index value : ℕ) : Type 0 where
  pub small : value < 4294967296
  pub whole : value * base ^ length (drop index digits) + value_of base (drop index digits) ≡ value_of base digits

at_least_one : (base n : ℕ) → 1 ≤ base → 1 ≤ base ^ n
at_least_one base zero h = rw (pow-zero) (omega arith)
at_least_one base (suc n) h = rw (pow-suc) (grind (arith, mul-le-mul, at_least_one base n h))

placed : (v b d p r total : ℕ) → v * (p * b) + (d * p + r) ≡ total → (v * b + d) * p + r ≡ total
placed v b d p r total h = grind (arith, add-mul, mul_assoc, mul_comm, h)

one_more : (base : ℕ) (digits : List ℕ) (index value : ℕ) → index < length digits → value * base ^ length (drop index digits) + value_of base (drop index digits) ≡ value_of base digits →
    (value * base + digit_value (get_or digits index 0)) * base ^ length (drop (index + 1) digits) + value_of base (drop (index + 1) digits) ≡ value_of base digits
one_more base digits index value less whole =
    let d = digit_value (get_or digits index 0) in
    let rest = drop (index + 1) digits in
    let at : drop index digits ≡ get_or digits index 0 ∷ rest = drop_more digits index 0 less in
    let opened : value * base ^ suc (length rest) + (d * base ^ length rest + value_of base rest) ≡ value_of base digits =
    subst (λ x. value * base ^ length x + value_of base x ≡ value_of base digits) at whole in
    placed value base d (base ^ length rest) (value_of base rest) (value_of base digits)
    (subst (λ x. value * x + (d * base ^ length rest + value_of base rest) ≡ value_of base digits) (pow-suc base (length rest)) opened)

pub read_goes_on : (base : ℕ) (digits : List ℕ) (index value grown : ℕ) → ReadSoFar base digits index value → index < length digits → grown ≡ value * base + digit_value (get_or digits index 0) → grown ≤ 4294967295 → ReadSoFar base digits (index + 1) grown
read_goes_on base digits index value grown so less eq low = record {
  small = omega arith;
  whole = subst (λ g. g * base ^ length (drop (index + 1) digits) + value_of base (drop (index + 1) digits) ≡ value_of base digits) (sym eq) (one_more base digits index value less so.whole);
}

not_below : (n : ℕ) → 4294967295 < n → nat_lt n 4294967296 ≡ false
not_below n h = le-ltb n 4294967296 (omega arith)

-- the digits to come only add
pub read_too_large : (base : ℕ) (digits : List ℕ) (index value grown : ℕ) → ReadSoFar base digits index value → index < length digits → grown ≡ value * base + digit_value (get_or digits index 0) → 4294967295 < grown → 1 ≤ base → None ≡ within_32_bits (Some (value_of base digits))
read_too_large base digits index value grown so less eq over some =
    let rest = drop (index + 1) digits in
    let p = base ^ length rest in
    let total = one_more base digits index value less so.whole in
    let more : value * base + digit_value (get_or digits index 0) ≤ (value * base + digit_value (get_or digits index 0)) * p = le-mul_of_pos_right _ (at_least_one base (length rest) some) in
    let large : 4294967295 < value_of base digits = omega (arith, total, more, eq) in
    rw (not_below (value_of base digits) large) refl

pub ruleset value_steps = (read_goes_on, read_too_large)

-- What the code's operators give, as whole numbers modulo 2^32.
use Rattle.std.proofs.Common.{◌≡◌, ℕ, zero, suc, ◌+◌, ◌-◌, ◌%◌, ◌^◌, ◌<◌, ◌≤◌, ℤ, pos, negsuc, ◌*ℤ◌, neg_ℤ, FitsSigned, refl, sym, ap, ◌∙◌, arith, zero-add}
use Rattle.std.specs.Int.{w32, int_wrap, int_shl, cast_signed, cast_unsigned}
use Rattle.std.specs.Int.RustNames.{int_div, unsigned_abs}
use Rattle.std.proofs.Math.Nat.{div-le_self, mod-eq_of_lt}
use Rattle.std.specs.Int.{int_wrapping_div}
use Rattle.pt_base.specs.Operators.{quotient_of}
use Rattle.std.proofs.lemmas.Int.{ints, wrapping_mul-bits, int_wrap-mul_right, to_z-of_z}

-- a number below 2^32 is its own rest
pub wrap_pos : (n : ℕ) → n < 2 ^ 32 → int_wrap w32 (pos n) ≡ cast_signed w32 n
unfolding int_wrap
wrap_pos n h = let e : n % 4294967296 ≡ n = omega arith in ap (cast_signed w32) e

wrap_negsuc : (n : ℕ) → n < 2 ^ 32 → int_wrap w32 (negsuc n) ≡ cast_signed w32 (2 ^ 32 - suc n)
unfolding int_wrap
wrap_negsuc n h = let e : 4294967296 - 1 - n % 4294967296 ≡ 4294967296 - suc n = omega arith in ap (cast_signed w32) e

-- a word, from its bits
pub wrap_bits : (z : ℤ) → unsigned_abs z < 2 ^ 32 → int_wrap w32 z ≡ cast_signed w32 (cast_unsigned w32 z)
wrap_bits (pos n) h = wrap_pos n h
wrap_bits (negsuc n) h = wrap_negsuc n (omega arith)

pub shl_is : (a : ℤ) (k : ℕ) → FitsSigned w32 a → 2 ^ k < 2 ^ 32 → int_shl w32 a k ≡ int_wrap w32 (a *ℤ pos (2 ^ k))
shl_is a k f h =
    let m : cast_unsigned w32 a < 2 ^ 32 = omega (arith, ints) in
    wrapping_mul-bits w32 (cast_unsigned w32 a) (2 ^ k) m h
    ∙ ap (λ z. int_wrap w32 (z *ℤ cast_signed w32 (2 ^ k))) (to_z-of_z w32 a f)
    ∙ ap (λ z. int_wrap w32 (a *ℤ z)) (sym (wrap_pos (2 ^ k) h))
    ∙ int_wrap-mul_right w32 a (pos (2 ^ k))

abs_neg : (n : ℕ) → unsigned_abs (neg_ℤ (pos n)) ≡ n
abs_neg zero = refl
abs_neg (suc n) = refl

abs_quotient : (a b : ℤ) → unsigned_abs (int_div a b) ≤ unsigned_abs a
abs_quotient (pos a) (pos b) = div-le_self a b
abs_quotient (pos a) (negsuc b) = rw abs_neg (div-le_self a (suc b))
abs_quotient (negsuc a) (pos b) = rw abs_neg (div-le_self (suc a) b)
abs_quotient (negsuc a) (negsuc b) = div-le_self (suc a) (suc b)

quotient_fits : (a b : ℤ) → FitsSigned w32 a → unsigned_abs (int_div a b) < 2 ^ 32
quotient_fits (pos a) b f = let h = abs_quotient (pos a) b in let g = f.sfits in omega arith
quotient_fits (negsuc a) b f = let h = abs_quotient (negsuc a) b in let g = f.sfits in omega arith

pub quotient_is : (a b : ℤ) → FitsSigned w32 a → (cast_unsigned w32 b ≡ 0 → ⊥) → int_wrapping_div w32 a b ≡ quotient_of a b
quotient_is a (pos zero) f h = absurd (h refl)
quotient_is a (pos (suc b)) f h = sym (wrap_bits (int_div a (pos (suc b))) (quotient_fits a (pos (suc b)) f))
quotient_is a (negsuc b) f h = sym (wrap_bits (int_div a (negsuc b)) (quotient_fits a (negsuc b) f))

-- ---- the words of a number and of a negated number, from the bits that adding them to 0 and taking them from 0 leaves

pub positive_is : (v : ℕ) → cast_signed w32 ((0 + v) % 2 ^ 32) ≡ int_wrap w32 (pos v)
unfolding int_wrap
positive_is v = ap (λ n. cast_signed w32 (n % 4294967296)) (zero-add v)

pub negative_is : (v : ℕ) → v < 2 ^ 32 → cast_signed w32 ((0 + (2 ^ 32 - v)) % 2 ^ 32) ≡ int_wrap w32 (neg_ℤ (pos v))
unfolding int_wrap
negative_is zero small = refl
negative_is (suc k) small =
    let below : k < 4294967296 = omega arith in
    let left : (0 + (4294967296 - suc k)) % 4294967296 ≡ 4294967296 - suc k = let h : 0 + (4294967296 - suc k) < 4294967296 = omega arith in mod-eq_of_lt h ∙ zero-add (4294967296 - suc k) in
    let right : k % 4294967296 ≡ k = mod-eq_of_lt below in
    let e : (0 + (4294967296 - suc k)) % 4294967296 ≡ 4294967296 - 1 - k % 4294967296 = omega (arith, left, right) in
    ap (λ n. cast_signed w32 n) e

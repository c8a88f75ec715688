-- Where branches lead, and the numbers of words.
use Rattle.std.proofs.Common.{◌≡◌, ℕ, suc, ◌+◌, ◌-◌, ◌*◌, ◌/◌, ◌%◌, ◌^◌, ◌<◌, ◌≤◌, pos, negsuc, neg_ℤ, ◌+ℤ◌, ◌*ℤ◌, Some, FitsSigned, refl, ap, ◌∙◌, arith, ⊎_elim}
use Rattle.std.specs.Int.{w16, w32, cast_signed, cast_unsigned}
use Rattle.std.proofs.lemmas.Int.{ints, of_z-to_z, to_z_pos}
use Rattle.std.proofs.Math.Facts.{to_z-neg, sfits_to_z}
use Rattle.std.proofs.lemmas.Bool.{cases_lt}
use Rattle.mb_isa.specs.Operands.{immediate, turns_of, branch_byte}
use Rattle.pc_emit.specs.Code.{short, way, upper_half, lower_half}

low_small : (m : ℕ) → m < 32768 → cast_signed w16 m ≡ pos m
low_small m h = to_z_pos w16 m h

low_large : (m : ℕ) → 32768 ≤ m → m < 65536 → cast_signed w16 m ≡ negsuc (65535 - m)
low_large m h k =
    let e : m ≡ 65536 - suc (65535 - m) = omega arith in
    ap (cast_signed w16) e ∙ to_z-neg w16 (65535 - m) (omega arith)

unsigned_low : (m : ℕ) → m < 65536 → cast_unsigned w16 (cast_signed w16 m) ≡ m
unsigned_low m h = of_z-to_z w16 m h

-- a half of a word is an immediate
pub fits_half : (m : ℕ) → m < 65536 → FitsSigned w16 (cast_signed w16 m)
fits_half m h = sfits_to_z (record { fits = h })

below_zero : (m k : ℕ) → m ≤ k → k < 2 ^ 32 → cast_unsigned w32 (neg_ℤ (pos (suc k)) +ℤ pos m) ≡ 2 ^ 32 - suc (k - m)
below_zero m k h l =
    let e : neg_ℤ (pos (suc k)) +ℤ pos m ≡ negsuc (k - m) = omega (arith, ints) in
    ap (cast_unsigned w32) e ∙ omega arith

-- the two halves of 32 bits make the bits
two_halves : (n : ℕ) → n < 2 ^ 32 → cast_unsigned w32 (immediate (Some (upper_half n)) (lower_half n)) ≡ n
two_halves n h = ⊎_elim near far (cases_lt (n / 65536) 32768)
  where
    near : n / 65536 < 32768 → cast_unsigned w32 (immediate (Some (upper_half n)) (lower_half n)) ≡ n
    near k =
        let e : n / 65536 * 65536 + n % 65536 ≡ n = omega arith in
        ap (λ z. cast_unsigned w32 (z *ℤ pos 65536 +ℤ pos (cast_unsigned w16 (cast_signed w16 (n % 65536))))) (low_small (n / 65536) k)
        ∙ ap (λ m. n / 65536 * 65536 + m) (unsigned_low (n % 65536) (omega arith)) ∙ e

    far : 32768 ≤ n / 65536 → cast_unsigned w32 (immediate (Some (upper_half n)) (lower_half n)) ≡ n
    far k =
        let k' = (65535 - n / 65536) * 65536 + 65535 in
        let size : suc (65535 - n / 65536) * 65536 ≡ suc k' = omega arith in
        ap (λ z. cast_unsigned w32 (z *ℤ pos 65536 +ℤ pos (cast_unsigned w16 (cast_signed w16 (n % 65536))))) (low_large (n / 65536) k (omega arith))
        ∙ ap (λ m. cast_unsigned w32 (negsuc (65535 - n / 65536) *ℤ pos 65536 +ℤ pos m)) (unsigned_low (n % 65536) (omega arith))
        ∙ ap (λ j. cast_unsigned w32 (neg_ℤ (pos j) +ℤ pos (n % 65536))) size ∙ below_zero (n % 65536) k' (omega arith) (omega arith) ∙ omega arith

-- the number of turns of a `loop` behind an `imm`
pub two_halves_of_turns : (n : ℕ) → n < 2 ^ 32 → turns_of (Some (upper_half n)) (n % 65536) ≡ n
two_halves_of_turns n h = ap (λ m. m * 65536 + n % 65536) (unsigned_low (n / 65536) (omega arith)) ∙ omega arith

pub short_is : (place : ℕ) → place ≤ 65535 → short place ≡ place
short_is place h = omega arith

pub way_small : (at to : ℕ) → way at to < 2 ^ 32
way_small at to = omega arith

-- a branch leads where it is to lead
pub jump_leads : (at to : ℕ) → at + 1 ≤ 65535 → to ≤ 65535 →
    branch_byte (at + 1) (immediate (Some (upper_half (way at to))) (lower_half (way at to))) ≡ 4 * to
jump_leads at to h k =
    let a : short at ≡ at = short_is at (omega arith) in
    let b : short to ≡ to = short_is to k in
    let w : way at to ≡ (4 * to + 4294967296 - 4 * (at + 1)) % 4294967296 = rw (a, b) refl in
    ap (λ n. (4 * (at + 1) + n) % 2 ^ 32) (two_halves (way at to) (way_small at to) ∙ w) ∙ omega arith

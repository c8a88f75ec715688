-- What the words of the machine give, as numbers: signs, masks, halves of immediates, addresses.
use Rattle.std.proofs.Common.{◌≡◌, ℕ, zero, suc, ◌+◌, ◌-◌, ◌*◌, ◌/◌, ◌%◌, ◌^◌, ◌<◌, ◌≤◌, ◌==◌, ◌&&◌, ℤ, pos, negsuc, ◌+ℤ◌, ◌-ℤ◌, ◌*ℤ◌, neg_ℤ, int_lt, int_le, nat_lt, Bool, true, false, if◌then◌else◌, FitsSigned, refl, sym, ap, subst, ◌∙◌, arith, Some, None}
use Rattle.std.specs.Int.{w16, w32, int_wrap, int_bit_and, int_bit_or, int_bit_xor, int_bit_not, cast_signed, cast_unsigned}
use Rattle.std.specs.Int.RustNames.{int_div, int_rem, bit_and, bit_or, bit_xor}
use Rattle.std.specs.Int.Signed.{mag_rem, mag_shr}
use Rattle.std.proofs.lemmas.Int.{ints, of_z-to_z, to_z-of_z, to_z_pos, int_wrap_fits, SFits-int_wrap, int_wrap-sub_right, int_wrap-mul_left, quot-rem}
use Rattle.std.proofs.lemmas.Nat.{or_shr, and_shr, or_of_32, xor_of_32, and_le_l, and_mask, xor_block}
use Rattle.std.specs.Int.Bits.{and_zero_r, or_zero_l, or_zero_r}
use Rattle.std.proofs.Math.Facts.{to_z-neg, sfits_to_z}
use Rattle.pt_base.specs.Operators.{places_of, truth_of, same, not_of, either, both, is_true, binary_of, unary_of}
use Rattle.pt_base.specs.declared.BinOp.TheVariants as op
use Rattle.pt_base.specs.declared.BinOp.{BinOp}
use Rattle.pt_base.specs.declared.UnOp.{UnOp}
use Rattle.pt_base.specs.declared.UnOp.TheVariants as un
use Rattle.mb_isa.specs.Operands.{immediate, word_at_byte}
use Rattle.mb_isa.specs.Cells.{with_top, logical_right}
use Rattle.pc_regs.specs.Words.{is_short, is_word, upper_half, lower_half, last_index}

-- whether a number is below 0
abbrev pub negative : ℤ → Bool
negative (pos n) = false
negative (negsuc n) = true

-- the top bit of a word's bits
abbrev top : ℕ → ℕ
top n = n / 2147483648

pub bits_below : (z : ℤ) → FitsSigned w32 z → cast_unsigned w32 z < 4294967296
bits_below (pos n) f = let h = f.sfits in omega arith
bits_below (negsuc n) f = let h = f.sfits in omega arith

top_pos : (n : ℕ) → FitsSigned w32 (pos n) → top (cast_unsigned w32 (pos n)) ≡ 0
top_pos n f = let h = f.sfits in omega arith

top_negsuc : (n : ℕ) → FitsSigned w32 (negsuc n) → top (cast_unsigned w32 (negsuc n)) ≡ 1
top_negsuc n f = let h = f.sfits in omega arith

-- a word is negative where the top bit of its bits is set
sign_low : (n : ℕ) → n < 4294967296 → top n ≡ 0 → negative (cast_signed w32 n) ≡ false
sign_low n h t = ap (λ z. negative z) (to_z_pos w32 n (omega (arith, t)))

sign_high : (n : ℕ) → n < 4294967296 → top n ≡ 1 → negative (cast_signed w32 n) ≡ true
sign_high n h t =
    let e : n ≡ 4294967296 - suc (4294967295 - n) = omega arith in
    ap (λ m. negative (cast_signed w32 m)) e ∙ ap (λ z. negative z) (to_z-neg w32 (4294967295 - n) (omega (arith, t)))

-- ---- signs

pub fits_cast : (n : ℕ) → n < 4294967296 → FitsSigned w32 (cast_signed w32 n)
fits_cast n h = sfits_to_z (record { fits = h })

pub fits_with_top : (t : Bool) (z : ℤ) → FitsSigned w32 (with_top t z)
fits_with_top true z = fits_cast (cast_unsigned w32 z % 2147483648 + 2147483648) (omega arith)
fits_with_top false z = fits_cast (cast_unsigned w32 z % 2147483648 + 0) (omega arith)

pub sign-with_top : (t : Bool) (z : ℤ) → negative (with_top t z) ≡ t
sign-with_top true z = sign_high (cast_unsigned w32 z % 2147483648 + 2147483648) (omega arith) (omega arith)
sign-with_top false z = sign_low (cast_unsigned w32 z % 2147483648 + 0) (omega arith) (omega arith)

pub fits_or : (x y : ℤ) → FitsSigned w32 x → FitsSigned w32 y → FitsSigned w32 (int_bit_or w32 x y)
fits_or x y f g = fits_cast (bit_or (cast_unsigned w32 x) (cast_unsigned w32 y)) (or_of_32 _ _ (bits_below x f) (bits_below y g))

pub fits_and : (x y : ℤ) → FitsSigned w32 x → FitsSigned w32 (int_bit_and w32 x y)
fits_and x y f =
    let h = bits_below x f in
    let le = and_le_l (cast_unsigned w32 x) (cast_unsigned w32 y) in
    fits_cast (bit_and (cast_unsigned w32 x) (cast_unsigned w32 y)) (omega arith)

pub sign-or : (x y : ℤ) → FitsSigned w32 x → FitsSigned w32 y → negative (int_bit_or w32 x y) ≡ either (negative x) (negative y)
sign-or (pos a) (pos b) f g =
    sign_low (bit_or (cast_unsigned w32 (pos a)) (cast_unsigned w32 (pos b))) (or_of_32 _ _ (bits_below (pos a) f) (bits_below (pos b) g))
    (or_shr (cast_unsigned w32 (pos a)) (cast_unsigned w32 (pos b)) 31 ∙ ap (λ k. bit_or k (top (cast_unsigned w32 (pos b)))) (top_pos a f) ∙ ap (λ k. bit_or 0 k) (top_pos b g))
sign-or (pos a) (negsuc b) f g =
    sign_high (bit_or (cast_unsigned w32 (pos a)) (cast_unsigned w32 (negsuc b))) (or_of_32 _ _ (bits_below (pos a) f) (bits_below (negsuc b) g))
    (or_shr (cast_unsigned w32 (pos a)) (cast_unsigned w32 (negsuc b)) 31 ∙ ap (λ k. bit_or k (top (cast_unsigned w32 (negsuc b)))) (top_pos a f) ∙ ap (λ k. bit_or 0 k) (top_negsuc b g))
sign-or (negsuc a) (pos b) f g =
    sign_high (bit_or (cast_unsigned w32 (negsuc a)) (cast_unsigned w32 (pos b))) (or_of_32 _ _ (bits_below (negsuc a) f) (bits_below (pos b) g))
    (or_shr (cast_unsigned w32 (negsuc a)) (cast_unsigned w32 (pos b)) 31 ∙ ap (λ k. bit_or k (top (cast_unsigned w32 (pos b)))) (top_negsuc a f) ∙ ap (λ k. bit_or 1 k) (top_pos b g))
sign-or (negsuc a) (negsuc b) f g =
    sign_high (bit_or (cast_unsigned w32 (negsuc a)) (cast_unsigned w32 (negsuc b))) (or_of_32 _ _ (bits_below (negsuc a) f) (bits_below (negsuc b) g))
    (or_shr (cast_unsigned w32 (negsuc a)) (cast_unsigned w32 (negsuc b)) 31 ∙ ap (λ k. bit_or k (top (cast_unsigned w32 (negsuc b)))) (top_negsuc a f) ∙ ap (λ k. bit_or 1 k) (top_negsuc b g))

and_below : (x y : ℤ) → FitsSigned w32 x → bit_and (cast_unsigned w32 x) (cast_unsigned w32 y) < 4294967296
and_below x y f =
    let h = bits_below x f in
    let le = and_le_l (cast_unsigned w32 x) (cast_unsigned w32 y) in
    omega arith

pub sign-and : (x y : ℤ) → FitsSigned w32 x → FitsSigned w32 y → negative (int_bit_and w32 x y) ≡ both (negative x) (negative y)
sign-and (pos a) (pos b) f g =
    sign_low (bit_and (cast_unsigned w32 (pos a)) (cast_unsigned w32 (pos b))) (and_below (pos a) (pos b) f)
    (and_shr (cast_unsigned w32 (pos a)) (cast_unsigned w32 (pos b)) 31 ∙ ap (λ k. bit_and k (top (cast_unsigned w32 (pos b)))) (top_pos a f) ∙ ap (λ k. bit_and 0 k) (top_pos b g))
sign-and (pos a) (negsuc b) f g =
    sign_low (bit_and (cast_unsigned w32 (pos a)) (cast_unsigned w32 (negsuc b))) (and_below (pos a) (negsuc b) f)
    (and_shr (cast_unsigned w32 (pos a)) (cast_unsigned w32 (negsuc b)) 31 ∙ ap (λ k. bit_and k (top (cast_unsigned w32 (negsuc b)))) (top_pos a f) ∙ ap (λ k. bit_and 0 k) (top_negsuc b g))
sign-and (negsuc a) (pos b) f g =
    sign_low (bit_and (cast_unsigned w32 (negsuc a)) (cast_unsigned w32 (pos b))) (and_below (negsuc a) (pos b) f)
    (and_shr (cast_unsigned w32 (negsuc a)) (cast_unsigned w32 (pos b)) 31 ∙ ap (λ k. bit_and k (top (cast_unsigned w32 (pos b)))) (top_negsuc a f) ∙ ap (λ k. bit_and 1 k) (top_pos b g))
sign-and (negsuc a) (negsuc b) f g =
    sign_high (bit_and (cast_unsigned w32 (negsuc a)) (cast_unsigned w32 (negsuc b))) (and_below (negsuc a) (negsuc b) f)
    (and_shr (cast_unsigned w32 (negsuc a)) (cast_unsigned w32 (negsuc b)) 31 ∙ ap (λ k. bit_and k (top (cast_unsigned w32 (negsuc b)))) (top_negsuc a f) ∙ ap (λ k. bit_and 1 k) (top_negsuc b g))

-- a word shifted right by 31 is 1 where it is negative, and 0 elsewhere
pub sign_shifted : (z : ℤ) → FitsSigned w32 z → logical_right z (pos 31) ≡ truth_of (negative z)
sign_shifted (pos n) f = ap (cast_signed w32) (top_pos n f)
sign_shifted (negsuc n) f = ap (cast_signed w32) (top_negsuc n f)

-- filled with its sign, it is -1 or 0
abbrev pub mask_of : Bool → ℤ
mask_of true = negsuc 0
mask_of false = pos 0

pub sign_filled : (z : ℤ) → FitsSigned w32 z → binary_of op.ShiftRight z (pos 31) ≡ mask_of (negative z)
sign_filled (pos n) f = let h = f.sfits in let e : n / 2147483648 ≡ 0 = omega arith in ap pos e
sign_filled (negsuc n) f = let h = f.sfits in let e : n / 2147483648 ≡ 0 = omega arith in ap negsuc e

-- ---- masks

pub turned : (t : Bool) → int_bit_xor w32 (truth_of t) (pos 1) ≡ truth_of (not_of t)
turned true = refl
turned false = refl

pub mask_turned : (t : Bool) → int_bit_xor w32 (mask_of t) (negsuc 0) ≡ mask_of (not_of t)
mask_turned true = refl
mask_turned false = refl

pub and_ones : (z : ℤ) → FitsSigned w32 z → int_bit_and w32 z (negsuc 0) ≡ z
and_ones z f =
    let h = bits_below z f in
    let e : cast_unsigned w32 z % 4294967296 ≡ cast_unsigned w32 z = omega arith in
    ap (cast_signed w32) (and_mask (cast_unsigned w32 z) 32 ∙ e) ∙ to_z-of_z w32 z f

pub and_none : (z : ℤ) → int_bit_and w32 z (pos 0) ≡ pos 0
and_none z = ap (cast_signed w32) (and_zero_r (cast_unsigned w32 z))

pub or_none : (z : ℤ) → FitsSigned w32 z → int_bit_or w32 z (pos 0) ≡ z
or_none z f = ap (cast_signed w32) (or_zero_r (cast_unsigned w32 z)) ∙ to_z-of_z w32 z f

pub none_or : (z : ℤ) → FitsSigned w32 z → int_bit_or w32 (pos 0) z ≡ z
none_or z f = ap (cast_signed w32) (or_zero_l (cast_unsigned w32 z)) ∙ to_z-of_z w32 z f

bit_turned : (r : ℕ) → r < 2 → bit_xor r 1 ≡ 1 - r
bit_turned zero h = refl
bit_turned (suc zero) h = refl
bit_turned (suc (suc r)) h = absurd (omega (arith, h))

-- all bits turned
bits_turned : (k n : ℕ) → n < 2 ^ k → bit_xor n (2 ^ k - 1) ≡ 2 ^ k - 1 - n
bits_turned zero n h = let e : n ≡ 0 = omega arith in subst (λ m. bit_xor m 0 ≡ 0 - m) (sym e) refl
bits_turned (suc k) n h =
    let size : 2 ^ suc k ≡ 2 ^ k * 2 = omega arith in
    let rest = bits_turned k (n / 2) (omega arith) in
    let low = bit_turned (n % 2) (omega arith) in
    let left : n / 2 * 2 ^ 1 + n % 2 ≡ n = omega arith in
    let right : (2 ^ k - 1) * 2 ^ 1 + 1 ≡ 2 ^ suc k - 1 = omega arith in
    let block = xor_block 1 (n / 2) (2 ^ k - 1) (n % 2) 1 (omega arith) (omega arith) in
    ap (λ m. bit_xor m (2 ^ suc k - 1)) (sym left) ∙ ap (λ m. bit_xor (n / 2 * 2 ^ 1 + n % 2) m) (sym right) ∙ block
    ∙ omega (arith, rest, low)

pub xor_ones : (z : ℤ) → FitsSigned w32 z → int_bit_xor w32 z (negsuc 0) ≡ int_bit_not w32 z
xor_ones z f = ap (cast_signed w32) (bits_turned 32 (cast_unsigned w32 z) (bits_below z f))

-- ---- comparisons

less_is : (a b : ℕ) → a < b → nat_lt a b ≡ true
less_is a b h = grind arith

not_less : (a b : ℕ) → b ≤ a → nat_lt a b ≡ false
not_less a b h = grind arith

pub at_most_is : (a b : ℤ) → int_le a b ≡ not_of (int_lt b a)
at_most_is (pos a) (pos b) = grind arith
at_most_is (pos a) (negsuc b) = refl
at_most_is (negsuc a) (pos b) = refl
at_most_is (negsuc a) (negsuc b) = grind arith

pub other_is : (a b : ℤ) → not_of (same a b) ≡ either (int_lt a b) (int_lt b a)
other_is (pos a) (pos b) = grind arith
other_is (pos a) (negsuc b) = refl
other_is (negsuc a) (pos b) = refl
other_is (negsuc a) (negsuc b) = grind arith

pub negative_is : (z : ℤ) → int_lt z (pos 0) ≡ negative z
negative_is (pos n) = grind arith
negative_is (negsuc n) = refl

pub turned_twice : (b : Bool) → not_of (not_of b) ≡ b
turned_twice true = refl
turned_twice false = refl

pub true_is : (z : ℤ) → is_true z ≡ either (int_lt (pos 0) z) (negative z)
true_is z = grind (arith, other_is z (pos 0), negative_is z)

-- ---- sums

zero_plus : (z : ℤ) → pos 0 +ℤ z ≡ z
zero_plus z = omega (arith, ints)

plus_zero : (z : ℤ) → z +ℤ pos 0 ≡ z
plus_zero z = omega (arith, ints)

minus_zero : (z : ℤ) → z -ℤ pos 0 ≡ z
minus_zero z = omega (arith, ints)

pub zero_and : (z : ℤ) → FitsSigned w32 z → binary_of op.Add (pos 0) z ≡ z
zero_and z f = ap (int_wrap w32) (zero_plus z) ∙ int_wrap_fits w32 z f

pub and_zero : (z : ℤ) → FitsSigned w32 z → binary_of op.Add z (pos 0) ≡ z
and_zero z f = ap (int_wrap w32) (plus_zero z) ∙ int_wrap_fits w32 z f

pub from_zero : (z : ℤ) → binary_of op.Sub (pos 0) z ≡ unary_of un.Neg z
from_zero z = ap (int_wrap w32) (zero_plus (neg_ℤ z))

-- ---- the rest of a division

rest : (x r a : ℤ) → x +ℤ r ≡ a → a -ℤ x ≡ r
rest x r a e = omega (arith, ints)

rest_fits : (a b : ℤ) → FitsSigned w32 a → FitsSigned w32 (int_rem a b)
rest_fits a b f = let h = f.sfits in let m = mag_rem a b in record { sfits = omega arith }

-- what is left where the divisor isn't 0
rest_left : (a b : ℤ) → FitsSigned w32 a → int_wrap w32 (a -ℤ int_wrap w32 (int_wrap w32 (int_div a b) *ℤ b)) ≡ int_rem a b
rest_left a b f =
    ap (λ z. int_wrap w32 (a -ℤ z)) (int_wrap-mul_left w32 (int_div a b) b) ∙ int_wrap-sub_right w32 a (int_div a b *ℤ b)
    ∙ ap (int_wrap w32) (rest (int_div a b *ℤ b) (int_rem a b) a (quot-rem a b)) ∙ int_wrap_fits w32 (int_rem a b) (rest_fits a b f)

pub rest_is : (a b : ℤ) → FitsSigned w32 a → binary_of op.Sub a (binary_of op.Mul (binary_of op.Div a b) b) ≡ binary_of op.Rem a b
rest_is a (pos zero) f =
    ap (λ z. int_wrap w32 (a -ℤ z)) (int_wrap_fits w32 (pos 0) (record { sfits = omega arith })) ∙ ap (int_wrap w32) (minus_zero a) ∙ int_wrap_fits w32 a f
rest_is a (pos (suc b)) f = rest_left a (pos (suc b)) f
rest_is a (negsuc b) f = rest_left a (negsuc b) f

-- ---- halves of an immediate

low_small : (m : ℕ) → m < 32768 → cast_signed w16 m ≡ pos m
low_small m h = to_z_pos w16 m h

low_large : (m : ℕ) → 32768 ≤ m → m < 65536 → cast_signed w16 m ≡ negsuc (65535 - m)
low_large m h k =
    let e : m ≡ 65536 - suc (65535 - m) = omega arith in
    ap (cast_signed w16) e ∙ to_z-neg w16 (65535 - m) (omega arith)

unsigned_low : (m : ℕ) → m < 65536 → cast_unsigned w16 (cast_signed w16 m) ≡ m
unsigned_low m h = of_z-to_z w16 m h

-- sixteen bits, read with a sign, fit
pub fits_half : (m : ℕ) → m < 65536 → FitsSigned w16 (cast_signed w16 m)
fits_half m h = sfits_to_z (record { fits = h })

joined : (high : ℤ) (low : ℕ) (upper : ℕ) → cast_signed w16 upper ≡ high → low < 65536 →
    cast_signed w16 upper *ℤ pos 65536 +ℤ pos (cast_unsigned w16 (cast_signed w16 low)) ≡ high *ℤ pos 65536 +ℤ pos low
joined high low upper e h =
    ap (λ z. z *ℤ pos 65536 +ℤ pos (cast_unsigned w16 (cast_signed w16 low))) e ∙ ap (λ m. high *ℤ pos 65536 +ℤ pos m) (unsigned_low low h)

upper_pos : (n : ℕ) → pos (n / 65536) *ℤ pos 65536 +ℤ pos (n % 65536) ≡ pos n
upper_pos n = omega (arith, ints)

upper_negsuc : (n m : ℕ) → n < 2147483648 → m ≡ 4294967296 - suc n → negsuc (65535 - m / 65536) *ℤ pos 65536 +ℤ pos (m % 65536) ≡ negsuc n
upper_negsuc n m h e = omega (arith, ints)

pub halves : (z : ℤ) → FitsSigned w32 z → immediate (Some (upper_half z)) (lower_half z) ≡ z
halves (pos n) f =
    let h = f.sfits in
    joined (pos (n / 65536)) (n % 65536) (n / 65536) (low_small (n / 65536) (omega arith)) (omega arith) ∙ upper_pos n
halves (negsuc n) f =
    let h = f.sfits in
    let m = 4294967296 - suc n in
    joined (negsuc (65535 - m / 65536)) (m % 65536) (m / 65536) (low_large (m / 65536) (omega arith) (omega arith)) (omega arith)
    ∙ upper_negsuc n m (omega arith) refl

by_less : (n m : ℕ) → nat_lt n m ≡ true → n < m
by_less n m e = grind arith

pub fits_short : (z : ℤ) → is_short z ≡ true → FitsSigned w16 z
fits_short (pos n) e = record { sfits = by_less n 32768 e }
fits_short (negsuc n) e = record { sfits = by_less n 32768 e }

pub fits_word : (z : ℤ) → is_word z ≡ true → FitsSigned w32 z
fits_word (pos n) e = record { sfits = by_less n 2147483648 e }
fits_word (negsuc n) e = record { sfits = by_less n 2147483648 e }

pub word_fits : (z : ℤ) → FitsSigned w32 z → is_word z ≡ true
word_fits (pos n) f = less_is n 2147483648 f.sfits
word_fits (negsuc n) f = less_is n 2147483648 f.sfits

-- ---- addresses

small_sum : (a b : ℕ) → a + b < 2147483648 → binary_of op.Add (pos a) (pos b) ≡ pos (a + b)
small_sum a b h = int_wrap_fits w32 (pos (a + b)) (record { sfits = h })

pub four_times : (j : ℕ) → j < 16777216 → binary_of op.Add (binary_of op.Add (pos j) (pos j)) (binary_of op.Add (pos j) (pos j)) ≡ pos (4 * j)
four_times j h =
    let e : j + j + (j + j) ≡ 4 * j = omega arith in
    ap (λ z. binary_of op.Add z z) (small_sum j j (omega arith)) ∙ small_sum (j + j) (j + j) (omega arith) ∙ ap pos e

good : (words i : ℕ) → i < words → word_at_byte words (4 * i) ≡ Some i
good words i h =
    let whole : 4 * i % 4 ≡ 0 = omega arith in
    let same_word : 4 * i / 4 ≡ i = omega arith in
    ap (λ b. if b then Some (4 * i / 4) else None) (ap (λ r. r == 0 && nat_lt (4 * i / 4) words) whole ∙ ap (λ k. nat_lt k words) same_word ∙ less_is i words h) ∙ ap Some same_word

-- word j behind the first one
pub address : (words first j : ℕ) → first + j < words → words ≤ 16384 →
    word_at_byte words (cast_unsigned w32 (binary_of op.Add (pos (4 * j)) (pos (4 * first)))) ≡ Some (first + j)
address words first j h most =
    let e : 4 * j + 4 * first ≡ 4 * (first + j) = omega arith in
    ap (λ z. word_at_byte words (cast_unsigned w32 z)) (small_sum (4 * j) (4 * first) (omega arith) ∙ ap pos e) ∙ good words (first + j) h

-- ---- indices

abbrev pub is_outside : ℕ → ℤ → Bool
is_outside size z = either (int_lt (last_index size) z) (negative z)

pub outside_is : (size i : ℕ) → is_outside size (pos i) ≡ not_of (nat_lt i size)
outside_is zero i = grind arith
outside_is (suc n) i = grind arith

pub outside_below : (size i : ℕ) → is_outside size (negsuc i) ≡ true
outside_below size i = grind arith

pub last_fits : (size : ℕ) → size ≤ 16384 → FitsSigned w32 (last_index size)
last_fits zero h = record { sfits = omega arith }
last_fits (suc n) h = record { sfits = omega arith }

pub last_short : (size : ℕ) → size ≤ 16384 → FitsSigned w16 (last_index size)
last_short zero h = record { sfits = omega arith }
last_short (suc n) h = record { sfits = omega arith }

-- ---- what operators give has 32 bits

fits_truth : (b : Bool) → FitsSigned w32 (truth_of b)
fits_truth true = record { sfits = omega arith }
fits_truth false = record { sfits = omega arith }

pub fits_zero : FitsSigned w32 (pos 0)
fits_zero = record { sfits = omega arith }

pub fits_unary : (o : UnOp) (a : ℤ) → FitsSigned w32 a → FitsSigned w32 (unary_of o a)
fits_unary un.Neg a f = SFits-int_wrap w32 (neg_ℤ a)
fits_unary un.Not a f = fits_truth (same a (pos 0))
fits_unary un.Flip a f = let h = bits_below a f in fits_cast (4294967296 - 1 - cast_unsigned w32 a) (omega arith)

fits_quotient : (a b : ℤ) → FitsSigned w32 (binary_of op.Div a b)
fits_quotient a (pos zero) = fits_zero
fits_quotient a (pos (suc b)) = SFits-int_wrap w32 (int_div a (pos (suc b)))
fits_quotient a (negsuc b) = SFits-int_wrap w32 (int_div a (negsuc b))

fits_rest : (a b : ℤ) → FitsSigned w32 a → FitsSigned w32 (binary_of op.Rem a b)
fits_rest a (pos zero) f = f
fits_rest a (pos (suc b)) f = rest_fits a (pos (suc b)) f
fits_rest a (negsuc b) f = rest_fits a (negsuc b) f

fits_shifted : (a b : ℤ) → FitsSigned w32 a → FitsSigned w32 (binary_of op.ShiftRight a b)
fits_shifted a b f = let h = f.sfits in let m = mag_shr a (2 ^ places_of b) in record { sfits = omega arith }

fits_xor : (x y : ℤ) → FitsSigned w32 x → FitsSigned w32 y → FitsSigned w32 (int_bit_xor w32 x y)
fits_xor x y f g = fits_cast (bit_xor (cast_unsigned w32 x) (cast_unsigned w32 y)) (xor_of_32 _ _ (bits_below x f) (bits_below y g))

pub fits_binary : (o : BinOp) (a b : ℤ) → FitsSigned w32 a → FitsSigned w32 b → FitsSigned w32 (binary_of o a b)
fits_binary op.Or a b f g = fits_truth (either (is_true a) (is_true b))
fits_binary op.And a b f g = fits_truth (both (is_true a) (is_true b))
fits_binary op.BitOr a b f g = fits_or a b f g
fits_binary op.BitXor a b f g = fits_xor a b f g
fits_binary op.BitAnd a b f g = fits_and a b f
fits_binary op.Equal a b f g = fits_truth (same a b)
fits_binary op.NotEqual a b f g = fits_truth (not_of (same a b))
fits_binary op.Less a b f g = fits_truth (int_lt a b)
fits_binary op.LessEqual a b f g = fits_truth (int_le a b)
fits_binary op.Greater a b f g = fits_truth (int_lt b a)
fits_binary op.GreaterEqual a b f g = fits_truth (int_le b a)
fits_binary op.ShiftLeft a b f g = SFits-int_wrap w32 (a *ℤ pos (2 ^ places_of b))
fits_binary op.ShiftRight a b f g = fits_shifted a b f
fits_binary op.Add a b f g = SFits-int_wrap w32 (a +ℤ b)
fits_binary op.Sub a b f g = SFits-int_wrap w32 (a -ℤ b)
fits_binary op.Mul a b f g = SFits-int_wrap w32 (a *ℤ b)
fits_binary op.Div a b f g = fits_quotient a b
fits_binary op.Rem a b f g = fits_rest a b f

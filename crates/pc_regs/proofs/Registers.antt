-- What words leave in registers, word by word.
use Rattle.std.proofs.Common.{◌≡◌, ℕ, ◌<◌, ◌≤◌, ◌==◌, ℤ, pos, int_lt, Bool, false, if◌then◌else◌, FitsSigned, List, [], ◌∷◌, ◌++◌, length, get_or, set, Option, Some, None, refl, sym, ap, subst, ◌∙◌, arith}
use Rattle.std.proofs.lemmas.List.{get_or-set_same, get_or-set_other, length-set}
use Rattle.std.specs.Int.{w32, int_bit_and, int_bit_or, int_bit_xor}
use Rattle.std.proofs.lemmas.Int.{int_wrap_fits}
use Rattle.mb_isa.specs.declared.Reg.{Reg}
use Rattle.mb_isa.specs.declared.Reg.TheVariants.{R0, R6, R7}
use Rattle.mb_isa.specs.Registers.{number}
use Rattle.pt_image.specs.declared.Parts.{Parts}
use Rattle.mb_isa.proofs.Inverse.{number-below}
use Rattle.mb_isa.specs.Cells.{Cells, register, with_register, compared, logical_right, cells_do, machine}
use Rattle.pt_base.specs.declared.BinOp.TheVariants as op
use Rattle.pt_base.specs.Operators.{binary_of, truth_of, not_of, either, both, is_true}
use Rattle.pc_regs.proofs.Numbers.{negative, fits_with_top, sign-with_top, fits_or, fits_and, sign-or, sign-and, sign_shifted, turned, true_is}
use Rattle.pc_lower.specs.Words.{Written, alone, after_imm, and_then, does_all}

not_zero : (n : ℕ) → 1 ≤ n → (n == 0) ≡ false
not_zero n h = grind arith

-- a register has a value, and all others are as they were
pub record Gives (d e : Cells) (rd : Reg) (v : ℤ) : Type 0 where
  pub count : length e.registers ≡ 32
  pub memory : e.memory ≡ d.memory
  pub value : register e rd ≡ v
  pub others : (r : Reg) → ¬ (number r ≡ number rd) → register e r ≡ register d r

pub gives : (d : Cells) (rd : Reg) (v : ℤ) → length d.registers ≡ 32 → 1 ≤ number rd → Gives d (with_register rd v d) rd v
gives d rd v count some =
    let nonzero = not_zero (number rd) some in
    let written : (if number rd == 0 then d.registers else set d.registers (number rd) v) ≡ set d.registers (number rd) v =
    ap (λ b. if b then d.registers else set d.registers (number rd) v) nonzero in
    let read : (registers : List ℤ) → (if number rd == 0 then pos 0 else get_or registers (number rd) (pos 0)) ≡ get_or registers (number rd) (pos 0) =
    λ registers. ap (λ b. if b then pos 0 else get_or registers (number rd) (pos 0)) nonzero in
    let within : number rd < length d.registers = let h = number-below rd in omega arith in
    record {
      count = ap length written ∙ length-set d.registers (number rd) v ∙ count;
      memory = refl;
      value = read (if number rd == 0 then d.registers else set d.registers (number rd) v)
          ∙ ap (λ rs. get_or rs (number rd) (pos 0)) written ∙ get_or-set_same d.registers (number rd) v (pos 0) within;
      others = λ r other.
          ap (λ rs. if number r == 0 then pos 0 else get_or rs (number r) (pos 0)) written
          ∙ ap (λ x. if number r == 0 then pos 0 else x) (get_or-set_other d.registers (number rd) (number r) v (pos 0) other);
    }

joined : (f g h : Cells → Option Cells) → ((d : Cells) → f d ≡ and_then g (h d)) → (o : Option Cells) → and_then f o ≡ and_then g (and_then h o)
joined f g h e None = refl
joined f g h e (Some d) = e d

module _ (image : Parts) (row : List ℤ) where
  abbrev pub does : List Written → Cells → Option Cells
  does ws d = does_all (machine image row) ws d

  pub does-append : (p q : List Written) (d : Cells) → does (p ++ q) d ≡ and_then (does q) (does p d)
  does-append [] q d = refl
  does-append (alone w ∷ p) q d = joined (does (p ++ q)) (does q) (does p) (does-append p q) (cells_do w None d)
  does-append (after_imm upper w ∷ p) q d = joined (does (p ++ q)) (does q) (does p) (does-append p q) (cells_do w (Some upper) d)

  pub followed : (p q : List Written) (d e f : Cells) → does p d ≡ Some e → does q e ≡ Some f → does (p ++ q) d ≡ Some f
  followed p q d e f first second = does-append p q d ∙ ap (and_then (does q)) first ∙ second

-- ---- flags

-- an operand's register: none of those of use within a step, but for r4 and r5, which hold operands
pub record IsOperand (r : Reg) : Type 0 where
  pub above : 4 ≤ number r
  pub not_6 : ¬ (number r ≡ 6)
  pub not_7 : ¬ (number r ≡ 7)
  pub not_8 : ¬ (number r ≡ 8)

-- r6 says by its sign whether something holds, and operands are as they were
pub record Flags (d e : Cells) (t : Bool) : Type 0 where
  pub count : length e.registers ≡ 32
  pub memory : e.memory ≡ d.memory
  pub fits : FitsSigned w32 (register e R6)
  pub flag : negative (register e R6) ≡ t
  pub kept : (r : Reg) → IsOperand r → register e r ≡ register d r

-- a register has its value, and registers that keep words are as they were
pub record Results (d e : Cells) (rd : Reg) (v : ℤ) : Type 0 where
  pub count : length e.registers ≡ 32
  pub memory : e.memory ≡ d.memory
  pub value : register e rd ≡ v
  pub kept : (r : Reg) → 9 ≤ number r → ¬ (number r ≡ number rd) → register e r ≡ register d r

pub operand_above : (r : Reg) → 9 ≤ number r → IsOperand r
operand_above r h = record { above = omega arith; not_6 = λ e. omega arith; not_7 = λ e. omega arith; not_8 = λ e. omega arith }

-- with register 6 set
flags_set : (d : Cells) (v : ℤ) (t : Bool) → length d.registers ≡ 32 → FitsSigned w32 v → negative v ≡ t → Flags d (with_register R6 v d) t
flags_set d v t count fits flag =
    let g = gives d R6 v count (omega arith) in
    record {
      count = g.count;
      memory = g.memory;
      fits = subst (FitsSigned w32) (sym g.value) fits;
      flag = ap negative g.value ∙ flag;
      kept = λ r o. g.others r o.not_6;
    }

pub compare_flags : (d : Cells) (a b : Reg) → length d.registers ≡ 32 →
    Flags d (with_register R6 (compared (register d a) (register d b)) d) (int_lt (register d b) (register d a))
compare_flags d a b count =
    flags_set d (compared (register d a) (register d b)) (int_lt (register d b) (register d a)) count
    (fits_with_top (int_lt (register d b) (register d a)) (binary_of op.Sub (register d b) (register d a)))
    (sign-with_top (int_lt (register d b) (register d a)) (binary_of op.Sub (register d b) (register d a)))

-- r6 and r7 each say by their sign whether something holds
pub record BothFlags (d e : Cells) (t u : Bool) : Type 0 where
  pub flags : Flags d e t
  pub fits : FitsSigned w32 (register e R7)
  pub flag : negative (register e R7) ≡ u

-- r6 is set, whatever it was
pub flags_again : (d e : Cells) (t : Bool) → Flags d e t → (v : ℤ) (u : Bool) → FitsSigned w32 v → negative v ≡ u → Flags d (with_register R6 v e) u
flags_again d e t flags v u fits flag =
    let again = flags_set e v u flags.count fits flag in
    record {
      count = again.count;
      memory = again.memory ∙ flags.memory;
      fits = again.fits;
      flag = again.flag;
      kept = λ r o. again.kept r o ∙ flags.kept r o;
    }

-- r7 is set
pub second_set : (d e : Cells) (t : Bool) → Flags d e t → (v : ℤ) (u : Bool) → FitsSigned w32 v → negative v ≡ u → BothFlags d (with_register R7 v e) t u
second_set d e t flags v u fits flag =
    let g = gives e R7 v flags.count (omega arith) in
    let same_6 : register (with_register R7 v e) R6 ≡ register e R6 = g.others R6 (λ n. omega (arith, n)) in
    record {
      flags = record {
        count = g.count;
        memory = g.memory ∙ flags.memory;
        fits = subst (FitsSigned w32) (sym same_6) flags.fits;
        flag = ap negative same_6 ∙ flags.flag;
        kept = λ r o. g.others r o.not_7 ∙ flags.kept r o;
      };
      fits = subst (FitsSigned w32) (sym g.value) fits;
      flag = ap negative g.value ∙ flag;
    }

pub either_set : (d e : Cells) (t u : Bool) → BothFlags d e t u → Flags d (with_register R6 (int_bit_or w32 (register e R6) (register e R7)) e) (either t u)
either_set d e t u b =
    flags_again d e t b.flags (int_bit_or w32 (register e R6) (register e R7)) (either t u) (fits_or (register e R6) (register e R7) b.flags.fits b.fits)
    (sign-or (register e R6) (register e R7) b.flags.fits b.fits ∙ ap (λ x. either x (negative (register e R7))) b.flags.flag ∙ ap (either t) b.flag)

pub both_set : (d e : Cells) (t u : Bool) → BothFlags d e t u → Flags d (with_register R6 (int_bit_and w32 (register e R6) (register e R7)) e) (both t u)
both_set d e t u b =
    flags_again d e t b.flags (int_bit_and w32 (register e R6) (register e R7)) (both t u) (fits_and (register e R6) (register e R7) b.flags.fits)
    (sign-and (register e R6) (register e R7) b.flags.fits b.fits ∙ ap (λ x. both x (negative (register e R7))) b.flags.flag ∙ ap (both t) b.flag)

-- an operand's sign joins the flag
pub operand_joins : (d e : Cells) (t : Bool) (r : Reg) → Flags d e t → IsOperand r → FitsSigned w32 (register d r) →
    Flags d (with_register R6 (int_bit_or w32 (register e R6) (register e r)) e) (either t (negative (register d r)))
operand_joins d e t r flags o fits =
    let there = flags.kept r o in
    let fits_there : FitsSigned w32 (register e r) = subst (FitsSigned w32) (sym there) fits in
    flags_again d e t flags (int_bit_or w32 (register e R6) (register e r)) (either t (negative (register d r))) (fits_or (register e R6) (register e r) flags.fits fits_there)
    (sign-or (register e R6) (register e r) flags.fits fits_there ∙ ap (λ x. either x (negative (register e r))) flags.flag ∙ ap (λ x. either t (negative x)) there)

pub unequal_zero_flags : (d : Cells) (by : Reg) → length d.registers ≡ 32 → IsOperand by → FitsSigned w32 (register d by) →
    Flags d (with_register R6 (int_bit_or w32 (register (with_register R6 (compared (register d by) (pos 0)) d) R6) (register (with_register R6 (compared (register d by) (pos 0)) d) by)) (with_register R6 (compared (register d by) (pos 0)) d)) (is_true (register d by))
unequal_zero_flags d by count o fits =
    let first = compare_flags d by R0 count in
    let e = with_register R6 (compared (register d by) (pos 0)) d in
    subst (Flags d (with_register R6 (int_bit_or w32 (register e R6) (register e by)) e)) (sym (true_is (register d by)))
    (operand_joins d e (int_lt (pos 0) (register d by)) by first o fits)

pub value_31 : binary_of op.Add (pos 0) (pos 31) ≡ pos 31
value_31 = int_wrap_fits w32 (pos 31) (record { sfits = omega arith })

abbrev pub with_31 : Cells → Cells
with_31 e = with_register R7 (binary_of op.Add (pos 0) (pos 31)) e

-- the flag as a number
pub sign_results : (d e : Cells) (t : Bool) (to : Reg) → Flags d e t → 1 ≤ number to →
    Results d (with_register to (logical_right (register (with_31 e) R6) (register (with_31 e) R7)) (with_31 e)) to (truth_of t)
sign_results d e t to flags some =
    let g = gives e R7 (binary_of op.Add (pos 0) (pos 31)) flags.count (omega arith) in
    let h = gives (with_31 e) to (logical_right (register (with_31 e) R6) (register (with_31 e) R7)) g.count some in
    record {
      count = h.count;
      memory = h.memory ∙ g.memory ∙ flags.memory;
      value = h.value ∙ ap (λ x. logical_right x (register (with_31 e) R7)) (g.others R6 (λ n. omega (arith, n)))
          ∙ ap (logical_right (register e R6)) (g.value ∙ value_31) ∙ sign_shifted (register e R6) flags.fits ∙ ap truth_of flags.flag;
      kept = λ r above other. h.others r other ∙ g.others r (λ n. omega (arith, n, above)) ∙ flags.kept r (operand_above r above);
    }

-- a register is set behind others that are of use within a step only
pub results_then : (d e : Cells) (rd to : Reg) (x v y : ℤ) → Results d e rd x → number rd < 9 → 1 ≤ number to → v ≡ y → Results d (with_register to v e) to y
results_then d e rd to x v y results low some is =
    let h = gives e to v results.count some in
    record {
      count = h.count;
      memory = h.memory ∙ results.memory;
      value = h.value ∙ is;
      kept = λ r above other. h.others r other ∙ results.kept r above (λ n. omega (arith, n, above, low));
    }

pub no_sign_results : (d e : Cells) (t : Bool) (to : Reg) → Flags d e t → 1 ≤ number to →
    Results d (with_register to (int_bit_xor w32 (register (with_register R6 (logical_right (register (with_31 e) R6) (register (with_31 e) R7)) (with_31 e)) R6) (pos 1)) (with_register R6 (logical_right (register (with_31 e) R6) (register (with_31 e) R7)) (with_31 e))) to (truth_of (not_of t))
no_sign_results d e t to flags some =
    let s = sign_results d e t R6 flags (omega arith) in
    let f = with_register R6 (logical_right (register (with_31 e) R6) (register (with_31 e) R7)) (with_31 e) in
    results_then d f R6 to (truth_of t) (int_bit_xor w32 (register f R6) (pos 1)) (truth_of (not_of t)) s (omega arith) some
    (ap (λ x. int_bit_xor w32 x (pos 1)) s.value ∙ turned t)

-- one word gives it
pub one_word : (d : Cells) (to : Reg) (v y : ℤ) → length d.registers ≡ 32 → 1 ≤ number to → v ≡ y → Results d (with_register to v d) to y
one_word d to v y count some is =
    let g = gives d to v count some in
    record { count = g.count; memory = g.memory; value = g.value ∙ is; kept = λ r above other. g.others r other }

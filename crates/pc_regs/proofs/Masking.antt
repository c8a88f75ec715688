-- The words of elements read and write through a mask.
use Rattle.std.proofs.Common.{◌≡◌, ℕ, ◌+◌, ◌*◌, ◌<◌, ◌≤◌, ℤ, pos, negsuc, int_lt, Bool, FitsSigned, List, [], ◌∷◌, ◌++◌, length, get_or, set, Some, refl, sym, ap, subst, ◌∙◌, arith}
use Rattle.std.specs.Int.{w32, int_bit_and, int_bit_or, int_bit_xor}
use Rattle.pt_base.specs.declared.BinOp.TheVariants as op
use Rattle.pt_base.specs.Operators.{binary_of, not_of, either}
use Rattle.mb_isa.specs.declared.Reg.{Reg}
use Rattle.mb_isa.specs.declared.Reg.TheVariants.{R3, R6, R7, R8}
use Rattle.mb_isa.specs.declared.Instr.TheVariants.{And, Or, Lwi, Swi}
use Rattle.mb_isa.specs.Registers.{number}
use Rattle.pt_image.specs.declared.Parts.{Parts}
use Rattle.mb_isa.specs.Cells.{Cells, register, with_register, word_at, with_word, compared}
use Rattle.pc_lower.specs.Words.{Written, alone}
use Rattle.pc_regs.specs.Words.{last_index, outside, masked, wide, byte_of, take_words, put_words}
use Rattle.pc_regs.proofs.Numbers.{negative, mask_of, is_outside, sign_filled, mask_turned, zero_and, last_fits, four_times}
use Rattle.pc_regs.proofs.Registers.{does, followed, IsOperand, Flags, Results, Gives, gives, operand_above, compare_flags, operand_joins, value_31, with_31, results_then}
use Rattle.pc_regs.proofs.Operating.{Gained}
use Rattle.pc_regs.proofs.Memory.{load_does, store_does}

-- r6 is the mask of whether something holds, and operands are as they were
pub record Masks (d e : Cells) (t : Bool) : Type 0 where
  pub count : length e.registers ≡ 32
  pub memory : e.memory ≡ d.memory
  pub mask : register e R6 ≡ mask_of t
  pub kept : (r : Reg) → IsOperand r → register e r ≡ register d r

flags_from : (d e f : Cells) (t : Bool) → e.memory ≡ d.memory → ((r : Reg) → IsOperand r → register e r ≡ register d r) → Flags e f t → Flags d f t
flags_from d e f t memory kept flags = record {
  count = flags.count;
  memory = flags.memory ∙ memory;
  fits = flags.fits;
  flag = flags.flag;
  kept = λ r o. flags.kept r o ∙ kept r o;
}

filled : (d e : Cells) (t : Bool) → Flags d e t → Masks d (with_register R6 (binary_of op.ShiftRight (register (with_31 e) R6) (register (with_31 e) R7)) (with_31 e)) t
filled d e t flags =
    let g = gives e R7 (binary_of op.Add (pos 0) (pos 31)) flags.count (omega arith) in
    let h = gives (with_31 e) R6 (binary_of op.ShiftRight (register (with_31 e) R6) (register (with_31 e) R7)) g.count (omega arith) in
    record {
      count = h.count;
      memory = h.memory ∙ g.memory ∙ flags.memory;
      mask = h.value ∙ ap (λ x. binary_of op.ShiftRight x (register (with_31 e) R7)) (g.others R6 (λ n. omega (arith, n)))
          ∙ ap (binary_of op.ShiftRight (register e R6)) (g.value ∙ value_31) ∙ sign_filled (register e R6) flags.fits ∙ ap mask_of flags.flag;
      kept = λ r o. h.others r o.not_6 ∙ g.others r o.not_7 ∙ flags.kept r o;
    }

abbrev pub twice : Reg → Cells → Cells
twice r d = with_register r (binary_of op.Add (register d r) (register d r)) d

fourfold_gives : (d : Cells) (r : Reg) (j : ℕ) → length d.registers ≡ 32 → 1 ≤ number r → register d r ≡ pos j → j ≤ 16384 → Gives d (twice r (twice r d)) r (pos (4 * j))
fourfold_gives d r j count some is few =
    let x = binary_of op.Add (register d r) (register d r) in
    let g = gives d r x count some in
    let e = twice r d in
    let h = gives e r (binary_of op.Add (register e r) (register e r)) g.count some in
    record {
      count = h.count;
      memory = refl;
      value = h.value ∙ ap (λ z. binary_of op.Add z z) (g.value ∙ ap (λ z. binary_of op.Add z z) is) ∙ four_times j (omega arith);
      others = λ q other. h.others q other ∙ g.others q other;
    }

module _ (image : Parts) (row : List ℤ) where
  pub record Masked (ws : List Written) (d : Cells) (t : Bool) : Type 0 where
    pub after : Cells
    pub done : does image row ws d ≡ Some after
    pub masks : Masks d after t

  pub outside_masks : (size : ℕ) (index : Reg) (d : Cells) → length d.registers ≡ 32 → IsOperand index → size ≤ 16384 → FitsSigned w32 (register d index) →
      Masked (outside size index) d (is_outside size (register d index))
  outside_masks size index d count o most fits =
      let last = last_index size in
      let z = register d index in
      let g = gives d R6 (binary_of op.Add (pos 0) last) count (omega arith) in
      let e = with_register R6 (binary_of op.Add (pos 0) last) d in
      let known : register e R6 ≡ last = g.value ∙ zero_and last (last_fits size most) in
      let same_index : register e index ≡ z = g.others index o.not_6 in
      let less : Flags e (with_register R6 (compared (register e index) (register e R6)) e) (int_lt (register e R6) (register e index)) = compare_flags e index R6 g.count in
      let f = with_register R6 (compared (register e index) (register e R6)) e in
      let less_d : Flags d f (int_lt (register e R6) (register e index)) =
      flags_from d e f (int_lt (register e R6) (register e index)) g.memory (λ r p. g.others r p.not_6) less in
      let test : int_lt (register e R6) (register e index) ≡ int_lt last z =
      ap (λ x. int_lt x (register e index)) known ∙ ap (int_lt last) same_index in
      let joins = operand_joins d f (int_lt (register e R6) (register e index)) index less_d o fits in
      let whole = with_register R6 (int_bit_or w32 (register f R6) (register f index)) f in
      record {
        after = with_register R6 (binary_of op.ShiftRight (register (with_31 whole) R6) (register (with_31 whole) R7)) (with_31 whole);
        done = refl;
        masks = filled d whole (is_outside size z) (subst (Flags d whole) (ap (λ b. either b (negative z)) test) joins);
      }

  -- the element's word or, where the mask is turned off, 0
  pub take_gains : (to : Reg) (first size : ℕ) (index : Reg) (d : Cells) (t : Bool) (j : ℕ) → length d.registers ≡ 32 → IsOperand index → 1 ≤ number to →
      size ≤ 16384 → FitsSigned w32 (register d index) → is_outside size (register d index) ≡ t →
      int_bit_and w32 (register d index) (mask_of (not_of t)) ≡ pos j → first + j < length d.memory → length d.memory ≤ 16384 →
      Gained image row (take_words to first size index) d to (int_bit_and w32 (word_at d (first + j)) (mask_of (not_of t)))
  take_gains to first size index d t j count o some few fits is reached within most =
      let m = outside_masks size index d count o few fits in
      let e = m.after in
      let mask : register e R6 ≡ mask_of t = m.masks.mask ∙ ap mask_of is in
      let v1 = int_bit_xor w32 (register e R6) (negsuc 0) in
      let g1 = gives e R6 v1 m.masks.count (omega arith) in
      let e1 = with_register R6 v1 e in
      let turned_mask : register e1 R6 ≡ mask_of (not_of t) = g1.value ∙ ap (λ z. int_bit_xor w32 z (negsuc 0)) mask ∙ mask_turned t in
      let index_there : register e1 index ≡ register d index = g1.others index o.not_6 ∙ m.masks.kept index o in
      let v2 = int_bit_and w32 (register e1 index) (register e1 R6) in
      let g2 = gives e1 R7 v2 g1.count (omega arith) in
      let e2 = with_register R7 v2 e1 in
      let at_j : register e2 R7 ≡ pos j =
      g2.value ∙ ap (λ z. int_bit_and w32 z (register e1 R6)) index_there ∙ ap (int_bit_and w32 (register d index)) turned_mask ∙ reached in
      let g4 = fourfold_gives e2 R7 j g2.count (omega arith) at_j (omega (arith, within, most)) in
      let e4 = twice R7 (twice R7 e2) in
      let memory : e4.memory ≡ d.memory = m.masks.memory in
      let v5 = word_at e4 (first + j) in
      let g5 = gives e4 R7 v5 g4.count (omega arith) in
      let e5 = with_register R7 v5 e4 in
      let mask_there : register e5 R6 ≡ mask_of (not_of t) =
      g5.others R6 (λ n. omega (arith, n)) ∙ g4.others R6 (λ n. omega (arith, n)) ∙ g2.others R6 (λ n. omega (arith, n)) ∙ turned_mask in
      let before : Results d e5 R7 (word_at d (first + j)) = record {
        count = g5.count;
        memory = memory;
        value = g5.value ∙ ap (λ ws. get_or ws (first + j) (pos 0)) memory;
        kept = λ r above other. g5.others r other ∙ g4.others r other ∙ g2.others r other ∙ g1.others r (λ n. omega (arith, n, above)) ∙ m.masks.kept r (operand_above r above);
      } in
      let loads = load_does image row R7 R7 first j e4 (alone (And to R7 R6) ∷ []) g4.value (subst (λ ws. first + j < length ws) (sym memory) within) (subst (λ ws. length ws ≤ 16384) (sym memory) most) in
      record {
        after = with_register to (int_bit_and w32 (register e5 R7) (register e5 R6)) e5;
        done = followed image row (outside size index) (masked R6 R7 index ++ wide (byte_of first) (Lwi R7 R7) ∷ alone (And to R7 R6) ∷ []) d e _ m.done loads;
        results = results_then d e5 R7 to (word_at d (first + j)) (int_bit_and w32 (register e5 R7) (register e5 R6)) (int_bit_and w32 (word_at d (first + j)) (mask_of (not_of t))) before (omega arith) some
            (ap (λ z. int_bit_and w32 z (register e5 R6)) before.value ∙ ap (int_bit_and w32 (word_at d (first + j))) mask_there);
      }

  -- a memory word has its value, and registers that keep words are as they were
  pub record Stored (ws : List Written) (d : Cells) (place : ℕ) (v : ℤ) : Type 0 where
    pub after : Cells
    pub done : does image row ws d ≡ Some after
    pub count : length after.registers ≡ 32
    pub memory : after.memory ≡ set d.memory place v
    pub kept : (r : Reg) → 9 ≤ number r → register after r ≡ register d r

  -- the word goes to the element or, where the mask is turned off, the first word to itself
  pub put_stores : (first size : ℕ) (index by : Reg) (d : Cells) (t : Bool) (j : ℕ) → length d.registers ≡ 32 → IsOperand index → IsOperand by →
      size ≤ 16384 → FitsSigned w32 (register d index) → is_outside size (register d index) ≡ t →
      int_bit_and w32 (register d index) (mask_of (not_of t)) ≡ pos j → first + j < length d.memory → length d.memory ≤ 16384 →
      Stored (put_words first size index by) d (first + j)
      (int_bit_or w32 (int_bit_and w32 (word_at d (first + j)) (mask_of t)) (int_bit_and w32 (register d by) (mask_of (not_of t))))
  put_stores first size index by d t j count o q few fits is reached within most =
      let m = outside_masks size index d count o few fits in
      let e = m.after in
      let mask : register e R6 ≡ mask_of t = m.masks.mask ∙ ap mask_of is in
      let v1 = int_bit_xor w32 (register e R6) (negsuc 0) in
      let g1 = gives e R7 v1 m.masks.count (omega arith) in
      let e1 = with_register R7 v1 e in
      let turned_mask : register e1 R7 ≡ mask_of (not_of t) = g1.value ∙ ap (λ z. int_bit_xor w32 z (negsuc 0)) mask ∙ mask_turned t in
      let index_there : register e1 index ≡ register d index = g1.others index o.not_7 ∙ m.masks.kept index o in
      let v2 = int_bit_and w32 (register e1 index) (register e1 R7) in
      let g2 = gives e1 R3 v2 g1.count (omega arith) in
      let e2 = with_register R3 v2 e1 in
      let at_j : register e2 R3 ≡ pos j =
      g2.value ∙ ap (λ z. int_bit_and w32 z (register e1 R7)) index_there ∙ ap (int_bit_and w32 (register d index)) turned_mask ∙ reached in
      let g4 = fourfold_gives e2 R3 j g2.count (omega arith) at_j (omega (arith, within, most)) in
      let e4 = twice R3 (twice R3 e2) in
      let to_e1 : (r : Reg) → (number r ≡ 3 → ⊥) → register e4 r ≡ register e1 r = λ r other. g4.others r other ∙ g2.others r other in
      let by_there : register e4 by ≡ register d by = let h = q.above in to_e1 by (λ n. omega (arith, n, h)) ∙ g1.others by q.not_7 ∙ m.masks.kept by q in
      let v5 = int_bit_and w32 (register e4 by) (register e4 R7) in
      let g5 = gives e4 R8 v5 g4.count (omega arith) in
      let e5 = with_register R8 v5 e4 in
      let new : v5 ≡ int_bit_and w32 (register d by) (mask_of (not_of t)) =
      ap (λ z. int_bit_and w32 z (register e4 R7)) by_there ∙ ap (int_bit_and w32 (register d by)) (to_e1 R7 (λ n. omega (arith, n)) ∙ turned_mask) in
      let memory : e5.memory ≡ d.memory = m.masks.memory in
      let at_4j : register e5 R3 ≡ pos (4 * j) = g5.others R3 (λ n. omega (arith, n)) ∙ g4.value in
      let v6 = word_at e5 (first + j) in
      let g6 = gives e5 R7 v6 g5.count (omega arith) in
      let e6 = with_register R7 v6 e5 in
      let to_d : (r : Reg) → 9 ≤ number r → register e6 r ≡ register d r =
      λ r above. g6.others r (λ n. omega (arith, n, above)) ∙ g5.others r (λ n. omega (arith, n, above)) ∙ to_e1 r (λ n. omega (arith, n, above)) ∙ g1.others r (λ n. omega (arith, n, above))
      ∙ m.masks.kept r (operand_above r above) in
      let old : register e6 R7 ≡ word_at d (first + j) = g6.value ∙ ap (λ ws. get_or ws (first + j) (pos 0)) memory in
      let mask_there : register e6 R6 ≡ mask_of t =
      g6.others R6 (λ n. omega (arith, n)) ∙ g5.others R6 (λ n. omega (arith, n)) ∙ to_e1 R6 (λ n. omega (arith, n)) ∙ g1.others R6 (λ n. omega (arith, n)) ∙ mask in
      let v7 = int_bit_and w32 (register e6 R7) (register e6 R6) in
      let g7 = gives e6 R7 v7 g6.count (omega arith) in
      let e7 = with_register R7 v7 e6 in
      let v8 = int_bit_or w32 (register e7 R7) (register e7 R8) in
      let g8 = gives e7 R7 v8 g7.count (omega arith) in
      let e8 = with_register R7 v8 e7 in
      let at_end : register e8 R3 ≡ pos (4 * j) = g8.others R3 (λ n. omega (arith, n)) ∙ g7.others R3 (λ n. omega (arith, n)) ∙ g6.others R3 (λ n. omega (arith, n)) ∙ at_4j in
      let kept_part : register e7 R7 ≡ int_bit_and w32 (word_at d (first + j)) (mask_of t) =
      g7.value ∙ ap (λ z. int_bit_and w32 z (register e6 R6)) old ∙ ap (int_bit_and w32 (word_at d (first + j))) mask_there in
      let new_part : register e7 R8 ≡ int_bit_and w32 (register d by) (mask_of (not_of t)) =
      g7.others R8 (λ n. omega (arith, n)) ∙ g6.others R8 (λ n. omega (arith, n)) ∙ g5.value ∙ new in
      let both_parts : register e8 R7 ≡ int_bit_or w32 (int_bit_and w32 (word_at d (first + j)) (mask_of t)) (int_bit_and w32 (register d by) (mask_of (not_of t))) =
      g8.value ∙ ap (λ z. int_bit_or w32 z (register e7 R8)) kept_part ∙ ap (int_bit_or w32 (int_bit_and w32 (word_at d (first + j)) (mask_of t))) new_part in
      let within_there : first + j < length e5.memory = subst (λ ws. first + j < length ws) (sym memory) within in
      let most_there : length e5.memory ≤ 16384 = subst (λ ws. length ws ≤ 16384) (sym memory) most in
      let stores : does image row (wide (byte_of first) (Swi R7 R3) ∷ []) e8 ≡ Some (with_word (first + j) (register e8 R7) e8) = store_does image row R7 R3 first j e8 [] at_end within_there most_there in
      let loads : does image row (wide (byte_of first) (Lwi R7 R3) ∷ alone (And R7 R7 R6) ∷ alone (Or R7 R7 R8) ∷ wide (byte_of first) (Swi R7 R3) ∷ []) e5 ≡ Some (with_word (first + j) (register e8 R7) e8) =
      load_does image row R7 R3 first j e5 (alone (And R7 R7 R6) ∷ alone (Or R7 R7 R8) ∷ wide (byte_of first) (Swi R7 R3) ∷ []) at_4j within_there most_there ∙ stores in
      record {
        after = with_word (first + j) (register e8 R7) e8;
        done = followed image row (outside size index) (masked R7 R3 index ++ alone (And R8 by R7) ∷ wide (byte_of first) (Lwi R7 R3) ∷ alone (And R7 R7 R6) ∷ alone (Or R7 R7 R8) ∷ wide (byte_of first) (Swi R7 R3) ∷ []) d e _ m.done loads;
        count = g8.count;
        memory = ap (λ ws. set ws (first + j) (register e8 R7)) memory ∙ ap (set d.memory (first + j)) both_parts;
        kept = λ r above. g8.others r (λ n. omega (arith, n, above)) ∙ g7.others r (λ n. omega (arith, n, above)) ∙ to_d r above;
      }

-- The words of operators give what the operators give.
use Rattle.std.proofs.Common.{◌≡◌, ◌≤◌, ℤ, pos, negsuc, int_lt, Bool, FitsSigned, List, [], ◌∷◌, ◌++◌, length, Some, refl, sym, ap, subst, ◌∙◌, arith}
use Rattle.std.specs.Int.{w32, int_bit_or, int_bit_xor}
use Rattle.pt_base.specs.declared.UnOp.{UnOp}
use Rattle.pt_base.specs.declared.UnOp.TheVariants as un
use Rattle.pt_base.specs.declared.BinOp.{BinOp}
use Rattle.pt_base.specs.declared.BinOp.TheVariants as op
use Rattle.pt_base.specs.Operators.{unary_of, binary_of, truth_of, not_of, either, both, is_true, same}
use Rattle.mb_isa.specs.declared.Reg.{Reg}
use Rattle.mb_isa.specs.declared.Reg.TheVariants.{R0, R6, R7}
use Rattle.mb_isa.specs.declared.Instr.{Instr}
use Rattle.mb_isa.specs.declared.Instr.TheVariants.{Addk, Rsubk, Cmp, Or, And, Xor, Mul, Idiv, Bsra, Bsll}
use Rattle.mb_isa.specs.Registers.{number}
use Rattle.pt_image.specs.declared.Parts.{Parts}
use Rattle.mb_isa.specs.Cells.{Cells, register, with_register, compared}
use Rattle.pc_lower.specs.Words.{Written, alone}
use Rattle.pc_regs.specs.Words.{unary_words, binary_words, sign, no_sign, unequal, unequal_zero, both_unequal_zero}
use Rattle.pc_regs.proofs.Numbers.{negative, fits_with_top, sign-with_top, fits_or, sign-or, true_is, turned_twice, other_is, at_most_is, xor_ones, from_zero, rest_is}
use Rattle.pc_regs.proofs.Registers.{does, followed, IsOperand, Flags, Results, BothFlags, compare_flags, second_set, either_set, both_set, unequal_zero_flags, sign_results, no_sign_results, results_then, one_word, gives}

module _ (image : Parts) (row : List ℤ) where
  -- the words set an r6 that says whether something holds
  pub record Flagged (ws : List Written) (d : Cells) (t : Bool) : Type 0 where
    pub after : Cells
    pub done : does image row ws d ≡ Some after
    pub flags : Flags d after t

  -- the words give a register its value
  pub record Gained (ws : List Written) (d : Cells) (rd : Reg) (v : ℤ) : Type 0 where
    pub after : Cells
    pub done : does image row ws d ≡ Some after
    pub results : Results d after rd v

  pub then_sign : (ws : List Written) (d : Cells) (t : Bool) (to : Reg) → Flagged ws d t → 1 ≤ number to → Gained (ws ++ sign to) d to (truth_of t)
  then_sign ws d t to f some =
      record {
        after = _;
        done = followed image row ws (sign to) d f.after _ f.done refl;
        results = sign_results d f.after t to f.flags some;
      }

  pub then_no_sign : (ws : List Written) (d : Cells) (t : Bool) (to : Reg) → Flagged ws d t → 1 ≤ number to → Gained (ws ++ no_sign to) d to (truth_of (not_of t))
  then_no_sign ws d t to f some =
      record {
        after = _;
        done = followed image row ws (no_sign to) d f.after _ f.done refl;
        results = no_sign_results d f.after t to f.flags some;
      }

  pub is_less : (d : Cells) (a b : Reg) → length d.registers ≡ 32 → Flagged (alone (Cmp R6 a b) ∷ []) d (int_lt (register d b) (register d a))
  is_less d a b count = record { after = with_register R6 (compared (register d a) (register d b)) d; done = refl; flags = compare_flags d a b count }

  pub is_unequal_zero : (d : Cells) (by : Reg) → length d.registers ≡ 32 → IsOperand by → FitsSigned w32 (register d by) →
      Flagged (unequal_zero by) d (is_true (register d by))
  is_unequal_zero d by count o fits = record { after = _; done = refl; flags = unequal_zero_flags d by count o fits }

  pub is_unequal : (d : Cells) (left right : Reg) → length d.registers ≡ 32 → IsOperand left → IsOperand right →
      Flagged (unequal left right) d (not_of (same (register d left) (register d right)))
  is_unequal d left right count o q =
      let a = register d left in
      let b = register d right in
      let first = compare_flags d right left count in
      let e = with_register R6 (compared b a) d in
      let t = int_lt (register e right) (register e left) in
      let v = compared (register e left) (register e right) in
      let second = second_set d e (int_lt a b) first v t (fits_with_top t (binary_of op.Sub (register e right) (register e left))) (sign-with_top t (binary_of op.Sub (register e right) (register e left))) in
      let f = with_register R7 v e in
      let same_test : either (int_lt a b) t ≡ not_of (same a b) =
      ap (λ x. either (int_lt a b) (int_lt x (register e left))) (first.kept right q) ∙ ap (λ x. either (int_lt a b) (int_lt b x)) (first.kept left o) ∙ sym (other_is a b) in
      record {
        after = with_register R6 (int_bit_or w32 (register f R6) (register f R7)) f;
        done = refl;
        flags = subst (Flags d (with_register R6 (int_bit_or w32 (register f R6) (register f R7)) f)) same_test (either_set d f (int_lt a b) t second);
      }

  pub record BothFlagged (ws : List Written) (d : Cells) (t u : Bool) : Type 0 where
    pub after : Cells
    pub done : does image row ws d ≡ Some after
    pub flags : BothFlags d after t u

  pub are_unequal_zero : (d : Cells) (left right : Reg) → length d.registers ≡ 32 → IsOperand left → IsOperand right →
      FitsSigned w32 (register d left) → FitsSigned w32 (register d right) →
      BothFlagged (both_unequal_zero left right) d (is_true (register d left)) (is_true (register d right))
  are_unequal_zero d left right count o q fits fits_right =
      let first = is_unequal_zero d left count o fits in
      let e = first.after in
      let t = int_lt (pos 0) (register e right) in
      let v = compared (register e right) (pos 0) in
      let second = second_set d e (is_true (register d left)) first.flags v t (fits_with_top t (binary_of op.Sub (pos 0) (register e right))) (sign-with_top t (binary_of op.Sub (pos 0) (register e right))) in
      let f = with_register R7 v e in
      let there : register f right ≡ register d right = second.flags.kept right q in
      let fits_there : FitsSigned w32 (register f right) = subst (FitsSigned w32) (sym there) fits_right in
      let x = int_bit_or w32 (register f R7) (register f right) in
      let flag : negative x ≡ is_true (register d right) =
      sign-or (register f R7) (register f right) second.fits fits_there ∙ ap (λ s. either s (negative (register f right))) second.flag
      ∙ ap (λ y. either t (negative y)) there ∙ ap (λ y. either (int_lt (pos 0) y) (negative (register d right))) (first.flags.kept right q)
      ∙ sym (true_is (register d right)) in
      record {
        after = with_register R7 x f;
        done = followed image row (unequal_zero left) (alone (Cmp R7 right R0) ∷ alone (Or R7 R7 right) ∷ []) d e _ first.done refl;
        flags = second_set d f (is_true (register d left)) second.flags x (is_true (register d right)) (fits_or (register f R7) (register f right) second.fits fits_there) flag;
      }

  -- the words of an operator on one word
  pub unary_gains : (o : UnOp) (d : Cells) (to by : Reg) → length d.registers ≡ 32 → IsOperand by → 1 ≤ number to → FitsSigned w32 (register d by) →
      Gained (unary_words o to by) d to (unary_of o (register d by))
  unary_gains un.Neg d to by count o some fits =
      record { after = _; done = refl; results = one_word d to (binary_of op.Sub (pos 0) (register d by)) (unary_of un.Neg (register d by)) count some (from_zero (register d by)) }
  unary_gains un.Flip d to by count o some fits =
      record { after = _; done = refl; results = one_word d to (int_bit_xor w32 (register d by) (negsuc 0)) (unary_of un.Flip (register d by)) count some (xor_ones (register d by) fits) }
  unary_gains un.Not d to by count o some fits =
      subst (Gained (unary_words un.Not to by) d to) (ap truth_of (turned_twice (same (register d by) (pos 0))))
      (then_no_sign (unequal_zero by) d (is_true (register d by)) to (is_unequal_zero d by count o fits) some)

  -- one word gives it
  single : (w : Instr) (d : Cells) (to : Reg) (v : ℤ) → length d.registers ≡ 32 → 1 ≤ number to → does image row (alone w ∷ []) d ≡ Some (with_register to v d) → Gained (alone w ∷ []) d to v
  single w d to v count some done = record { after = with_register to v d; done = done; results = one_word d to v v count some refl }

  -- the words of an operator on two words
  pub binary_gains : (o : BinOp) (d : Cells) (to left right : Reg) → length d.registers ≡ 32 → IsOperand left → IsOperand right → 1 ≤ number to →
      FitsSigned w32 (register d left) → FitsSigned w32 (register d right) →
      Gained (binary_words o to left right) d to (binary_of o (register d left) (register d right))
  binary_gains op.Or d to left right count o q some f g =
      let b = are_unequal_zero d left right count o q f g in
      then_sign (both_unequal_zero left right ++ alone (Or R6 R6 R7) ∷ []) d (either (is_true (register d left)) (is_true (register d right))) to
      (record { after = _; done = followed image row (both_unequal_zero left right) (alone (Or R6 R6 R7) ∷ []) d b.after _ b.done refl; flags = either_set d b.after (is_true (register d left)) (is_true (register d right)) b.flags }) some
  binary_gains op.And d to left right count o q some f g =
      let b = are_unequal_zero d left right count o q f g in
      then_sign (both_unequal_zero left right ++ alone (And R6 R6 R7) ∷ []) d (both (is_true (register d left)) (is_true (register d right))) to
      (record { after = _; done = followed image row (both_unequal_zero left right) (alone (And R6 R6 R7) ∷ []) d b.after _ b.done refl; flags = both_set d b.after (is_true (register d left)) (is_true (register d right)) b.flags }) some
  binary_gains op.Equal d to left right count o q some f g =
      subst (Gained (binary_words op.Equal to left right) d to) (ap truth_of (turned_twice (same (register d left) (register d right))))
      (then_no_sign (unequal left right) d (not_of (same (register d left) (register d right))) to (is_unequal d left right count o q) some)
  binary_gains op.NotEqual d to left right count o q some f g =
      then_sign (unequal left right) d (not_of (same (register d left) (register d right))) to (is_unequal d left right count o q) some
  binary_gains op.Less d to left right count o q some f g =
      then_sign (alone (Cmp R6 right left) ∷ []) d (int_lt (register d left) (register d right)) to (is_less d right left count) some
  binary_gains op.Greater d to left right count o q some f g =
      then_sign (alone (Cmp R6 left right) ∷ []) d (int_lt (register d right) (register d left)) to (is_less d left right count) some
  binary_gains op.LessEqual d to left right count o q some f g =
      subst (Gained (binary_words op.LessEqual to left right) d to) (ap truth_of (sym (at_most_is (register d left) (register d right))))
      (then_no_sign (alone (Cmp R6 left right) ∷ []) d (int_lt (register d right) (register d left)) to (is_less d left right count) some)
  binary_gains op.GreaterEqual d to left right count o q some f g =
      subst (Gained (binary_words op.GreaterEqual to left right) d to) (ap truth_of (sym (at_most_is (register d right) (register d left))))
      (then_no_sign (alone (Cmp R6 right left) ∷ []) d (int_lt (register d left) (register d right)) to (is_less d right left count) some)
  binary_gains op.BitOr d to left right count o q some f g = single (Or to left right) d to (binary_of op.BitOr (register d left) (register d right)) count some refl
  binary_gains op.BitXor d to left right count o q some f g = single (Xor to left right) d to (binary_of op.BitXor (register d left) (register d right)) count some refl
  binary_gains op.BitAnd d to left right count o q some f g = single (And to left right) d to (binary_of op.BitAnd (register d left) (register d right)) count some refl
  binary_gains op.ShiftLeft d to left right count o q some f g = single (Bsll to left right) d to (binary_of op.ShiftLeft (register d left) (register d right)) count some refl
  binary_gains op.ShiftRight d to left right count o q some f g = single (Bsra to left right) d to (binary_of op.ShiftRight (register d left) (register d right)) count some refl
  binary_gains op.Add d to left right count o q some f g = single (Addk to left right) d to (binary_of op.Add (register d left) (register d right)) count some refl
  binary_gains op.Sub d to left right count o q some f g = single (Rsubk to right left) d to (binary_of op.Sub (register d left) (register d right)) count some refl
  binary_gains op.Mul d to left right count o q some f g = single (Mul to left right) d to (binary_of op.Mul (register d left) (register d right)) count some refl
  binary_gains op.Div d to left right count o q some f g = single (Idiv to right left) d to (binary_of op.Div (register d left) (register d right)) count some refl
  binary_gains op.Rem d to left right count o q some f g =
      let a = register d left in
      let b = register d right in
      let v = binary_of op.Div a b in
      let g1 = gives d R6 v count (omega arith) in
      let e = with_register R6 v d in
      let u = binary_of op.Mul (register e R6) (register e right) in
      let g2 = gives e R6 u g1.count (omega arith) in
      let h = with_register R6 u e in
      let first : register h left ≡ a = g2.others left o.not_6 ∙ g1.others left o.not_6 in
      let second : register h R6 ≡ binary_of op.Mul v b =
      g2.value ∙ ap (λ x. binary_of op.Mul x (register e right)) g1.value ∙ ap (binary_of op.Mul v) (g1.others right q.not_6) in
      let before : Results d h R6 (binary_of op.Mul v b) = record {
        count = g2.count;
        memory = refl;
        value = second;
        kept = λ r above other. g2.others r other ∙ g1.others r other;
      } in
      record {
        after = with_register to (binary_of op.Sub (register h left) (register h R6)) h;
        done = refl;
        results = results_then d h R6 to (binary_of op.Mul v b) (binary_of op.Sub (register h left) (register h R6)) (binary_of op.Rem a b) before (omega arith) some
            (ap (λ x. binary_of op.Sub x (register h R6)) first ∙ ap (binary_of op.Sub a) second ∙ rest_is a b f);
      }

-- How many words a step takes at most.
use Rattle.std.proofs.Common.{◌≡◌, ℕ, ◌+◌, ◌≤◌, ℤ, Bool, true, false, if◌then◌else◌, List, [], ◌∷◌, ◌++◌, refl, arith}
use Rattle.pt_base.specs.declared.UnOp.{UnOp}
use Rattle.pt_base.specs.declared.UnOp.TheVariants as un
use Rattle.pt_base.specs.declared.BinOp.{BinOp}
use Rattle.pt_base.specs.declared.BinOp.TheVariants as op
use Rattle.mb_isa.specs.declared.Reg.{Reg}
use Rattle.mb_isa.specs.declared.Reg.TheVariants.{R0, R3, R4, R5, R6, R7, R8}
use Rattle.mb_isa.specs.declared.Instr.{Instr}
use Rattle.mb_isa.specs.declared.Instr.TheVariants.{Addik, And, Or, Lwi, Swi}
use Rattle.pc_lower.specs.declared.nodes.Step.{Step}
use Rattle.pc_lower.specs.declared.nodes.Step.TheVariants.{Const as const, Load as load, Save as save, Unary as unary_step, Binary as binary_step, TakeElement as take_element, PutElement as put_element, Move as move}
use Rattle.pc_lower.specs.declared.nodes.Test.{Test}
use Rattle.pc_lower.specs.Words.{Written, alone, after_imm, words_in}
use Rattle.pc_regs.specs.declared.placement.Placement.{Placement}
use Rattle.pc_regs.specs.declared.placement.Location.{Location}
use Rattle.pc_regs.specs.declared.placement.Location.TheVariants.{Register as in_register, Memory as in_memory}
use Rattle.pc_regs.specs.Placement.{location_of}
use Rattle.pc_regs.specs.Words.{is_short, upper_half, lower_half, wide, byte_of, load_word, store_word, register_for, fetched, delivered, unary_words, binary_words, take_words, put_words, moved, step_words, steps_words, test_words}
use Rattle.pc_regs.specs.Counts.{most_unary, most_binary, most_words, most_steps_words, most_test_words}

pub words_in-append : (p q : List Written) → words_in (p ++ q) ≡ words_in p + words_in q
words_in-append [] q = omega arith
words_in-append (alone w ∷ p) q = let e = words_in-append p q in omega (arith, e)
words_in-append (after_imm upper w ∷ p) q = let e = words_in-append p q in omega (arith, e)

wide_count : (n : ℤ) (word : ℤ → Instr) (ws : List Written) → words_in (wide n word ∷ ws) ≤ words_in ws + 2
wide_count n word ws = by_width (is_short n)
  where
    by_width : (short : Bool) → words_in ((if short then alone (word n) else after_imm (upper_half n) (word (lower_half n))) ∷ ws) ≤ words_in ws + 2
    by_width true = omega arith
    by_width false = omega arith

fetched_count : (scratch : Reg) (at : Location) → words_in (fetched scratch at) ≤ 2
fetched_count scratch (in_register r) = omega arith
fetched_count scratch (in_memory word) = wide_count (byte_of word) (Lwi scratch R0) []

delivered_count : (scratch : Reg) (at : Location) → words_in (delivered scratch at) ≤ 2
delivered_count scratch (in_register r) = omega arith
delivered_count scratch (in_memory word) = wide_count (byte_of word) (Swi scratch R0) []

unary_count : (o : UnOp) (to by : Reg) → words_in (unary_words o to by) + 4 ≡ most_unary o
unary_count un.Neg to by = refl
unary_count un.Not to by = refl
unary_count un.Flip to by = refl

binary_count : (o : BinOp) (to left right : Reg) → words_in (binary_words o to left right) + 6 ≡ most_binary o
binary_count op.Or to left right = refl
binary_count op.And to left right = refl
binary_count op.BitOr to left right = refl
binary_count op.BitXor to left right = refl
binary_count op.BitAnd to left right = refl
binary_count op.Equal to left right = refl
binary_count op.NotEqual to left right = refl
binary_count op.Less to left right = refl
binary_count op.LessEqual to left right = refl
binary_count op.Greater to left right = refl
binary_count op.GreaterEqual to left right = refl
binary_count op.ShiftLeft to left right = refl
binary_count op.ShiftRight to left right = refl
binary_count op.Add to left right = refl
binary_count op.Sub to left right = refl
binary_count op.Mul to left right = refl
binary_count op.Div to left right = refl
binary_count op.Rem to left right = refl

take_count : (to : Reg) (first size : ℕ) (index : Reg) → words_in (take_words to first size index) ≤ 12
take_count to first size index =
    let w = wide_count (byte_of first) (Lwi R7 R7) (alone (And to R7 R6) ∷ []) in
    omega (arith, w)

put_count : (first size : ℕ) (index by : Reg) → words_in (put_words first size index by) ≤ 16
put_count first size index by =
    let s = wide_count (byte_of first) (Swi R7 R3) [] in
    let l = wide_count (byte_of first) (Lwi R7 R3) (alone (And R7 R7 R6) ∷ alone (Or R7 R7 R8) ∷ wide (byte_of first) (Swi R7 R3) ∷ []) in
    omega (arith, s, l)

moved_count : (to by : Location) → words_in (moved to by) ≤ 4
moved_count (in_register rd) (in_register ra) = omega arith
moved_count (in_register rd) (in_memory word) = let w = wide_count (byte_of word) (Lwi rd R0) [] in omega (arith, w)
moved_count (in_memory word) by =
    let w = wide_count (byte_of word) (Swi (register_for R4 by) R0) [] in
    let f = fetched_count R4 by in
    rw (words_in-append (fetched R4 by) (store_word (register_for R4 by) word)) (omega (arith, w, f))

module _ (p : Placement) where
  step_count : (s : Step) → words_in (step_words p s) ≤ most_words s
  step_count (const to n) =
      let rd = register_for R3 (location_of p to) in
      let w = wide_count n (Addik rd R0) [] in
      let l = delivered_count R3 (location_of p to) in
      rw (words_in-append (wide n (Addik rd R0) ∷ []) (delivered R3 (location_of p to))) (omega (arith, w, l))
  step_count (load to word) =
      let rd = register_for R3 (location_of p to) in
      let w = wide_count (byte_of word) (Lwi rd R0) [] in
      let l = delivered_count R3 (location_of p to) in
      rw (words_in-append (load_word rd word) (delivered R3 (location_of p to))) (omega (arith, w, l))
  step_count (save word by) =
      let from = register_for R4 (location_of p by) in
      let f = fetched_count R4 (location_of p by) in
      let w = wide_count (byte_of word) (Swi from R0) [] in
      rw (words_in-append (fetched R4 (location_of p by)) (store_word from word)) (omega (arith, w, f))
  step_count (unary_step o to by) =
      let core = unary_words o (register_for R3 (location_of p to)) (register_for R4 (location_of p by)) in
      let f = fetched_count R4 (location_of p by) in
      let c = unary_count o (register_for R3 (location_of p to)) (register_for R4 (location_of p by)) in
      let l = delivered_count R3 (location_of p to) in
      rw (words_in-append (fetched R4 (location_of p by)) (core ++ delivered R3 (location_of p to)))
      (rw (words_in-append core (delivered R3 (location_of p to))) (omega (arith, f, c, l)))
  step_count (binary_step o to left right) =
      let core = binary_words o (register_for R3 (location_of p to)) (register_for R4 (location_of p left)) (register_for R5 (location_of p right)) in
      let f = fetched_count R4 (location_of p left) in
      let g = fetched_count R5 (location_of p right) in
      let c = binary_count o (register_for R3 (location_of p to)) (register_for R4 (location_of p left)) (register_for R5 (location_of p right)) in
      let l = delivered_count R3 (location_of p to) in
      rw (words_in-append (fetched R4 (location_of p left)) (fetched R5 (location_of p right) ++ (core ++ delivered R3 (location_of p to))))
      (rw (words_in-append (fetched R5 (location_of p right)) (core ++ delivered R3 (location_of p to)))
      (rw (words_in-append core (delivered R3 (location_of p to))) (omega (arith, f, g, c, l))))
  step_count (take_element to first size index) =
      let core = take_words (register_for R3 (location_of p to)) first size (register_for R4 (location_of p index)) in
      let f = fetched_count R4 (location_of p index) in
      let c = take_count (register_for R3 (location_of p to)) first size (register_for R4 (location_of p index)) in
      let l = delivered_count R3 (location_of p to) in
      rw (words_in-append (fetched R4 (location_of p index)) (core ++ delivered R3 (location_of p to)))
      (rw (words_in-append core (delivered R3 (location_of p to))) (omega (arith, f, c, l)))
  step_count (put_element first size index by) =
      let core = put_words first size (register_for R4 (location_of p index)) (register_for R5 (location_of p by)) in
      let f = fetched_count R4 (location_of p index) in
      let g = fetched_count R5 (location_of p by) in
      let c = put_count first size (register_for R4 (location_of p index)) (register_for R5 (location_of p by)) in
      rw (words_in-append (fetched R4 (location_of p index)) (fetched R5 (location_of p by) ++ core))
      (rw (words_in-append (fetched R5 (location_of p by)) core) (omega (arith, f, g, c)))
  step_count (move to by) = moved_count (location_of p to) (location_of p by)

  pub steps_count : (steps : List Step) → words_in (steps_words p steps) ≤ most_steps_words steps
  steps_count [] = omega arith
  steps_count (s ∷ steps) =
      let c = step_count s in
      let more = steps_count steps in
      rw (words_in-append (step_words p s) (steps_words p steps)) (omega (arith, c, more))

  pub test_count : (t : Test) → words_in (test_words p t) ≤ most_test_words t
  test_count t =
      let c = steps_count t.steps in
      let f = fetched_count R4 (location_of p t.by) in
      rw (words_in-append (steps_words p t.steps) (fetched R4 (location_of p t.by))) (omega (arith, c, f))

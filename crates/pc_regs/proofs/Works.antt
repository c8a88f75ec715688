-- Each word that is written is one that the data do, in every image.
use Rattle.std.proofs.Common.{◌≡◌, ℕ, ◌+◌, ◌/◌, ◌%◌, ◌<◌, ◌≤◌, nat_lt, nat_le, ◌&&◌, ℤ, Bool, true, false, IsTrue, if◌then◌else◌, FitsSigned, List, [], ◌∷◌, ◌++◌, Option, Some, None, refl, arith}
use Rattle.std.specs.Int.{w16, w32, cast_unsigned}
use Rattle.pt_base.specs.declared.UnOp.{UnOp}
use Rattle.pt_base.specs.declared.UnOp.TheVariants as un
use Rattle.pt_base.specs.declared.BinOp.{BinOp}
use Rattle.pt_base.specs.declared.BinOp.TheVariants as op
use Rattle.mb_isa.specs.declared.Reg.{Reg}
use Rattle.mb_isa.specs.declared.Reg.TheVariants.{R0, R3, R4, R5, R6, R7, R8}
use Rattle.mb_isa.specs.declared.Instr.{Instr}
use Rattle.mb_isa.specs.declared.Instr.TheVariants.{Cmp, Or, And, Addik, Lwi, Swi}
use Rattle.mb_isa.specs.Codes.{IsInstr}
use Rattle.pt_image.specs.declared.Parts.{Parts}
use Rattle.pc_lower.specs.declared.nodes.Step.{Step}
use Rattle.pc_lower.specs.declared.nodes.Step.TheVariants.{Const as const, Load as load, Save as save, Unary as unary_step, Binary as binary_step, TakeElement as take_element, PutElement as put_element, Move as move}
use Rattle.pc_lower.specs.Words.{Written, alone, after_imm, IsWork}
use Rattle.pc_regs.specs.declared.placement.Placement.{Placement}
use Rattle.pc_regs.specs.declared.placement.Location.{Location}
use Rattle.pc_regs.specs.declared.placement.Location.TheVariants.{Register as in_register, Memory as in_memory}
use Rattle.pc_regs.specs.Placement.{location_of, memory_words, IsPlacement, is_placed}
use Rattle.pc_regs.specs.Words.{is_short, is_word, upper_half, lower_half, wide, byte_of, load_word, store_word, register_for, fetched, delivered, sign, no_sign, unequal, unequal_zero, both_unequal_zero, outside, masked, unary_words, binary_words, take_words, put_words, moved, step_words, steps_words, is_step_written, are_written, writing_of}
use Rattle.pc_regs.specs.Writings.{AreWork, WritesWork}
use Rattle.pc_regs.proofs.Numbers.{bits_below, fits_half, fits_short, fits_word, last_short}
use Rattle.pc_regs.proofs.Places.{parts, is_less, is_at_most, located, IsLocation}

pub work-append : (p q : List Written) → AreWork p → AreWork q → AreWork (p ++ q)
work-append [] q h g = g
work-append (alone w ∷ p) q h g = (h.0, h.1, work-append p q h.2 g)
work-append (after_imm upper w ∷ p) q h g = (h.0, h.1, h.2, work-append p q h.3 g)

-- a word that takes an upper half
abbrev TakesUpper : (ℤ → Instr) → Type 0
TakesUpper word = (upper : Option ℤ) (imm : ℤ) → FitsSigned w16 imm → IsInstr (word imm) × ((image : Parts) → IsWork image upper (word imm))

addik_takes : (rd ra : Reg) → TakesUpper (Addik rd ra)
addik_takes rd ra None imm fits = (fits, λ image. (refl, λ who place u. refl))
addik_takes rd ra (Some upper) imm fits = (fits, λ image. (refl, λ who place u. refl))

lwi_takes : (rd ra : Reg) → TakesUpper (Lwi rd ra)
lwi_takes rd ra None imm fits = (fits, λ image. (refl, λ who place u. refl))
lwi_takes rd ra (Some upper) imm fits = (fits, λ image. (refl, λ who place u. refl))

swi_takes : (rd ra : Reg) → TakesUpper (Swi rd ra)
swi_takes rd ra None imm fits = (fits, λ image. (refl, λ who place u. refl))
swi_takes rd ra (Some upper) imm fits = (fits, λ image. (refl, λ who place u. refl))

wide_work : (n : ℤ) (word : ℤ → Instr) (ws : List Written) → TakesUpper word → FitsSigned w32 n → AreWork ws → AreWork (wide n word ∷ ws)
wide_work n word ws takes fits rest = by_width (is_short n) refl
  where
    by_width : (short : Bool) → is_short n ≡ short → AreWork ((if short then alone (word n) else after_imm (upper_half n) (word (lower_half n))) ∷ ws)
    by_width true e = let t = takes None n (fits_short n e) in (t.0, t.1, rest)
    by_width false e =
        let bits = bits_below n fits in
        let t = takes (Some (upper_half n)) (lower_half n) (fits_half (cast_unsigned w32 n % 65536) (omega arith)) in
        (fits_half (cast_unsigned w32 n / 65536) (omega (arith, bits)), t.0, t.1, rest)

byte_work : (word_number : ℕ) (word : ℤ → Instr) (ws : List Written) → TakesUpper word → word_number ≤ 16384 → AreWork ws → AreWork (wide (byte_of word_number) word ∷ ws)
byte_work n word ws takes most rest = wide_work (byte_of n) word ws takes (record { sfits = omega arith }) rest

sign_work : (to : Reg) → AreWork (sign to)
sign_work to = (record { sfits = omega arith }, (λ image. (refl, λ who place u. refl)), (tt, (λ image. (refl, λ who place u. refl)), tt))

no_sign_work : (to : Reg) → AreWork (no_sign to)
no_sign_work to =
    (record { sfits = omega arith }, (λ image. (refl, λ who place u. refl)), (tt, (λ image. (refl, λ who place u. refl)), (record { sfits = omega arith }, (λ image. (refl, λ who place u. refl)), tt)))

unary_work : (o : UnOp) (to by : Reg) → AreWork (unary_words o to by)
unary_work un.Neg to by = (tt, (λ image. (refl, λ who place u. refl)), tt)
unary_work un.Not to by = (tt, (λ image. (refl, λ who place u. refl)), (tt, (λ image. (refl, λ who place u. refl)), no_sign_work to))
unary_work un.Flip to by = (record { sfits = omega arith }, (λ image. (refl, λ who place u. refl)), tt)

unequal_zero_work : (by : Reg) → AreWork (unequal_zero by)
unequal_zero_work by = (tt, (λ image. (refl, λ who place u. refl)), (tt, (λ image. (refl, λ who place u. refl)), tt))

unequal_work : (left right : Reg) → AreWork (unequal left right)
unequal_work left right = (tt, (λ image. (refl, λ who place u. refl)), (tt, (λ image. (refl, λ who place u. refl)), (tt, (λ image. (refl, λ who place u. refl)), tt)))

both_unequal_zero_work : (left right : Reg) → AreWork (both_unequal_zero left right)
both_unequal_zero_work left right = work-append (unequal_zero left) (alone (Cmp R7 right R0) ∷ alone (Or R7 R7 right) ∷ []) (unequal_zero_work left) (tt, (λ image. (refl, λ who place u. refl)), (tt, (λ image. (refl, λ who place u. refl)), tt))

binary_work : (o : BinOp) (to left right : Reg) → AreWork (binary_words o to left right)
binary_work op.Or to left right = work-append (both_unequal_zero left right) (alone (Or R6 R6 R7) ∷ sign to) (both_unequal_zero_work left right) (tt, (λ image. (refl, λ who place u. refl)), sign_work to)
binary_work op.And to left right = work-append (both_unequal_zero left right) (alone (And R6 R6 R7) ∷ sign to) (both_unequal_zero_work left right) (tt, (λ image. (refl, λ who place u. refl)), sign_work to)
binary_work op.BitOr to left right = (tt, (λ image. (refl, λ who place u. refl)), tt)
binary_work op.BitXor to left right = (tt, (λ image. (refl, λ who place u. refl)), tt)
binary_work op.BitAnd to left right = (tt, (λ image. (refl, λ who place u. refl)), tt)
binary_work op.Equal to left right = work-append (unequal left right) (no_sign to) (unequal_work left right) (no_sign_work to)
binary_work op.NotEqual to left right = work-append (unequal left right) (sign to) (unequal_work left right) (sign_work to)
binary_work op.Less to left right = (tt, (λ image. (refl, λ who place u. refl)), sign_work to)
binary_work op.LessEqual to left right = (tt, (λ image. (refl, λ who place u. refl)), no_sign_work to)
binary_work op.Greater to left right = (tt, (λ image. (refl, λ who place u. refl)), sign_work to)
binary_work op.GreaterEqual to left right = (tt, (λ image. (refl, λ who place u. refl)), no_sign_work to)
binary_work op.ShiftLeft to left right = (tt, (λ image. (refl, λ who place u. refl)), tt)
binary_work op.ShiftRight to left right = (tt, (λ image. (refl, λ who place u. refl)), tt)
binary_work op.Add to left right = (tt, (λ image. (refl, λ who place u. refl)), tt)
binary_work op.Sub to left right = (tt, (λ image. (refl, λ who place u. refl)), tt)
binary_work op.Mul to left right = (tt, (λ image. (refl, λ who place u. refl)), tt)
binary_work op.Div to left right = (tt, (λ image. (refl, λ who place u. refl)), tt)
binary_work op.Rem to left right = (tt, (λ image. (refl, λ who place u. refl)), (tt, (λ image. (refl, λ who place u. refl)), (tt, (λ image. (refl, λ who place u. refl)), tt)))

outside_work : (size : ℕ) (index : Reg) → size ≤ 16384 → AreWork (outside size index)
outside_work size index most = (
  last_short size most,
  (λ image. (refl, λ who place u. refl)),
  (
    tt,
    (λ image. (refl, λ who place u. refl)),
    (
      tt,
      (λ image. (refl, λ who place u. refl)),
      (record { sfits = omega arith }, (λ image. (refl, λ who place u. refl)), (tt, (λ image. (refl, λ who place u. refl)), tt)),
    ),
  ),
)

take_work : (to : Reg) (first size : ℕ) (index : Reg) → first + size ≤ 16384 → AreWork (take_words to first size index)
take_work to first size index most =
    work-append (outside size index) (masked R6 R7 index ++ wide (byte_of first) (Lwi R7 R7) ∷ alone (And to R7 R6) ∷ [])
    (outside_work size index (omega arith)) (
      record { sfits = omega arith },
      (λ image. (refl, λ who place u. refl)),
      (
        tt,
        (λ image. (refl, λ who place u. refl)),
        (
          tt,
          (λ image. (refl, λ who place u. refl)),
          (
            tt,
            (λ image. (refl, λ who place u. refl)),
            byte_work first (Lwi R7 R7) (alone (And to R7 R6) ∷ []) (lwi_takes R7 R7) (omega arith) (tt, (λ image. (refl, λ who place u. refl)), tt),
          ),
        ),
      ),
    )

put_work : (first size : ℕ) (index by : Reg) → first + size ≤ 16384 → AreWork (put_words first size index by)
put_work first size index by most =
    let stores : AreWork (wide (byte_of first) (Swi R7 R3) ∷ []) = byte_work first (Swi R7 R3) [] (swi_takes R7 R3) (omega arith) tt in
    let loads : AreWork (wide (byte_of first) (Lwi R7 R3) ∷ alone (And R7 R7 R6) ∷ alone (Or R7 R7 R8) ∷ wide (byte_of first) (Swi R7 R3) ∷ []) =
    byte_work first (Lwi R7 R3) (alone (And R7 R7 R6) ∷ alone (Or R7 R7 R8) ∷ wide (byte_of first) (Swi R7 R3) ∷ []) (lwi_takes R7 R3) (omega arith)
    (tt, (λ image. (refl, λ who place u. refl)), (tt, (λ image. (refl, λ who place u. refl)), stores)) in
    work-append (outside size index) (masked R7 R3 index ++ alone (And R8 by R7) ∷ wide (byte_of first) (Lwi R7 R3) ∷ alone (And R7 R7 R6) ∷ alone (Or R7 R7 R8) ∷ wide (byte_of first) (Swi R7 R3) ∷ [])
    (outside_work size index (omega arith)) (
      record { sfits = omega arith },
      (λ image. (refl, λ who place u. refl)),
      (
        tt,
        (λ image. (refl, λ who place u. refl)),
        (
          tt,
          (λ image. (refl, λ who place u. refl)),
          (
            tt,
            (λ image. (refl, λ who place u. refl)),
            (tt, (λ image. (refl, λ who place u. refl)), loads),
          ),
        ),
      ),
    )

module _ (p : Placement) (room : IsPlacement p) where
  fetched_work : (scratch : Reg) (at : Location) → IsLocation p at → AreWork (fetched scratch at)
  fetched_work scratch (in_register r) is = tt
  fetched_work scratch (in_memory word) is = let most = room.memory in let behind = is.1 in byte_work word (Lwi scratch R0) [] (lwi_takes scratch R0) (omega (arith, most, behind)) tt

  stored_work : (from : Reg) (word : ℕ) → word < memory_words p → AreWork (store_word from word)
  stored_work from word lt = let most = room.memory in byte_work word (Swi from R0) [] (swi_takes from R0) (omega (arith, most, lt)) tt

  loaded_work : (to : Reg) (word : ℕ) → word < memory_words p → AreWork (load_word to word)
  loaded_work to word lt = let most = room.memory in byte_work word (Lwi to R0) [] (lwi_takes to R0) (omega (arith, most, lt)) tt

  delivered_work : (scratch : Reg) (at : Location) → IsLocation p at → AreWork (delivered scratch at)
  delivered_work scratch (in_register r) is = tt
  delivered_work scratch (in_memory word) is = stored_work scratch word is.1

  moved_work : (to by : Location) → IsLocation p to → IsLocation p by → AreWork (moved to by)
  moved_work (in_register rd) (in_register ra) is from = (tt, (λ image. (refl, λ who place u. refl)), tt)
  moved_work (in_register rd) (in_memory word) is from = loaded_work rd word from.1
  moved_work (in_memory word) by is from = work-append (fetched R4 by) (store_word (register_for R4 by) word) (fetched_work R4 by from) (stored_work (register_for R4 by) word is.1)

  cell_below : (word : ℕ) → word < p.cells → word < memory_words p
  cell_below word lt = omega (arith, lt)

  array_small : (first size : ℕ) → first + size ≤ p.cells → first + size ≤ 16384
  array_small first size le = let most = room.memory in omega (arith, le, most)

  step_work : (s : Step) → IsTrue (is_step_written p s) → AreWork (step_words p s)
  step_work (const to n) h =
      let c = parts (is_placed p to) (is_word n) h in
      let rd = register_for R3 (location_of p to) in
      work-append (wide n (Addik rd R0) ∷ []) (delivered R3 (location_of p to)) (wide_work n (Addik rd R0) [] (addik_takes rd R0) (fits_word n c.1) tt) (delivered_work R3 (location_of p to) (located p room to c.0))
  step_work (load to word) h =
      let c = parts (is_placed p to) (nat_lt word p.cells) h in
      let rd = register_for R3 (location_of p to) in
      work-append (load_word rd word) (delivered R3 (location_of p to)) (loaded_work rd word (cell_below word (is_less word p.cells c.1))) (delivered_work R3 (location_of p to) (located p room to c.0))
  step_work (save word by) h =
      let c = parts (nat_lt word p.cells) (is_placed p by) h in
      let from = register_for R4 (location_of p by) in
      work-append (fetched R4 (location_of p by)) (store_word from word) (fetched_work R4 (location_of p by) (located p room by c.1)) (stored_work from word (cell_below word (is_less word p.cells c.0)))
  step_work (unary_step o to by) h =
      let c = parts (is_placed p to) (is_placed p by) h in
      let core = unary_words o (register_for R3 (location_of p to)) (register_for R4 (location_of p by)) in
      work-append (fetched R4 (location_of p by)) (core ++ delivered R3 (location_of p to)) (fetched_work R4 (location_of p by) (located p room by c.1))
      (work-append core (delivered R3 (location_of p to)) (unary_work o (register_for R3 (location_of p to)) (register_for R4 (location_of p by))) (delivered_work R3 (location_of p to) (located p room to c.0)))
  step_work (binary_step o to left right) h =
      let c = parts (is_placed p to && is_placed p left) (is_placed p right) h in
      let e = parts (is_placed p to) (is_placed p left) c.0 in
      let core = binary_words o (register_for R3 (location_of p to)) (register_for R4 (location_of p left)) (register_for R5 (location_of p right)) in
      work-append (fetched R4 (location_of p left)) (fetched R5 (location_of p right) ++ (core ++ delivered R3 (location_of p to))) (fetched_work R4 (location_of p left) (located p room left e.1))
      (work-append (fetched R5 (location_of p right)) (core ++ delivered R3 (location_of p to)) (fetched_work R5 (location_of p right) (located p room right c.1))
      (work-append core (delivered R3 (location_of p to)) (binary_work o (register_for R3 (location_of p to)) (register_for R4 (location_of p left)) (register_for R5 (location_of p right))) (delivered_work R3 (location_of p to) (located p room to e.0))))
  step_work (take_element to first size index) h =
      let c = parts (is_placed p to && nat_le (first + size) p.cells) (is_placed p index) h in
      let e = parts (is_placed p to) (nat_le (first + size) p.cells) c.0 in
      let core = take_words (register_for R3 (location_of p to)) first size (register_for R4 (location_of p index)) in
      work-append (fetched R4 (location_of p index)) (core ++ delivered R3 (location_of p to)) (fetched_work R4 (location_of p index) (located p room index c.1))
      (work-append core (delivered R3 (location_of p to))
      (take_work (register_for R3 (location_of p to)) first size (register_for R4 (location_of p index)) (array_small first size (is_at_most (first + size) p.cells e.1)))
      (delivered_work R3 (location_of p to) (located p room to e.0)))
  step_work (put_element first size index by) h =
      let c = parts (nat_le (first + size) p.cells && is_placed p index) (is_placed p by) h in
      let e = parts (nat_le (first + size) p.cells) (is_placed p index) c.0 in
      let core = put_words first size (register_for R4 (location_of p index)) (register_for R5 (location_of p by)) in
      work-append (fetched R4 (location_of p index)) (fetched R5 (location_of p by) ++ core) (fetched_work R4 (location_of p index) (located p room index e.1))
      (work-append (fetched R5 (location_of p by)) core (fetched_work R5 (location_of p by) (located p room by c.1))
      (put_work first size (register_for R4 (location_of p index)) (register_for R5 (location_of p by)) (array_small first size (is_at_most (first + size) p.cells e.0))))
  step_work (move to by) h = let c = parts (is_placed p to) (is_placed p by) h in moved_work (location_of p to) (location_of p by) (located p room to c.0) (located p room by c.1)

  steps_work : (steps : List Step) → IsTrue (are_written p steps) → AreWork (steps_words p steps)
  steps_work [] h = tt
  steps_work (s ∷ steps) h =
      let c = parts (is_step_written p s) (are_written p steps) h in
      work-append (step_words p s) (steps_words p steps) (step_work s c.0) (steps_work steps c.1)

  pub writes_work : WritesWork (writing_of p)
  writes_work = record {
    steps = steps_work;
    tests = λ t h.
        let c = parts (are_written p t.steps) (is_placed p t.by) h in
        work-append (steps_words p t.steps) (fetched R4 (location_of p t.by)) (steps_work t.steps c.0) (fetched_work R4 (location_of p t.by) (located p room t.by c.1));
    branches = λ t lower fits. fits;
    decided = λ t image upper lower. (refl, λ who place u. refl);
  }

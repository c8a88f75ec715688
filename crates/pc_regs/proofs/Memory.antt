-- Words with numbers, and those that read and write the memory.
use Rattle.std.proofs.Common.{◌≡◌, ℕ, ◌+◌, ◌*◌, ◌<◌, ◌≤◌, ℤ, pos, Bool, true, false, if◌then◌else◌, FitsSigned, List, [], ◌∷◌, length, Option, Some, None, refl, ap, ◌∙◌, arith}
use Rattle.std.specs.Int.{w32, cast_unsigned}
use Rattle.pt_base.specs.declared.BinOp.TheVariants as op
use Rattle.pt_base.specs.Operators.{binary_of}
use Rattle.mb_isa.specs.declared.Reg.{Reg}
use Rattle.mb_isa.specs.declared.Instr.{Instr}
use Rattle.mb_isa.specs.declared.Instr.TheVariants.{Addik, Lwi, Swi}
use Rattle.mb_isa.specs.Operands.{immediate, word_at_byte}
use Rattle.pt_image.specs.declared.Parts.{Parts}
use Rattle.mb_isa.specs.Cells.{Cells, register, with_register, word_at, with_word, loads, stores, loaded, stored, sets, cells_do}
use Rattle.pc_lower.specs.Words.{Written, alone, after_imm, and_then}
use Rattle.pc_regs.specs.Words.{is_short, upper_half, lower_half, wide, byte_of}
use Rattle.pc_regs.proofs.Numbers.{halves, address}
use Rattle.pc_regs.proofs.Registers.{does}

-- a word that reads no more than its whole number
abbrev pub Reads : (ℤ → Instr) → (ℤ → Cells → Option Cells) → Type 0
Reads word f = (upper : Option ℤ) (imm : ℤ) (d : Cells) → cells_do (word imm) upper d ≡ f (immediate upper imm) d

module _ (image : Parts) (row : List ℤ) where
  by_width : (n : ℤ) (word : ℤ → Instr) (f : ℤ → Cells → Option Cells) (ws : List Written) (d : Cells) (short : Bool) → FitsSigned w32 n → Reads word f →
      does image row ((if short then alone (word n) else after_imm (upper_half n) (word (lower_half n))) ∷ ws) d ≡ and_then (does image row ws) (f n d)
  by_width n word f ws d true fits reads = ap (and_then (does image row ws)) (reads None n d)
  by_width n word f ws d false fits reads =
      ap (and_then (does image row ws)) (reads (Some (upper_half n)) (lower_half n) d ∙ ap (λ z. f z d) (halves n fits))

  pub wide_does : (n : ℤ) (word : ℤ → Instr) (f : ℤ → Cells → Option Cells) (ws : List Written) (d : Cells) → FitsSigned w32 n → Reads word f →
      does image row (wide n word ∷ ws) d ≡ and_then (does image row ws) (f n d)
  wide_does n word f ws d fits reads = by_width n word f ws d (is_short n) fits reads

  -- a number into a register
  pub constant_does : (rd ra : Reg) (n : ℤ) (d : Cells) → FitsSigned w32 n →
      does image row (wide n (Addik rd ra) ∷ []) d ≡ Some (with_register rd (binary_of op.Add (register d ra) n) d)
  constant_does rd ra n d fits = wide_does n (Addik rd ra) (λ imm e. sets rd (binary_of op.Add (register e ra) imm) e) [] d fits (λ upper imm e. refl)

  byte_fits : (first : ℕ) → first ≤ 16384 → FitsSigned w32 (byte_of first)
  byte_fits first h = record { sfits = omega arith }

  -- the word that stands so many words behind a first one comes to a register, and a register goes to it
  pub load_does : (rd ra : Reg) (first j : ℕ) (d : Cells) (ws : List Written) → register d ra ≡ pos (4 * j) → first + j < length d.memory → length d.memory ≤ 16384 →
      does image row (wide (byte_of first) (Lwi rd ra) ∷ ws) d ≡ does image row ws (with_register rd (word_at d (first + j)) d)
  load_does rd ra first j d ws there within most =
      wide_does (byte_of first) (Lwi rd ra) (λ imm e. loaded rd (binary_of op.Add (register e ra) imm) e) ws d (byte_fits first (omega arith)) (λ upper imm e. refl)
      ∙ ap (λ z. and_then (does image row ws) (loads rd d (word_at_byte (length d.memory) (cast_unsigned w32 (binary_of op.Add z (byte_of first)))))) there
      ∙ ap (λ w. and_then (does image row ws) (loads rd d w)) (address (length d.memory) first j within most)

  pub store_does : (rd ra : Reg) (first j : ℕ) (d : Cells) (ws : List Written) → register d ra ≡ pos (4 * j) → first + j < length d.memory → length d.memory ≤ 16384 →
      does image row (wide (byte_of first) (Swi rd ra) ∷ ws) d ≡ does image row ws (with_word (first + j) (register d rd) d)
  store_does rd ra first j d ws there within most =
      wide_does (byte_of first) (Swi rd ra) (λ imm e. stored rd (binary_of op.Add (register e ra) imm) e) ws d (byte_fits first (omega arith)) (λ upper imm e. refl)
      ∙ ap (λ z. and_then (does image row ws) (stores rd d (word_at_byte (length d.memory) (cast_unsigned w32 (binary_of op.Add z (byte_of first)))))) there
      ∙ ap (λ w. and_then (does image row ws) (stores rd d w)) (address (length d.memory) first j within most)

-- The machine's data, which are its registers and memory: docs/machine.md, "State" and "Instruction words".
use Rattle.std.specs.Prelude.{ℕ, ℤ, pos, ◌+◌, ◌/◌, ◌%◌, ◌^◌, ◌==◌, not, Bool, false, int_lt, int_le, if◌then◌else◌, cond, List, [], ◌∷◌, map, length, slice_set, slice_index_or, Option, Some, None}
use Rattle.std.specs.Ordering.{int_eq}
use Rattle.std.specs.Int.{w32, cast_unsigned, cast_signed}
use Rattle.pt_base.specs.declared.BinOp.TheVariants as op
use Rattle.pt_base.specs.Operators.{binary_of, places_of}
use Rattle.mb_isa.specs.declared.registers.Reg.{Reg}
use Rattle.mb_isa.specs.declared.words.Instr.{Instr}
use Rattle.mb_isa.specs.declared.words.Instr.TheVariants.{Addk, Rsubk, Cmp, Or, And, Xor, Mul, Idiv, Bsrl, Bsra, Bsll, Addik, Ori, Andi, Xori, Beqi, Bnei, Blti, Blei, Bgti, Bgei, Lw, Sw, Lwi, Swi}
use Rattle.mb_isa.specs.Operands.{immediate, word_at_byte}
use Rattle.mb_isa.specs.Registers.{number}
use Rattle.pt_image.specs.declared.Parts.{Parts}
use Rattle.mb_isa.specs.Step.{Rules}

-- 32 registers, and the memory words
pub record Cells : Type 0 where
  pub registers : List ℤ
  pub memory : List ℤ

-- what a register reads; r0 reads 0
abbrev pub register : Cells → Reg → ℤ
register d r = if number r == 0 then pos 0 else slice_index_or d.registers (number r) (pos 0)

-- a register is written, but for r0
abbrev pub with_register : Reg → ℤ → Cells → Cells
with_register r value d = record d { registers = if number r == 0 then d.registers else slice_set d.registers (number r) value }

abbrev pub word_at : Cells → ℕ → ℤ
word_at d i = slice_index_or d.memory i (pos 0)

abbrev pub with_word : ℕ → ℤ → Cells → Cells
with_word i value d = record d { memory = slice_set d.memory i value }

-- a word with its top bit set or not
abbrev pub with_top : Bool → ℤ → ℤ
with_top b z = cast_signed w32 (cast_unsigned w32 z % 2 ^ 31 + cond b (2 ^ 31) 0)

-- the word that two registers give
abbrev pub value_of : (ℤ → ℤ → ℤ) → Reg → Reg → Cells → ℤ
value_of f ra rb d = f (register d ra) (register d rb)

-- the difference, whose top bit is set exactly where b is less
abbrev pub compared : ℤ → ℤ → ℤ
compared a b = with_top (int_lt b a) (binary_of op.Sub b a)

-- shifted right, filled with zeros
abbrev pub logical_right : ℤ → ℤ → ℤ
logical_right a b = cast_signed w32 (cast_unsigned w32 a / 2 ^ places_of b)

-- the word that a register and an imm give
abbrev pub value_with : (ℤ → ℤ → ℤ) → Reg → ℤ → Option ℤ → Cells → ℤ
value_with f ra imm upper d = f (register d ra) (immediate upper imm)

-- a register is written from a memory word
abbrev pub loads : Reg → Cells → Option ℕ → Option Cells
loads rd d None = None
loads rd d (Some i) = Some (with_register rd (word_at d i) d)

-- a memory word is written from a register
abbrev pub stores : Reg → Cells → Option ℕ → Option Cells
stores rd d None = None
stores rd d (Some i) = Some (with_word i (register d rd) d)

-- the memory word that begins at a byte
abbrev pub addressed : ℤ → Cells → Option ℕ
addressed byte d = word_at_byte (length d.memory) (cast_unsigned w32 byte)

abbrev pub loaded : Reg → ℤ → Cells → Option Cells
loaded rd byte d = loads rd d (addressed byte d)

abbrev pub stored : Reg → ℤ → Cells → Option Cells
stored rd byte d = stores rd d (addressed byte d)

-- a register is written
abbrev pub sets : Reg → ℤ → Cells → Option Cells
sets rd value d = Some (with_register rd value d)

-- what a word does that is no unit word and no branch; none where its address is bad
abbrev pub cells_do : Instr → Option ℤ → Cells → Option Cells
cells_do (Addk rd ra rb) upper d = sets rd (value_of (binary_of op.Add) ra rb d) d
cells_do (Rsubk rd ra rb) upper d = sets rd (value_of (λ a b. binary_of op.Sub b a) ra rb d) d
cells_do (Cmp rd ra rb) upper d = sets rd (value_of compared ra rb d) d
cells_do (Or rd ra rb) upper d = sets rd (value_of (binary_of op.BitOr) ra rb d) d
cells_do (And rd ra rb) upper d = sets rd (value_of (binary_of op.BitAnd) ra rb d) d
cells_do (Xor rd ra rb) upper d = sets rd (value_of (binary_of op.BitXor) ra rb d) d
cells_do (Mul rd ra rb) upper d = sets rd (value_of (binary_of op.Mul) ra rb d) d
cells_do (Idiv rd ra rb) upper d = sets rd (value_of (λ a b. binary_of op.Div b a) ra rb d) d
cells_do (Bsrl rd ra rb) upper d = sets rd (value_of logical_right ra rb d) d
cells_do (Bsra rd ra rb) upper d = sets rd (value_of (binary_of op.ShiftRight) ra rb d) d
cells_do (Bsll rd ra rb) upper d = sets rd (value_of (binary_of op.ShiftLeft) ra rb d) d
cells_do (Addik rd ra imm) upper d = sets rd (value_with (binary_of op.Add) ra imm upper d) d
cells_do (Ori rd ra imm) upper d = sets rd (value_with (binary_of op.BitOr) ra imm upper d) d
cells_do (Andi rd ra imm) upper d = sets rd (value_with (binary_of op.BitAnd) ra imm upper d) d
cells_do (Xori rd ra imm) upper d = sets rd (value_with (binary_of op.BitXor) ra imm upper d) d
cells_do (Lw rd ra rb) upper d = loaded rd (value_of (binary_of op.Add) ra rb d) d
cells_do (Sw rd ra rb) upper d = stored rd (value_of (binary_of op.Add) ra rb d) d
cells_do (Lwi rd ra imm) upper d = loaded rd (value_with (binary_of op.Add) ra imm upper d) d
cells_do (Swi rd ra imm) upper d = stored rd (value_with (binary_of op.Add) ra imm upper d) d
-- no other word is asked
cells_do other upper d = Some d

-- whether a conditional branch is taken
abbrev pub is_taken : Instr → Cells → Bool
is_taken (Beqi ra imm) d = int_eq (register d ra) (pos 0)
is_taken (Bnei ra imm) d = not (int_eq (register d ra) (pos 0))
is_taken (Blti ra imm) d = int_lt (register d ra) (pos 0)
is_taken (Blei ra imm) d = int_le (register d ra) (pos 0)
is_taken (Bgti ra imm) d = int_lt (pos 0) (register d ra)
is_taken (Bgei ra imm) d = int_le (pos 0) (register d ra)
-- no other word is asked
is_taken other d = false

-- the inputs' words are set in order
abbrev pub with_inputs : List ℕ → List ℤ → List ℤ → List ℤ
with_inputs [] values memory = memory
with_inputs (place ∷ places) [] memory = memory
with_inputs (place ∷ places) (value ∷ values) memory = with_inputs places values (slice_set memory place value)

-- a value for each input
abbrev pub machine : Parts → List ℤ → Rules Cells
machine image values = record {
  does = cells_do;
  taken = λ i d. Some (is_taken i d, d);
  holds = λ ra d. Some (not (int_eq (register d ra) (pos 0)), d);
  sampled = λ d. record d { memory = with_inputs image.inputs values d.memory };
}

-- the outputs' words
abbrev pub outputs_of : Parts → Cells → List ℤ
outputs_of image d = map (word_at d) image.outputs

-- What the numbers in a word come to: docs/machine.md, "Instruction words".
use Rattle.std.specs.Prelude.{ℕ, ℤ, pos, ◌+◌, ◌*◌, ◌/◌, ◌%◌, ◌^◌, ◌+ℤ◌, ◌*ℤ◌, ◌==◌, nat_lt, ◌&&◌, Bool, if◌then◌else◌, Option, Some, None}
use Rattle.std.specs.Int.{w16, w32, cast_unsigned}

-- a word's imm, of 32 bits where an upper half stands
abbrev pub immediate : Option ℤ → ℤ → ℤ
immediate None imm = imm
immediate (Some upper) imm = upper *ℤ pos 65536 +ℤ pos (cast_unsigned w16 imm)

-- the number of turns of a `loop` word
abbrev pub turns_of : Option ℤ → ℕ → ℕ
turns_of None n = n
turns_of (Some upper) n = cast_unsigned w16 upper * 65536 + n

-- a byte is the first of one of so many words
abbrev pub is_good : ℕ → ℕ → Bool
is_good words byte = byte % 4 == 0 && nat_lt (byte / 4) words

-- the word that begins at a byte, if it is one of so many words
abbrev pub word_at_byte : ℕ → ℕ → Option ℕ
word_at_byte words byte = if is_good words byte then Some (byte / 4) else None

-- the byte to which a branch at a place leads
abbrev pub branch_byte : ℕ → ℤ → ℕ
branch_byte place imm = (4 * place + cast_unsigned w32 imm) % 2 ^ 32

-- the place to which a branch leads, if it is one of so many code words
abbrev pub branch_place : ℕ → ℕ → ℤ → Option ℕ
branch_place words place imm = word_at_byte words (branch_byte place imm)

-- How many units words make: a word, or an `imm` and the word behind it.
use Rattle.std.specs.Prelude.{ℕ, ◌+◌, Bool, true, false, if◌then◌else◌, List, [], ◌∷◌}
use Rattle.mb_isa.specs.declared.words.Instr.{Instr}
use Rattle.mb_isa.specs.declared.words.Instr.TheVariants.{Imm}

-- the upper half of what the next word has
abbrev pub is_half : Instr → Bool
is_half (Imm upper) = true
is_half word = false

abbrev pub units_in : List Instr → ℕ
units_in [] = 0
units_in (word ∷ words) = (if is_half word then 0 else 1) + units_in words

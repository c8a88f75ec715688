-- When registers and memory stand for the words of a state.
use Rattle.std.specs.Prelude.{ℕ, ◌==◌, nat_lt, ℤ, Bool, true, ◌&&◌, if◌then◌else◌, length}
use Rattle.pt_base.specs.Operators.{same}
use Rattle.mb_isa.specs.Cells.{Cells, word_at}
use Rattle.pc_meaning.specs.Values as values
use Rattle.pc_lower.specs.declared.nodes.Place.{Place}
use Rattle.pc_lower.specs.declared.nodes.Place.TheVariants.{Temp as temp, Held as held}
use Rattle.pc_lower.specs.Flow.{State}
use Rattle.pc_regs.specs.declared.placement.Placement.{Placement}
use Rattle.pc_regs.specs.Placement.{memory_words, is_placed, location_of, word_in}
use Rattle.pc_regs.specs.Words.{is_word}

-- the machine has this word of 32 bits
abbrev pub has : ℤ → ℤ → Bool
has there word = same there word && is_word word

module _ (p : Placement) (d : Cells) (w : State) where
  abbrev pub sizes_agree : Bool
  sizes_agree = length d.registers == 32 && length d.memory == memory_words p && length w.store == p.cells

  abbrev pub cell_agrees : ℕ → Bool
  cell_agrees i = if nat_lt i p.cells then has (word_at d i) (values.word_at w.store i) else true

  abbrev pub place_agrees : Place → Bool
  place_agrees place = if is_placed p place then has (word_in (location_of p place) d) (w.temps place) else true

-- The comparisons of registers and memory with a state: the sizes, the nth cell, temporary and held word, and that the nth
-- memory word has 32 bits.
abbrev pub compared : Placement → ℕ → Cells → State → Bool
compared p n d w =
    sizes_agree p d w && cell_agrees p d w n && place_agrees p d w (temp n) && place_agrees p d w (held n) && is_word (word_at d n)

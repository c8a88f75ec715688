-- Where the cells, the temporaries and the held words of a program stand in the machine.
use Rattle.std.specs.Prelude.{ℕ, ◌+◌, ◌-◌, ◌≤◌, nat_lt, max, ℤ, Bool, if◌then◌else◌}
use Rattle.mb_isa.specs.Registers.{reg_at}
use Rattle.mb_isa.specs.Cells.{Cells, register, word_at}
use Rattle.pc_lower.specs.declared.nodes.Place.{Place}
use Rattle.pc_lower.specs.declared.nodes.Place.TheVariants.{Temp as temp, Held as held}
use Rattle.pc_regs.specs.declared.placement.Location.{Location}
use Rattle.pc_regs.specs.declared.placement.Location.TheVariants.{Register as in_register, Memory as in_memory}
use Rattle.pc_regs.specs.declared.placement.Placement.{Placement}

-- the first temporaries stand in the registers from r9 on, held words in those from r19 on
abbrev pub first_temporary : ℕ
first_temporary = 9

abbrev pub temporary_registers : ℕ
temporary_registers = 10

abbrev pub first_held : ℕ
first_held = 19

abbrev pub held_registers : ℕ
held_registers = 12

-- a cell's word stands in the memory at the cell's number, and behind the cells stand the temporaries that have no register
abbrev pub location_of : Placement → Place → Location
location_of p (temp k) =
    if nat_lt k temporary_registers then in_register (reg_at (first_temporary + k))
    else in_memory (p.cells + (k - temporary_registers))
location_of p (held h) = in_register (reg_at (first_held + h))

-- one further word is always there, so that an array without elements can stand last
abbrev pub memory_words : Placement → ℕ
memory_words p = p.cells + max 1 (p.temporaries - temporary_registers)

abbrev pub most_memory_words : ℕ
most_memory_words = 16384

-- there is room for all words
pub record IsPlacement (p : Placement) : Type 0 where
  pub memory : memory_words p ≤ most_memory_words
  pub held : p.held ≤ held_registers

abbrev pub is_placed : Placement → Place → Bool
is_placed p (temp k) = nat_lt k p.temporaries
is_placed p (held h) = nat_lt h p.held

-- the word that stands there
abbrev pub word_in : Location → Cells → ℤ
word_in (in_register r) d = register d r
word_in (in_memory w) d = word_at d w

-- a location has a memory word of a machine, if any
abbrev pub IsNear : Location → Type 0
IsNear (in_register r) = Unit {0}
IsNear (in_memory word) = word ≤ most_memory_words

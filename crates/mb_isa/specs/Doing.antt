-- What a call does to registers and memory.
use Rattle.std.specs.Prelude.{◌≡◌, Bool, true, false, Option, Some, None}
use Rattle.mb_isa.specs.Cells.{Cells}

-- data do a word, or its address is bad
abbrev pub DoesWork : Option Cells → Bool → Cells → Type 0
DoesWork None done new = done ≡ false
DoesWork (Some next) done new = (done ≡ true) × (new ≡ next)

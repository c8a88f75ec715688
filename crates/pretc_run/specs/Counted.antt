-- A run on counted inputs, of whose ticks the totals alone are told: docs/commands.md, "job".
use Rattle.std.specs.Prelude.{◌≡◌, ℕ, zero, suc, ◌+◌, ◌%◌, max, ℤ, pos, List, [], ◌∷◌, replicate, None, fold}
use Rattle.std.specs.Int.{w32, int_wrapping_add}
use Rattle.mb_core.specs.Machine.{Whole}
use Rattle.mb_isa.specs.Run.{Ticked, Ends, Trapped}
use Rattle.pretc_run.specs.declared.summing.Totals.{Totals}

-- each input of a tick is its number modulo 10
abbrev pub counted_row : (width tick : ℕ) → List ℤ
counted_row width tick = replicate width (pos (tick % 10))

-- the rows of so many ticks, from this one on
unfoldable pub counted_rows : (width tick count : ℕ) → List (List ℤ)
counted_rows width tick zero = []
counted_rows width tick (suc count) = counted_row width tick ∷ counted_rows width (tick + 1) count

-- a sum with more values added, modulo 2^32
abbrev pub added : ℤ → List ℤ → ℤ
added sum values = fold (int_wrapping_add w32) sum values

-- the same with the outputs of ticks
abbrev pub summed : ℤ → List (List ℤ × ℕ) → ℤ
summed sum [] = sum
summed sum (t ∷ ts) = summed (added sum t.0) ts

-- the sum of all outputs of some ticks, modulo 2^32
abbrev pub sum_of : List (List ℤ × ℕ) → ℤ
sum_of ticks = summed (pos 0) ticks

-- a tick that ended is counted in
abbrev pub Counts : Ticked → Whole → Whole → Totals → Totals → Type 0
Counts (Ends cycles outputs state) old new before after =
    (new ≡ record old { state = state; trap = None }) × (after.sum ≡ added before.sum outputs) × (after.worst ≡ max before.worst cycles)
Counts (Trapped kind at charged) old new before after = ⊥

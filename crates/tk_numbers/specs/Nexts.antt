-- The numbers at the `next` of a bounded loop, told level by level.
use Rattle.std.specs.Prelude.{ℕ}
use Rattle.tk_paths.specs.Numbers.{Numbers, next_number}

unfoldable pub nexts : (next out weight : ℕ) → Numbers → Numbers
nexts next out weight V view = next_number next out weight (V view)

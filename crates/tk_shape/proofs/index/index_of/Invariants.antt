use Rattle.std.proofs.Common.{◌≡◌, ◌<◌, ℕ, take}
use Rattle.std.specs.Option.{option_to_list}
use Rattle.tk_paths.specs.Kinds.{points_at}
use Rattle.tk_shape.specs.Looking.{found, number_at}
use Rattle.tk_shape.proofs.index.index_of.Given as goal

abbrev pub invariant-loop-number : goal.invariant-loop-number
invariant-loop-number l = (place : ℕ) → place < 65536 → points_at (take l.number l.points) place ≡ option_to_list (found l.points (number_at l.index place))

use Rattle.std.proofs.Common.{◌≡◌, ◌≤◌, ◌<◌, ℕ, drop, length}
use Rattle.std.specs.Prelude.{option_map}
use Rattle.tk_paths.specs.Shape.{weight_in}
use Rattle.tk_shape.specs.Looking.{found, number_at}
use Rattle.tk_shape.proofs.index.weights_index.Given as goal

abbrev pub invariant-loop-number : goal.invariant-loop-number
invariant-loop-number l = record {
  within : l.number ≤ length l.weights;
  so_far : (place : ℕ) → place < 65536 → weight_in (drop l.number l.weights) place ≡ option_map (λ w. w.1) (found l.weights (number_at l.index place));
}

abbrev pub decreases-loop-number : goal.decreases-loop-number
decreases-loop-number l = l.number

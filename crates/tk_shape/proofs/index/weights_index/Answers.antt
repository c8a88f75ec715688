use Rattle.std.proofs.Common.{◌≡◌, ◌≤◌, ◌-◌, ◌+◌, ℕ, length, drop, ap, sym, ◌∙◌, arith}
use Rattle.std.specs.Prelude.{slice_index_or}
use Rattle.std.proofs.lemmas.Option.{slice_get-get_or}
use Rattle.tk_paths.specs.Shape.{weight_in}
use Rattle.tk_shape.proofs.Indexed.{rise_number, weigh_more}
use Rattle.tk_shape.proofs.index.weights_index.Goals as goal

pub put-requires : goal.put-requires
put-requires c = λ inside.
    let weights = c.args.weights.now in
    let number : ℕ = c.loop-number.number - 1 in
    let w : ℕ × ℕ = slice_index_or weights number (0, 0) in
    let high : 0 + number ≤ w.0 = rise_number 0 weights number w c.requires (slice_get-get_or weights number (0, 0) (omega arith)) in
    omega (arith, high, inside)

pub loop-number-preserved : goal.loop-number-preserved
loop-number-preserved c =
    let weights = c.args.weights.now in
    let number : ℕ = c.loop-number.number - 1 in
    let w : ℕ × ℕ = slice_index_or weights number (0, 0) in
    let e : number + 1 ≡ c.loop-number.number = omega arith in
    record {
      within = omega arith;
      so_far = λ place inside.
          weigh_more weights number w place _ _ (slice_get-get_or weights number (0, 0) (omega arith)) (c.put.ensures place inside)
          (ap (λ n. weight_in (drop n weights) place) e ∙ c.loop-number.invariant.so_far place inside);
    }

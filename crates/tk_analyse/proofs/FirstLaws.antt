-- Where what some children come to is small, so are the sums that tell whether the first of them ends.
use Rattle.std.proofs.Common.{◌≡◌, ℕ, ◌+◌, ◌-◌, ◌≤◌, Option, Some, sym, ap, ◌∙◌, subst, arith}
use Rattle.tk_paths.specs.declared.view.Side.{Side}
use Rattle.tk_paths.specs.declared.view.Side.TheVariants.{ToPause, ToEnd}
use Rattle.tk_paths.specs.Sums.{plus, or_zero, resumed_most, resumed_paused}
use Rattle.tk_paths.specs.Walks.{most_cycles}
use Rattle.tk_paths.specs.Faults.{IsSmall}
use Rattle.tk_paths.proofs.SmallLaws.{rest-small, pause-small, end-small}

module _ (f : Side → ℕ → Option ℕ) (c n : ℕ) (small : resumed_most f c (n + 1) ≤ most_cycles) where
  others : n + 1 - 1 ≡ n
  others = omega arith

  pub behind_first : resumed_most f (c + 1) n ≤ most_cycles
  behind_first =
      let P : ℕ → Type 0 = λ k. resumed_most f (c + 1) k ≤ most_cycles in
      subst P others (rest-small f c (n + 1) most_cycles (omega arith) small)

  pub first_pauses : (p : Option ℕ) (most : ℕ) → p ≡ f ToPause c → most ≡ resumed_most f (c + 1) n → IsSmall (plus p (Some most))
  first_pauses p most is told = pause-small f c (n + 1) p most (omega arith) is (told ∙ ap (resumed_most f (c + 1)) (sym others)) small

  pub first_ends : (e rest : Option ℕ) → e ≡ f ToEnd c → rest ≡ resumed_paused f (c + 1) n → IsSmall (plus (Some (or_zero e)) rest)
  first_ends e rest is told = end-small f c (n + 1) e rest (omega arith) is (told ∙ ap (resumed_paused f (c + 1)) (sym others)) small

-- Sums over children, by the first child.
use Rattle.std.proofs.Common.{◌≡◌, ℕ, ◌≤◌, ◌-◌, ◌+◌, suc, ap, arith, List, ◌∷◌}
use Rattle.std.specs.Prelude.{Option, Some}
use Rattle.pt_image.specs.declared.Parts.{Parts}
use Rattle.tk_cert.specs.declared.cert.CertParts.{CertParts}
use Rattle.tk_paths.specs.declared.view.Side.{Side}
use Rattle.tk_paths.specs.declared.view.Side.TheVariants.{ToPause, ToEnd}
use Rattle.tk_paths.specs.Sums.{plus, greater, or_zero, and_more, resumed_ends, resumed_most, resumed_paused}
use Rattle.tk_paths.specs.Greatest.{handlers}
use Rattle.tk_paths.specs.Told.{pair_at, weak_handler}

pub resumed_ends_step : (pairs : List (Option ℕ × Option ℕ)) (c n : ℕ) → 1 ≤ n →
    resumed_ends (pair_at pairs) c n ≡ and_more (pair_at pairs ToEnd c) (resumed_ends (pair_at pairs) (c + 1) (n - 1))
resumed_ends_step pairs c n h = let e : n ≡ suc (n - 1) = omega (arith, h) in ap (resumed_ends (pair_at pairs) c) e

pub resumed_most_step : (pairs : List (Option ℕ × Option ℕ)) (c n : ℕ) → 1 ≤ n →
    resumed_most (pair_at pairs) c n ≡ or_zero (greater (pair_at pairs ToPause c) (pair_at pairs ToEnd c)) + resumed_most (pair_at pairs) (c + 1) (n - 1)
resumed_most_step pairs c n h = let e : n ≡ suc (n - 1) = omega (arith, h) in ap (resumed_most (pair_at pairs) c) e

pub resumed_paused_step : (pairs : List (Option ℕ × Option ℕ)) (c n : ℕ) → 1 ≤ n →
    resumed_paused (pair_at pairs) c n
    ≡ greater (plus (pair_at pairs ToPause c) (Some (resumed_most (pair_at pairs) (c + 1) (n - 1))))
    (plus (Some (or_zero (pair_at pairs ToEnd c))) (resumed_paused (pair_at pairs) (c + 1) (n - 1)))
resumed_paused_step pairs c n h = let e : n ≡ suc (n - 1) = omega (arith, h) in ap (resumed_paused (pair_at pairs) c) e

pub handlers_step : (image : Parts) (cert : CertParts) (costs : List ℕ) (side : Side) (i j : ℕ) (stack : List ℕ) (k : ℕ) → 1 ≤ k →
    handlers image cert costs side i (j ∷ stack) k
    ≡ greater (weak_handler image cert.lines side i j) (handlers image cert costs side (i + 1) stack (k - 1))
handlers_step image cert costs side i j stack k h =
    let e : k ≡ suc (k - 1) = omega (arith, h) in ap (handlers image cert costs side i (j ∷ stack)) e

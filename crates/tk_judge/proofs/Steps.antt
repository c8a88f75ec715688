-- Sums over children, by the first child.
use Rattle.std.proofs.Common.{◌≡◌, ℕ, ◌≤◌, ◌-◌, ◌+◌, suc, ap, Bool, ◌||◌, arith}
use Rattle.std.specs.Prelude.{Option, Some}
use Rattle.std.specs.List.{list_any, range_with_len}
use Rattle.pt_image.specs.declared.Parts.{Parts}
use Rattle.tk_cert.specs.declared.cert.CertParts.{CertParts}
use Rattle.tk_paths.specs.declared.view.Side.TheVariants.{ToPause, ToEnd}
use Rattle.tk_paths.specs.Sums.{plus, greater, or_zero, and_more, all_ends, most, most_paused, resumed_ends, resumed_most, resumed_paused}
use Rattle.tk_shape.specs.Children.{starting, restarted}

pub all_ends_step : (image : Parts) (cert : CertParts) (c n : ℕ) → 1 ≤ n → all_ends (starting image cert) c n ≡ plus (starting image cert ToEnd c) (all_ends (starting image cert) (c + 1) (n - 1))
all_ends_step image cert c n h = let e : n ≡ suc (n - 1) = omega (arith, h) in ap (all_ends (starting image cert) c) e

pub most_step : (image : Parts) (cert : CertParts) (c n : ℕ) → 1 ≤ n → most (starting image cert) c n ≡ plus (greater (starting image cert ToPause c) (starting image cert ToEnd c)) (most (starting image cert) (c + 1) (n - 1))
most_step image cert c n h = let e : n ≡ suc (n - 1) = omega (arith, h) in ap (most (starting image cert) c) e

pub most_paused_step : (image : Parts) (cert : CertParts) (c n : ℕ) → 1 ≤ n → most_paused (starting image cert) c n ≡
    greater (plus (starting image cert ToPause c) (most (starting image cert) (c + 1) (n - 1))) (plus (starting image cert ToEnd c) (most_paused (starting image cert) (c + 1) (n - 1)))
most_paused_step image cert c n h = let e : n ≡ suc (n - 1) = omega (arith, h) in ap (most_paused (starting image cert) c) e

pub resumed_ends_step : (cert : CertParts) (c n : ℕ) → 1 ≤ n → resumed_ends (restarted cert) c n ≡ and_more (restarted cert ToEnd c) (resumed_ends (restarted cert) (c + 1) (n - 1))
resumed_ends_step cert c n h = let e : n ≡ suc (n - 1) = omega (arith, h) in ap (resumed_ends (restarted cert) c) e

pub resumed_most_step : (cert : CertParts) (c n : ℕ) → 1 ≤ n → resumed_most (restarted cert) c n ≡ or_zero (greater (restarted cert ToPause c) (restarted cert ToEnd c)) + resumed_most (restarted cert) (c + 1) (n - 1)
resumed_most_step cert c n h = let e : n ≡ suc (n - 1) = omega (arith, h) in ap (resumed_most (restarted cert) c) e

pub resumed_paused_step : (cert : CertParts) (c n : ℕ) → 1 ≤ n → resumed_paused (restarted cert) c n ≡
    greater (plus (restarted cert ToPause c) (Some (resumed_most (restarted cert) (c + 1) (n - 1)))) (plus (Some (or_zero (restarted cert ToEnd c))) (resumed_paused (restarted cert) (c + 1) (n - 1)))
resumed_paused_step cert c n h = let e : n ≡ suc (n - 1) = omega (arith, h) in ap (resumed_paused (restarted cert) c) e

pub any_child : (p : ℕ → Bool) (c n : ℕ) → 1 ≤ n → list_any p (range_with_len c n) ≡ (p c || list_any p (range_with_len (c + 1) (n - 1)))
any_child p c n h = let e : n ≡ suc (n - 1) = omega (arith, h) in ap (λ m. list_any p (range_with_len c m)) e

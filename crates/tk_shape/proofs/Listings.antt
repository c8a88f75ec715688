-- Points by their places.
use Rattle.std.proofs.Common.{◌≡◌, ℕ, Bool, true, false, ◌&&◌, ◌||◌, ◌==◌, List, [], ◌∷◌, refl, ap, ◌∙◌}
use Rattle.std.specs.Prelude.{if◌then◌else◌}
use Rattle.std.specs.List.{list_any}
use Rattle.pt_image.specs.declared.Point.{Point}
use Rattle.pt_image.specs.Listed.{is_listed, is_point, same_numbers}
use Rattle.tk_paths.specs.Kinds.{points_at}
use Rattle.tk_shape.specs.Looking.{is_from}

by-place : (b : Bool) (place slot : ℕ) (stack : List ℕ) (p : Point) (points : List Point) → is_listed points place slot stack ≡ list_any (is_from slot stack) (points_at points place) →
    ((b && p.slot == slot && same_numbers p.stack stack) || is_listed points place slot stack) ≡ list_any (is_from slot stack) (if b then p ∷ points_at points place else points_at points place)
by-place true place slot stack p points h = ap (λ r. (p.slot == slot && same_numbers p.stack stack) || r) h
by-place false place slot stack p points h = h

pub listed_at : (points : List Point) (place slot : ℕ) (stack : List ℕ) → is_listed points place slot stack ≡ list_any (is_from slot stack) (points_at points place)
listed_at [] place slot stack = refl
listed_at (p ∷ points) place slot stack = by-place (p.at == place) place slot stack p points (listed_at points place slot stack)

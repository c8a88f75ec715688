-- Whether a pause or a fork is listed: docs/machine.md, "Traps".
use Rattle.std.specs.Prelude.{ℕ, ◌==◌, ◌&&◌, Bool, true, false, List, [], ◌∷◌}
use Rattle.std.specs.List.{list_any}
use Rattle.pt_image.specs.declared.image.Point.{Point}

abbrev pub same_numbers : List ℕ → List ℕ → Bool
same_numbers [] [] = true
same_numbers [] (b ∷ bs) = false
same_numbers (a ∷ as') [] = false
same_numbers (a ∷ as') (b ∷ bs) = a == b && same_numbers as' bs

-- a listed pause or fork has this place, slot and stack of abort numbers
abbrev pub is_point : ℕ → ℕ → List ℕ → Point → Bool
is_point place slot stack p = p.at == place && p.slot == slot && same_numbers p.stack stack

abbrev pub is_listed : List Point → ℕ → ℕ → List ℕ → Bool
is_listed points place slot stack = list_any (is_point place slot stack) points

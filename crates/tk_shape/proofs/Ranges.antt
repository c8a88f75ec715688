-- What holds of all of a range.
use Rattle.std.proofs.Common.{◌≡◌, ℕ, ◌≤◌, ◌-◌, ◌+◌, suc, Bool, true, false, ◌&&◌, ◌||◌, not, ◌==◌, List, [], ◌∷◌, ◌++◌, map, filter, flat_map, if◌then◌else◌, sym, ap, ◌∙◌, refl, arith}
use Rattle.std.specs.Option.{option_or}
use Rattle.pt_image.specs.declared.Parts.{Parts}
use Rattle.tk_cert.specs.declared.cert.CertParts.{CertParts}
use Rattle.tk_cert.specs.Demands.{Demand, shape_demand}
use Rattle.tk_paths.specs.Kinds.{places_of}
use Rattle.tk_paths.specs.Shape.{shape, place_is_shaped, tables_fit}
use Rattle.tk_shape.specs.Refused.{refused}
use Rattle.tk_shape.proofs.Refusals.{refused_append}
use Rattle.std.specs.List.{list_all, range_with_len}

pub all_range : (p : ℕ → Bool) (child count : ℕ) → 1 ≤ count → list_all p (range_with_len child count) ≡ (p child && list_all p (range_with_len (child + 1) (count - 1)))
all_range p child count h = let e : count ≡ suc (count - 1) = omega (arith, h) in ap (λ n. list_all p (range_with_len child n)) e

and-back : (a b c : Bool) → (a && (b && c)) ≡ ((a && b) && c)
and-back true b c = refl
and-back false b c = refl

pub six_ands : (l a b c d e : Bool) → (l && a && (b && c && d)) ≡ (l && a && b && c && d)
six_ands true true b c d e = refl
six_ands true false b c d e = refl
six_ands false a b c d e = refl

ones : (f : ℕ → Demand) (xs : List ℕ) → map f xs ≡ flat_map (λ x. f x ∷ []) xs
ones f [] = refl
ones f (x ∷ xs) = ap (λ d. f x ∷ d) (ones f xs)

pub shape_is : (image : Parts) (cert : CertParts) → refused (shape image cert) ≡
    option_or (refused (shape_demand 1 0 (tables_fit image cert) ∷ [])) (refused (flat_map (λ place. shape_demand 1 place (place_is_shaped image cert place) ∷ []) (places_of image)))
shape_is image cert =
    refused_append (shape_demand 1 0 (tables_fit image cert) ∷ []) (map (λ place. shape_demand 1 place (place_is_shaped image cert place)) (places_of image))
    ∙ ap (λ ds. option_or (refused (shape_demand 1 0 (tables_fit image cert) ∷ [])) (refused ds)) (ones (λ place. shape_demand 1 place (place_is_shaped image cert place)) (places_of image))

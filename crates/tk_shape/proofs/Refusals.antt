-- The first failing demand of lists put together.
use Rattle.std.proofs.Common.{◌≡◌, ℕ, ◌+◌, ◌-◌, ◌<◌, suc, Bool, true, false, List, [], ◌∷◌, ◌++◌, refl, ap, ◌∙◌, arith}
use Rattle.std.specs.Prelude.{Option, Some, None, option_map, if◌then◌else◌}
use Rattle.std.specs.Option.{option_or}
use Rattle.std.specs.List.{flat_map, range_with_len}
use Rattle.tk_cert.specs.Demands.{Demand, first_failing}
use Rattle.tk_shape.specs.declared.refusal.Refusal.{Refusal}
use Rattle.tk_shape.specs.Refused.{refused, refusal_of}

step : (b : Bool) (x : Demand) (xs ys : List Demand) → refused (xs ++ ys) ≡ option_or (refused xs) (refused ys)
    → option_map refusal_of (if b then first_failing (xs ++ ys) else Some x) ≡ option_or (option_map refusal_of (if b then first_failing xs else Some x)) (refused ys)
step true x xs ys h = h
step false x xs ys h = refl

pub refused_append : (xs ys : List Demand) → refused (xs ++ ys) ≡ option_or (refused xs) (refused ys)
refused_append [] ys = refl
refused_append (x ∷ xs) ys = step (x.holds) x xs ys (refused_append xs ys)

pub refused-from : (f : ℕ → List Demand) (place count left : ℕ) → count ≡ suc left
    → refused (flat_map f (range_with_len place count)) ≡ option_or (refused (f place)) (refused (flat_map f (range_with_len (place + 1) left)))
refused-from f place count left e =
    ap (λ n. refused (flat_map f (range_with_len place n))) e ∙ refused_append (f place) (flat_map f (range_with_len (place + 1) left))

pub refused-past : (f : ℕ → List Demand) (whole : Option Refusal) (place end : ℕ) → place < end
    → whole ≡ refused (flat_map f (range_with_len place (end - place))) → refused (f place) ≡ None
    → whole ≡ refused (flat_map f (range_with_len (place + 1) (end - (place + 1))))
refused-past f whole place end h w none =
    w ∙ refused-from f place (end - place) (end - (place + 1)) (omega arith) ∙ ap (λ o. option_or o (refused (flat_map f (range_with_len (place + 1) (end - (place + 1)))))) none

pub refused-at : (f : ℕ → List Demand) (whole : Option Refusal) (place end : ℕ) (answer : Refusal) → place < end
    → whole ≡ refused (flat_map f (range_with_len place (end - place))) → refused (f place) ≡ Some answer → whole ≡ Some answer
refused-at f whole place end answer h w some =
    w ∙ refused-from f place (end - place) (end - (place + 1)) (omega arith) ∙ ap (λ o. option_or o (refused (flat_map f (range_with_len (place + 1) (end - (place + 1)))))) some

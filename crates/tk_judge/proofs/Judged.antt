-- No demand fails exactly where all hold.
use Rattle.std.proofs.Common.{◌≡◌, ℕ, Bool, true, false, List, [], ◌∷◌, ◌++◌, refl, ap, ◌∙◌, sym, ◌↔◌}
use Rattle.std.specs.Prelude.{Option, Some, None, option_map, if◌then◌else◌}
use Rattle.std.specs.Option.{option_or}
use Rattle.pt_image.specs.declared.Parts.{Parts}
use Rattle.tk_cert.specs.declared.cert.CertParts.{CertParts}
use Rattle.tk_paths.specs.Shape.{shape, apart}
use Rattle.tk_paths.specs.Acceptance.{edges, pauses, forks, resuming, bounded, asks}
use Rattle.tk_shape.proofs.Refusals.{refused_append}
use Rattle.tk_cert.specs.Demands.{Demand, first_failing, AllHold}
use Rattle.tk_shape.specs.declared.refusal.Refusal.{Refusal}
use Rattle.tk_shape.specs.Refused.{refused, refusal_of}

some-fails : (b : Bool) (d : Demand) (ds : List Demand) → option_map refusal_of (if b then first_failing ds else Some d) ≡ None → (b ≡ true) × (refused ds ≡ None)
some-fails true d ds h = (refl, h)
some-fails false d ds h = cc h

all-hold : (ds : List Demand) → refused ds ≡ None → AllHold ds
all-hold [] h = tt
all-hold (d ∷ ds) h = let parts = some-fails d.holds d ds h in (parts.0, all-hold ds (parts.1))

passed : (b : Bool) (d : Demand) (ds : List Demand) → b ≡ true → refused ds ≡ None → option_map refusal_of (if b then first_failing ds else Some d) ≡ None
passed true d ds h none = none
passed false d ds h none = cc h

none-fails : (ds : List Demand) → AllHold ds → refused ds ≡ None
none-fails [] h = refl
none-fails (d ∷ ds) h = passed d.holds d ds (h.0) (none-fails ds (h.1))

pub none_holds : (answer : Option Refusal) (ds : List Demand) → answer ≡ refused ds → answer ≡ None ↔ AllHold ds
none_holds answer ds e = (λ none. all-hold ds (sym e ∙ none), λ h. e ∙ none-fails ds h)

pub asks_are : (image : Parts) (cert : CertParts) (costs : List ℕ) → refused (asks image cert costs) ≡
    option_or (option_or (option_or (option_or (option_or (option_or (refused (shape image cert)) (refused (apart image))) (refused (edges image cert costs))) (refused (pauses image cert costs))) (refused (forks image cert costs))) (refused (resuming image cert costs))) (refused (bounded image cert costs))
asks_are image cert costs =
    let a = shape image cert in
    let b = apart image in
    let c = edges image cert costs in
    let d = pauses image cert costs in
    let e = forks image cert costs in
    let f = resuming image cert costs in
    let g = bounded image cert costs in
    seven a b c d e f g
  where
    seven : (a b c d e f g : List Demand) → refused (a ++ b ++ c ++ d ++ e ++ f ++ g) ≡
        option_or (option_or (option_or (option_or (option_or (option_or (refused a) (refused b)) (refused c)) (refused d)) (refused e)) (refused f)) (refused g)
    seven a b c d e f g =
        refused_append (a ++ b ++ c ++ d ++ e ++ f) g
        ∙ ap (λ o. option_or o (refused g)) (refused_append (a ++ b ++ c ++ d ++ e) f
        ∙ ap (λ o. option_or o (refused f)) (refused_append (a ++ b ++ c ++ d) e
        ∙ ap (λ o. option_or o (refused e)) (refused_append (a ++ b ++ c) d
        ∙ ap (λ o. option_or o (refused d)) (refused_append (a ++ b) c
        ∙ ap (λ o. option_or o (refused c)) (refused_append a b)))))

-- A walk costs the bound exactly where its one cost is the bound.
use Rattle.std.proofs.Common.{◌≡◌, ℕ, List, Option, Some, None, sym, ◌∙◌, subst, ◌↔◌, ◌==◌, true, false}
use Rattle.std.proofs.lemmas.Bool.{eqb-true, eq-eqb}
use Rattle.std.proofs.lemmas.Option.{same_Some}
use Rattle.pt_image.specs.declared.Parts.{Parts}
use Rattle.tk_cert.specs.declared.cert.Walk.{Walk}
use Rattle.tk_paths.specs.Walks.{IsCostOf}

-- a walk that has one cost costs a number exactly where the two are one
pub is-cost : (image : Parts) (costs : List ℕ) (walk read : Walk) (cost number given : ℕ) → read ≡ walk → given ≡ number → IsCostOf image costs read cost
    → ((n : ℕ) → IsCostOf image costs read n → Some cost ≡ Some n) → ((cost == given) ≡ true) ↔ IsCostOf image costs walk number
is-cost image costs walk read cost number given same at c only =
    let P : Walk → Type 0 = λ w. IsCostOf image costs w cost in
    let Q : ℕ → Type 0 = λ n. IsCostOf image costs walk n in
    let R : Walk → Type 0 = λ w. IsCostOf image costs w number in
    let here : IsCostOf image costs walk cost = subst P same c in
    (λ h. subst Q (eqb-true cost given h ∙ at) here, λ n. eq-eqb cost given (same_Some cost number (only number (subst R (sym same) n)) ∙ sym at))

pub no-cost : (image : Parts) (costs : List ℕ) (walk read : Walk) (number : ℕ) → read ≡ walk → ((cost : ℕ) → IsCostOf image costs read cost → ⊥) → (false ≡ true) ↔ IsCostOf image costs walk number
no-cost image costs walk read number same none =
    let P : Walk → Type 0 = λ w. IsCostOf image costs w number in
    (λ h. cc h, λ n. absurd (none number (subst P (sym same) n)))

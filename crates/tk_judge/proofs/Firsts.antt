-- The handlers of aborts, one after another.
use Rattle.std.proofs.Common.{◌≡◌, ℕ, ◌≤◌, ◌-◌, ◌+◌, suc, List, [], ◌∷◌, ◌++◌, ap, ◌∙◌, arith}
use Rattle.std.specs.Option.{option_or}
use Rattle.pt_image.specs.declared.Parts.{Parts}
use Rattle.tk_cert.specs.declared.cert.CertParts.{CertParts}
use Rattle.tk_cert.specs.Demands.{Demand}
use Rattle.tk_paths.specs.Kinds.{abort_at}
use Rattle.tk_paths.specs.Acceptance.{value, weak_handlers, strong_handlers}
use Rattle.tk_shape.specs.Refused.{refused}
use Rattle.tk_shape.proofs.Refusals.{refused_append}
use Rattle.tk_judge.specs.Asks.{if_weak, if_strong}

pub weak_first : (image : Parts) (cert : CertParts) (costs : List ℕ) (asks : ℕ → ℕ → List Demand) (i j : ℕ) (stack : List ℕ) (k : ℕ) → 1 ≤ k →
    refused (weak_handlers image cert costs asks i (j ∷ stack) k) ≡ option_or (refused (if_weak image j (asks i))) (refused (weak_handlers image cert costs asks (i + 1) stack (k - 1)))
weak_first image cert costs asks i j stack k h =
    let e : k ≡ suc (k - 1) = omega (arith, h) in
    ap (λ n. refused (weak_handlers image cert costs asks i (j ∷ stack) n)) e ∙ refused_append (if_weak image j (asks i)) (weak_handlers image cert costs asks (i + 1) stack (k - 1))

pub strong_first : (image : Parts) (cert : CertParts) (costs : List ℕ) (asks : ℕ → ℕ → ℕ → List Demand) (sum i j : ℕ) (stack : List ℕ) →
    refused (strong_handlers image cert costs asks sum i (j ∷ stack)) ≡
    option_or (refused (if_strong image j (asks (sum + value image cert costs ((abort_at image j).cond)) i))) (refused (strong_handlers image cert costs asks (sum + value image cert costs ((abort_at image j).cond)) (i + 1) stack))
strong_first image cert costs asks sum i j stack =
    refused_append (if_strong image j (asks (sum + value image cert costs ((abort_at image j).cond)) i)) (strong_handlers image cert costs asks (sum + value image cert costs ((abort_at image j).cond)) (i + 1) stack)

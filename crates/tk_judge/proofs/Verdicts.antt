-- From the first demand that fails to the checker's answer.
use Rattle.std.proofs.Common.{◌≡◌, ℕ, List, ap, refl, ◌↔◌, IsTrue}
use Rattle.std.specs.Prelude.{Bool, Option, Some, None, option_map}
use Rattle.mb_isa.specs.Costs.{IsCosts}
use Rattle.pt_image.specs.declared.Parts.{Parts}
use Rattle.pt_image.specs.Ranges.{IsImage}
use Rattle.tk_cert.specs.declared.cert.CertParts.{CertParts}
use Rattle.tk_cert.specs.Demands.{Demand, AllHold}
use Rattle.tk_cert.specs.Shapes.{IsCert}
use Rattle.tk_paths.specs.Acceptance.{asks}
use Rattle.tk_paths.specs.Bounded.{IsAcceptedFor}
use Rattle.tk_paths.specs.Walks.{IsCostOf, IsWorst, ReachedIsWorst}
use Rattle.tk_shape.specs.declared.refusal.Refusal.{Refusal}
use Rattle.tk_shape.specs.Refused.{refusal_of}
use Rattle.tk_judge.specs.declared.answer.Answer.{Answer}
use Rattle.tk_judge.specs.declared.answer.Answer.TheVariants.{Yes, No}
use Rattle.tk_judge.specs.Answers.{Answers, IfYes, IsYes}

pub answers-some : (o : Option Demand) (r : Refusal) → Some r ≡ option_map refusal_of o → Answers o (No r.condition r.at r.level r.needed r.given)
answers-some None r h = cc h
answers-some (Some d) r h = let e : r ≡ refusal_of d = cc h in ap (λ (q : Refusal). No q.condition q.at q.level q.needed q.given) e

pub answers-none : (o : Option Demand) (reached : Bool) → None ≡ option_map refusal_of o → Answers o (Yes reached)
answers-none None reached h = tt
answers-none (Some d) reached h = cc h

-- where all demands hold, the theorems on acceptance may be used
pub accepted : (image : Parts) (cert : CertParts) (costs : List ℕ) → IsImage image → IsCert cert → IsCosts costs → AllHold (asks image cert costs) → IsAcceptedFor image cert costs
accepted image cert costs i c p h = record { image_is = i; cert_is = c; priced = p; hold = h }

pub worst_of : (image : Parts) (cert : CertParts) (costs : List ℕ) (answer : Answer) → IsImage image → IsCert cert → IsCosts costs → ReachedIsWorst
    → IsYes answer ↔ AllHold (asks image cert costs) → IfYes answer (λ reached. IsTrue reached ↔ IsCostOf image costs cert.walk cert.bound)
    → IfYes answer (λ reached. IsTrue reached → IsWorst image costs cert.bound)
worst_of image cert costs (Yes reached) i c p law said at = λ h. law image cert costs (accepted image cert costs i c p (said.0 tt)) (at.0 h)
worst_of image cert costs (No condition at level needed given) i c p law said h = tt

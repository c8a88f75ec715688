-- What the checker's answer comes to.
use Rattle.std.proofs.Common.{◌≡◌, ◌↔◌, IsTrue, ℕ, Bool, false, List, Option, Some, None, refl, sym, ap, subst, ◌∙◌, arith}
use Rattle.pt_trace.specs.Verdict.{yes_line}
use Rattle.pt_image.specs.declared.Parts.{Parts}
use Rattle.tk_paths.specs.Walks.{IsCostOf, IsWorst}
use Rattle.tk_paths.specs.Acceptance.{asks}
use Rattle.tk_paths.specs.Bounded.{BoundsFreeTicks, BoundsRuns}
use Rattle.tk_cert.specs.declared.CertParts.{CertParts}
use Rattle.tk_cert.specs.Demands.{Demand, first_failing, AllHold}
use Rattle.tk_judge.specs.declared.Answer.{Answer}
use Rattle.tk_judge.specs.declared.Answer.TheVariants.{Yes, No}
use Rattle.tk_judge.specs.Answers as answers
use Rattle.pretc_run.specs.declared.endings.Ending.{Ending}
use Rattle.pretc_run.specs.declared.endings.Ending.TheVariants.{Done, NotAccepted}
use Rattle.pretc_run.specs.Endings.{number_of, line_of}
use Rattle.pretc_top.specs.Check.{refusal_of, Decided, accepted, not_accepted, AreRead, CostsRead}
use Rattle.pretc_top.specs.Exec.{Unapproved, unaccepted}

pub not_true : (b : Bool) → b ≡ false → IsTrue b → ⊥
not_true b e h = cc

-- a yes, with its line
pub yes_at : (image : Parts) (cert : CertParts) (costs line : List ℕ) (answer : Answer) (reached : Bool) (bound : ℕ) → bound ≡ cert.bound → answer ≡ Yes reached →
    (answers.IsYes answer ↔ AllHold (asks image cert costs)) → (answers.IsYes answer → BoundsFreeTicks image costs cert.bound) → (answers.IsYes answer → BoundsRuns image costs cert.bound) →
    answers.IfYes answer (λ r. IsTrue r ↔ IsCostOf image costs cert.walk cert.bound) → answers.IfYes answer (λ r. IsTrue r → IsWorst image costs cert.bound) →
    line ≡ yes_line bound reached → Decided image cert costs line Done
yes_at image cert costs line (Yes r) reached bound same e a f g h w l =
    let P : List ℕ → Type 0 = λ x. Decided image cert costs x Done in
    subst P (sym (l ∙ ap (λ b. yes_line b reached) same ∙ ap (yes_line cert.bound) (sym (cc e))))
    (accepted r (record { accepted = a.0 tt; free_ticks = f tt; runs = g tt; reached_is = h; worst = w }))
yes_at image cert costs line (No condition at level needed given) reached bound same e a f g h w l = absurd (cc e)

-- the ending of a refusal is that of its demand
ending_is : (d : Demand) (condition at level needed : ℕ) (given : Option ℕ) → No condition at level needed given ≡ answers.refusal d →
    NotAccepted condition at level needed given ≡ refusal_of d
ending_is d condition at level needed given e = cc e

no_of_demand : (image : Parts) (cert : CertParts) (costs : List ℕ) (answer : Answer) (condition at level needed : ℕ) (given : Option ℕ) (o : Option Demand) → o ≡ first_failing (asks image cert costs) →
    answers.Answers o answer → answer ≡ No condition at level needed given →
    Decided image cert costs (line_of (NotAccepted condition at level needed given)) (NotAccepted condition at level needed given)
no_of_demand image cert costs answer condition at level needed given None is a e = let P : Answer → Type 0 = λ x. answers.IsYes x in absurd (subst P e a)
no_of_demand image cert costs answer condition at level needed given (Some d) is a e =
    let P : Ending → Type 0 = λ x. Decided image cert costs (line_of x) x in
    subst P (sym (ending_is d condition at level needed given (sym e ∙ a))) (not_accepted d (sym is))

pub no_at : (image : Parts) (cert : CertParts) (costs : List ℕ) (answer : Answer) (condition at level needed : ℕ) (given : Option ℕ) →
    answers.Answers (first_failing (asks image cert costs)) answer → answer ≡ No condition at level needed given →
    Decided image cert costs (line_of (NotAccepted condition at level needed given)) (NotAccepted condition at level needed given)
no_at image cert costs answer condition at level needed given a e =
    no_of_demand image cert costs answer condition at level needed given (first_failing (asks image cert costs)) refl a e

pub yes_is : (answer : Answer) (reached : Bool) → answer ≡ Yes reached → answers.IsYes answer
yes_is answer reached e = let P : Answer → Type 0 = λ a. answers.IsYes a in subst P (sym e) tt

unaccepted_by : (image_text cert_text : List ℕ) (costs_text : Option (List ℕ)) (image : Parts) (cert : CertParts) (costs line : List ℕ) (e : Ending) → AreRead image_text cert_text image cert →
    CostsRead costs_text costs → Decided image cert costs line e → number_of e ≡ 9 → Unapproved image_text cert_text costs_text e
unaccepted_by image_text cert_text costs_text image cert costs _ _ r p (accepted reached y) n = absurd (omega (arith, n))
unaccepted_by image_text cert_text costs_text image cert costs _ _ r p (not_accepted d f) n = unaccepted image cert costs d r p f

-- a no, as `exec` says it
pub unaccepted_at : (image_text cert_text : List ℕ) (costs_text : Option (List ℕ)) (image : Parts) (cert : CertParts) (costs : List ℕ) (answer : Answer) (condition at level needed : ℕ) (given : Option ℕ) →
    AreRead image_text cert_text image cert → CostsRead costs_text costs → answers.Answers (first_failing (asks image cert costs)) answer → answer ≡ No condition at level needed given →
    Unapproved image_text cert_text costs_text (NotAccepted condition at level needed given)
unaccepted_at image_text cert_text costs_text image cert costs answer condition at level needed given r p a e =
    unaccepted_by image_text cert_text costs_text image cert costs _ _ r p (no_at image cert costs answer condition at level needed given a e) refl

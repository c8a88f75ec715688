-- How a run goes on by one step, and how it ends.
use Rattle.std.proofs.Common.{◌≡◌, ◌≤◌, ◌<◌, ◌-◌, ℕ, zero, suc, ◌+◌, nat_lt, true, false, List, refl, ap, ◌∙◌, arith}
use Rattle.mb_isa.specs.Costs.{IsCosts}
use Rattle.mb_pfu.specs.declared.TrapKind.{TrapKind}
use Rattle.mb_pfu.specs.declared.TrapKind.TheVariants.{Late}
use Rattle.pt_image.specs.declared.Parts.{Parts}
use Rattle.mb_isa.specs.Control.{Control, Resting, job_in, place_of}
use Rattle.mb_isa.specs.Words.{plan_for}
use Rattle.mb_isa.specs.Step.{Rules, Stepped, Moves, Rests, Traps, stepped, step}
use Rattle.mb_isa.specs.Tick.{Outcome, Ends, Trapped, after_step, run, Steps, still, onward}
use Rattle.mb_isa.proofs.Charging.{charge-least}

module _ {Data : Type 0} (rules : Rules Data) (image : Parts) (costs : List ℕ) (most charged : ℕ) (c : Control) (d : Data) where
  stepping : (fuel : ℕ) (s : Stepped Data) → step rules costs image c d ≡ s → run rules image costs (suc fuel) most charged c d ≡ after_step rules image costs (run rules image costs fuel most) most charged c d s
  unfolding run
  stepping fuel s h = ap (after_step rules image costs (run rules image costs fuel most) most charged c d) h

  low : (n : ℕ) → n ≤ most → nat_lt most n ≡ false
  low n h = grind arith

  high : (n : ℕ) → most < n → nat_lt most n ≡ true
  high n h = grind arith

  pub goes_on : (fuel charge : ℕ) (next : Control) (after : Data) → IsCosts costs → most + 1 ≤ fuel + charged → charged ≤ most → step rules costs image c d ≡ Moves charge next after → charge ≤ most - charged →
      (more : ℕ) × (most + 1 ≤ more + (charged + charge)) × (1 ≤ charge) × (run rules image costs fuel most charged c d ≡ run rules image costs more most (charged + charge) next after)
  goes_on zero charge next after priced left within h fits = absurd (omega arith)
  goes_on (suc fuel) charge next after priced left within h fits =
      let least : 1 ≤ charge = charge-least rules costs priced image c next d after charge h in
      (fuel, omega arith, least, stepping fuel (Moves charge next after) h ∙ rw (low (charged + charge) (omega arith)) refl)

  pub is_late : (fuel charge : ℕ) (next : Control) (after : Data) → most + 1 ≤ fuel + charged → charged ≤ most → step rules costs image c d ≡ Moves charge next after → most - charged < charge → run rules image costs fuel most charged c d ≡ Trapped Late (place_of c) charged
  is_late zero charge next after left within h over = absurd (omega arith)
  is_late (suc fuel) charge next after left within h over = stepping fuel (Moves charge next after) h ∙ rw (high (charged + charge) (omega arith)) refl

  pub is_trapped : (fuel : ℕ) (kind : TrapKind) → most + 1 ≤ fuel + charged → charged ≤ most → step rules costs image c d ≡ Traps kind → run rules image costs fuel most charged c d ≡ Trapped kind (place_of c) charged
  is_trapped zero kind left within h = absurd (omega arith)
  is_trapped (suc fuel) kind left within h = stepping fuel (Traps kind) h

  pub is_over : (fuel : ℕ) → most + 1 ≤ fuel + charged → charged ≤ most → c.phase ≡ Resting → run rules image costs fuel most charged c d ≡ Ends charged c.unit d
  is_over zero left within h = absurd (omega arith)
  is_over (suc fuel) left within h = stepping fuel Rests (ap (λ p. stepped rules costs d (plan_for image c (job_in p))) h)

module _ {Data : Type 0} (rules : Rules Data) (image : Parts) (costs : List ℕ) (most : ℕ) where
  fuel-is : (f g charged to : ℕ) (c : Control) (d : Data) (o : Outcome Data) → f ≡ g → charged ≡ to → run rules image costs g most to c d ≡ o → run rules image costs f most charged c d ≡ o
  fuel-is f g charged to c d o e q h = rw (e, q) h

  one-step : (fuel charged charge : ℕ) (c next : Control) (d after : Data) → step rules costs image c d ≡ Moves charge next after → charged + charge ≤ most → run rules image costs (suc fuel) most charged c d ≡ run rules image costs fuel most (charged + charge) next after
  one-step fuel charged charge c next d after h within = stepping rules image costs most charged c d fuel (Moves charge next after) h ∙ rw (low rules image costs most charged c d (charged + charge) within) refl

  -- a path within what is left is what the run does
  pub path-runs : (fuel charged spent count : ℕ) (c last : Control) (d end : Data) → Steps rules image costs c d spent count last end → charged + spent ≤ most → run rules image costs (count + fuel) most charged c d ≡ run rules image costs fuel most (charged + spent) last end
  path-runs fuel charged spent count c last d end (still {c = x} {d = y}) within = fuel-is (0 + fuel) fuel charged (charged + 0) x y _ (omega arith) (omega arith) refl
  path-runs fuel charged spent count c last d end (onward {c = x} {next = y} {last = z} {d = a} {after = b} {end = e} {charge = n} {rest = m} {count = k} h s) within =
      fuel-is (suc k + fuel) (suc (k + fuel)) charged charged x a _ (omega arith) refl
      (one-step (k + fuel) charged n x y a b h (omega arith) ∙ path-runs fuel (charged + n) m k y z b e s (omega arith) ∙ ap (λ to. run rules image costs fuel most to z e) (the-sum charged n m))
    where
      the-sum : (i j l : ℕ) → i + j + l ≡ i + (j + l)
      the-sum i j l = omega arith

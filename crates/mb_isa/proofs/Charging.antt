-- Each step is charged at least 1, so the fuel is of no matter; and what bounds each step's charge bounds the tick's.
use Rattle.std.proofs.Common.{◌≡◌, ◌≤◌, ℕ, zero, suc, ◌+◌, nat_lt, Bool, true, false, if◌then◌else◌, List, Option, Some, None, refl, ap, subst, arith}
use Rattle.mb_isa.specs.declared.words.Instr.{Instr}
use Rattle.mb_isa.specs.declared.costs.Class.TheVariants as class
use Rattle.mb_isa.specs.Classes.{class_of}
use Rattle.mb_isa.specs.Costs.{IsCosts}
use Rattle.mb_isa.proofs.CostRange.{cost_of-range}
use Rattle.mb_pfu.specs.Unit.{State}
use Rattle.pt_image.specs.declared.Parts.{Parts}
use Rattle.mb_isa.specs.Control.{Control, tests_on}
use Rattle.mb_isa.specs.Words.{Plan, Rest, Refuse, Go, Work, Branch, Conclude, plan}
use Rattle.mb_isa.specs.Step.{Rules, Stepped, Moves, Rests, Traps, Undecided, samples_on, worked, decided, branched, concluded, stepped, step}
use Rattle.mb_isa.specs.Tick.{Outcome, Ends, Trapped, Open, base_of, begun, after_step, run, tick, IsSafeWithin, Pays}

module _ {Data : Type 0} (rules : Rules Data) (costs : List ℕ) (priced : IsCosts costs) where
  abbrev charge_in : Stepped Data → ℕ
  charge_in (Moves charge next after) = charge
  charge_in Rests = 1
  charge_in (Traps kind) = 1
  charge_in Undecided = 1

  worked-least : (i : Instr) (to : Control) (o : Option Data) → 1 ≤ charge_in (worked rules costs i to o)
  worked-least i to None = omega arith
  worked-least i to (Some d) = (cost_of-range costs priced (class_of false i)).0

  decided-least : (taken : Option Control) (untaken : Control) (b : Bool) (d : Data) → 1 ≤ charge_in (decided rules costs taken untaken b d)
  decided-least None untaken true d = omega arith
  decided-least (Some to) untaken true d = (cost_of-range costs priced class.Taken).0
  decided-least taken untaken false d = (cost_of-range costs priced class.Untaken).0

  branched-least : (taken : Option Control) (untaken : Control) (o : Option (Bool × Data)) → 1 ≤ charge_in (branched rules costs taken untaken o)
  branched-least taken untaken None = omega arith
  branched-least taken untaken (Some p) = decided-least taken untaken p.0 p.1

  concluded-least : (u : State) (o : Option (Bool × Data)) → 1 ≤ charge_in (concluded rules costs u o)
  concluded-least u None = omega arith
  concluded-least u (Some p) = (cost_of-range costs priced class.Cend).0

  stepped-least : (p : Plan) (d : Data) → 1 ≤ charge_in (stepped rules costs d p)
  stepped-least Rest d = omega arith
  stepped-least (Refuse kind) d = omega arith
  stepped-least (Go class to) d = (cost_of-range costs priced class).0
  stepped-least (Work i upper to) d = worked-least i to (rules.does i upper d)
  stepped-least (Branch i taken untaken) d = branched-least taken untaken (rules.taken i d)
  stepped-least (Conclude ra u) d = concluded-least u (rules.holds ra d)

  -- a step is charged at least 1
  pub charge-least : (image : Parts) (c next : Control) (d after : Data) (charge : ℕ) → step rules costs image c d ≡ Moves charge next after → 1 ≤ charge
  charge-least image c next d after charge h = subst (λ n. 1 ≤ n) (ap charge_in h) (stepped-least (plan image c) d)

  module _ (image : Parts) (most : ℕ) where
    abbrev Same : ℕ → ℕ → Type 0
    Same f g = (charged : ℕ) (c : Control) (d : Data) → charged ≤ most → most + 1 ≤ f + charged → most + 1 ≤ g + charged → run rules image costs f most charged c d ≡ run rules image costs g most charged c d

    low-at : (n : ℕ) → nat_lt most n ≡ false → n ≤ most
    low-at n h = grind arith

    if-same : (b : Bool) (x y z : Outcome Data) → (b ≡ false → y ≡ z) → (if b then x else y) ≡ (if b then x else z)
    if-same true x y z e = refl
    if-same false x y z e = e refl

    after-same : (f g charged : ℕ) (c : Control) (d : Data) (s : Stepped Data) → step rules costs image c d ≡ s → Same f g → charged ≤ most → most + 1 ≤ suc f + charged → most + 1 ≤ suc g + charged →
        after_step rules image costs (run rules image costs f most) most charged c d s ≡ after_step rules image costs (run rules image costs g most) most charged c d s
    after-same f g charged c d (Moves charge next after) h same low left right =
        let least : 1 ≤ charge = charge-least image c next d after charge h in
        if-same (nat_lt most (charged + charge)) _ _ _ (λ e. same (charged + charge) next after (low-at (charged + charge) e) (omega arith) (omega arith))
    after-same f g charged c d Rests h same low left right = refl
    after-same f g charged c d (Traps kind) h same low left right = refl
    after-same f g charged c d Undecided h same low left right = refl

    -- two fuels that are enough agree
    pub enough : (f g : ℕ) → Same f g
    unfolding run
    enough zero g charged c d low left right = absurd (omega arith)
    enough (suc f) zero charged c d low left right = absurd (omega arith)
    enough (suc f) (suc g) charged c d low left right = after-same f g charged c d (step rules costs image c d) refl (enough f g) low left right

    -- What pays for each step bounds the tick.
    module _ (IsGood : Control → Type 0) (worth : Control → ℕ) (pays : Pays rules image costs IsGood worth) where
      weaken : (a b : ℕ) (o : Outcome Data) → a ≤ b → IsSafeWithin a o → IsSafeWithin b o
      weaken a b (Ends cycles unit after) h w = omega arith
      weaken a b (Trapped kind at charged) h w = (w.0, omega (arith, h, w.1))
      weaken a b (Open charged) h w = w

      unless-late : (b : Bool) (bound : ℕ) (x y : Outcome Data) → b ≡ false → IsSafeWithin bound y → IsSafeWithin bound (if b then x else y)
      unless-late true bound x y e h = cc
      unless-late false bound x y e h = h

      high-at : (n : ℕ) → n ≤ most → nat_lt most n ≡ false
      high-at n h = grind arith

      abbrev IsSafe : ℕ → Type 0
      IsSafe fuel = (charged : ℕ) (c : Control) (d : Data) → IsGood c → charged + worth c ≤ most → most + 1 ≤ fuel + charged → IsSafeWithin (charged + worth c) (run rules image costs fuel most charged c d)

      after-safe : (f charged : ℕ) (c : Control) (d : Data) (s : Stepped Data) → step rules costs image c d ≡ s → IsSafe f → IsGood c → charged + worth c ≤ most → most + 1 ≤ suc f + charged →
          IsSafeWithin (charged + worth c) (after_step rules image costs (run rules image costs f most) most charged c d s)
      after-safe f charged c d (Moves charge next after) h go good low left =
          let p = pays.onward c next d after charge good h in
          let least : 1 ≤ charge = charge-least image c next d after charge h in
          let fits : charge + worth next ≤ worth c = p.1 in
          unless-late (nat_lt most (charged + charge)) (charged + worth c) _ _ (high-at (charged + charge) (omega arith))
          (weaken (charged + charge + worth next) (charged + worth c) _ (omega arith) (go (charged + charge) next after p.0 (omega arith) (omega arith)))
      after-safe f charged c d Rests h go good low left = omega arith
      after-safe f charged c d (Traps kind) h go good low left = (pays.traps c d kind good h, omega arith)
      after-safe f charged c d Undecided h go good low left = pays.says c d good h

      pub run-safe : (f : ℕ) → IsSafe f
      unfolding run
      run-safe zero charged c d good low left = absurd (omega arith)
      run-safe (suc f) charged c d good low left = after-safe f charged c d (step rules costs image c d) refl (run-safe f) good low left

      pub tick-safe : (u : State) (d : Data) → IsGood (tests_on (begun u)) → base_of image costs + worth (tests_on (begun u)) ≤ most → IsSafeWithin (base_of image costs + worth (tests_on (begun u))) (tick rules image costs most u d)
      tick-safe u d good low =
          unless-late (nat_lt most (base_of image costs)) (base_of image costs + worth (tests_on (begun u))) _ _ (high-at (base_of image costs) (omega arith))
          (run-safe (suc most) (base_of image costs) (tests_on (begun u)) (samples_on rules (begun u) d) good low (omega arith))

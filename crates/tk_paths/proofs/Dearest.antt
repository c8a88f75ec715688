-- The walk that is told of a certificate whose numbers are the greatest costs its bound.
use Rattle.std.proofs.Common.{◌≡◌, ◌≤◌, ◌+◌, ◌-◌, ◌++◌, ℕ, suc, nat_le, nat_lt, Bool, true, false, if◌then◌else◌, List, [], ◌∷◌, length, Option, Some, None, refl, sym, ap, ◌∙◌, subst, inl, inr, arith}
use Rattle.std.proofs.lemmas.Bool.Decides.{nat_tests}
use Rattle.std.proofs.lemmas.List.{append-nil}
use Rattle.mb_isa.specs.declared.Class.{Class}
use Rattle.mb_isa.specs.declared.Class.TheVariants as class
use Rattle.mb_isa.specs.Costs.{cost_of, IsCosts}
use Rattle.mb_isa.proofs.CostRange.{cost_of-range}
use Rattle.mb_pfu.specs.declared.parts.Watch.{Watch}
use Rattle.mb_pfu.specs.Tree.{Running, Finished, Leaf, tests_begun, next_test}
use Rattle.mb_pfu.specs.Unit.{State}
use Rattle.mb_pfu.specs.declared.TrapKind.TheVariants.{Late}
use Rattle.pt_image.specs.declared.Parts.{Parts}
use Rattle.pt_image.specs.Ranges.{IsImage}
use Rattle.mb_isa.specs.Control.{Condition, goes, tests_on, answered}
use Rattle.mb_isa.specs.Step.{samples_on}
use Rattle.mb_isa.specs.Free.{free, IsConfiguration}
use Rattle.mb_isa.specs.Tick.{Outcome, Ends, Trapped, Steps, base_of, begun, run, tick}
use Rattle.mb_isa.proofs.Turning.{is_over, path-runs}
use Rattle.std.specs.List.{AllByRecursion}
use Rattle.tk_cert.specs.Form.{IsState, IsWalk}
use Rattle.tk_cert.specs.declared.cert.State.{State as WalkState}
use Rattle.tk_cert.specs.declared.cert.Walk.{Walk}
use Rattle.tk_cert.specs.declared.cert.CertParts.{CertParts}
use Rattle.tk_paths.specs.declared.view.Side.{Side}
use Rattle.tk_paths.specs.declared.view.Side.TheVariants.{ToPause, ToEnd}
use Rattle.tk_paths.specs.Sums.{greater, greatest}
use Rattle.tk_paths.specs.Words.{instr_at}
use Rattle.tk_paths.specs.Kinds.{line_at, is_cond, upper_at, start_of}
use Rattle.tk_paths.specs.Acceptance.{value, resumed, begins}
use Rattle.tk_paths.specs.Walks.{most_cycles, states_of, IsCostOf}
use Rattle.tk_paths.proofs.Inner.{Image}
use Rattle.tk_paths.proofs.Conditions.{Cert, IsAccepted}
use Rattle.tk_paths.proofs.Carried.{image_of, cert_of}
use Rattle.tk_paths.proofs.Accepts.{Accepts}
use Rattle.tk_paths.proofs.Controls.{sums}
use Rattle.tk_paths.proofs.Whole.{begun-kept}
use Rattle.tk_paths.proofs.Bounds.{configured, accepts-of}
use Rattle.tk_paths.specs.Reached.{IsOpen}
use Rattle.tk_paths.specs.Regions.{Region, units_cost}
use Rattle.tk_paths.specs.Greatest.{best, paused, waited, beginnings, IsStraightCondition}
use Rattle.tk_paths.specs.Programs.{Program, IsProgram}
use Rattle.tk_paths.specs.Choices.{is_second, Plan, bare_of, plan}
use Rattle.tk_paths.specs.Dearest.{Begun, ended_slot, slot_begun, start_begun, dearest_walk, find_piece, told, walk_of}
use Rattle.tk_paths.proofs.Moves.{joined-leads, steps-count}
use Rattle.tk_paths.proofs.Units.{cend-step, word-lead, units-lead}
use Rattle.tk_paths.proofs.OpenPlaces.{IsStepWith}
use Rattle.tk_paths.proofs.Routes.{Route}
use Rattle.tk_paths.proofs.RouteWalks.{Walked}
use Rattle.tk_paths.proofs.RouteTests.{IsAsked, TWVal, joined-walk}
use Rattle.tk_paths.proofs.Attained.{samples-same, unit_of, configuration, loose-configuration}
use Rattle.tk_paths.proofs.Bare.{points-same}
use Rattle.tk_paths.proofs.Placed.{configuration-placed}
use Rattle.tk_paths.proofs.Fitted.{made-none}
use Rattle.tk_paths.proofs.Planned.{route-of}
use Rattle.tk_paths.proofs.Begun.{slot-loosened}
use Rattle.tk_paths.proofs.Accepting.{steps}
use Rattle.tk_paths.proofs.ProgramLaws.{sound, program-greatest, program-accepted}

-- the greatest of a list is its first number, or that of the others
first-or : (o : Option ℕ) (others : List (Option ℕ)) (P : Begun → Type 0) (x y : Begun) → ((n : ℕ) → o ≡ Some n → greatest (o ∷ others) ≡ n → P x) → (greatest (o ∷ others) ≡ greatest others → P y) →
    P (if is_second o (Some (greatest others)) then y else x)
first-or None others P x y f g = g refl
first-or (Some a) others P x y f g = by (nat_le a (greatest others)) refl
  where
    by : (t : Bool) → nat_le a (greatest others) ≡ t → P (if t then y else x)
    by true e = g (ap (λ b. if b then greatest others else a) e)
    by false e = f a refl (ap (λ b. if b then greatest others else a) e)

module _ (image : Parts) (cert : CertParts) (costs : List ℕ) where
  -- a condition of straight code
  asked-straight : IsCosts costs → (place : ℕ) → IsStraightCondition image cert costs place → IsAsked image costs place (value image cert costs place)
  asked-straight priced place c =
      let n = units_cost image costs place c.count in
      let low = (cost_of-range costs priced class.Cend).0 in
      subst (IsAsked image costs place) (sym c.value_is) (record {
        costs_one = omega (arith, low);
        leads = λ holds u. joined-leads image costs (goes Condition place u) (goes Condition c.close u) (tests_on (answered holds u)) [] (holds ∷ []) n (cost_of costs class.Cend)
            (units-lead image costs Condition c.count place c.close u c.units)
            (word-lead image costs Condition c.close u (holds ∷ []) (cost_of costs class.Cend) (tests_on (answered holds u)) (cend-step image costs c.close u holds c.closes));
      })

module _ (image : Parts) (cert : CertParts) (costs : List ℕ) (find : ℕ → Option Region) (ok : Accepts image cert costs) (priced : IsCosts costs)
    (steps : (p s : ℕ) (a : List ℕ) → IsOpen image cert costs p s a → IsStepWith image cert costs find (instr_at image p) p s a)
    (slot_is : (s : ℕ) (side : Side) → resumed image (bare_of cert) costs side s ≡ greater (best (paused image (bare_of cert) costs side) s image.pauses) (best (waited image (bare_of cert) costs side) s image.forks))
    (asks : (c : ℕ) → is_cond (line_at cert.lines c) ≡ true → upper_at image cert.lines c ≡ None → IsAsked image costs c (value image cert costs c))
    (bound_is : cert.bound ≡ base_of image costs + greatest (beginnings image cert costs)) (low : cert.bound ≤ most_cycles) where
  abbrev view : CertParts
  view = bare_of cert

  abbrev E : Image
  E = image_of image costs

  abbrev D : Cert
  D = cert_of image cert costs

  abbrev acc : IsAccepted E D
  acc = sums image cert costs ok

  abbrev plans : ℕ → Side → ℕ → Plan
  plans = plan image view costs find cert.bound

  abbrev IsSo : Begun → Type 0
  IsSo x = IsCostOf image costs (record { states = states_of (unit_of image cert costs ok x.0); choices = x.1.0 ++ x.1.1 }) cert.bound × (length (x.1.0 ++ x.1.1) ≤ cert.bound)

  -- a path from the tests to the end of a tick is that tick
  ends-so : (most n : ℕ) (u : State) (z : List Bool) (w : Walked image cert costs ok priced (tests_on (begun u)) n z) → base_of image costs + n ≤ most → tick free image costs most u z ≡ Ends (base_of image costs + n) w.last.unit []
  ends-so most n u z w room =
      let base = base_of image costs in
      let c = tests_on (begun u) in
      let p = w.leads in
      let S : List Bool → Type 0 = λ d. Steps free image costs c d n p.count w.last [] in
      let path : S z = subst S (append-nil z) (p.steps []) in
      let less : p.count ≤ n = steps-count image costs priced c z n p.count w.last [] path in
      let left = suc most - p.count in
      let fuel : suc most ≡ p.count + left = omega (arith, less, room) in
      let early : nat_lt most base ≡ false = grind (arith, nat_tests, room) in
      let R : ℕ → Outcome (List Bool) = λ f. run free image costs f most base c z in
      ap (λ b. if b then Trapped Late 0 0 else run free image costs (suc most) most base c (samples_on free (begun u) z)) early
      ∙ ap (run free image costs (suc most) most base c) (samples-same (next_test (begun u).tree) z)
      ∙ ap R fuel
      ∙ path-runs free image costs most left base n p.count c w.last z [] path room
      ∙ is_over free image costs most (base + n) w.last [] left (omega (arith, less, room)) room w.over

  from-begun : (x : Begun) (side : Side) (n : ℕ) → IsConfiguration image (unit_of image cert costs ok x.0) → TWVal image cert costs (tests_begun x.0) side n x.1.0 x.1.1 → cert.bound ≡ base_of image costs + n → IsSo x
  from-begun x side n c v e =
      let u = unit_of image cert costs ok x.0 in
      let k = begun-kept E D acc x.0 [] (configured image cert costs ok u c).tree_is in
      let w = joined-walk image cert costs ok priced asks n n (omega arith) (begun u) side x.1.0 x.1.1 (refl, (refl, refl)) k.testing k.sound v in
      let room : base_of image costs + n ≤ most_cycles = (let B : ℕ → Type 0 = λ m. m ≤ most_cycles in subst B e low) in
      let C : ℕ → Type 0 = λ m. IsCostOf image costs (record { states = states_of u; choices = x.1.0 ++ x.1.1 }) m in
      let reached : IsCostOf image costs (record { states = states_of u; choices = x.1.0 ++ x.1.1 }) (base_of image costs + n) =
      record { begins = u; configuration = c; states = refl; last = w.last.unit; ends = ends-so most_cycles n u (x.1.0 ++ x.1.1) w room; within = room } in
      (subst C (sym e) reached, (let s = w.short in omega (arith, s, e)))

  nothing-costs : cert.bound ≡ base_of image costs + 0 → IsSo ended_slot
  nothing-costs e = let t = Leaf [] Finished in from-begun ended_slot ToEnd 0 (configuration image cert costs ok t t (λ q. refl) refl (inr (inl refl))) (refl, refl, refl, refl) e

  start-costs : (side : Side) (n : ℕ) → begins image view costs side 0 ≡ Some n → cert.bound ≡ base_of image costs + n → IsSo (start_begun image view costs plans side)
  start-costs side n e b =
      let r = route-of image cert costs find ok priced steps cert.bound 0 [] 0 (start_of image 0) side n (omega (arith, b)) acc.start (omega arith) e in
      let t = Leaf [] (Running (start_of image 0)) in
      let x = plans (start_of image 0) side 0 in
      let R : List Watch → Type 0 = λ ws. Route image cert costs ws (start_of image 0) side n x.1 in
      from-begun (t, ([], x.1)) side n (configuration image cert costs ok t t (λ q. refl) (acc.start.0, (0, tt), acc.start.1) (inl refl)) (refl, subst R (made-none image x.0) r.holds) b

  resumed-costs : (side : Side) (n : ℕ) → resumed image view costs side 0 ≡ Some n → cert.bound ≡ base_of image costs + n → IsSo (slot_begun image view costs plans (length image.slots) side 0)
  resumed-costs side n e b =
      let x = slot_begun image view costs plans (length image.slots) side 0 in
      let l = slot-loosened image cert costs find ok priced steps cert.bound slot_is (length image.slots) 0 side n (omega arith) e in
      from-begun x side n (loose-configuration image cert costs ok x.0 l.loose) (l.value (omega (arith, b))) b

  pub dearest-costs : IsCostOf image costs (dearest_walk image view costs plans) cert.bound × (length (dearest_walk image view costs plans).choices ≤ cert.bound)
  dearest-costs =
      let d = resumed image view costs ToEnd 0 in
      let c = resumed image view costs ToPause 0 in
      let b = begins image view costs ToEnd 0 in
      let a = begins image view costs ToPause 0 in
      let last = slot_begun image view costs plans (length image.slots) ToEnd 0 in
      let third = slot_begun image view costs plans (length image.slots) ToPause 0 in
      let y4 = if is_second d (Some 0) then ended_slot else last in
      let y3 = if is_second c (Some (greatest (d ∷ []))) then y4 else third in
      let y2 = if is_second b (Some (greatest (c ∷ d ∷ []))) then y3 else start_begun image view costs plans ToEnd in
      let so : (n : ℕ) → greatest (a ∷ b ∷ c ∷ d ∷ []) ≡ n → cert.bound ≡ base_of image costs + n = λ n e. bound_is ∙ ap (λ g. base_of image costs + g) e in
      first-or a (b ∷ c ∷ d ∷ []) IsSo (start_begun image view costs plans ToPause) y2 (λ n e z. start-costs ToPause n e (so n z))
      (λ z1.
      first-or b (c ∷ d ∷ []) IsSo (start_begun image view costs plans ToEnd) y3 (λ n e z. start-costs ToEnd n e (so n (z1 ∙ z)))
      (λ z2.
      first-or c (d ∷ []) IsSo third y4 (λ n e z. resumed-costs ToPause n e (so n (z1 ∙ z2 ∙ z)))
      (λ z3. first-or d [] IsSo last ended_slot (λ n e z. resumed-costs ToEnd n e (so n (z1 ∙ z2 ∙ z3 ∙ z))) (λ z4. nothing-costs (so 0 (z1 ∙ z2 ∙ z3 ∙ z4))))))

-- the walk of a program's certificate
pub walk-costs : (image : Parts) (program : Program) (costs : List ℕ) → IsImage image → IsCosts costs → IsProgram image program → (told image costs program).bound ≤ most_cycles →
    IsCostOf image costs (walk_of image costs program) (told image costs program).bound × (length (walk_of image costs program).choices ≤ (told image costs program).bound)
walk-costs image program costs image_is priced ok low =
    let walk : Walk = record { states = []; choices = [] } in
    let positive : (c : Class) → 1 ≤ cost_of costs c = λ c. (cost_of-range costs priced c).0 in
    let cert = told image costs program in
    let find = find_piece program in
    let great = program-greatest image program costs walk ok image_is positive in
    let accepts = accepts-of image cert costs (program-accepted image program costs walk ok image_is positive priced) in
    dearest-costs image cert costs find accepts priced (steps image cert costs find image_is (sound image program costs walk ok image_is positive)) (λ s side. great.slot s side ∙ sym (points-same image cert costs s side))
    (λ c line plain. asked-straight image cert costs priced c (great.condition c line plain)) great.bound low

-- and it is within the ranges of its file
pub walk-form : (image : Parts) (program : Program) (costs : List ℕ) → IsImage image → IsCosts costs → IsProgram image program → (told image costs program).bound ≤ most_cycles → IsWalk (walk_of image costs program)
walk-form image program costs image_is priced ok low =
    let w = walk-costs image program costs image_is priced ok low in
    let c = configuration-placed image image_is w.0.begins w.0.configuration in
    let few = w.1 in
    let S : List WalkState → Type 0 = λ l. AllByRecursion IsState l × (length l ≡ length image.slots) in
    let s = subst S (sym w.0.states) c in
    let size = s.1 in
    let some = image_is.slots.0 in
    let most = image_is.slots.1 in
    (omega (arith, size, some), omega (arith, size, most), s.0, omega (arith, few, low))

-- Whole ticks do what a program means.
use Rattle.std.proofs.Common.{◌≡◌, ℕ, suc, ◌+◌, ◌≤◌, nat_lt, Bool, false, if◌then◌else◌, List, [], None, refl, sym, ap, ◌∙◌, subst, arith, ◌++◌, ◌∷◌}
use Rattle.mb_isa.specs.Costs.{IsCosts}
use Rattle.mb_pfu.specs.Rows.{due, reported_test}
use Rattle.mb_pfu.specs.Tree.{Tree, Leaf, Running, report, next_test, tests_begun, Finished}
use Rattle.mb_pfu.specs.Unit.{State as UnitState}
use Rattle.mb_pfu.proofs.Cases.{none-there}
use Rattle.mb_pfu.proofs.Trees.{is_in-report}
use Rattle.pt_image.specs.declared.Parts.{Parts}
use Rattle.mb_isa.specs.Control.{Control, tests_on, tests_from}
use Rattle.mb_isa.specs.Step.{Rules, samples_on, samples_from}
use Rattle.mb_isa.specs.Tick.{Ends as TickEnds, Trapped, base_of, begun, run as tick_run, Steps, still, onward}
use Rattle.mb_pfu.specs.declared.TrapKind.TheVariants.{Late}
use Rattle.mb_isa.proofs.Turning.{goes_on}
use Rattle.pc_lower.specs.declared.nodes.Step.{Step}
use Rattle.pc_lower.specs.declared.nodes.Test.{Test}
use Rattle.pc_lower.specs.Flow.{Node, Rest, End, Through, flow_at, again, flows_of, State as FlowState}
use Rattle.pc_lower.specs.Residuals.{body_at, Of}
use Rattle.pc_lower.specs.Slots.{Fits}
use Rattle.pc_lower.specs.Places.{slot_start}
use Rattle.pc_lower.specs.Standing.{Stands, woken}
use Rattle.pc_lower.specs.Laid.{Placing}
use Rattle.pc_lower.specs.StepCounts.{Sizes, tick_in}
use Rattle.pc_lower.specs.Law.{unnested, unit_at, turning, Laws}
use Rattle.pc_lower.specs.Program.{IsCompiled}
use Rattle.pc_lower.specs.Turns.{Reaches, TurnsAreRight}
use Rattle.pc_lower.specs.Tests.{asking, answered, looked_at, tests_in, Says}
use Rattle.pc_lower.specs.Ticks.{Ticks, FirstTick, LaterTick}
use Rattle.pc_lower.proofs.Paths.{at_once}
use Rattle.pc_lower.proofs.Turns.{ends_whole, path-most, turns-are-right}
use Rattle.pc_lower.proofs.Tests.{asks, begun-stands, woken-answered, answered-undue, any-fit, unit_of}

not-late : (n most : ℕ) → n ≤ most → nat_lt most n ≡ false
not-late n most h = grind arith

module _ {Data : Type 0} (rules : Rules Data) (image : Parts) (costs : List ℕ) (priced : IsCosts costs) (most : ℕ) where
  -- a run goes past a path
  pub runs_past : (c last : Control) (d end : Data) (spent count : ℕ) → Steps rules image costs c d spent count last end → (charged fuel : ℕ) → charged + spent ≤ most → most + 1 ≤ fuel + charged →
      (more : ℕ) × (most + 1 ≤ more + (charged + spent)) × (tick_run rules image costs fuel most charged c d ≡ tick_run rules image costs more most (charged + spent) last end)
  runs_past c last d end spent count (still {c = x} {d = y}) charged fuel within left =
      let e : charged ≡ charged + 0 = omega arith in
      (fuel, omega (arith, left), ap (λ n. tick_run rules image costs fuel most n x y) e)
  runs_past c last d end spent count (onward {c = x} {next = y} {last = w} {d = a} {after = b} {end = f} {charge = n} {rest = r} {count = k} h s) charged fuel within left =
      let g = goes_on rules image costs most charged x a fuel n y b priced left (omega arith) h (omega arith) in
      let t = runs_past y w b f r k s (charged + n) g.0 (omega arith) g.1 in
      let e : charged + n + r ≡ charged + (n + r) = omega arith in
      (t.0, omega (arith, t.1), g.3 ∙ t.2 ∙ ap (λ i. tick_run rules image costs t.0 most i w f) e)

append-none : (xs : List ℕ) → xs ++ [] ≡ xs
append-none [] = refl
append-none (x ∷ xs) = ap (λ l. x ∷ l) (append-none xs)

no-test : (t : Tree) → report due 0 t ≡ None → next_test t ≡ None
no-test t h = ap reported_test h

module _ (parent : ℕ → ℕ) (image : Parts) (costs : List ℕ) {Data : Type 0} (rules : Rules Data) (Represents : Data → FlowState → Type 0) where
  module _ (priced : IsCosts costs) where
    -- a tick is its tests and its turns
    joins : (from mid turned : Tree) (d x : Data) (o : End) (charge count u v w : ℕ) → u + v ≤ w → tests_begun from ≡ mid → count ≤ u → Steps rules image costs (tests_on (unit_of image mid)) (samples_on rules (unit_of image mid) d) charge count (turning image turned) x →
        Reaches parent image costs rules Represents turned x o v → Ticks parent image costs rules Represents from d o w
    joins from mid turned d x o charge count u v w sum_of begins le path r = record {
      tree = r.tree;
      stands = r.stands;
      fits = r.fits;
      after = r.after;
      charge = charge + r.charge;
      within = omega (arith, sum_of, path-most rules costs priced image _ _ _ _ charge count path, r.within, le);
      represents = r.represents;
      runs = λ most fits.
          let base = base_of image costs in
          let low : nat_lt most base ≡ false = not-late base most (omega (arith, fits)) in
          let g = runs_past rules image costs priced most _ _ _ _ charge count path base (suc most) (omega (arith, fits)) (omega arith) in
          let sum : base + charge + r.charge ≡ base + (charge + r.charge) = omega arith in
          ap (λ b. if b then Trapped Late 0 0 else tick_run rules image costs (suc most) most base (tests_on (begun (unit_at image unnested from))) (samples_on rules (begun (unit_at image unnested from)) d)) low
          ∙ ap (λ t. tick_run rules image costs (suc most) most base (tests_on (unit_of image t)) (samples_on rules (unit_of image t) d)) begins
          ∙ g.2 ∙ r.runs most (base + charge) g.0 (omega (arith, fits)) g.1
          ∙ ap (λ n. TickEnds n (unit_at image unnested r.tree) r.after) sum;
    }

    -- a program that has ended stays so
    pub ended_tick : (d : Data) (state : FlowState) → Represents (rules.sampled d) state → Ticks parent image costs rules Represents (Leaf [] Finished) d (Through state) 0
    ended_tick d state rep =
        let end = Leaf [] Finished in
        joins end end end d (rules.sampled d) (Through state) 0 0 0 0 0 (omega arith) refl (omega arith) still (ends_whole parent image costs rules Represents priced end (rules.sampled d) 0 (Through state) (at_once image costs rules Represents (turning image end) (rules.sampled d) state 0 _ 0 refl rep))

  module _ (weak : ℕ → Bool) (sizes : Sizes) (HasSteps : List Step → ℕ → ℕ → Type 0) (HasTest : Test → ℕ → ℕ → ℕ → Type 0) (placing : Placing) (laws : Laws image costs rules Represents sizes HasSteps HasTest)
      (bodies : List Node) (main : ℕ) (compiled : IsCompiled parent image costs bodies weak sizes HasSteps HasTest placing main) where
    whole : TurnsAreRight parent image costs rules Represents bodies weak main sizes
    whole = turns-are-right parent image costs rules Represents compiled.priced weak sizes HasSteps HasTest placing laws bodies main compiled

    pub first_tick : FirstTick parent image costs rules Represents bodies weak main sizes
    first_tick d state rep =
        let start = Leaf [] (Running (slot_start image 0)) in
        joins compiled.priced start start start d (rules.sampled d) (flow_at (flows_of bodies) main state) 0 0 0 (sizes.threads main) (sizes.threads main) (omega arith) refl (omega arith) still (whole.starts (rules.sampled d) state rep)

    pub later_tick : (sample : FlowState → FlowState) (fires : ℕ → Bool) (tests : ℕ → ℕ) (Calm : List ℕ → FlowState → Type 0) →
        ((j : ℕ) (js : List ℕ) (u : UnitState) (d : Data) (state : FlowState) → Represents d state → Calm (j ∷ js) state → Says image costs rules Represents Calm j (fires j) js u d (tests j)) →
        ((d : Data) (state : FlowState) → Represents d state → Calm [] state → Represents (rules.sampled d) (sample state)) →
        (r : Rest) (of : Of bodies (body_at bodies main) r) (from : Tree) (d : Data) (state : FlowState) → Stands image [] r from → Fits parent 0 from → Represents d state → Calm (looked_at image fires r) state →
        LaterTick parent image costs rules Represents bodies weak main sizes sample fires tests Calm r of from d
    later_tick sample fires tests Calm conditions samples r of from d state stands fit rep calm =
        let begins : tests_begun from ≡ asking image [] r = begun-stands image r [] from stands in
        let own : Fits parent 0 (asking image [] r) = subst (Fits parent 0) begins (any-fit parent from _ _ 0 fit) in
        let a = asks parent image costs rules Represents Calm fires tests conditions r [] [] d state [] tt tt refl own rep (subst (λ ks. Calm ks state) (sym (append-none (looked_at image fires r))) calm) in
        let to = answered image fires [] r in
        let first = unit_of image (asking image [] r) in
        let none : next_test to ≡ None = no-test to (none-there (report due 0 to) (sym (is_in-report due 0 to) ∙ answered-undue image fires r 0 [] refl)) in
        let turns : tests_on (unit_of image to) ≡ turning image (woken image fires [] r) = ap (tests_from (unit_of image to)) none ∙ ap (turning image) (woken-answered image fires r []) in
        let path : Steps rules image costs (tests_on first) (samples_on rules first d) a.charge a.count (turning image (woken image fires [] r)) (rules.sampled a.after) =
        subst (λ c. Steps rules image costs (tests_on first) (samples_on rules first d) a.charge a.count c (rules.sampled a.after)) turns
        (subst (λ o. Steps rules image costs (tests_on first) (samples_on rules first d) a.charge a.count (tests_on (unit_of image to)) (samples_from rules o a.after)) none a.steps) in
        record {
          state = a.state;
          calm = a.calm;
          ticks = joins compiled.priced from (asking image [] r) (woken image fires [] r) d (rules.sampled a.after) (again (flows_of bodies) weak fires r (sample a.state)) a.charge a.count (tests_in tests r) (tick_in sizes bodies (body_at bodies main) r of) _ (omega arith) begins a.within path
              (whole.resumes fires r of (rules.sampled a.after) (sample a.state) (samples a.after a.state a.represents a.calm));
        }

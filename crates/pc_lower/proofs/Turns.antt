-- The turns of a whole tick.
use Rattle.std.proofs.Common.{◌≡◌, ℕ, ◌+◌, ◌*◌, ◌<◌, ◌≤◌, max, Bool, true, false, List, [], length, Option, Some, None, refl, sym, ap, ◌∙◌, subst, arith, add-zero}
use Rattle.mb_isa.specs.declared.Instr.{Instr}
use Rattle.mb_isa.specs.declared.Class.TheVariants as class
use Rattle.mb_isa.specs.Classes.{class_of}
use Rattle.mb_isa.specs.Costs.{IsCosts}
use Rattle.mb_isa.proofs.CostRange.{cost_of-range}
use Rattle.mb_pfu.specs.Rows.{ready}
use Rattle.mb_pfu.specs.Tree.{Tree, Leaf, Finished, has_ready, report, reported_number, next_job}
use Rattle.mb_pfu.specs.Unit.{State as UnitState}
use Rattle.mb_pfu.proofs.Cases.{none-there}
use Rattle.mb_pfu.proofs.Trees.{is_in-report}
use Rattle.mb_pfu.proofs.Laws as unit_laws
use Rattle.pt_image.specs.declared.Parts.{Parts}
use Rattle.mb_isa.specs.Control.{Control, Resting, turns_from}
use Rattle.mb_isa.specs.Words.{Plan, Rest as RestPlan, Refuse, Go, Work, Branch, Conclude, plan}
use Rattle.mb_isa.specs.Step.{Rules, Stepped, Moves, Rests, Traps, Undecided, worked, decided, branched, concluded, stepped, step}
use Rattle.mb_isa.specs.Tick.{Ends as TickEnds, run as tick_run, Steps, still, onward}
use Rattle.mb_isa.proofs.Turning.{goes_on, is_over}
use Rattle.pc_lower.specs.declared.nodes.Step.{Step}
use Rattle.pc_lower.specs.declared.nodes.Test.{Test}
use Rattle.pc_lower.specs.Flow.{Node, End, Through, Halted, state_of, flow_at, again, flows_of, State as FlowState}
use Rattle.pc_lower.specs.Residuals.{body_at}
use Rattle.pc_lower.specs.Slots.{Fits}
use Rattle.pc_lower.specs.Places.{slot_start}
use Rattle.pc_lower.specs.Laid.{Placing}
use Rattle.pc_lower.specs.StepCounts.{Sizes, done_in, rest_in}
use Rattle.pc_lower.specs.Law.{unnested, unit_at, turning, Comes, ThreadMeets, Laws, IsPart}
use Rattle.pc_lower.specs.Program.{IsCompiled}
use Rattle.pc_lower.specs.Turns.{StandsAs, Reaches, TurnsAreRight}
use Rattle.pc_lower.proofs.Paths.{same_target}
use Rattle.pc_lower.proofs.Groups.{stands-quiet, stands-relieved}
use Rattle.pc_lower.proofs.Resuming.{resumes, ends_thread}
use Rattle.pc_lower.proofs.RegionProgram.{starts_by, parts}

pub no-job : (t : Tree) → has_ready t ≡ false → next_job t ≡ None
no-job t h = ap reported_number (none-there (report ready 0 t) (sym (is_in-report ready 0 t) ∙ unit_laws.is_in-ready 0 t ∙ h))

resting : (image : Parts) (t : Tree) → has_ready t ≡ false → turning image t ≡ record { phase = Resting; unit = unit_at image unnested t; upper = None }
resting image t h = ap (turns_from (unit_at image unnested t)) (no-job t h)

-- each step is charged at most 255
module _ {Data : Type 0} (rules : Rules Data) (costs : List ℕ) (priced : IsCosts costs) where
  abbrev charge_in : Stepped Data → ℕ
  charge_in (Moves charge next after) = charge
  charge_in Rests = 0
  charge_in (Traps kind) = 0
  charge_in Undecided = 0

  worked-most : (i : Instr) (to : Control) (o : Option Data) → charge_in (worked rules costs i to o) ≤ 255
  worked-most i to None = omega arith
  worked-most i to (Some d) = omega (arith, cost_of-range costs priced (class_of false i))

  decided-most : (taken : Option Control) (untaken : Control) (b : Bool) (d : Data) → charge_in (decided rules costs taken untaken b d) ≤ 255
  decided-most None untaken true d = omega arith
  decided-most (Some to) untaken true d = omega (arith, cost_of-range costs priced class.Taken)
  decided-most taken untaken false d = omega (arith, cost_of-range costs priced class.Untaken)

  branched-most : (taken : Option Control) (untaken : Control) (o : Option (Bool × Data)) → charge_in (branched rules costs taken untaken o) ≤ 255
  branched-most taken untaken None = omega arith
  branched-most taken untaken (Some p) = decided-most taken untaken p.0 p.1

  concluded-most : (u : UnitState) (o : Option (Bool × Data)) → charge_in (concluded rules costs u o) ≤ 255
  concluded-most u None = omega arith
  concluded-most u (Some p) = omega (arith, cost_of-range costs priced class.Cend)

  stepped-most : (p : Plan) (d : Data) → charge_in (stepped rules costs d p) ≤ 255
  stepped-most RestPlan d = omega arith
  stepped-most (Refuse kind) d = omega arith
  stepped-most (Go class to) d = omega (arith, cost_of-range costs priced class)
  stepped-most (Work i upper to) d = worked-most i to (rules.does i upper d)
  stepped-most (Branch i taken untaken) d = branched-most taken untaken (rules.taken i d)
  stepped-most (Conclude ra u) d = concluded-most u (rules.holds ra d)

  module _ (image : Parts) where
    charge-most : (c next : Control) (d after : Data) (charge : ℕ) → step rules costs image c d ≡ Moves charge next after → charge ≤ 255
    charge-most c next d after charge h = subst (λ n. n ≤ 255) (ap charge_in h) (stepped-most (plan image c) d)

    pub path-most : (c last : Control) (d end : Data) (spent count : ℕ) → Steps rules image costs c d spent count last end → spent ≤ 255 * count
    path-most c last d end spent count (still {c = x} {d = y}) = omega arith
    path-most c last d end spent count (onward {c = x} {next = y} {last = w} {d = a} {after = b} {end = f} {charge = n} {rest = r} {count = k} h s) =
        omega (arith, charge-most x y a b n h, path-most y w b f r k s)

    -- a path to a rest is a run
    pub runs_to : (most : ℕ) (c last : Control) (d end : Data) (spent count : ℕ) → Steps rules image costs c d spent count last end → last.phase ≡ Resting → (charged fuel : ℕ) → charged + spent ≤ most → most + 1 ≤ fuel + charged →
        tick_run rules image costs fuel most charged c d ≡ TickEnds (charged + spent) last.unit end
    runs_to most c last d end spent count (still {c = x} {d = y}) rests charged fuel within left =
        is_over rules image costs most charged x y fuel left (omega arith) rests ∙ ap (λ n. TickEnds n x.unit y) (sym (add-zero charged))
    runs_to most c last d end spent count (onward {c = x} {next = y} {last = w} {d = a} {after = b} {end = f} {charge = n} {rest = r} {count = k} h s) rests charged fuel within left =
        let g = goes_on rules image costs most charged x a fuel n y b priced left (omega arith) h (omega arith) in
        g.3 ∙ runs_to most y w b f r k s rests (charged + n) g.0 (omega arith) g.1 ∙ ap (λ i. TickEnds i w.unit f) (the-sum charged n r)
      where
        the-sum : (i j l : ℕ) → i + j + l ≡ i + (j + l)
        the-sum i j l = omega arith

module _ (parent : ℕ → ℕ) (image : Parts) (costs : List ℕ) {Data : Type 0} (rules : Rules Data) (Represents : Data → FlowState → Type 0) (priced : IsCosts costs) where
  reaches : (from t : Tree) (d : Data) (o : End) (u : ℕ) → StandsAs image o t → Fits parent 0 t → has_ready t ≡ false → Comes image costs rules Represents (turning image from) d (λ q. turning image t) (state_of o) u → Reaches parent image costs rules Represents from d o u
  reaches from t d o u stands fit quiet h =
      let k = same_target image costs rules Represents (turning image from) d (λ q. turning image t) (λ q. record { phase = Resting; unit = unit_at image unnested t; upper = None }) _ u (λ q. resting image t quiet) h in
      record {
        tree = t;
        stands = stands;
        fits = fit;
        after = k.after;
        charge = k.charge;
        within = omega (arith, path-most rules costs priced image _ _ d k.after k.charge k.count k.steps, k.within);
        represents = k.represents;
        runs = λ most charged fuel le left. runs_to rules costs priced image most _ _ d k.after k.charge k.count k.steps refl charged fuel le left;
      }

  pub ends_whole : (from : Tree) (d : Data) (u : ℕ) (o : End) → ThreadMeets parent image costs rules Represents [] (turning image from) d u o → Reaches parent image costs rules Represents from d o u
  ends_whole from d u (Through state) h = reaches from (Leaf [] Finished) d (Through state) u refl tt refl h
  ends_whole from d u (Halted r state) h =
      let e = stands-relieved image r [] h.tree h.stands in
      reaches from h.tree d (Halted r state) u h.stands h.fits (stands-quiet image r [] h.tree h.stands) (same_target image costs rules Represents _ d _ _ state u (λ q. ap (turning image) e) h.comes)

  -- the law of a whole program
  module _ (weak : ℕ → Bool) (sizes : Sizes) (HasSteps : List Step → ℕ → ℕ → Type 0) (HasTest : Test → ℕ → ℕ → ℕ → Type 0) (placing : Placing) (laws : Laws image costs rules Represents sizes HasSteps HasTest)
      (bodies : List Node) (main : ℕ) (compiled : IsCompiled parent image costs bodies weak sizes HasSteps HasTest placing main) where
    part_of : (c f : ℕ) → c < length image.slots → placing.thread c ≡ f → IsPart parent image costs rules Represents (flows_of bodies) weak sizes HasSteps HasTest placing (body_at bodies f) c
    part_of = parts parent image costs rules Represents weak sizes HasSteps HasTest placing laws bodies main compiled

    pub turns-are-right : TurnsAreRight parent image costs rules Represents bodies weak main sizes
    turns-are-right = record {
      starts = λ d state rep. ends_whole _ d (sizes.threads main) (flow_at (flows_of bodies) main state) (
          starts_by parent image costs rules Represents weak sizes HasSteps HasTest placing laws bodies main compiled (length image.slots) 0 main (omega arith) compiled.some compiled.starts [] d state tt refl rep
          );
      resumes = λ fires r of d state rep.
          let part = part_of 0 main compiled.some compiled.starts in
          let body = body_at bodies main in
          let u = done_in sizes bodies body r of in
          let v = rest_in sizes bodies body r of in
          let end = again (flows_of bodies) weak fires r state in
          ends_whole _ d (max (u + 1) v) end (
          ends_thread parent image costs rules Represents [] tt part.stop _ d u v end part.stops (
          resumes parent image costs rules Represents (flows_of bodies) weak sizes HasSteps HasTest placing laws bodies part_of fires body r of 0 [] (slot_start image 0) part.stop part.laid part.room [] [] d state tt refl refl rep
          )
          );
    }

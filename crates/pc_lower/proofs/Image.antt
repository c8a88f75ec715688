-- The ticks of an image are those of its flow.
use Rattle.std.proofs.Common.{◌≡◌, ℕ, ℤ, Bool, List, [], ◌∷◌, refl, sym, ◌∙◌, subst}
use Rattle.mb_pfu.specs.Tree.{Tree, Leaf, Running, Finished}
use Rattle.mb_pfu.specs.Unit.{State as UnitState}
use Rattle.pt_image.specs.declared.Parts.{Parts}
use Rattle.mb_isa.specs.Step.{Rules}
use Rattle.pc_lower.specs.Flow.{Rest, End, Through, Halted, flow_at, again, flows_of, Flow, is_weak, fires_of, Position, Fresh, Waits, Stopped, point_of, goes, sampled, State as FlowState}
use Rattle.pc_lower.specs.Residuals.{body_at, Of, LeavesSo}
use Rattle.pc_lower.specs.Places.{slot_start}
use Rattle.pc_lower.specs.Laid.{Placing}
use Rattle.pc_lower.specs.StepCounts.{Sizes}
use Rattle.pc_lower.specs.Law.{Laws}
use Rattle.pc_lower.specs.Tests.{looked_at, Says, AreAborts}
use Rattle.pc_lower.specs.Ticks.{Ticks}
use Rattle.pc_lower.specs.Words.{HasSteps, HasTest, Writing, DataLaws}
use Rattle.pc_lower.specs.Image.{condition_of, condition_words, IsImageOf, StandsAt, steps_at, TickIs}
use Rattle.pc_lower.proofs.Leaving.{flow_leaves, flow_keeps}
use Rattle.pc_lower.proofs.RegionWords.{laws_of, says_of}
use Rattle.pc_lower.proofs.Aborts.{are}
use Rattle.pc_lower.proofs.Ticks.{ended_tick, first_tick, later_tick}

module _ (parent : ℕ → ℕ) (image : Parts) (costs : List ℕ) (f : Flow) (writing : Writing) (sizes : Sizes) (placing : Placing) (whole : IsImageOf parent image costs f writing sizes placing)
    {Data : Type 0} (rules : Rules Data) (Represents : Data → FlowState → Type 0) (row : List ℤ) (facts : DataLaws rules Represents (sampled f row) writing) where
  -- a tick that comes to an end leaves what the flow leaves
  tick-is : (p : Position) (before begins : FlowState) (from : Tree) (d : Data) (most : ℕ) (o : End) → begins.store ≡ before.store → LeavesSo (Of f.bodies (body_at f.bodies f.main)) o → goes f p before (sampled f row begins) ≡ o →
      Ticks parent image costs rules Represents from d o most → TickIs parent image f costs rules Represents row p before from d most
  tick-is p before begins from d most (Through state) same leaves is t = record {
    begins = begins;
    same = same;
    tree = t.tree;
    stands = subst (λ o. StandsAt parent image f (point_of o).position t.tree) (sym is) t.stands;
    after = t.after;
    represents = subst (λ o. Represents t.after (point_of o).state) (sym is) t.represents;
    charge = t.charge;
    within = t.within;
    runs = t.runs;
  }
  tick-is p before begins from d most (Halted r state) same leaves is t = record {
    begins = begins;
    same = same;
    tree = t.tree;
    stands = subst (λ o. StandsAt parent image f (point_of o).position t.tree) (sym is) (leaves, t.stands, t.fits);
    after = t.after;
    represents = subst (λ o. Represents t.after (point_of o).state) (sym is) t.represents;
    charge = t.charge;
    within = t.within;
    runs = t.runs;
  }

  laws : Laws image costs rules Represents sizes (HasSteps image writing) (HasTest image writing)
  laws = laws_of image costs rules Represents sizes (sampled f row) writing facts whole.words whole.test_words

  abbrev weak : ℕ → Bool
  weak = is_weak f.aborts

  -- what conditions keep: the cells; those that are still to come are of aborts that the image has
  abbrev Calm : FlowState → List ℕ → FlowState → Type 0
  Calm before js state = (state.store ≡ before.store) × AreAborts image js

  says : (before : FlowState) (j : ℕ) (js : List ℕ) (u : UnitState) (d : Data) (state : FlowState) → Represents d state → Calm before (j ∷ js) state →
      Says image costs rules Represents (Calm before) j (fires_of f.aborts before j) js u d (condition_words writing f j)
  says before j js u d state rep calm =
      let t = condition_of f j in
      let quiet = whole.quiet j calm.1.0 state before calm.0 in
      subst (λ b. Says image costs rules Represents (Calm before) j b js u d (condition_words writing f j)) quiet.0 (
      says_of image costs rules Represents sizes (sampled f row) writing facts (Calm before) j t js u d state (whole.conditions j calm.1.0) rep (quiet.1 ∙ calm.0, calm.1.1)
      )

  all-are : (fires : ℕ → Bool) (r : Rest) → Of f.bodies (body_at f.bodies f.main) r → AreAborts image (looked_at image fires r)
  all-are fires r of =
      let c = whole.compiled in
      let first = c.threads 0 f.main c.some c.starts in
      are parent image (flows_of f.bodies) weak (HasSteps image writing) (HasTest image writing) placing f.bodies (λ k g lt run. let t = c.threads k g lt run in (t.stop, t.laid)) fires (body_at f.bodies f.main) r of 0 [] (slot_start image 0) first.stop first.laid

  pub ticks-as-flow : (p : Position) (before : FlowState) (from : Tree) (d : Data) (stands : StandsAt parent image f p from) → Represents d before →
      TickIs parent image f costs rules Represents row p before from d (steps_at parent image f writing sizes p from stands)
  ticks-as-flow Fresh before from d stands rep =
      let start = sampled f row before in
      subst (λ t. TickIs parent image f costs rules Represents row Fresh before t d (sizes.threads f.main)) (sym stands) (
      tick-is Fresh before before (Leaf [] (Running (slot_start image 0))) d (sizes.threads f.main) (flow_at (flows_of f.bodies) f.main start) refl (flow_leaves f.bodies f.main start) refl (
      first_tick parent image costs rules Represents weak sizes (HasSteps image writing) (HasTest image writing) placing laws f.bodies f.main whole.compiled d start (facts.sampled d before rep)
      )
      )
  ticks-as-flow (Waits r) before from d stands rep =
      let fires = fires_of f.aborts before in
      let l = later_tick parent image costs rules Represents weak sizes (HasSteps image writing) (HasTest image writing) placing laws f.bodies f.main whole.compiled (sampled f row) fires (condition_words writing f) (Calm before) (says before)
      (λ x state rep1 calm. facts.sampled x state rep1) r stands.0 from d before stands.1 stands.2 rep (refl, all-are fires r stands.0) in
      let start = sampled f row l.state in
      tick-is (Waits r) before l.state from d _ (again (flows_of f.bodies) weak fires r start) l.calm.0 (flow_keeps f.bodies weak fires (body_at f.bodies f.main) r stands.0 start) refl l.ticks
  ticks-as-flow Stopped before from d stands rep =
      subst (λ t. TickIs parent image f costs rules Represents row Stopped before t d 0) (sym stands) (
      tick-is Stopped before before (Leaf [] Finished) d 0 (Through (sampled f row before)) refl tt refl (
      ended_tick parent image costs rules Represents whole.compiled.priced d (sampled f row before) (facts.sampled d before rep)
      )
      )

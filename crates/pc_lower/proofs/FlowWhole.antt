-- A run of an image of a program's flow does what the program means.
use Rattle.std.proofs.Common.{◌≡◌, ℕ, ℤ, ◌<◌, ◌==◌, false, List, [], ◌∷◌, refl, sym, ap, ◌∙◌, subst, arith}
use Rattle.mb_isa.specs.Costs.{IsCosts}
use Rattle.mb_pfu.specs.declared.Slot.TheVariants.{Free, Ended as SlotEnded}
use Rattle.mb_pfu.specs.Tree.{Tree, Leaf, Finished, slot_of}
use Rattle.pt_image.specs.declared.Parts.{Parts}
use Rattle.mb_isa.specs.Cells.{Cells}
use Rattle.mb_isa.specs.Run.{Ticked, Ends, Trapped, run_of}
use Rattle.pc_meaning.specs.Tree.{Program}
use Rattle.pc_meaning.specs.Runs.{Standing, Unstarted, At, Ended, Moment, words_at, before_ticks, ticked, moments_from}
use Rattle.pc_lower.specs.Flow.{State, End, Through, Halted, Position, Fresh, Waits, Stopped, Point, point_of, goes, sampled, moved}
use Rattle.pc_lower.specs.Lowered.{flow_of}
use Rattle.pc_lower.specs.Sound.{ProgramFits}
use Rattle.pc_lower.proofs.Whole.{SamePosition, SamePoint, same_tick}
use Rattle.pc_lower.specs.Laid.{Placing}
use Rattle.pc_lower.specs.StepCounts.{Sizes}
use Rattle.pc_lower.specs.Words.{Writing}
use Rattle.pc_lower.specs.Image.{IsImageOf, StandsAt}
use Rattle.pc_lower.specs.Limits.{IsWithinLimits}
use Rattle.pc_lower.specs.Runs.{RunLaws, AreTicksOf, beginning}
use Rattle.pc_lower.specs.Slotwise.{StandsSlotwise}
use Rattle.pc_lower.proofs.Runs.{runs}
use Rattle.pc_lower.proofs.Slots.{other-of}
use Rattle.pc_lower.proofs.Slotwise.{slotwise}
use Rattle.pc_lower.specs.Meant.{StandsIn, EachMeans, DoesWhatIsMeant}
use Rattle.pc_lower.proofs.Steady.{Kept, steady}

-- where a single slot has ended, the others are free
others-free : (q : ℕ) → 0 < q → slot_of q (Leaf [] Finished) ≡ Free
others-free q more = let e : (0 == q) ≡ false = other-of 0 q (λ s. absurd (omega (arith, s, more))) in rw e refl

module _ (p : Program) (fit : ProgramFits p) (parent : ℕ → ℕ) (image : Parts) where
  abbrev IsStarted : Position → Type 0
  IsStarted Fresh = ⊥
  IsStarted (Waits q) = Unit {0}
  IsStarted Stopped = Unit {0}

  stands-in : (s : Standing) (place : Position) (t : Tree) → SamePosition p fit s place → StandsAt parent image (flow_of p) place t → IsStarted place → StandsIn p image s t
  stands-in Unstarted Fresh t h stands late = absurd late
  stands-in Unstarted (Waits q) t h stands late = absurd h
  stands-in Unstarted Stopped t h stands late = absurd h
  stands-in (At r) Fresh t h stands late = absurd h
  stands-in (At r) (Waits q) t h stands late = subst (λ x. StandsSlotwise image x t) h.0 (slotwise parent image q t stands.1 stands.2)
  stands-in (At r) Stopped t h stands late = absurd h
  stands-in Ended Fresh t h stands late = absurd h
  stands-in Ended (Waits q) t h stands late = absurd h
  stands-in Ended Stopped t h stands late =
      subst (λ x. (slot_of 0 x ≡ SlotEnded) × ((q : ℕ) → 0 < q → slot_of q x ≡ Free)) (sym stands) (refl, others-free)

  started-after : (o : End) → IsStarted (point_of o).position
  started-after (Through w) = tt
  started-after (Halted r w) = tt

  each-means : (rows : List (List ℤ)) (m : Moment) (q : Point) (ticks : List Ticked) → SamePoint p fit m q → AreTicksOf parent image (flow_of p) q rows ticks → EachMeans p image (moments_from p m rows) ticks
  each-means [] m q ticks same h = subst (EachMeans p image []) (sym h) tt
  each-means (row ∷ rows) m q [] same h = absurd h
  each-means (row ∷ rows) m q (Trapped kind at charged ∷ more) same h = absurd h
  each-means (row ∷ rows) m q (Ends cycles outputs state ∷ more) same h =
      let next = same_tick p fit m q same row in (
        (
          h.0 ∙ ap (words_at p.outputs) next.store,
          h.1,
          stands-in (ticked p m row).standing (moved (flow_of p) q row).position state.unit.tree next.position h.2
              (started-after (goes (flow_of p) q.position q.state (sampled (flow_of p) row q.state))),
        ),
        each-means rows (ticked p m row) (moved (flow_of p) q row) more next h.3,
      )

  module _ (writing : Writing) (sizes : Sizes) (placing : Placing)
      (whole : (costs : List ℕ) → IsCosts costs → IsImageOf parent image costs (flow_of p) writing sizes placing)
      (small : IsWithinLimits image (flow_of p) writing sizes) (Represents : Cells → State → Type 0) (laws : RunLaws image (flow_of p) writing Represents) where
    pub does-what-is-meant : DoesWhatIsMeant p image
    does-what-is-meant costs priced most ample rows fits =
        each-means rows (before_ticks p) (beginning (flow_of p) laws.temps) (run_of image costs most rows) (record { position = tt; store = refl })
        (runs parent image costs (flow_of p) writing sizes placing (whole costs priced) small Represents laws (Kept p fit) (steady p fit) most ample laws.temps rows fits)

-- Choices, and the ends of a tick that are none.
use Rattle.std.proofs.Common.{◌≡◌, ◌≤◌, ℕ, zero, suc, ◌+◌, Bool, List, Option, Some, None, refl, sym, subst, arith}
use Rattle.mb_pfu.specs.Tree.{next_test}
use Rattle.mb_pfu.specs.Unit.{State}
use Rattle.pt_image.specs.declared.Parts.{Parts}
use Rattle.mb_isa.specs.Control as control
use Rattle.mb_isa.specs.Control.{Control, place_of}
use Rattle.mb_isa.specs.Step.{Stepped, Traps, Undecided, samples_from, samples_on, step}
use Rattle.mb_isa.specs.Tick.{after_step, run}
use Rattle.mb_isa.specs.Free.{free}
use Rattle.tk_walk.specs.declared.parts.Phase.{Phase}
use Rattle.tk_walk.specs.declared.parts.Phase.TheVariants.{Testing, Running, Resting}
use Rattle.tk_walk.specs.declared.parts.Stop.{Stop}
use Rattle.tk_walk.specs.declared.parts.Stop.TheVariants.{Trap, Open}
use Rattle.tk_walk.specs.Going.{halted}
use Rattle.tk_walk.specs.Phases.{phase_of, place_in, IsUnfinished}

samples_by : (o : Option (ℕ × ℕ)) (choices : List Bool) → samples_from free o choices ≡ choices
samples_by None choices = refl
samples_by (Some t) choices = refl

-- to sample takes no choice
pub samples_none : (u : State) (choices : List Bool) → samples_on free u choices ≡ choices
samples_none u choices = samples_by (next_test u.tree) choices

pub none-there : (phase : Phase) → place_in phase ≡ None → phase_of phase ≡ control.Resting
none-there (Testing at) h = cc h
none-there (Running s at) h = cc h
none-there Resting h = refl

module _ (image : Parts) (costs : List ℕ) (most charged : ℕ) (c : Control) (choices : List Bool) where
  -- a step that isn't done ends no tick
  unfinished : (fuel : ℕ) (s : Stepped (List Bool)) → step free costs image c choices ≡ s → IsUnfinished (after_step free image costs (run free image costs fuel most) most charged c choices s) → IsUnfinished (run free image costs (suc fuel) most charged c choices)
  unfolding run
  unfinished fuel s h n = subst (λ (x : Stepped (List Bool)). IsUnfinished (after_step free image costs (run free image costs fuel most) most charged c choices x)) (sym h) n

  pub is_halted : (fuel : ℕ) (stop : Stop) → most + 1 ≤ fuel + charged → charged ≤ most → step free costs image c choices ≡ halted stop → IsUnfinished (run free image costs fuel most charged c choices)
  is_halted zero stop left within h = absurd (omega arith)
  is_halted (suc fuel) (Trap kind) left within h = unfinished fuel (Traps kind) h tt
  is_halted (suc fuel) Open left within h = unfinished fuel Undecided h tt

-- What ends within a limit, or traps at a bad address, does the same under every greater limit.
use Rattle.std.proofs.Common.{◌≡◌, ◌≤◌, ℕ, zero, suc, ◌+◌, nat_lt, Bool, true, false, cond, ℤ, List, [], ◌∷◌, refl, ap, ◌∙◌, arith}
use Rattle.std.specs.List.{AllByRecursion}
use Rattle.mb_pfu.specs.declared.TrapKind.TheVariants.{Late}
use Rattle.mb_pfu.specs.Unit.{State}
use Rattle.pt_image.specs.declared.image.Parts.{Parts}
use Rattle.mb_isa.specs.Cells.{Cells, machine}
use Rattle.mb_isa.specs.Control.{Control, place_of, tests_on}
use Rattle.mb_isa.specs.Step.{Rules, Stepped, Moves, Rests, Traps, Undecided, step, samples_on}
use Rattle.mb_isa.specs.Tick.{Outcome, Ends, Trapped, Open, after_step, run, tick, base_of, begun, IsSafeWithin}
use Rattle.mb_isa.specs.Run as runs
use Rattle.mb_isa.specs.Run.{MachineState, loaded, loaded_cells, seen, after_tick, ticks_from, run_of}
use Rattle.tk_paths.specs.Bounded as bounded
use Rattle.tk_paths.specs.Bounded.{BoundsRuns, and_after}

module _ {Data : Type 0} (rules : Rules Data) (image : Parts) (costs : List ℕ) (small large bound : ℕ) (le : small ≤ large) where
  late_is_unsafe : (at charged : ℕ) → IsSafeWithin {Data = Data} bound (Trapped Late at charged) → ⊥
  late_is_unsafe at charged h = cc (h.0)

  below : (n : ℕ) → nat_lt small n ≡ false → nat_lt large n ≡ false
  below n h = grind (arith, le)

  by_charge : (f g charged charge : ℕ) (c next : Control) (after : Data) (over : Bool) → nat_lt small (charged + charge) ≡ over →
      (IsSafeWithin bound (run rules image costs f small (charged + charge) next after) → run rules image costs g large (charged + charge) next after ≡ run rules image costs f small (charged + charge) next after) →
      IsSafeWithin bound (cond over (Trapped Late (place_of c) charged) (run rules image costs f small (charged + charge) next after)) →
      cond (nat_lt large (charged + charge)) (Trapped Late (place_of c) charged) (run rules image costs g large (charged + charge) next after)
      ≡ cond over (Trapped Late (place_of c) charged) (run rules image costs f small (charged + charge) next after)
  by_charge f g charged charge c next after true e same h = absurd (late_is_unsafe (place_of c) charged h)
  by_charge f g charged charge c next after false e same h = rw (below (charged + charge) e) (same h)

  by_step : (f g charged : ℕ) (c : Control) (d : Data) (s : Stepped Data) →
      ((to : ℕ) (next : Control) (after : Data) → IsSafeWithin bound (run rules image costs f small to next after) → run rules image costs g large to next after ≡ run rules image costs f small to next after) →
      IsSafeWithin bound (after_step rules image costs (run rules image costs f small) small charged c d s) →
      after_step rules image costs (run rules image costs g large) large charged c d s ≡ after_step rules image costs (run rules image costs f small) small charged c d s
  by_step f g charged c d (Moves charge next after) same h =
      let e : nat_lt small (charged + charge) ≡ nat_lt small (charged + charge) = refl in
      by_charge f g charged charge c next after (nat_lt small (charged + charge)) e (same (charged + charge) next after) h
  by_step f g charged c d Rests same h = refl
  by_step f g charged c d (Traps kind) same h = refl
  by_step f g charged c d Undecided same h = refl

  same_run : (f g : ℕ) → f ≤ g → (charged : ℕ) (c : Control) (d : Data) → IsSafeWithin bound (run rules image costs f small charged c d) →
      run rules image costs g large charged c d ≡ run rules image costs f small charged c d
  unfolding run
  same_run zero g more charged c d h = absurd (late_is_unsafe 0 charged h)
  same_run (suc f) zero more charged c d h = absurd (omega arith)
  same_run (suc f) (suc g) more charged c d h = by_step f g charged c d (step rules costs image c d) (λ to next after. same_run f g (omega arith) to next after) h

  by_base : (u : State) (d : Data) (over : Bool) → nat_lt small (base_of image costs) ≡ over →
      IsSafeWithin bound (cond over (Trapped Late 0 0) (run rules image costs (suc small) small (base_of image costs) (tests_on (begun u)) (samples_on rules (begun u) d))) →
      tick rules image costs large u d ≡ cond over (Trapped Late 0 0) (run rules image costs (suc small) small (base_of image costs) (tests_on (begun u)) (samples_on rules (begun u) d))
  by_base u d true e h = absurd (late_is_unsafe 0 0 h)
  by_base u d false e h =
      rw (below (base_of image costs) e) (same_run (suc small) (suc large) (omega (arith, le)) (base_of image costs) (tests_on (begun u)) (samples_on rules (begun u) d) h)

  pub same_tick : (u : State) (d : Data) → IsSafeWithin bound (tick rules image costs small u d) → tick rules image costs large u d ≡ tick rules image costs small u d
  same_tick u d h = let e : nat_lt small (base_of image costs) ≡ nat_lt small (base_of image costs) = refl in by_base u d (nat_lt small (base_of image costs)) e h

-- rows, each with this limit
abbrev pub pairs : ℕ → List (List ℤ) → List (ℕ × List ℤ)
pairs most [] = []
pairs most (row ∷ rows) = (most, row) ∷ pairs most rows

pub pairs_above : (bound most : ℕ) → bound ≤ most → (rows : List (List ℤ)) → AllByRecursion (λ (row : ℕ × List ℤ). bound ≤ row.0) (pairs most rows)
pairs_above bound most le [] = tt
pairs_above bound most le (row ∷ rows) = (le, pairs_above bound most le rows)

module _ (image : Parts) (costs : List ℕ) (small large bound : ℕ) (le : small ≤ large) where
  abbrev AreSafe : List (List ℤ) → MachineState → Type 0
  AreSafe rows s = AllByRecursion (IsSafeWithin bound) (bounded.ticks image costs (pairs small rows) s.unit s.cells)

  first_is_safe : (more : State → Cells → List (Outcome Cells)) (o : Outcome Cells) → AllByRecursion (IsSafeWithin bound) (and_after more o) → IsSafeWithin bound o
  first_is_safe more (Ends cycles unit after) h = h.0
  first_is_safe more (Trapped kind at charged) h = h.0
  first_is_safe more (Open charged) h = h.0

  by_outcome : (rows : List (List ℤ)) → ((s : MachineState) → AreSafe rows s → ticks_from image costs large s rows ≡ ticks_from image costs small s rows) → (o : Outcome Cells) →
      AllByRecursion (IsSafeWithin bound) (and_after (bounded.ticks image costs (pairs small rows)) o) →
      after_tick (λ state. ticks_from image costs large state rows) (seen image o) ≡ after_tick (λ state. ticks_from image costs small state rows) (seen image o)
  by_outcome rows next (Ends cycles unit after) h =
      ap (λ os. seen image (Ends cycles unit after) ∷ os) (next (record { unit = unit; cells = after }) h.1)
  by_outcome rows next (Trapped kind at charged) h = refl
  by_outcome rows next (Open charged) h = refl

  same_ticks : (rows : List (List ℤ)) (s : MachineState) → AreSafe rows s → ticks_from image costs large s rows ≡ ticks_from image costs small s rows
  same_ticks [] s h = refl
  same_ticks (row ∷ rows) s h =
      let o = tick (machine image row) image costs small s.unit s.cells in
      ap (λ o. after_tick (λ state. ticks_from image costs large state rows) (seen image o))
      (same_tick (machine image row) image costs small large bound le s.unit s.cells (first_is_safe (bounded.ticks image costs (pairs small rows)) o h))
      ∙ by_outcome rows (same_ticks rows) o h

  -- where each tick of each run is within the bound, no limit from the bound on makes a difference
  pub same_runs : bound ≤ small → BoundsRuns image costs bound → (rows : List (List ℤ)) → run_of image costs large rows ≡ run_of image costs small rows
  same_runs above safe rows = same_ticks rows (loaded image) (safe (pairs small rows) (loaded_cells image) (pairs_above bound small above rows))

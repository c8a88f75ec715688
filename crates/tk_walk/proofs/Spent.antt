-- Whether choices are left over, and what the tick of a core costs.
use Rattle.std.proofs.Common.{◌≡◌, ◌≤◌, ℕ, zero, suc, Bool, IsTrue, List, [], ◌∷◌, length, drop, Option, Some, None, refl, sym, ap, ◌∙◌, subst, arith, leb, leb-true, le-leb, length-drop}
use Rattle.mb_pfu.specs.Unit as unit
use Rattle.pt_image.specs.declared.Parts.{Parts}
use Rattle.mb_isa.specs.Tick.{Outcome, Ends, tick}
use Rattle.mb_isa.specs.Free.{free}
use Rattle.tk_paths.specs.Walks.{most_cycles, IsCostOf}
use Rattle.tk_walk.specs.Walks.{IsTickCost, IsCostWithin, Tells, TellsWithin}
use Rattle.tk_walk.specs.Building.{IsBegun}
use Rattle.tk_walk.specs.Going.{FreeState, left}
use Rattle.tk_walk.specs.Phases.{IsUnfinished}
use Rattle.tk_walk.proofs.Beginning.{tick-alike}
use Rattle.tk_cert.specs.declared.cert.Walk.{Walk}

drop-all : (xs : List Bool) (n : ℕ) → length xs ≤ n → drop n xs ≡ []
drop-all [] zero h = refl
drop-all [] (suc n) h = refl
drop-all (x ∷ xs) zero h = absurd (omega arith)
drop-all (x ∷ xs) (suc n) h = drop-all xs n (omega arith)

dropped-all : (xs : List Bool) (n : ℕ) → drop n xs ≡ [] → length xs ≤ n
dropped-all xs n h = omega (arith, length-drop n xs, ap length h)

pub spent : (choices : List Bool) (n : ℕ) → (IsTrue (leb (length choices) n) → drop n choices ≡ []) × (drop n choices ≡ [] → IsTrue (leb (length choices) n))
spent choices n = (
  (λ h. drop-all choices n (leb-true (length choices) n h)),
  (λ h. le-leb (length choices) n (dropped-all choices n h)),
)

module _ (image : Parts) (costs : List ℕ) (most : ℕ) (u : unit.State) (choices : List Bool) (old new : FreeState) (old-is : old ≡ record { unit = u; upper = None; used = 0 }) where
  same : tick free image costs most u choices ≡ tick free image costs most old.unit (left choices old)
  same = ap (λ (k : FreeState). tick free image costs most k.unit (drop k.used choices)) (sym old-is)

  pub unfinished : IsUnfinished (tick free image costs most old.unit (left choices old)) → IsTickCost image costs most u choices None
  unfinished h = λ cost last e.
      let over : IsUnfinished (Ends cost last []) = subst (λ (o : Outcome (List Bool)). IsUnfinished o) (sym same ∙ e) h in
      over

  pub left-over : (cycles : ℕ) → tick free image costs most old.unit (left choices old) ≡ Ends cycles new.unit (left choices new) → (left choices new ≡ [] → ⊥) → IsTickCost image costs most u choices None
  left-over cycles h more = λ cost last e.
      let both : Ends cycles new.unit (left choices new) ≡ Ends cost last [] = sym h ∙ sym same ∙ e in
      more (let none : left choices new ≡ [] = cc in none)

  pub costs-so : (cycles : ℕ) → tick free image costs most old.unit (left choices old) ≡ Ends cycles new.unit (left choices new) → left choices new ≡ [] → cycles ≤ most → IsTickCost image costs most u choices (Some cycles)
  costs-so cycles h none within = (new.unit, same ∙ h ∙ ap (Ends cycles new.unit) none, within)

-- the cost of a walk is that of the tick from the configuration that it says
pub tells-none : (image : Parts) (costs : List ℕ) (most : ℕ) (walk : Walk) → IsBegun image walk.states None → TellsWithin image costs most walk None
tells-none image costs most walk none = λ cost h. none h.begins (record { configuration = h.configuration; states_are = h.states })

pub tells : (image : Parts) (costs : List ℕ) (most : ℕ) (walk : Walk) (u : unit.State) (answer : Option ℕ) → IsBegun image walk.states (Some u) → IsTickCost image costs most u walk.choices answer → TellsWithin image costs most walk answer
tells image costs most walk u (Some cost) begun h = record { begins = u; configuration = begun.0.configuration; states = begun.0.states_are; last = h.0; ends = h.1; within = h.2 }
tells image costs most walk u None begun h = λ cost w.
    h cost w.last (tick-alike image costs most u w.begins walk.choices (sym (begun.1 w.begins (record { configuration = w.configuration; states_are = w.states }))) ∙ w.ends)

-- and no other number is it
pub only-none : (image : Parts) (costs : List ℕ) (most : ℕ) (walk : Walk) → IsBegun image walk.states None → (n : ℕ) → IsCostWithin image costs most walk n → None ≡ Some n
only-none image costs most walk none = λ n w. absurd (none w.begins (record { configuration = w.configuration; states_are = w.states }))

pub only : (image : Parts) (costs : List ℕ) (most : ℕ) (walk : Walk) (u : unit.State) (answer : Option ℕ) → IsBegun image walk.states (Some u) → IsTickCost image costs most u walk.choices answer → (n : ℕ) → IsCostWithin image costs most walk n → answer ≡ Some n
only image costs most walk u (Some cost) begun h = λ n w.
    let e : tick free image costs most u walk.choices ≡ Ends n w.last [] = tick-alike image costs most u w.begins walk.choices (sym (begun.1 w.begins (record { configuration = w.configuration; states_are = w.states }))) ∙ w.ends in
    let both : Ends cost h.0 [] ≡ Ends n w.last [] = sym h.1 ∙ e in
    let same : cost ≡ n = cc in
    ap Some same
only image costs most walk u None begun h = λ n w.
    absurd (h n w.last (tick-alike image costs most u w.begins walk.choices (sym (begun.1 w.begins (record { configuration = w.configuration; states_are = w.states }))) ∙ w.ends))

-- with the most cycles that a walk may cost
pub tells-whole : (image : Parts) (costs : List ℕ) (walk : Walk) (answer : Option ℕ) → TellsWithin image costs most_cycles walk answer → Tells image costs walk answer
tells-whole image costs walk (Some cost) h = record { begins = h.begins; configuration = h.configuration; states = h.states; last = h.last; ends = h.ends; within = h.within }
tells-whole image costs walk None h = λ cost w. h cost (record { begins = w.begins; configuration = w.configuration; states = w.states; last = w.last; ends = w.ends; within = w.within })

pub only-whole : (image : Parts) (costs : List ℕ) (walk : Walk) (answer : Option ℕ) → ((n : ℕ) → IsCostWithin image costs most_cycles walk n → answer ≡ Some n) → (n : ℕ) → IsCostOf image costs walk n → answer ≡ Some n
only-whole image costs walk answer h n w = h n (record { begins = w.begins; configuration = w.configuration; states = w.states; last = w.last; ends = w.ends; within = w.within })

-- A run on counted inputs, tick by tick.
use Rattle.std.proofs.Common.{◌≡◌, ℕ, zero, suc, ◌+◌, ◌-◌, ◌%◌, ◌<◌, ◌≤◌, max, ℤ, pos, List, [], ◌∷◌, length, replicate, Option, Some, None, Result, Ok, Err, refl, sym, ap, subst, ◌∙◌, arith}
use Rattle.pt_image.specs.declared.image.Parts.{Parts}
use Rattle.pt_trace.specs.Report.{greatest}
use Rattle.mb_core.specs.declared.parts.Trap.{Trap}
use Rattle.mb_core.specs.Machine.{Whole, tick_after, tick_of, Ticks}
use Rattle.mb_isa.specs.Run.{MachineState, Ticked, Ends, Trapped, tick_from, after_tick, ticks_from}
use Rattle.pretc_run.specs.Told.{told, Ended, AllEnded}
use Rattle.pretc_run.specs.declared.summing.Totals.{Totals}
use Rattle.pretc_run.specs.Counted.{counted_row, counted_rows, added, summed, Counts}

-- a tick that ended was counted in
pub counts_by : (o : Ticked) (old new : Whole) (before after : List ℤ) (cycles : ℕ) (totals now : Totals) → Ticks o old before (Ok cycles) new after →
    now.sum ≡ added totals.sum after → now.worst ≡ max totals.worst cycles → Counts o old new totals now
counts_by (Ends c outputs state) old new before after cycles totals now h s w =
    (h.1, s ∙ ap (added totals.sum) h.2, w ∙ ap (max totals.worst) (cc h.0))
counts_by (Trapped kind at charged) old new before after cycles totals now h s w = absurd (cc (h.0))

-- a tick that ended answered no trap
pub no_trap : (o : Ticked) (old new : Whole) (before after : List ℤ) (trap : Trap) → Ended o → Ticks o old before (Err trap) new after → ⊥
no_trap (Ends c outputs state) old new before after trap e h = cc (h.0)
no_trap (Trapped kind at charged) old new before after trap e h = e

counted_none : (width tick : ℕ) → counted_rows width tick 0 ≡ []
unfolding counted_rows
counted_none width tick = refl

counted_step : (width tick count : ℕ) → counted_rows width tick (suc count) ≡ counted_row width tick ∷ counted_rows width (tick + 1) count
unfolding counted_rows
counted_step width tick count = refl

-- a machine that goes on
pub record IsGoing (image : Parts) (costs : List ℕ) (m : Whole) : Type 0 where
  pub image_is : m.image ≡ image
  pub costs_is : m.costs ≡ costs
  pub going : m.trap ≡ None

module _ (image : Parts) (costs : List ℕ) (most width : ℕ) where
  -- the ticks that are left
  abbrev pub left : MachineState → ℕ → ℕ → List Ticked
  left s tick count = ticks_from image costs most s (counted_rows width tick count)

  -- with the ticks that are left the totals are these
  pub record IsCounted (sum : ℤ) (worst : ℕ) (m : Whole) (tick count : ℕ) (totals : Totals) : Type 0 where
    pub goes : IsGoing image costs m
    pub ended : AllEnded (left m.state tick count)
    pub sum_is : summed totals.sum (told (left m.state tick count)) ≡ sum
    pub worst_is : max totals.worst (greatest (told (left m.state tick count))) ≡ worst

  left_none : (s : MachineState) (tick : ℕ) → left s tick 0 ≡ []
  left_none s tick = ap (ticks_from image costs most s) (counted_none width tick)

  left_more : (s : MachineState) (tick count : ℕ) → left s tick (suc count) ≡ after_tick (λ state. left state (tick + 1) count) (tick_from image costs s (counted_row width tick) most)
  left_more s tick count = ap (ticks_from image costs most s) (counted_step width tick count)

  tick_is : (m : Whole) (row : List ℤ) → IsGoing image costs m → tick_of m row most ≡ tick_from image costs m.state row most
  tick_is m row g =
      ap (λ trap. tick_after trap m row most) g.going ∙ ap (λ image. tick_from image m.costs m.state row most) g.image_is
      ∙ ap (λ costs. tick_from image costs m.state row most) g.costs_is

  first_ended : (go : MachineState → List Ticked) (o : Ticked) → AllEnded (after_tick go o) → Ended o
  first_ended go (Ends cycles outputs state) h = tt
  first_ended go (Trapped kind at charged) h = h.0

  -- the next tick ends
  pub next_ends : (sum : ℤ) (worst : ℕ) (m : Whole) (tick count : ℕ) (totals : Totals) → IsCounted sum worst m tick (suc count) totals →
      Ended (tick_of m (counted_row width tick) most)
  next_ends sum worst m tick count totals h =
      subst Ended (sym (tick_is m (counted_row width tick) h.goes))
      (first_ended (λ s. left s (tick + 1) count) (tick_from image costs m.state (counted_row width tick) most) (subst AllEnded (left_more m.state tick count) h.ended))

  by_tick : (sum : ℤ) (worst : ℕ) (m new : Whole) (tick count : ℕ) (totals now : Totals) (o : Ticked) → IsGoing image costs m → Counts o m new totals now →
      AllEnded (after_tick (λ s. left s (tick + 1) count) o) → summed totals.sum (told (after_tick (λ s. left s (tick + 1) count) o)) ≡ sum →
      max totals.worst (greatest (told (after_tick (λ s. left s (tick + 1) count) o))) ≡ worst → IsCounted sum worst new (tick + 1) count now
  by_tick sum worst m new tick count totals now (Ends cycles outputs state) g h e s w =
      let is : new.state ≡ state = ap (λ (x : Whole). x.state) h.0 in
      let rest : left new.state (tick + 1) count ≡ left state (tick + 1) count = ap (λ x. left x (tick + 1) count) is in
      let top = greatest (told (left state (tick + 1) count)) in
      let P : List Ticked → Type 0 = λ os. AllEnded os in
      record {
        goes = record { image_is = ap (λ (x : Whole). x.image) h.0 ∙ g.image_is; costs_is = ap (λ (x : Whole). x.costs) h.0 ∙ g.costs_is; going = ap (λ (x : Whole). x.trap) h.0 };
        ended = subst P (sym rest) e.1;
        sum_is = ap (λ os. summed now.sum (told os)) rest ∙ ap (λ x. summed x (told (left state (tick + 1) count))) h.1 ∙ s;
        worst_is = ap (λ os. max now.worst (greatest (told os))) rest ∙ ap (λ x. max x top) h.2 ∙ max_both totals.worst cycles top ∙ w;
      }
    where
      max_both : (a b c : ℕ) → max (max a b) c ≡ max a (max b c)
      max_both a b c = omega arith
  by_tick sum worst m new tick count totals now (Trapped kind at charged) g h e s w = absurd h

  -- one more tick is counted in
  pub counted_more : (sum : ℤ) (worst : ℕ) (m new : Whole) (tick count : ℕ) (totals now : Totals) → IsCounted sum worst m tick (suc count) totals →
      Counts (tick_of m (counted_row width tick) most) m new totals now → IsCounted sum worst new (tick + 1) count now
  counted_more sum worst m new tick count totals now h c =
      let P : Ticked → Type 0 = λ o. Counts o m new totals now in
      by_tick sum worst m new tick count totals now (tick_from image costs m.state (counted_row width tick) most) h.goes
      (subst P (tick_is m (counted_row width tick) h.goes) c) (subst AllEnded (left_more m.state tick count) h.ended)
      (ap (λ os. summed totals.sum (told os)) (sym (left_more m.state tick count)) ∙ h.sum_is)
      (ap (λ os. max totals.worst (greatest (told os))) (sym (left_more m.state tick count)) ∙ h.worst_is)

  -- where no ticks are left, these are the totals
  pub all_counted : (sum : ℤ) (worst : ℕ) (m : Whole) (tick : ℕ) (totals : Totals) → IsCounted sum worst m tick 0 totals → (totals.sum ≡ sum) × (totals.worst ≡ worst)
  all_counted sum worst m tick totals h =
      let e : max totals.worst 0 ≡ worst = ap (λ os. max totals.worst (greatest (told os))) (sym (left_none m.state tick)) ∙ h.worst_is in
      (ap (λ os. summed totals.sum (told os)) (sym (left_none m.state tick)) ∙ h.sum_is, omega (arith, e))

  -- before the first tick
  pub none_counted : (m : Whole) (tick count : ℕ) → IsGoing image costs m → AllEnded (left m.state tick count) →
      IsCounted (summed (pos 0) (told (left m.state tick count))) (greatest (told (left m.state tick count))) m tick count (record { sum = pos 0; worst = 0 })
  none_counted m tick count g h = record { goes = g; ended = h; sum_is = refl; worst_is = omega arith }

  -- the same for the first 1,000 ticks, whose rows have this length
  more_of : (tick : ℕ) → tick < 1000 → 1000 - tick ≡ suc (1000 - (tick + 1))
  more_of tick h = omega (arith, h)

  pub next_ends_at : (sum : ℤ) (worst : ℕ) (m : Whole) (tick : ℕ) (totals : Totals) (n : ℕ) → n ≡ width → tick < 1000 →
      IsCounted sum worst m tick (1000 - tick) totals → Ended (tick_of m (counted_row n tick) most)
  next_ends_at sum worst m tick totals n is few h =
      let P : ℕ → Type 0 = λ count. IsCounted sum worst m tick count totals in
      let Q : ℕ → Type 0 = λ w. Ended (tick_of m (counted_row w tick) most) in
      subst Q (sym is) (next_ends sum worst m tick (1000 - (tick + 1)) totals (subst P (more_of tick few) h))

  pub counted_more_at : (sum : ℤ) (worst : ℕ) (m new : Whole) (tick : ℕ) (totals now : Totals) (n : ℕ) → n ≡ width → tick < 1000 →
      IsCounted sum worst m tick (1000 - tick) totals → Counts (tick_of m (counted_row n tick) most) m new totals now →
      IsCounted sum worst new (tick + 1) (1000 - (tick + 1)) now
  counted_more_at sum worst m new tick totals now n is few h c =
      let P : ℕ → Type 0 = λ count. IsCounted sum worst m tick count totals in
      let Q : ℕ → Type 0 = λ w. Counts (tick_of m (counted_row w tick) most) m new totals now in
      counted_more sum worst m new tick (1000 - (tick + 1)) totals now (subst P (more_of tick few) h) (subst Q is c)

  pub all_counted_at : (sum : ℤ) (worst : ℕ) (m : Whole) (tick : ℕ) (totals : Totals) → 1000 ≤ tick → IsCounted sum worst m tick (1000 - tick) totals →
      (totals.sum ≡ sum) × (totals.worst ≡ worst)
  all_counted_at sum worst m tick totals done h =
      let P : ℕ → Type 0 = λ count. IsCounted sum worst m tick count totals in
      let none : 1000 - tick ≡ 0 = omega (arith, done) in
      all_counted sum worst m tick totals (subst P none h)

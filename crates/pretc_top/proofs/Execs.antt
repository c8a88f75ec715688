-- A machine whose bound was accepted traps at bad addresses alone, and what its report comes to.
use Rattle.std.proofs.Common.{◌≡◌, ◌≤◌, ℕ, ℤ, List, [], ◌∷◌, ◌++◌, length, Option, Some, refl, sym, ap, subst, ◌∙◌, arith}
use Rattle.std.specs.List.{AllByRecursion}
use Rattle.pt_outside.specs.Told.{ShelfTold}
use Rattle.pt_image.specs.declared.image.Parts.{Parts}
use Rattle.pt_trace.specs.Report.{bound_line}
use Rattle.mb_isa.specs.Cells.{Cells, machine}
use Rattle.mb_isa.specs.Tick.{Outcome, Ends, Trapped, Open, tick, IsSafeWithin}
use Rattle.mb_isa.specs.Run.{MachineState, loaded_cells, loaded, seen, after_tick, ticks_from, run_of}
use Rattle.mb_core.specs.Machine.{Whole, fresh}
use Rattle.tk_paths.specs.Bounded as bounded
use Rattle.tk_paths.specs.Bounded.{BoundsRuns, and_after}
use Rattle.pretc_run.specs.declared.endings.Ending.{Ending}
use Rattle.pretc_run.specs.Running.{run_lines}
use Rattle.pretc_run.specs.Reporting.{ReportComes, report_ends, report_breaks}
use Rattle.pretc_run.proofs.Written.{wrote_both, wrote_broke}
use Rattle.pretc_top.specs.declared.commands.Command.TheVariants.{Exec}
use Rattle.pretc_top.specs.Outside.{Outside}
use Rattle.pretc_top.specs.Exec.{IsApproved, ExecReady, BoundedReport, bound_broke, bound_said, exec_lines, AllTrapSafely, ExecBroke, in_the_bound, behind_the_bound}
use Rattle.pretc_top.specs.Comes as comes

abbrev pairs : ℕ → List (List ℤ) → List (ℕ × List ℤ)
pairs b [] = []
pairs b (r ∷ rs) = (b, r) ∷ pairs b rs

pairs_within : (b : ℕ) (rows : List (List ℤ)) → AllByRecursion (λ (row : ℕ × List ℤ). b ≤ row.0) (pairs b rows)
pairs_within b [] = tt
pairs_within b (r ∷ rs) = (omega arith, pairs_within b rs)

module _ (image : Parts) (costs : List ℕ) (bound : ℕ) where
  by_outcome : (rows : List (List ℤ)) →
      ((s : MachineState) → AllByRecursion (IsSafeWithin bound) (bounded.ticks image costs (pairs bound rows) s.unit s.cells) → AllTrapSafely (ticks_from image costs bound s rows)) →
      (o : Outcome Cells) → AllByRecursion (IsSafeWithin bound) (and_after (bounded.ticks image costs (pairs bound rows)) o) →
      AllTrapSafely (after_tick (λ state. ticks_from image costs bound state rows) (seen image o))
  by_outcome rows next (Ends cycles unit after) h = (tt, next (record { unit = unit; cells = after }) h.1)
  by_outcome rows next (Trapped kind at charged) h = (h.0.0, tt)
  by_outcome rows next (Open charged) h = absurd h.0

  safe_from : (rows : List (List ℤ)) (s : MachineState) → AllByRecursion (IsSafeWithin bound) (bounded.ticks image costs (pairs bound rows) s.unit s.cells) →
      AllTrapSafely (ticks_from image costs bound s rows)
  safe_from [] s h = tt
  safe_from (row ∷ rows) s h = by_outcome rows (safe_from rows) (tick (machine image row) image costs bound s.unit s.cells) h

  safe : BoundsRuns image costs bound → (rows : List (List ℤ)) → AllTrapSafely (run_of image costs bound rows)
  safe runs rows = safe_from rows (loaded image) (runs (pairs bound rows) (loaded_cells image) (pairs_within bound rows))

module _ (image cert costs : List ℕ) (old new : Outside) (answer : ℕ) where
  reports : (i : Parts) (c : List ℕ) (b : ℕ) → IsApproved image cert costs old.shelf new.shelf i c b → BoundedReport i c b old.source new.source old.sink new.sink answer →
      comes.Comes (Some (Exec image cert costs)) old new answer
  reports i c b ok (bound_broke is s broke) = comes.broke is (comes.exec_broke image cert costs (in_the_bound i c b ok s broke))
  reports i c b ok (bound_said mid w (report_ends rows last e ends h)) =
      let due : List (List ℕ) = exec_lines i c b rows ++ last ∷ [] in
      comes.ran due e
      (comes.exec_ran image cert costs due e (record {
        image_read = i;
        costs_read = c;
        bound = b;
        approved = ok;
        rows = rows;
        last = last;
        ends = ends;
        due_is = refl;
        safe = safe i c b ok.approves.runs;
      }))
      (record { answer_is = h.answer_is; wrote = wrote_both old.sink mid new.sink (bound_line b ∷ []) (run_lines i c b rows ++ last ∷ []) w h.wrote; sent = h.sent })
  reports i c b ok (bound_said mid w (report_breaks is g)) =
      comes.broke is
      (comes.exec_broke image cert costs (behind_the_bound (record {
        image_read = i;
        costs_read = c;
        bound = b;
        approved = ok;
        rows = g.rows;
        next = g.next;
        is_next = g.is_next;
        broke = wrote_broke old.sink mid new.sink (bound_line b ∷ []) (run_lines i c b g.rows) g.next w g.broke;
      })))

  pub exec_reports : (m : Whole) (inputs outputs bound : ℕ) → ExecReady image cert costs old.shelf new.shelf m inputs outputs bound →
      BoundedReport m.image m.costs bound old.source new.source old.sink new.sink answer → comes.Comes (Some (Exec image cert costs)) old new answer
  exec_reports m inputs outputs bound r h =
      let P : Whole → Type 0 = λ w. BoundedReport w.image w.costs bound old.source new.source old.sink new.sink answer in
      reports r.image_read r.costs_read bound r.approved (subst P r.machine_is h)

module _ (image cert costs : List ℕ) (old new : ShelfTold) (m : Whole) (inputs outputs bound : ℕ) (r : ExecReady image cert costs old new m inputs outputs bound) where
  pub ready_is_fresh : m ≡ fresh m.image m.costs
  ready_is_fresh = r.machine_is ∙ ap (λ (w : Whole). fresh w.image w.costs) (sym r.machine_is)

  pub ready_inputs : inputs ≡ length m.image.inputs
  ready_inputs = r.inputs_are ∙ ap (λ (w : Whole). length w.image.inputs) (sym r.machine_is)

  pub ready_outputs : outputs ≡ length m.image.outputs
  ready_outputs = r.outputs_are ∙ ap (λ (w : Whole). length w.image.outputs) (sym r.machine_is)

  pub ready_few_inputs : length m.image.inputs ≤ 64
  ready_few_inputs = let P : Whole → Type 0 = λ w. length w.image.inputs ≤ 64 in subst P (sym r.machine_is) r.ranges.inputs.0

  pub ready_few_outputs : length m.image.outputs ≤ 64
  ready_few_outputs = let P : Whole → Type 0 = λ w. length w.image.outputs ≤ 64 in subst P (sym r.machine_is) r.ranges.outputs.0

-- What the report of a machine that is ready comes to in `run`.
use Rattle.std.proofs.Common.{◌≡◌, ◌≤◌, ℕ, ℤ, List, [], ◌∷◌, ◌++◌, length, Option, Some, Err, refl, sym, ap, subst, ◌∙◌}
use Rattle.pt_outside.specs.Told.{ShelfTold, SinkTold}
use Rattle.pt_image.specs.declared.image.Parts.{Parts}
use Rattle.pt_trace.specs.Report.{bound_line}
use Rattle.mb_core.specs.Machine.{Whole, fresh}
use Rattle.tk_cert.specs.declared.CertParts.{CertParts}
use Rattle.pretc_run.specs.Running.{run_lines}
use Rattle.pretc_run.specs.Reporting.{report_ends, report_breaks}
use Rattle.pretc_run.proofs.Written.{wrote_both, wrote_broke}
use Rattle.pretc_top.specs.declared.commands.Command.TheVariants.{Run}
use Rattle.pretc_top.specs.Outside.{Outside}
use Rattle.pretc_top.specs.Exec.{BoundedReport, bound_broke, bound_said, exec_lines}
use Rattle.pt_base.specs.declared.Refusal.{Refusal}
use Rattle.pt_base.specs.declared.Refusal.TheVariants.{Broken, Memory}
use Rattle.pc_rules.specs.Verdicts.{IsJudgedText}
use Rattle.pretc_run.specs.declared.endings.Ending.{Ending}
use Rattle.pretc_top.specs.Refusing.{ending_of}
use Rattle.pretc_top.specs.Run.{AreSources, Analyses, Unanalysed, rule_broken, no_memory, IsAnalysed, IsKept, RunReady, run_in_the_bound, run_behind_the_bound}
use Rattle.pretc_top.specs.Comes as comes
use Rattle.pretc_top.proofs.Within.{shown_within}

module _ (program costs name other : List ℕ) (old new : Outside) (answer : ℕ) where
  reports : (i : Parts) (cert : CertParts) (p : List ℕ) → IsAnalysed program costs old.shelf.files i cert p → IsKept name other i cert old.shelf new.shelf →
      BoundedReport i p cert.bound old.source new.source old.sink new.sink answer → comes.Comes (Some (Run program costs name other)) old new answer
  reports i cert p a k (bound_broke is s cut) = comes.broke is (comes.run_broke program costs name other (run_in_the_bound i cert p a k s cut))
  reports i cert p a k (bound_said mid w (report_ends rows last e ends h)) =
      let due : List (List ℕ) = exec_lines i p cert.bound rows ++ last ∷ [] in
      let told = shown_within a.analyses.typing i p cert.bound a.analyses.certified.means old.source new.source rows last e ends in
      comes.ran due e
      (comes.run_ran program costs name other due e (record {
        image = i;
        cert = cert;
        priced = p;
        analysed = a;
        stored = k;
        rows = rows;
        last = last;
        ends = ends;
        due_is = refl;
        shown = told.shown;
        untrapped = told.untrapped;
      }))
      (record { answer_is = h.answer_is; wrote = wrote_both old.sink mid new.sink (bound_line cert.bound ∷ []) (run_lines i p cert.bound rows ++ last ∷ []) w h.wrote; sent = h.sent })
  reports i cert p a k (bound_said mid w (report_breaks is g)) =
      comes.broke is
      (comes.run_broke program costs name other (run_behind_the_bound (record {
        image = i;
        cert = cert;
        priced = p;
        analysed = a;
        stored = k;
        rows = g.rows;
        next = g.next;
        is_next = g.is_next;
        broke = wrote_broke old.sink mid new.sink (bound_line cert.bound ∷ []) (run_lines i p cert.bound g.rows) g.next w g.broke;
      })))

  pub carried_reports : (m : Whole) (inputs outputs bound : ℕ) → RunReady program costs name other old.shelf new.shelf m inputs outputs bound →
      BoundedReport m.image m.costs bound old.source new.source old.sink new.sink answer → comes.Comes (Some (Run program costs name other)) old new answer
  carried_reports m inputs outputs bound r h =
      let P : Whole → Type 0 = λ w. BoundedReport w.image w.costs bound old.source new.source old.sink new.sink answer in
      let Q : ℕ → Type 0 = λ b. BoundedReport r.image r.priced b old.source new.source old.sink new.sink answer in
      reports r.image r.cert r.priced r.analysed r.stored (subst Q r.bound_is (subst P r.machine_is h))

module _ (program costs name other : List ℕ) (old new : ShelfTold) (m : Whole) (inputs outputs bound : ℕ) (r : RunReady program costs name other old new m inputs outputs bound) where
  pub carried_is_fresh : m ≡ fresh m.image m.costs
  carried_is_fresh = r.machine_is ∙ ap (λ (w : Whole). fresh w.image w.costs) (sym r.machine_is)

  pub carried_inputs : inputs ≡ length m.image.inputs
  carried_inputs = r.inputs_are ∙ ap (λ (w : Whole). length w.image.inputs) (sym r.machine_is)

  pub carried_outputs : outputs ≡ length m.image.outputs
  carried_outputs = r.outputs_are ∙ ap (λ (w : Whole). length w.image.outputs) (sym r.machine_is)

  pub carried_few_inputs : length m.image.inputs ≤ 64
  carried_few_inputs = let P : Whole → Type 0 = λ w. length w.image.inputs ≤ 64 in subst P (sym r.machine_is) r.analysed.analyses.certified.compiled.ranges.inputs.0

  pub carried_few_outputs : length m.image.outputs ≤ 64
  carried_few_outputs = let P : Whole → Type 0 = λ w. length w.image.outputs ≤ 64 in subst P (sym r.machine_is) r.analysed.analyses.certified.compiled.ranges.outputs.0

-- the sources were loaded, and came to this
pub analysed_from : (program costs : List ℕ) (old new : ShelfTold) (text : List ℕ) (table : Option (List ℕ)) (image : Parts) (cert : CertParts) (priced : List ℕ) →
    AreSources program costs old new text table → Analyses text table image cert priced → IsAnalysed program costs old.files image cert priced
analysed_from program costs old new text table image cert priced s a =
    record { text = text; table = table; program_held = s.program_held; costs_held = s.costs_held; analyses = a }

unanalysed_by : (text : List ℕ) (table : Option (List ℕ)) (f : Refusal) → IsJudgedText text (Err f) → Unanalysed text table (ending_of f)
unanalysed_by text table (Broken rule span) j = rule_broken rule span j
unanalysed_by text table Memory j = no_memory

-- a rule is broken, or no memory was found
pub unanalysed : (text : List ℕ) (table : Option (List ℕ)) (f : Refusal) (e : Ending) → IsJudgedText text (Err f) → e ≡ ending_of f → Unanalysed text table e
unanalysed text table f e j is = let P : Ending → Type 0 = λ x. Unanalysed text table x in subst P (sym is) (unanalysed_by text table f j)

-- A ready machine reports what the program means.
use Rattle.std.proofs.Common.{◌≡◌, ◌≢◌, ◌≤◌, ◌<◌, ℕ, ℤ, List, [], ◌∷◌, ◌++◌, length, Option, Some, All, FitsSigned, refl, sym, ap, subst, ◌∙◌, arith}
use Rattle.std.specs.Int.{w32}
use Rattle.std.specs.List.{AllByRecursion}
use Rattle.std.proofs.lemmas.List.Elements.{All-cons, All-nil, All-head, All-tail}
use Rattle.pt_outside.specs.Told.{ShelfTold, SourceTold}
use Rattle.pt_outside.specs.Files.{Files}
use Rattle.mb_isa.specs.Costs.{IsCosts, unit}
use Rattle.pt_image.specs.declared.image.Parts.{Parts}
use Rattle.pt_trace.specs.Given.{HasRead}
use Rattle.mb_core.specs.Machine.{Whole, fresh}
use Rattle.mb_isa.specs.Run.{run_of}
use Rattle.pc_grammar.specs.Typing.{Typing}
use Rattle.pc_meaning.specs.Tree.{Program}
use Rattle.pc_meaning.specs.Programs.{program_of}
use Rattle.pc_meaning.specs.Runs.{before_ticks, moments_from}
use Rattle.pretc_run.specs.declared.endings.Ending.{Ending}
use Rattle.pretc_run.specs.Endings.{number_of}
use Rattle.pretc_run.specs.Told.{AllEnded}
use Rattle.pretc_run.specs.Running.{RunEnds, run_done, run_bad, run_fault, run_trapped}
use Rattle.pretc_run.specs.Reporting.{ReportComes, report_ends, report_breaks}
use Rattle.pretc_top.specs.declared.commands.Command.TheVariants.{Go}
use Rattle.pc_lower.specs.Runs.{IsRow}
use Rattle.pc_lower.specs.Meant.{EachMeans}
use Rattle.pretc_top.specs.Outside.{Outside}
use Rattle.pretc_top.specs.Go.{cycles_most, IsBuilt, IsMade, IsReady, ShowsMeaning, go_lines}
use Rattle.pretc_top.specs.Comes.{Comes, ran, broke, go_ran, go_broke}
use Rattle.pretc_top.proofs.RowsFit.{IsWordRow, rows_fit_from}
use Rattle.pretc_top.proofs.Meant.{each_ended, each_outputs, not_all_ended}

all_of : {A : Type 0} (P : A → Type 0) (xs : List A) → AllByRecursion P xs → All P xs
all_of P [] h = All-nil P
all_of P (x ∷ xs) h = All-cons P x xs h.0 (all_of P xs h.1)

pub unit_is_costs : IsCosts unit
unit_is_costs =
    let one : (1 ≤ 1) × (1 < 256) = (omega arith, omega arith) in
    record { count = refl; range = all_of (λ n. (1 ≤ n) × (n < 256)) unit (one, (one, (one, (one, (one, (one, (one, (one, (one, (one, (one, (one, (one, (one, (one, (one, (one, (one, (one, (one, (one, (one, tt)))))))))))))))))))))) }

-- the rows that were read are rows of words
pub read_rows : (width : ℕ) (before after : Option (List ℕ)) (rows : List (List ℤ)) → HasRead width before after rows → All (IsWordRow width) rows
read_rows width before after rows h =
    let P : List (List ℤ) → Type 0 = λ l. All (IsWordRow width) l in
    subst P (ap (λ r. r.rows) h.gave) (rows_fit_from width 1 h.lines)

each_of : {A : Type 0} (P : A → Type 0) (xs : List A) → All P xs → AllByRecursion P xs
each_of P [] h = tt
each_of P (x ∷ xs) h = (All-head P x xs h, each_of P xs (All-tail P x xs h))

pub are_rows : (width : ℕ) (rows : List (List ℤ)) → All (IsWordRow width) rows → AllByRecursion IsRow rows
are_rows width [] h = tt
are_rows width (row ∷ rows) h =
    (each_of (FitsSigned w32) row (All-head (IsWordRow width) row rows h).1, are_rows width rows (All-tail (IsWordRow width) row rows h))

-- the ticks on the rows that were read do what the program means
means : (source : List ℕ) (files : Option Files) (image : Parts) (b : IsBuilt source image files) (before after : Option (List ℕ)) (rows : List (List ℤ)) →
    HasRead (length image.inputs) before after rows →
    EachMeans (program_of b.typing) image (moments_from (program_of b.typing) (before_ticks (program_of b.typing)) rows) (run_of image unit cycles_most rows)
means source files image b before after rows h =
    b.compiled.faithful unit unit_is_costs cycles_most (omega arith) rows
    (are_rows (length image.inputs) rows (read_rows (length image.inputs) before after rows h))

-- what is told of these ticks, and that the run ended otherwise than in a trap
pub record IsShown (image : Parts) (typing : Typing) (rows : List (List ℤ)) (e : Ending) : Type 0 where
  pub shown : ShowsMeaning typing image rows
  pub untrapped : number_of e ≢ 10

shown_by : (source : List ℕ) (files : Option Files) (image : Parts) (b : IsBuilt source image files) (before after : Option (List ℕ)) (rows : List (List ℤ)) →
    HasRead (length image.inputs) before after rows → ShowsMeaning b.typing image rows
shown_by source files image b before after rows h =
    let p : Program = program_of b.typing in
    each_outputs p image (moments_from p (before_ticks p) rows) (run_of image unit cycles_most rows) (means source files image b before after rows h)

never_traps : (source : List ℕ) (files : Option Files) (image : Parts) (b : IsBuilt source image files) (before after : Option (List ℕ)) (rows : List (List ℤ)) →
    HasRead (length image.inputs) before after rows → AllEnded (run_of image unit cycles_most rows)
never_traps source files image b before after rows h =
    let p : Program = program_of b.typing in
    each_ended p image (moments_from p (before_ticks p) rows) (run_of image unit cycles_most rows) (means source files image b before after rows h)

shown : (source : List ℕ) (files : Option Files) (image : Parts) (b : IsBuilt source image files) (before after : SourceTold) (rows : List (List ℤ)) (last : List ℕ) (e : Ending) →
    RunEnds image unit cycles_most rows before after last e → IsShown image b.typing rows e
shown source files image b before after rows last e (run_done ticked whole stays) =
    record { shown = shown_by source files image b before.left after.left rows ticked.read; untrapped = λ h. omega (arith, h) }
shown source files image b before after rows last e (run_bad rule line ticked bad stays) =
    record { shown = shown_by source files image b before.left after.left rows ticked.read; untrapped = λ h. omega (arith, h) }
shown source files image b before after rows last e (run_fault ticked cut failed) =
    record { shown = shown_by source files image b before.left after.left rows ticked.read; untrapped = λ h. omega (arith, h) }
shown source files image b before after rows last e (run_trapped row kind at read ended trapped stays) =
    absurd (not_all_ended (run_of image unit cycles_most rows) kind at trapped.charged
    (subst AllEnded trapped.traps (never_traps source files image b before.left after.left (rows ++ row ∷ []) read)))

reports : (source name : List ℕ) (old new : Outside) (image : Parts) (answer : ℕ) → IsMade source name image old.shelf new.shelf →
    ReportComes image unit cycles_most old.source new.source old.sink new.sink answer → Comes (Some (Go source name)) old new answer
reports source name old new image answer m (report_ends rows last e ends h) =
    let told = shown source old.shelf.files image m.built old.source new.source rows last e ends in
    let due : List (List ℕ) = go_lines image rows ++ last ∷ [] in
    ran due e (go_ran source name due e (record {
      image = image;
      made = m;
      rows = rows;
      last = last;
      ends = ends;
      due_is = refl;
      shown = told.shown;
      untrapped = told.untrapped;
    })) h
reports source name old new image answer m (report_breaks is b) = broke is (go_broke source name (record { image = image; made = m; breaks = b }))

-- the report of the machine that is ready
pub ready_reports : (source name : List ℕ) (old new : Outside) (machine : Whole) (inputs outputs answer : ℕ) → IsReady source name old.shelf new.shelf machine inputs outputs →
    ReportComes machine.image unit cycles_most old.source new.source old.sink new.sink answer → Comes (Some (Go source name)) old new answer
ready_reports source name old new machine inputs outputs answer r h =
    let P : Parts → Type 0 = λ image. ReportComes image unit cycles_most old.source new.source old.sink new.sink answer in
    reports source name old new r.image answer r.made (subst P (ap (λ (m : Whole). m.image) r.machine_is) h)

-- what the report asks of it
pub ready_is_fresh : (source name : List ℕ) (old new : ShelfTold) (machine : Whole) (inputs outputs : ℕ) → IsReady source name old new machine inputs outputs →
    machine ≡ fresh machine.image unit
ready_is_fresh source name old new machine inputs outputs r =
    r.machine_is ∙ ap (λ image. fresh image unit) (sym (ap (λ (m : Whole). m.image) r.machine_is))

pub ready_inputs : (source name : List ℕ) (old new : ShelfTold) (machine : Whole) (inputs outputs : ℕ) → IsReady source name old new machine inputs outputs →
    inputs ≡ length machine.image.inputs
ready_inputs source name old new machine inputs outputs r = r.inputs_are ∙ ap (λ (m : Whole). length m.image.inputs) (sym r.machine_is)

pub ready_outputs : (source name : List ℕ) (old new : ShelfTold) (machine : Whole) (inputs outputs : ℕ) → IsReady source name old new machine inputs outputs →
    outputs ≡ length machine.image.outputs
ready_outputs source name old new machine inputs outputs r = r.outputs_are ∙ ap (λ (m : Whole). length m.image.outputs) (sym r.machine_is)

pub ready_few_inputs : (source name : List ℕ) (old new : ShelfTold) (machine : Whole) (inputs outputs : ℕ) → IsReady source name old new machine inputs outputs →
    length machine.image.inputs ≤ 64
ready_few_inputs source name old new machine inputs outputs r =
    let P : Whole → Type 0 = λ m. length m.image.inputs ≤ 64 in
    subst P (sym r.machine_is) r.made.built.compiled.ranges.inputs.0

pub ready_few_outputs : (source name : List ℕ) (old new : ShelfTold) (machine : Whole) (inputs outputs : ℕ) → IsReady source name old new machine inputs outputs →
    length machine.image.outputs ≤ 64
ready_few_outputs source name old new machine inputs outputs r =
    let P : Whole → Type 0 = λ m. length m.image.outputs ≤ 64 in
    subst P (sym r.machine_is) r.made.built.compiled.ranges.outputs.0

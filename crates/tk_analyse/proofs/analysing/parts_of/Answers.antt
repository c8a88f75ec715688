use Rattle.std.proofs.Common.{◌≤◌, ◌+◌, ℕ, List, [], length, Option, refl, sym, ap, ◌∙◌, subst}
use Rattle.std.proofs.lemmas.Result.{err_from_is_err_and}
use Rattle.std.specs.List.{AllByRecursion}
use Rattle.mb_isa.specs.Tick.{base_of}
use Rattle.tk_cert.specs.declared.cert.Line.{Line}
use Rattle.tk_paths.specs.Sums.{greatest}
use Rattle.tk_paths.specs.Walks.{most_cycles}
use Rattle.tk_paths.specs.Greatest.{beginnings}
use Rattle.tk_paths.specs.Programs.{pair_from}
use Rattle.tk_paths.specs.Programs as programs
use Rattle.tk_paths.specs.Trees.{codes_of, read_sections, read_program}
use Rattle.tk_paths.specs.declared.Section.{Section as KeptSection}
use Rattle.tk_paths.specs.Told.{told_by}
use Rattle.tk_paths.specs.Waits.{AreSmallSlots}
use Rattle.tk_numbers.specs.Charges.{IsValued}
use Rattle.tk_numbers.specs.Routines.{IsSmallRoutine, IsShallow}
use Rattle.tk_threads.specs.Rooms.{IsSmallSection, AreSmallStarts}
use Rattle.tk_plans.specs.Low.{AreLow}
use Rattle.tk_analyse.specs.Points.{HasSmallPoints}
use Rattle.tk_analyse.proofs.Certified.{made_is, walk_told}
use Rattle.tk_analyse.proofs.Sums.{routines-small, routines-shallow, starts-small, sections-small, slots-small, bound-small, lines-low, points-small, ways-small, threads_few, starts_known, lines_known, bounds_known}
use Rattle.tk_analyse.proofs.analysing.parts_of.Goals as goal

pub returns-clause-exact : goal.returns-clause-exact
returns-clause-exact c =
    made_is c.args.image.now c.args.costs.now c.args.program.now.sections.items c.as_slice-sections.result.now c.in_ok-starts.starts.items c.as_slice-4.result.now
    c.in_ok-made.made.lines c.into_lists-lines.result.0.items c.of.result c.as_slice-5.result.now c.as_slice-6.result.now
    c.in_ok-made.made.weights c.into_lists-lines.result.1.items c.of-2.result c.in_ok-bounds.bounds.items c.of-3.result c.as_slice-7.result.now
    c.in_ok-bound.bound c.in_ok-walk.walk c.as_slice-sections.ensures.value c.in_ok-starts.ensures.exact c.as_slice-4.ensures.value
    c.in_ok-made.ensures.lines c.into_lists-lines.ensures.lines c.of.ensures c.in_ok-made.ensures.weights c.into_lists-lines.ensures.weights c.of-2.ensures
    c.as_slice-5.ensures.value c.in_ok-bounds.ensures.exact c.of-3.ensures c.as_slice-6.ensures.value c.as_slice-7.ensures.value c.in_ok-bound.ensures.exact

pub returns-clause-walk : goal.returns-clause-walk
returns-clause-walk c =
    walk_told c.args.image.now c.args.costs.now (read_program c.args.program.now) c.in_ok-bound.bound c.in_ok-bound.bound c.of.result
    c.as_slice-8.result.now c.of-2.result c.of-3.result c.as_slice-9.result.now c.in_ok-walk.walk (returns-clause-exact c) refl
    (c.as_slice-8.ensures.value ∙ sym c.of.ensures) (c.as_slice-9.ensures.value ∙ sym c.of-3.ensures) c.in_ok-walk.ensures.exact

pub returns-in_err-values-clause-only : goal.returns-in_err-values-clause-only
returns-in_err-values-clause-only c =
    let ok = c.requires.program in
    let little = c.requires.small in
    let p = err_from_is_err_and c.from_residual.result c.from_residual.ensures.1 in
    let I = c.args.image.now in
    let K = c.args.costs.now in
    let items = c.args.program.now.sections.items in
    let same = c.as_slice-sections.ensures.value in
    let program = read_program c.args.program.now in
    let P : List KeptSection → Type 0 = λ xs. AllByRecursion (IsSmallRoutine I K) (read_sections [] xs) in
    rw (p.1, p.2) (c.in_err-values.ensures.fits (subst P (sym same) (routines-small I program K ok c.ranges-2.ensures c.cost-tick.ensures.in_range little)))

pub returns-in_err-links-clause-only : goal.returns-in_err-links-clause-only
returns-in_err-links-clause-only c =
    let ok = c.requires.program in
    let little = c.requires.small in
    let p = err_from_is_err_and c.from_residual-in_err-links.result c.from_residual-in_err-links.ensures.1 in
    let I = c.args.image.now in
    let K = c.args.costs.now in
    let items = c.args.program.now.sections.items in
    let same = c.as_slice-sections.ensures.value in
    let program = read_program c.args.program.now in
    let P : List KeptSection → Type 0 = λ xs. AllByRecursion IsShallow (read_sections [] xs) in
    rw (p.1, p.2) (c.in_err-links.ensures.fits (subst P (sym same) (routines-shallow I program K ok c.ranges-2.ensures c.cost-tick.ensures.in_range little)))

pub returns-in_err-starts-clause-only : goal.returns-in_err-starts-clause-only
returns-in_err-starts-clause-only c =
    let ok = c.requires.program in
    let little = c.requires.small in
    let p = err_from_is_err_and c.from_residual-in_err-starts.result c.from_residual-in_err-starts.ensures.1 in
    let I = c.args.image.now in
    let K = c.args.costs.now in
    let items = c.args.program.now.sections.items in
    let same = c.as_slice-sections.ensures.value in
    let program = read_program c.args.program.now in
    let P : List KeptSection → Type 0 = λ xs. AreSmallStarts I K 0 (codes_of (read_sections [] xs)) in
    rw (p.1, p.2) (c.in_err-starts.ensures.fits
    (threads_few I (read_sections [] c.as_slice-sections.result.now) c.ranges-2.ensures (ap (λ (xs : List KeptSection). length (codes_of (read_sections [] xs))) same ∙ ok.slots))
    (subst P (sym same) (starts-small I program K ok c.ranges-2.ensures c.cost-tick.ensures.in_range little)))

pub returns-in_err-made-clause-only : goal.returns-in_err-made-clause-only
returns-in_err-made-clause-only c =
    let ok = c.requires.program in
    let little = c.requires.small in
    let p = err_from_is_err_and c.from_residual-in_err-made.result c.from_residual-in_err-made.ensures.1 in
    let I = c.args.image.now in
    let K = c.args.costs.now in
    let items = c.args.program.now.sections.items in
    let same = c.as_slice-sections.ensures.value in
    let program = read_program c.args.program.now in
    let starts = starts_known I K items c.as_slice-sections.result.now c.in_ok-starts.starts.items c.as_slice-4.result.now [] [] [] same c.in_ok-starts.ensures.exact c.as_slice-4.ensures.value in
    let P : List (Option ℕ × Option ℕ) → Type 0 = λ l. AllByRecursion (IsSmallSection I K (pair_from 0 l)) (read_sections [] items) in
    let Q : List KeptSection → Type 0 = λ xs. AllByRecursion (IsSmallSection I K (pair_from 0 c.as_slice-4.result.now)) (read_sections [] xs) in
    rw (p.1, p.2) (c.in_err-made.ensures.fits (subst Q (sym same) (subst P (sym starts) (sections-small I program K ok c.ranges-2.ensures c.cost-tick.ensures.in_range little))))

pub returns-in_err-bounds-clause-only : goal.returns-in_err-bounds-clause-only
returns-in_err-bounds-clause-only c =
    let ok = c.requires.program in
    let little = c.requires.small in
    let p = err_from_is_err_and c.from_residual-in_err-bounds.result c.from_residual-in_err-bounds.ensures.1 in
    let I = c.args.image.now in
    let K = c.args.costs.now in
    let items = c.args.program.now.sections.items in
    let same = c.as_slice-sections.ensures.value in
    let program = read_program c.args.program.now in
    let lines = lines_known I K items c.as_slice-sections.result.now c.in_ok-starts.starts.items c.as_slice-4.result.now c.in_ok-made.made.lines c.into_lists-lines.result.0.items c.as_slice-5.result.now same c.in_ok-starts.ensures.exact c.as_slice-4.ensures.value
    c.in_ok-made.ensures.lines c.into_lists-lines.ensures.lines c.as_slice-5.ensures.value in
    let P : List Line → Type 0 = λ l. AreSmallSlots I K l 0 (length I.slots) in
    rw (p.1, p.2) (c.in_err-bounds.ensures.fits (subst P (sym lines) (slots-small I program K ok c.ranges-2.ensures c.cost-tick.ensures.in_range little)))

pub returns-in_err-bound-clause-only : goal.returns-in_err-bound-clause-only
returns-in_err-bound-clause-only c =
    let ok = c.requires.program in
    let little = c.requires.small in
    let p = err_from_is_err_and c.from_residual-in_err-bound.result c.from_residual-in_err-bound.ensures.1 in
    let I = c.args.image.now in
    let K = c.args.costs.now in
    let items = c.args.program.now.sections.items in
    let same = c.as_slice-sections.ensures.value in
    let program = read_program c.args.program.now in
    let first = lines_known I K items c.as_slice-sections.result.now c.in_ok-starts.starts.items c.as_slice-4.result.now c.in_ok-made.made.lines c.into_lists-lines.result.0.items c.as_slice-5.result.now same c.in_ok-starts.ensures.exact c.as_slice-4.ensures.value
    c.in_ok-made.ensures.lines c.into_lists-lines.ensures.lines c.as_slice-5.ensures.value in
    let lines = lines_known I K items c.as_slice-sections.result.now c.in_ok-starts.starts.items c.as_slice-4.result.now c.in_ok-made.made.lines c.into_lists-lines.result.0.items c.as_slice-6.result.now same c.in_ok-starts.ensures.exact c.as_slice-4.ensures.value
    c.in_ok-made.ensures.lines c.into_lists-lines.ensures.lines c.as_slice-6.ensures.value in
    let bounds = bounds_known I K items c.as_slice-sections.result.now c.in_ok-starts.starts.items c.as_slice-4.result.now [] [] c.as_slice-5.result.now same c.in_ok-starts.ensures.exact c.as_slice-4.ensures.value
    c.in_ok-bounds.bounds.items c.as_slice-7.result.now first c.in_ok-bounds.ensures.exact c.as_slice-7.ensures.value in
    let P : List Line → Type 0 = λ l. base_of I K + greatest (beginnings I (told_by l c.as_slice-7.result.now) K) ≤ most_cycles in
    let Q : List (Option ℕ × Option ℕ) → Type 0 = λ b. base_of I K + greatest (beginnings I (told_by (programs.lines I K program) b) K) ≤ most_cycles in
    rw (p.1, p.2) (c.in_err-bound.ensures.fits (subst P (sym lines) (subst Q (sym bounds) (bound-small I program K ok c.ranges-2.ensures c.cost-tick.ensures.in_range little))))

pub dearest_walk-requires-clause-values : goal.dearest_walk-requires-clause-values
dearest_walk-requires-clause-values c =
    let P : List KeptSection → Type 0 = λ xs. IsValued c.args.image.now c.args.costs.now c.in_ok-values.values.items xs in
    let Q : List ℕ → Type 0 = λ vs. IsValued c.args.image.now c.args.costs.now vs c.args.program.now.sections.items in
    subst Q (sym c.as_slice-10.ensures.value) (subst P c.as_slice-sections.ensures.value c.in_ok-values.ensures.exact)

pub dearest_walk-requires-clause-low : goal.dearest_walk-requires-clause-low
dearest_walk-requires-clause-low c =
    let I = c.args.image.now in
    let K = c.args.costs.now in
    let items = c.args.program.now.sections.items in
    let program = read_program c.args.program.now in
    let lines = lines_known I K items c.as_slice-sections.result.now c.in_ok-starts.starts.items c.as_slice-4.result.now c.in_ok-made.made.lines c.into_lists-lines.result.0.items c.as_slice-8.result.now c.as_slice-sections.ensures.value c.in_ok-starts.ensures.exact c.as_slice-4.ensures.value
    c.in_ok-made.ensures.lines c.into_lists-lines.ensures.lines c.as_slice-8.ensures.value in
    subst AreLow (sym lines) (lines-low I program K c.requires.program c.ranges-2.ensures c.cost-tick.ensures.in_range c.requires.small)

pub dearest_walk-requires-clause-points : goal.dearest_walk-requires-clause-points
dearest_walk-requires-clause-points c =
    let I = c.args.image.now in
    let K = c.args.costs.now in
    let items = c.args.program.now.sections.items in
    let program = read_program c.args.program.now in
    let same = c.as_slice-sections.ensures.value in
    let first = lines_known I K items c.as_slice-sections.result.now c.in_ok-starts.starts.items c.as_slice-4.result.now c.in_ok-made.made.lines c.into_lists-lines.result.0.items c.as_slice-5.result.now same c.in_ok-starts.ensures.exact c.as_slice-4.ensures.value
    c.in_ok-made.ensures.lines c.into_lists-lines.ensures.lines c.as_slice-5.ensures.value in
    let lines = lines_known I K items c.as_slice-sections.result.now c.in_ok-starts.starts.items c.as_slice-4.result.now c.in_ok-made.made.lines c.into_lists-lines.result.0.items c.as_slice-8.result.now same c.in_ok-starts.ensures.exact c.as_slice-4.ensures.value
    c.in_ok-made.ensures.lines c.into_lists-lines.ensures.lines c.as_slice-8.ensures.value in
    let bounds = bounds_known I K items c.as_slice-sections.result.now c.in_ok-starts.starts.items c.as_slice-4.result.now [] [] c.as_slice-5.result.now same c.in_ok-starts.ensures.exact c.as_slice-4.ensures.value
    c.in_ok-bounds.bounds.items c.as_slice-9.result.now first c.in_ok-bounds.ensures.exact c.as_slice-9.ensures.value in
    let P : List Line → Type 0 = λ l. HasSmallPoints I l c.as_slice-9.result.now K in
    let Q : List (Option ℕ × Option ℕ) → Type 0 = λ b. HasSmallPoints I (programs.lines I K program) b K in
    subst P (sym lines) (subst Q (sym bounds) (points-small I program K c.requires.program c.ranges-2.ensures c.cost-tick.ensures.in_range c.requires.small))

pub dearest_walk-requires-clause-ways : goal.dearest_walk-requires-clause-ways
dearest_walk-requires-clause-ways c =
    ways-small c.args.image.now (read_program c.args.program.now) c.args.costs.now c.requires.program c.ranges-2.ensures c.cost-tick.ensures.in_range c.requires.small

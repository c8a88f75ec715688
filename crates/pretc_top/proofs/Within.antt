-- A compiled image does what its program means within a bound that bounds its runs; what its ticks within the bound tell.
use Rattle.std.proofs.Common.{◌≡◌, ◌≢◌, ◌≤◌, ℕ, zero, suc, ◌+◌, ◌%◌, nat_le, Bool, true, false, ℤ, pos, List, [], ◌∷◌, ◌++◌, length, replicate, Option, FitsSigned, refl, sym, subst, arith}
use Rattle.std.specs.Int.{w32}
use Rattle.std.specs.List.{AllByRecursion}
use Rattle.mb_isa.specs.Costs.{IsCosts}
use Rattle.pt_outside.specs.Told.{SourceTold}
use Rattle.pt_image.specs.declared.image.Parts.{Parts}
use Rattle.pt_trace.specs.Given.{HasRead}
use Rattle.mb_isa.specs.Run.{Ticked, run_of}
use Rattle.pc_grammar.specs.Typing.{Typing}
use Rattle.pc_meaning.specs.Tree.{Program}
use Rattle.pc_meaning.specs.Programs.{program_of}
use Rattle.pc_meaning.specs.Runs.{before_ticks, moments_from}
use Rattle.pc_lower.specs.Runs.{IsRow}
use Rattle.pc_lower.specs.Meant.{EachMeans}
use Rattle.pc_compile.specs.Compiled.{Compiles}
use Rattle.tk_paths.specs.Bounded.{BoundsRuns}
use Rattle.pretc_run.specs.declared.endings.Ending.{Ending}
use Rattle.pretc_run.specs.Endings.{number_of}
use Rattle.pretc_run.specs.Told.{AllEnded}
use Rattle.pretc_run.specs.Running.{RunEnds, run_done, run_bad, run_fault, run_trapped}
use Rattle.pretc_run.specs.Counted.{counted_row, counted_rows}
use Rattle.pretc_top.specs.Go.{cycles_most}
use Rattle.pretc_top.specs.Certified.{MeansWithin}
use Rattle.pretc_top.specs.Run.{ShowsWithin}
use Rattle.pretc_top.proofs.Limits.{same_runs}
use Rattle.pretc_top.proofs.Meant.{each_ended, each_outputs, not_all_ended}
use Rattle.pretc_top.proofs.Ready.{read_rows, are_rows}

le_of : (a b : ℕ) → nat_le a b ≡ true → a ≤ b
le_of a b h = grind arith

more_of : (a b : ℕ) → nat_le a b ≡ false → b ≤ a
more_of a b h = grind arith

module _ (t : Typing) (image : Parts) (costs : List ℕ) (bound : ℕ) (compiled : Compiles t image) (priced : IsCosts costs) (runs : BoundsRuns image costs bound) where
  abbrev Means : ℕ → List (List ℤ) → Type 0
  Means most rows = EachMeans (program_of t) image (moments_from (program_of t) (before_ticks (program_of t)) rows) (run_of image costs most rows)

  by_limit : (most : ℕ) (small : Bool) → nat_le most cycles_most ≡ small → bound ≤ most → (rows : List (List ℤ)) → AllByRecursion IsRow rows → Means most rows
  by_limit most true e above rows h =
      let P : List Ticked → Type 0 = λ os. EachMeans (program_of t) image (moments_from (program_of t) (before_ticks (program_of t)) rows) os in
      subst P (same_runs image costs most cycles_most bound (le_of most cycles_most e) above runs rows)
      (compiled.faithful costs priced cycles_most (omega arith) rows h)
  by_limit most false e above rows h = compiled.faithful costs priced most (more_of most cycles_most e) rows h

  pub means_within : MeansWithin (program_of t) image costs bound
  means_within most above rows h = let e : nat_le most cycles_most ≡ nat_le most cycles_most = refl in by_limit most (nat_le most cycles_most) e above rows h

module _ (t : Typing) (image : Parts) (costs : List ℕ) (bound : ℕ) (means : MeansWithin (program_of t) image costs bound) where
  each : (rows : List (List ℤ)) → AllByRecursion IsRow rows →
      EachMeans (program_of t) image (moments_from (program_of t) (before_ticks (program_of t)) rows) (run_of image costs bound rows)
  each rows h = means bound (omega arith) rows h

  -- rows of words are run as the program means
  pub words_ended : (rows : List (List ℤ)) → AllByRecursion IsRow rows → AllEnded (run_of image costs bound rows)
  words_ended rows h =
      each_ended (program_of t) image (moments_from (program_of t) (before_ticks (program_of t)) rows) (run_of image costs bound rows) (each rows h)

  pub words_shown : (rows : List (List ℤ)) → AllByRecursion IsRow rows → ShowsWithin t image costs bound rows
  words_shown rows h =
      each_outputs (program_of t) image (moments_from (program_of t) (before_ticks (program_of t)) rows) (run_of image costs bound rows) (each rows h)

  are_words : (before after : Option (List ℕ)) (rows : List (List ℤ)) → HasRead (length image.inputs) before after rows → AllByRecursion IsRow rows
  are_words before after rows h = are_rows (length image.inputs) rows (read_rows (length image.inputs) before after rows h)

  -- what is told of the ticks of a run, and that it ended otherwise than in a trap
  pub record IsShownWithin (rows : List (List ℤ)) (e : Ending) : Type 0 where
    pub shown : ShowsWithin t image costs bound rows
    pub untrapped : number_of e ≢ 10

  pub shown_within : (before after : SourceTold) (rows : List (List ℤ)) (last : List ℕ) (e : Ending) → RunEnds image costs bound rows before after last e → IsShownWithin rows e
  shown_within before after rows last e (run_done ticked whole stays) =
      record { shown = words_shown rows (are_words before.left after.left rows ticked.read); untrapped = λ h. omega (arith, h) }
  shown_within before after rows last e (run_bad rule line ticked bad stays) =
      record { shown = words_shown rows (are_words before.left after.left rows ticked.read); untrapped = λ h. omega (arith, h) }
  shown_within before after rows last e (run_fault ticked cut failed) =
      record { shown = words_shown rows (are_words before.left after.left rows ticked.read); untrapped = λ h. omega (arith, h) }
  shown_within before after rows last e (run_trapped row kind at read ended trapped stays) =
      absurd (not_all_ended (run_of image costs bound rows) kind at trapped.charged
      (subst AllEnded trapped.traps (words_ended (rows ++ row ∷ []) (are_words before.left after.left (rows ++ row ∷ []) read))))

-- counted inputs are words
digit_fits : (n : ℕ) → FitsSigned w32 (pos (n % 10))
digit_fits n = record { sfits = omega arith }

row_fits : (width n : ℕ) → AllByRecursion (FitsSigned w32) (replicate width (pos (n % 10)))
row_fits zero n = tt
row_fits (suc width) n = (digit_fits n, row_fits width n)

pub counted_are_words : (width tick count : ℕ) → AllByRecursion IsRow (counted_rows width tick count)
unfolding counted_rows
counted_are_words width tick zero = tt
counted_are_words width tick (suc count) = (row_fits width tick, counted_are_words width (tick + 1) count)

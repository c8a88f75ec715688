-- What the end of a machine's run tells of its source.
use Rattle.std.proofs.Common.{◌≡◌, ◌≢◌, ◌≤◌, ◌+◌, ℕ, ℤ, List, [], ◌∷◌, ◌++◌, length, refl, sym, length-append, arith}
use Rattle.pt_outside.specs.Counts.{Rose}
use Rattle.pt_trace.specs.Given.{HasRead}
use Rattle.pt_image.specs.declared.image.Parts.{Parts}
use Rattle.pretc_run.specs.declared.endings.Ending.{Ending}
use Rattle.pretc_run.specs.Endings.{number_of}
use Rattle.pretc_run.specs.Running.{RunEnds, run_done, run_bad, run_fault, run_trapped, IsNext, next_tick, next_last}
use Rattle.pretc_top.specs.Outside.{Outside}

module _ (old new : Outside) (image : Parts) (costs : List ℕ) (most : ℕ) (rows : List (List ℤ)) where
  pub run_rose : (last : List ℕ) (e : Ending) → RunEnds image costs most rows old.source new.source last e → number_of e ≡ 3 → Rose old.source.faults new.source.faults
  run_rose _ _ (run_fault ticked cut failed) n = failed.rose
  run_rose _ _ r n = absurd (omega (arith, n))

  pub run_kept : (last : List ℕ) (e : Ending) → RunEnds image costs most rows old.source new.source last e → number_of e ≢ 3 → new.source.faults ≡ old.source.faults
  run_kept _ _ (run_done ticked whole stays) n = stays
  run_kept _ _ (run_bad rule line ticked bad stays) n = stays
  run_kept _ _ (run_fault ticked cut failed) n = absurd (n refl)
  run_kept _ _ (run_trapped row kind at read ended trapped stays) n = stays

  pub run_later : (last : List ℕ) (e : Ending) → RunEnds image costs most rows old.source new.source last e → old.source.faults ≤ new.source.faults
  run_later _ _ (run_done ticked whole stays) = omega (arith, stays)
  run_later _ _ (run_bad rule line ticked bad stays) = omega (arith, stays)
  run_later _ _ (run_fault ticked cut failed) = failed.later
  run_later _ _ (run_trapped row kind at read ended trapped stays) = omega (arith, stays)

  pub run_other : (last : List ℕ) (e : Ending) (n : ℕ) → RunEnds image costs most rows old.source new.source last e → number_of e ≡ n → (n ≢ 0) → (n ≢ 3) → (n ≢ 7) → (n ≢ 10) → ⊥
  run_other _ _ n (run_done ticked whole stays) is a b c d = a (sym is)
  run_other _ _ n (run_bad rule line ticked bad stays) is a b c d = c (sym is)
  run_other _ _ n (run_fault ticked cut failed) is a b c d = b (sym is)
  run_other _ _ n (run_trapped row kind at read ended trapped stays) is a b c d = d (sym is)

  -- the rows that were read when the line behind those of these rows was due
  pub record Pulled : Type 0 where
    pub read : List (List ℤ)
    pub has_read : HasRead (length image.inputs) old.source.left new.source.left read
    pub one_more : length read ≤ length rows + 1
    pub later : old.source.faults ≤ new.source.faults

  no_more : HasRead (length image.inputs) old.source.left new.source.left rows → old.source.faults ≤ new.source.faults → Pulled
  no_more h l = record { read = rows; has_read = h; one_more = omega arith; later = l }

  more : (row : List ℤ) → HasRead (length image.inputs) old.source.left new.source.left (rows ++ row ∷ []) → old.source.faults ≤ new.source.faults → Pulled
  more row h l = record { read = rows ++ row ∷ []; has_read = h; one_more = omega (arith, length-append rows (row ∷ [])); later = l }

  pulled_last : (last : List ℕ) (e : Ending) → RunEnds image costs most rows old.source new.source last e → Pulled
  pulled_last _ _ (run_done ticked whole stays) = no_more ticked.read (omega (arith, stays))
  pulled_last _ _ (run_bad rule line ticked bad stays) = no_more ticked.read (omega (arith, stays))
  pulled_last _ _ (run_fault ticked cut failed) = no_more ticked.read failed.later
  pulled_last _ _ (run_trapped row kind at read ended trapped stays) = more row read (omega (arith, stays))

  pub pulled : (line : List ℕ) → IsNext image costs most rows old.source new.source line → Pulled
  pulled _ (next_tick row outputs cycles ticked tells stays) = more row ticked.read (omega (arith, stays))
  pulled _ (next_last e line ended) = pulled_last line e ended

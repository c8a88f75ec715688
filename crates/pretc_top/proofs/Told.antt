-- What a call comes to tells of its answer's cause, and of what stands after it.
use Rattle.std.proofs.Common.{◌≡◌, ◌≢◌, ◌≤◌, ◌+◌, inr, ℕ, ℤ, List, [], ◌∷◌, ◌++◌, length, Option, Some, refl, sym, subst, ◌∙◌, length-append, arith}
use Rattle.pt_outside.specs.Counts.{Rose}
use Rattle.pt_trace.specs.Given.{HasRead}
use Rattle.pt_image.specs.declared.image.Parts.{Parts}
use Rattle.mb_isa.specs.Costs.{unit}
use Rattle.pretc_run.specs.declared.endings.Ending.{Ending}
use Rattle.pretc_run.specs.Endings.{number_of}
use Rattle.pretc_run.specs.Writing.{Wrote, IsAnswered}
use Rattle.pretc_run.specs.Running.{RunEnds, run_bad, run_fault, run_trapped, IsTrapped}
use Rattle.pretc_top.specs.declared.commands.Command.{Command}
use Rattle.pretc_top.specs.declared.commands.Command.TheVariants.{Go, Mean, Exec}
use Rattle.pc_meaning.specs.Programs.{program_of}
use Rattle.pretc_run.specs.Meant.{width_of, meant_lines, MeanEnds, mean_done, mean_bad, mean_fault, mean_lacks, IsNextMeant, next_meant, next_end}
use Rattle.mb_pfu.specs.declared.TrapKind.{TrapKind}
use Rattle.mb_pfu.specs.declared.TrapKind.TheVariants.{BadAddress}
use Rattle.mb_isa.specs.Run.{Ticked, Trapped, run_of}
use Rattle.pretc_top.specs.Exec.{IsApproved, exec_lines, AllTrapSafely, ExecRan, ExecBroke, in_the_bound, behind_the_bound}
use Rattle.pretc_top.specs.Mean.{IsMeant, MeanRan, MeanBroke}
use Rattle.pretc_top.specs.Outside.{Outside}
use Rattle.pretc_top.specs.Loading.{IsAsBefore}
use Rattle.pretc_top.specs.Go.{cycles_most, go_lines, IsMade, GoRan, GoBroke}
use Rattle.pretc_top.specs.Comes.{go_ran, run_ran, exec_ran, mean_ran, go_broke, run_broke, exec_broke, mean_broke, Comes, ends, ran, broke}
use Rattle.pretc_top.specs.Causes.{Causes}
use Rattle.pretc_top.specs.Stands.{AfterReadFault, pull_failed, mean_pull_failed, exec_pull_failed, in_the_report, in_the_meaning, in_the_bound_line, behind_the_bound_line, AfterMemory, memory_at_a_tick, AfterBadTrace, go_bad_trace, mean_bad_trace, exec_bad_trace, AfterTrap, exec_trapped}
use Rattle.pretc_top.proofs.Answered.{source_same, failed, by_ends}
use Rattle.pretc_top.proofs.Runs.{run_rose, run_kept, run_later, run_other, pulled}
use Rattle.pretc_top.proofs.Carried.{by_run, by_broken_run}

module _ (program name : List ℕ) (old new : Outside) (image : Parts) (made : IsMade program name image old.shelf new.shelf) (rows : List (List ℤ)) where
  stopped_fault : (last : List ℕ) (e : Ending) → RunEnds image unit cycles_most rows old.source new.source last e → Wrote old.sink new.sink (go_lines image rows ++ last ∷ []) →
      number_of e ≡ 3 → AfterReadFault old new (Some (Go program name))
  stopped_fault _ _ (run_fault ticked cut failed) w n = pull_failed program name failed (record { image = image; made = made; rows = rows; trace = cut; wrote = w })
  stopped_fault _ _ r w n = absurd (omega (arith, n))

  stopped_bad : (last : List ℕ) (e : Ending) → RunEnds image unit cycles_most rows old.source new.source last e → Wrote old.sink new.sink (go_lines image rows ++ last ∷ []) →
      number_of e ≡ 7 → AfterBadTrace old new (Some (Go program name))
  stopped_bad _ _ (run_bad rule line ticked bad stays) w n =
      go_bad_trace program name rule line stays (record { image = image; made = made; rows = rows; trace = bad; wrote = w })
  stopped_bad _ _ r w n = absurd (omega (arith, n))

by_go : (program name : List ℕ) (old new : Outside) (due : List (List ℕ)) (e : Ending) (answer : ℕ) → GoRan program name old new due e →
    IsAnswered due (number_of e) old.sink new.sink answer → Causes (Some (Go program name)) old new answer
by_go program name old new due e answer g h =
    let is : (n : ℕ) → answer ≡ n → number_of e ≡ n = λ n a. sym h.answer_is ∙ a in
    let other : (n : ℕ) → answer ≡ n → n ≢ 0 → n ≢ 3 → n ≢ 7 → ⊥ = λ n a zero three seven.
    run_other old new g.image unit cycles_most g.rows g.last e n g.ends (is n a) zero three seven (λ ten. g.untrapped (is n a ∙ ten)) in
    let P : List (List ℕ) → Type 0 = λ lines. Wrote old.sink new.sink lines in
    let wrote = subst P g.due_is h.wrote in
    let pushes : new.sink.faults ≡ old.sink.faults = h.wrote.faults in
    let loads : new.shelf.load_faults ≡ old.shelf.load_faults = g.made.stored.load_faults in
    let stores : new.shelf.store_faults ≡ old.shelf.store_faults = g.made.stored.store_faults in
    record {
      bound = λ a. tt;
      refused = λ a. absurd (other 1 a (λ n. omega (arith, n)) (λ n. omega (arith, n)) (λ n. omega (arith, n)));
      usage = λ a. absurd (other 2 a (λ n. omega (arith, n)) (λ n. omega (arith, n)) (λ n. omega (arith, n)));
      usage_comes = λ n. absurd (cc);
      read_fault = λ a. inr (run_rose old new g.image unit cycles_most g.rows g.last e g.ends (is 3 a));
      after_read_fault = λ a. stopped_fault program name old new g.image g.made g.rows g.last e g.ends wrote (is 3 a);
      write_fault = λ a. absurd (other 4 a (λ n. omega (arith, n)) (λ n. omega (arith, n)) (λ n. omega (arith, n)));
      after_write_fault = λ a. absurd (other 4 a (λ n. omega (arith, n)) (λ n. omega (arith, n)) (λ n. omega (arith, n)));
      after_memory = λ a. absurd (other 5 a (λ n. omega (arith, n)) (λ n. omega (arith, n)) (λ n. omega (arith, n)));
      bad_costs = λ a. absurd (other 6 a (λ n. omega (arith, n)) (λ n. omega (arith, n)) (λ n. omega (arith, n)));
      bad_trace = λ a. stopped_bad program name old new g.image g.made g.rows g.last e g.ends wrote (is 7 a);
      after_trap = λ a. absurd (g.untrapped (is 10 a));
      store_fault = λ a. absurd (other 11 a (λ n. omega (arith, n)) (λ n. omega (arith, n)) (λ n. omega (arith, n)));
      after_store_fault = λ a. absurd (other 11 a (λ n. omega (arith, n)) (λ n. omega (arith, n)) (λ n. omega (arith, n)));
      no_file = λ a. absurd (other 17 a (λ n. omega (arith, n)) (λ n. omega (arith, n)) (λ n. omega (arith, n)));
      sent = λ a. record { lines = due; wrote = h.wrote; sent = h.sent };
      load_kept = λ three four. loads;
      pull_kept = λ three four. run_kept old new g.image unit cycles_most g.rows g.last e g.ends (λ n. three (h.answer_is ∙ n));
      store_kept = λ eleven four. stores;
      later = record {
        load_faults = omega (arith, loads);
        store_faults = omega (arith, stores);
        source_faults = run_later old new g.image unit cycles_most g.rows g.last e g.ends;
        sink_faults = omega (arith, pushes);
      };
    }

by_broken_go : (program name : List ℕ) (old new : Outside) (answer : ℕ) → answer ≡ 4 → GoBroke program name old new → Causes (Some (Go program name)) old new answer
by_broken_go program name old new answer is g =
    let p = pulled old new g.image unit cycles_most g.breaks.rows g.breaks.next g.breaks.is_next in
    let loads : new.shelf.load_faults ≡ old.shelf.load_faults = g.made.stored.load_faults in
    let stores : new.shelf.store_faults ≡ old.shelf.store_faults = g.made.stored.store_faults in
    failed old new (Some (Go program name)) answer is g.breaks.broke.rose
    (in_the_report program name (record {
      image = g.image;
      made = g.made;
      rows = g.breaks.rows;
      next = g.breaks.next;
      broke = g.breaks.broke;
      read = p.read;
      has_read = p.has_read;
      one_more = p.one_more;
    }))
    (record { load_faults = omega (arith, loads); store_faults = omega (arith, stores); source_faults = p.later; sink_faults = g.breaks.broke.later })

-- ---- a meaning

module _ (program : List ℕ) (old new : Outside) (meant : IsMeant program old new) (rows : List (List ℤ)) where
  meant_fault : (last : List ℕ) (e : Ending) → MeanEnds (program_of meant.typing) rows old.source new.source last e →
      Wrote old.sink new.sink (meant_lines (program_of meant.typing) rows ++ last ∷ []) → number_of e ≡ 3 → AfterReadFault old new (Some (Mean program))
  meant_fault _ _ (mean_fault read cut failed) w n = mean_pull_failed program failed (record { meant = meant; rows = rows; trace = cut; wrote = w })
  meant_fault _ _ r w n = absurd (omega (arith, n))

  meant_bad : (last : List ℕ) (e : Ending) → MeanEnds (program_of meant.typing) rows old.source new.source last e →
      Wrote old.sink new.sink (meant_lines (program_of meant.typing) rows ++ last ∷ []) → number_of e ≡ 7 → AfterBadTrace old new (Some (Mean program))
  meant_bad _ _ (mean_bad rule line read bad stays) w n = mean_bad_trace program rule line stays (record { meant = meant; rows = rows; trace = bad; wrote = w })
  meant_bad _ _ r w n = absurd (omega (arith, n))

  meant_memory : (last : List ℕ) (e : Ending) → MeanEnds (program_of meant.typing) rows old.source new.source last e →
      Wrote old.sink new.sink (meant_lines (program_of meant.typing) rows ++ last ∷ []) → number_of e ≡ 5 → AfterMemory old new (Some (Mean program))
  meant_memory _ _ (mean_lacks row read stays) w n = memory_at_a_tick program row stays (record { meant = meant; rows = rows; trace = read; wrote = w })
  meant_memory _ _ r w n = absurd (omega (arith, n))

  meant_rose : (last : List ℕ) (e : Ending) → MeanEnds (program_of meant.typing) rows old.source new.source last e → number_of e ≡ 3 → Rose old.source.faults new.source.faults
  meant_rose _ _ (mean_fault read cut failed) n = failed.rose
  meant_rose _ _ r n = absurd (omega (arith, n))

  meant_kept : (last : List ℕ) (e : Ending) → MeanEnds (program_of meant.typing) rows old.source new.source last e → number_of e ≢ 3 → new.source.faults ≡ old.source.faults
  meant_kept _ _ (mean_done read whole stays) n = stays
  meant_kept _ _ (mean_bad rule line read bad stays) n = stays
  meant_kept _ _ (mean_fault read cut failed) n = absurd (n refl)
  meant_kept _ _ (mean_lacks row read stays) n = stays

  meant_later : (last : List ℕ) (e : Ending) → MeanEnds (program_of meant.typing) rows old.source new.source last e → old.source.faults ≤ new.source.faults
  meant_later _ _ (mean_done read whole stays) = omega (arith, stays)
  meant_later _ _ (mean_bad rule line read bad stays) = omega (arith, stays)
  meant_later _ _ (mean_fault read cut failed) = failed.later
  meant_later _ _ (mean_lacks row read stays) = omega (arith, stays)

  meant_other : (last : List ℕ) (e : Ending) (n : ℕ) → MeanEnds (program_of meant.typing) rows old.source new.source last e → number_of e ≡ n → (n ≢ 0) → (n ≢ 3) → (n ≢ 5) → (n ≢ 7) → ⊥
  meant_other _ _ n (mean_done read whole stays) is a b c d = a (sym is)
  meant_other _ _ n (mean_bad rule line read bad stays) is a b c d = d (sym is)
  meant_other _ _ n (mean_fault read cut failed) is a b c d = b (sym is)
  meant_other _ _ n (mean_lacks row read stays) is a b c d = c (sym is)

  -- the rows that were read when the line behind those of these rows was due
  record MeantPulled : Type 0 where
    pub read : List (List ℤ)
    pub has_read : HasRead (width_of (program_of meant.typing)) old.source.left new.source.left read
    pub one_more : length read ≤ length rows + 1
    pub later : old.source.faults ≤ new.source.faults

  meant_same : HasRead (width_of (program_of meant.typing)) old.source.left new.source.left rows → old.source.faults ≤ new.source.faults → MeantPulled
  meant_same h l = record { read = rows; has_read = h; one_more = omega arith; later = l }

  meant_more : (row : List ℤ) → HasRead (width_of (program_of meant.typing)) old.source.left new.source.left (rows ++ row ∷ []) → old.source.faults ≤ new.source.faults → MeantPulled
  meant_more row h l = record { read = rows ++ row ∷ []; has_read = h; one_more = omega (arith, length-append rows (row ∷ [])); later = l }

  meant_last : (last : List ℕ) (e : Ending) → MeanEnds (program_of meant.typing) rows old.source new.source last e → MeantPulled
  meant_last _ _ (mean_done read whole stays) = meant_same read (omega (arith, stays))
  meant_last _ _ (mean_bad rule line read bad stays) = meant_same read (omega (arith, stays))
  meant_last _ _ (mean_fault read cut failed) = meant_same read failed.later
  meant_last _ _ (mean_lacks row read stays) = meant_more row read (omega (arith, stays))

  meant_pulled : (line : List ℕ) → IsNextMeant (program_of meant.typing) rows old.source new.source line → MeantPulled
  meant_pulled _ (next_meant row outputs read means stays) = meant_more row read (omega (arith, stays))
  meant_pulled _ (next_end e line ended) = meant_last line e ended

by_mean : (program : List ℕ) (old new : Outside) (due : List (List ℕ)) (e : Ending) (answer : ℕ) → MeanRan program old new due e →
    IsAnswered due (number_of e) old.sink new.sink answer → Causes (Some (Mean program)) old new answer
by_mean program old new due e answer g h =
    let is : (n : ℕ) → answer ≡ n → number_of e ≡ n = λ n a. sym h.answer_is ∙ a in
    let other : (n : ℕ) → answer ≡ n → n ≢ 0 → n ≢ 3 → n ≢ 5 → n ≢ 7 → ⊥ = λ n a zero three five seven.
    meant_other program old new g.meant g.rows g.last e n g.ends (is n a) zero three five seven in
    let P : List (List ℕ) → Type 0 = λ lines. Wrote old.sink new.sink lines in
    let wrote = subst P g.due_is h.wrote in
    let pushes : new.sink.faults ≡ old.sink.faults = h.wrote.faults in
    let loads : new.shelf.load_faults ≡ old.shelf.load_faults = g.meant.kept.load_faults in
    let stores : new.shelf.store_faults ≡ old.shelf.store_faults = g.meant.kept.store_faults in
    record {
      bound = λ a. tt;
      refused = λ a. absurd (other 1 a (λ n. omega (arith, n)) (λ n. omega (arith, n)) (λ n. omega (arith, n)) (λ n. omega (arith, n)));
      usage = λ a. absurd (other 2 a (λ n. omega (arith, n)) (λ n. omega (arith, n)) (λ n. omega (arith, n)) (λ n. omega (arith, n)));
      usage_comes = λ n. absurd (cc);
      read_fault = λ a. inr (meant_rose program old new g.meant g.rows g.last e g.ends (is 3 a));
      after_read_fault = λ a. meant_fault program old new g.meant g.rows g.last e g.ends wrote (is 3 a);
      write_fault = λ a. absurd (other 4 a (λ n. omega (arith, n)) (λ n. omega (arith, n)) (λ n. omega (arith, n)) (λ n. omega (arith, n)));
      after_write_fault = λ a. absurd (other 4 a (λ n. omega (arith, n)) (λ n. omega (arith, n)) (λ n. omega (arith, n)) (λ n. omega (arith, n)));
      after_memory = λ a. meant_memory program old new g.meant g.rows g.last e g.ends wrote (is 5 a);
      bad_costs = λ a. absurd (other 6 a (λ n. omega (arith, n)) (λ n. omega (arith, n)) (λ n. omega (arith, n)) (λ n. omega (arith, n)));
      bad_trace = λ a. meant_bad program old new g.meant g.rows g.last e g.ends wrote (is 7 a);
      after_trap = λ a. absurd (other 10 a (λ n. omega (arith, n)) (λ n. omega (arith, n)) (λ n. omega (arith, n)) (λ n. omega (arith, n)));
      store_fault = λ a. absurd (other 11 a (λ n. omega (arith, n)) (λ n. omega (arith, n)) (λ n. omega (arith, n)) (λ n. omega (arith, n)));
      after_store_fault = λ a. absurd (other 11 a (λ n. omega (arith, n)) (λ n. omega (arith, n)) (λ n. omega (arith, n)) (λ n. omega (arith, n)));
      no_file = λ a. absurd (other 17 a (λ n. omega (arith, n)) (λ n. omega (arith, n)) (λ n. omega (arith, n)) (λ n. omega (arith, n)));
      sent = λ a. record { lines = due; wrote = h.wrote; sent = h.sent };
      load_kept = λ three four. loads;
      pull_kept = λ three four. meant_kept program old new g.meant g.rows g.last e g.ends (λ n. three (h.answer_is ∙ n));
      store_kept = λ eleven four. stores;
      later = record {
        load_faults = omega (arith, loads);
        store_faults = omega (arith, stores);
        source_faults = meant_later program old new g.meant g.rows g.last e g.ends;
        sink_faults = omega (arith, pushes);
      };
    }

by_broken_mean : (program : List ℕ) (old new : Outside) (answer : ℕ) → answer ≡ 4 → MeanBroke program old new → Causes (Some (Mean program)) old new answer
by_broken_mean program old new answer is g =
    let p = meant_pulled program old new g.meant g.breaks.rows g.breaks.next g.breaks.is_next in
    let loads : new.shelf.load_faults ≡ old.shelf.load_faults = g.meant.kept.load_faults in
    let stores : new.shelf.store_faults ≡ old.shelf.store_faults = g.meant.kept.store_faults in
    failed old new (Some (Mean program)) answer is g.breaks.broke.rose
    (in_the_meaning program (record {
      meant = g.meant;
      rows = g.breaks.rows;
      next = g.breaks.next;
      broke = g.breaks.broke;
      read = p.read;
      has_read = p.has_read;
      one_more = p.one_more;
    }))
    (record { load_faults = omega (arith, loads); store_faults = omega (arith, stores); source_faults = p.later; sink_faults = g.breaks.broke.later })

-- ---- a run under a bound

last_is_safe : (os : List Ticked) (kind : TrapKind) (at charged : ℕ) → AllTrapSafely (os ++ Trapped kind at charged ∷ []) → kind ≡ BadAddress
last_is_safe [] kind at charged h = h.0
last_is_safe (o ∷ os) kind at charged h = last_is_safe os kind at charged h.1

module _ (image cert costs : List ℕ) (old new : Outside) (i : Parts) (c : List ℕ) (b : ℕ) (ok : IsApproved image cert costs old.shelf new.shelf i c b) (rows : List (List ℤ)) where
  exec_fault : (last : List ℕ) (e : Ending) → RunEnds i c b rows old.source new.source last e → Wrote old.sink new.sink (exec_lines i c b rows ++ last ∷ []) →
      number_of e ≡ 3 → AfterReadFault old new (Some (Exec image cert costs))
  exec_fault _ _ (run_fault ticked cut failed) w n =
      exec_pull_failed image cert costs failed (record { image_read = i; costs_read = c; bound = b; approved = ok; rows = rows; trace = cut; wrote = w })
  exec_fault _ _ r w n = absurd (omega (arith, n))

  exec_bad : (last : List ℕ) (e : Ending) → RunEnds i c b rows old.source new.source last e → Wrote old.sink new.sink (exec_lines i c b rows ++ last ∷ []) →
      number_of e ≡ 7 → AfterBadTrace old new (Some (Exec image cert costs))
  exec_bad _ _ (run_bad rule line ticked bad stays) w n =
      exec_bad_trace image cert costs rule line stays (record { image_read = i; costs_read = c; bound = b; approved = ok; rows = rows; trace = bad; wrote = w })
  exec_bad _ _ r w n = absurd (omega (arith, n))

  exec_trap : (last : List ℕ) (e : Ending) → RunEnds i c b rows old.source new.source last e → Wrote old.sink new.sink (exec_lines i c b rows ++ last ∷ []) →
      number_of e ≡ 10 → ((more : List (List ℤ)) → AllTrapSafely (run_of i c b more)) → AfterTrap old new (Some (Exec image cert costs))
  exec_trap _ _ (run_trapped row kind at read ended trapped stays) w n safe =
      let is : kind ≡ BadAddress = last_is_safe (run_of i c b rows) kind at trapped.charged (subst AllTrapSafely trapped.traps (safe (rows ++ row ∷ []))) in
      let P : TrapKind → Type 0 = λ k. IsTrapped i c b rows row k at in
      exec_trapped image cert costs row at (length rows) stays
      (record { image_read = i; costs_read = c; bound = b; approved = ok; rows = rows; trace = (refl, subst P is trapped); wrote = w })
  exec_trap _ _ r w n safe = absurd (omega (arith, n))

-- the shelf's counts after the files of an accepted image were loaded
approved_kept : (image cert costs : List ℕ) (old new : Outside) (i : Parts) (c : List ℕ) (b : ℕ) → IsApproved image cert costs old.shelf new.shelf i c b → IsAsBefore old.shelf new.shelf
approved_kept image cert costs old new i c b ok = ok.loaded.kept

by_exec : (image cert costs : List ℕ) (old new : Outside) (due : List (List ℕ)) (e : Ending) (answer : ℕ) → ExecRan image cert costs old new due e →
    IsAnswered due (number_of e) old.sink new.sink answer → Causes (Some (Exec image cert costs)) old new answer
by_exec image cert costs old new due e answer g h =
    let is : (n : ℕ) → answer ≡ n → number_of e ≡ n = λ n a. sym h.answer_is ∙ a in
    let other : (n : ℕ) → answer ≡ n → n ≢ 0 → n ≢ 3 → n ≢ 7 → n ≢ 10 → ⊥ = λ n a zero three seven ten.
    run_other old new g.image_read g.costs_read g.bound g.rows g.last e n g.ends (is n a) zero three seven ten in
    let P : List (List ℕ) → Type 0 = λ lines. Wrote old.sink new.sink lines in
    let wrote = subst P g.due_is h.wrote in
    let kept = approved_kept image cert costs old new g.image_read g.costs_read g.bound g.approved in
    let pushes : new.sink.faults ≡ old.sink.faults = h.wrote.faults in
    let loads : new.shelf.load_faults ≡ old.shelf.load_faults = kept.load_faults in
    let stores : new.shelf.store_faults ≡ old.shelf.store_faults = kept.store_faults in
    record {
      bound = λ a. tt;
      refused = λ a. absurd (other 1 a (λ n. omega (arith, n)) (λ n. omega (arith, n)) (λ n. omega (arith, n)) (λ n. omega (arith, n)));
      usage = λ a. absurd (other 2 a (λ n. omega (arith, n)) (λ n. omega (arith, n)) (λ n. omega (arith, n)) (λ n. omega (arith, n)));
      usage_comes = λ n. absurd (cc);
      read_fault = λ a. inr (run_rose old new g.image_read g.costs_read g.bound g.rows g.last e g.ends (is 3 a));
      after_read_fault = λ a. exec_fault image cert costs old new g.image_read g.costs_read g.bound g.approved g.rows g.last e g.ends wrote (is 3 a);
      write_fault = λ a. absurd (other 4 a (λ n. omega (arith, n)) (λ n. omega (arith, n)) (λ n. omega (arith, n)) (λ n. omega (arith, n)));
      after_write_fault = λ a. absurd (other 4 a (λ n. omega (arith, n)) (λ n. omega (arith, n)) (λ n. omega (arith, n)) (λ n. omega (arith, n)));
      after_memory = λ a. absurd (other 5 a (λ n. omega (arith, n)) (λ n. omega (arith, n)) (λ n. omega (arith, n)) (λ n. omega (arith, n)));
      bad_costs = λ a. absurd (other 6 a (λ n. omega (arith, n)) (λ n. omega (arith, n)) (λ n. omega (arith, n)) (λ n. omega (arith, n)));
      bad_trace = λ a. exec_bad image cert costs old new g.image_read g.costs_read g.bound g.approved g.rows g.last e g.ends wrote (is 7 a);
      after_trap = λ a. exec_trap image cert costs old new g.image_read g.costs_read g.bound g.approved g.rows g.last e g.ends wrote (is 10 a) g.safe;
      store_fault = λ a. absurd (other 11 a (λ n. omega (arith, n)) (λ n. omega (arith, n)) (λ n. omega (arith, n)) (λ n. omega (arith, n)));
      after_store_fault = λ a. absurd (other 11 a (λ n. omega (arith, n)) (λ n. omega (arith, n)) (λ n. omega (arith, n)) (λ n. omega (arith, n)));
      no_file = λ a. absurd (other 17 a (λ n. omega (arith, n)) (λ n. omega (arith, n)) (λ n. omega (arith, n)) (λ n. omega (arith, n)));
      sent = λ a. record { lines = due; wrote = h.wrote; sent = h.sent };
      load_kept = λ three four. loads;
      pull_kept = λ three four. run_kept old new g.image_read g.costs_read g.bound g.rows g.last e g.ends (λ n. three (h.answer_is ∙ n));
      store_kept = λ eleven four. stores;
      later = record {
        load_faults = omega (arith, loads);
        store_faults = omega (arith, stores);
        source_faults = run_later old new g.image_read g.costs_read g.bound g.rows g.last e g.ends;
        sink_faults = omega (arith, pushes);
      };
    }

by_broken_exec : (image cert costs : List ℕ) (old new : Outside) (answer : ℕ) → answer ≡ 4 → ExecBroke image cert costs old new → Causes (Some (Exec image cert costs)) old new answer
by_broken_exec image cert costs old new answer is (in_the_bound i c b ok s cut) =
    let kept = approved_kept image cert costs old new i c b ok in
    let pulls : new.source.faults ≡ old.source.faults = source_same old new s in
    let loads : new.shelf.load_faults ≡ old.shelf.load_faults = kept.load_faults in
    let stores : new.shelf.store_faults ≡ old.shelf.store_faults = kept.store_faults in
    failed old new (Some (Exec image cert costs)) answer is cut.rose (in_the_bound_line image cert costs s (in_the_bound i c b ok s cut))
    (record { load_faults = omega (arith, loads); store_faults = omega (arith, stores); source_faults = omega (arith, pulls); sink_faults = cut.later })
by_broken_exec image cert costs old new answer is (behind_the_bound g) =
    let p = pulled old new g.image_read g.costs_read g.bound g.rows g.next g.is_next in
    let kept = approved_kept image cert costs old new g.image_read g.costs_read g.bound g.approved in
    let loads : new.shelf.load_faults ≡ old.shelf.load_faults = kept.load_faults in
    let stores : new.shelf.store_faults ≡ old.shelf.store_faults = kept.store_faults in
    failed old new (Some (Exec image cert costs)) answer is g.broke.rose (behind_the_bound_line image cert costs g p.read p.has_read p.one_more)
    (record { load_faults = omega (arith, loads); store_faults = omega (arith, stores); source_faults = p.later; sink_faults = g.broke.later })

pub causes : (command : Option (Command (List ℕ))) (old new : Outside) (answer : ℕ) → Comes command old new answer → Causes command old new answer
causes command old new answer (ends due e en s h) = by_ends old new command due e answer en s h
causes _ old new answer (ran _ _ (go_ran program name due e g) h) = by_go program name old new due e answer g h
causes _ old new answer (broke is (go_broke program name g)) = by_broken_go program name old new answer is g
causes _ old new answer (ran _ _ (run_ran program costs image cert due e g) h) = by_run program costs image cert old new due e answer g h
causes _ old new answer (broke is (run_broke program costs image cert g)) = by_broken_run program costs image cert old new answer is g
causes _ old new answer (ran _ _ (mean_ran program due e g) h) = by_mean program old new due e answer g h
causes _ old new answer (broke is (mean_broke program g)) = by_broken_mean program old new answer is g
causes _ old new answer (ran _ _ (exec_ran image cert costs due e g) h) = by_exec image cert costs old new due e answer g h
causes _ old new answer (broke is (exec_broke image cert costs g)) = by_broken_exec image cert costs old new answer is g

-- What an ending without a run tells of its cause and of what stands after it, by the number that is answered.
use Rattle.std.proofs.Common.{◌≡◌, ◌≢◌, ◌≤◌, inl, inr, ℕ, List, Option, None, refl, sym, ap, subst, ◌∙◌, arith}
use Rattle.pt_outside.specs.Counts.{Rose}
use Rattle.pt_outside.specs.Told.{ShelfTold, SourceTold}
use Rattle.pretc_run.specs.declared.endings.Ending.{Ending}
use Rattle.pretc_run.specs.declared.endings.Ending.TheVariants.{Done}
use Rattle.pretc_run.specs.Endings.{number_of}
use Rattle.pretc_run.specs.Writing.{Wrote, IsAnswered, Answers, answered, broke_off}
use Rattle.pretc_top.specs.declared.commands.Command.{Command}
use Rattle.pretc_top.specs.Outside.{Outside, IsLater}
use Rattle.pretc_top.specs.Loading.{IsAsBefore}
use Rattle.pretc_top.specs.Comes.{Ends, no_command, go_ends, run_ends, check_ends, print_ends, rules_ends, mean_ends, exec_ends, gen_ends, job_ends}
use Rattle.pretc_top.specs.Causes.{BoundHolds, CostsRefused, IsRefusedBy, LacksFile, Causes}
use Rattle.pretc_top.specs.Stands.{AfterReadFault, load_failed, AfterWriteFault, before_the_trace, AfterMemory, memory_before, memory_stored, memory_half_stored, memory_both_stored, AfterStoreFault, go_store_failed, run_image_store_failed, run_cert_store_failed}
use Rattle.pretc_top.proofs.Causing.{Cause, by_done, by_refusal, by_usage, by_load, by_memory, by_stored, by_half, by_both, by_image, by_cert, by_costs, by_cost, by_demand, by_store, by_first_store, by_second_store, by_absence, cause}

module _ (old new : Outside) where
  -- the shelf's counts
  pub record ShelfCounts (n : ℕ) : Type 0 where
    pub load_later : old.shelf.load_faults ≤ new.shelf.load_faults
    pub store_later : old.shelf.store_faults ≤ new.shelf.store_faults
    pub load_kept : n ≢ 3 → new.shelf.load_faults ≡ old.shelf.load_faults
    pub store_kept : n ≢ 11 → new.shelf.store_faults ≡ old.shelf.store_faults

  same : (n : ℕ) → new.shelf.load_faults ≡ old.shelf.load_faults → new.shelf.store_faults ≡ old.shelf.store_faults → ShelfCounts n
  same n l s = record { load_later = omega (arith, l); store_later = omega (arith, s); load_kept = λ h. l; store_kept = λ h. s }

  kept : (n : ℕ) → IsAsBefore old.shelf new.shelf → ShelfCounts n
  kept n k = same n k.load_faults k.store_faults

  pub shelf_counts : (command : Option (Command (List ℕ))) (due : List (List ℕ)) (e : Ending) → Cause old new command due e → ShelfCounts (number_of e)
  shelf_counts _ _ _ (by_done command due h k) = kept 0 k
  shelf_counts _ _ _ (by_refusal command rule span r k) = kept 1 k
  shelf_counts _ _ _ (by_usage s) = same 2 (ap (λ (t : ShelfTold). t.load_faults) s) (ap (λ (t : ShelfTold). t.store_faults) s)
  shelf_counts _ _ _ (by_load command f) = record { load_later = f.later; store_later = omega (arith, f.store_faults); load_kept = λ h. absurd (h refl); store_kept = λ h. f.store_faults }
  shelf_counts _ _ _ (by_memory command k) = kept 5 k
  shelf_counts _ _ _ (by_stored program name image m) = same 5 m.stored.load_faults m.stored.store_faults
  shelf_counts _ _ _ (by_half program costs name other image cert priced a s) = same 5 s.load_faults s.store_faults
  shelf_counts _ _ _ (by_both program costs name other image cert priced a k) =
      same 5 (k.cert_stored.load_faults ∙ k.image_stored.load_faults) (k.cert_stored.store_faults ∙ k.image_stored.store_faults)
  shelf_counts _ _ _ (by_first_store program costs name other image cert priced a f) =
      record { load_later = omega (arith, f.load_faults); store_later = f.later; load_kept = λ h. f.load_faults; store_kept = λ h. absurd (h refl) }
  shelf_counts _ _ _ (by_second_store program costs name other image cert priced between a s f) =
      let loads : new.shelf.load_faults ≡ old.shelf.load_faults = f.load_faults ∙ s.load_faults in
      record { load_later = omega (arith, loads); store_later = omega (arith, s.store_faults, f.later); load_kept = λ h. loads; store_kept = λ h. absurd (h refl) }
  shelf_counts _ _ _ (by_image command due number k) = kept 8 k
  shelf_counts _ _ _ (by_cert command due number k) = kept 8 k
  shelf_counts _ _ _ (by_costs command due rule r k) = kept 6 k
  shelf_counts _ _ _ (by_cost command due rule class r k) = kept 6 k
  shelf_counts _ _ _ (by_demand command due d k) = kept 9 k
  shelf_counts _ _ _ (by_store program name image b f) = record { load_later = omega (arith, f.load_faults); store_later = f.later; load_kept = λ h. f.load_faults; store_kept = λ h. absurd (h refl) }
  shelf_counts _ _ _ (by_absence command l k) = kept 17 k

  bound_by : (command : Option (Command (List ℕ))) (due : List (List ℕ)) (e : Ending) → number_of e ≡ 0 → Cause old new command due e → BoundHolds old.shelf.files command
  bound_by _ _ _ n (by_done command due h k) = h
  bound_by _ _ _ n c = absurd (omega (arith, n))

  refused_by : (command : Option (Command (List ℕ))) (due : List (List ℕ)) (e : Ending) → number_of e ≡ 1 → Cause old new command due e → IsRefusedBy old.shelf.files command
  refused_by _ _ _ n (by_refusal command rule span r k) = r
  refused_by _ _ _ n c = absurd (omega (arith, n))

  costs_by : (command : Option (Command (List ℕ))) (due : List (List ℕ)) (e : Ending) → number_of e ≡ 6 → Cause old new command due e → CostsRefused old.shelf.files command
  costs_by _ _ _ n (by_costs command due rule r k) = r
  costs_by _ _ _ n (by_cost command due rule class r k) = r
  costs_by _ _ _ n c = absurd (omega (arith, n))

  usage_by : (command : Option (Command (List ℕ))) (due : List (List ℕ)) (e : Ending) → number_of e ≡ 2 → Cause old new command due e → command ≡ None
  usage_by _ _ _ n (by_usage s) = refl
  usage_by _ _ _ n c = absurd (omega (arith, n))

  lacks_by : (command : Option (Command (List ℕ))) (due : List (List ℕ)) (e : Ending) → number_of e ≡ 17 → Cause old new command due e → LacksFile old.shelf.files command
  lacks_by _ _ _ n (by_absence command l k) = l
  lacks_by _ _ _ n c = absurd (omega (arith, n))

  load_by : (command : Option (Command (List ℕ))) (due : List (List ℕ)) (e : Ending) → number_of e ≡ 3 → Cause old new command due e →
      new.source ≡ old.source → Wrote old.sink new.sink due → AfterReadFault old new command
  load_by _ _ _ n (by_load command f) s w = load_failed command f (record { wrote = w; source = s })
  load_by _ _ _ n c s w = absurd (omega (arith, n))

  memory_by : (command : Option (Command (List ℕ))) (due : List (List ℕ)) (e : Ending) → number_of e ≡ 5 → Cause old new command due e →
      new.source ≡ old.source → Wrote old.sink new.sink due → AfterMemory old new command
  memory_by _ _ _ n (by_memory command k) s w = memory_before command k (record { wrote = w; source = s })
  memory_by _ _ _ n (by_stored program name image m) s w = memory_stored program name image m (record { wrote = w; source = s })
  memory_by _ _ _ n (by_half program costs name other image cert priced a k) s w =
      memory_half_stored program costs name other image cert priced a k (record { wrote = w; source = s })
  memory_by _ _ _ n (by_both program costs name other image cert priced a k) s w =
      memory_both_stored program costs name other image cert priced a k (record { wrote = w; source = s })
  memory_by _ _ _ n c s w = absurd (omega (arith, n))

  store_by : (command : Option (Command (List ℕ))) (due : List (List ℕ)) (e : Ending) → number_of e ≡ 11 → Cause old new command due e →
      new.source ≡ old.source → Wrote old.sink new.sink due → AfterStoreFault old new command
  store_by _ _ _ n (by_store program name image b f) s w = go_store_failed program name image b f (record { wrote = w; source = s })
  store_by _ _ _ n (by_first_store program costs name other image cert priced a f) s w =
      run_image_store_failed program costs name other image cert priced a f (record { wrote = w; source = s })
  store_by _ _ _ n (by_second_store program costs name other image cert priced between a k f) s w =
      run_cert_store_failed program costs name other image cert priced between a k f (record { wrote = w; source = s })
  store_by _ _ _ n c s w = absurd (omega (arith, n))

  no_seven : (command : Option (Command (List ℕ))) (due : List (List ℕ)) (e : Ending) → Cause old new command due e → number_of e ≢ 7
  no_seven _ _ _ (by_usage s) n = absurd (omega (arith, n))
  no_seven _ _ _ c n = absurd (omega (arith, n))

  no_ten : (command : Option (Command (List ℕ))) (due : List (List ℕ)) (e : Ending) → Cause old new command due e → number_of e ≢ 10
  no_ten _ _ _ (by_usage s) n = absurd (omega (arith, n))
  no_ten _ _ _ c n = absurd (omega (arith, n))

  rose_by : (command : Option (Command (List ℕ))) (due : List (List ℕ)) (e : Ending) → number_of e ≡ 3 → Cause old new command due e →
      Rose old.shelf.load_faults new.shelf.load_faults
  rose_by _ _ _ n (by_load command f) = f.rose
  rose_by _ _ _ n c = absurd (omega (arith, n))

  store_rose_by : (command : Option (Command (List ℕ))) (due : List (List ℕ)) (e : Ending) → number_of e ≡ 11 → Cause old new command due e →
      Rose old.shelf.store_faults new.shelf.store_faults
  store_rose_by _ _ _ n (by_store program name image b f) = f.rose
  store_rose_by _ _ _ n (by_first_store program costs name other image cert priced a f) = f.rose
  store_rose_by _ _ _ n (by_second_store program costs name other image cert priced between a k f) =
      let P : ℕ → Type 0 = λ count. Rose count new.shelf.store_faults in
      subst P k.store_faults f.rose
  store_rose_by _ _ _ n c = absurd (omega (arith, n))

  none_is_usage : (command : Option (Command (List ℕ))) (due : List (List ℕ)) (e : Ending) → Ends old new command due e → command ≡ None → number_of e ≡ 2
  none_is_usage _ _ _ (no_command s) n = refl
  none_is_usage _ _ _ (go_ends program image e f) n = absurd (cc)
  none_is_usage _ _ _ (run_ends program costs image cert e f) n = absurd (cc)
  none_is_usage _ _ _ (job_ends m due e s f) n = absurd (cc)
  none_is_usage _ _ _ (check_ends image cert costs due e f) n = absurd (cc)
  none_is_usage _ _ _ (print_ends program due e f) n = absurd (cc)
  none_is_usage _ _ _ (rules_ends program due e f) n = absurd (cc)
  none_is_usage _ _ _ (mean_ends program e f) n = absurd (cc)
  none_is_usage _ _ _ (exec_ends image cert costs e f) n = absurd (cc)
  none_is_usage _ _ _ (gen_ends m due e s f) n = absurd (cc)

  never_four : (e : Ending) → number_of e ≢ 4
  never_four Done n = absurd (omega (arith, n))
  never_four e n = absurd (omega (arith, n))

  pub source_same : new.source ≡ old.source → new.source.faults ≡ old.source.faults
  source_same s = ap (λ (t : SourceTold). t.faults) s

  -- the lines are written and sent
  all_sent : (command : Option (Command (List ℕ))) (due : List (List ℕ)) (e : Ending) (answer : ℕ) → Ends old new command due e → new.source ≡ old.source →
      IsAnswered due (number_of e) old.sink new.sink answer → Causes command old new answer
  all_sent command due e answer en s h =
      let c = cause old new command due e en in
      let is : (n : ℕ) → answer ≡ n → number_of e ≡ n = λ n a. sym h.answer_is ∙ a in
      let counts = shelf_counts command due e c in
      let pulls : new.source.faults ≡ old.source.faults = source_same s in
      let pushes : new.sink.faults ≡ old.sink.faults = h.wrote.faults in
      record {
        bound = λ a. bound_by command due e (is 0 a) c;
        refused = λ a. refused_by command due e (is 1 a) c;
        usage = λ a. usage_by command due e (is 2 a) c;
        usage_comes = λ n. inl (h.answer_is ∙ none_is_usage command due e en n);
        read_fault = λ a. inl (rose_by command due e (is 3 a) c);
        after_read_fault = λ a. load_by command due e (is 3 a) c s h.wrote;
        write_fault = λ a. absurd (never_four e (is 4 a));
        after_write_fault = λ a. absurd (never_four e (is 4 a));
        after_memory = λ a. memory_by command due e (is 5 a) c s h.wrote;
        bad_costs = λ a. costs_by command due e (is 6 a) c;
        bad_trace = λ a. absurd (no_seven command due e c (is 7 a));
        after_trap = λ a. absurd (no_ten command due e c (is 10 a));
        store_fault = λ a. store_rose_by command due e (is 11 a) c;
        after_store_fault = λ a. store_by command due e (is 11 a) c s h.wrote;
        no_file = λ a. lacks_by command due e (is 17 a) c;
        sent = λ a. record { lines = due; wrote = h.wrote; sent = h.sent };
        load_kept = λ three four. counts.load_kept (λ n. three (h.answer_is ∙ n));
        pull_kept = λ three four. pulls;
        store_kept = λ eleven four. counts.store_kept (λ n. eleven (h.answer_is ∙ n));
        later = record { load_faults = counts.load_later; store_faults = counts.store_later; source_faults = omega (arith, pulls); sink_faults = omega (arith, pushes) };
      }

  -- nothing is told of the cause where a push or a flush failed
  pub failed : (command : Option (Command (List ℕ))) (answer : ℕ) → answer ≡ 4 → Rose old.sink.faults new.sink.faults → AfterWriteFault old new command → IsLater old new →
      Causes command old new answer
  failed command answer is rose after later =
      let other : (n : ℕ) → n ≢ 4 → answer ≡ n → ⊥ = λ n h a. h (sym a ∙ is) in
      record {
        bound = λ a. absurd (omega (arith, a, is));
        refused = λ a. absurd (omega (arith, a, is));
        usage = λ a. absurd (omega (arith, a, is));
        usage_comes = λ n. inr is;
        read_fault = λ a. absurd (omega (arith, a, is));
        after_read_fault = λ a. absurd (omega (arith, a, is));
        write_fault = λ a. rose;
        after_write_fault = λ a. after;
        after_memory = λ a. absurd (omega (arith, a, is));
        bad_costs = λ a. absurd (omega (arith, a, is));
        bad_trace = λ a. absurd (omega (arith, a, is));
        after_trap = λ a. absurd (omega (arith, a, is));
        store_fault = λ a. absurd (omega (arith, a, is));
        after_store_fault = λ a. absurd (omega (arith, a, is));
        no_file = λ a. absurd (omega (arith, a, is));
        sent = λ a. absurd (a is);
        load_kept = λ three four. absurd (four is);
        pull_kept = λ three four. absurd (four is);
        store_kept = λ eleven four. absurd (four is);
        later = later;
      }

  pub by_ends : (command : Option (Command (List ℕ))) (due : List (List ℕ)) (e : Ending) (answer : ℕ) → Ends old new command due e → new.source ≡ old.source →
      Answers due (number_of e) old.sink new.sink answer → Causes command old new answer
  by_ends command due e answer en s (answered h) = all_sent command due e answer en s h
  by_ends command due e answer en s (broke_off whole rest is d b) =
      let counts = shelf_counts command due e (cause old new command due e en) in
      let pulls : new.source.faults ≡ old.source.faults = source_same s in
      failed command answer is b.rose (before_the_trace command due whole rest e en s d b)
      (record { load_faults = counts.load_later; store_faults = counts.store_later; source_faults = omega (arith, pulls); sink_faults = b.later })

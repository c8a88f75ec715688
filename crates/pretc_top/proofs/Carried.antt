-- What a call of `run` that came to its report tells of its cause, and of what stands after it.
use Rattle.std.proofs.Common.{◌≡◌, ◌≢◌, ◌+◌, inr, ℕ, ℤ, List, [], ◌∷◌, ◌++◌, Some, sym, subst, ◌∙◌, arith}
use Rattle.pt_outside.specs.Told.{ShelfTold}
use Rattle.pt_image.specs.declared.image.Parts.{Parts}
use Rattle.pretc_run.specs.declared.endings.Ending.{Ending}
use Rattle.pretc_run.specs.Endings.{number_of}
use Rattle.pretc_run.specs.Writing.{Wrote, IsAnswered}
use Rattle.pretc_run.specs.Running.{RunEnds, run_bad, run_fault}
use Rattle.pretc_top.specs.declared.commands.Command.TheVariants.{Run}
use Rattle.pretc_top.specs.Exec.{exec_lines}
use Rattle.pretc_top.specs.Outside.{Outside}
use Rattle.pretc_top.specs.Comes.{ends, broke}
use Rattle.pretc_top.specs.Causes.{Causes}
use Rattle.pretc_top.specs.Stands.{AfterReadFault, AfterBadTrace}
use Rattle.tk_cert.specs.declared.CertParts.{CertParts}
use Rattle.pretc_top.specs.Run.{IsAnalysed, IsKept, RunRan, RunBroke, run_in_the_bound, run_behind_the_bound}
use Rattle.pretc_top.specs.Stands.{run_pull_failed, run_bad_trace, in_the_bound_line_of_run, behind_the_bound_line_of_run}
use Rattle.pretc_top.proofs.Answered.{source_same, failed}
use Rattle.pretc_top.proofs.Runs.{run_rose, run_kept, run_later, run_other, pulled}

module _ (program costs name other : List ℕ) (old new : Outside) (image : Parts) (cert : CertParts) (priced : List ℕ)
    (analysed : IsAnalysed program costs old.shelf.files image cert priced) (stored : IsKept name other image cert old.shelf new.shelf) (rows : List (List ℤ)) where
  abbrev Written : List ℕ → Type 0
  Written last = Wrote old.sink new.sink (exec_lines image priced cert.bound rows ++ last ∷ [])

  run_fault_stands : (last : List ℕ) (e : Ending) → RunEnds image priced cert.bound rows old.source new.source last e → Written last →
      number_of e ≡ 3 → AfterReadFault old new (Some (Run program costs name other))
  run_fault_stands _ _ (run_fault ticked cut failed) w n =
      run_pull_failed program costs name other failed
      (record { image = image; cert = cert; priced = priced; analysed = analysed; stored = stored; rows = rows; trace = cut; wrote = w })
  run_fault_stands _ _ r w n = absurd (omega (arith, n))

  run_bad_stands : (last : List ℕ) (e : Ending) → RunEnds image priced cert.bound rows old.source new.source last e → Written last →
      number_of e ≡ 7 → AfterBadTrace old new (Some (Run program costs name other))
  run_bad_stands _ _ (run_bad rule line ticked bad stays) w n =
      run_bad_trace program costs name other rule line stays
      (record { image = image; cert = cert; priced = priced; analysed = analysed; stored = stored; rows = rows; trace = bad; wrote = w })
  run_bad_stands _ _ r w n = absurd (omega (arith, n))

-- the shelf's counts after image and certificate were stored
loads_kept : (name other : List ℕ) (image : Parts) (cert : CertParts) (old new : ShelfTold) → IsKept name other image cert old new → new.load_faults ≡ old.load_faults
loads_kept name other image cert old new k = k.cert_stored.load_faults ∙ k.image_stored.load_faults

stores_kept : (name other : List ℕ) (image : Parts) (cert : CertParts) (old new : ShelfTold) → IsKept name other image cert old new → new.store_faults ≡ old.store_faults
stores_kept name other image cert old new k = k.cert_stored.store_faults ∙ k.image_stored.store_faults

pub by_run : (program costs name other : List ℕ) (old new : Outside) (due : List (List ℕ)) (e : Ending) (answer : ℕ) → RunRan program costs name other old new due e →
    IsAnswered due (number_of e) old.sink new.sink answer → Causes (Some (Run program costs name other)) old new answer
by_run program costs name other old new due e answer g h =
    let is : (n : ℕ) → answer ≡ n → number_of e ≡ n = λ n a. sym h.answer_is ∙ a in
    let else_none : (n : ℕ) → answer ≡ n → n ≢ 0 → n ≢ 3 → n ≢ 7 → ⊥ = λ n a zero three seven.
    run_other old new g.image g.priced g.cert.bound g.rows g.last e n g.ends (is n a) zero three seven (λ ten. g.untrapped (is n a ∙ ten)) in
    let P : List (List ℕ) → Type 0 = λ lines. Wrote old.sink new.sink lines in
    let wrote = subst P g.due_is h.wrote in
    let pushes : new.sink.faults ≡ old.sink.faults = h.wrote.faults in
    let loads : new.shelf.load_faults ≡ old.shelf.load_faults = loads_kept name other g.image g.cert old.shelf new.shelf g.stored in
    let stores : new.shelf.store_faults ≡ old.shelf.store_faults = stores_kept name other g.image g.cert old.shelf new.shelf g.stored in
    record {
      bound = λ a. tt;
      refused = λ a. absurd (else_none 1 a (λ n. omega (arith, n)) (λ n. omega (arith, n)) (λ n. omega (arith, n)));
      usage = λ a. absurd (else_none 2 a (λ n. omega (arith, n)) (λ n. omega (arith, n)) (λ n. omega (arith, n)));
      usage_comes = λ n. absurd (cc);
      read_fault = λ a. inr (run_rose old new g.image g.priced g.cert.bound g.rows g.last e g.ends (is 3 a));
      after_read_fault = λ a. run_fault_stands program costs name other old new g.image g.cert g.priced g.analysed g.stored g.rows g.last e g.ends wrote (is 3 a);
      write_fault = λ a. absurd (else_none 4 a (λ n. omega (arith, n)) (λ n. omega (arith, n)) (λ n. omega (arith, n)));
      after_write_fault = λ a. absurd (else_none 4 a (λ n. omega (arith, n)) (λ n. omega (arith, n)) (λ n. omega (arith, n)));
      after_memory = λ a. absurd (else_none 5 a (λ n. omega (arith, n)) (λ n. omega (arith, n)) (λ n. omega (arith, n)));
      bad_costs = λ a. absurd (else_none 6 a (λ n. omega (arith, n)) (λ n. omega (arith, n)) (λ n. omega (arith, n)));
      bad_trace = λ a. run_bad_stands program costs name other old new g.image g.cert g.priced g.analysed g.stored g.rows g.last e g.ends wrote (is 7 a);
      after_trap = λ a. absurd (g.untrapped (is 10 a));
      store_fault = λ a. absurd (else_none 11 a (λ n. omega (arith, n)) (λ n. omega (arith, n)) (λ n. omega (arith, n)));
      after_store_fault = λ a. absurd (else_none 11 a (λ n. omega (arith, n)) (λ n. omega (arith, n)) (λ n. omega (arith, n)));
      no_file = λ a. absurd (else_none 17 a (λ n. omega (arith, n)) (λ n. omega (arith, n)) (λ n. omega (arith, n)));
      sent = λ a. record { lines = due; wrote = h.wrote; sent = h.sent };
      load_kept = λ three four. loads;
      pull_kept = λ three four. run_kept old new g.image g.priced g.cert.bound g.rows g.last e g.ends (λ n. three (h.answer_is ∙ n));
      store_kept = λ eleven four. stores;
      later = record {
        load_faults = omega (arith, loads);
        store_faults = omega (arith, stores);
        source_faults = run_later old new g.image g.priced g.cert.bound g.rows g.last e g.ends;
        sink_faults = omega (arith, pushes);
      };
    }

pub by_broken_run : (program costs name other : List ℕ) (old new : Outside) (answer : ℕ) → answer ≡ 4 → RunBroke program costs name other old new →
    Causes (Some (Run program costs name other)) old new answer
by_broken_run program costs name other old new answer is (run_in_the_bound image cert priced a k s cut) =
    let pulls : new.source.faults ≡ old.source.faults = source_same old new s in
    let loads : new.shelf.load_faults ≡ old.shelf.load_faults = loads_kept name other image cert old.shelf new.shelf k in
    let stores : new.shelf.store_faults ≡ old.shelf.store_faults = stores_kept name other image cert old.shelf new.shelf k in
    failed old new (Some (Run program costs name other)) answer is cut.rose
    (in_the_bound_line_of_run program costs name other s (run_in_the_bound image cert priced a k s cut))
    (record { load_faults = omega (arith, loads); store_faults = omega (arith, stores); source_faults = omega (arith, pulls); sink_faults = cut.later })
by_broken_run program costs name other old new answer is (run_behind_the_bound g) =
    let p = pulled old new g.image g.priced g.cert.bound g.rows g.next g.is_next in
    let loads : new.shelf.load_faults ≡ old.shelf.load_faults = loads_kept name other g.image g.cert old.shelf new.shelf g.stored in
    let stores : new.shelf.store_faults ≡ old.shelf.store_faults = stores_kept name other g.image g.cert old.shelf new.shelf g.stored in
    failed old new (Some (Run program costs name other)) answer is g.broke.rose
    (behind_the_bound_line_of_run program costs name other g p.read p.has_read p.one_more)
    (record { load_faults = omega (arith, loads); store_faults = omega (arith, stores); source_faults = p.later; sink_faults = g.broke.later })

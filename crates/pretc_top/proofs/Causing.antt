-- What an ending without a run tells of its cause, whatever the command.
use Rattle.std.proofs.Common.{◌≡◌, ◌≢◌, ◌≤◌, ◌⊎◌, inl, inr, ℕ, ℤ, List, [], ◌∷◌, ◌++◌, Option, Some, None, refl, sym, ap, subst, ◌∙◌, arith}
use Rattle.pt_base.specs.declared.Rule.{Rule}
use Rattle.pt_base.specs.declared.Span.{Span}
use Rattle.pt_image.specs.declared.image.Parts.{Parts}
use Rattle.pt_image.specs.Text.{text_of}
use Rattle.pt_outside.specs.Files.{Holds, Lacks}
use Rattle.pt_outside.specs.Told.{ShelfTold}
use Rattle.pc_rules.specs.Sources as source
use Rattle.pc_rules.specs.Verdicts.{BreaksFirst}
use Rattle.pretc_run.specs.declared.endings.Ending.{Ending}
use Rattle.pretc_run.specs.declared.endings.Ending.TheVariants.{Done, Refused, Usage, ReadFault, WantOfMemory, BadImage, BadCert, BadCosts, BadCost, NotAccepted, StoreFault, NoFile}
use Rattle.pretc_run.specs.Endings.{number_of, line_of}
use Rattle.pretc_top.specs.declared.commands.Command.{Command}
use Rattle.pretc_top.specs.declared.commands.Command.TheVariants.{Go, Run, Check, Print, Rules, Mean, Gen, Job, Exec}
use Rattle.tk_cert.specs.declared.CertParts.{CertParts}
use Rattle.tk_cert.specs.Demands.{Demand}
use Rattle.tk_cert.specs.Text as cert_file
use Rattle.pretc_top.specs.Outside.{Outside}
use Rattle.pretc_top.specs.Loading.{IsAsBefore, IsFailedLoad, LoadFails, load_fault, no_file, load_memory, ProgramFails, program_missing, program_refused, program_memory}
use Rattle.pretc_top.specs.Says.{SaysEnds, said, unsaid, IsPrinted, IsRuled, GenEnds, generates, gen_memory}
use Rattle.pretc_top.specs.Run.{SourcesFail, no_program, no_table, AreSources, Unanalysed, rule_broken, costs_refused, no_memory, IsAnalysed, IsKept, RunUnready, run_not_loaded, run_unanalysed, run_image_unstored, run_cert_unstored, run_unloaded}
use Rattle.pretc_top.specs.Job.{JobEnds, job_done, job_breaks, job_memory}
use Rattle.pretc_top.proofs.Shelves.{same_shelf, stored_before}
use Rattle.pretc_top.specs.Check.{CheckEnds, not_loaded, judged, LoadsFail, no_image, no_cert, no_costs, Judged, not_read, decided, Unread, image_fails, cert_fails, costs_fail, ImageFails, bad_image, image_memory, CertFails, bad_cert, cert_memory, CostsRead, CostsFail, no_document, missing_class, wrong_cost, unknown_key, costs_memory, CostsHeld, table_held, Decided, accepted, not_accepted, AreLoaded, AreRead, refusal_of, image_most, cert_most, costs_most, unit_word}
use Rattle.pretc_top.specs.Exec.{Unapproved, not_in_form, unaccepted, ExecUnready, exec_not_loaded, exec_unapproved, exec_memory}
use Rattle.mb_isa.specs.declared.costs.Class.{Class}
use Rattle.pretc_top.specs.Go.{IsBuilt, IsMade, IsStored, IsFailedStore, StoreFails, store_fault, store_memory, IsUnready, unbuilt, unstored, unloaded}
use Rattle.pretc_top.specs.Comes.{Ends, no_command, go_ends, run_ends, check_ends, print_ends, rules_ends, mean_ends, exec_ends, gen_ends, job_ends}
use Rattle.pretc_top.specs.Causes.{BreaksRule, IsRefusedBy, go_refused, run_refused, print_refused, rules_refused, mean_refused, job_refused, LacksFile, go_lacks, run_lacks, run_lacks_costs, check_lacks, check_lacks_cert, check_lacks_costs, print_lacks, rules_lacks, mean_lacks, exec_lacks, exec_lacks_cert, exec_lacks_costs, BoundHolds, CostsRefused, check_refuses_costs, exec_refuses_costs, run_refuses_costs}

-- by the command, the lines that are due and the ending
pub data Cause (old new : Outside) : Option (Command (List ℕ)) → List (List ℕ) → Ending → Type 0 where
  by_done : (command : Option (Command (List ℕ))) (due : List (List ℕ)) → BoundHolds old.shelf.files command → IsAsBefore old.shelf new.shelf →
      Cause old new command due Done
  by_refusal : (command : Option (Command (List ℕ))) (rule : Rule) (span : Span) → IsRefusedBy old.shelf.files command → IsAsBefore old.shelf new.shelf →
      Cause old new command (line_of (Refused rule span) ∷ []) (Refused rule span)
  by_usage : new.shelf ≡ old.shelf → Cause old new None (line_of Usage ∷ []) Usage
  by_load : (command : Option (Command (List ℕ))) → IsFailedLoad old.shelf new.shelf → Cause old new command (line_of ReadFault ∷ []) ReadFault
  by_memory : (command : Option (Command (List ℕ))) → IsAsBefore old.shelf new.shelf → Cause old new command (line_of WantOfMemory ∷ []) WantOfMemory
  by_stored : (program name : List ℕ) (image : Parts) → IsMade program name image old.shelf new.shelf →
      Cause old new (Some (Go program name)) (line_of WantOfMemory ∷ []) WantOfMemory
  by_half : (program costs name other : List ℕ) (image : Parts) (cert : CertParts) (priced : List ℕ) → IsAnalysed program costs old.shelf.files image cert priced →
      IsStored name (text_of image) old.shelf new.shelf → Cause old new (Some (Run program costs name other)) (line_of WantOfMemory ∷ []) WantOfMemory
  by_both : (program costs name other : List ℕ) (image : Parts) (cert : CertParts) (priced : List ℕ) → IsAnalysed program costs old.shelf.files image cert priced →
      IsKept name other image cert old.shelf new.shelf → Cause old new (Some (Run program costs name other)) (line_of WantOfMemory ∷ []) WantOfMemory
  by_image : (command : Option (Command (List ℕ))) (due : List (List ℕ)) (number : ℕ) → IsAsBefore old.shelf new.shelf → Cause old new command due (BadImage number)
  by_cert : (command : Option (Command (List ℕ))) (due : List (List ℕ)) (number : ℕ) → IsAsBefore old.shelf new.shelf → Cause old new command due (BadCert number)
  by_costs : (command : Option (Command (List ℕ))) (due : List (List ℕ)) (rule : ℕ) → CostsRefused old.shelf.files command → IsAsBefore old.shelf new.shelf →
      Cause old new command due (BadCosts rule)
  by_cost : (command : Option (Command (List ℕ))) (due : List (List ℕ)) (rule : ℕ) (class : Class) → CostsRefused old.shelf.files command → IsAsBefore old.shelf new.shelf →
      Cause old new command due (BadCost rule class)
  by_demand : (command : Option (Command (List ℕ))) (due : List (List ℕ)) (d : Demand) → IsAsBefore old.shelf new.shelf → Cause old new command due (refusal_of d)
  by_store : (program name : List ℕ) (image : Parts) → IsBuilt program image old.shelf.files → IsFailedStore name (text_of image) old.shelf new.shelf →
      Cause old new (Some (Go program name)) (line_of StoreFault ∷ []) StoreFault
  by_first_store : (program costs name other : List ℕ) (image : Parts) (cert : CertParts) (priced : List ℕ) → IsAnalysed program costs old.shelf.files image cert priced →
      IsFailedStore name (text_of image) old.shelf new.shelf → Cause old new (Some (Run program costs name other)) (line_of StoreFault ∷ []) StoreFault
  by_second_store : (program costs name other : List ℕ) (image : Parts) (cert : CertParts) (priced : List ℕ) (between : ShelfTold) →
      IsAnalysed program costs old.shelf.files image cert priced → IsStored name (text_of image) old.shelf between →
      IsFailedStore other (cert_file.text_of cert) between new.shelf → Cause old new (Some (Run program costs name other)) (line_of StoreFault ∷ []) StoreFault
  by_absence : (command : Option (Command (List ℕ))) → LacksFile old.shelf.files command → IsAsBefore old.shelf new.shelf →
      Cause old new command (line_of NoFile ∷ []) NoFile

module _ (old new : Outside) (command : Option (Command (List ℕ))) where
  -- a file wasn't loaded
  of_load : (name : List ℕ) (e : Ending) → (Lacks old.shelf.files name → LacksFile old.shelf.files command) → LoadFails name old.shelf new.shelf e →
      Cause old new command (line_of e ∷ []) e
  of_load name _ lacks (load_fault f) = by_load command f
  of_load name _ lacks (no_file l k) = by_absence command (lacks l) k
  of_load name _ lacks (load_memory k) = by_memory command k

  -- no program was taken
  of_program : (B : List ℕ → Rule → Span → Type 0) (program : List ℕ) (e : Ending) → (Lacks old.shelf.files program → LacksFile old.shelf.files command) →
      (BreaksRule B program old.shelf.files → IsRefusedBy old.shelf.files command) → ProgramFails B program old.shelf new.shelf e → Cause old new command (line_of e ∷ []) e
  of_program B program _ lacks breaks (program_missing e f) = of_load program e lacks f
  of_program B program _ lacks breaks (program_refused text rule span h b k) =
      by_refusal command rule span (breaks (record { text = text; held = h; rule = rule; span = span; breaks = b })) k
  of_program B program _ lacks breaks (program_memory k) = by_memory command k

  -- a program was taken or not, and said something of
  of_saying : (B : List ℕ → Rule → Span → Type 0) (D : List ℕ → List (List ℕ) → Type 0) (program : List ℕ) (due : List (List ℕ)) (e : Ending) →
      (Lacks old.shelf.files program → LacksFile old.shelf.files command) → (BreaksRule B program old.shelf.files → IsRefusedBy old.shelf.files command) →
      BoundHolds old.shelf.files command → SaysEnds B D program old.shelf new.shelf due e → Cause old new command due e
  of_saying B D program _ _ lacks breaks holds (said text due h d k) = by_done command due holds k
  of_saying B D program _ _ lacks breaks holds (unsaid e f) = of_program B program e lacks breaks f

module _ (old new : Outside) where
  of_go : (program name : List ℕ) (e : Ending) → IsUnready program name old.shelf new.shelf e → Cause old new (Some (Go program name)) (line_of e ∷ []) e
  of_go program name _ (unbuilt e f) =
      of_program old new (Some (Go program name)) BreaksFirst program e (go_lacks program name) (go_refused program name) f
  of_go program name _ (unstored _ image b (store_fault f)) = by_store program name image b f
  of_go program name _ (unstored _ image b (store_memory k)) = by_memory (Some (Go program name)) k
  of_go program name _ (unloaded image m) = by_stored program name image m

  module _ (costs : List ℕ) (command : Option (Command (List ℕ))) (refuses : (text : List ℕ) (e : Ending) → costs ≢ unit_word → Holds old.shelf.files costs costs_most text →
      CostsFail (Some text) e → number_of e ≡ 6 → CostsRefused old.shelf.files command) where
    of_table : (text : List ℕ) (e : Ending) → number_of e ≡ 6 → CostsHeld old.shelf.files costs (Some text) → CostsFail (Some text) e → CostsRefused old.shelf.files command
    of_table text e n (table_held _ other h) f = refuses text e other h f n

    of_costs : (text : Option (List ℕ)) (e : Ending) → IsAsBefore old.shelf new.shelf → CostsHeld old.shelf.files costs text → CostsFail text e → Cause old new command (line_of e ∷ []) e
    of_costs _ _ k h (no_document text f) = by_costs command _ 1 (of_table text (BadCosts 1) refl h (no_document text f)) k
    of_costs _ _ k h (missing_class text class f) = by_cost command _ 2 class (of_table text (BadCost 2 class) refl h (missing_class text class f)) k
    of_costs _ _ k h (wrong_cost text class f) = by_cost command _ 3 class (of_table text (BadCost 3 class) refl h (wrong_cost text class f)) k
    of_costs _ _ k h (unknown_key text f) = by_costs command _ 4 (of_table text (BadCosts 4) refl h (unknown_key text f)) k
    of_costs _ _ k h (costs_memory text) = by_memory command k

  -- what is told of a command by its files
  record NamesFiles (image cert costs : List ℕ) (command : Option (Command (List ℕ))) : Type 0 where
    pub lacks_image : Lacks old.shelf.files image → LacksFile old.shelf.files command
    pub lacks_cert : (text : List ℕ) → Holds old.shelf.files image image_most text → Lacks old.shelf.files cert → LacksFile old.shelf.files command
    pub lacks_costs : (text other : List ℕ) → Holds old.shelf.files image image_most text → Holds old.shelf.files cert cert_most other → costs ≢ unit_word →
        Lacks old.shelf.files costs → LacksFile old.shelf.files command
    pub refuses : (text : List ℕ) (e : Ending) → costs ≢ unit_word → Holds old.shelf.files costs costs_most text → CostsFail (Some text) e → number_of e ≡ 6 →
        CostsRefused old.shelf.files command

  check_names : (image cert costs : List ℕ) → NamesFiles image cert costs (Some (Check image cert costs))
  check_names image cert costs = record {
    lacks_image = check_lacks image cert costs;
    lacks_cert = check_lacks_cert image cert costs;
    lacks_costs = check_lacks_costs image cert costs;
    refuses = check_refuses_costs image cert costs;
  }

  exec_names : (image cert costs : List ℕ) → NamesFiles image cert costs (Some (Exec image cert costs))
  exec_names image cert costs = record {
    lacks_image = exec_lacks image cert costs;
    lacks_cert = exec_lacks_cert image cert costs;
    lacks_costs = exec_lacks_costs image cert costs;
    refuses = exec_refuses_costs image cert costs;
  }

  module _ (image cert costs : List ℕ) (command : Option (Command (List ℕ))) (names : NamesFiles image cert costs command) where
    of_image : (text : List ℕ) (e : Ending) → IsAsBefore old.shelf new.shelf → ImageFails text e → Cause old new command (line_of e ∷ []) e
    of_image text _ k (bad_image number f) = by_image command _ number k
    of_image text _ k image_memory = by_memory command k

    of_cert : (text : List ℕ) (e : Ending) → IsAsBefore old.shelf new.shelf → CertFails text e → Cause old new command (line_of e ∷ []) e
    of_cert text _ k (bad_cert number f) = by_cert command _ number k
    of_cert text _ k cert_memory = by_memory command k

    of_unread : (image_text cert_text : List ℕ) (costs_text : Option (List ℕ)) (e : Ending) → AreLoaded image cert costs old.shelf new.shelf image_text cert_text costs_text →
        Unread image_text cert_text costs_text e → Cause old new command (line_of e ∷ []) e
    of_unread image_text cert_text costs_text _ l (image_fails e f) = of_image image_text e l.kept f
    of_unread image_text cert_text costs_text _ l (cert_fails e i is f) = of_cert cert_text e l.kept f
    of_unread image_text cert_text costs_text _ l (costs_fail e i c r f) = of_costs costs command names.refuses costs_text e l.kept l.costs_held f

    of_loads : (e : Ending) → LoadsFail image cert costs old.shelf new.shelf e → Cause old new command (line_of e ∷ []) e
    of_loads _ (no_image e f) = of_load old new command image e names.lacks_image f
    of_loads _ (no_cert e text h f) = of_load old new command cert e (names.lacks_cert text h) f
    of_loads _ (no_costs e text other h i t f) = of_load old new command costs e (names.lacks_costs text other h i t) f

    of_unapproved : (image_text cert_text : List ℕ) (costs_text : Option (List ℕ)) (e : Ending) → AreLoaded image cert costs old.shelf new.shelf image_text cert_text costs_text →
        Unapproved image_text cert_text costs_text e → Cause old new command (line_of e ∷ []) e
    of_unapproved image_text cert_text costs_text _ l (not_in_form e f) = of_unread image_text cert_text costs_text e l f
    of_unapproved image_text cert_text costs_text _ l (unaccepted i c p d r q f) = by_demand command _ d l.kept

  module _ (image cert costs : List ℕ) where
    of_decided : (image_text cert_text : List ℕ) (costs_text : Option (List ℕ)) (i : Parts) (c : CertParts) (p line : List ℕ) (e : Ending) →
        AreLoaded image cert costs old.shelf new.shelf image_text cert_text costs_text → AreRead image_text cert_text i c → CostsRead costs_text p → Decided i c p line e →
        Cause old new (Some (Check image cert costs)) (line ∷ []) e
    of_decided image_text cert_text costs_text i c p _ _ l r q (accepted reached y) =
        by_done (Some (Check image cert costs)) _
        (record {
          image_text = image_text;
          cert_text = cert_text;
          costs_text = costs_text;
          image_held = l.image_held;
          cert_held = l.cert_held;
          costs_held = l.costs_held;
          image_read = i;
          cert_read = c;
          costs_read = p;
          image_is = r.image_is;
          cert_is = r.cert_is;
          costs_are = q;
          free_ticks = y.free_ticks;
          runs = y.runs;
        })
        l.kept
    of_decided image_text cert_text costs_text i c p _ _ l r q (not_accepted d f) = by_demand (Some (Check image cert costs)) _ d l.kept

    of_judged : (image_text cert_text : List ℕ) (costs_text : Option (List ℕ)) (line : List ℕ) (e : Ending) → AreLoaded image cert costs old.shelf new.shelf image_text cert_text costs_text →
        Judged image_text cert_text costs_text line e → Cause old new (Some (Check image cert costs)) (line ∷ []) e
    of_judged image_text cert_text costs_text _ _ l (not_read e f) = of_unread image cert costs (Some (Check image cert costs)) (check_names image cert costs) image_text cert_text costs_text e l f
    of_judged image_text cert_text costs_text _ _ l (decided i c p line e r q d) = of_decided image_text cert_text costs_text i c p line e l r q d

    of_check : (due : List (List ℕ)) (e : Ending) → CheckEnds image cert costs old.shelf new.shelf due e → Cause old new (Some (Check image cert costs)) due e
    of_check _ _ (not_loaded e f) = of_loads image cert costs (Some (Check image cert costs)) (check_names image cert costs) e f
    of_check _ _ (judged image_text cert_text costs_text line e l j) = of_judged image_text cert_text costs_text line e l j

  of_exec : (image cert costs : List ℕ) (e : Ending) → ExecUnready image cert costs old.shelf new.shelf e → Cause old new (Some (Exec image cert costs)) (line_of e ∷ []) e
  of_exec image cert costs _ (exec_not_loaded e f) = of_loads image cert costs (Some (Exec image cert costs)) (exec_names image cert costs) e f
  of_exec image cert costs _ (exec_unapproved image_text cert_text costs_text e l f) =
      of_unapproved image cert costs (Some (Exec image cert costs)) (exec_names image cert costs) image_text cert_text costs_text e l f
  of_exec image cert costs _ (exec_memory k) = by_memory (Some (Exec image cert costs)) k

  of_sources : (program costs name other : List ℕ) (e : Ending) → SourcesFail program costs old.shelf new.shelf e →
      Cause old new (Some (Run program costs name other)) (line_of e ∷ []) e
  of_sources program costs name other _ (no_program e f) =
      of_load old new (Some (Run program costs name other)) program e (run_lacks program costs name other) f
  of_sources program costs name other _ (no_table e text h f) =
      of_load old new (Some (Run program costs name other)) costs e (run_lacks_costs program costs name other text h f.table) f.fails

  of_unanalysed : (program costs name other text : List ℕ) (table : Option (List ℕ)) (e : Ending) → AreSources program costs old.shelf new.shelf text table →
      Unanalysed text table e → Cause old new (Some (Run program costs name other)) (line_of e ∷ []) e
  of_unanalysed program costs name other text table _ s (rule_broken rule span b) =
      by_refusal (Some (Run program costs name other)) rule span
      (run_refused program costs name other (record { text = text; held = s.program_held; rule = rule; span = span; breaks = b })) s.kept
  of_unanalysed program costs name other text table _ s (costs_refused e tree typing a f) =
      of_costs costs (Some (Run program costs name other)) (run_refuses_costs program costs name other tree typing (record { text = text; held = s.program_held; accepted = a })) table e s.kept s.costs_held f
  of_unanalysed program costs name other text table _ s no_memory = by_memory (Some (Run program costs name other)) s.kept

  of_run : (program costs name other : List ℕ) (e : Ending) → RunUnready program costs name other old.shelf new.shelf e →
      Cause old new (Some (Run program costs name other)) (line_of e ∷ []) e
  of_run program costs name other _ (run_not_loaded e f) = of_sources program costs name other e f
  of_run program costs name other _ (run_unanalysed text table e s f) = of_unanalysed program costs name other text table e s f
  of_run program costs name other _ (run_image_unstored image cert priced _ a (store_fault f)) = by_first_store program costs name other image cert priced a f
  of_run program costs name other _ (run_image_unstored image cert priced _ a (store_memory k)) = by_memory (Some (Run program costs name other)) k
  of_run program costs name other _ (run_cert_unstored image cert priced between _ a s (store_fault f)) =
      by_second_store program costs name other image cert priced between a s f
  of_run program costs name other _ (run_cert_unstored image cert priced between _ a s (store_memory k)) =
      by_half program costs name other image cert priced a (stored_before old.shelf between new.shelf name (text_of image) s k)
  of_run program costs name other _ (run_unloaded image cert priced a k) = by_both program costs name other image cert priced a k

  of_job : (n : ℕ) (due : List (List ℕ)) (e : Ending) → new.shelf ≡ old.shelf → JobEnds n due e → Cause old new (Some (Job n)) due e
  of_job n _ _ s (job_done due j) = by_done (Some (Job n)) due tt (same_shelf old.shelf new.shelf s)
  of_job n _ _ s (job_breaks rule span b) = by_refusal (Some (Job n)) rule span (job_refused n rule span b) (same_shelf old.shelf new.shelf s)
  of_job n _ _ s job_memory = by_memory (Some (Job n)) (same_shelf old.shelf new.shelf s)

  of_gen : (n : ℕ) (due : List (List ℕ)) (e : Ending) → new.shelf ≡ old.shelf → GenEnds n due e → Cause old new (Some (Gen n)) due e
  of_gen n _ _ s generates = by_done (Some (Gen n)) _ tt (same_shelf old.shelf new.shelf s)
  of_gen n _ _ s gen_memory = by_memory (Some (Gen n)) (same_shelf old.shelf new.shelf s)

  pub cause : (command : Option (Command (List ℕ))) (due : List (List ℕ)) (e : Ending) → Ends old new command due e → Cause old new command due e
  cause _ _ _ (no_command s) = by_usage s
  cause _ _ _ (go_ends program image e f) = of_go program image e f
  cause _ _ _ (run_ends program costs image cert e f) = of_run program costs image cert e f
  cause _ _ _ (job_ends n due e s f) = of_job n due e s f
  cause _ _ _ (check_ends image cert costs due e f) = of_check image cert costs due e f
  cause _ _ _ (print_ends program due e f) =
      of_saying old new (Some (Print program)) source.Breaks IsPrinted program due e (print_lacks program) (print_refused program) tt f
  cause _ _ _ (rules_ends program due e f) =
      of_saying old new (Some (Rules program)) BreaksFirst IsRuled program due e (rules_lacks program) (rules_refused program) tt f
  cause _ _ _ (mean_ends program e f) = of_program old new (Some (Mean program)) BreaksFirst program e (mean_lacks program) (mean_refused program) f
  cause _ _ _ (exec_ends image cert costs e f) = of_exec image cert costs e f
  cause _ _ _ (gen_ends n due e s f) = of_gen n due e s f

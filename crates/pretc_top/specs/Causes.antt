-- The causes of the statuses, each read off by its number: docs/commands.md, "Statuses".
use Rattle.std.specs.Prelude.{◌≡◌, ◌≢◌, ◌⊎◌, ℕ, true, List, Option, Some, None}
use Rattle.pt_outside.specs.Counts.{Rose}
use Rattle.pt_outside.specs.Files.{Files, Holds, Lacks}
use Rattle.pt_outside.specs.Told.{SinkTold}
use Rattle.pt_image.specs.declared.Parts.{Parts}
use Rattle.tk_cert.specs.declared.CertParts.{CertParts}
use Rattle.tk_paths.specs.Bounded.{BoundsFreeTicks, BoundsRuns}
use Rattle.pt_base.specs.declared.Rule.{Rule}
use Rattle.pt_base.specs.declared.Span.{Span}
use Rattle.pc_rules.specs.Sources.{Breaks}
use Rattle.pc_rules.specs.Verdicts.{BreaksFirst}
use Rattle.pc_print.specs.Generated.{generated}
use Rattle.pretc_run.specs.Writing.{Wrote}
use Rattle.pretc_top.specs.declared.commands.Command.{Command}
use Rattle.pretc_top.specs.declared.commands.Command.TheVariants.{Go, Run, Check, Print, Rules, Mean, Job, Exec}
use Rattle.pretc_top.specs.Outside.{Outside, IsLater}
use Rattle.pc_grammar.specs.Trees.{Program}
use Rattle.pc_grammar.specs.Typing.{Typing}
use Rattle.pretc_top.specs.Loading.{source_most, IsTaken}
use Rattle.pretc_top.specs.Check.{image_most, cert_most, costs_most, unit_word, IsImageText, IsCertText, CostsHeld, CostsRead, CostsFail}
use Rattle.pretc_run.specs.declared.endings.Ending.{Ending}
use Rattle.pretc_run.specs.Endings.{number_of}
use Rattle.pretc_top.specs.Stands.{AfterReadFault, AfterWriteFault, AfterMemory, AfterBadTrace, AfterTrap, AfterStoreFault}

-- the program was loaded, and breaks this rule first, of those that are looked at
pub record BreaksRule (B : List ℕ → Rule → Span → Type 0) (program : List ℕ) (files : Option Files) : Type 0 where
  pub text : List ℕ
  pub held : Holds files program source_most text
  pub rule : Rule
  pub span : Span
  pub breaks : B text rule span

-- the program of the command breaks a rule, and this is the first; `print` looks at size, tokens and grammar alone
pub data IsRefusedBy (files : Option Files) : Option (Command (List ℕ)) → Type 0 where
  go_refused : (program image : List ℕ) → BreaksRule BreaksFirst program files → IsRefusedBy files (Some (Go program image))
  run_refused : (program costs image cert : List ℕ) → BreaksRule BreaksFirst program files → IsRefusedBy files (Some (Run program costs image cert))
  print_refused : (program : List ℕ) → BreaksRule Breaks program files → IsRefusedBy files (Some (Print program))
  rules_refused : (program : List ℕ) → BreaksRule BreaksFirst program files → IsRefusedBy files (Some (Rules program))
  mean_refused : (program : List ℕ) → BreaksRule BreaksFirst program files → IsRefusedBy files (Some (Mean program))
  job_refused : (n : ℕ) (rule : Rule) (span : Span) → BreaksFirst (generated n) rule span → IsRefusedBy files (Some (Job n))

-- the file to be loaded next isn't among the files that the shelf tells of
pub data LacksFile (files : Option Files) : Option (Command (List ℕ)) → Type 0 where
  go_lacks : (program image : List ℕ) → Lacks files program → LacksFile files (Some (Go program image))
  run_lacks : (program costs image cert : List ℕ) → Lacks files program → LacksFile files (Some (Run program costs image cert))
  run_lacks_costs : (program costs image cert text : List ℕ) → Holds files program source_most text → costs ≢ unit_word → Lacks files costs →
      LacksFile files (Some (Run program costs image cert))
  check_lacks : (image cert costs : List ℕ) → Lacks files image → LacksFile files (Some (Check image cert costs))
  check_lacks_cert : (image cert costs text : List ℕ) → Holds files image image_most text → Lacks files cert →
      LacksFile files (Some (Check image cert costs))
  check_lacks_costs : (image cert costs text other : List ℕ) → Holds files image image_most text → Holds files cert cert_most other →
      costs ≢ unit_word → Lacks files costs → LacksFile files (Some (Check image cert costs))
  print_lacks : (program : List ℕ) → Lacks files program → LacksFile files (Some (Print program))
  rules_lacks : (program : List ℕ) → Lacks files program → LacksFile files (Some (Rules program))
  exec_lacks : (image cert costs : List ℕ) → Lacks files image → LacksFile files (Some (Exec image cert costs))
  exec_lacks_cert : (image cert costs text : List ℕ) → Holds files image image_most text → Lacks files cert →
      LacksFile files (Some (Exec image cert costs))
  exec_lacks_costs : (image cert costs text other : List ℕ) → Holds files image image_most text → Holds files cert cert_most other →
      costs ≢ unit_word → Lacks files costs → LacksFile files (Some (Exec image cert costs))
  mean_lacks : (program : List ℕ) → Lacks files program → LacksFile files (Some (Mean program))

-- the files of a check were loaded, and the bound of the certificate bounds the image, under the costs that it names
pub record IsBound (image cert costs : List ℕ) (files : Option Files) : Type 0 where
  pub image_text : List ℕ
  pub cert_text : List ℕ
  pub costs_text : Option (List ℕ)
  pub image_held : Holds files image image_most image_text
  pub cert_held : Holds files cert cert_most cert_text
  pub costs_held : CostsHeld files costs costs_text
  pub image_read : Parts
  pub cert_read : CertParts
  pub costs_read : List ℕ
  pub image_is : IsImageText image_text image_read
  pub cert_is : IsCertText cert_text cert_read
  pub costs_are : CostsRead costs_text costs_read
  pub free_ticks : BoundsFreeTicks image_read costs_read cert_read.bound
  pub runs : BoundsRuns image_read costs_read cert_read.bound

-- the table of costs that `check`, `exec` or `run` names was loaded and is refused; in `run` the program keeps every rule
pub data CostsRefused (files : Option Files) : Option (Command (List ℕ)) → Type 0 where
  check_refuses_costs : (image cert costs text : List ℕ) (e : Ending) → costs ≢ unit_word → Holds files costs costs_most text →
      CostsFail (Some text) e → number_of e ≡ 6 → CostsRefused files (Some (Check image cert costs))
  exec_refuses_costs : (image cert costs text : List ℕ) (e : Ending) → costs ≢ unit_word → Holds files costs costs_most text →
      CostsFail (Some text) e → number_of e ≡ 6 → CostsRefused files (Some (Exec image cert costs))
  run_refuses_costs : (program costs image cert : List ℕ) (tree : Program) (typing : Typing) → IsTaken program files tree typing →
      (text : List ℕ) (e : Ending) → costs ≢ unit_word → Holds files costs costs_most text → CostsFail (Some text) e → number_of e ≡ 6 →
      CostsRefused files (Some (Run program costs image cert))

-- the words are a command; where it is a check, the bound of its certificate bounds its image
abbrev pub BoundHolds : Option Files → Option (Command (List ℕ)) → Type 0
BoundHolds files None = ⊥
BoundHolds files (Some (Check image cert costs)) = IsBound image cert costs files
BoundHolds files (Some command) = Unit {0}

-- lines were written, one push a line, and none of it waits for a flush
pub record IsSent (before after : SinkTold) : Type 0 where
  pub lines : List (List ℕ)
  pub wrote : Wrote before after lines
  pub sent : after.sent ≡ true

-- what an answer tells of its cause, and what stands after it
pub record Causes (command : Option (Command (List ℕ))) (old new : Outside) (answer : ℕ) : Type 0 where
  pub bound : answer ≡ 0 → BoundHolds old.shelf.files command
  pub refused : answer ≡ 1 → IsRefusedBy old.shelf.files command
  pub usage : answer ≡ 2 → command ≡ None
  pub usage_comes : command ≡ None → (answer ≡ 2) ⊎ (answer ≡ 4)
  pub read_fault : answer ≡ 3 → Rose old.shelf.load_faults new.shelf.load_faults ⊎ Rose old.source.faults new.source.faults
  pub after_read_fault : answer ≡ 3 → AfterReadFault old new command
  pub write_fault : answer ≡ 4 → Rose old.sink.faults new.sink.faults
  pub after_write_fault : answer ≡ 4 → AfterWriteFault old new command
  pub after_memory : answer ≡ 5 → AfterMemory old new command
  pub bad_costs : answer ≡ 6 → CostsRefused old.shelf.files command
  pub bad_trace : answer ≡ 7 → AfterBadTrace old new command
  pub after_trap : answer ≡ 10 → AfterTrap old new command
  pub store_fault : answer ≡ 11 → Rose old.shelf.store_faults new.shelf.store_faults
  pub after_store_fault : answer ≡ 11 → AfterStoreFault old new command
  pub no_file : answer ≡ 17 → LacksFile old.shelf.files command
  pub sent : answer ≢ 4 → IsSent old.sink new.sink
  pub load_kept : answer ≢ 3 → answer ≢ 4 → new.shelf.load_faults ≡ old.shelf.load_faults
  pub pull_kept : answer ≢ 3 → answer ≢ 4 → new.source.faults ≡ old.source.faults
  pub store_kept : answer ≢ 11 → answer ≢ 4 → new.shelf.store_faults ≡ old.shelf.store_faults
  pub later : IsLater old new

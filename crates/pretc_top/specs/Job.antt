-- What a call of `pretc job` comes to: docs/commands.md, "job".
use Rattle.std.specs.Prelude.{◌≡◌, ℕ, ℤ, List, [], ◌∷◌, length, count_by}
use Rattle.pt_base.specs.declared.Rule.{Rule}
use Rattle.pt_base.specs.declared.Span.{Span}
use Rattle.pt_image.specs.declared.image.Parts.{Parts}
use Rattle.pt_trace.specs.Report.{threads_line, bound_line, sum_line, greatest}
use Rattle.mb_isa.specs.Costs.{unit}
use Rattle.mb_isa.specs.Run.{run_of}
use Rattle.pc_grammar.specs.Trees.{Program}
use Rattle.pc_grammar.specs.Typing.{Typing}
use Rattle.pc_rules.specs.Verdicts.{IsAccepted, BreaksFirst}
use Rattle.pc_print.specs.Generated.{generated}
use Rattle.tk_cert.specs.declared.CertParts.{CertParts}
use Rattle.pretc_run.specs.declared.endings.Ending.{Ending}
use Rattle.pretc_run.specs.declared.endings.Ending.TheVariants.{Done, Refused, WantOfMemory}
use Rattle.pretc_run.specs.Endings.{line_of}
use Rattle.pretc_run.specs.Told.{told}
use Rattle.pretc_run.specs.Counted.{counted_rows, sum_of}
use Rattle.pretc_top.specs.Certified.{IsCertified}
use Rattle.pretc_top.specs.Run.{ShowsWithin}

-- the ticks of a job: in tick j, which is one of 1,000, each input is j modulo 10
abbrev pub job_rows : Parts → List (List ℤ)
job_rows image = counted_rows (length image.inputs) 0 1000

abbrev pub job_ticks : Parts → ℕ → List (List ℤ × ℕ)
job_ticks image bound = told (run_of image unit bound (job_rows image))

-- the number of threads, the bound, and the totals of the ticks
abbrev pub job_lines : Typing → Parts → ℕ → List (List ℕ)
job_lines t image bound =
    threads_line (count_by (λ f. f.thread) t.functions) ∷ bound_line bound
    ∷ sum_line 1000 (sum_of (job_ticks image bound)) (greatest (job_ticks image bound)) ∷ []

-- The generated program of so many threads keeps every rule, was compiled and analysed at unit costs, and ran within the bound, with the
-- outputs of its meaning.
pub record IsJob (n : ℕ) (due : List (List ℕ)) : Type 0 where
  pub tree : Program
  pub typing : Typing
  pub accepted : IsAccepted (generated n) tree typing
  pub image : Parts
  pub cert : CertParts
  pub certified : IsCertified typing unit image cert
  pub shown : ShowsWithin typing image unit cert.bound (job_rows image)
  pub due_is : due ≡ job_lines typing image cert.bound

-- how `job` ends, with the lines that are due
pub data JobEnds (n : ℕ) : List (List ℕ) → Ending → Type 0 where
  job_done : (due : List (List ℕ)) → IsJob n due → JobEnds n due Done
  job_breaks : (rule : Rule) (span : Span) → BreaksFirst (generated n) rule span → JobEnds n (line_of (Refused rule span) ∷ []) (Refused rule span)
  job_memory : JobEnds n (line_of WantOfMemory ∷ []) WantOfMemory

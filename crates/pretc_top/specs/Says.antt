-- What the commands that say something of a program come to, `print` and `rules`, and `gen`, which says one: docs/commands.md.
use Rattle.std.specs.Prelude.{◌≡◌, ℕ, List, [], ◌∷◌, ◌++◌, map, Option, Result, Ok, Err, count_by, sum_by}
use Rattle.pt_base.specs.declared.Rule.{Rule}
use Rattle.pt_base.specs.declared.Span.{Span}
use Rattle.pt_outside.specs.Files.{Files, Holds}
use Rattle.pt_outside.specs.Told.{ShelfTold, SinkTold}
use Rattle.pt_outside.specs.declared.traits.Failed.{Failed}
use Rattle.pt_trace.specs.Trace.{lines}
use Rattle.pt_trace.specs.Next.{bytes_of}
use Rattle.pt_trace.specs.Accepted.{accepted_line}
use Rattle.pc_grammar.specs.Trees.{Program}
use Rattle.pc_rules.specs.Sources.{IsSource}
use Rattle.pc_print.specs.Canonical.{program_text}
use Rattle.pc_grammar.specs.Typing.{Typing}
use Rattle.pc_rules.specs.Weights.{program_weight, program_passage}
use Rattle.pc_rules.specs.Verdicts.{IsAccepted}
use Rattle.pc_print.specs.Generated.{generated}
use Rattle.pretc_run.specs.declared.endings.Ending.{Ending}
use Rattle.pretc_run.specs.declared.endings.Ending.TheVariants.{Done, WantOfMemory}
use Rattle.pretc_run.specs.Endings.{number_of, line_of}
use Rattle.pretc_run.specs.Writing.{first_of, Wrote, BrokeOff, Answers}
use Rattle.pretc_top.specs.Loading.{source_most, IsLoaded, IsAsBefore, ProgramFails}

-- How such a command ends, with the lines that are due. `B` has the rules that it looks at, and `D` what it says of a text that
-- breaks none of them.
pub data SaysEnds (B : List ℕ → Rule → Span → Type 0) (D : List ℕ → List (List ℕ) → Type 0) (program : List ℕ) (old new : ShelfTold) : List (List ℕ) → Ending → Type 0 where
  said : (text : List ℕ) (due : List (List ℕ)) → Holds old.files program source_most text → D text due → IsAsBefore old new → SaysEnds B D program old new due Done
  unsaid : (e : Ending) → ProgramFails B program old new e → SaysEnds B D program old new (line_of e ∷ []) e

-- the lines of a text, each with its line feed
abbrev pub lines_of : List ℕ → List (List ℕ)
lines_of text = map bytes_of (lines text)

-- `print`: the canonical text of the tree that the text's tokens spell
pub record IsPrinted (text : List ℕ) (due : List (List ℕ)) : Type 0 where
  pub tree : Program
  pub source : IsSource text tree
  pub due_is : due ≡ lines_of (program_text tree)

-- the threads of a program, the words of its cells, its weight, and the words of one passage of its threads
abbrev pub rules_text : Typing → List ℕ
rules_text t = accepted_line (count_by (λ f. f.thread) t.functions) (sum_by (λ cell. cell.size) t.cells) (program_weight t) (program_passage t)

-- `rules`: the counts of a text that keeps every rule
pub record IsRuled (text : List ℕ) (due : List (List ℕ)) : Type 0 where
  pub tree : Program
  pub typing : Typing
  pub accepted : IsAccepted text tree typing
  pub due_is : due ≡ rules_text typing ∷ []

-- the program was loaded, and this is the canonical text of the tree that its tokens spell
pub record PrintsTree (program : List ℕ) (files : Option Files) (printed : List ℕ) : Type 0 where
  pub tree : Program
  pub loaded : IsLoaded program files tree
  pub printed_is : printed ≡ program_text tree

-- these lines were pushed, or one of them broke off
abbrev pub Pushes : {T : Type 0} → List (List ℕ) → SinkTold → SinkTold → Result T Failed → Type 0
Pushes lines before after (Ok done) = Wrote before after lines
Pushes lines before after (Err failed) = (whole : List (List ℕ)) × ((rest : List (List ℕ)) × ((lines ≡ whole ++ rest) × BrokeOff before after whole (first_of rest)))

-- how `gen` ends, with the lines that are due
pub data GenEnds (n : ℕ) : List (List ℕ) → Ending → Type 0 where
  generates : GenEnds n (lines_of (generated n)) Done
  gen_memory : GenEnds n (line_of WantOfMemory ∷ []) WantOfMemory

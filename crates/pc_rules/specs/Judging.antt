-- The rules on loops and the limits, each as a condition on the whole program, and the verdict: docs/language.md, "Loops and limits".
use Rattle.std.specs.Prelude.{◌≡◌, ℕ, ◌<◌, ◌≤◌, Bool, true, false, Some, None, Contains, Result, Ok, Err, count_by, sum_by, slice_get}
use Rattle.pt_base.specs.First.{IsFirst, end_of}
use Rattle.pt_base.specs.declared.limits.TheConstants.{MOST_THREADS, MOST_CELL_WORDS, MOST_NESTED, MOST_HEIGHT, MOST_WEIGHT, MOST_PASSAGE, MOST_PORTS}
use Rattle.pt_base.specs.declared.Rule.{Rule}
use Rattle.pt_base.specs.declared.Rule.TheVariants.{E1, E2, Z2, Z3, Z4, Z5, Z6, Z7, Z8, Z9}
use Rattle.pt_base.specs.declared.Span.{Span}
use Rattle.pt_base.specs.declared.Refusal.{Refusal}
use Rattle.pt_base.specs.declared.Refusal.TheVariants.{Broken, Memory}
use Rattle.pc_grammar.specs.declared.CellKind.{CellKind}
use Rattle.pc_grammar.specs.declared.CellKind.TheVariants.{Input, Output}
use Rattle.pc_grammar.specs.declared.Stmt.{Stmt}
use Rattle.pc_grammar.specs.declared.Cell.{Cell}
use Rattle.pc_grammar.specs.declared.Function.{Function}
use Rattle.pc_grammar.specs.Uses.{holds_pause}
use Rattle.pc_grammar.specs.Finishing.{finishes, finishing}
use Rattle.pc_grammar.specs.Typing.{Typing}
use Rattle.pc_rules.specs.Weights.{program_weight, program_passage}
use Rattle.pc_rules.specs.Nests.{Loop, Aborted, program_nests, heights}

abbrev pub is_input : Cell → Bool
is_input cell = is_input_kind cell.kind
  where
    is_input_kind : CellKind → Bool
    is_input_kind Input = true
    is_input_kind _ = false

abbrev pub is_output : Cell → Bool
is_output cell = is_output_kind cell.kind
  where
    is_output_kind : CellKind → Bool
    is_output_kind Output = true
    is_output_kind _ = false

-- the rules on loops
pub data BreaksLoops (t : Typing) : Rule → Span → Type 0 where
  may_finish : (span : Span) (body : Stmt ℕ) (loops : ℕ) → Contains (program_nests t) (Loop span None body loops) →
      finishes (finishing t.functions) body ≡ true → BreaksLoops t E1 span
  pauses : (span : Span) (most : ℕ) (body : Stmt ℕ) (loops : ℕ) → Contains (program_nests t) (Loop span (Some most) body loops) →
      holds_pause body ≡ true → BreaksLoops t E2 span

-- the limits
pub data BreaksLimits (t : Typing) : Rule → Span → Type 0 where
  threads : MOST_THREADS < count_by (λ f. f.thread) t.functions → BreaksLimits t Z2 (end_of t.length)
  words : MOST_CELL_WORDS < sum_by (λ cell. cell.size) t.cells → BreaksLimits t Z3 (end_of t.length)
  aborts : (span : Span) (n : ℕ) → Contains (program_nests t) (Aborted span n) → MOST_NESTED ≤ n → BreaksLimits t Z4 span
  loops : (span : Span) (most : ℕ) (body : Stmt ℕ) (n : ℕ) → Contains (program_nests t) (Loop span (Some most) body n) → MOST_NESTED ≤ n → BreaksLimits t Z5 span
  height : (i h : ℕ) (f : Function) → slice_get t.functions i ≡ Some f → slice_get (heights t.functions) i ≡ Some h → f.thread ≡ false → MOST_HEIGHT < h → BreaksLimits t Z6 f.name.span
  weight : MOST_WEIGHT < program_weight t → BreaksLimits t Z7 (end_of t.length)
  passage : MOST_PASSAGE < program_passage t → BreaksLimits t Z8 (end_of t.length)
  inputs : MOST_PORTS < count_by is_input t.cells → BreaksLimits t Z9 (end_of t.length)
  outputs : MOST_PORTS < count_by is_output t.cells → BreaksLimits t Z9 (end_of t.length)

-- nothing is broken
pub record IsWithin (t : Typing) : Type 0 where
  pub rules : (rule : Rule) (span : Span) → BreaksLoops t rule span → ⊥
  pub limits : (rule : Rule) (span : Span) → BreaksLimits t rule span → ⊥

-- the rules on loops come before the limits
pub data IsFirstBroken (t : Typing) (rule : Rule) (span : Span) : Type 0 where
  rule_broken : IsFirst (BreaksLoops t) rule span → IsFirstBroken t rule span
  limit_broken : ((other : Rule) (another : Span) → BreaksLoops t other another → ⊥) → IsFirst (BreaksLimits t) rule span → IsFirstBroken t rule span

abbrev pub IsJudged : {A : Type 0} → Typing → Result A Refusal → Type 0
IsJudged t (Ok done) = IsWithin t
IsJudged t (Err (Broken rule span)) = IsFirstBroken t rule span
IsJudged t (Err Memory) = Unit {0}

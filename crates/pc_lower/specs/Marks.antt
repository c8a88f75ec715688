-- The spans of a statement's `EOT`s, `PAR`s and aborts, which give them their numbers.
use Rattle.std.specs.Prelude.{◌≡◌, ℕ, List}
use Rattle.pt_base.specs.declared.rules.Span.{Span}
use Rattle.pc_grammar.specs.declared.statements.Stmt.{Stmt, fold-Stmt}
use Rattle.pc_grammar.specs.declared.typed.Function.{Function}
use Rattle.pc_meaning.specs.Programs.{eots_step, pars_step, aborts_step, spans_of}
use Rattle.pc_lower.specs.declared.marks.Marks.{Marks}

abbrev pub eots_in : Stmt ℕ → List Span
eots_in = fold-Stmt ℕ (List Span) eots_step

abbrev pub pars_in : Stmt ℕ → List Span
pars_in = fold-Stmt ℕ (List Span) pars_step

abbrev pub aborts_of_text : Stmt ℕ → List Span
aborts_of_text = fold-Stmt ℕ (List Span) aborts_step

-- these are the marks of a program
pub record AreMarks (marks : Marks) (functions : List Function) : Type 0 where
  pub eots : marks.eots.items ≡ spans_of eots_step functions
  pub pars : marks.pars.items ≡ spans_of pars_step functions
  pub aborts : marks.aborts.items ≡ spans_of aborts_step functions

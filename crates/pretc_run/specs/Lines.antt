-- The lines of a report, one after another: docs/commands.md, "The report".
use Rattle.std.specs.Prelude.{ℕ, ◌+◌, ℤ, List, [], ◌∷◌, length, Some}
use Rattle.pt_trace.specs.Report.{tick_line, worst_line, greatest}

-- the lines of ticks from number k on, with their outputs and cycles
abbrev pub tick_lines : ℕ → List (List ℤ × ℕ) → List (List ℕ)
tick_lines k [] = []
tick_lines k (t ∷ ts) = tick_line k t.0 (Some t.1) ∷ tick_lines (k + 1) ts

-- the line after the ticks of a run
abbrev pub last_line : List (List ℤ × ℕ) → List ℕ
last_line ticks = worst_line (length ticks) (greatest ticks)

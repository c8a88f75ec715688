-- The rows of a trace up to its first bad line: docs/files.md, "The trace".
use Rattle.std.specs.Prelude.{ℕ, ◌+◌, ℤ, List, [], ◌∷◌, Option, Some, None}
use Rattle.pt_trace.specs.Trace.{Line, Reading, Row, Refused, reading}

-- the first line that is refused: the number of its rule, as 1 for T1, and its own, from 1
pub record BadLine : Type 0 where
  pub rule : ℕ
  pub line : ℕ

-- the rows of inputs up to the first bad line, and that line where there is one
pub record Rows : Type 0 where
  pub rows : List (List ℤ)
  pub bad : Option BadLine

-- what line k gives, before what the lines after it give
abbrev pub onto : ℕ → Reading → Rows → Rows
onto k (Row row) after = record { rows = row ∷ after.rows; bad = after.bad }
onto k (Refused rule) after = record { rows = []; bad = Some (record { rule = rule; line = k }) }

-- the rows of these lines, the first of which has the number k
abbrev pub rows_from : ℕ → ℕ → List Line → Rows
rows_from width k [] = record { rows = []; bad = None }
rows_from width k (l ∷ ls) = onto k (reading width k l) (rows_from width (k + 1) ls)

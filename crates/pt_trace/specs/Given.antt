-- What a reader has given of a trace since it began: docs/files.md, "The trace". `before` is what the source had then, and
-- `now` what it has left.
use Rattle.std.specs.Prelude.{◌≡◌, ◌≤◌, ◌+◌, ℕ, ℤ, true, false, List, [], ◌∷◌, ◌++◌, length, Option, Some, None, ⊤}
use Rattle.std.specs.List.{flat_map, AllByRecursion}
use Rattle.std.specs.Io.KnownBytes.{IsAtEnd, Keeps, prepend_known}
use Rattle.pt_trace.specs.Trace.{Line, lines}
use Rattle.pt_trace.specs.Rows.{BadLine, rows_from}
use Rattle.pt_trace.specs.Next.{Reader, unread, line_feed, bytes_of, IsOver}

-- the bytes are those of these lines, and then those after them
pub record AreFirst (ls : List Line) (bytes after : List ℕ) : Type 0 where
  pub cut : bytes ≡ flat_map bytes_of ls ++ after
  pub split : lines bytes ≡ ls ++ lines after

-- the same where the bytes are known
abbrev pub Begin : Option (List ℕ) → List Line → Option (List ℕ) → Type 0
Begin None ls after = ⊤
Begin (Some xs) ls None = ⊥
Begin (Some xs) ls (Some ys) = AreFirst ls xs ys

-- known bytes have these lines and no others
abbrev pub HasLines : Option (List ℕ) → List Line → Type 0
HasLines None ls = ⊤
HasLines (Some xs) ls = lines xs ≡ ls

-- each of these lines gives its row, from line 1 on
abbrev pub GiveRows : ℕ → List Line → List (List ℤ) → Type 0
GiveRows width ls rows = rows_from width 1 ls ≡ record { rows = rows; bad = None }

-- a line feed ends each of these lines
abbrev pub AllEnded : List Line → Type 0
AllEnded ls = AllByRecursion (λ (l : Line). l.ended ≡ true) ls

-- a reader has given these rows, and no fault
pub record HasGiven (width : ℕ) (before : Option (List ℕ)) (r : Reader) (now : Option (List ℕ)) (rows : List (List ℤ)) : Type 0 where
  pub lines : List Line
  pub first : Begin before lines (unread r now)
  pub gave : GiveRows width lines rows
  pub count : length lines ≡ r.given
  pub counted : length rows ≡ r.given
  pub width_is : r.width ≡ width
  pub no_fault : r.fault ≡ None
  pub whole : r.ended ≡ false → AllEnded lines
  pub over : r.ended ≡ true → IsOver r now

-- the trace was read to its end: these are its rows, and no line is bad
pub record IsWhole (width : ℕ) (before now : Option (List ℕ)) (rows : List (List ℤ)) : Type 0 where
  pub lines : List Line
  pub all : HasLines before lines
  pub gave : GiveRows width lines rows
  pub ended : IsAtEnd now

-- these are the rows before the first bad line of the trace
pub record IsBad (width : ℕ) (before : Option (List ℕ)) (rows : List (List ℤ)) (rule number : ℕ) : Type 0 where
  pub lines : List Line
  pub all : HasLines before lines
  pub bad : rows_from width 1 lines ≡ record { rows = rows; bad = Some (record { rule = rule; line = number }) }

-- the source failed: what was pulled is these lines, whole with their line feeds, which gave these rows, and a line that isn't whole
pub record IsCut (width : ℕ) (before now : Option (List ℕ)) (rows : List (List ℤ)) : Type 0 where
  pub lines : List Line
  pub unfinished : List ℕ
  pub pulled : Begin before lines (prepend_known unfinished now)
  pub gave : GiveRows width lines rows
  pub whole : AllEnded lines
  pub not_whole : line_feed unfinished ≡ None

-- these rows were read, and no more was pulled than their lines and 2,048 bytes
pub record HasRead (width : ℕ) (before now : Option (List ℕ)) (rows : List (List ℤ)) : Type 0 where
  pub lines : List Line
  pub ahead : List ℕ
  pub pulled : Begin before lines (prepend_known ahead now)
  pub gave : GiveRows width lines rows
  pub count : length lines ≡ length rows
  pub few_ahead : length ahead ≤ 2048

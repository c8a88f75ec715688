-- The reader of a trace, and what a call of its `next` does: docs/files.md, "The trace".
use Rattle.std.specs.Prelude.{◌≡◌, ◌≤◌, ◌+◌, ◌==◌, ℕ, ℤ, Bool, true, false, not, nat_lt, cond, List, [], ◌∷◌, ◌++◌, length, Option, Some, None, Result, Ok, Err, position, ⊤}
use Rattle.std.specs.Io.KnownBytes.{Keeps, IsAtEnd, prepend_known}
use Rattle.pt_outside.specs.Counts.{Rose}
use Rattle.pt_outside.specs.Told.{SourceTold}
use Rattle.pt_trace.specs.Trace as trace
use Rattle.pt_trace.specs.Trace.{Line, lines, reading, Row}
use Rattle.pt_trace.specs.declared.reader.TraceFault.{TraceFault}
use Rattle.pt_trace.specs.declared.reader.TraceFault.TheVariants.{Refused, ReadFault}

-- a reader of rows of this width: the lines that it gave so far, the bytes that it pulled and keeps,
-- whether it has met the end of the source, and the fault that it answers again
pub record Reader : Type 0 where
  pub width : ℕ
  pub given : ℕ
  pub kept : List ℕ
  pub ended : Bool
  pub fault : Option TraceFault

-- what is unread: the bytes that are kept, and then those that the source has left
abbrev pub unread : Reader → Option (List ℕ) → Option (List ℕ)
unread r left = prepend_known r.kept left

-- where the first line feed stands
abbrev pub line_feed : List ℕ → Option ℕ
line_feed bytes = position (λ b. b == 10) bytes

-- the bytes of a line, with its line feed
abbrev pub bytes_of : Line → List ℕ
bytes_of l = l.bytes ++ cond l.ended (10 ∷ []) []

-- the first of the lines of these bytes, and the bytes after it
pub record IsFirst (l : Line) (bytes after : List ℕ) : Type 0 where
  pub cut : bytes ≡ bytes_of l ++ after
  pub line : lines bytes ≡ l ∷ lines after

-- known bytes have this first line, and then those bytes
abbrev pub Gives : Option (List ℕ) → Line → Option (List ℕ) → Type 0
Gives None l after = ⊤
Gives (Some xs) l None = ⊥
Gives (Some xs) l (Some ys) = IsFirst l xs ys

-- known bytes have this first line
abbrev pub Begins : Option (List ℕ) → Line → Type 0
Begins None l = ⊤
Begins (Some xs) l = (ls : List Line) × (lines xs ≡ l ∷ ls)

-- nothing is kept, and the source has nothing left
pub record IsOver (r : Reader) (left : Option (List ℕ)) : Type 0 where
  pub none_kept : r.kept ≡ []
  pub none_left : IsAtEnd left

-- the bytes that may be kept of line k while it isn't whole: none past the last line that a trace may have
abbrev pub most_kept : ℕ → ℕ
most_kept k = cond (nat_lt 1000000 k) 0 1024

-- true: the next line was read into the row, and what comes after it is unread
pub record GaveRow (r s : Reader) (before left : Option (List ℕ)) (row : List ℤ) : Type 0 where
  pub line : Line
  pub first : Gives before line (unread s left)
  pub reads : reading r.width (r.given + 1) line ≡ Row row
  pub ended : s.ended ≡ not line.ended
  pub over : s.ended ≡ true → IsOver s left
  pub reader : s ≡ record r { given = r.given + 1; kept = s.kept; ended = s.ended }

-- false: nothing is unread
pub record MetEnd (r s : Reader) (before left : Option (List ℕ)) : Type 0 where
  pub all_read : IsAtEnd before
  pub unread : Keeps before (unread s left)
  pub over : IsOver s left
  pub reader : s ≡ record r { kept = []; ended = true }

-- a fault of the next line, which is kept; nothing is lost
pub record RefusedLine (r s : Reader) (before left : Option (List ℕ)) (rule number : ℕ) : Type 0 where
  pub line : Line
  pub first : Begins before line
  pub is_next : number ≡ r.given + 1
  pub refused : reading r.width number line ≡ trace.Refused rule
  pub unread : Keeps before (unread s left)
  pub reader : s ≡ record r { kept = s.kept; fault = Some (Refused rule number) }

-- a fault of the source, which is kept: it was counted, no line was left to give or to refuse, and nothing is lost
pub record MetFault (r s : Reader) (before left : Option (List ℕ)) (rose : Type 0) : Type 0 where
  pub counted : rose
  pub no_line : line_feed s.kept ≡ None
  pub few : length s.kept ≤ most_kept (r.given + 1)
  pub unread : Keeps before (unread s left)
  pub reader : s ≡ record r { kept = s.kept; fault = Some ReadFault }

-- what a call with no fault and no end before it answers, by what the source tells before and after it
abbrev pub Next : Reader → Reader → SourceTold → SourceTold → List ℤ → Result Bool TraceFault → Type 0
Next r s old new row (Ok true) = GaveRow r s (unread r old.left) new.left row
Next r s old new row (Ok false) = MetEnd r s (unread r old.left) new.left
Next r s old new row (Err (Refused rule number)) = RefusedLine r s (unread r old.left) new.left rule number
Next r s old new row (Err ReadFault) = MetFault r s (unread r old.left) new.left (Rose old.faults new.faults)

-- the source's count of faults stays with every other answer than `ReadFault`
abbrev pub Stays : ℕ → ℕ → Result Bool TraceFault → Type 0
Stays before now (Ok row) = now ≡ before
Stays before now (Err (Refused rule number)) = now ≡ before
Stays before now (Err ReadFault) = ⊤

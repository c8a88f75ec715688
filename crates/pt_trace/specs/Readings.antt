-- What one call after another gives of a whole trace, as laws over `Next` and `HasGiven`: docs/files.md, "The trace".
use Rattle.std.specs.Prelude.{◌≡◌, ◌≤◌, ℕ, ℤ, false, List, [], ◌∷◌, ◌++◌, length, Option, None}
use Rattle.std.specs.Io.KnownBytes.{Keeps}
use Rattle.pt_outside.specs.Counts.{Rose}
use Rattle.pt_trace.specs.Next.{Reader, unread, IsOver, GaveRow, MetEnd, RefusedLine, MetFault}
use Rattle.pt_trace.specs.Given.{HasGiven, IsWhole, IsBad, IsCut, HasRead}

-- a reader that begins
abbrev pub begun : ℕ → Reader
begun width = record { width = width; given = 0; kept = []; ended = false; fault = None }

-- a reader that begins has given no row
abbrev pub BeginsWithNone : Type 0
BeginsWithNone = (width : ℕ) (before : Option (List ℕ)) → HasGiven width before (begun width) before []

-- after a row it has given one row more
abbrev pub GivesOneMore : Type 0
GivesOneMore = (width : ℕ) (before : Option (List ℕ)) (r s : Reader) (now then : Option (List ℕ)) (rows : List (List ℤ)) (row : List ℤ) →
    r.ended ≡ false → HasGiven width before r now rows → GaveRow r s (unread r now) then row → HasGiven width before s then (rows ++ row ∷ [])

-- at the end the rows that it gave are those of the trace
abbrev pub EndsWithAll : Type 0
EndsWithAll = (width : ℕ) (before : Option (List ℕ)) (r s : Reader) (now then : Option (List ℕ)) (rows : List (List ℤ)) →
    HasGiven width before r now rows → MetEnd r s (unread r now) then → IsWhole width before then rows

-- so they are where the end was met before
abbrev pub EndedWithAll : Type 0
EndedWithAll = (width : ℕ) (before : Option (List ℕ)) (r : Reader) (now : Option (List ℕ)) (rows : List (List ℤ)) →
    HasGiven width before r now rows → IsOver r now → IsWhole width before now rows

-- a line that is refused is the first bad one
abbrev pub RefusesTheFirst : Type 0
RefusesTheFirst = (width : ℕ) (before : Option (List ℕ)) (r s : Reader) (now then : Option (List ℕ)) (rows : List (List ℤ)) (rule number : ℕ) →
    HasGiven width before r now rows → RefusedLine r s (unread r now) then rule number → IsBad width before rows rule number

-- where the source fails, all rows were given whose lines stand whole in what was pulled
abbrev pub FailsAfterWhole : Type 0
FailsAfterWhole = (width : ℕ) (before : Option (List ℕ)) (r s : Reader) (now then : Option (List ℕ)) (rows : List (List ℤ)) (a b : ℕ) →
    r.ended ≡ false → HasGiven width before r now rows → MetFault r s (unread r now) then (Rose a b) → IsCut width before then rows

-- and never was more pulled than the lines of these rows and 2,048 bytes
abbrev pub PullsFew : Type 0
PullsFew = (width : ℕ) (before : Option (List ℕ)) (r : Reader) (now : Option (List ℕ)) (rows : List (List ℤ)) →
    HasGiven width before r now rows → length r.kept ≤ 2048 → HasRead width before now rows

-- also where the source gave no row more
abbrev pub PulledFew : Type 0
PulledFew = (width : ℕ) (before : Option (List ℕ)) (r s : Reader) (now then : Option (List ℕ)) (rows : List (List ℤ)) →
    HasGiven width before r now rows → Keeps (unread r now) (unread s then) → length s.kept ≤ 2048 → HasRead width before then rows

-- What is read of each group of lines at the front of a text, and what follows it.
use Rattle.std.specs.Prelude.{ℕ, Bool, true, false, ◌==◌, List, [], ◌∷◌, codes, Some, None, if◌then◌else◌, slice_index_or, slice_set, replicate}
use Rattle.pt_base.specs.Reading.{◌>>=◌, Reader, past_at, number_then_at, numbers_at, word_line_at, lines_at}
use Rattle.pt_image.specs.declared.image.AbortLine.{AbortLine}
use Rattle.pt_image.specs.declared.image.Point.{Point}

abbrev pub strength_at : Reader Bool
strength_at [] = None
strength_at (b ∷ bs) = if b == 119 then Some (true, bs) else if b == 115 then Some (false, bs) else None

-- an abort line over a code of so many words
unfoldable pub abort_at : ℕ → Reader AbortLine
abort_at code bytes = do
  weak ← strength_at bytes
  rest ← past_at 32 weak.1
  cond ← number_then_at 32 code rest
  handler ← number_then_at 10 code cond.1
  Some (record { weak = weak.0; cond = cond.0; handler = handler.0 }, handler.1)

-- a listed pause or fork over so many code words, slots and abort lines
unfoldable pub point_at : ℕ → ℕ → ℕ → Reader Point
point_at code slots aborts bytes = do
  at ← number_then_at 32 code bytes
  slot ← number_then_at 32 slots at.1
  stack ← numbers_at 10 9 aborts slot.1
  Some (record { at = at.0; slot = slot.0; stack = stack.0 }, stack.1)

-- no point stands at a place that was seen, or at that of an earlier one
abbrev pub fresh : List Bool → List Point → Bool
fresh seen [] = true
fresh seen (x ∷ xs) = if slice_index_or seen x.at true then false else fresh (slice_set seen x.at true) xs

unfoldable pub code_at : Reader (List ℕ)
code_at bytes = lines_at (codes "code ") 1 65537 word_line_at bytes

unfoldable pub signals_at : List ℕ → ℕ → Reader (List ℕ)
signals_at name memory bytes = lines_at name 0 65 (number_then_at 10 memory) bytes

unfoldable pub slots_at : ℕ → Reader (List ℕ)
slots_at code bytes = lines_at (codes "slots ") 1 65 (number_then_at 10 code) bytes

unfoldable pub aborts_at : ℕ → Reader (List AbortLine)
aborts_at code bytes = lines_at (codes "aborts ") 0 65537 (abort_at code) bytes

unfoldable pub points_at : List ℕ → ℕ → ℕ → ℕ → Reader (List Point)
points_at name code slots aborts bytes = do
  points ← lines_at name 0 65537 (point_at code slots aborts) bytes
  if fresh (replicate code false) points.0 then Some points else None

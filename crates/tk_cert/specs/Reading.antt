-- What is read of each part of a certificate at the front of a text, and what follows it.
use Rattle.std.specs.Prelude.{ℕ, ◌+◌, Bool, true, false, ◌&&◌, ◌==◌, nat_le, List, [], ◌∷◌, length, codes, Option, Some, None, if◌then◌else◌}
use Rattle.pt_base.specs.Reading.{◌>>=◌, Reader, past_at, number_at, number_then_at, list_at, numbers_at, many_at, count_at, lines_at}
use Rattle.tk_cert.specs.declared.cert.State.{State}
use Rattle.tk_cert.specs.declared.cert.State.TheVariants.{Free, Start, Paused, Waiting, Ended}
use Rattle.tk_cert.specs.declared.cert.Walk.{Walk}
use Rattle.tk_cert.specs.declared.cert.Line.{Line}
use Rattle.tk_cert.specs.declared.cert.Line.TheVariants.{Bare, Thread, Routine, Cond}

-- The least number that is too large: numbers are at most 1,000,000,000,000.
abbrev pub too_large : ℕ
too_large = 1000000000001

-- a number, or none where a `-` stands, given what follows the `-`
abbrev pub optional_of : List ℕ → Option (List ℕ) → Option (Option ℕ × List ℕ)
optional_of bytes None = number_at too_large bytes >>= λ n. Some (Some n.0, n.1)
optional_of bytes (Some rest) = Some (None, rest)

unfoldable pub optional_at : Reader (Option ℕ)
optional_at bytes = optional_of bytes (past_at 45 bytes)

-- the two numbers of a level, each behind a blank
unfoldable pub level_at : Reader (Option ℕ × Option ℕ)
level_at bytes = do
  front ← past_at 32 bytes
  p ← optional_at front
  middle ← past_at 32 p.1
  e ← optional_at middle
  Some ((p.0, e.0), e.1)

unfoldable pub thread_at : Reader Line
thread_at bytes = do
  front ← past_at 32 bytes
  slot ← number_then_at 32 64 front
  stack ← numbers_at 32 9 4294967296 slot.1
  loops ← list_at 9 65536 stack.1
  levels ← many_at level_at (length stack.0 + 1) loops.1
  rest ← past_at 10 levels.1
  Some (Thread slot.0 stack.0 loops.0 levels.0, rest)

unfoldable pub routine_at : Reader Line
routine_at bytes = do
  front ← past_at 32 bytes
  height ← number_then_at 32 17 front
  loops ← numbers_at 32 9 65536 height.1
  value ← number_then_at 10 too_large loops.1
  if nat_le 1 height.0 then Some (Routine height.0 loops.0 value.0, value.1) else None

unfoldable pub cond_at : Reader Line
cond_at bytes = do
  front ← past_at 32 bytes
  value ← number_then_at 10 too_large front
  Some (Cond value.0, value.1)

unfoldable pub bare_at : Reader Line
bare_at bytes = past_at 10 bytes >>= λ rest. Some (Bare, rest)

-- a line, by its first byte
unfoldable pub line_at : Reader Line
line_at [] = None
line_at (b ∷ bs) = if b == 45 then bare_at bs else if b == 84 then thread_at bs else if b == 82 then routine_at bs else if b == 67 then cond_at bs else None

unfoldable pub weight_at : Reader (ℕ × ℕ)
weight_at bytes = do
  place ← number_then_at 32 65536 bytes
  weight ← number_then_at 10 too_large place.1
  Some ((place.0, weight.0), weight.1)

-- the places rise, and the first isn't below this one
abbrev pub rise_from : ℕ → List (ℕ × ℕ) → Bool
rise_from low [] = true
rise_from low (w ∷ ws) = nat_le low w.0 && rise_from (w.0 + 1) ws

unfoldable pub slot_at : Reader (Option ℕ × Option ℕ)
slot_at bytes = do
  p ← optional_at bytes
  middle ← past_at 32 p.1
  e ← optional_at middle
  rest ← past_at 10 e.1
  Some ((p.0, e.0), rest)

-- a place behind a blank, and the line feed that ends it
unfoldable pub place_at : Reader ℕ
place_at bytes = past_at 32 bytes >>= λ rest. number_then_at 10 65536 rest

-- nothing but the line feed
abbrev pub plain_at : State → Reader State
plain_at s bytes = past_at 10 bytes >>= λ rest. Some (s, rest)

-- a state, by its first byte
unfoldable pub state_at : Reader State
state_at [] = None
state_at (b ∷ bs) = if b == 102 then plain_at Free bs else if b == 115 then plain_at Start bs else if b == 112 then (place_at bs >>= λ n. Some (Paused n.0, n.1)) else if b == 119 then (place_at bs >>= λ n. Some (Waiting n.0, n.1)) else if b == 101 then plain_at Ended bs else None

unfoldable pub choice_at : Reader Bool
choice_at [] = None
choice_at (b ∷ bs) = if b == 48 then Some (false, bs) else if b == 49 then Some (true, bs) else None

-- ---- groups of lines

unfoldable pub bound_at : Reader ℕ
bound_at bytes = count_at (codes "bound ") 0 too_large bytes

unfoldable pub places_at : Reader (List Line)
places_at bytes = lines_at (codes "at ") 1 65537 line_at bytes

unfoldable pub loops_at : Reader (List (ℕ × ℕ))
loops_at bytes = do
  weights ← lines_at (codes "loops ") 0 65537 weight_at bytes
  if rise_from 0 weights.0 then Some weights else None

unfoldable pub slots_at : Reader (List (Option ℕ × Option ℕ))
slots_at bytes = lines_at (codes "slots ") 1 65 slot_at bytes

unfoldable pub choices_at : Reader (List Bool)
choices_at bytes = do
  n ← count_at (codes "choices ") 0 too_large bytes
  choices ← many_at choice_at n.0 n.1
  rest ← past_at 10 choices.1
  Some (choices.0, rest)

unfoldable pub walk_at : Reader Walk
walk_at bytes = do
  states ← lines_at (codes "walk ") 1 65 state_at bytes
  choices ← choices_at states.1
  Some (record { states = states.0; choices = choices.0 }, choices.1)

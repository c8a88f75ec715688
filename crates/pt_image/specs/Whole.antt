-- What is read of a whole text, or the number of the first group of lines that is at fault.
use Rattle.std.specs.Prelude.{◌≡◌, ℕ, ℤ, List, [], ◌∷◌, length, nat_lt, codes, Option, None, Result, Ok, Err, if◌then◌else◌}
use Rattle.pt_base.specs.Steps.{◌>>=◌, numbered}
use Rattle.pt_base.specs.Reading.{Reader, past_all_at, signed_line_at, lines_at}
use Rattle.pt_base.specs.declared.fault.Unread.{Unread}
use Rattle.pt_base.specs.declared.fault.Unread.TheVariants as unread
use Rattle.pt_image.specs.declared.fault.ImageFault.{ImageFault}
use Rattle.pt_image.specs.declared.fault.ImageFault.TheVariants.{Form, Memory}
use Rattle.pt_image.specs.declared.image.Parts.{Parts}
use Rattle.pt_image.specs.Text.{heading}
use Rattle.pt_image.specs.Reading.{code_at, signals_at, slots_at, aborts_at, points_at}

-- a fault of form is the number that reading gives
abbrev pub FailsAs : {Y : Type 0} → ImageFault → Result Y ℕ → Type 0
FailsAs (Form number) read = read ≡ Err number
FailsAs Memory read = Unit {0}

-- What a function gave, seen by view, is what reading gives, unless memory ran out.
abbrev pub Answers : {X Y : Type 0} → (X → Y) → Result X ImageFault → Result Y ℕ → Type 0
Answers view (Ok x) read = read ≡ Ok (view x)
Answers view (Err f) read = FailsAs f read

-- the fault of a group of lines
abbrev pub fault_of : ℕ → Unread → ImageFault
fault_of number unread.Form = Form number
fault_of number unread.Memory = Memory

-- the most bytes of an image's text
abbrev pub most_bytes : ℕ
most_bytes = 16777216

unfoldable pub heading_at : List ℕ → Option (List ℕ)
heading_at bytes = if nat_lt most_bytes (length bytes) then None else past_all_at heading bytes

unfoldable pub memory_at : Reader (List ℤ)
memory_at bytes = lines_at (codes "memory ") 0 16385 signed_line_at bytes

abbrev pub ended_at : Parts → List ℕ → Result Parts ℕ
ended_at p [] = Ok p
ended_at p (b ∷ bs) = Err 10

unfoldable pub parts_at : List ℕ → Result Parts ℕ
parts_at bytes = do
  rest ← numbered 1 (heading_at bytes)
  code ← numbered 2 (code_at rest)
  memory ← numbered 3 (memory_at code.1)
  inputs ← numbered 4 (signals_at (codes "inputs ") (length memory.0) memory.1)
  outputs ← numbered 5 (signals_at (codes "outputs ") (length memory.0) inputs.1)
  slots ← numbered 6 (slots_at (length code.0) outputs.1)
  aborts ← numbered 7 (aborts_at (length code.0) slots.1)
  pauses ← numbered 8 (points_at (codes "pauses ") (length code.0) (length slots.0) (length aborts.0) aborts.1)
  forks ← numbered 9 (points_at (codes "forks ") (length code.0) (length slots.0) (length aborts.0) pauses.1)
  ended_at (record { code = code.0; memory = memory.0; inputs = inputs.0; outputs = outputs.0; slots = slots.0; aborts = aborts.0; pauses = pauses.0; forks = forks.0 }) forks.1

-- What is read of a whole text, or the number of the first group of lines that is at fault.
use Rattle.std.specs.Prelude.{◌≡◌, ℕ, List, [], ◌∷◌, length, nat_lt, Option, None, Result, Ok, Err, if◌then◌else◌}
use Rattle.pt_base.specs.Steps.{◌>>=◌, numbered}
use Rattle.pt_base.specs.Reading.{past_all_at}
use Rattle.pt_base.specs.declared.fault.Unread.{Unread}
use Rattle.pt_base.specs.declared.fault.Unread.TheVariants as unread
use Rattle.tk_cert.specs.declared.fault.CertFault.{CertFault}
use Rattle.tk_cert.specs.declared.fault.CertFault.TheVariants.{Form, Memory}
use Rattle.tk_cert.specs.declared.cert.CertParts.{CertParts}
use Rattle.tk_cert.specs.Text.{heading}
use Rattle.tk_cert.specs.Reading.{bound_at, places_at, loops_at, slots_at, walk_at}

-- a fault of form is the number that reading gives
abbrev pub FailsAs : {Y : Type 0} → CertFault → Result Y ℕ → Type 0
FailsAs (Form number) read = read ≡ Err number
FailsAs Memory read = Unit {0}

-- What a function gave, seen by view, is what reading gives, unless memory ran out.
abbrev pub Answers : {X Y : Type 0} → (X → Y) → Result X CertFault → Result Y ℕ → Type 0
Answers view (Ok x) read = read ≡ Ok (view x)
Answers view (Err f) read = FailsAs f read

-- the fault of a group of lines
abbrev pub fault_of : ℕ → Unread → CertFault
fault_of number unread.Form = Form number
fault_of number unread.Memory = Memory

-- the most bytes of a certificate's text
abbrev pub most_bytes : ℕ
most_bytes = 1099511627776

unfoldable pub heading_at : List ℕ → Option (List ℕ)
heading_at bytes = if nat_lt most_bytes (length bytes) then None else past_all_at heading bytes

abbrev pub ended_at : CertParts → List ℕ → Result CertParts ℕ
ended_at c [] = Ok c
ended_at c (b ∷ bs) = Err 7

unfoldable pub parts_at : List ℕ → Result CertParts ℕ
parts_at bytes = do
  rest ← numbered 1 (heading_at bytes)
  bound ← numbered 2 (bound_at rest)
  lines ← numbered 3 (places_at bound.1)
  weights ← numbered 4 (loops_at lines.1)
  slots ← numbered 5 (slots_at weights.1)
  walk ← numbered 6 (walk_at slots.1)
  ended_at (record { bound = bound.0; lines = lines.0; weights = weights.0; slot_bounds = slots.0; walk = walk.0 }) walk.1

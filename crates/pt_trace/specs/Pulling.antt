-- What a pull into the table does, and what is known of the bytes that are kept when no more are pulled.
use Rattle.std.specs.Prelude.{◌≡◌, ◌<◌, ℕ, Bool, true, false, List, length, Option, Result, Ok, Err}
use Rattle.std.specs.Io.KnownBytes.{IsAtEnd}

-- bytes came, the input is at its end, or the source failed
abbrev pub Pulls : {E : Type 0} → List ℕ → List ℕ → Option (List ℕ) → Type 0 → Result Bool E → Type 0
Pulls old new left rose (Ok true) = length old < length new
Pulls old new left rose (Ok false) = (new ≡ old) × IsAtEnd left
Pulls old new left rose (Err e) = (new ≡ old) × rose

-- What a call writes: docs/commands.md, "Output".
use Rattle.std.specs.Prelude.{◌≡◌, ◌≤◌, ℕ, true, List, [], ◌∷◌, ◌++◌, take}
use Rattle.std.specs.Io.KnownBytes.{Appends, Keeps}
use Rattle.pt_outside.specs.Counts.{Rose, next}
use Rattle.pt_outside.specs.Told.{SinkTold}
use Rattle.pretc_run.specs.Endings.{write_fault}

-- the bytes of lines, one after another
abbrev pub text_of : List (List ℕ) → List ℕ
text_of [] = []
text_of (l ∷ ls) = l ++ text_of ls

-- a count of pushes after a push for each of these lines
abbrev pub pushed : ℕ → List (List ℕ) → ℕ
pushed n [] = n
pushed n (l ∷ ls) = pushed (next n) ls

-- these lines were written, each by one push, and nothing failed
pub record Wrote (before after : SinkTold) (lines : List (List ℕ)) : Type 0 where
  pub written : Appends before.written after.written (text_of lines)
  pub pushes : after.pushes ≡ pushed before.pushes lines
  pub faults : after.faults ≡ before.faults

-- these lines were written whole, then a front of the next, where the sink failed
pub record BrokeOff (before after : SinkTold) (whole : List (List ℕ)) (next : List ℕ) : Type 0 where
  pub front : ℕ
  pub written : Appends before.written after.written (text_of whole ++ take front next)
  pub later : before.faults ≤ after.faults
  pub rose : Rose before.faults after.faults

abbrev pub first_of : List (List ℕ) → List ℕ
first_of [] = []
first_of (l ∷ ls) = l

-- these lines are written and sent, and this status is answered
pub record IsAnswered (due : List (List ℕ)) (status : ℕ) (before after : SinkTold) (answer : ℕ) : Type 0 where
  pub answer_is : answer ≡ status
  pub wrote : Wrote before after due
  pub sent : after.sent ≡ true

-- the flush failed, and nothing was written
pub record IsUnsent (before after : SinkTold) : Type 0 where
  pub written : Keeps before.written after.written
  pub later : before.faults ≤ after.faults
  pub rose : Rose before.faults after.faults

-- the flush at the end of a call: what was written is sent, and this status is answered; or the flush failed
pub data Closes (status : ℕ) (before after : SinkTold) (answer : ℕ) : Type 0 where
  closed : IsAnswered [] status before after answer → Closes status before after answer
  unsent : answer ≡ write_fault → IsUnsent before after → Closes status before after answer

-- the lines that are due are written and sent, and this status is answered; or a push or the flush failed
pub data Answers (due : List (List ℕ)) (status : ℕ) (before after : SinkTold) (answer : ℕ) : Type 0 where
  answered : IsAnswered due status before after answer → Answers due status before after answer
  broke_off : (whole rest : List (List ℕ)) → answer ≡ write_fault → due ≡ whole ++ rest → BrokeOff before after whole (first_of rest) →
      Answers due status before after answer

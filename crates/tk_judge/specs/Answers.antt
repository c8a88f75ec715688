-- What the checker answers: docs/bounds.md, "Acceptance".
use Rattle.std.specs.Prelude.{◌≡◌, Bool, Option, Some, None}
use Rattle.tk_cert.specs.Demands.{Demand}
use Rattle.tk_judge.specs.declared.answer.Answer.{Answer}
use Rattle.tk_judge.specs.declared.answer.Answer.TheVariants.{Yes, No}

-- the refusal that names a demand
abbrev pub refusal : Demand → Answer
refusal d = No d.condition d.at d.level d.needed d.given

abbrev pub IsYes : Answer → Type 0
IsYes (Yes reached) = Unit {0}
IsYes other = ⊥

-- yes where no demand fails, else the first that does
abbrev pub Answers : Option Demand → Answer → Type 0
Answers None answer = IsYes answer
Answers (Some d) answer = answer ≡ refusal d

-- where the answer is yes, this holds of what it says of the walk
abbrev pub IfYes : Answer → (Bool → Type 0) → Type 0
IfYes (Yes reached) P = P reached
IfYes other P = Unit {0}

-- The flow of a program, which of its functions are called, and the links and counters that they take.
use Rattle.std.specs.Prelude.{ℕ, ◌*◌, ◌-◌, ◌==◌, ◌&&◌, nat_lt, not, length, Bool}
use Rattle.std.specs.List.{list_any}
use Rattle.pc_grammar.specs.Typing.{Typing}
use Rattle.pc_rules.specs.Known.{known_of}
use Rattle.pc_rules.specs.Nests.{heights}
use Rattle.pc_meaning.specs.Programs.{program_of}
use Rattle.pc_lower.specs.Flow.{Flow}
use Rattle.pc_lower.specs.Lowered.{flow_of}
use Rattle.pc_lower.specs.Laid.{Placing}
use Rattle.pc_lower.specs.Numbering.{slots_of, function_of}

abbrev pub typed_flow : Typing → Flow
typed_flow t = flow_of (program_of t)

abbrev pub runs_in_slot : Flow → ℕ → Bool
runs_in_slot f g = list_any (λ x. x == g) (slots_of f)

-- A function of the program that runs in no slot may be called. It takes one link fewer than its height, and at most eight counters for each
-- function that is alive in a call of it.
abbrev pub placing_of : Typing → (entrance : ℕ → ℕ) → Placing
placing_of t entrance = record {
  thread = function_of (typed_flow t);
  called = λ g. nat_lt g (length t.functions) && not (runs_in_slot (typed_flow t) g);
  entrance = entrance;
  links = λ g. known_of (heights t.functions) g - 1;
  counters = λ g. 8 * known_of (heights t.functions) g;
}

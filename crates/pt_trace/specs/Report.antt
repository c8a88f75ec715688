-- The texts of a report: docs/commands.md, "The report". Each line ends with its line feed.
use Rattle.std.specs.Prelude.{ℕ, ◌+◌, max, ℤ, List, [], ◌∷◌, ◌++◌, Option, Some, None, length, codes}
use Rattle.std.specs.List.{flat_map}
use Rattle.std.specs.Fmt.{decimal, signed_decimal}

-- each value after a blank
abbrev pub values_text : List ℤ → List ℕ
values_text values = flat_map (λ v. 32 ∷ signed_decimal v) values

abbrev pub cycles_text : Option ℕ → List ℕ
cycles_text None = []
cycles_text (Some c) = codes " cycles " ++ decimal c

-- the line of a tick: its number, its outputs and, where they are told, its cycles
abbrev pub tick_line : ℕ → List ℤ → Option ℕ → List ℕ
tick_line tick outputs cycles = codes "tick " ++ decimal tick ++ codes ":" ++ values_text outputs ++ cycles_text cycles ++ codes "\n"

-- the line before the ticks of a run under a certificate
abbrev pub bound_line : ℕ → List ℕ
bound_line bound = codes "bound " ++ decimal bound ++ codes "\n"

-- the line after the ticks of a run, and of a meaning, which has no cycles
abbrev pub worst_line : ℕ → ℕ → List ℕ
worst_line ticks worst = codes "ticks " ++ decimal ticks ++ codes " worst " ++ decimal worst ++ codes "\n"

abbrev pub ticks_line : ℕ → List ℕ
ticks_line ticks = codes "ticks " ++ decimal ticks ++ codes "\n"

-- the number of threads, and the line after ticks of whose outputs the sum alone is told
abbrev pub threads_line : ℕ → List ℕ
threads_line threads = codes "threads " ++ decimal threads ++ codes "\n"

abbrev pub sum_line : ℕ → ℤ → ℕ → List ℕ
sum_line ticks sum worst = codes "ticks " ++ decimal ticks ++ codes " sum " ++ signed_decimal sum ++ codes " worst " ++ decimal worst ++ codes "\n"

-- the lines of ticks from number k on: outputs with cycles, and outputs alone
abbrev pub tick_lines : ℕ → List (List ℤ × ℕ) → List ℕ
tick_lines k [] = []
tick_lines k (t ∷ ts) = tick_line k t.0 (Some t.1) ++ tick_lines (k + 1) ts

abbrev pub plain_lines : ℕ → List (List ℤ) → List ℕ
plain_lines k [] = []
plain_lines k (o ∷ os) = tick_line k o None ++ plain_lines (k + 1) os

-- the greatest of the cycles, 0 where there is none
abbrev pub greatest : List (List ℤ × ℕ) → ℕ
greatest [] = 0
greatest (t ∷ ts) = max t.1 (greatest ts)

-- the ticks of a run, with the line after them
abbrev pub run_text : List (List ℤ × ℕ) → List ℕ
run_text ticks = tick_lines 0 ticks ++ worst_line (length ticks) (greatest ticks)

-- the whole report of a run under a bound, and that of a meaning
abbrev pub report : ℕ → List (List ℤ × ℕ) → List ℕ
report bound ticks = bound_line bound ++ run_text ticks

abbrev pub meaning_report : List (List ℤ) → List ℕ
meaning_report outputs = plain_lines 0 outputs ++ ticks_line (length outputs)

-- The lines of a refused program, of a bad line of a trace and of a trap: docs/commands.md, "Statuses".
use Rattle.std.specs.Prelude.{ℕ, List, ◌++◌, codes}
use Rattle.std.specs.Fmt.{decimal}
use Rattle.pt_base.specs.declared.Rule.{Rule}
use Rattle.pt_base.specs.declared.Rule.TheVariants.{Z1, L1, L2, L3, S1, N1, N2, N3, N4, N5, N6, N7, N8, E1, E2, Z2, Z3, Z4, Z5, Z6, Z7, Z8, Z9}

-- the letter and the digit of a rule
abbrev pub name_of : Rule → List ℕ
name_of Z1 = codes "Z1"
name_of L1 = codes "L1"
name_of L2 = codes "L2"
name_of L3 = codes "L3"
name_of S1 = codes "S1"
name_of N1 = codes "N1"
name_of N2 = codes "N2"
name_of N3 = codes "N3"
name_of N4 = codes "N4"
name_of N5 = codes "N5"
name_of N6 = codes "N6"
name_of N7 = codes "N7"
name_of N8 = codes "N8"
name_of E1 = codes "E1"
name_of E2 = codes "E2"
name_of Z2 = codes "Z2"
name_of Z3 = codes "Z3"
name_of Z4 = codes "Z4"
name_of Z5 = codes "Z5"
name_of Z6 = codes "Z6"
name_of Z7 = codes "Z7"
name_of Z8 = codes "Z8"
name_of Z9 = codes "Z9"

-- the rule that is broken, with the place where it is
abbrev pub refused_line : Rule → ℕ → ℕ → List ℕ
refused_line rule from to = codes "refused " ++ name_of rule ++ codes " " ++ decimal from ++ codes " " ++ decimal to ++ codes "\n"

-- the rule that refuses the first bad line of a trace, as 1 for T1, and that line's number
abbrev pub trace_line : ℕ → ℕ → List ℕ
trace_line rule line = codes "trace T" ++ decimal rule ++ codes " line " ++ decimal line ++ codes "\n"

-- the place of the word that loaded or stored outside the memory, and the tick
abbrev pub trap_line : ℕ → ℕ → List ℕ
trap_line at tick = codes "trap BadAddress at " ++ decimal at ++ codes " tick " ++ decimal tick ++ codes "\n"

-- the rule that refuses a table of costs, as 1 for C1
abbrev pub costs_line : ℕ → List ℕ
costs_line rule = codes "costs C" ++ decimal rule ++ codes "\n"

-- the same with the key of the class that it names
abbrev pub cost_line : ℕ → List ℕ → List ℕ
cost_line rule key = codes "costs C" ++ decimal rule ++ codes " " ++ key ++ codes "\n"

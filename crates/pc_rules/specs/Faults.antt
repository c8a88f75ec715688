-- The faults of a program, in the order in which they are noted.
use Rattle.std.specs.Prelude.{ℕ, Bool, not, ◌&&◌, List, [], ◌∷◌, ◌++◌, Some, None, flat_map, count_by, sum_by, nat_le, nat_lt}
use Rattle.pt_base.specs.declared.limits.TheConstants.{MOST_THREADS, MOST_CELL_WORDS, MOST_NESTED, MOST_HEIGHT, MOST_WEIGHT, MOST_PASSAGE, MOST_PORTS}
use Rattle.pt_base.specs.declared.rules.Rule.TheVariants.{E1, E2, Z2, Z3, Z4, Z5, Z6, Z7, Z8, Z9}
use Rattle.pc_grammar.specs.declared.typed.Function.{Function}
use Rattle.pc_grammar.specs.Uses.{holds_pause}
use Rattle.pc_grammar.specs.Finishing.{finishes, finishing}
use Rattle.pc_grammar.specs.Typing.{Typing}
use Rattle.pc_rules.specs.Weights.{program_weight, program_passage}
use Rattle.pc_rules.specs.Nests.{Nest, Loop, Aborted, program_nests, heights}
use Rattle.pt_base.specs.First.{Fault, end_of, fault_if, first_of}
use Rattle.pc_rules.specs.Judging.{is_input, is_output}
use Rattle.pc_rules.specs.declared.noting.Noted.{Noted}

-- E1 and E2, given of each function whether it may finish
abbrev pub rule_faults_at : List Bool → Nest → List Fault
rule_faults_at known (Loop span None body loops) = fault_if (finishes known body) (E1, span)
rule_faults_at known (Loop span (Some most) body loops) = fault_if (holds_pause body) (E2, span)
rule_faults_at known (Aborted span aborts) = []

-- Z4 and Z5
abbrev pub nesting_faults_at : Nest → List Fault
nesting_faults_at (Loop span None body loops) = []
nesting_faults_at (Loop span (Some most) body loops) = fault_if (nat_le MOST_NESTED loops) (Z5, span)
nesting_faults_at (Aborted span aborts) = fault_if (nat_le MOST_NESTED aborts) (Z4, span)

-- Z6
abbrev pub tall_faults : List Function → List ℕ → List Fault
tall_faults [] heights = []
tall_faults (f ∷ rest) [] = []
tall_faults (f ∷ rest) (h ∷ heights) = fault_if (not f.thread && nat_lt MOST_HEIGHT h) (Z6, f.name.span) ++ tall_faults rest heights

abbrev pub is_thread : Function → Bool
is_thread f = f.thread

-- the limits on the whole program
abbrev pub whole_faults : Typing → List Fault
whole_faults t = fault_if (nat_lt MOST_THREADS (count_by is_thread t.functions)) (Z2, end_of t.length)
    ++ (fault_if (nat_lt MOST_CELL_WORDS (sum_by (λ cell. cell.size) t.cells)) (Z3, end_of t.length)
    ++ (fault_if (nat_lt MOST_WEIGHT (program_weight t)) (Z7, end_of t.length)
    ++ (fault_if (nat_lt MOST_PASSAGE (program_passage t)) (Z8, end_of t.length)
    ++ (fault_if (nat_lt MOST_PORTS (count_by is_input t.cells)) (Z9, end_of t.length)
    ++ fault_if (nat_lt MOST_PORTS (count_by is_output t.cells)) (Z9, end_of t.length)))))

abbrev pub rule_faults : Typing → List Fault
rule_faults t = flat_map (rule_faults_at (finishing t.functions)) (program_nests t)

abbrev pub limit_faults : Typing → List Fault
limit_faults t = flat_map nesting_faults_at (program_nests t) ++ (tall_faults t.functions (heights t.functions) ++ whole_faults t)

-- what was noted, and one more loop or abort
abbrev pub note_nest : List Bool → Noted → Nest → Noted
note_nest known n m = record { rules = first_of n.rules (rule_faults_at known m); limits = first_of n.limits (nesting_faults_at m) }

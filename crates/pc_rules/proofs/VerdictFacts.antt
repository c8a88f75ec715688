-- What is noted of a program is just what it breaks.
use Rattle.std.proofs.Common.{◌≡◌, ℕ, zero, suc, ◌<◌, ◌≤◌, Bool, true, false, not, ◌&&◌, fold, List, [], ◌∷◌, ◌++◌, Option, Some, None, ⊎_elim, refl, sym, ap, subst, ◌∙◌, arith}
use Rattle.std.specs.Prelude.{Contains, flat_map, slice_get, nat_le, nat_lt, count_by, sum_by}
use Rattle.std.proofs.lemmas.List.Sums.{fold-append}
use Rattle.std.proofs.lemmas.Bool.{leb-true, ltb-true}
use Rattle.pt_base.specs.declared.rules.Rule.{Rule}
use Rattle.pt_base.specs.declared.rules.Rule.TheVariants.{E1, E2, Z2, Z3, Z4, Z5, Z6, Z7, Z8, Z9}
use Rattle.pt_base.specs.declared.rules.Span.{Span}
use Rattle.pc_grammar.specs.declared.typed.Function.{Function}
use Rattle.pc_grammar.specs.Uses.{holds_pause}
use Rattle.pt_base.specs.First.{end_of}
use Rattle.pc_grammar.specs.Finishing.{finishes, finishing}
use Rattle.pc_grammar.specs.Typing.{Typing}
use Rattle.pc_rules.specs.Weights.{program_weight, program_passage}
use Rattle.pc_rules.specs.Nests.{Nest, Loop, Aborted, program_nests, heights}
use Rattle.pc_rules.specs.Judging.{is_input, is_output, BreaksLoops, may_finish, pauses, BreaksLimits, threads, words, aborts, loops, height, weight, passage, inputs, outputs, IsWithin, IsFirstBroken, rule_broken, limit_broken}
use Rattle.pt_base.specs.First.{Fault, first_of, fault_if}
use Rattle.pc_rules.specs.Faults.{rule_faults_at, nesting_faults_at, tall_faults, is_thread, whole_faults, rule_faults, limit_faults, note_nest}
use Rattle.pc_rules.specs.declared.noting.Noted.{Noted}
use Rattle.pt_base.proofs.Elements.{in_none, in_left, in_right, in_either, in_flat, flat_in}
use Rattle.pt_base.proofs.Least.{fault_in, in_fault, Listed, first_of_broken, none_broken}

-- ---- the rules on loops

rule_listed : (t : Typing) (rule : Rule) (span : Span) → BreaksLoops t rule span → Listed (rule_faults t) rule span
rule_listed t rule place (may_finish span body n nested finishes_is) =
    flat_in (rule_faults_at (finishing t.functions)) (program_nests t) (Loop span None body n) (E1, span) nested (fault_in (finishes (finishing t.functions) body) (E1, span) finishes_is)
rule_listed t rule place (pauses span most body n nested pauses_is) =
    flat_in (rule_faults_at (finishing t.functions)) (program_nests t) (Loop span (Some most) body n) (E2, span) nested (fault_in (holds_pause body) (E2, span) pauses_is)

rule_at : (t : Typing) (m : Nest) (f : Fault) → Contains (program_nests t) m → Contains (rule_faults_at (finishing t.functions) m) f → BreaksLoops t f.0 f.1
rule_at t (Loop span None body n) f nested found =
    let is = in_fault (finishes (finishing t.functions) body) (E1, span) f found in
    subst (λ (g : Fault). BreaksLoops t g.0 g.1) is.1 (may_finish span body n nested is.0)
rule_at t (Loop span (Some most) body n) f nested found =
    let is = in_fault (holds_pause body) (E2, span) f found in
    subst (λ (g : Fault). BreaksLoops t g.0 g.1) is.1 (pauses span most body n nested is.0)
rule_at t (Aborted span n) f nested found = absurd (in_none f found)

rule_is_broken : (t : Typing) (rule : Rule) (span : Span) → Listed (rule_faults t) rule span → BreaksLoops t rule span
rule_is_broken t rule span listed =
    let w = in_flat (rule_faults_at (finishing t.functions)) (program_nests t) (rule, span) listed in
    rule_at t w.of (rule, span) w.listed w.found

-- ---- nesting

le_true : (n : ℕ) → 8 ≤ n → nat_le 8 n ≡ true
le_true n h = grind arith

nesting_at : (t : Typing) (m : Nest) (f : Fault) → Contains (program_nests t) m → Contains (nesting_faults_at m) f → BreaksLimits t f.0 f.1
nesting_at t (Loop span None body n) f nested found = absurd (in_none f found)
nesting_at t (Loop span (Some most) body n) f nested found =
    let is = in_fault (nat_le 8 n) (Z5, span) f found in
    subst (λ (g : Fault). BreaksLimits t g.0 g.1) is.1 (loops span most body n nested (leb-true 8 n is.0))
nesting_at t (Aborted span n) f nested found =
    let is = in_fault (nat_le 8 n) (Z4, span) f found in
    subst (λ (g : Fault). BreaksLimits t g.0 g.1) is.1 (aborts span n nested (leb-true 8 n is.0))

nesting_listed : (t : Typing) (m : Nest) (f : Fault) → Contains (program_nests t) m → Contains (nesting_faults_at m) f → Contains (limit_faults t) f
nesting_listed t m f nested found =
    in_left (flat_map nesting_faults_at (program_nests t)) (tall_faults t.functions (heights t.functions) ++ whole_faults t) f
    (flat_in nesting_faults_at (program_nests t) m f nested found)

-- ---- heights

abbrev tall_if : Function → ℕ → List Fault
tall_if f h = fault_if (not f.thread && nat_lt 16 h) (Z6, f.name.span)

high_true : (b : Bool) (h : ℕ) → b ≡ false → 16 < h → (not b && nat_lt 16 h) ≡ true
high_true true h calm high = absurd (cc)
high_true false h calm high = grind arith

-- a function, its number, and its height
record Tall (functions : List Function) (heights : List ℕ) (fault : Fault) : Type 0 where
  pub i : ℕ
  pub h : ℕ
  pub f : Function
  pub is : slice_get functions i ≡ Some f
  pub height_is : slice_get heights i ≡ Some h
  pub no_thread : f.thread ≡ false
  pub high : 16 < h
  pub same : (Z6, f.name.span) ≡ fault

not_thread : (b : Bool) (h : ℕ) → (not b && nat_lt 16 h) ≡ true → (b ≡ false) × (16 < h)
not_thread true h e = absurd (cc)
not_thread false h e = (refl, ltb-true 16 h e)

tall_is : (functions : List Function) (heights : List ℕ) (fault : Fault) → Contains (tall_faults functions heights) fault → Tall functions heights fault
tall_is [] heights fault h = absurd (in_none fault h)
tall_is (f ∷ functions) [] fault h = absurd (in_none fault h)
tall_is (f ∷ functions) (n ∷ heights) fault h =
    ⊎_elim
    (λ here.
    let is = in_fault (not f.thread && nat_lt 16 n) (Z6, f.name.span) fault here in
    let parts = not_thread f.thread n is.0 in
    record { i = 0; h = n; f = f; is = refl; height_is = refl; no_thread = parts.0; high = parts.1; same = is.1 })
    (λ later.
    let w = tall_is functions heights fault later in
    record { i = suc w.i; h = w.h; f = w.f; is = w.is; height_is = w.height_is; no_thread = w.no_thread; high = w.high; same = w.same })
    (in_either (tall_if f n) (tall_faults functions heights) fault h)

no_function : (f : Function) (i : ℕ) → slice_get [] i ≡ Some f → ⊥
no_function f zero e = absurd (cc)
no_function f (suc i) e = absurd (cc)

no_height : (h i : ℕ) → slice_get [] i ≡ Some h → ⊥
no_height h zero e = absurd (cc)
no_height h (suc i) e = absurd (cc)

some_function : (f g : Function) → Some f ≡ Some g → f ≡ g
some_function f g e = cc

some_height : (h n : ℕ) → Some h ≡ Some n → h ≡ n
some_height h n e = cc

is_tall : (functions : List Function) (heights : List ℕ) (i h : ℕ) (f : Function) → slice_get functions i ≡ Some f → slice_get heights i ≡ Some h → f.thread ≡ false → 16 < h →
    Contains (tall_faults functions heights) (Z6, f.name.span)
is_tall [] heights i h f is height_is calm high = absurd (no_function f i is)
is_tall (g ∷ functions) [] i h f is height_is calm high = absurd (no_height h i height_is)
is_tall (g ∷ functions) (n ∷ heights) zero h f is height_is calm high =
    let same = some_function g f is in
    let same_height = some_height n h height_is in
    let high_is : (not f.thread && nat_lt 16 h) ≡ true = high_true f.thread h calm high in
    subst (λ (k : Function). Contains (tall_if k n ++ tall_faults functions heights) (Z6, f.name.span)) (sym same)
    (in_left (tall_if f n) (tall_faults functions heights) (Z6, f.name.span)
    (subst (λ m. Contains (tall_if f m) (Z6, f.name.span)) (sym same_height) (fault_in (not f.thread && nat_lt 16 h) (Z6, f.name.span) high_is)))
is_tall (g ∷ functions) (n ∷ heights) (suc i) h f is height_is calm high =
    in_right (tall_if g n) (tall_faults functions heights) (Z6, f.name.span) (is_tall functions heights i h f is height_is calm high)

-- ---- the whole program

lt_true : (a b : ℕ) → a < b → nat_lt a b ≡ true
lt_true a b h = grind arith

-- a fault at the end
abbrev at_end : Typing → Rule → Fault
at_end t rule = (rule, end_of t.length)

abbrev test_threads : Typing → Bool
test_threads t = nat_lt 64 (count_by is_thread t.functions)

abbrev test_words : Typing → Bool
test_words t = nat_lt 15000 (sum_by (λ cell. cell.size) t.cells)

abbrev test_weight : Typing → Bool
test_weight t = nat_lt 60000 (program_weight t)

abbrev test_passage : Typing → Bool
test_passage t = nat_lt 2000000 (program_passage t)

abbrev test_inputs : Typing → Bool
test_inputs t = nat_lt 64 (count_by is_input t.cells)

abbrev test_outputs : Typing → Bool
test_outputs t = nat_lt 64 (count_by is_output t.cells)

-- the lists of one fault or none, and those that begin at each of them
abbrev end_fault : (Typing → Bool) → Rule → Typing → List Fault
end_fault test rule t = fault_if (test t) (at_end t rule)

abbrev from_inputs : Typing → List Fault
from_inputs t = end_fault test_inputs Z9 t ++ end_fault test_outputs Z9 t

abbrev from_passage : Typing → List Fault
from_passage t = end_fault test_passage Z8 t ++ from_inputs t

abbrev from_weight : Typing → List Fault
from_weight t = end_fault test_weight Z7 t ++ from_passage t

abbrev from_words : Typing → List Fault
from_words t = end_fault test_words Z3 t ++ from_weight t

abbrev Broken : Typing → Fault → Type 0
Broken t f = BreaksLimits t f.0 f.1

of_end : (t : Typing) (f : Fault) (test : Typing → Bool) (rule : Rule) → (test t ≡ true → Broken t (at_end t rule)) → Contains (end_fault test rule t) f → Broken t f
of_end t f test rule broken found =
    let is = in_fault (test t) (at_end t rule) f found in
    subst (λ (g : Fault). Broken t g) is.1 (broken is.0)

whole_at : (t : Typing) (f : Fault) → Contains (whole_faults t) f → Broken t f
whole_at t f found =
    ⊎_elim
    (λ one. of_end t f test_threads Z2 (λ e. threads (ltb-true 64 (count_by is_thread t.functions) e)) one)
    (λ more. ⊎_elim
    (λ one. of_end t f test_words Z3 (λ e. words (ltb-true 15000 (sum_by (λ cell. cell.size) t.cells) e)) one)
    (λ more. ⊎_elim
    (λ one. of_end t f test_weight Z7 (λ e. weight (ltb-true 60000 (program_weight t) e)) one)
    (λ more. ⊎_elim
    (λ one. of_end t f test_passage Z8 (λ e. passage (ltb-true 2000000 (program_passage t) e)) one)
    (λ more. ⊎_elim
    (λ one. of_end t f test_inputs Z9 (λ e. inputs (ltb-true 64 (count_by is_input t.cells) e)) one)
    (λ one. of_end t f test_outputs Z9 (λ e. outputs (ltb-true 64 (count_by is_output t.cells) e)) one)
    (in_either (end_fault test_inputs Z9 t) (end_fault test_outputs Z9 t) f more))
    (in_either (end_fault test_passage Z8 t) (from_inputs t) f more))
    (in_either (end_fault test_weight Z7 t) (from_passage t) f more))
    (in_either (end_fault test_words Z3 t) (from_weight t) f more))
    (in_either (end_fault test_threads Z2 t) (from_words t) f found)

in_whole : (t : Typing) (f : Fault) → Contains (whole_faults t) f → Contains (limit_faults t) f
in_whole t f h =
    in_right (flat_map nesting_faults_at (program_nests t)) (tall_faults t.functions (heights t.functions) ++ whole_faults t) f
    (in_right (tall_faults t.functions (heights t.functions)) (whole_faults t) f h)

in_words : (t : Typing) (f : Fault) → Contains (from_words t) f → Contains (limit_faults t) f
in_words t f h = in_whole t f (in_right (end_fault test_threads Z2 t) (from_words t) f h)

in_weight : (t : Typing) (f : Fault) → Contains (from_weight t) f → Contains (limit_faults t) f
in_weight t f h = in_words t f (in_right (end_fault test_words Z3 t) (from_weight t) f h)

in_passage : (t : Typing) (f : Fault) → Contains (from_passage t) f → Contains (limit_faults t) f
in_passage t f h = in_weight t f (in_right (end_fault test_weight Z7 t) (from_passage t) f h)

in_inputs : (t : Typing) (f : Fault) → Contains (from_inputs t) f → Contains (limit_faults t) f
in_inputs t f h = in_passage t f (in_right (end_fault test_passage Z8 t) (from_inputs t) f h)

-- ---- the limits

limit_listed : (t : Typing) (rule : Rule) (span : Span) → BreaksLimits t rule span → Listed (limit_faults t) rule span
limit_listed t rule place (threads h) =
    let e : test_threads t ≡ true = lt_true 64 (count_by is_thread t.functions) h in
    in_whole t (at_end t Z2) (in_left (end_fault test_threads Z2 t) (from_words t) (at_end t Z2) (fault_in (test_threads t) (at_end t Z2) e))
limit_listed t rule place (words h) =
    let e : test_words t ≡ true = lt_true 15000 (sum_by (λ cell. cell.size) t.cells) h in
    in_words t (at_end t Z3) (in_left (end_fault test_words Z3 t) (from_weight t) (at_end t Z3) (fault_in (test_words t) (at_end t Z3) e))
limit_listed t rule place (aborts span n nested h) =
    nesting_listed t (Aborted span n) (Z4, span) nested (fault_in (nat_le 8 n) (Z4, span) (le_true n h))
limit_listed t rule place (loops span most body n nested h) =
    nesting_listed t (Loop span (Some most) body n) (Z5, span) nested (fault_in (nat_le 8 n) (Z5, span) (le_true n h))
limit_listed t rule place (height i h f is height_is calm high) =
    in_right (flat_map nesting_faults_at (program_nests t)) (tall_faults t.functions (heights t.functions) ++ whole_faults t) (Z6, f.name.span)
    (in_left (tall_faults t.functions (heights t.functions)) (whole_faults t) (Z6, f.name.span) (is_tall t.functions (heights t.functions) i h f is height_is calm high))
limit_listed t rule place (weight h) =
    let e : test_weight t ≡ true = lt_true 60000 (program_weight t) h in
    in_weight t (at_end t Z7) (in_left (end_fault test_weight Z7 t) (from_passage t) (at_end t Z7) (fault_in (test_weight t) (at_end t Z7) e))
limit_listed t rule place (passage h) =
    let e : test_passage t ≡ true = lt_true 2000000 (program_passage t) h in
    in_passage t (at_end t Z8) (in_left (end_fault test_passage Z8 t) (from_inputs t) (at_end t Z8) (fault_in (test_passage t) (at_end t Z8) e))
limit_listed t rule place (inputs h) =
    let e : test_inputs t ≡ true = lt_true 64 (count_by is_input t.cells) h in
    in_inputs t (at_end t Z9) (in_left (end_fault test_inputs Z9 t) (end_fault test_outputs Z9 t) (at_end t Z9) (fault_in (test_inputs t) (at_end t Z9) e))
limit_listed t rule place (outputs h) =
    let e : test_outputs t ≡ true = lt_true 64 (count_by is_output t.cells) h in
    in_inputs t (at_end t Z9) (in_right (end_fault test_inputs Z9 t) (end_fault test_outputs Z9 t) (at_end t Z9) (fault_in (test_outputs t) (at_end t Z9) e))

tall_broken : (t : Typing) (f : Fault) → Tall t.functions (heights t.functions) f → Broken t f
tall_broken t f w = subst (λ (g : Fault). Broken t g) w.same (height w.i w.h w.f w.is w.height_is w.no_thread w.high)

limit_is_broken : (t : Typing) (rule : Rule) (span : Span) → Listed (limit_faults t) rule span → BreaksLimits t rule span
limit_is_broken t rule span listed =
    ⊎_elim
    (λ nested. let w = in_flat nesting_faults_at (program_nests t) (rule, span) nested in nesting_at t w.of (rule, span) w.listed w.found)
    (λ more. ⊎_elim
    (λ tall. tall_broken t (rule, span) (tall_is t.functions (heights t.functions) (rule, span) tall))
    (λ whole. whole_at t (rule, span) whole)
    (in_either (tall_faults t.functions (heights t.functions)) (whole_faults t) (rule, span) more))
    (in_either (flat_map nesting_faults_at (program_nests t)) (tall_faults t.functions (heights t.functions) ++ whole_faults t) (rule, span) listed)

-- ---- the verdict

no_rule : (t : Typing) → first_of None (rule_faults t) ≡ None → (rule : Rule) (span : Span) → BreaksLoops t rule span → ⊥
no_rule t none = none_broken (BreaksLoops t) (rule_faults t) (rule_listed t) none

pub broken_rule : (t : Typing) (rule : Rule) (span : Span) → first_of None (rule_faults t) ≡ Some (rule, span) → IsFirstBroken t rule span
broken_rule t rule span found = rule_broken (first_of_broken (BreaksLoops t) (rule_faults t) (rule_is_broken t) (rule_listed t) rule span found)

pub broken_limit : (t : Typing) (rule : Rule) (span : Span) → first_of None (rule_faults t) ≡ None → first_of None (limit_faults t) ≡ Some (rule, span) → IsFirstBroken t rule span
broken_limit t rule span none found =
    limit_broken (no_rule t none) (first_of_broken (BreaksLimits t) (limit_faults t) (limit_is_broken t) (limit_listed t) rule span found)

pub nothing_broken : (t : Typing) → first_of None (rule_faults t) ≡ None → first_of None (limit_faults t) ≡ None → IsWithin t
nothing_broken t rules limits = record { rules = no_rule t rules; limits = none_broken (BreaksLimits t) (limit_faults t) (limit_listed t) limits }

-- ---- what was noted of all loops and aborts

noted_rules : (known : List Bool) (ms : List Nest) (n : Noted) → (fold (note_nest known) n ms).rules ≡ first_of n.rules (flat_map (rule_faults_at known) ms)
noted_rules known [] n = refl
noted_rules known (m ∷ ms) n = noted_rules known ms (note_nest known n m) ∙ sym (fold-append _ n.rules (rule_faults_at known m) (flat_map (rule_faults_at known) ms))

noted_limits : (known : List Bool) (ms : List Nest) (n : Noted) → (fold (note_nest known) n ms).limits ≡ first_of n.limits (flat_map nesting_faults_at ms)
noted_limits known [] n = refl
noted_limits known (m ∷ ms) n = noted_limits known ms (note_nest known n m) ∙ sym (fold-append _ n.limits (nesting_faults_at m) (flat_map nesting_faults_at ms))

abbrev nothing : Noted
nothing = record { rules = None; limits = None }

-- what was noted of a program
pub record IsNoted (t : Typing) (noted : Noted) : Type 0 where
  pub rules : noted.rules ≡ first_of None (rule_faults t)
  pub limits : (last : Option Fault) → last ≡ first_of noted.limits (tall_faults t.functions (heights t.functions) ++ whole_faults t) → last ≡ first_of None (limit_faults t)

pub is_noted : (t : Typing) (noted : Noted) → noted ≡ fold (note_nest (finishing t.functions)) nothing (program_nests t) → IsNoted t noted
is_noted t noted is = record {
  rules = ap (λ (n : Noted). n.rules) is ∙ noted_rules (finishing t.functions) (program_nests t) nothing;
  limits = λ last last_is.
      last_is
      ∙ ap (λ o. first_of o (tall_faults t.functions (heights t.functions) ++ whole_faults t)) (ap (λ (n : Noted). n.limits) is ∙ noted_limits (finishing t.functions) (program_nests t) nothing)
      ∙ sym (fold-append _ None (flat_map nesting_faults_at (program_nests t)) (tall_faults t.functions (heights t.functions) ++ whole_faults t));
}

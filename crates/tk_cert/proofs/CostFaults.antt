-- What a table says, from its keys.
use Rattle.std.proofs.Common.{arith, ◌≡◌, ◌≤◌, ℕ, ℤ, pos, negsuc, List, [], ◌∷◌, Bool, true, false, not, ◌||◌, Option, Some, None, Result, Ok, Err, String, Global, string_bytes, refl, ap, sym}
use Rattle.std.specs.Option.{option_and_then, unwrap_or}
use Rattle.std.specs.List.{list_any, All}
use Rattle.std.proofs.lemmas.List.Elements.{All-nil, All-cons}
use Rattle.std.proofs.lemmas.Option.{option_and_then_some}
use Rattle.std.specs.Map.{keys_of}
use Rattle.toml.specs.Data.{Data, Members, get_member, as_integer}
use Rattle.toml.specs.View.{members_view}
use Rattle.toml.specs.declared.value.Value.{Value}
use Rattle.mb_isa.specs.declared.costs.Class.{Class}
use Rattle.tk_cert.specs.declared.costs.CostFault.{CostFault}
use Rattle.tk_cert.specs.declared.costs.CostFault.TheVariants.{Form, Missing, Range, Unknown, Memory}
use Rattle.tk_cert.specs.CostTables.{key_of, in_range, cost_in, cost_at, wrong_at, wrong, numbers, is_key, has_unknown, faults_in, costs_of, IsDocument, Reads}

pub unknown_keys : (es : List (String Global × Value)) → list_any (λ k. not (is_key (string_bytes k))) (keys_of es) ≡ has_unknown (members_view es)
unknown_keys [] = refl
unknown_keys (e ∷ es) = ap (λ (b : Bool). not (is_key (string_bytes e.0)) || b) (unknown_keys es)

-- no table is a fault of form
no_form : (m w : Option Class) (u : Bool) (ns : List ℕ) → faults_in m w u ns ≡ Err Form → ⊥
no_form (Some c) w u ns e = cc (e)
no_form None (Some c) u ns e = cc (e)
no_form None None true ns e = cc (e)
no_form None None false ns e = cc (e)

pub judged : (bytes : List ℕ) (table : Members) (result : Result (List ℕ) CostFault) → IsDocument bytes table → result ≡ costs_of table → Reads bytes result
judged bytes table (Ok ns) doc e = (table, doc, sym e)
judged bytes table (Err Memory) doc e = tt
judged bytes table (Err Form) doc e = absurd (no_form _ _ _ _ (sym e))
judged bytes table (Err (Missing c)) doc e = (table, doc, sym e)
judged bytes table (Err (Range c)) doc e = (table, doc, sym e)
judged bytes table (Err Unknown) doc e = (table, doc, sym e)

-- every class has a cost, and some key is that of no class, or none is
pub at_unknown : (m w : Option Class) (u : Bool) (ns : List ℕ) → None ≡ m → None ≡ w → true ≡ u → Err Unknown ≡ faults_in m w u ns
at_unknown m w u ns no_missing no_wrong other = rw (← no_missing, ← no_wrong, ← other) refl

pub at_costs : (m w : Option Class) (u : Bool) (ns result : List ℕ) → None ≡ m → None ≡ w → false ≡ u → result ≡ ns → Ok result ≡ faults_in m w u ns
at_costs m w u ns result no_missing no_wrong no_other e = rw (← no_missing, ← no_wrong, ← no_other) (ap (λ (xs : List ℕ). Ok xs) e)

-- a number in its range is at least 1
in_range_low : (z : ℤ) (n : ℕ) → in_range z ≡ Some n → 1 ≤ n
in_range_low (pos k) n e = grind arith
in_range_low (negsuc k) n e = cc (e)

cost_low : (d : Data) (n : ℕ) → cost_in d ≡ Some n → 1 ≤ n
cost_low d n e = option_and_then_some in_range (as_integer d) n e (λ z known is. in_range_low z n is)

at_low : (o : Option Data) (n : ℕ) → option_and_then cost_in o ≡ Some n → 1 ≤ n
at_low o n e = option_and_then_some cost_in o n e (λ d known is. cost_low d n is)

number_low : (table : Members) (c : Class) (rest : Option Class) (o : Option ℕ) → cost_at table c ≡ o → wrong_at o c rest ≡ None → (1 ≤ unwrap_or o 0) × (rest ≡ None)
number_low table c rest None is e = cc (e)
number_low table c rest (Some n) is e = (at_low (get_member (key_of c) table) n is, e)

-- where each class has a cost, each of these is at least 1
pub numbers_low : (table : Members) (cs : List Class) → wrong table cs ≡ None → All (λ n. 1 ≤ n) (numbers table cs)
numbers_low table [] e = All-nil (λ n. 1 ≤ n)
numbers_low table (c ∷ cs) e =
    let first = number_low table c (wrong table cs) (cost_at table c) refl e in
    All-cons (λ n. 1 ≤ n) (unwrap_or (cost_at table c) 0) (numbers table cs) first.0 (numbers_low table cs first.1)

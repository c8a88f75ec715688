-- The first of the rules that are broken: by the start of the span, then by the rule's number.
use Rattle.std.specs.Prelude.{◌≡◌, ℕ, ◌<◌, ◌≤◌, Bool, true, false, ◌||◌, ◌&&◌, List, [], ◌∷◌, Option, Some, None, fold, nat_lt, nat_eq}
use Rattle.pt_base.specs.declared.rules.Rule.{Rule}
use Rattle.pt_base.specs.declared.rules.Rule.TheVariants.{Z1, L1, L2, L3, S1, N1, N2, N3, N4, N5, N6, N7, N8, E1, E2, Z2, Z3, Z4, Z5, Z6, Z7, Z8, Z9}
use Rattle.pt_base.specs.declared.rules.Span.{Span}

-- the place in the order in which rules are looked for
abbrev pub number_of : Rule → ℕ
number_of Z1 = 0
number_of L1 = 1
number_of L2 = 2
number_of L3 = 3
number_of S1 = 4
number_of N1 = 5
number_of N2 = 6
number_of N3 = 7
number_of N4 = 8
number_of N5 = 9
number_of N6 = 10
number_of N7 = 11
number_of N8 = 12
number_of E1 = 13
number_of E2 = 14
number_of Z2 = 15
number_of Z3 = 16
number_of Z4 = 17
number_of Z5 = 18
number_of Z6 = 19
number_of Z7 = 20
number_of Z8 = 21
number_of Z9 = 22

-- one broken rule comes first where its span starts earlier, or at the same byte with no greater number
pub data ComesFirst (rule other : Rule) (span another : Span) : Type 0 where
  earlier : span.from < another.from → ComesFirst rule other span another
  here : span.from ≡ another.from → number_of rule ≤ number_of other → ComesFirst rule other span another

-- of what is broken by `B` this comes first
pub record IsFirst (B : Rule → Span → Type 0) (rule : Rule) (span : Span) : Type 0 where
  pub broken : B rule span
  pub least : (other : Rule) (another : Span) → B other another → ComesFirst rule other span another

-- the end of a source of so many bytes
abbrev pub end_of : ℕ → Span
end_of length = record { from = length; to = length }

-- ---- of a list of faults

-- a rule that is broken, and where
abbrev pub Fault : Type 0
Fault = Rule × Span

abbrev pub comes_before : Fault → Fault → Bool
comes_before f g = nat_lt f.1.from g.1.from || (nat_eq f.1.from g.1.from && nat_lt (number_of f.0) (number_of g.0))

abbrev pub sooner_of : Bool → Fault → Fault → Option Fault
sooner_of true f g = Some f
sooner_of false f g = Some g

-- the sooner of what was found and one more; what was found first where neither comes before the other
abbrev pub sooner : Option Fault → Fault → Option Fault
sooner None f = Some f
sooner (Some g) f = sooner_of (comes_before f g) f g

-- the first of what was found and these
abbrev pub first_of : Option Fault → List Fault → Option Fault
first_of found faults = fold sooner found faults

abbrev pub fault_if : Bool → Fault → List Fault
fault_if true f = f ∷ []
fault_if false f = []

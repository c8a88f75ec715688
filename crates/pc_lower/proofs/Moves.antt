-- Goals, parameters, locals and tests, in steps.
use Rattle.std.proofs.Common.{◌≡◌, ℕ, ◌<◌, ◌+◌, nat_eq, nat_lt, Bool, true, false, List, [], ◌∷◌, ◌++◌, Option, Some, None, slice_set, refl, ap, ◌∙◌, arith}
use Rattle.std.specs.Prelude.{ℤ, pos, negsuc, if◌then◌else◌}
use Rattle.std.proofs.lemmas.List.{get_or-set_other}
use Rattle.pt_base.specs.Operators.{is_true, unary_of, binary_of}
use Rattle.pc_meaning.specs.Tree.{Expression, Operands, number, cell, element, unary, chain, alone, operand, Goal, nowhere, to_cell, to_element}
use Rattle.pc_meaning.specs.Values.{Store, word_at, element_at, with_element, value, operated, holds, value_or_zero, put, set_all, values, set_locals}
use Rattle.pc_lower.specs.declared.nodes.Place.TheVariants.{Temp as temp}
use Rattle.pc_lower.specs.declared.nodes.Step.TheVariants.{Save as save, PutElement as put_element}
use Rattle.pc_lower.specs.Flow.{State, tested, decides, step, run}
use Rattle.pc_lower.specs.Lowered.{steps_of, test_of, taken, passed, steps_or_zero, locals_steps}
use Rattle.pc_lower.specs.Sound.{Apart, ApartAll, EachApart, ArgumentsApart, Gives}
use Rattle.pc_lower.specs.Laws.{Leaves}
use Rattle.pc_lower.proofs.Values.{run_append, leaves_value, leaves_now}

-- ---- a value that names no word of a place

element_apart : (first size place : ℕ) (x i : ℤ) (store : Store) → ((k : ℕ) → k < size → nat_eq (first + k) place ≡ false) → element_at (slice_set store place x) first size i ≡ element_at store first size i
element_apart first size place x (negsuc i) store apart = refl
element_apart first size place x (pos i) store apart = by (nat_lt i size) refl
  where
    by : (b : Bool) → nat_lt i size ≡ b → (if b then word_at (slice_set store place x) (first + i) else pos 0) ≡ (if b then word_at store (first + i) else pos 0)
    by true is = get_or-set_other store place (first + i) x (pos 0) (λ same. let not : nat_eq (first + i) place ≡ false = apart i (grind (arith, is)) in grind (arith, not, same))
    by false is = refl

mutual
  pub value_apart : (place : ℕ) (x : ℤ) (store : Store) (e : Expression) → Apart place e → value e (slice_set store place x) ≡ value e store
  value_apart place x store (number n) apart = refl
  value_apart place x store (cell word) apart = get_or-set_other store place word x (pos 0) (λ same. grind (arith, apart, same))
  value_apart place x store (element first size index) apart =
      ap (element_at (slice_set store place x) first size) (value_apart place x store index apart.1) ∙ element_apart first size place x (value index store) store apart.0
  value_apart place x store (unary op e) apart = ap (unary_of op) (value_apart place x store e apart)
  value_apart place x store (chain e rest) apart =
      ap (λ v. operated rest v (slice_set store place x)) (value_apart place x store e apart.0) ∙ operated_apart place x store rest (value e store) apart.1

  operated_apart : (place : ℕ) (x : ℤ) (store : Store) (rest : Operands) (so_far : ℤ) → ApartAll place rest → operated rest so_far (slice_set store place x) ≡ operated rest so_far store
  operated_apart place x store alone so_far apart = refl
  operated_apart place x store (operand op e rest) so_far apart =
      ap (λ v. operated rest (binary_of op so_far v) (slice_set store place x)) (value_apart place x store e apart.0) ∙ operated_apart place x store rest (binary_of op so_far (value e store)) apart.1

values_apart : (place : ℕ) (x : ℤ) (store : Store) (es : List Expression) → EachApart place es → values es (slice_set store place x) ≡ values es store
values_apart place x store [] apart = refl
values_apart place x store (e ∷ es) apart = ap (λ v. v ∷ values es (slice_set store place x)) (value_apart place x store e apart.0) ∙ ap (λ vs. value e store ∷ vs) (values_apart place x store es apart.1)

fewer_apart : (places : List ℕ) (e : Expression) (es : List Expression) → ArgumentsApart places (e ∷ es) → ArgumentsApart places es
fewer_apart [] e es apart = tt
fewer_apart (place ∷ places) e es apart = (apart.0.1, fewer_apart places e es apart.1)

-- ---- one value, and its word to a cell

-- the store after a value's steps and a `save`
pub saved : (e : Expression) (place : ℕ) (w : State) → (step (save place (temp 0)) (run (steps_of e 0) w)).store ≡ slice_set w.store place (value e w.store)
saved e place w =
    let h = leaves_value e 0 w in
    ap (λ s. slice_set s place ((run (steps_of e 0) w).temps (temp 0))) h.store ∙ ap (slice_set w.store place) h.there

-- parameters, one by one
pub passed_sets : (places : List ℕ) (es : List Expression) (w : State) → ArgumentsApart places es → (run (passed places es) w).store ≡ set_all places (values es w.store) w.store
passed_sets [] es w apart = refl
passed_sets (place ∷ places) [] w apart = refl
passed_sets (place ∷ places) (e ∷ es) w apart =
    let u = step (save place (temp 0)) (run (steps_of e 0) w) in
    let now : u.store ≡ slice_set w.store place (value e w.store) = saved e place w in
    ap (λ v. v.store) (run_append (steps_of e 0) (save place (temp 0) ∷ passed places es) w)
    ∙ passed_sets places es u (fewer_apart places e es apart.1)
    ∙ ap (λ s. set_all places (values es s) s) now
    ∙ ap (λ vs. set_all places vs (slice_set w.store place (value e w.store))) (values_apart place (value e w.store) w.store es apart.0.1)

saved_or_zero : (e : Option Expression) (place : ℕ) (w : State) → (step (save place (temp 0)) (run (steps_or_zero e) w)).store ≡ slice_set w.store place (value_or_zero e w.store)
saved_or_zero None place w = ap (slice_set w.store place) (leaves_now 0 (pos 0) w).there
saved_or_zero (Some e) place w = saved e place w

-- locals
pub locals_set : (locals : List (ℕ × Option Expression)) (w : State) → (run (locals_steps locals) w).store ≡ set_locals locals w.store
locals_set [] w = refl
locals_set (l ∷ locals) w =
    ap (λ v. v.store) (run_append (steps_or_zero l.1) (save l.0 (temp 0) ∷ locals_steps locals) w)
    ∙ locals_set locals (step (save l.0 (temp 0)) (run (steps_or_zero l.1) w))
    ∙ ap (set_locals locals) (saved_or_zero l.1 l.0 w)

-- temporary 0 comes to its goal
pub taken_puts : (goal : Goal) (w : State) → (run (taken goal) w).store ≡ put goal (w.temps (temp 0)) w.store
taken_puts nowhere w = refl
taken_puts (to_cell place) w = refl
taken_puts (to_element first size index) w =
    let v = run (steps_of index 1) w in
    let h : Leaves 1 (value index w.store) w v = leaves_value index 1 w in
    ap (λ u. u.store) (run_append (steps_of index 1) (put_element first size (temp 1) (temp 0) ∷ []) w)
    ∙ ap (λ s. with_element s first size (v.temps (temp 1)) (v.temps (temp 0))) h.store
    ∙ ap (λ i. with_element w.store first size i (v.temps (temp 0))) h.there
    ∙ ap (with_element w.store first size (value index w.store)) (h.kept 0 (omega arith))

-- an assignment
pub assigned : (goal : Goal) (e : Expression) (w : State) → (run (steps_of e 0 ++ taken goal) w).store ≡ put goal (value e w.store) w.store
assigned goal e w =
    let h : Leaves 0 (value e w.store) w (run (steps_of e 0) w) = leaves_value e 0 w in
    ap (λ v. v.store) (run_append (steps_of e 0) (taken goal) w)
    ∙ taken_puts goal (run (steps_of e 0) w)
    ∙ ap (put goal ((run (steps_of e 0) w).temps (temp 0))) h.store
    ∙ ap (λ x. put goal x w.store) h.there

-- a result that is there is taken
pub returned_puts : (goal : Goal) (result : Option Expression) (w : State) → Gives goal result → ((e : Expression) → result ≡ Some e → w.temps (temp 0) ≡ value e w.store) → (run (taken goal) w).store ≡ put goal (value_or_zero result w.store) w.store
returned_puts nowhere result w gives back = refl
returned_puts (to_cell place) None w gives back = absurd gives
returned_puts (to_cell place) (Some e) w gives back = taken_puts (to_cell place) w ∙ ap (λ x. put (to_cell place) x w.store) (back e refl)
returned_puts (to_element first size index) None w gives back = absurd gives
returned_puts (to_element first size index) (Some e) w gives back = taken_puts (to_element first size index) w ∙ ap (λ x. put (to_element first size index) x w.store) (back e refl)

-- ---- tests

pub test_decides : (e : Expression) (w : State) → decides (test_of e) w ≡ holds e w.store
test_decides e w = ap is_true (leaves_value e 0 w).there

pub test_keeps : (e : Expression) (w : State) → (tested (test_of e) w).store ≡ w.store
test_keeps e w = (leaves_value e 0 w).store

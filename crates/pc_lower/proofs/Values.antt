-- The steps of a value leave its word.
use Rattle.std.proofs.Common.{◌≡◌, ℕ, suc, ◌<◌, nat_eq, true, false, List, [], ◌∷◌, ◌++◌, refl, sym, ap, ◌∙◌, subst, arith}
use Rattle.std.specs.Prelude.{ℤ, if◌then◌else◌}
use Rattle.pt_base.specs.Operators.{unary_of, binary_of}
use Rattle.pc_meaning.specs.Tree.{Expression, Operands, number, cell, element, unary, chain, alone, operand}
use Rattle.pc_meaning.specs.Values.{element_at, value, operated}
use Rattle.pc_lower.specs.declared.nodes.Place.TheVariants.{Temp as temp}
use Rattle.pc_lower.specs.declared.nodes.Step.{Step}
use Rattle.pc_lower.specs.declared.nodes.Step.TheVariants.{Binary as binary_step, TakeElement as take_element, Unary as unary_step}
use Rattle.pc_lower.specs.Flow.{State, put_temp, step, run}
use Rattle.pc_lower.specs.Lowered.{steps_of, operands_of}
use Rattle.pc_lower.specs.Laws.{Leaves}

pub run_append : (a b : List Step) (w : State) → run (a ++ b) w ≡ run b (run a w)
run_append [] b w = refl
run_append (s ∷ a) b w = run_append a b (step s w)

nat_eq-same : (k : ℕ) → nat_eq k k ≡ true
nat_eq-same k = grind arith

nat_eq-less : (j k : ℕ) → j < k → nat_eq j k ≡ false
nat_eq-less j k h = grind arith

pub put_here : (k : ℕ) (x : ℤ) (w : State) → (put_temp (temp k) x w).temps (temp k) ≡ x
put_here k x w = ap (λ b. if b then x else w.temps (temp k)) (nat_eq-same k)

pub put_below : (j k : ℕ) (x : ℤ) (w : State) → j < k → (put_temp (temp k) x w).temps (temp j) ≡ w.temps (temp j)
put_below j k x w h = ap (λ b. if b then x else w.temps (temp j)) (nat_eq-less j k h)

-- the word of a step over what is left already
pub put_after : (k : ℕ) (x y z : ℤ) (w v : State) → Leaves k y w v → z ≡ x → Leaves k x w (put_temp (temp k) z v)
put_after k x y z w v h e = record {
  store = h.store;
  there = put_here k z v ∙ e;
  kept = λ j less. put_below j k z v less ∙ h.kept j less;
}

pub leaves_now : (k : ℕ) (x : ℤ) (w : State) → Leaves k x w (put_temp (temp k) x w)
leaves_now k x w = record { store = refl; there = put_here k x w; kept = λ j less. put_below j k x w less }

mutual
  pub leaves_value : (e : Expression) (k : ℕ) (w : State) → Leaves k (value e w.store) w (run (steps_of e k) w)
  leaves_value (number n) k w = leaves_now k _ w
  leaves_value (cell place) k w = leaves_now k _ w
  leaves_value (element first size index) k w =
      let v = run (steps_of index k) w in
      let h : Leaves k (value index w.store) w v = leaves_value index k w in
      subst (Leaves k (element_at w.store first size (value index w.store)) w) (sym (run_append (steps_of index k) (take_element (temp k) first size (temp k) ∷ []) w)) (
      put_after k _ _ _ w v h (ap (λ s. element_at s first size (v.temps (temp k))) h.store ∙ ap (element_at w.store first size) h.there)
      )
  leaves_value (unary op e) k w =
      let v = run (steps_of e k) w in
      let h : Leaves k (value e w.store) w v = leaves_value e k w in
      subst (Leaves k (unary_of op (value e w.store)) w) (sym (run_append (steps_of e k) (unary_step op (temp k) (temp k) ∷ []) w)) (
      put_after k _ _ _ w v h (ap (unary_of op) h.there)
      )
  leaves_value (chain e rest) k w =
      let v = run (steps_of e k) w in
      let h : Leaves k (value e w.store) w v = leaves_value e k w in
      let g : Leaves k (operated rest (value e w.store) v.store) v (run (operands_of rest k) v) = leaves_operands rest k (value e w.store) v h.there in
      subst (Leaves k (operated rest (value e w.store) w.store) w) (sym (run_append (steps_of e k) (operands_of rest k) w)) (
      record {
        store = g.store ∙ h.store;
        there = g.there ∙ ap (operated rest (value e w.store)) h.store;
        kept = λ j less. g.kept j less ∙ h.kept j less;
      }
      )

  leaves_operands : (rest : Operands) (k : ℕ) (so_far : ℤ) (w : State) → w.temps (temp k) ≡ so_far → Leaves k (operated rest so_far w.store) w (run (operands_of rest k) w)
  leaves_operands alone k so_far w is = record { store = refl; there = is; kept = λ j less. refl }
  leaves_operands (operand op e rest) k so_far w is =
      let v = run (steps_of e (suc k)) w in
      let h : Leaves (suc k) (value e w.store) w v = leaves_value e (suc k) w in
      let x = binary_of op (v.temps (temp k)) (v.temps (temp (suc k))) in
      let u = put_temp (temp k) x v in
      let old : v.temps (temp k) ≡ so_far = h.kept k (omega arith) ∙ is in
      let new : x ≡ binary_of op so_far (value e w.store) = ap (λ a. binary_of op a (v.temps (temp (suc k)))) old ∙ ap (binary_of op so_far) h.there in
      let g : Leaves k (operated rest (binary_of op so_far (value e w.store)) u.store) u (run (operands_of rest k) u) = leaves_operands rest k (binary_of op so_far (value e w.store)) u (put_here k x v ∙ new) in
      subst (Leaves k (operated rest (binary_of op so_far (value e w.store)) w.store) w) (sym (run_append (steps_of e (suc k)) (binary_step op (temp k) (temp k) (temp (suc k)) ∷ operands_of rest k) w)) (
      record {
        store = g.store ∙ h.store;
        there = g.there ∙ ap (operated rest (binary_of op so_far (value e w.store))) h.store;
        kept = λ j less. g.kept j less ∙ put_below j k x v less ∙ h.kept j (omega arith);
      }
      )

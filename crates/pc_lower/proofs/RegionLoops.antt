-- The turns of a bounded loop.
use Rattle.std.proofs.Common.{◌≡◌, ℕ, zero, suc, ◌+◌, ◌*◌, ◌≤◌, ◌==◌, Bool, true, false, if◌then◌else◌, List, length, Some, None, refl, sym, ap, ◌∙◌, subst, arith}
use Rattle.mb_isa.specs.declared.Instr.TheVariants.{Imm, Next, Drop}
use Rattle.mb_isa.specs.declared.Class.TheVariants as class
use Rattle.mb_isa.specs.Costs.{cost_of}
use Rattle.mb_pfu.specs.declared.parts.Watch.{Watch}
use Rattle.mb_pfu.specs.Tree.{Leaf, Running}
use Rattle.mb_pfu.specs.Contexts.{Context, plug, middle}
use Rattle.pt_image.specs.declared.Parts.{Parts}
use Rattle.mb_isa.specs.Control.{Turn, goes}
use Rattle.mb_isa.specs.Step.{Rules}
use Rattle.pc_lower.specs.declared.nodes.Test.{Test}
use Rattle.pc_lower.specs.Flow.{tested, decides, End, state_of, looping, State as FlowState}
use Rattle.pc_lower.specs.Slots.{IsGood}
use Rattle.pc_lower.specs.Places.{Has, HasLoop, wide_loop, short_loop}
use Rattle.pc_lower.specs.Law.{Nesting, with_counter, unit_at, placed, Comes}
use Rattle.pc_lower.proofs.StepFacts.{does-word, second}
use Rattle.pc_lower.proofs.Calling.{loop-step, loop-second, next-over, next-turn, drop-step}
use Rattle.pc_lower.proofs.Paths.{more, after_step, go_on_to, at_once}

module _ (parent : ℕ → ℕ) (image : Parts) (costs : List ℕ) {Data : Type 0} (rules : Rules Data) (Represents : Data → FlowState → Type 0)
    (nest : Nesting) (context : Context) (good : IsGood parent context) (e : List Watch) where
  -- a loop opens
  pub opens : (n from head stale : ℕ) (d : Data) (state : FlowState) → (length nest.counters == 136) ≡ false → HasLoop image n from head → Represents d state →
      Comes image costs rules Represents (placed image nest context e stale from) d (λ q. placed image (with_counter nest n) context e q head) state 2
  opens n from head stale d state room (wide_loop upper low one two is end) rep =
      let u = unit_at image nest (plug context (Leaf e (Running stale))) in
      after_step image costs rules Represents (placed image nest context e stale from) (second image costs rules upper (middle context) (from + 1) u) d d (cost_of costs class.Imm) _ state 1 2 (does-word image costs rules (Imm upper) (middle context) from u d class.Imm _ one refl) (omega arith) (
      after_step image costs rules Represents (second image costs rules upper (middle context) (from + 1) u) _ d d (cost_of costs class.Loop) _ state 0 1 (loop-second image costs rules parent context good e stale d nest (from + 1) low upper room two) (omega arith) (
      at_once image costs rules Represents _ d state 0 _ stale (let h : head ≡ from + 1 + 1 = omega arith in ap (placed image (with_counter nest n) context e stale) h ∙ ap (λ k. placed image (with_counter nest k) context e stale (from + 1 + 1)) (sym is)) rep
      )
      )
  opens n from head stale d state room (short_loop one end) rep =
      after_step image costs rules Represents (placed image nest context e stale from) _ d d (cost_of costs class.Loop) _ state 1 2 (loop-step image costs rules parent context good e stale d nest from n room one) (omega arith) (
      at_once image costs rules Represents _ d state 1 _ stale (ap (placed image (with_counter nest n) context e stale) (sym end)) rep
      )

  module _ (f : FlowState → End) (head inner to w : ℕ) (has : Has image head (Next to))
      (body : (k stale : ℕ) (x : Data) (st : FlowState) → Represents x st → Comes image costs rules Represents (placed image (with_counter nest k) context e stale inner) x (λ q. placed image (with_counter nest k) context e q head) (state_of (f st)) w) where
    -- no turn is left
    no_turn : (stale : ℕ) (d : Data) (state : FlowState) → Represents d state → Comes image costs rules Represents (placed image (with_counter nest zero) context e stale head) d (λ q. placed image nest context e q to) state 1
    no_turn stale d state rep =
        after_step image costs rules Represents _ _ d d (cost_of costs class.Next) _ state 0 1 (next-over image costs rules parent context good e stale d nest head to has) (omega arith) (at_once image costs rules Represents _ d state 0 _ stale refl rep)

    pub turns_plain : head + 1 ≡ inner → (n stale : ℕ) (d : Data) (state : FlowState) → Represents d state →
        Comes image costs rules Represents (placed image (with_counter nest n) context e stale head) d (λ q. placed image nest context e q to) (looping n None f state) (n * (w + 1) + 1)
    turns_plain is zero stale d state rep = more image costs rules Represents _ d _ state 1 (zero * (w + 1) + 1) (omega arith) (no_turn stale d state rep)
    turns_plain is (suc n) stale d state rep =
        let le : w + (n * (w + 1) + 1) + 1 ≤ suc n * (w + 1) + 1 = omega arith in
        after_step image costs rules Represents _ (placed image (with_counter nest n) context e stale (head + 1)) d d (cost_of costs class.Next) _ _ (w + (n * (w + 1) + 1)) (suc n * (w + 1) + 1) (next-turn image costs rules parent context good e stale d nest head to n has) le (
        subst (λ p. Comes image costs rules Represents (placed image (with_counter nest n) context e stale p) d (λ q. placed image nest context e q to) (looping n None f (state_of (f state))) (w + (n * (w + 1) + 1))) (sym is) (
        go_on_to image costs rules Represents _ d _ _ (state_of (f state)) _ w (n * (w + 1) + 1) _ (omega arith) (body n stale d state rep) (λ q x rep1. turns_plain is n q x (state_of (f state)) rep1)
        )
        )

    pub turns_tested : (t : Test) (out v : ℕ) → Has image out Drop → out + 1 ≡ to →
        ((k stale : ℕ) (x : Data) (st : FlowState) → Represents x st → Comes image costs rules Represents (placed image (with_counter nest k) context e stale (head + 1)) x (λ q. goes (Turn (middle context)) (if decides t st then inner else out) (unit_at image (with_counter nest k) (plug context (Leaf e (Running stale))))) (tested t st) v) →
        (n stale : ℕ) (d : Data) (state : FlowState) → Represents d state →
        Comes image costs rules Represents (placed image (with_counter nest n) context e stale head) d (λ q. placed image nest context e q to) (looping n (Some t) f state) (n * (v + w + 1) + (v + 2))
    turns_tested t out v drops end test zero stale d state rep = more image costs rules Represents _ d _ state 1 (zero * (v + w + 1) + (v + 2)) (omega arith) (no_turn stale d state rep)
    turns_tested t out v drops end test (suc n) stale d state rep =
        let r : ℕ = n * (v + w + 1) + (v + 2) in
        let le : v + (w + r) + 1 ≤ suc n * (v + w + 1) + (v + 2) = omega arith in
        after_step image costs rules Represents _ (placed image (with_counter nest n) context e stale (head + 1)) d d (cost_of costs class.Next) _ _ (v + (w + r)) (suc n * (v + w + 1) + (v + 2)) (next-turn image costs rules parent context good e stale d nest head to n has) le (
        by (decides t state) (λ q y st rep2. turns_tested t out v drops end test n q y st rep2) (test n stale d state rep)
        )
      where
        u0 : ℕ
        u0 = w + (n * (v + w + 1) + (v + 2))

        by : (b : Bool) → ((q : ℕ) (y : Data) (st : FlowState) → Represents y st → Comes image costs rules Represents (placed image (with_counter nest n) context e q head) y (λ x. placed image nest context e x to) (looping n (Some t) f st) (n * (v + w + 1) + (v + 2))) →
            Comes image costs rules Represents (placed image (with_counter nest n) context e stale (head + 1)) d (λ q. goes (Turn (middle context)) (if b then inner else out) (unit_at image (with_counter nest n) (plug context (Leaf e (Running stale))))) (tested t state) v →
            Comes image costs rules Represents (placed image (with_counter nest n) context e stale (head + 1)) d (λ q. placed image nest context e q to) (if b then looping n (Some t) f (state_of (f (tested t state))) else tested t state) (v + u0)
        by true rest h =
            go_on_to image costs rules Represents _ d _ _ (tested t state) _ v u0 _ (omega arith) h (
            λ q x rep1. go_on_to image costs rules Represents _ x _ _ (state_of (f (tested t state))) _ w (n * (v + w + 1) + (v + 2)) _ (omega arith) (body n stale x (tested t state) rep1) (
            λ q2 y rep2. rest q2 y (state_of (f (tested t state))) rep2
            )
            )
        by false rest h =
            go_on_to image costs rules Represents _ d _ _ (tested t state) _ v 1 _ (omega arith) h (
            λ q x rep1. after_step image costs rules Represents _ (placed image nest context e stale (out + 1)) x x (cost_of costs class.Drop) _ _ 0 1 (drop-step image costs rules parent context good e stale x nest out n drops) (omega arith) (
            at_once image costs rules Represents _ x (tested t state) 0 _ stale (ap (placed image nest context e stale) (sym end)) rep1
            )
            )

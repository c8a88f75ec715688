-- What the words of links, counters and forks do at the slot in the middle of a context.
use Rattle.std.proofs.Common.{◌≡◌, ℕ, ℤ, zero, suc, ◌+◌, ◌<◌, ◌≤◌, ◌==◌, ◌++◌, not, nat_lt, nat_le, true, false, if◌then◌else◌, List, [], ◌∷◌, length, take, drop, slice_get, Some, refl, sym, ap, ◌∙◌, arith, subst, length-drop, length-take-le, drop-cons}
use Rattle.mb_isa.specs.declared.Instr.TheVariants.{Fork, Call, Ret, Loop, Next, Drop}
use Rattle.mb_isa.specs.declared.Class.TheVariants as class
use Rattle.mb_isa.specs.Costs.{cost_of}
use Rattle.mb_isa.specs.Operands.{turns_of}
use Rattle.mb_pfu.specs.declared.parts.Watch.{Watch}
use Rattle.mb_pfu.specs.Rows.{numbered, is_free}
use Rattle.mb_pfu.specs.Tree.{Group, no_more, member, Leaf, Waits, Running, begun, is_in, is_busy, slot_of, fork_at, any_ready}
use Rattle.mb_pfu.specs.Contexts.{Context, plug, middle}
use Rattle.mb_pfu.proofs.Laws as unit_laws
use Rattle.pt_image.specs.declared.Parts.{Parts}
use Rattle.pt_image.specs.Listed.{is_listed}
use Rattle.mb_isa.specs.Control.{stack_of}
use Rattle.mb_pfu.specs.Calls as unit
use Rattle.mb_isa.specs.Words.{Go, on, on_to}
use Rattle.mb_isa.specs.Step.{Rules, Moves, step}
use Rattle.mb_isa.specs.Free.{numbers_of}
use Rattle.pc_lower.specs.Slots.{IsChild, AreChildren, Under, self, FitsGroup, IsGood}
use Rattle.pc_lower.specs.Places.{place_in, word_in, first_in, first_child, slot_start, Has}
use Rattle.pc_lower.specs.Law.{Nesting, unnested, with_link, with_counter, unit_at, placed, turning}
use Rattle.pc_lower.proofs.Slots.{outside, under-raise, other-of}
use Rattle.pc_lower.proofs.Plugs.{in-plug}
use Rattle.pc_lower.proofs.StepFacts.{does-word, does-second, second, listed, watches-are, change-leaf}

pub last-is : (ns : List ℕ) (n : ℕ) → unit.last_of (ns ++ n ∷ []) ≡ Some (ns, n)
last-is [] n = refl
last-is (m ∷ ns) n = ap (λ o. Some (unit.last_from m o)) (last-is ns n)

not-lt : (a b : ℕ) → b ≤ a → nat_lt a b ≡ false
not-lt a b h = grind arith

not-le : (a b : ℕ) → b < a → nat_le a b ≡ false
not-le a b h = grind arith

module _ (image : Parts) where
  abbrev pub children : ℕ → ℕ → Group
  children c zero = no_more
  children c (suc n) = member (Leaf [] (Running (slot_start image c))) (children (c + 1) n)

  pub begun-children : (n c : ℕ) → c + n ≤ length image.slots → begun (take n (drop c image.slots)) ≡ children c n
  begun-children zero c le = refl
  begun-children (suc n) c le =
      ap (λ l. begun (take (suc n) l)) (drop-cons image.slots c 0 (omega arith))
      ∙ ap (member (Leaf [] (Running (slot_start image c)))) (ap (λ k. begun (take n (drop k image.slots))) (let e : suc c ≡ c + 1 = omega arith in e) ∙ begun-children n (c + 1) (omega arith))

-- the first slot that a fork starts is read off its word
pub first-is : (image : Parts) (i p s lo n : ℕ) (a : List ℕ) → slice_get image.forks i ≡ Some (record { at = p; slot = s; stack = a }) → Has image p (Fork lo n) → first_child image i ≡ lo
first-is image i p s lo n a is has =
    ap (λ o. first_in (word_in (slice_get image.code (place_in o)))) is ∙ ap (λ o. first_in (word_in o)) has.stands ∙ ap first_in has.decodes

module _ (parent : ℕ → ℕ) where
  child-free : (context : Context) (e : List Watch) (stale c : ℕ) → IsGood parent context → IsChild parent (middle context) c → is_free (slot_of c (plug context (Leaf e (Running stale)))) ≡ true
  child-free context e stale c good child =
      let under : Under parent (middle context) c = under-raise parent (middle context) c c child (self refl) in
      let out = outside parent context c good under in
      let here : is_in (numbered c) (middle context) (Leaf e (Running stale)) ≡ false = other-of (middle context) c (λ h. omega (arith, h, child.1)) in
      unit_laws.free-outside c (plug context (Leaf e (Running stale))) ∙ ap not (in-plug c context (Leaf e (Running stale)) out ∙ here)

  not-busy : (context : Context) (e : List Watch) (stale : ℕ) (starts : List ℕ) (c : ℕ) → IsGood parent context → AreChildren parent (middle context) c (length starts) → is_busy c starts (plug context (Leaf e (Running stale))) ≡ false
  not-busy context e stale [] c good are = refl
  not-busy context e stale (x ∷ starts) c good are =
      rw (child-free context e stale c good are.0) (not-busy context e stale starts (c + 1) good are.1)

  first-above : (s c n : ℕ) → AreChildren parent s c n → 1 ≤ n → s < c
  first-above s c zero are le = absurd (omega arith)
  first-above s c (suc n) are le = are.0.1

  pub children-fit : (image : Parts) (s c n : ℕ) → AreChildren parent s c n → FitsGroup parent s c (children image c n)
  children-fit image s c zero are = tt
  children-fit image s c (suc n) are = (are.0, tt, children-fit image s (c + 1) n are.1)

pub children-ready : (image : Parts) (c n : ℕ) → 1 ≤ n → any_ready (children image c n) ≡ true
children-ready image c zero le = absurd (omega arith)
children-ready image c (suc n) le = refl

module _ (image : Parts) (costs : List ℕ) {Data : Type 0} (rules : Rules Data) (parent : ℕ → ℕ) (context : Context) (good : IsGood parent context) (e : List Watch) (stale : ℕ) (d : Data) where
  pub fork-step : (p i lo n : ℕ) (a : List ℕ) → Has image p (Fork lo n) → slice_get image.forks i ≡ Some (record { at = p; slot = middle context; stack = a }) → numbers_of e ≡ a →
      1 ≤ n → lo + n ≤ length image.slots → AreChildren parent (middle context) lo n →
      step rules costs image (placed image unnested context e stale p) d ≡ Moves (cost_of costs class.Fork) (turning image (plug context (Waits e p lo (children image lo n)))) d
  fork-step p i lo n a has is fits some low are =
      let u = unit_at image unnested (plug context (Leaf e (Running stale))) in
      let starts = take n (drop lo image.slots) in
      let count : length starts ≡ n = length-take-le n (drop lo image.slots) (let k = length-drop lo image.slots in omega (arith, k)) in
      let stack : stack_of (middle context) u ≡ a = ap numbers_of (watches-are parent image context good e (Running stale)) ∙ fits in
      let known : is_listed image.forks p (middle context) (stack_of (middle context) u) ≡ true = ap (is_listed image.forks p (middle context)) stack ∙ listed image.forks i p (middle context) a is in
      let room : nat_lt (length image.slots) (lo + n) ≡ false = not-lt (length image.slots) (lo + n) low in
      let s1 : (length starts == 0) ≡ false = other-of (length starts) 0 (λ h. omega (arith, h, count)) in
      let above : middle context < lo = first-above parent (middle context) lo n are some in
      let s2 : nat_le lo (middle context) ≡ false = not-le lo (middle context) above in
      let s3 : nat_lt (length image.slots) (lo + length starts) ≡ false = ap (λ k. nat_lt (length image.slots) (lo + k)) count ∙ room in
      let free : is_busy lo starts (plug context (Leaf e (Running stale))) ≡ false = not-busy parent context e stale starts lo good (subst (AreChildren parent (middle context) lo) (sym count) are) in
      does-word image costs rules (Fork lo n) (middle context) p u d class.Fork _ has (
      rw (known, room, s1, s2, s3, free) (
      ap (λ t. Go class.Fork (turning image t)) (
      change-leaf parent image context good e (fork_at p lo starts) (Running stale) ∙ ap (λ ts. plug context (Waits e p lo ts)) (begun-children image n lo low)
      )
      )
      )

  module _ (nest : Nesting) where
    pub call-step : (p to : ℕ) → (length nest.links == 16) ≡ false → Has image p (Call to) →
        step rules costs image (placed image nest context e stale p) d ≡ Moves (cost_of costs class.Call) (placed image (with_link nest (p + 1)) context e stale to) d
    call-step p to room has = does-word image costs rules (Call to) (middle context) p _ d class.Call _ has (rw room refl)

    pub ret-step : (p back : ℕ) → Has image p Ret →
        step rules costs image (placed image (with_link nest back) context e stale p) d ≡ Moves (cost_of costs class.Ret) (placed image nest context e stale back) d
    ret-step p back has =
        let u = unit_at image (with_link nest back) (plug context (Leaf e (Running stale))) in
        does-word image costs rules Ret (middle context) p u d class.Ret _ has (
        ap (λ o. on_to class.Ret (middle context) (λ b. b) (unit.on_last o (λ before b. (record u { links = before }, b)))) (last-is nest.links back)
        )

    pub loop-step : (p n : ℕ) → (length nest.counters == 136) ≡ false → Has image p (Loop n) →
        step rules costs image (placed image nest context e stale p) d ≡ Moves (cost_of costs class.Loop) (placed image (with_counter nest n) context e stale (p + 1)) d
    loop-step p n room has = does-word image costs rules (Loop n) (middle context) p _ d class.Loop _ has (rw room refl)

    pub loop-second : (p n : ℕ) (upper : ℤ) → (length nest.counters == 136) ≡ false → Has image p (Loop n) →
        step rules costs image (second image costs rules upper (middle context) p (unit_at image nest (plug context (Leaf e (Running stale))))) d ≡ Moves (cost_of costs class.Loop) (placed image (with_counter nest (turns_of (Some upper) n)) context e stale (p + 1)) d
    loop-second p n upper room has = does-second image costs rules (Loop n) upper (middle context) p _ d class.Loop _ has refl (rw room refl)

    pub next-over : (p to : ℕ) → Has image p (Next to) →
        step rules costs image (placed image (with_counter nest zero) context e stale p) d ≡ Moves (cost_of costs class.Next) (placed image nest context e stale to) d
    next-over p to has =
        let u = unit_at image (with_counter nest zero) (plug context (Leaf e (Running stale))) in
        does-word image costs rules (Next to) (middle context) p u d class.Next _ has (
        ap (λ o. on_to class.Next (middle context) (λ again. if again then p + 1 else to) (unit.on_last o (unit.counted u))) (last-is nest.counters zero)
        )

    pub next-turn : (p to k : ℕ) → Has image p (Next to) →
        step rules costs image (placed image (with_counter nest (suc k)) context e stale p) d ≡ Moves (cost_of costs class.Next) (placed image (with_counter nest k) context e stale (p + 1)) d
    next-turn p to k has =
        let u = unit_at image (with_counter nest (suc k)) (plug context (Leaf e (Running stale))) in
        does-word image costs rules (Next to) (middle context) p u d class.Next _ has (
        ap (λ o. on_to class.Next (middle context) (λ again. if again then p + 1 else to) (unit.on_last o (unit.counted u))) (last-is nest.counters (suc k))
        )

    pub drop-step : (p k : ℕ) → Has image p Drop →
        step rules costs image (placed image (with_counter nest k) context e stale p) d ≡ Moves (cost_of costs class.Drop) (placed image nest context e stale (p + 1)) d
    drop-step p k has =
        let u = unit_at image (with_counter nest k) (plug context (Leaf e (Running stale))) in
        does-word image costs rules Drop (middle context) p u d class.Drop _ has (
        ap (λ o. on class.Drop (middle context) (p + 1) (unit.on_last o (λ before turns. record u { counters = before }))) (last-is nest.counters k)
        )

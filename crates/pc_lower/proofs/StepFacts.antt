-- What each word does at the slot in the middle of a context.
use Rattle.std.proofs.Common.{◌≡◌, ℕ, ℤ, zero, suc, ◌+◌, ◌*◌, ◌/◌, ◌%◌, ◌<◌, ◌==◌, ◌++◌, ◌||◌, nat_lt, Bool, true, false, if◌then◌else◌, List, [], ◌∷◌, length, take, slice_get, Option, Some, None, refl, sym, ap, ◌∙◌, arith, eq-eqb, ◌-◌, length-append}
use Rattle.std.proofs.Math.Seq.{take-append_seam}
use Rattle.mb_isa.specs.declared.Instr.{Instr}
use Rattle.mb_isa.specs.declared.Instr.TheVariants.{Bri, Eot, End, Abrt, Leave}
use Rattle.mb_isa.specs.declared.Class.{Class}
use Rattle.mb_isa.specs.declared.Class.TheVariants as class
use Rattle.mb_isa.specs.Costs.{cost_of}
use Rattle.mb_isa.specs.Operands.{immediate, word_at_byte, branch_place}
use Rattle.mb_pfu.specs.declared.TrapKind.TheVariants.{WrongPlace}
use Rattle.std.specs.List.{list_any}
use Rattle.mb_pfu.specs.declared.parts.Watch.{Watch}
use Rattle.mb_pfu.specs.Rows.{numbered, without_last, with_last}
use Rattle.mb_pfu.specs.Tree.{Tree, Leaf, Running, Pausing, Finished, Activity, slot_of_activity, settle, is_in, at_slot, report, reported_watches, reported_state, reported_number, watches_of, next_job, paused, pause_at, finished, finish_at, watches_at}
use Rattle.mb_pfu.specs.Contexts.{Context, plug, middle, climb}
use Rattle.mb_pfu.specs.Unit.{State as UnitState, fresh}
use Rattle.mb_pfu.proofs.Laws as unit_laws
use Rattle.pt_image.specs.declared.Point.{Point}
use Rattle.pt_image.specs.declared.Parts.{Parts}
use Rattle.pt_image.specs.Listed.{same_numbers, is_point, is_listed}
use Rattle.mb_isa.specs.Control.{Turn, Control, Running as RunningPhase, goes, turns_on, turns_from, stack_of, start_in}
use Rattle.mb_isa.specs.Words.{Go, plan_of, plan_decoded, plan_word, goes_to, jump, enters, is_barred, Refuse}
use Rattle.mb_isa.specs.Step.{Rules, Moves, stepped, step}
use Rattle.mb_isa.specs.Free.{numbers_of}
use Rattle.pc_lower.specs.Slots.{Outside, self, IsGood}
use Rattle.pc_lower.specs.Places.{line_in, watch, Has, LeadsTo}
use Rattle.pc_lower.specs.Law.{Nesting, unnested, rested, unit_at, placed, turning}
use Rattle.pc_lower.proofs.Slots.{outside, quiet-before, other-of}
use Rattle.pc_lower.proofs.Plugs.{move-plug, change-plug, report-plug}

module _ (parent : ℕ → ℕ) (image : Parts) (context : Context) (good : IsGood parent context) (e : List Watch) where
  alone : Outside (middle context) context
  alone = outside parent context (middle context) good (self refl)

  leaf-in : (a : Activity) → is_in (numbered (middle context)) (middle context) (Leaf e a) ≡ true
  leaf-in a = eq-eqb (middle context) (middle context) refl

  report-leaf : (a : Activity) → report (numbered (middle context)) 0 (plug context (Leaf e a)) ≡ Some (middle context, slot_of_activity a, e)
  report-leaf a = report-plug (middle context) context (Leaf e a) alone (leaf-in a) ∙ rw (eq-eqb (middle context) (middle context) refl) refl

  pub watches-are : (a : Activity) → watches_of (middle context) (plug context (Leaf e a)) ≡ e
  watches-are a = ap reported_watches (report-leaf a)

  move-leaf : (g : Tree → Tree) (a : Activity) → at_slot (numbered (middle context)) g settle 0 (plug context (Leaf e a)) ≡ climb context (g (Leaf e a))
  move-leaf g a = move-plug (middle context) g context (Leaf e a) alone (leaf-in a) ∙ ap (climb context) (rw (eq-eqb (middle context) (middle context) refl) refl)

  pub change-leaf : (g : Tree → Tree) (a : Activity) → at_slot (numbered (middle context)) g (λ u. u) 0 (plug context (Leaf e a)) ≡ plug context (g (Leaf e a))
  change-leaf g a = change-plug (middle context) g context (Leaf e a) alone (leaf-in a) ∙ ap (plug context) (rw (eq-eqb (middle context) (middle context) refl) refl)

  pub pause-is : (at stale : ℕ) → paused (middle context) at (plug context (Leaf e (Running stale))) ≡ rested context (Leaf e (Pausing at))
  pause-is at stale = move-leaf (pause_at at) (Running stale)

  pub finish-is : (stale : ℕ) → finished (middle context) (plug context (Leaf e (Running stale))) ≡ climb context (Leaf e Finished)
  finish-is stale = move-leaf finish_at (Running stale)

  pub next-is : (p : ℕ) → next_job (plug context (Leaf e (Running p))) ≡ Some (middle context)
  next-is p = ap reported_number (unit_laws.report-plug context (Leaf e (Running p)) (quiet-before parent context good) refl)

  -- the slot in the middle takes its turn
  pub turn-is : (nest : Nesting) (p : ℕ) → turns_on (unit_at image nest (plug context (Leaf e (Running p)))) ≡ placed image nest context e p p
  turn-is nest p =
      ap (turns_from (unit_at image nest (plug context (Leaf e (Running p))))) (next-is p)
      ∙ ap (λ o. record { phase = RunningPhase (middle context) (start_in (reported_state o)); unit = unit_at image nest (plug context (Leaf e (Running p))); upper = None }) (report-leaf (Running p))

pub four-mod : (n : ℕ) → (4 * n) % 4 ≡ 0
four-mod n = omega arith

pub four-div : (n : ℕ) → (4 * n) / 4 ≡ n
four-div n = omega arith

pub lt-true : (a b : ℕ) → a < b → nat_lt a b ≡ true
lt-true a b h = grind arith

same-same : (xs : List ℕ) → same_numbers xs xs ≡ true
same-same [] = refl
same-same (x ∷ xs) = rw (eq-eqb x x refl) (same-same xs)

any-get : {X : Type 0} (f : X → Bool) (xs : List X) (i : ℕ) (x : X) → slice_get xs i ≡ Some x → f x ≡ true → list_any f xs ≡ true
any-get f [] i x is h = cc
any-get f (y ∷ ys) zero x is h = let e : y ≡ x = cc in rw (ap f e, h) refl
any-get f (y ∷ ys) (suc i) x is h = rw (any-get f ys i x is h) (or-true (f y))
  where
    or-true : (b : Bool) → (b || true) ≡ true
    or-true true = refl
    or-true false = refl

pub listed : (points : List Point) (i place s : ℕ) (stack : List ℕ) → slice_get points i ≡ Some (record { at = place; slot = s; stack = stack }) → is_listed points place s stack ≡ true
listed points i place s stack is = any-get (is_point place s stack) points i _ is (rw (eq-eqb place place refl, eq-eqb s s refl, same-same stack) refl)

some-last : (before : List Watch) (l : Watch) → (length (before ++ l ∷ []) == 0) ≡ false
some-last before l = other-of (length (before ++ l ∷ [])) 0 (λ h. let n : length (before ++ l ∷ []) ≡ length before + 1 = length-append before (l ∷ []) in omega (arith, n, h))

last-dropped : (before : List Watch) (l : Watch) → without_last (before ++ l ∷ []) ≡ before
last-dropped before l =
    let n : length (before ++ l ∷ []) ≡ length before + 1 = length-append before (l ∷ []) in
    let k : length (before ++ l ∷ []) - 1 ≡ length before = omega (arith, n) in
    ap (λ i. take i (before ++ l ∷ [])) k ∙ take-append_seam before (l ∷ [])

-- where a branch leads that leads to a place of the code
pub leads-to : (image : Parts) (p to : ℕ) (upper : Option ℤ) (lower : ℤ) → LeadsTo image p upper lower to → branch_place (length image.code) p (immediate upper lower) ≡ Some to
leads-to image p to upper lower leads = ap (word_at_byte (length image.code)) leads.0 ∙ rw (four-mod to, four-div to, lt-true to (length image.code) leads.1) refl

module _ (image : Parts) (costs : List ℕ) {Data : Type 0} (rules : Rules Data) where
  abbrev pub second : ℤ → ℕ → ℕ → UnitState → Control
  second upper s p u = record { phase = RunningPhase s p; unit = u; upper = Some upper }

  -- a word whose plan is known
  pub does-word : (w : Instr) (s p : ℕ) (u : UnitState) (d : Data) (c : Class) (next : Control) → Has image p w → plan_of image (Turn s) p None u w ≡ Go c next →
      step rules costs image (goes (Turn s) p u) d ≡ Moves (cost_of costs c) next d
  does-word w s p u d c next has h =
      ap (λ o. stepped rules costs d (plan_word image (Turn s) p None u o)) has.stands
      ∙ ap (λ o. stepped rules costs d (plan_decoded image (Turn s) p None u o)) has.decodes
      ∙ ap (stepped rules costs d) h

  -- the same behind an `imm`
  pub does-second : (w : Instr) (upper : ℤ) (s p : ℕ) (u : UnitState) (d : Data) (c : Class) (next : Control) → Has image p w → is_barred (Some upper) w ≡ false → plan_of image (Turn s) p (Some upper) u w ≡ Go c next →
      step rules costs image (second upper s p u) d ≡ Moves (cost_of costs c) next d
  does-second w upper s p u d c next has free h =
      ap (λ o. stepped rules costs d (plan_word image (Turn s) p (Some upper) u o)) has.stands
      ∙ ap (λ o. stepped rules costs d (plan_decoded image (Turn s) p (Some upper) u o)) has.decodes
      ∙ ap (λ b. stepped rules costs d (if b then Refuse WrongPlace else plan_of image (Turn s) p (Some upper) u w)) free
      ∙ ap (stepped rules costs d) h

  pub jump-plan : (s p to : ℕ) (upper : Option ℤ) (lower : ℤ) (u : UnitState) → LeadsTo image p upper lower to → plan_of image (Turn s) p upper u (Bri lower) ≡ Go class.Jump (goes (Turn s) to u)
  jump-plan s p to upper lower u leads = ap (λ o. jump image (Turn s) p upper u (goes_to image (Turn s) p upper u o)) (leads-to image p to upper lower leads)

  module _ (parent : ℕ → ℕ) (context : Context) (good : IsGood parent context) (e : List Watch) (stale : ℕ) (d : Data) where
    -- the words of the unit, at the slot in the middle
    pub eot-step : (p i : ℕ) (a : List ℕ) → Has image p Eot → slice_get image.pauses i ≡ Some (record { at = p; slot = middle context; stack = a }) → numbers_of e ≡ a →
        step rules costs image (placed image unnested context e stale p) d ≡ Moves (cost_of costs class.Eot) (turning image (rested context (Leaf e (Pausing p)))) d
    eot-step p i a has is fits =
        let u = unit_at image unnested (plug context (Leaf e (Running stale))) in
        let stack : stack_of (middle context) u ≡ a = ap numbers_of (watches-are parent image context good e (Running stale)) ∙ fits in
        let listed : is_listed image.pauses p (middle context) (stack_of (middle context) u) ≡ true = ap (is_listed image.pauses p (middle context)) stack ∙ listed image.pauses i p (middle context) a is in
        does-word Eot (middle context) p u d class.Eot _ has (rw listed (ap (λ t. Go class.Eot (turning image t)) (pause-is parent image context good e p stale)))

    pub finish-step : (p : ℕ) → e ≡ [] → Has image p End →
        step rules costs image (placed image unnested context e stale p) d ≡ Moves (cost_of costs class.End) (turning image (climb context (Leaf [] Finished))) d
    finish-step p none has =
        let u = unit_at image unnested (plug context (Leaf e (Running stale))) in
        let few : (length (watches_of (middle context) u.tree) == 0) ≡ true = ap (λ w. length w == 0) (watches-are parent image context good e (Running stale) ∙ none) in
        does-word End (middle context) p u d class.End _ has (
        rw few (ap (λ t. Go class.End (turning image t)) (finish-is parent image context good e stale ∙ ap (λ w. climb context (Leaf w Finished)) none))
        )

    pub enter-step : (p j : ℕ) (weak : Bool) (cond handler : ℕ) → Has image p (Abrt j) → slice_get image.aborts j ≡ Some (record { weak = weak; cond = cond; handler = handler }) → length e < 8 →
        step rules costs image (placed image unnested context e stale p) d ≡ Moves (cost_of costs class.Abrt) (placed image unnested context (e ++ watch image j false false ∷ []) stale (p + 1)) d
    enter-step p j weak cond handler has is few =
        let u = unit_at image unnested (plug context (Leaf e (Running stale))) in
        let l : Watch = fresh j weak cond handler in
        let line : l ≡ watch image j false false = ap (λ o. fresh j (line_in o).weak (line_in o).cond (line_in o).handler) (sym is) in
        let n : (length (watches_of (middle context) u.tree) == 8) ≡ false = ap (λ w. length w == 8) (watches-are parent image context good e (Running stale)) ∙ other-of (length e) 8 (λ h. omega (arith, h, few)) in
        does-word (Abrt j) (middle context) p u d class.Abrt _ has (
        ap (enters (middle context) p j u) is
        ∙ rw n (
        ap (λ t. Go class.Abrt (goes (Turn (middle context)) (p + 1) (unit_at image unnested t))) (
        change-leaf parent image context good e (watches_at (with_last l)) (Running stale) ∙ ap (λ x. plug context (Leaf (e ++ x ∷ []) (Running stale))) line
        )
        )
        )

    pub leave-step : (p : ℕ) (before : List Watch) (l : Watch) → e ≡ before ++ l ∷ [] → Has image p Leave →
        step rules costs image (placed image unnested context e stale p) d ≡ Moves (cost_of costs class.Leave) (placed image unnested context before stale (p + 1)) d
    leave-step p before l is has =
        let u = unit_at image unnested (plug context (Leaf e (Running stale))) in
        let n : (length (watches_of (middle context) u.tree) == 0) ≡ false = ap (λ w. length w == 0) (watches-are parent image context good e (Running stale) ∙ is) ∙ some-last before l in
        does-word Leave (middle context) p u d class.Leave _ has (
        rw n (
        ap (λ t. Go class.Leave (goes (Turn (middle context)) (p + 1) (unit_at image unnested t))) (
        change-leaf parent image context good e (watches_at without_last) (Running stale) ∙ ap (λ x. plug context (Leaf x (Running stale))) (ap without_last is ∙ last-dropped before l)
        )
        )
        )

-- Each thread of a program runs in a slot of its flow, and none in two.
use Rattle.std.proofs.Common.{◌≡◌, ℕ, zero, suc, ◌+◌, ◌<◌, ◌≤◌, Bool, true, false, List, [], ◌∷◌, ◌++◌, map, length, Some, ⊎_elim, refl, sym, ap, subst, ◌∙◌, append_assoc, arith}
use Rattle.std.specs.Prelude.{Contains, slice_get}
use Rattle.std.specs.List.{AllByRecursion}
use Rattle.pt_base.proofs.Elements.{in_head, in_tail, in_none, in_cases, in_left, in_right, in_either}
use Rattle.pc_grammar.specs.declared.typed.Function.{Function}
use Rattle.pc_grammar.specs.Uses.{joined}
use Rattle.pc_grammar.specs.Typing.{Typing}
use Rattle.pc_grammar.specs.Keeping.{IsTyped}
use Rattle.pc_grammar.specs.Meant.{starts_in, function_uses, started}
use Rattle.pc_grammar.proofs.FirstPassing.{get_seam}
use Rattle.pc_rules.specs.Judging.{IsWithin}
use Rattle.pc_lower.specs.Limits.{started_by}
use Rattle.pc_lower.specs.Numbering.{all_started, slots_of}
use Rattle.pc_lower.proofs.Numbering.{slots-are}
use Rattle.pc_lower.proofs.Order.{flow-in-order}
use Rattle.pc_lower.proofs.Shapes.{Anything, threads_in_all}
use Rattle.pc_lower.proofs.Functions.{there-below}
use Rattle.pc_lower.proofs.FlowThreads.{IsPlaced, all-threads-keep, calm-none-all}
use Rattle.pc_lower.proofs.Starts.{starts-append, function-starts}
use Rattle.pc_lower.proofs.FlowProgram.{rooms, numbers, routines, flow, body, fit, main-there, names, started-is, calm-body}
use Rattle.pc_lower.proofs.Slotted.{thread-started}

placed-in : (k : ℕ) (xs : List ℕ) → Contains xs k → IsPlaced k xs
placed-in k [] h = absurd (in_none k h)
placed-in k (x ∷ xs) h =
    ⊎_elim (λ same. (0, omega arith, same)) (λ later. let r = placed-in k xs later in (suc r.0, omega (arith, r.1), r.2)) (in_cases x k xs h)

module _ (t : Typing) (typed : IsTyped t) (within : IsWithin t) where
  -- a function that is started is started by one
  record StartedBy (k : ℕ) : Type 0 where
    starter : ℕ
    function : Function
    there : slice_get t.functions starter ≡ Some function
    listed : Contains (threads_in_all (body t typed within function)) k

  named-by : (k : ℕ) (rest front : List Function) → front ++ rest ≡ t.functions → Contains (starts_in (joined (map function_uses rest))) k → StartedBy k
  named-by k [] front e h = absurd (in_none k h)
  named-by k (x ∷ rest) front e h =
      ⊎_elim
      (λ first. record {
        starter = length front;
        function = x;
        there = ap (λ l. slice_get l (length front)) (sym e) ∙ get_seam front rest x;
        listed = subst (λ l. Contains l k) (function-starts (rooms t typed within) (numbers t typed within) x) first;
      })
      (λ later. named-by k rest (front ++ x ∷ []) (append_assoc front (x ∷ []) rest ∙ e) later)
      (in_either (starts_in (function_uses x)) (starts_in (joined (map function_uses rest))) k (subst (λ l. Contains l k) (starts-append (function_uses x) (joined (map function_uses rest))) h))

  all-contained : (P : ℕ → Type 0) (xs : List ℕ) (k : ℕ) → AllByRecursion P xs → Contains xs k → P k
  all-contained P [] k all h = absurd (in_none k h)
  all-contained P (x ∷ xs) k all h = ⊎_elim (λ same. subst P same all.0) (λ later. all-contained P xs k all.1 later) (in_cases x k xs h)

  starter-later : (k : ℕ) (s : StartedBy k) → k < s.starter
  starter-later k s =
      all-contained (λ j. j < s.starter) (threads_in_all (body t typed within s.function)) k
      (all-threads-keep Anything (λ j. j < s.starter) (body t typed within s.function) (names t typed within s.starter s.function s.there Anything (λ j. j < s.starter) (λ j arguments taken m. tt) (λ j m. m.earlier)))
      s.listed

  -- it is a thread itself
  starter-thread : (k : ℕ) (s : StartedBy k) → s.function.thread ≡ true
  starter-thread k s = by s.function.thread refl
    where
      by : (b : Bool) → s.function.thread ≡ b → s.function.thread ≡ true
      by true e = e
      by false e =
          let none = calm-none-all (routines t typed within) (body t typed within s.function) (calm-body t typed within s.starter s.function s.there e) in
          absurd (in_none k (subst (λ l. Contains l k) none s.listed))

  starts-in-all : (fs : List ℕ) (h k : ℕ) → Contains fs h → Contains (started_by (flow t typed within).bodies h) k → Contains (all_started (flow t typed within).bodies fs) k
  starts-in-all [] h k there listed = absurd (in_none h there)
  starts-in-all (x ∷ fs) h k there listed =
      ⊎_elim
      (λ same. in_left (started_by (flow t typed within).bodies x) (all_started (flow t typed within).bodies fs) k (subst (λ j. Contains (started_by (flow t typed within).bodies j) k) (sym same) listed))
      (λ later. in_right (started_by (flow t typed within).bodies x) (all_started (flow t typed within).bodies fs) k (starts-in-all fs h k later listed)) (in_cases x h fs there)

  abbrev slots : List ℕ
  slots = slots_of (flow t typed within)

  slots-equal : slots ≡ t.main ∷ all_started (flow t typed within).bodies slots
  slots-equal = slots-are (flow t typed within) (flow-in-order (Rattle.pc_meaning.specs.Programs.program_of t) (fit t typed within)) (main-there t typed within)

  in-slots : (n k : ℕ) (g : Function) → length t.functions ≤ n + k → slice_get t.functions k ≡ Some g → g.thread ≡ true → Contains slots k
  in-slots zero k g most there thread = absurd (let b = there-below t.functions k g there in omega (arith, b, most))
  in-slots (suc n) k g most there thread =
      ⊎_elim
      (λ (is : k ≡ t.main). subst (λ l. Contains l k) (sym slots-equal) (subst (λ j. Contains (t.main ∷ all_started (flow t typed within).bodies slots) j) (sym is) (in_head t.main (all_started (flow t typed within).bodies slots))))
      (λ (listed : Contains (started t) k).
      let s = named-by k t.functions [] refl listed in
      let later = starter-later k s in
      let starter = in-slots n s.starter s.function (omega (arith, most, later)) s.there (starter-thread k s) in
      let mine = subst (λ l. Contains l k) (sym (started-is t typed within s.starter s.function s.there)) s.listed in
      subst (λ l. Contains l k) (sym slots-equal) (in_tail t.main k (all_started (flow t typed within).bodies slots) (starts-in-all slots s.starter k starter mine)))
      (thread-started t typed k g there thread)

  pub thread-runs : (k : ℕ) (g : Function) → slice_get t.functions k ≡ Some g → g.thread ≡ true → IsPlaced k slots
  thread-runs k g there thread = placed-in k slots (in-slots (length t.functions) k g (omega arith) there thread)

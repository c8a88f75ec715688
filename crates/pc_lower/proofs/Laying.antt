-- The flow of an accepted program can be laid out.
use Rattle.std.proofs.Common.{◌≡◌, ◌⊎◌, ℕ, ◌+◌, ◌<◌, ◌≤◌, Bool, true, false, not, ◌&&◌, List, length, Some, inl, inr, refl, sym, ap, subst, ◌∙◌, arith}
use Rattle.std.specs.Prelude.{IsTrue, slice_get, nat_lt}
use Rattle.std.proofs.lemmas.Bool.Decides.{Decides-ltb}
use Rattle.pc_grammar.specs.declared.typed.Function.{Function}
use Rattle.pc_grammar.specs.Typing.{Typing}
use Rattle.pc_grammar.specs.Keeping.{IsTyped}
use Rattle.pc_grammar.proofs.FirstPassing.{left_true, right_true}
use Rattle.pc_rules.specs.Judging.{IsWithin}
use Rattle.pc_meaning.specs.Promises.{finishing_of}
use Rattle.pc_meaning.specs.Programs.{program_of}
use Rattle.pc_lower.specs.Flow.{flows_of}
use Rattle.pc_lower.specs.Residuals.{body_at}
use Rattle.pc_lower.proofs.Promised.{typed_spelled}
use Rattle.pc_lower.proofs.Lasting.{loops_last}
use Rattle.pc_lower.specs.Laid.{Placing}
use Rattle.pc_lower.specs.Program.{HasRoom}
use Rattle.pc_lower.specs.Numbering.{slots_of, function_of}
use Rattle.pc_lower.specs.Layable.{IsLayable, IsInstant, IsCalled}
use Rattle.pc_lower.specs.Placing.{runs_in_slot}
use Rattle.pc_lower.proofs.Shapes.{Anything}
use Rattle.pc_lower.proofs.NodeFacts.{passes, body-instant}
use Rattle.pc_lower.proofs.FlowLoops.{body-layable}
use Rattle.pc_lower.proofs.Room.{thread-room, routine-room}
use Rattle.pc_lower.proofs.Functions.{some-there}
use Rattle.pc_lower.proofs.FlowThreads.{there-any, any-there, IsPlaced}
use Rattle.pc_lower.proofs.FlowProgram.{routines, flow, routine, fit, long, body-is, fits, kept, nests, calm-body, slot-thread, height, low-height, some-height, placing, calls-low, calls-lower}
use Rattle.pc_lower.proofs.Running.{thread-runs}

module _ (t : Typing) (typed : IsTyped t) (within : IsWithin t) (entrance : ℕ → ℕ) where
  abbrev pub place : Placing
  place = placing t typed within entrance

  module _ (i : ℕ) (g : Function) (there : slice_get t.functions i ≡ Some g) where
    pub function-layable : IsLayable (flows_of (flow t typed within).bodies) 0 (body_at (flow t typed within).bodies i)
    function-layable =
        subst (IsLayable (flows_of (flow t typed within).bodies) 0) (sym (body-is t typed within i g there))
        (body-layable (program_of t) (fit t typed within) (loops_last t typed within) (routine t typed within g) (fits t typed within i g there) (kept t typed within i g there) (nests t typed within i g there) (typed_spelled t typed i g there))

    pub thread-has-room : HasRoom place (body_at (flow t typed within).bodies i) 0 0
    thread-has-room =
        subst (λ n. HasRoom place n 0 0) (sym (body-is t typed within i g there))
        (thread-room Anything (routines t typed within) place (height t typed within) (λ f. refl) (λ f. refl) 17 (omega arith) (finishing_of (routines t typed within)) (omega arith) (routine t typed within g)
        (kept t typed within i g there) (nests t typed within i g there) (calls-low t typed within entrance i g there))

    pub routine-has-room : g.thread ≡ false → (l k : ℕ) → 1 ≤ l → l + place.links i ≤ 16 → k + place.counters i ≤ 136 → HasRoom place (body_at (flow t typed within).bodies i) l k
    routine-has-room calm l k some links counters =
        let h = some-height t typed within i g there in
        subst (λ n. HasRoom place n l k) (sym (body-is t typed within i g there))
        (routine-room Anything (routines t typed within) place (height t typed within) (λ f. refl) (λ f. refl) (height t typed within i) h (routine t typed within g) l k
        (calm-body t typed within i g there calm) (nests t typed within i g there) (calls-lower t typed within entrance i g there) (omega (arith, links, h)) counters)

    pub routine-instant : g.thread ≡ false → IsInstant (body_at (flow t typed within).bodies i)
    routine-instant calm = subst IsInstant (sym (body-is t typed within i g there)) (body-instant (routines t typed within) (routine t typed within g) (calm-body t typed within i g there calm))

  abbrev slots : List ℕ
  slots = slots_of (flow t typed within)

  pub slot-layable : (c : ℕ) → c < length slots → IsLayable (flows_of (flow t typed within).bodies) 0 (body_at (flow t typed within).bodies (function_of (flow t typed within) c))
  slot-layable c less = let h = slot-thread t typed within c less in function-layable (function_of (flow t typed within) c) h.0 h.1

  pub slot-room : (c : ℕ) → c < length slots → HasRoom place (body_at (flow t typed within).bodies (function_of (flow t typed within) c)) 0 0
  slot-room c less = let h = slot-thread t typed within c less in thread-has-room (function_of (flow t typed within) c) h.0 h.1

  -- ---- which functions are called

  not-true : (b : Bool) → not b ≡ true → b ≡ false
  not-true true e = cc
  not-true false e = refl

  both : (a b : Bool) → a ≡ true → b ≡ true → (a && b) ≡ true
  both true true p q = refl
  both true false p q = q
  both false b p q = p

  pub called-below : (g : ℕ) → IsTrue (place.called g) → g < length t.functions
  called-below g is = (Decides-ltb g (length t.functions)).0 (left_true (nat_lt g (length t.functions)) (not (runs_in_slot (flow t typed within) g)) is)

  called-apart : (g : ℕ) → IsTrue (place.called g) → runs_in_slot (flow t typed within) g ≡ false
  called-apart g is = not-true (runs_in_slot (flow t typed within) g) (right_true (nat_lt g (length t.functions)) (not (runs_in_slot (flow t typed within) g)) is)

  pub called-calm : (g : ℕ) (f : Function) → slice_get t.functions g ≡ Some f → IsTrue (place.called g) → f.thread ≡ false
  called-calm g f there is = by f.thread refl
    where
      by : (b : Bool) → f.thread ≡ b → f.thread ≡ false
      by false e = e
      by true e =
          let p = thread-runs t typed within g f there e in
          let runs = there-any g slots p.0 p.1 p.2 in
          let bad : true ≡ false = sym runs ∙ called-apart g is in
          absurd (cc)

  pub is-called : (g : ℕ) → IsTrue (place.called g) → IsCalled (flow t typed within) place g
  is-called g is =
      let less = called-below g is in
      let h = some-there t.functions g less in
      let calm = called-calm g h.0 h.1 is in
      let l = long t typed within in
      record {
        there = omega (arith, l, less);
        apart = λ c lower same. (let runs = there-any g slots c lower same in let bad : true ≡ false = sym runs ∙ called-apart g is in cc);
        passes = passes (flows_of (flow t typed within).bodies) (body_at (flow t typed within).bodies g) (routine-instant g h.0 h.1 calm);
        instant = routine-instant g h.0 h.1 calm;
        layable = function-layable g h.0 h.1;
        room = routine-has-room g h.0 h.1 calm;
      }

  pub in-slot-or-called : (g : ℕ) → g < length (flow t typed within).bodies → IsPlaced g slots ⊎ IsTrue (place.called g)
  in-slot-or-called g less = by (runs_in_slot (flow t typed within) g) refl
    where
      by : (b : Bool) → runs_in_slot (flow t typed within) g ≡ b → IsPlaced g slots ⊎ IsTrue (place.called g)
      by true e = inl (any-there g slots e)
      by false e =
          let l = long t typed within in
          inr (both (nat_lt g (length t.functions)) (not (runs_in_slot (flow t typed within) g)) ((Decides-ltb g (length t.functions)).1 (omega (arith, l, less))) (ap not e))

  -- a call has one link and no counter
  pub called-room : (g : ℕ) → IsTrue (place.called g) → HasRoom place (body_at (flow t typed within).bodies g) 1 0
  called-room g is =
      let h = some-there t.functions g (called-below g is) in
      let calm = called-calm g h.0 h.1 is in
      let low = low-height t typed within g h.0 h.1 calm in
      routine-has-room g h.0 h.1 calm 1 0 (omega arith) (omega (arith, low)) (omega (arith, low))

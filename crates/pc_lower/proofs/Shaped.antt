-- What the shape of a program's functions says: docs/language.md, "Loops and limits".
use Rattle.std.proofs.Common.{◌≡◌, ℕ, ◌+◌, ◌<◌, ◌≤◌, Bool, List, [], length, Some, refl, sym, ap, ◌∙◌, subst, arith}
use Rattle.std.specs.Prelude.{slice_get}
use Rattle.pc_grammar.specs.declared.typed.Function.{Function}
use Rattle.pc_grammar.specs.Typing.{Typing}
use Rattle.pc_grammar.specs.Keeping.{IsTyped}
use Rattle.pc_rules.specs.Judging.{IsWithin}
use Rattle.pc_meaning.specs.Tree.{Routine}
use Rattle.pc_meaning.specs.Promises.{is_known, finishing_of}
use Rattle.pc_meaning.specs.Programs.{program_of}
use Rattle.pc_lower.specs.Aborts.{aborts_of}
use Rattle.pc_lower.specs.Shaped.{can_end, IsLasting, loops_in, IsShaped}
use Rattle.pc_lower.specs.Placing.{typed_flow, placing_of}
use Rattle.pc_lower.proofs.Functions.{some-there}
use Rattle.pc_lower.proofs.FlowProgram.{fit, long, body-is, routine, routine-there, kept, nests, some-height, low-height}
use Rattle.pc_lower.proofs.Laying.{called-below, called-calm}
use Rattle.pc_lower.proofs.Alike.{body-same-end, body-lasts, known-from, body-few-loops}

pub is-shaped : (t : Typing) → IsTyped t → IsWithin t → (entrance : ℕ → ℕ) → IsShaped (typed_flow t) (placing_of t entrance)
is-shaped t typed within entrance = record {
  ends = is_known whole;
  told = λ g less. (
      let h = there g less in
      let r : Routine = routine t typed within h.0 in
      let place : g ≡ 0 + g = omega arith in
      ap (is_known whole) place ∙ known-from (program_of t).routines (aborts_of (program_of t).routines) whole [] (program_of t).routines g r refl (fit t typed within).routines (routine-there t typed within g h.0 h.1)
      ∙ sym (body-same-end (program_of t).routines whole r) ∙ ap (can_end (is_known whole)) (sym (body-is t typed within g h.0 h.1))
      );
  lasts = λ g less. (
      let h = there g less in
      subst (IsLasting (is_known whole)) (sym (body-is t typed within g h.0 h.1))
      (body-lasts (program_of t).routines whole (routine t typed within h.0) (kept t typed within g h.0 h.1))
      );
  loops = λ g less. (
      let h = there g less in
      subst (λ n. loops_in n ≤ 8) (sym (body-is t typed within g h.0 h.1))
      (body-few-loops (program_of t).routines (routine t typed within h.0) (nests t typed within g h.0 h.1))
      );
  low = λ g is. (
      let less = called-below t typed within entrance g is in
      let h = some-there t.functions g less in
      let low = low-height t typed within g h.0 h.1 (called-calm t typed within entrance g h.0 h.1 is) in
      let some = some-height t typed within g h.0 h.1 in
      (omega (arith, low, some), omega (arith, low))
      );
}
  where
    whole : List Bool
    whole = finishing_of (program_of t).routines

    there : (g : ℕ) → g < length (typed_flow t).bodies → (f : Function) × (slice_get t.functions g ≡ Some f)
    there g less = let l = long t typed within in some-there t.functions g (omega (arith, l, less))

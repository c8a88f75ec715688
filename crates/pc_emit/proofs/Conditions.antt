-- The lines of aborts, and their conditions.
use Rattle.std.proofs.Common.{◌≡◌, ℕ, zero, suc, ◌+◌, ◌<◌, ◌≤◌, Bool, IsTrue, Some, List, [], ◌∷◌, ◌++◌, length, slice_get, refl, sym, ap, subst, ◌∙◌, arith, length-append}
use Rattle.std.specs.Prelude.{slice_index_or}
use Rattle.std.specs.List.{AllByRecursion}
use Rattle.mb_isa.specs.declared.words.Instr.TheVariants.{Cend}
use Rattle.pt_image.specs.declared.image.AbortLine.{AbortLine}
use Rattle.pt_image.specs.declared.image.Parts.{Parts}
use Rattle.pc_lower.specs.declared.nodes.Test.{Test}
use Rattle.pc_lower.specs.Flow.{abort_at, is_weak}
use Rattle.pc_lower.specs.Places.{line_in}
use Rattle.pc_lower.specs.Words.{words_in, Writing, HasCondition}
use Rattle.pc_emit.specs.Part.{Part}
use Rattle.pc_regs.specs.Writings.{instrs, WritesWork}
use Rattle.pc_emit.specs.Code.{short}
use Rattle.pc_emit.specs.Image.{condition_size, conditions_size, conditions_words, abort_lines}
use Rattle.pc_emit.proofs.Lists.{IsAt, at_second, at_moved, at_within}
use Rattle.pc_emit.proofs.Numbers.{short_is}
use Rattle.pc_emit.proofs.Lengths.{instrs_size}
use Rattle.pc_emit.proofs.Made.{IsMade, has_at, written_at}

element_there : (xs : List ℕ) (n x : ℕ) → slice_get xs n ≡ Some x → slice_index_or xs n 0 ≡ x
element_there [] n x h = cc
element_there (y ∷ xs) zero x h = cc
element_there (y ∷ xs) (suc n) x h = element_there xs n x h

module _ (writing : Writing) where
  pub conditions_long : (aborts : List (Bool × Test)) → length (conditions_words writing aborts) ≡ conditions_size writing aborts
  conditions_long [] = refl
  conditions_long (a ∷ aborts) =
      let h = instrs_size (writing.test_words_of a.1) in
      let k = conditions_long aborts in
      simp length-append (omega (arith, h, k))

  -- each has its `cend`
  pub conditions_some : (aborts : List (Bool × Test)) → length aborts ≤ conditions_size writing aborts
  conditions_some [] = omega arith
  conditions_some (a ∷ aborts) = let h = conditions_some aborts in omega (arith, h)

  pub lines_long : (aborts : List (Bool × Test)) (k at : ℕ) (handlers : List ℕ) → length (abort_lines writing aborts k at handlers) ≡ length aborts
  lines_long [] k at handlers = refl
  lines_long (a ∷ aborts) k at handlers = ap suc (lines_long aborts (k + 1) (at + condition_size writing a.1) handlers)

  -- the line of an abort that has a handler
  pub line_there : (aborts : List (Bool × Test)) (k at : ℕ) (handlers : List ℕ) (j handler : ℕ) → slice_get handlers (k + j) ≡ Some handler → j < length aborts
      → (cond : ℕ) × (slice_get (abort_lines writing aborts k at handlers) j ≡ Some (record { weak = is_weak aborts j; cond = cond; handler = handler }))
  line_there [] k at handlers j handler is lt = absurd (omega (arith, lt))
  line_there (a ∷ aborts) k at handlers zero handler is lt =
      let n : k + 0 ≡ k = omega arith in
      let e : slice_index_or handlers k 0 ≡ handler = element_there handlers k handler (ap (slice_get handlers) (sym n) ∙ is) in
      (short at, ap (λ h. let l : AbortLine = record { weak = a.0; cond = short at; handler = h } in Some l) e)
  line_there (a ∷ aborts) k at handlers (suc j) handler is lt =
      let n : k + 1 + j ≡ k + suc j = omega arith in
      line_there aborts (k + 1) (at + condition_size writing a.1) handlers j handler (ap (slice_get handlers) n ∙ is) (omega (arith, lt))

  module _ (image : Parts) (whole : Part) (made : IsMade image whole) (work : WritesWork writing) where
    pub condition_there : (aborts : List (Bool × Test)) (k at : ℕ) (handlers : List ℕ) (j : ℕ) → j < length aborts
        → AllByRecursion (λ (a : Bool × Test). IsTrue (writing.is_test_written a.1)) aborts → IsAt whole.words at (conditions_words writing aborts)
        → HasCondition image writing (abort_at aborts j).1 (line_in (slice_get (abort_lines writing aborts k at handlers) j)).cond
    condition_there [] k at handlers j lt written s = absurd (omega (arith, lt))
    condition_there (a ∷ aborts) k at handlers zero lt written s =
        let ops = writing.test_words_of a.1 in
        let rest = Cend (writing.register_of a.1) ∷ conditions_words writing aborts in
        let room = made.room in
        let within = at_within (instrs ops ++ rest) s in
        let cend = at_moved rest (at_second (instrs ops) rest s) (ap (λ n. at + n) (instrs_size ops)) in
        let here : short at ≡ at = short_is at (omega (arith, room, within)) in
        subst (λ k. HasCondition image writing a.1 k) (sym here) (
          at + words_in ops,
          written.0,
          written_at image whole made ops rest at (at + words_in ops) s (work.tests a.1 written.0) refl,
          has_at image whole made (at + words_in ops) (Cend (writing.register_of a.1)) (conditions_words writing aborts) cend tt,
        )
    condition_there (a ∷ aborts) k at handlers (suc j) lt written s =
        let ops = writing.test_words_of a.1 in
        let rest = Cend (writing.register_of a.1) ∷ conditions_words writing aborts in
        let size = instrs_size ops in
        let behind = at_second (Cend (writing.register_of a.1) ∷ []) (conditions_words writing aborts) (at_second (instrs ops) rest s) in
        condition_there aborts (k + 1) (at + condition_size writing a.1) handlers j (omega (arith, lt)) written.1
        (at_moved (conditions_words writing aborts) behind (omega (arith, size)))

-- What an image that is made of a whole has where parts of the whole stand.
use Rattle.std.proofs.Common.{◌≡◌, ℕ, ◌+◌, ◌/◌, ◌%◌, ◌^◌, ◌<◌, ◌≤◌, ℤ, Bool, true, false, IsTrue, FitsSigned, Some, None, List, [], ◌∷◌, ◌++◌, length, map, slice_get, refl, ap, ◌∙◌, arith, option_map, option_and_then, eq-eqb}
use Rattle.std.specs.Prelude.{nat_lt, ◌==◌, if◌then◌else◌}
use Rattle.std.specs.Int.{w16}
use Rattle.std.proofs.lemmas.Option.{slice_get-map}
use Rattle.std.proofs.lemmas.List.{length-map}
use Rattle.std.proofs.lemmas.Bool.Decides.{Decides-ltb}
use Rattle.mb_isa.specs.declared.words.Instr.{Instr}
use Rattle.mb_isa.specs.declared.words.Instr.TheVariants.{Imm, Bri, Loop}
use Rattle.mb_isa.specs.Codes.{code_of, IsInstr}
use Rattle.mb_isa.specs.Candidates.{decoded}
use Rattle.mb_isa.proofs.Inverse.{candidate_for-code_of}
use Rattle.pt_image.specs.declared.image.Parts.{Parts}
use Rattle.pc_lower.specs.declared.nodes.Test.{Test}
use Rattle.pc_lower.specs.Places.{Has, HasJump, wide, HasLoop, wide_loop, short_loop}
use Rattle.pc_lower.specs.Words.{Written, alone, after_imm, words_in, Writing, HasWritten, HasBranch, wide_branch, HasTest}
use Rattle.pc_emit.specs.Part.{Part}
use Rattle.pc_regs.specs.Writings.{instrs, AreWork, WritesWork}
use Rattle.pc_emit.specs.Code.{test_size, loop_size, loop_words, way, upper_half, lower_half, jump}
use Rattle.pc_emit.proofs.Lists.{IsAt, at_second, at_moved, at_get, at_within}
use Rattle.pc_emit.proofs.Numbers.{fits_half, two_halves_of_turns, way_small, jump_leads}
use Rattle.pc_emit.proofs.Lengths.{instrs_size}

decoded_code : (i : Instr) → IsInstr i → decoded (code_of i) ≡ Some i
decoded_code i h =
    ap (λ c. option_and_then (λ j. if code_of j == code_of i then Some j else None) c) (candidate_for-code_of i h)
    ∙ ap (λ b. if b then Some i else None) (eq-eqb (code_of i) (code_of i) refl)

-- its words are those of the whole
pub record IsMade (image : Parts) (whole : Part) : Type 0 where
  pub code : image.code ≡ map code_of whole.words
  pub room : length whole.words ≤ 65535

module _ (image : Parts) (whole : Part) (made : IsMade image whole) where
  pub code_long : length image.code ≡ length whole.words
  code_long = ap length made.code ∙ length-map whole.words code_of

  pub has_at : (n : ℕ) (w : Instr) (more : List Instr) → IsAt whole.words n (w ∷ more) → IsInstr w → Has image n w
  has_at n w more s ok = record {
    code = code_of w;
    stands = ap (λ l. slice_get l n) made.code ∙ slice_get-map code_of whole.words n ∙ ap (option_map code_of) (at_get w more s);
    decodes = decoded_code w ok;
  }

  -- so many words further on
  next_at : (n : ℕ) (w : Instr) (more : List Instr) → IsAt whole.words n (w ∷ more) → IsAt whole.words (n + 1) more
  next_at n w more s = at_second (w ∷ []) more s

  pub written_at : (ops : List Written) (more : List Instr) (n m : ℕ) → IsAt whole.words n (instrs ops ++ more) → AreWork ops → n + words_in ops ≡ m →
      HasWritten image ops n m
  written_at [] more n m s work e = omega (arith, e)
  written_at (alone w ∷ ops) more n m s work e = (
    has_at n w (instrs ops ++ more) s work.0,
    work.1 image,
    written_at ops more (n + 1) m (next_at n w (instrs ops ++ more) s) work.2 (omega (arith, e)),
  )
  written_at (after_imm upper w ∷ ops) more n m s work e =
      let s1 = next_at n (Imm upper) (w ∷ (instrs ops ++ more)) s in (
        has_at n (Imm upper) (w ∷ (instrs ops ++ more)) s work.0,
        has_at (n + 1) w (instrs ops ++ more) s1 work.1,
        work.2 image,
        written_at ops more (n + 2) m (at_moved (instrs ops ++ more) (next_at (n + 1) w (instrs ops ++ more) s1) (omega arith)) work.3 (omega (arith, e)),
      )

  -- the two words of a branch
  module _ (word : ℤ → Instr) (at to : ℕ) (s : IsAt whole.words at (jump word at to)) where
    jump_within : at + 2 ≤ length whole.words
    jump_within = at_within (jump word at to) s

    imm_at : Has image at (Imm (upper_half (way at to)))
    imm_at =
        let w = way_small at to in
        has_at at (Imm (upper_half (way at to))) (word (lower_half (way at to)) ∷ []) s (fits_half (way at to / 65536) (omega (arith, w)))

    lower_fits : FitsSigned w16 (lower_half (way at to))
    lower_fits = fits_half (way at to % 65536) (omega arith)

    word_at : IsInstr (word (lower_half (way at to))) → Has image (at + 1) (word (lower_half (way at to)))
    word_at ok = has_at (at + 1) (word (lower_half (way at to))) [] (next_at at (Imm (upper_half (way at to))) (word (lower_half (way at to)) ∷ []) s) ok

  pub jump_at : (at next to : ℕ) → IsAt whole.words at (jump Bri at to) → at + 2 ≡ next → to < length whole.words → HasJump image at next to
  jump_at at next to s e lt =
      let r = made.room in
      let w = jump_within Bri at to s in
      let long = code_long in
      wide (upper_half (way at to)) (lower_half (way at to)) (imm_at Bri at to s) (word_at Bri at to s (lower_fits Bri at to s))
      (jump_leads at to (omega (arith, r, w)) (omega (arith, r, lt)), omega (arith, lt, long)) e

  pub loop_at : (most at next : ℕ) → most < 2 ^ 32 → IsAt whole.words at (loop_words most) → at + loop_size most ≡ next → HasLoop image most at next
  loop_at most at next small s e = by (nat_lt most 65536) refl s e
    where
      by : (few : Bool) → nat_lt most 65536 ≡ few
          → IsAt whole.words at (if few then Loop most ∷ [] else Imm (upper_half most) ∷ Loop (most % 65536) ∷ [])
          → at + (if few then 1 else 2) ≡ next → HasLoop image most at next
      by true is s e = let lt : most < 65536 = (Decides-ltb most 65536).0 is in short_loop (has_at at (Loop most) [] s lt) e
      by false is s e =
          wide_loop (upper_half most) (most % 65536)
          (has_at at (Imm (upper_half most)) (Loop (most % 65536) ∷ []) s (fits_half (most / 65536) (omega arith)))
          (has_at (at + 1) (Loop (most % 65536)) [] (next_at at (Imm (upper_half most)) (Loop (most % 65536) ∷ []) s) (omega arith))
          (two_halves_of_turns most small) e

  module _ (writing : Writing) (work : WritesWork writing) where
    pub branch_at : (test : Test) (at inner out : ℕ) → IsAt whole.words at (jump (writing.branch_of test) at out) → at + 2 ≡ inner → out < length whole.words →
        HasBranch image (writing.branch_of test) at inner out
    branch_at test at inner out s e lt =
        let word = writing.branch_of test in
        let r = made.room in
        let w = jump_within word at out s in
        let long = code_long in
        let low = lower_half (way at out) in
        wide_branch (upper_half (way at out)) low (imm_at word at out s) (word_at word at out s (work.branches test low (lower_fits word at out s)))
        (work.decided test image (upper_half (way at out)) low)
        (jump_leads at out (omega (arith, r, w)) (omega (arith, r, lt)), omega (arith, lt, long)) e

    pub test_at : (test : Test) (at inner out : ℕ) → IsTrue (writing.is_test_written test)
        → IsAt whole.words at (instrs (writing.test_words_of test) ++ jump (writing.branch_of test) (at + words_in (writing.test_words_of test)) out)
        → at + test_size writing test ≡ inner → out < length whole.words → HasTest image writing test at inner out
    test_at test at inner out written s e lt =
        let ops = writing.test_words_of test in
        let mid = at + words_in ops in
        let j = jump (writing.branch_of test) mid out in (
          mid,
          written,
          written_at ops j at mid s (work.tests test written) refl,
          branch_at test mid inner out (at_moved j (at_second (instrs ops) j s) (ap (λ n. at + n) (instrs_size ops))) (omega (arith, e)) lt,
        )

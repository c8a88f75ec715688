-- How many words parts have.
use Rattle.std.proofs.Common.{◌≡◌, ℕ, ◌+◌, ◌%◌, Bool, true, false, Option, Some, None, List, [], ◌∷◌, ◌++◌, length, refl, ap, ◌∙◌, arith, length-append}
use Rattle.std.specs.Prelude.{nat_lt, if◌then◌else◌}
use Rattle.mb_isa.specs.declared.words.Instr.TheVariants.{Imm, Loop}
use Rattle.pc_lower.specs.declared.nodes.Test.{Test}
use Rattle.pc_lower.specs.Flow.{Node, Nodes, straight, sequence, branch, turns, bounded, call, pause, fork, guard, no_nodes, and}
use Rattle.pc_lower.specs.Words.{Written, alone, after_imm, words_in, Writing}
use Rattle.pc_lower.specs.Limits.{threads_of}
use Rattle.pc_regs.specs.Writings.{instrs}
use Rattle.pc_emit.specs.Code.{loop_size, drop_size, test_size, option_size, size, sizes, loop_words, drop_words, upper_half, jump, tested, option_tested, code, codes}

pub instrs_size : (ops : List Written) → length (instrs ops) ≡ words_in ops
instrs_size [] = refl
instrs_size (alone w ∷ ops) = let h = instrs_size ops in omega (arith, h)
instrs_size (after_imm upper w ∷ ops) = let h = instrs_size ops in omega (arith, h)

pub loop_words_size : (most : ℕ) → length (loop_words most) ≡ loop_size most
loop_words_size most = by (nat_lt most 65536)
  where
    by : (few : Bool) → length (if few then Loop most ∷ [] else Imm (upper_half most) ∷ Loop (most % 65536) ∷ []) ≡ (if few then 1 else 2)
    by true = refl
    by false = refl

pub drop_words_size : (test : Option Test) → length (drop_words test) ≡ drop_size test
drop_words_size None = refl
drop_words_size (Some test) = refl

module _ (writing : Writing) where
  pub tested_size : (test : Test) (at out : ℕ) → length (tested writing test at out).words ≡ test_size writing test
  tested_size test at out =
      length-append (instrs (writing.test_words_of test)) (jump (writing.branch_of test) (at + words_in (writing.test_words_of test)) out)
      ∙ ap (λ n. n + 2) (instrs_size (writing.test_words_of test))

  pub option_tested_size : (test : Option Test) (at out : ℕ) → length (option_tested writing test at out).words ≡ option_size writing test
  option_tested_size None at out = refl
  option_tested_size (Some test) at out = tested_size test at out

  module _ (entrances : List ℕ) (slot : ℕ) where
    mutual
      pub code_size : (n : Node) (stack : List ℕ) (child at : ℕ) → length (code writing entrances slot n stack child at).words ≡ size writing n
      code_size (straight steps) stack child at = instrs_size (writing.words_of steps)
      code_size (sequence nodes) stack child at = codes_size nodes stack child at
      code_size (branch test a b) stack child at =
          let t = instrs_size (writing.test_words_of test) in
          let x = code_size a stack child (at + test_size writing test) in
          let y = code_size b stack (child + length (threads_of a)) (at + test_size writing test + size writing a + 2) in
          simp length-append (omega (arith, t, x, y))
      code_size (turns test body) stack child at =
          let t = option_tested_size test at (at + option_size writing test + size writing body + 2) in
          let x = code_size body stack child (at + option_size writing test) in
          simp length-append (omega (arith, t, x))
      code_size (bounded most test body) stack child at =
          let l = loop_words_size most in
          let t = option_tested_size test (at + loop_size most + 1) (at + loop_size most + 1 + option_size writing test + size writing body + 2) in
          let x = code_size body stack child (at + loop_size most + 1 + option_size writing test) in
          let d = drop_words_size test in
          simp length-append (omega (arith, l, t, x, d))
      code_size (call f) stack child at = refl
      code_size (pause i) stack child at = refl
      code_size (fork i fs) stack child at = refl
      code_size (guard j body) stack child at =
          let x = code_size body (stack ++ j ∷ []) child (at + 1) in
          simp length-append (omega (arith, x))

      pub codes_size : (nodes : Nodes) (stack : List ℕ) (child at : ℕ) → length (codes writing entrances slot nodes stack child at).words ≡ sizes writing nodes
      codes_size no_nodes stack child at = refl
      codes_size (and n nodes) stack child at =
          let x = code_size n stack child at in
          let y = codes_size nodes stack (child + length (threads_of n)) (at + size writing n) in
          simp length-append (omega (arith, x, y))

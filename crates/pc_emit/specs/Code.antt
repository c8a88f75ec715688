-- The words and tables of a node: docs/architecture.md, "Layout".
use Rattle.std.specs.Prelude.{ℕ, ◌+◌, ◌-◌, ◌*◌, ◌/◌, ◌%◌, ℤ, nat_lt, if◌then◌else◌, List, [], ◌∷◌, ◌++◌, length, slice_index_or, Option, Some, None}
use Rattle.std.specs.Int.{w16, cast_signed}
use Rattle.mb_isa.specs.declared.words.Instr.{Instr}
use Rattle.mb_isa.specs.declared.words.Instr.TheVariants.{Imm, Bri, Leave, Call, Loop, Next, Drop}
use Rattle.pt_image.specs.declared.image.Point.{Point}
use Rattle.pc_lower.specs.declared.nodes.Test.{Test}
use Rattle.pc_lower.specs.Flow.{Node, Nodes, straight, sequence, branch, turns, bounded, call, pause, fork, guard, no_nodes, and}
use Rattle.pc_lower.specs.Words.{words_in, Writing}
use Rattle.pc_lower.specs.Limits.{threads_of}
use Rattle.pc_emit.specs.Part.{Part, joined, just, pausing, forking, entering}
use Rattle.pc_regs.specs.Writings.{instrs}

-- ---- sizes

-- a `loop` word, behind an `imm` where its number has more than sixteen bits
abbrev pub loop_size : ℕ → ℕ
loop_size most = if nat_lt most 65536 then 1 else 2

-- a `drop` stands behind a bounded loop that has a test
abbrev pub drop_size : Option Test → ℕ
drop_size None = 0
drop_size (Some test) = 1

module _ (writing : Writing) where
  -- a test, and the two words of its branch
  abbrev pub test_size : Test → ℕ
  test_size test = words_in (writing.test_words_of test) + 2

  abbrev pub option_size : Option Test → ℕ
  option_size None = 0
  option_size (Some test) = test_size test

  -- how many words a node takes
  abbrev mutual
    pub size : Node → ℕ
    size (straight steps) = words_in (writing.words_of steps)
    size (sequence nodes) = sizes nodes
    size (branch test a b) = test_size test + size a + 2 + size b
    size (turns test body) = option_size test + size body + 2
    size (bounded most test body) = loop_size most + 1 + option_size test + size body + 2 + drop_size test
    size (call f) = 1
    size (pause i) = 1
    size (fork i fs) = 1
    size (guard j body) = 1 + size body + 1

    pub sizes : Nodes → ℕ
    sizes no_nodes = 0
    sizes (and n nodes) = size n + sizes nodes

-- ---- words

-- a place in the sixteen bits of a word; each place of an image is one
abbrev pub short : ℕ → ℕ
short place = place % 65536

-- the bits of the way in bytes to a place, from behind another place
abbrev pub way : ℕ → ℕ → ℕ
way at to = (4 * short to + 4294967296 - 4 * (short at + 1)) % 4294967296

abbrev pub upper_half : ℕ → ℤ
upper_half bits = cast_signed w16 (bits / 65536)

abbrev pub lower_half : ℕ → ℤ
lower_half bits = cast_signed w16 (bits % 65536)

-- a branch at a place to another: an `imm` and the branch word
abbrev pub jump : (ℤ → Instr) → ℕ → ℕ → List Instr
jump word at to = Imm (upper_half (way at to)) ∷ word (lower_half (way at to)) ∷ []

abbrev pub loop_words : ℕ → List Instr
loop_words most =
    if nat_lt most 65536 then Loop most ∷ []
    else Imm (upper_half most) ∷ Loop (most % 65536) ∷ []

abbrev pub drop_words : Option Test → List Instr
drop_words None = []
drop_words (Some test) = Drop ∷ []

-- ---- parts

-- a word where a slot may pause or start threads, inside these aborts
abbrev pub point : ℕ → ℕ → List ℕ → Point
point at slot stack = record { at = short at; slot = slot; stack = stack }

module _ (writing : Writing) where
  -- a test at a place, and the branch to where it goes on if it doesn't hold
  abbrev pub tested : Test → (at out : ℕ) → Part
  tested test at out =
      just (instrs (writing.test_words_of test) ++ jump (writing.branch_of test) (at + words_in (writing.test_words_of test)) out)

  abbrev pub option_tested : Option Test → (at out : ℕ) → Part
  option_tested None at out = just []
  option_tested (Some test) at out = tested test at out

  -- A node of the slot at a place, inside these aborts; `entrances` are the places where the functions begin, and `child` is the
  -- first slot that the node's forks start.
  module _ (entrances : List ℕ) (slot : ℕ) where
    abbrev mutual
      pub code : Node → (stack : List ℕ) → (child at : ℕ) → Part
      code (straight steps) stack child at = just (instrs (writing.words_of steps))
      code (sequence nodes) stack child at = codes nodes stack child at
      code (branch test a b) stack child at =
          joined (tested test at (at + test_size writing test + size writing a + 2))
          (joined (code a stack child (at + test_size writing test))
          (joined (just (jump Bri
          (at + test_size writing test + size writing a)
          (at + test_size writing test + size writing a + 2 + size writing b)))
          (code b stack (child + length (threads_of a)) (at + test_size writing test + size writing a + 2))))
      code (turns test body) stack child at =
          joined (option_tested test at (at + option_size writing test + size writing body + 2))
          (joined (code body stack child (at + option_size writing test))
          (just (jump Bri (at + option_size writing test + size writing body) at)))
      code (bounded most test body) stack child at =
          joined (just (loop_words most))
          (joined (just (Next (short (at + loop_size most + 1 + option_size writing test + size writing body + 2 + drop_size test)) ∷ []))
          (joined (option_tested test
          (at + loop_size most + 1)
          (at + loop_size most + 1 + option_size writing test + size writing body + 2))
          (joined (code body stack child (at + loop_size most + 1 + option_size writing test))
          (joined (just (jump Bri (at + loop_size most + 1 + option_size writing test + size writing body) (at + loop_size most)))
          (just (drop_words test))))))
      code (call f) stack child at = just (Call (short (slice_index_or entrances f 0)) ∷ [])
      code (pause i) stack child at = pausing (point at slot stack)
      code (fork i fs) stack child at = forking (child % 256) (length fs % 256) (point at slot stack)
      code (guard j body) stack child at =
          joined (entering (short j) (short (at + 1 + size writing body + 1)))
          (joined (code body (stack ++ j ∷ []) child (at + 1))
          (just (Leave ∷ [])))

      pub codes : Nodes → (stack : List ℕ) → (child at : ℕ) → Part
      codes no_nodes stack child at = just []
      codes (and n nodes) stack child at =
          joined (code n stack child at) (codes nodes stack (child + length (threads_of n)) (at + size writing n))

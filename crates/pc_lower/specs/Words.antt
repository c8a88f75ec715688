-- Words that the data do, and branches that they decide, with or without an `imm` before them.
use Rattle.std.specs.Prelude.{not, ◌≡◌, ℕ, ℤ, ◌+◌, Bool, false, IsTrue, List, [], ◌∷◌, Option, Some, None}
use Rattle.mb_isa.specs.declared.Instr.{Instr}
use Rattle.mb_isa.specs.declared.Instr.TheVariants.{Imm, Cend}
use Rattle.mb_isa.specs.declared.Reg.{Reg}
use Rattle.mb_pfu.specs.Unit.{State as UnitState}
use Rattle.pt_image.specs.declared.Parts.{Parts}
use Rattle.mb_isa.specs.Control.{Who, goes}
use Rattle.mb_isa.specs.Words.{Work, Branch, is_barred, branched, plan_of}
use Rattle.mb_isa.specs.Step.{Rules}
use Rattle.pc_lower.specs.declared.nodes.Step.{Step}
use Rattle.pc_lower.specs.declared.nodes.Test.{Test}
use Rattle.pc_lower.specs.Flow.{State, run, decides, tested}
use Rattle.pc_lower.specs.Places.{Has, LeadsTo}

-- a word, alone or behind an `imm`
pub data Written : Type 0 where
  alone : Instr → Written
  after_imm : (upper : ℤ) → Instr → Written

-- how many words these are
abbrev pub words_in : List Written → ℕ
words_in [] = 0
words_in (alone w ∷ ops) = words_in ops + 1
words_in (after_imm upper w ∷ ops) = words_in ops + 2

abbrev pub and_then : {Data : Type 0} → (Data → Option Data) → Option Data → Option Data
and_then f None = None
and_then f (Some d) = f d

-- what the data make of words
abbrev pub does_all : {Data : Type 0} → Rules Data → List Written → Data → Option Data
does_all rules [] d = Some d
does_all rules (alone w ∷ ops) d = and_then (does_all rules ops) (rules.does w None d)
does_all rules (after_imm upper w ∷ ops) d = and_then (does_all rules ops) (rules.does w (Some upper) d)

module _ (image : Parts) where
  -- the data do the word, and it goes on behind it
  abbrev pub IsWork : Option ℤ → Instr → Type 0
  IsWork upper w =
      (is_barred upper w ≡ false)
      × ((who : Who) (p : ℕ) (u : UnitState) → plan_of image who p upper u w ≡ Work w upper (goes who (p + 1) u))

  -- these words stand from a place to another
  abbrev pub HasWritten : List Written → (from to : ℕ) → Type 0
  HasWritten [] from to = from ≡ to
  HasWritten (alone w ∷ ops) from to = Has image from w × IsWork None w × HasWritten ops (from + 1) to
  HasWritten (after_imm upper w ∷ ops) from to =
      Has image from (Imm upper) × Has image (from + 1) w × IsWork (Some upper) w × HasWritten ops (from + 2) to

  -- the data say whether the word's branch is taken
  abbrev pub IsTest : Option ℤ → ℤ → Instr → Type 0
  IsTest upper imm w =
      (is_barred upper w ≡ false)
      × ((who : Who) (p : ℕ) (u : UnitState) → plan_of image who p upper u w
      ≡ Branch w (branched image who p upper u imm) (goes who (p + 1) u))

  -- a conditional branch of one word or two to `out`, that goes on to `inner` behind it where it isn't taken
  pub data HasBranch (word : ℤ → Instr) (at inner out : ℕ) : Type 0 where
    wide_branch : (upper lower : ℤ) → Has image at (Imm upper) → Has image (at + 1) (word lower) →
        IsTest (Some upper) lower (word lower) → LeadsTo image (at + 1) (Some upper) lower out → at + 2 ≡ inner → HasBranch word at inner out
    short_branch : (lower : ℤ) → Has image at (word lower) → IsTest None lower (word lower) →
        LeadsTo image at None lower out → at + 1 ≡ inner → HasBranch word at inner out

-- How steps and tests are written: which of them are; the words of steps; those of a test, the register that it is then in,
-- and the branch that is taken where it doesn't hold.
pub record Writing : Type 0 where
  pub is_written : List Step → Bool
  pub is_test_written : Test → Bool
  pub words_of : List Step → List Written
  pub test_words_of : Test → List Written
  pub register_of : Test → Reg
  pub branch_of : Test → ℤ → Instr

-- What is left to say of the data alone: the words of steps do them, those of a test decide it, for a branch and for a
-- condition, and the inputs are sampled.
pub record DataLaws {Data : Type 0} (rules : Rules Data) (Represents : Data → State → Type 0) (sample : State → State)
    (writing : Writing) : Type 0 where
  pub steps : (p : List Step) (d : Data) (state : State) → IsTrue (writing.is_written p) → Represents d state →
      (after : Data) × (does_all rules (writing.words_of p) d ≡ Some after) × Represents after (run p state)
  pub test : (t : Test) (d : Data) (state : State) → IsTrue (writing.is_test_written t) → Represents d state →
      (between : Data) × (does_all rules (writing.test_words_of t) d ≡ Some between)
  pub taken : (t : Test) (d between : Data) (state : State) → IsTrue (writing.is_test_written t) → Represents d state →
      does_all rules (writing.test_words_of t) d ≡ Some between →
      (after : Data) × ((lower : ℤ) → rules.taken (writing.branch_of t lower) between ≡ Some (not (decides t state), after))
      × Represents after (tested t state)
  pub holds : (t : Test) (d between : Data) (state : State) → IsTrue (writing.is_test_written t) → Represents d state →
      does_all rules (writing.test_words_of t) d ≡ Some between →
      (after : Data) × (rules.holds (writing.register_of t) between ≡ Some (decides t state, after)) × Represents after (tested t state)
  pub sampled : (d : Data) (state : State) → Represents d state → Represents (rules.sampled d) (sample state)

module _ (image : Parts) (writing : Writing) where
  -- the words of steps stand from a place to another
  abbrev pub HasSteps : List Step → (from to : ℕ) → Type 0
  HasSteps p from to = IsTrue (writing.is_written p) × HasWritten image (writing.words_of p) from to

  -- a test's words, and the branch that leads out where it doesn't hold
  abbrev pub HasTest : Test → (from inner out : ℕ) → Type 0
  HasTest t from inner out =
      (mid : ℕ) × IsTrue (writing.is_test_written t) × HasWritten image (writing.test_words_of t) from mid
      × HasBranch image (writing.branch_of t) mid inner out

  -- a condition's words from a place on, and its `cend`
  abbrev pub HasCondition : Test → (from : ℕ) → Type 0
  HasCondition t from =
      (mid : ℕ) × IsTrue (writing.is_test_written t) × HasWritten image (writing.test_words_of t) from mid
      × Has image mid (Cend (writing.register_of t))

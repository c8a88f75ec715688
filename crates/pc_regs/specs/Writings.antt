-- The words of a writing one by one, what they have to be, and when the steps of a flow are written.
use Rattle.std.specs.Prelude.{ℤ, FitsSigned, Bool, IsTrue, Option, Some, None, List, [], ◌∷◌}
use Rattle.std.specs.List.{AllByRecursion}
use Rattle.std.specs.Int.{w16}
use Rattle.mb_isa.specs.declared.words.Instr.{Instr}
use Rattle.mb_isa.specs.declared.words.Instr.TheVariants.{Imm}
use Rattle.mb_isa.specs.Codes.{IsInstr}
use Rattle.pt_image.specs.declared.image.Parts.{Parts}
use Rattle.pc_lower.specs.declared.nodes.Step.{Step}
use Rattle.pc_lower.specs.declared.nodes.Test.{Test}
use Rattle.pc_lower.specs.Flow.{Node, Nodes, straight, sequence, branch, turns, bounded, call, pause, fork, guard, no_nodes, and, Flow}
use Rattle.pc_lower.specs.Words.{Written, alone, after_imm, IsWork, IsTest, Writing}

-- the words, one after another
abbrev pub instrs : List Written → List Instr
instrs [] = []
instrs (alone w ∷ ops) = w ∷ instrs ops
instrs (after_imm upper w ∷ ops) = Imm upper ∷ w ∷ instrs ops

-- instruction words that the data do, in every image
abbrev pub AreWork : List Written → Type 0
AreWork [] = Unit {0}
AreWork (alone w ∷ ops) = IsInstr w × ((image : Parts) → IsWork image None w) × AreWork ops
AreWork (after_imm upper w ∷ ops) =
    FitsSigned w16 upper × IsInstr w × ((image : Parts) → IsWork image (Some upper) w) × AreWork ops

-- What is written are words that the data do, and branches that they decide, in every image.
pub record WritesWork (writing : Writing) : Type 0 where
  pub steps : (p : List Step) → IsTrue (writing.is_written p) → AreWork (writing.words_of p)
  pub tests : (t : Test) → IsTrue (writing.is_test_written t) → AreWork (writing.test_words_of t)
  pub branches : (t : Test) (lower : ℤ) → FitsSigned w16 lower → IsInstr (writing.branch_of t lower)
  pub decided : (t : Test) (image : Parts) (upper lower : ℤ) → IsTest image (Some upper) lower (writing.branch_of t lower)

-- ---- the steps and the tests of a flow are written

module _ (writing : Writing) where
  abbrev pub OptionWritten : Option Test → Type 0
  OptionWritten None = Unit {0}
  OptionWritten (Some test) = IsTrue (writing.is_test_written test)

  abbrev mutual
    pub NodeWritten : Node → Type 0
    NodeWritten (straight steps) = IsTrue (writing.is_written steps)
    NodeWritten (sequence nodes) = NodesWritten nodes
    NodeWritten (branch test a b) = IsTrue (writing.is_test_written test) × NodeWritten a × NodeWritten b
    NodeWritten (turns test body) = OptionWritten test × NodeWritten body
    NodeWritten (bounded most test body) = OptionWritten test × NodeWritten body
    NodeWritten (call f) = Unit {0}
    NodeWritten (pause i) = Unit {0}
    NodeWritten (fork i fs) = Unit {0}
    NodeWritten (guard j body) = NodeWritten body

    pub NodesWritten : Nodes → Type 0
    NodesWritten no_nodes = Unit {0}
    NodesWritten (and n nodes) = NodeWritten n × NodesWritten nodes

  -- those of a flow, and its conditions
  pub record FlowWritten (f : Flow) : Type 0 where
    pub bodies : AllByRecursion NodeWritten f.bodies
    pub conditions : AllByRecursion (λ (a : Bool × Test). IsTrue (writing.is_test_written a.1)) f.aborts

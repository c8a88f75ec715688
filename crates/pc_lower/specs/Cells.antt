-- The steps of a flow keep to the cells, and their numbers are words.
use Rattle.std.specs.Prelude.{ℕ, ◌+◌, ◌<◌, ◌≤◌, FitsSigned, Bool, List, length, Option, Some, None}
use Rattle.std.specs.Int.{w32}
use Rattle.std.specs.List.{AllByRecursion}
use Rattle.pc_lower.specs.declared.nodes.Step.{Step}
use Rattle.pc_lower.specs.declared.nodes.Step.TheVariants.{Const as const, Load as load, Save as save, Unary as unary_step, Binary as binary_step, TakeElement as take_element, PutElement as put_element, Move as move}
use Rattle.pc_lower.specs.declared.nodes.Test.{Test}
use Rattle.pc_lower.specs.Flow.{Node, Nodes, straight, sequence, branch, turns, bounded, call, pause, fork, guard, no_nodes, and, Flow}

-- of so many cells
module _ (cells : ℕ) where
  abbrev pub StepKeeps : Step → Type 0
  StepKeeps (const to n) = FitsSigned w32 n
  StepKeeps (load to place) = place < cells
  StepKeeps (save place by) = place < cells
  StepKeeps (unary_step op to by) = Unit {0}
  StepKeeps (binary_step op to left right) = Unit {0}
  StepKeeps (take_element to first size index) = first + size ≤ cells
  StepKeeps (put_element first size index by) = first + size ≤ cells
  StepKeeps (move to by) = Unit {0}

  abbrev pub StepsKeep : List Step → Type 0
  StepsKeep steps = AllByRecursion StepKeeps steps

  abbrev pub OptionKeeps : Option Test → Type 0
  OptionKeeps None = Unit {0}
  OptionKeeps (Some test) = StepsKeep test.steps

  abbrev mutual
    pub NodeKeeps : Node → Type 0
    NodeKeeps (straight steps) = StepsKeep steps
    NodeKeeps (sequence nodes) = NodesKeep nodes
    NodeKeeps (branch test a b) = StepsKeep test.steps × NodeKeeps a × NodeKeeps b
    NodeKeeps (turns test body) = OptionKeeps test × NodeKeeps body
    NodeKeeps (bounded n test body) = OptionKeeps test × NodeKeeps body
    NodeKeeps (call f) = Unit {0}
    NodeKeeps (pause i) = Unit {0}
    NodeKeeps (fork i fs) = Unit {0}
    NodeKeeps (guard j body) = NodeKeeps body

    pub NodesKeep : Nodes → Type 0
    NodesKeep no_nodes = Unit {0}
    NodesKeep (and n nodes) = NodeKeeps n × NodesKeep nodes

-- the bodies and the conditions of a flow
pub record KeepsCells (f : Flow) : Type 0 where
  pub bodies : AllByRecursion (NodeKeeps (length f.declared)) f.bodies
  pub conditions : AllByRecursion (λ (a : Bool × Test). StepsKeep (length f.declared) a.1.steps) f.aborts

-- inputs or outputs are cells, and 64 at most
abbrev pub ArePorts : Flow → List ℕ → Type 0
ArePorts f words = (length words ≤ 64) × AllByRecursion (λ p. p < length f.declared) words

-- Words within the worst of each step and test, and the sizes that count them.
use Rattle.std.specs.Prelude.{◌+◌, ◌≤◌, List}
use Rattle.pc_lower.specs.declared.nodes.Step.{Step}
use Rattle.pc_lower.specs.declared.nodes.Test.{Test}
use Rattle.pc_lower.specs.Flow.{Node}
use Rattle.pc_lower.specs.Counts.{steps_words, test_words}
use Rattle.pc_lower.specs.StepCounts.{Sizes}
use Rattle.pc_lower.specs.Sizing.{sizes_of}
use Rattle.pc_lower.specs.Words.{words_in, Writing}

pub record WritesFew (writing : Writing) : Type 0 where
  pub steps : (p : List Step) → words_in (writing.words_of p) ≤ steps_words p
  pub tests : (t : Test) → words_in (writing.test_words_of t) ≤ test_words t

-- a test has its branch of two words beside its own
abbrev pub sizes_for : Writing → List Node → Sizes
sizes_for writing bodies = sizes_of (λ p. words_in (writing.words_of p)) (λ t. words_in (writing.test_words_of t) + 2) bodies

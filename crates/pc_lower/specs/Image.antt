-- What it says that the ticks of an image are those of a flow.
use Rattle.std.specs.Prelude.{◌≡◌, ℕ, ℤ, ◌+◌, ◌*◌, ◌<◌, ◌≤◌, List, [], length}
use Rattle.mb_pfu.specs.Tree.{Tree, Leaf, Running, Finished}
use Rattle.pt_image.specs.declared.Parts.{Parts}
use Rattle.mb_isa.specs.Step.{Rules}
use Rattle.mb_isa.specs.Tick.{Ends as TickEnds, base_of, tick}
use Rattle.pc_lower.specs.declared.nodes.Step.{Step}
use Rattle.pc_lower.specs.declared.nodes.Test.{Test}
use Rattle.pc_lower.specs.Flow.{State, decides, tested, Flow, abort_at, is_weak, Position, Fresh, Waits, Stopped, point_of, goes, sampled}
use Rattle.pc_lower.specs.Residuals.{body_at, Of}
use Rattle.pc_lower.specs.Slots.{Fits}
use Rattle.pc_lower.specs.Places.{slot_start, line}
use Rattle.pc_lower.specs.Standing.{Stands}
use Rattle.pc_lower.specs.Laid.{Placing}
use Rattle.pc_lower.specs.Law.{unnested, unit_at}
use Rattle.pc_lower.specs.StepCounts.{Sizes, tick_in}
use Rattle.pc_lower.specs.Program.{IsCompiled}
use Rattle.pc_lower.specs.Tests.{tests_in}
use Rattle.pc_lower.specs.Words.{Writing, words_in, HasSteps, HasTest, HasCondition}

-- a test changes no cell, and the cells alone decide it
abbrev pub IsQuiet : Test → Type 0
IsQuiet t = (w v : State) → w.store ≡ v.store → (decides t w ≡ decides t v) × ((tested t w).store ≡ w.store)

abbrev pub condition_of : Flow → ℕ → Test
condition_of f j = (abort_at f.aborts j).1

-- how many steps a condition takes, with its `cend`
abbrev pub condition_words : Writing → Flow → ℕ → ℕ
condition_words writing f j = words_in (writing.test_words_of (condition_of f j)) + 1

-- The image is that of a flow: its functions and its conditions stand in it, and the sizes count their words.
pub record IsImageOf (parent : ℕ → ℕ) (image : Parts) (costs : List ℕ) (f : Flow) (writing : Writing) (sizes : Sizes)
    (placing : Placing) : Type 0 where
  pub compiled :
      IsCompiled parent image costs f.bodies (is_weak f.aborts) sizes (HasSteps image writing) (HasTest image writing) placing f.main
  pub conditions : (j : ℕ) → j < length image.aborts → HasCondition image writing (condition_of f j) (line image j).cond
  pub quiet : (j : ℕ) → j < length image.aborts → IsQuiet (condition_of f j)
  pub words : (p : List Step) → words_in (writing.words_of p) ≤ sizes.words p
  pub test_words : (t : Test) → words_in (writing.test_words_of t) + 2 ≤ sizes.test_words t

module _ (parent : ℕ → ℕ) (image : Parts) (f : Flow) where
  -- a tree is where the flow stands between two ticks
  abbrev pub StandsAt : Position → Tree → Type 0
  StandsAt Fresh t = t ≡ Leaf [] (Running (slot_start image 0))
  StandsAt (Waits r) t = Of f.bodies (body_at f.bodies f.main) r × Stands image [] r t × Fits parent 0 t
  StandsAt Stopped t = t ≡ Leaf [] Finished

  -- how many steps the next tick takes at most
  abbrev pub steps_at : Writing → Sizes → (p : Position) (t : Tree) → StandsAt p t → ℕ
  steps_at writing sizes Fresh t stands = sizes.threads f.main
  steps_at writing sizes (Waits r) t stands =
      tests_in (condition_words writing f) r + tick_in sizes f.bodies (body_at f.bodies f.main) r stands.0
  steps_at writing sizes Stopped t stands = 0

  -- A tick from where the flow stands does what the flow does: it ends where that stands then, with data for its state. What
  -- the temporaries hold when the tick begins is of no matter, so it begins with any that conditions may leave.
  pub record TickIs (costs : List ℕ) {Data : Type 0} (rules : Rules Data) (Represents : Data → State → Type 0) (row : List ℤ)
      (p : Position) (before : State) (from : Tree) (d : Data) (most : ℕ) : Type 0 where
    pub begins : State
    pub same : begins.store ≡ before.store
    pub tree : Tree
    pub stands : StandsAt (point_of (goes f p before (sampled f row begins))).position tree
    pub after : Data
    pub represents : Represents after (point_of (goes f p before (sampled f row begins))).state
    pub charge : ℕ
    pub within : charge ≤ 255 * most
    pub runs : (limit : ℕ) → base_of image costs + charge ≤ limit →
        tick rules image costs limit (unit_at image unnested from) d
        ≡ TickEnds (base_of image costs + charge) (unit_at image unnested tree) after

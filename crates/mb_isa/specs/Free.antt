-- Free ticks, whose data are a list of choices, and the configurations in which they begin: docs/bounds.md.
use Rattle.std.specs.Prelude.{◌≡◌, ◌⊎◌, ℕ, ◌+◌, ◌≤◌, Bool, IsTrue, List, [], ◌∷◌, map, length, Option, Some, None, slice_get, slice_index_or}
use Rattle.std.specs.List.{AllByRecursion}
use Rattle.mb_isa.specs.declared.words.Instr.TheVariants.{Fork}
use Rattle.mb_isa.specs.Candidates.{decoded}
use Rattle.mb_pfu.specs.declared.parts.Watch.{Watch}
use Rattle.mb_pfu.specs.Tree.{Tree, Group, Leaf, Waits, no_more, member, Running, Pausing, Finished, size, IsSound, tally}
use Rattle.mb_pfu.specs.Unit.{State}
use Rattle.pt_image.specs.declared.Parts.{Parts}
use Rattle.pt_image.specs.Listed.{is_listed}
use Rattle.mb_isa.specs.Step.{Rules}
use Rattle.mb_isa.specs.Tick.{Ends, tick}

-- the next choice, and those after it; none where no choice is left
abbrev pub chosen : List Bool → Option (Bool × List Bool)
chosen [] = None
chosen (b ∷ choices) = Some (b, choices)

abbrev pub free : Rules (List Bool)
free = record {
  does = λ i upper choices. Some choices;
  taken = λ i choices. chosen choices;
  holds = λ ra choices. chosen choices;
  sampled = λ choices. choices;
}

-- the numbers of aborts
abbrev pub numbers_of : List Watch → List ℕ
numbers_of watches = map (λ (w : Watch). w.entry.number) watches

-- an abort's weakness and places are those of its line
abbrev pub IsOfLine : Parts → Watch → Type 0
IsOfLine image w = (slice_get image.aborts w.entry.number ≡ Some (record { weak = w.entry.weak; cond = w.entry.cond; handler = w.entry.handler }))

abbrev pub AreOfLines : Parts → List Watch → Type 0
AreOfLines image watches = AllByRecursion (IsOfLine image) watches

abbrev mutual
  -- slot k is paused at a place listed for it, or waits at one for its group
  pub IsLoose : Parts → ℕ → Tree → Type 0
  IsLoose image k (Leaf watches (Running place)) = ⊥
  IsLoose image k (Leaf watches (Pausing place)) = IsTrue (is_listed image.pauses place k (numbers_of watches)) × AreOfLines image watches
  IsLoose image k (Leaf watches Finished) = ⊥
  IsLoose image k (Waits watches at lo group) =
      IsTrue (is_listed image.forks at k (numbers_of watches)) × AreOfLines image watches
      × ((word : ℕ) × (slice_get image.code at ≡ Some word) × (decoded word ≡ Some (Fork lo (size group))))
      × AreAtRest image lo group × HasLoose image lo group

  -- a child has ended or is loose
  pub AreAtRest : Parts → ℕ → Group → Type 0
  AreAtRest image k no_more = Unit {0}
  AreAtRest image k (member t ts) = ((t ≡ Leaf [] Finished) ⊎ IsLoose image k t) × AreAtRest image (k + 1) ts

  -- at least one is loose
  pub HasLoose : Parts → ℕ → Group → Type 0
  HasLoose image k no_more = ⊥
  HasLoose image k (member t ts) = IsLoose image k t ⊎ HasLoose image (k + 1) ts

-- slot 0 is ready at its start, and the others are free; or it has ended or is loose
abbrev pub IsConfigured : Parts → Tree → Type 0
IsConfigured image t = (t ≡ Leaf [] (Running (slice_index_or image.slots 0 0))) ⊎ (t ≡ Leaf [] Finished) ⊎ IsLoose image 0 t

pub record IsConfiguration (image : Parts) (u : State) : Type 0 where
  pub tree : IsConfigured image u.tree
  pub once : IsSound u.tree
  pub within : (q : ℕ) → length image.slots ≤ q → tally q 0 u.tree ≡ 0
  pub slots : u.slots ≡ length image.slots
  pub links : u.links ≡ []
  pub counters : u.counters ≡ []

-- the choices go from a configuration to the end of a tick that costs this, and none is left
pub record IsCostOf (image : Parts) (costs : List ℕ) (u : State) (choices : List Bool) (cost : ℕ) : Type 0 where
  pub begins : IsConfiguration image u
  pub last : State
  pub ends : tick free image costs 1000000000000 u choices ≡ Ends cost last []

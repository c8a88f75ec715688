-- How the configuration that a walk says is built: slot after slot comes to rest as its state says.
use Rattle.std.specs.Prelude.{◌≡◌, ℕ, zero, suc, ◌+◌, ◌||◌, ◌≤◌, Bool, true, false, IsTrue, List, [], ◌∷◌, map, length, Option, Some, None, slice_get, slice_index_or}
use Rattle.mb_isa.specs.declared.Instr.TheVariants.{Fork}
use Rattle.mb_isa.specs.Candidates.{decoded}
use Rattle.mb_pfu.specs.declared.parts.Watch.{Watch}
use Rattle.mb_pfu.specs.Rows.{relief, renewed, numbered}
use Rattle.mb_pfu.specs.Tree.{Tree, Group, Leaf, Waits, no_more, member, Running, Pausing, Finished, size, IsSound, tally, tests_begun, at_slot, entered, has_ready}
use Rattle.mb_pfu.specs.Unit as unit
use Rattle.mb_pfu.specs.Unit.{fresh}
use Rattle.pt_image.specs.declared.AbortLine.{AbortLine}
use Rattle.pt_image.specs.declared.Parts.{Parts}
use Rattle.pt_image.specs.Listed.{is_listed}
use Rattle.mb_isa.specs.Free.{numbers_of, AreOfLines, IsConfiguration}
use Rattle.mb_isa.specs.Tick.{begun}
use Rattle.tk_cert.specs.declared.cert.State.{State}
use Rattle.tk_cert.specs.declared.cert.State.TheVariants.{Free, Start, Paused, Waiting, Ended}
use Rattle.tk_paths.specs.Walks.{states_of}

-- what a walk says of a slot; one of which it says nothing is free
abbrev pub state_at : List State → ℕ → State
state_at states k = slice_index_or states k Free

-- the slot will go on by itself: it is paused, or waits
abbrev pub is_loose : State → Bool
is_loose Free = false
is_loose Start = false
is_loose (Paused place) = true
is_loose (Waiting place) = true
is_loose Ended = false

-- one of so many slots from k on will go on by itself
abbrev pub any_loose : List State → ℕ → ℕ → Bool
any_loose states k zero = false
any_loose states k (suc n) = is_loose (state_at states k) || any_loose states (k + 1) n

abbrev pub line_at : Parts → ℕ → AbortLine
line_at image j = slice_index_or image.aborts j (record { weak = false; cond = 0; handler = 0 })

-- the entries of a slot that is inside the aborts of these lines
abbrev pub entries : Parts → List ℕ → List Watch
entries image stack = map (λ j. fresh j (line_at image j).weak (line_at image j).cond (line_at image j).handler) stack

-- a slot enters one abort after another
abbrev pub all_entered : ℕ → List Watch → Tree → Tree
all_entered s [] t = t
all_entered s (l ∷ ls) t = all_entered s ls (entered s l t)

-- a tree stands in the place of a slot's
abbrev pub put : ℕ → Tree → ℕ → Tree → Tree
put s v k t = at_slot (numbered s) (λ u. v) (λ u. u) k t

abbrev pub IsFork : Parts → ℕ → ℕ → ℕ → Type 0
IsFork image at lo count = (word : ℕ) × (slice_get image.code at ≡ Some word) × (decoded word ≡ Some (Fork lo count))

-- a call gives the slots that a `fork` word starts, or no such word stands there
abbrev pub IsForkAt : Parts → ℕ → Option (ℕ × ℕ) → Type 0
IsForkAt image at (Some p) = IsFork image at p.0 p.1
IsForkAt image at None = (lo count : ℕ) → IsFork image at lo count → ⊥

abbrev mutual
  -- slot k and what is below it have come to rest as their states say, or are still to come
  pub IsStanding : Parts → List State → ℕ → Tree → Type 0
  IsStanding image states k (Leaf watches (Running place)) = watches ≡ []
  IsStanding image states k (Leaf watches (Pausing place)) = IsTrue (is_listed image.pauses place k (numbers_of watches)) × AreOfLines image watches
  IsStanding image states k (Leaf watches Finished) = (watches ≡ []) × (state_at states k ≡ Ended)
  IsStanding image states k (Waits watches at lo group) =
      IsTrue (is_listed image.forks at k (numbers_of watches)) × AreOfLines image watches
      × IsFork image at lo (size group) × (relief watches ≡ None)
      × AreStanding image states lo group × (any_loose states lo (size group) ≡ true)

  pub AreStanding : Parts → List State → ℕ → Group → Type 0
  AreStanding image states k no_more = Unit {0}
  AreStanding image states k (member t ts) = IsStanding image states k t × AreStanding image states (k + 1) ts

abbrev mutual
  -- slot k and what is below it rest as their states say
  pub IsTarget : Parts → List State → ℕ → Tree → Type 0
  IsTarget image states k (Leaf watches (Running place)) = ⊥
  IsTarget image states k (Leaf watches (Pausing place)) = IsTrue (is_listed image.pauses place k (numbers_of watches)) × AreOfLines image watches × (state_at states k ≡ Paused place)
  IsTarget image states k (Leaf watches Finished) = (watches ≡ []) × (state_at states k ≡ Ended)
  IsTarget image states k (Waits watches at lo group) =
      IsTrue (is_listed image.forks at k (numbers_of watches)) × AreOfLines image watches
      × IsFork image at lo (size group) × (state_at states k ≡ Waiting at)
      × AreTargets image states lo group × (any_loose states lo (size group) ≡ true)

  pub AreTargets : Parts → List State → ℕ → Group → Type 0
  AreTargets image states k no_more = Unit {0}
  AreTargets image states k (member t ts) = IsTarget image states k t × AreTargets image states (k + 1) ts

-- a whole tree that rests as the states say, and meets no slot twice
pub record IsWhole (image : Parts) (states : List State) (t : Tree) : Type 0 where
  pub target : IsTarget image states 0 t
  pub once : IsSound t
  pub within : (q : ℕ) → length image.slots ≤ q → tally q 0 t ≡ 0

abbrev mutual
  -- a tree has come so far on its way to another, but for what is fired, aged or due
  pub IsFront : Tree → Tree → Type 0
  IsFront (Leaf watches (Running place)) t = Unit {0}
  IsFront (Leaf watches (Pausing place)) t = tests_begun t ≡ tests_begun (Leaf watches (Pausing place))
  IsFront (Leaf watches Finished) t = tests_begun t ≡ tests_begun (Leaf watches Finished)
  IsFront (Waits watches at lo group) t =
      (others : List Watch) × (ts : Group) × (t ≡ Waits others at lo ts) × (map renewed others ≡ map renewed watches) × AreFronts group ts

  pub AreFronts : Group → Group → Type 0
  AreFronts no_more ts = ts ≡ no_more
  AreFronts (member b bs) ts = (t : Tree) × (others : Group) × (ts ≡ member t others) × IsFront b t × AreFronts bs others

abbrev mutual
  -- how many slots have come to rest
  pub resting : Tree → ℕ
  resting (Leaf watches (Running place)) = 0
  resting (Leaf watches (Pausing place)) = 1
  resting (Leaf watches Finished) = 1
  resting (Waits watches at lo group) = resting_in group + 1

  pub resting_in : Group → ℕ
  resting_in no_more = 0
  resting_in (member t ts) = resting t + resting_in ts

-- a unit in which some slots have come to rest as the states say, and the others are still to come
pub record IsBuilding (image : Parts) (states : List State) (u : unit.State) : Type 0 where
  pub standing : IsStanding image states 0 u.tree
  pub slots : u.slots ≡ length image.slots
  pub links : u.links ≡ []
  pub counters : u.counters ≡ []

-- as what a slot comes to rest
pub record IsRest (image : Parts) (states : List State) (s : ℕ) (v : Tree) : Type 0 where
  pub standing : IsStanding image states s v
  pub front : (u : Tree) → IsTarget image states s u → IsFront v u
  pub one : resting v ≡ 1

-- a call brought slot s to rest; or no whole tree goes on from here
abbrev pub IsRested : Parts → List State → ℕ → unit.State → Bool → unit.State → Type 0
IsRested image states s old true new = (v : Tree) × IsRest image states s v × (new ≡ record old { tree = put s v 0 old.tree })
IsRested image states s old false new = (t : Tree) → IsWhole image states t → IsFront old.tree t → ⊥

-- a call brought all slots to rest as the states say, on the way to each whole tree; or there is none
abbrev pub IsBuilt : Parts → List State → Option unit.State → Type 0
IsBuilt image states (Some u) = IsBuilding image states u × (has_ready u.tree ≡ false) × ((t : Tree) → IsWhole image states t → IsFront u.tree t)
IsBuilt image states None = (t : Tree) → IsWhole image states t → ⊥

-- a configuration with these states
pub record IsSaid (image : Parts) (states : List State) (u : unit.State) : Type 0 where
  pub configuration : IsConfiguration image u
  pub states_are : states ≡ states_of u

-- a call gives the configuration with these states, of which there is one but for what is fired, aged or due; or there is none
abbrev pub IsBegun : Parts → List State → Option unit.State → Type 0
IsBegun image states (Some u) = IsSaid image states u × ((other : unit.State) → IsSaid image states other → begun other ≡ begun u)
IsBegun image states None = (other : unit.State) → IsSaid image states other → ⊥

-- What a flow keeps so that words can be laid out for it.
use Rattle.std.specs.Prelude.{◌≡◌, ◌⊎◌, ℕ, ◌+◌, ◌<◌, ◌≤◌, ◌^◌, ◌++◌, length, Bool, IsTrue, List, [], ◌∷◌}
use Rattle.std.specs.List.{range_with_len}
use Rattle.pc_lower.specs.declared.nodes.Test.{Test}
use Rattle.pc_lower.specs.Flow.{Node, Nodes, straight, sequence, branch, turns, bounded, call, pause, fork, guard, no_nodes, and, Flow, Flows, flows_of}
use Rattle.pc_lower.specs.Residuals.{body_at}
use Rattle.pc_lower.specs.Laid.{Placing, Lasts, Passes}
use Rattle.pc_lower.specs.Program.{InOrder, HasRoom}
use Rattle.pc_lower.specs.Image.{IsQuiet, condition_of}
use Rattle.pc_lower.specs.Numbering.{slots_of, function_of}
use Rattle.pc_lower.specs.Shaped.{IsShaped}

-- Inside so many aborts: a loop without a bound has a body that doesn't end in the tick of its start, a bounded one a body that
-- does, and its number is one of 32 bits; a fork starts some thread; no more than eight aborts stand in one another.
module _ (known : Flows) where
  abbrev mutual
    pub IsLayable : ℕ → Node → Type 0
    IsLayable depth (straight steps) = Unit {0}
    IsLayable depth (sequence nodes) = AreLayable depth nodes
    IsLayable depth (branch test a b) = IsLayable depth a × IsLayable depth b
    IsLayable depth (turns test body) = Lasts known body × IsLayable depth body
    IsLayable depth (bounded n test body) = (n < 2 ^ 32) × Passes known body × IsLayable depth body
    IsLayable depth (call f) = Unit {0}
    IsLayable depth (pause i) = Unit {0}
    IsLayable depth (fork i fs) = 1 ≤ length fs
    IsLayable depth (guard j body) = (depth < 8) × IsLayable (depth + 1) body

    pub AreLayable : ℕ → Nodes → Type 0
    AreLayable depth no_nodes = Unit {0}
    AreLayable depth (and n nodes) = IsLayable depth n × AreLayable depth nodes

-- no pause, fork or abort stands in a node
abbrev mutual
  pub IsInstant : Node → Type 0
  IsInstant (straight steps) = Unit {0}
  IsInstant (sequence nodes) = AreInstant nodes
  IsInstant (branch test a b) = IsInstant a × IsInstant b
  IsInstant (turns test body) = IsInstant body
  IsInstant (bounded n test body) = IsInstant body
  IsInstant (call f) = Unit {0}
  IsInstant (pause i) = ⊥
  IsInstant (fork i fs) = ⊥
  IsInstant (guard j body) = ⊥

  pub AreInstant : Nodes → Type 0
  AreInstant no_nodes = Unit {0}
  AreInstant (and n nodes) = IsInstant n × AreInstant nodes

-- ---- the numbers of pauses, of forks and of aborts in the order of the text

module _ (of_pause of_fork of_guard : ℕ → List ℕ) where
  abbrev mutual
    pub numbers_of : Node → List ℕ
    numbers_of (straight steps) = []
    numbers_of (sequence nodes) = numbers_of_all nodes
    numbers_of (branch test a b) = numbers_of a ++ numbers_of b
    numbers_of (turns test body) = numbers_of body
    numbers_of (bounded n test body) = numbers_of body
    numbers_of (call f) = []
    numbers_of (pause i) = of_pause i
    numbers_of (fork i fs) = of_fork i
    numbers_of (guard j body) = of_guard j ++ numbers_of body

    pub numbers_of_all : Nodes → List ℕ
    numbers_of_all no_nodes = []
    numbers_of_all (and n nodes) = numbers_of n ++ numbers_of_all nodes

abbrev pub itself : ℕ → List ℕ
itself i = i ∷ []

abbrev pub nothing : ℕ → List ℕ
nothing i = []

abbrev pub pauses_in : Node → List ℕ
pauses_in = numbers_of itself nothing nothing

abbrev pub pauses_in_all : Nodes → List ℕ
pauses_in_all = numbers_of_all itself nothing nothing

abbrev pub forks_of : Node → List ℕ
forks_of = numbers_of nothing itself nothing

abbrev pub forks_of_all : Nodes → List ℕ
forks_of_all = numbers_of_all nothing itself nothing

abbrev pub guards_of : Node → List ℕ
guards_of = numbers_of nothing nothing itself

abbrev pub guards_of_all : Nodes → List ℕ
guards_of_all = numbers_of_all nothing nothing itself

abbrev pub numbers_in : (Node → List ℕ) → List Node → List ℕ
numbers_in of [] = []
numbers_in of (n ∷ nodes) = of n ++ numbers_in of nodes

-- they are counted from 0
abbrev pub AreCounted : List ℕ → Type 0
AreCounted numbers = numbers ≡ range_with_len 0 (length numbers)

-- ---- a whole flow

-- a function that may be called: it runs in no slot, ends in the tick of its call, and has room
pub record IsCalled (f : Flow) (placing : Placing) (g : ℕ) : Type 0 where
  pub there : g < length f.bodies
  pub apart : (c : ℕ) → c < length (slots_of f) → function_of f c ≡ g → ⊥
  pub passes : Passes (flows_of f.bodies) (body_at f.bodies g)
  pub instant : IsInstant (body_at f.bodies g)
  pub layable : IsLayable (flows_of f.bodies) 0 (body_at f.bodies g)
  pub room : (l k : ℕ) → 1 ≤ l → l + placing.links g ≤ 16 → k + placing.counters g ≤ 136 → HasRoom placing (body_at f.bodies g) l k

-- A function runs in one slot, or is called. Of `placing` this speaks of which functions are called, and of their links and counters.
pub record CanBeLaid (f : Flow) (placing : Placing) : Type 0 where
  pub main : f.main < length f.bodies
  pub order : InOrder 0 f.bodies
  pub few : length (slots_of f) ≤ 64
  pub once : (c d : ℕ) → c < length (slots_of f) → d < length (slots_of f) → function_of f c ≡ function_of f d → c ≡ d
  pub there : (c : ℕ) → c < length (slots_of f) → function_of f c < length f.bodies
  pub threads : (c : ℕ) → c < length (slots_of f) → IsLayable (flows_of f.bodies) 0 (body_at f.bodies (function_of f c))
  pub room : (c : ℕ) → c < length (slots_of f) → HasRoom placing (body_at f.bodies (function_of f c)) 0 0
  pub each : (g : ℕ) → g < length f.bodies → ((c : ℕ) × (c < length (slots_of f)) × (function_of f c ≡ g)) ⊎ IsTrue (placing.called g)
  pub called : (g : ℕ) → IsTrue (placing.called g) → IsCalled f placing g
  pub quiet : (j : ℕ) → j < length f.aborts → IsQuiet (condition_of f j)
  pub pauses : AreCounted (numbers_in pauses_in f.bodies)
  pub forks : AreCounted (numbers_in forks_of f.bodies)
  pub guards : numbers_in guards_of f.bodies ≡ range_with_len 0 (length f.aborts)
  pub shape : IsShaped f placing

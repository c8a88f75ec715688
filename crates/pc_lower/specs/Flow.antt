-- What a program does in three-address steps over temporaries, and what nodes do.
use Rattle.std.specs.Prelude.{ℕ, zero, suc, ℤ, Bool, true, false, ◌&&◌, not, nat_eq, if◌then◌else◌, List, [], ◌∷◌, ◌++◌, Option, Some, None, slice_get, slice_set, unwrap_or}
use Rattle.pt_base.specs.Operators.{is_true, unary_of, binary_of}
use Rattle.pt_base.specs.declared.operators.UnOp.{UnOp}
use Rattle.pt_base.specs.declared.operators.BinOp.{BinOp}
use Rattle.pc_meaning.specs.Values.{Store, word_at, element_at, with_element, set_all}
use Rattle.pc_meaning.specs.Runs.{words_at}
-- places, steps and tests as they are kept in memory
use Rattle.pc_lower.specs.declared.nodes.Place.{Place}
use Rattle.pc_lower.specs.declared.nodes.Place.TheVariants.{Temp as temp, Held as held}
use Rattle.pc_lower.specs.declared.nodes.Step.{Step}
use Rattle.pc_lower.specs.declared.nodes.Step.TheVariants.{Const as const, Load as load, Save as save, Unary as unary_step, Binary as binary_step, TakeElement as take_element, PutElement as put_element, Move as move}
use Rattle.pc_lower.specs.declared.nodes.Test.{Test}

-- ---- steps

abbrev pub same_place : Place → Place → Bool
same_place (temp a) (temp b) = nat_eq a b
same_place (held a) (held b) = nat_eq a b
same_place _ _ = false

abbrev pub Temps : Type 0
Temps = Place → ℤ

abbrev pub with_temp : Temps → Place → ℤ → Temps
with_temp temps to word at = if same_place at to then word else temps at

-- the words of the cells, and those of the places
pub record State : Type 0 where
  pub store : Store
  pub temps : Temps

abbrev pub put_temp : Place → ℤ → State → State
put_temp to word w = record { store = w.store; temps = with_temp w.temps to word }

abbrev pub put_store : Store → State → State
put_store store w = record { store = store; temps = w.temps }

abbrev pub step : Step → State → State
step (const to word) w = put_temp to word w
step (load to place) w = put_temp to (word_at w.store place) w
step (save place by) w = put_store (slice_set w.store place (w.temps by)) w
step (unary_step op to by) w = put_temp to (unary_of op (w.temps by)) w
step (binary_step op to left right) w = put_temp to (binary_of op (w.temps left) (w.temps right)) w
step (take_element to first size index) w = put_temp to (element_at w.store first size (w.temps index)) w
step (put_element first size index by) w = put_store (with_element w.store first size (w.temps index) (w.temps by)) w
step (move to by) w = put_temp to (w.temps by) w

abbrev pub run : List Step → State → State
run [] w = w
run (s ∷ steps) w = run steps (step s w)

-- ---- nodes

abbrev pub tested : Test → State → State
tested test w = run test.steps w

abbrev pub decides : Test → State → Bool
decides test w = is_true ((tested test w).temps test.by)

mutual
  pub data Node : Type 0 where
    straight : List Step → Node
    sequence : Nodes → Node
    branch : Test → (first second : Node) → Node
    -- a loop without a bound; one without a test is never left
    turns : Option Test → (body : Node) → Node
    bounded : (most : ℕ) → Option Test → (body : Node) → Node
    call : (function : ℕ) → Node
    pause : (number : ℕ) → Node
    fork : (number : ℕ) (threads : List ℕ) → Node
    guard : (number : ℕ) (body : Node) → Node

  pub data Nodes : Type 0 where
    no_nodes : Nodes
    and : Node → Nodes → Nodes

mutual
  pub data Rest : Type 0 where
    at : (number : ℕ) → Rest
    ahead : Rest → Nodes → Rest
    within : (number : ℕ) → Rest → Rest
    group : (number : ℕ) → Rests → Rest

  pub data Rests : Type 0 where
    nobody : Rests
    over : Rests → Rests
    going : Rest → Rests → Rests

pub data End : Type 0 where
  Through : State → End
  Halted : Rest → State → End

abbrev pub state_of : End → State
state_of (Through w) = w
state_of (Halted r w) = w

abbrev pub later : Rest → Nodes → Rest
later r no_nodes = r
later r (and n nodes) = ahead r (and n nodes)

abbrev pub then_do : End → Nodes → (State → End) → End
then_do (Through w) nodes go = go w
then_do (Halted r w) nodes go = Halted (later r nodes) w

abbrev pub in_guard : ℕ → End → End
in_guard j (Through w) = Through w
in_guard j (Halted r w) = Halted (within j r) w

abbrev pub fired_or_in_guard : Bool → ℕ → End → End
fired_or_in_guard true j o = Through (state_of o)
fired_or_in_guard false j o = in_guard j o

pub record Group : Type 0 where
  pub rests : Rests
  pub state : State

abbrev pub and_group : End → (State → Group) → Group
and_group (Through w) go = record { rests = over (go w).rests; state = (go w).state }
and_group (Halted r w) go = record { rests = going r (go w).rests; state = (go w).state }

abbrev pub work : List (Option (State → End)) → State → Group
work [] w = record { rests = nobody; state = w }
work (None ∷ more) w = and_group (Through w) (work more)
work (Some go ∷ more) w = and_group (go w) (work more)

abbrev pub all_over : Rests → Bool
all_over nobody = true
all_over (over more) = all_over more
all_over (going r more) = false

abbrev pub settle : ℕ → Group → End
settle i g = if all_over g.rests then Through g.state else Halted (group i g.rests) g.state

-- at most so many turns of what is handed in, each after its test
abbrev pub looping : ℕ → Option Test → (State → End) → State → State
looping zero test go w = w
looping (suc n) None go w = looping n None go (state_of (go w))
looping (suc n) (Some test) go w = if decides test w then looping n (Some test) go (state_of (go (tested test w))) else tested test w

abbrev pub Flows : Type 0
Flows = List (State → End)

abbrev pub flow_at : Flows → ℕ → State → End
flow_at known f = unwrap_or (slice_get known f) Through

abbrev pub begins : Flows → List ℕ → List (Option (State → End))
begins known [] = []
begins known (f ∷ fs) = Some (flow_at known f) ∷ begins known fs

module _ (known : Flows) where
  abbrev mutual
    pub go : Node → State → End
    go (straight steps) w = Through (run steps w)
    go (sequence nodes) w = go_all nodes w
    go (branch test first second) w = if decides test w then go first (tested test w) else go second (tested test w)
    go (turns None body) w = then_do (go body w) (and (turns None body) no_nodes) Through
    go (turns (Some test) body) w =
        if decides test w then then_do (go body (tested test w)) (and (turns (Some test) body) no_nodes) Through else Through (tested test w)
    go (bounded most test body) w = Through (looping most test (go body) w)
    go (call f) w = Through (state_of (flow_at known f w))
    go (pause i) w = Halted (at i) w
    go (fork i threads) w = settle i (work (begins known threads) w)
    go (guard j body) w = in_guard j (go body w)

    pub go_all : Nodes → State → End
    go_all no_nodes w = Through w
    go_all (and n nodes) w = then_do (go n w) nodes (go_all nodes)

  -- which aborts are weak, and which conditions hold at the end of the last tick, is handed in
  module _ (weak fires : ℕ → Bool) where
    abbrev mutual
      pub again : Rest → State → End
      again (at i) w = Through w
      again (ahead r nodes) w = then_do (again r w) nodes (go_all nodes)
      again (within j r) w = if not (weak j) && fires j then Through w else fired_or_in_guard (fires j) j (again r w)
      again (group i rests) w = settle i (work (agains rests) w)

      pub agains : Rests → List (Option (State → End))
      agains nobody = []
      agains (over more) = None ∷ agains more
      agains (going r more) = Some (again r) ∷ agains more

-- ---- a whole flow

pub record Flow : Type 0 where
  pub bodies : List Node
  pub main : ℕ
  -- whether it is weak, and its condition
  pub aborts : List (Bool × Test)
  pub declared : List ℤ
  pub inputs : List ℕ
  pub outputs : List ℕ

abbrev pub flows_from : Flows → List Node → Flows
flows_from known [] = known
flows_from known (n ∷ rest) = flows_from (known ++ go known n ∷ []) rest

abbrev pub flows_of : List Node → Flows
flows_of nodes = flows_from [] nodes

abbrev pub no_abort : Bool × Test
no_abort = (false, record { steps = []; by = temp 0 })

abbrev pub abort_at : List (Bool × Test) → ℕ → Bool × Test
abort_at aborts j = unwrap_or (slice_get aborts j) no_abort

abbrev pub is_weak : List (Bool × Test) → ℕ → Bool
is_weak aborts j = (abort_at aborts j).0

-- which conditions hold at the end of a tick
abbrev pub fires_of : List (Bool × Test) → State → ℕ → Bool
fires_of aborts w j = decides (abort_at aborts j).1 w

pub data Position : Type 0 where
  Fresh : Position
  Waits : Rest → Position
  Stopped : Position

pub record Point : Type 0 where
  pub position : Position
  pub state : State

abbrev pub point_of : End → Point
point_of (Through w) = record { position = Stopped; state = w }
point_of (Halted r w) = record { position = Waits r; state = w }

module _ (f : Flow) where
  abbrev pub goes : Position → (before w : State) → End
  goes Fresh before w = flow_at (flows_of f.bodies) f.main w
  goes (Waits r) before w = again (flows_of f.bodies) (is_weak f.aborts) (fires_of f.aborts before) r w
  goes Stopped before w = Through w

  abbrev pub sampled : List ℤ → State → State
  sampled row w = put_store (set_all f.inputs row w.store) w

  abbrev pub moved : Point → (row : List ℤ) → Point
  moved p row = point_of (goes p.position p.state (sampled row p.state))

  abbrev pub shown_from : Point → List (List ℤ) → List (List ℤ)
  shown_from p [] = []
  shown_from p (row ∷ rows) = words_at f.outputs (moved p row).state.store ∷ shown_from (moved p row) rows

  -- the outputs of each tick, whatever the places hold at first
  abbrev pub run_of : Temps → List (List ℤ) → List (List ℤ)
  run_of temps rows = shown_from (record { position = Fresh; state = record { store = f.declared; temps = temps } }) rows

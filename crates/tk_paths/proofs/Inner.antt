-- The inner machine of the proofs: a step of the slot in its context, or of a condition, whatever the data are. Links and counters are lists with the latest first.
use Rattle.std.specs.Prelude.{not, map, length, nat_le, nat_lt, ◌≡◌, ℕ, ℤ, zero, suc, ◌+◌, ◌==◌, ◌||◌, Bool, true, false, List, [], ◌∷◌, Option, Some, None}
use Rattle.mb_pfu.specs.declared.parts.Watch.{Watch}
use Rattle.mb_pfu.specs.Tree.{Running, Pausing, Finished, Tree, Group, Leaf, Waits, no_more, member, size, all_ended, pause_at, tests_begun, all_woken}
use Rattle.mb_pfu.specs.Contexts.{Context, plug, climb, IsQuietBefore}
use Rattle.tk_paths.proofs.SlotFacts.{middle, without_last, next_cond, test_answered}
use Rattle.mb_pfu.specs.Unit.{fresh}
use Rattle.mb_pfu.specs.Rows.{with_last}
use Rattle.mb_pfu.specs.Tree.{tally}
use Rattle.mb_pfu.specs.declared.parts.TrapKind.{TrapKind}
use Rattle.mb_pfu.specs.declared.parts.TrapKind.TheVariants.{BadWord, OutOfCode, WrongPlace, TableFull, TableEmpty, SlotBusy}
use Rattle.mb_isa.specs.declared.Class.{Class}
use Rattle.mb_isa.specs.declared.Class.TheVariants as class
use Rattle.tk_paths.specs.declared.word.Word.{Word}
use Rattle.tk_paths.specs.declared.word.Word.TheVariants.{Does, Imm, Jump, Branch, Eot, Fork, End, Abrt, Leave, Call, Ret, Loop, Next, Drop, Cend}

-- an image, and a cost table; a place is read with an upper half or none; where it is outside the code, doesn't decode, or may not follow an
-- `imm` that stood before it, there is no word
pub record Image : Type 0 where
  pub code : ℕ → Option ℤ → Option Word
  pub slots : ℕ
  pub start : ℕ → ℕ
  pub is_abort : ℕ → Bool
  pub weak : ℕ → Bool
  pub cond : ℕ → ℕ
  pub handler : ℕ → ℕ
  pub is_pause : ℕ → ℕ → List ℕ → Bool
  pub is_fork : ℕ → ℕ → List ℕ → Bool
  pub cost : Class → ℕ
  pub base : ℕ

-- conditions are run before the slots take their turns
pub data Phase : Type 0 where
  Testing : Phase
  InTest : (place : ℕ) → Phase
  InTurns : Phase

pub record State : Type 0 where
  pub phase : Phase
  pub tree : Tree
  pub links : List ℕ
  pub counters : List ℕ
  pub choices : List Bool
  pub upper : Option ℤ

-- a step is done at a charge, or traps, or no choice is left for it
pub data Outcome : Type 0 where
  Goes : (charge : ℕ) → (next : State) → Outcome
  Traps : (kind : TrapKind) → Outcome
  Stops : Outcome

abbrev pub number_of : Watch → ℕ
number_of l = l.entry.number

-- the numbers of the aborts that a slot is inside
abbrev pub stack : List Watch → List ℕ
stack watches = map number_of watches

abbrev pub unless : Bool → TrapKind → Outcome → Outcome
unless true kind o = Traps kind
unless false kind o = o

abbrev pub is_none : {X : Type 0} → List X → Bool
is_none [] = true
is_none (x ∷ xs) = false

-- a link or a counter is there: the slot that runs is inside a call or a loop
abbrev pub is_nested : State → Bool
is_nested s = not (is_none s.links) || not (is_none s.counters)

abbrev mutual
  -- slot c is in the tree of slot k
  pub occurs : ℕ → ℕ → Tree → Bool
  occurs c k (Leaf watches activity) = k == c
  occurs c k (Waits watches at lo group) = (k == c) || occurs_among c lo group

  pub occurs_among : ℕ → ℕ → Group → Bool
  occurs_among c k no_more = false
  occurs_among c k (member t ts) = occurs c k t || occurs_among c (k + 1) ts

-- one of so many slots from `lo` on isn't free
abbrev pub is_busy : ℕ → ℕ → Tree → Bool
is_busy lo zero t = false
is_busy lo (suc count) t = occurs lo 0 t || is_busy (lo + 1) count t

abbrev pub is_zero : ℕ → Bool
is_zero zero = true
is_zero (suc n) = false

module _ (image : Image) where
  -- the children of a fork
  abbrev pub begun : ℕ → ℕ → Group
  begun lo zero = no_more
  begun lo (suc count) = member (Leaf [] (Running (image.start lo))) (begun (lo + 1) count)

  -- the slot in the middle goes on at a place
  abbrev pub going : Context → List Watch → ℕ → State → State
  going context watches place s = record s { tree = plug context (Leaf watches (Running place)); upper = None }

  abbrev pub branched : ℕ → Context → List Watch → ℕ → State → List Bool → Outcome
  branched to context watches place s [] = Stops
  branched to context watches place s (true ∷ choices) = Goes (image.cost class.Taken) (record s { tree = plug context (Leaf watches (Running to)); choices = choices; upper = None })
  branched to context watches place s (false ∷ choices) = Goes (image.cost class.Untaken) (record s { tree = plug context (Leaf watches (Running (place + 1))); choices = choices; upper = None })

  abbrev pub returned : Context → List Watch → State → List ℕ → Outcome
  returned context watches s [] = Traps TableEmpty
  returned context watches s (l ∷ links) = Goes (image.cost class.Ret) (record s { tree = plug context (Leaf watches (Running l)); links = links; upper = None })

  abbrev pub turned : ℕ → Context → List Watch → ℕ → State → List ℕ → Outcome
  turned to context watches place s [] = Traps TableEmpty
  turned to context watches place s (zero ∷ counters) = Goes (image.cost class.Next) (record s { tree = plug context (Leaf watches (Running to)); counters = counters; upper = None })
  turned to context watches place s (suc n ∷ counters) = Goes (image.cost class.Next) (record s { tree = plug context (Leaf watches (Running (place + 1))); counters = n ∷ counters; upper = None })

  abbrev pub dropped : Context → List Watch → ℕ → State → List ℕ → Outcome
  dropped context watches place s [] = Traps TableEmpty
  dropped context watches place s (n ∷ counters) = Goes (image.cost class.Drop) (record s { tree = plug context (Leaf watches (Running (place + 1))); counters = counters; upper = None })

  -- what a word does at a place of the slot in the middle
  abbrev pub effect : Context → List Watch → ℕ → State → Word → Outcome
  effect context watches place s (Does c) = Goes (image.cost c) (going context watches (place + 1) s)
  effect context watches place s (Imm u) = Goes (image.cost class.Imm) (record s { tree = plug context (Leaf watches (Running (place + 1))); upper = Some u })
  effect context watches place s (Jump None) = Traps OutOfCode
  effect context watches place s (Jump (Some to)) = Goes (image.cost class.Jump) (going context watches to s)
  effect context watches place s (Branch None) = Traps OutOfCode
  effect context watches place s (Branch (Some to)) = branched to context watches place s s.choices
  effect context watches place s Eot =
      unless (is_nested s) WrongPlace (unless (not (image.is_pause place (middle context) (stack watches))) WrongPlace
      (Goes (image.cost class.Eot) (record s { tree = climb context (pause_at place (Leaf watches (Running place))); upper = None })))
  effect context watches place s (Fork lo count) =
      unless (is_nested s) WrongPlace (unless (not (image.is_fork place (middle context) (stack watches))) WrongPlace
      (unless (is_zero count || nat_le lo (middle context) || nat_lt image.slots (lo + count)) WrongPlace (unless (is_busy lo count s.tree) SlotBusy
      (Goes (image.cost class.Fork) (record s { tree = plug context (Waits watches place lo (begun lo count)); upper = None })))))
  effect context watches place s End =
      unless (is_nested s) WrongPlace (unless (not (is_none watches)) WrongPlace (Goes (image.cost class.End) (record s { tree = climb context (Leaf watches Finished); upper = None })))
  effect context watches place s (Abrt j) =
      unless (not (image.is_abort j)) WrongPlace (unless (is_nested s) WrongPlace (unless (nat_le 8 (length (stack watches))) TableFull
      (Goes (image.cost class.Abrt) (going context (with_last (fresh j (image.weak j) (image.cond j) (image.handler j)) watches) (place + 1) s))))
  effect context watches place s Leave =
      unless (is_nested s) WrongPlace (unless (is_none watches) TableEmpty (Goes (image.cost class.Leave) (going context (without_last watches) (place + 1) s)))
  effect context watches place s (Call to) =
      unless (nat_le 16 (length s.links)) TableFull (Goes (image.cost class.Call) (record s { tree = plug context (Leaf watches (Running to)); links = (place + 1) ∷ s.links; upper = None }))
  effect context watches place s Ret = returned context watches s s.links
  effect context watches place s (Loop n) =
      unless (nat_le 136 (length s.counters)) TableFull (Goes (image.cost class.Loop) (record s { tree = plug context (Leaf watches (Running (place + 1))); counters = n ∷ s.counters; upper = None }))
  effect context watches place s (Next to) = turned to context watches place s s.counters
  effect context watches place s Drop = dropped context watches place s s.counters
  effect context watches place s Cend = Traps WrongPlace

  abbrev pub turn_at : Context → List Watch → ℕ → State → Option Word → Outcome
  turn_at context watches place s None = Traps BadWord
  turn_at context watches place s (Some w) = effect context watches place s w

  abbrev pub chosen : ℕ → ℕ → State → List Bool → Outcome
  chosen to next s [] = Stops
  chosen to next s (true ∷ choices) = Goes (image.cost class.Taken) (record s { phase = InTest to; choices = choices; upper = None })
  chosen to next s (false ∷ choices) = Goes (image.cost class.Untaken) (record s { phase = InTest next; choices = choices; upper = None })

  abbrev pub answer : State → List Bool → Outcome
  answer s [] = Stops
  answer s (fired ∷ choices) = Goes (image.cost class.Cend) (record s { phase = Testing; tree = test_answered fired s.tree; choices = choices; upper = None })

  -- what a word does at a place of a condition
  abbrev pub test_effect : ℕ → State → Word → Outcome
  test_effect place s (Does c) = Goes (image.cost c) (record s { phase = InTest (place + 1); upper = None })
  test_effect place s (Imm u) = Goes (image.cost class.Imm) (record s { phase = InTest (place + 1); upper = Some u })
  test_effect place s (Jump None) = Traps OutOfCode
  test_effect place s (Jump (Some to)) = Goes (image.cost class.Jump) (record s { phase = InTest to; upper = None })
  test_effect place s (Branch None) = Traps OutOfCode
  test_effect place s (Branch (Some to)) = chosen to (place + 1) s s.choices
  test_effect place s Cend = answer s s.choices
  test_effect place s other = Traps WrongPlace

  abbrev pub test_at : ℕ → State → Option Word → Outcome
  test_at place s None = Traps BadWord
  test_at place s (Some w) = test_effect place s w

  -- the next condition is run; where none is left, paused slots become ready
  abbrev pub test_next : State → Option ℕ → Outcome
  test_next s None = Goes 0 (record s { phase = InTurns; tree = all_woken s.tree; upper = None })
  test_next s (Some place) = Goes 0 (record s { phase = InTest place; upper = None })

  -- the first ready slot, and what is around it
  pub record Turn (t : Tree) : Type 0 where
    pub context : Context
    pub watches : List Watch
    pub place : ℕ
    pub is_there : t ≡ plug context (Leaf watches (Running place))
    pub quiet : IsQuietBefore context

  abbrev pub StepIn : State → Outcome → Phase → Type 0
  StepIn s o Testing = o ≡ test_next s (next_cond s.tree)
  StepIn s o (InTest place) = o ≡ test_at place s (image.code place s.upper)
  StepIn s o InTurns = (t : Turn s.tree) × (o ≡ turn_at t.context t.watches t.place s (image.code t.place s.upper))

  -- the step of a state comes to this
  abbrev pub Step : State → Outcome → Type 0
  Step s o = StepIn s o s.phase

  -- a path of free steps within a tick, and the sum of their charges
  pub data Path : State → ℕ → State → Type 0 where
    still : {s : State} → Path s 0 s
    onward : {s last : State} {rest : ℕ} (charge : ℕ) (next : State) → Step s (Goes charge next) → Path next rest last → Path s (charge + rest) last

  -- the entries are those of the table
  abbrev pub IsListed : Watch → Type 0
  IsListed l = (l.entry.weak ≡ image.weak l.entry.number) × (l.entry.cond ≡ image.cond l.entry.number) × (l.entry.handler ≡ image.handler l.entry.number)

  abbrev pub AreListed : List Watch → Type 0
  AreListed [] = Unit {0}
  AreListed (l ∷ watches) = IsListed l × AreListed watches

  abbrev mutual
    -- slot s has ended or is loose
    pub IsLoose : ℕ → Tree → Type 0
    IsLoose s (Leaf watches (Running place)) = ⊥
    IsLoose s (Leaf watches (Pausing place)) = (image.is_pause place s (stack watches) ≡ true) × AreListed watches
    IsLoose s (Leaf watches Finished) = watches ≡ []
    IsLoose s (Waits watches at lo group) =
        (image.is_fork at s (stack watches) ≡ true) × AreListed watches × (image.code at None ≡ Some (Fork lo (size group))) × (all_ended group ≡ false) × AreLoose lo group

    pub AreLoose : ℕ → Group → Type 0
    AreLoose k no_more = Unit {0}
    AreLoose k (member t ts) = IsLoose k t × AreLoose (k + 1) ts

  -- no slot is met twice
  abbrev pub IsSound : Tree → Type 0
  IsSound t = (c : ℕ) → nat_le (tally c 0 t) 1 ≡ true

  pub data IsConfiguration : Tree → Type 0 where
    first : IsConfiguration (Leaf [] (Running (image.start 0)))
    loose : {t : Tree} → IsLoose 0 t → IsSound t → IsConfiguration t

  -- the tick has begun: every test is due
  abbrev pub begun_free : Tree → List Bool → State
  begun_free t choices = record { phase = Testing; tree = tests_begun t; links = []; counters = []; choices = choices; upper = None }

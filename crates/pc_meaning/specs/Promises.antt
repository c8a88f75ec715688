-- What the rules of the language promise of the statements of a program: docs/language.md, "Loops and limits".
use Rattle.std.specs.Prelude.{◌≡◌, ℕ, suc, ◌^◌, ◌<◌, Bool, true, false, ◌||◌, ◌&&◌, not, nat_eq, List, [], ◌∷◌, ◌++◌, slice_get, unwrap_or}
use Rattle.std.specs.List.{list_all}
use Rattle.pc_meaning.specs.Tree.{Expression, number, cell, element, unary, chain, Statement, Statements, skip, assign, call_of, block, if_so, repeat, loop, eot, par, abort, none, each, Routine}
use Rattle.pc_meaning.specs.Outcomes.{Outcome, Done, Paused}

abbrev pub IsDone : Outcome → Type 0
IsDone (Done store) = Unit {0}
IsDone (Paused r store) = ⊥

abbrev pub IsPaused : Outcome → Type 0
IsPaused (Done store) = ⊥
IsPaused (Paused r store) = Unit {0}

-- ---- whether `EOT`, `PAR` or an abort stands in a statement

abbrev mutual
  pub pauses : Statement → Bool
  pauses skip = false
  pauses (assign goal e) = false
  pauses (call_of goal f es) = false
  pauses (block all) = some_pauses all
  pauses (if_so test first second) = pauses first || pauses second
  pauses (repeat most test body) = pauses body
  pauses (loop test body) = pauses body
  pauses (eot i) = true
  pauses (par i threads) = true
  pauses (abort j weak body test) = true

  pub some_pauses : Statements → Bool
  some_pauses none = false
  some_pauses (each s rest) = pauses s || some_pauses rest

-- an expression that is a literal is a number of 32 bits
abbrev pub LiteralFits : Expression → Type 0
LiteralFits (number n) = n < 2 ^ 32
LiteralFits (cell place) = Unit {0}
LiteralFits (element first size index) = Unit {0}
LiteralFits (unary op e) = Unit {0}
LiteralFits (chain e rest) = Unit {0}

-- ---- which statements may finish in the tick in which they start

abbrev pub is_always_true : Expression → Bool
is_always_true (number n) = not (nat_eq n 0)
is_always_true (cell place) = false
is_always_true (element first size index) = false
is_always_true (unary op e) = false
is_always_true (chain e rest) = false

module _ (known : List Bool) where
  abbrev pub is_known : ℕ → Bool
  is_known f = unwrap_or (slice_get known f) true

  abbrev mutual
    pub finishes : Statement → Bool
    finishes skip = true
    finishes (assign goal e) = true
    finishes (call_of goal f es) = true
    finishes (block all) = all_finish all
    finishes (if_so test first second) = finishes first || finishes second
    finishes (repeat most test body) = true
    finishes (loop test body) = not (is_always_true test)
    finishes (eot i) = false
    finishes (par i threads) = list_all is_known threads
    finishes (abort j weak body test) = finishes body

    pub all_finish : Statements → Bool
    all_finish none = true
    all_finish (each s rest) = finishes s && all_finish rest

  -- the body of a loop without `#n` can't finish
  abbrev mutual
    pub Lasts : Statement → Type 0
    Lasts skip = Unit {0}
    Lasts (assign goal e) = Unit {0}
    Lasts (call_of goal f es) = Unit {0}
    Lasts (block all) = AllLast all
    Lasts (if_so test first second) = Lasts first × Lasts second
    Lasts (repeat most test body) = Lasts body
    Lasts (loop test body) = LiteralFits test × (finishes body ≡ false) × Lasts body
    Lasts (eot i) = Unit {0}
    Lasts (par i threads) = Unit {0}
    Lasts (abort j weak body test) = Lasts body

    pub AllLast : Statements → Type 0
    AllLast none = Unit {0}
    AllLast (each s rest) = Lasts s × AllLast rest

-- ---- a statement names functions before a number alone

module _ (count : ℕ) where
  abbrev pub AllBelow : List ℕ → Type 0
  AllBelow [] = Unit {0}
  AllBelow (f ∷ fs) = (f < count) × AllBelow fs

  abbrev mutual
    pub Below : Statement → Type 0
    Below skip = Unit {0}
    Below (assign goal e) = Unit {0}
    Below (call_of goal f es) = f < count
    Below (block all) = EachBelow all
    Below (if_so test first second) = Below first × Below second
    Below (repeat most test body) = Below body
    Below (loop test body) = Below body
    Below (eot i) = Unit {0}
    Below (par i threads) = AllBelow threads
    Below (abort j weak body test) = Below body

    pub EachBelow : Statements → Type 0
    EachBelow none = Unit {0}
    EachBelow (each s rest) = Below s × EachBelow rest

-- ---- functions in the order of the text

-- each names functions before it alone
abbrev pub RoutinesBelow : ℕ → List Routine → Type 0
RoutinesBelow n [] = Unit {0}
RoutinesBelow n (r ∷ rest) = EachBelow n r.body × RoutinesBelow (suc n) rest

-- of each function whether it may finish, given those before it
abbrev pub finishing_from : List Bool → List Routine → List Bool
finishing_from known [] = known
finishing_from known (r ∷ rest) = finishing_from (known ++ all_finish known r.body ∷ []) rest

abbrev pub finishing_of : List Routine → List Bool
finishing_of routines = finishing_from [] routines

-- no body of a loop without `#n` can finish
abbrev pub RoutinesLast : List Bool → List Routine → Type 0
RoutinesLast known [] = Unit {0}
RoutinesLast known (r ∷ rest) = AllLast known r.body × RoutinesLast (known ++ all_finish known r.body ∷ []) rest

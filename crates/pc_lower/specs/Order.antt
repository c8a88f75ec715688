-- Aborts with their numbers in the order of the text, from a number on.
use Rattle.std.specs.Prelude.{◌≡◌, ℕ, suc, ◌+◌, Bool, List, [], ◌∷◌, length, Some, slice_get}
use Rattle.pc_meaning.specs.Tree.{Expression, Statement, Statements, skip, assign, call_of, block, if_so, repeat, loop, eot, par, abort, none, each, Routine}
use Rattle.pc_lower.specs.Aborts.{aborts_in, aborts_in_all}

abbrev mutual
  pub InOrder : ℕ → Statement → Type 0
  InOrder n skip = Unit {0}
  InOrder n (assign goal e) = Unit {0}
  InOrder n (call_of goal f es) = Unit {0}
  InOrder n (block all) = AllInOrder n all
  InOrder n (if_so test first second) = InOrder n first × InOrder (n + length (aborts_in first)) second
  InOrder n (repeat most test body) = InOrder n body
  InOrder n (loop test body) = InOrder n body
  InOrder n (eot i) = Unit {0}
  InOrder n (par i threads) = Unit {0}
  InOrder n (abort j weak body test) = (j ≡ n) × InOrder (suc n) body

  pub AllInOrder : ℕ → Statements → Type 0
  AllInOrder n none = Unit {0}
  AllInOrder n (each s rest) = InOrder n s × AllInOrder (n + length (aborts_in s)) rest

-- each abort stands in the list by its number
module _ (aborts : List (Bool × Expression)) where
  abbrev mutual
    pub Listed : Statement → Type 0
    Listed skip = Unit {0}
    Listed (assign goal e) = Unit {0}
    Listed (call_of goal f es) = Unit {0}
    Listed (block all) = AllListed all
    Listed (if_so test first second) = Listed first × Listed second
    Listed (repeat most test body) = Listed body
    Listed (loop test body) = Listed body
    Listed (eot i) = Unit {0}
    Listed (par i threads) = Unit {0}
    Listed (abort j weak body test) = (slice_get aborts j ≡ Some (weak, test)) × Listed body

    pub AllListed : Statements → Type 0
    AllListed none = Unit {0}
    AllListed (each s rest) = Listed s × AllListed rest

abbrev pub RoutinesInOrder : ℕ → List Routine → Type 0
RoutinesInOrder n [] = Unit {0}
RoutinesInOrder n (r ∷ rest) = AllInOrder n r.body × RoutinesInOrder (n + length (aborts_in_all r.body)) rest

abbrev pub RoutinesListed : List (Bool × Expression) → List Routine → Type 0
RoutinesListed aborts [] = Unit {0}
RoutinesListed aborts (r ∷ rest) = AllListed aborts r.body × RoutinesListed aborts rest

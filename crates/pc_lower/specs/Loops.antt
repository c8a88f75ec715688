-- What the rules on loops promise of a program's statements: docs/language.md, "Loops and limits".
use Rattle.std.specs.Prelude.{◌≡◌, Bool, false, List, [], ◌∷◌}
use Rattle.pc_meaning.specs.Tree.{Statement, Statements, skip, assign, call_of, block, if_so, repeat, loop, eot, par, abort, none, each, Routine}
use Rattle.pc_meaning.specs.Promises.{pauses, finishes}

-- the body of a loop without `#n` can't finish, and that of a loop with `#n` holds no pause
module _ (known : List Bool) where
  abbrev mutual
    pub LoopsKept : Statement → Type 0
    LoopsKept skip = Unit {0}
    LoopsKept (assign goal e) = Unit {0}
    LoopsKept (call_of goal f es) = Unit {0}
    LoopsKept (block all) = AllLoopsKept all
    LoopsKept (if_so test first second) = LoopsKept first × LoopsKept second
    LoopsKept (repeat most test body) = (pauses body ≡ false) × LoopsKept body
    LoopsKept (loop test body) = (finishes known body ≡ false) × LoopsKept body
    LoopsKept (eot i) = Unit {0}
    LoopsKept (par i threads) = Unit {0}
    LoopsKept (abort j weak body test) = LoopsKept body

    pub AllLoopsKept : Statements → Type 0
    AllLoopsKept none = Unit {0}
    AllLoopsKept (each s rest) = LoopsKept s × AllLoopsKept rest

  abbrev pub RoutinesLoopsKept : List Routine → Type 0
  RoutinesLoopsKept [] = Unit {0}
  RoutinesLoopsKept (r ∷ rest) = AllLoopsKept r.body × RoutinesLoopsKept rest

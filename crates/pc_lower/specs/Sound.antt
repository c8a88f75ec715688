-- What lowering asks of a program, which the rules of the language promise: docs/language.md, "Names" and "Loops and limits".
use Rattle.std.specs.Prelude.{◌≡◌, ℕ, suc, ◌+◌, ◌<◌, Bool, false, nat_eq, List, [], ◌∷◌, length, Option, Some, None, slice_get}
use Rattle.pc_meaning.specs.Tree.{Expression, Operands, number, cell, element, unary, chain, alone, operand, Goal, nowhere, to_cell, to_element, Statement, Statements, skip, assign, call_of, block, if_so, repeat, loop, eot, par, abort, none, each, Routine, Program}
use Rattle.pc_meaning.specs.Outcomes.{Residual, Threads, here, seq, in_abort, in_par, no_more, ended, paused}
use Rattle.pc_meaning.specs.Statements.{routine_at}
use Rattle.pc_meaning.specs.Promises.{some_pauses, LiteralFits, AllBelow}
use Rattle.pc_lower.specs.Aborts.{aborts_of}

-- ---- an expression reads no word of a place

module _ (place : ℕ) where
  abbrev mutual
    pub Apart : Expression → Type 0
    Apart (number n) = Unit {0}
    Apart (cell word) = nat_eq word place ≡ false
    Apart (element first size index) = ((i : ℕ) → i < size → nat_eq (first + i) place ≡ false) × Apart index
    Apart (unary op e) = Apart e
    Apart (chain e rest) = Apart e × ApartAll rest

    pub ApartAll : Operands → Type 0
    ApartAll alone = Unit {0}
    ApartAll (operand op e rest) = Apart e × ApartAll rest

abbrev pub EachApart : ℕ → List Expression → Type 0
EachApart place [] = Unit {0}
EachApart place (e ∷ es) = Apart place e × EachApart place es

-- no argument names a parameter of the function that is called
abbrev pub ArgumentsApart : List ℕ → List Expression → Type 0
ArgumentsApart [] es = Unit {0}
ArgumentsApart (place ∷ places) es = EachApart place es × ArgumentsApart places es

-- ---- what lowering rests on

-- a function that has a result never pauses
abbrev pub Tidy : Option Expression → Statements → Type 0
Tidy None body = Unit {0}
Tidy (Some e) body = some_pauses body ≡ false

-- where a result is taken there is one
abbrev pub Gives : Goal → Option Expression → Type 0
Gives nowhere result = Unit {0}
Gives (to_cell place) None = ⊥
Gives (to_cell place) (Some e) = Unit {0}
Gives (to_element first size index) None = ⊥
Gives (to_element first size index) (Some e) = Unit {0}

module _ (routines : List Routine) (aborts : List (Bool × Expression)) (count : ℕ) where
  pub record CallFits (goal : Goal) (f : ℕ) (es : List Expression) : Type 0 where
    pub below : f < count
    pub gives : Gives goal (routine_at routines f).result
    pub apart : ArgumentsApart (routine_at routines f).parameters es

  -- of a function before a number of functions
  abbrev mutual
    pub Fits : Statement → Type 0
    Fits skip = Unit {0}
    Fits (assign goal e) = Unit {0}
    Fits (call_of goal f es) = CallFits goal f es
    Fits (block all) = AllFit all
    Fits (if_so test first second) = Fits first × Fits second
    Fits (repeat most test body) = LiteralFits test × Fits body
    Fits (loop test body) = LiteralFits test × Fits body
    Fits (eot i) = Unit {0}
    Fits (par i threads) = AllBelow count threads
    -- an abort stands in the list by its number
    Fits (abort j weak body test) = (slice_get aborts j ≡ Some (weak, test)) × Fits body

    pub AllFit : Statements → Type 0
    AllFit none = Unit {0}
    AllFit (each s rest) = Fits s × AllFit rest

  -- the same of what is left
  abbrev mutual
    pub RestFits : Residual → Type 0
    RestFits (here i) = Unit {0}
    RestFits (seq r rest) = RestFits r × AllFit rest
    RestFits (in_abort j weak test r) = (slice_get aborts j ≡ Some (weak, test)) × RestFits r
    RestFits (in_par i threads) = RestsFit threads

    pub RestsFit : Threads → Type 0
    RestsFit no_more = Unit {0}
    RestsFit (ended more) = RestsFit more
    RestsFit (paused r more) = RestFits r × RestsFit more

  pub record RoutineFits (r : Routine) : Type 0 where
    pub tidy : Tidy r.result r.body
    pub body : AllFit r.body

-- each names functions before it alone
abbrev pub RoutinesFit : List Routine → List (Bool × Expression) → ℕ → List Routine → Type 0
RoutinesFit routines aborts n [] = Unit {0}
RoutinesFit routines aborts n (r ∷ rest) = RoutineFits routines aborts n r × RoutinesFit routines aborts (suc n) rest

pub record ProgramFits (p : Program) : Type 0 where
  pub main : p.main < length p.routines
  pub routines : RoutinesFit p.routines (aborts_of p.routines) 0 p.routines

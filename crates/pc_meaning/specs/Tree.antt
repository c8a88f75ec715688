-- Programs as the meaning takes them: docs/language.md, "The meaning of a program".
-- A cell goes by the place of its first word in the store; each `EOT`, `PAR` and abort by its number among those of the text.
use Rattle.std.specs.Prelude.{ℕ, ℤ, Bool, List, Option}
use Rattle.pt_base.specs.declared.operators.UnOp.{UnOp}
use Rattle.pt_base.specs.declared.operators.BinOp.{BinOp}

mutual
  pub data Expression : Type 0 where
    number : (literal : ℕ) → Expression
    -- a cell of one word
    cell : (place : ℕ) → Expression
    -- an element of the array of so many words from this place on
    element : (first size : ℕ) (index : Expression) → Expression
    unary : UnOp → Expression → Expression
    -- a chain is worked out from the left
    chain : Expression → Operands → Expression

  pub data Operands : Type 0 where
    alone : Operands
    operand : BinOp → Expression → Operands → Operands

-- where a word goes
pub data Goal : Type 0 where
  nowhere : Goal
  to_cell : (place : ℕ) → Goal
  to_element : (first size : ℕ) (index : Expression) → Goal

-- a function goes by its number in the order of the text; a missing `else` is `skip`
mutual
  pub data Statement : Type 0 where
    skip : Statement
    assign : Goal → Expression → Statement
    call_of : Goal → (function : ℕ) (arguments : List Expression) → Statement
    block : Statements → Statement
    if_so : (test : Expression) (first second : Statement) → Statement
    -- a loop with `#n`
    repeat : (most : ℕ) (test : Expression) (body : Statement) → Statement
    -- a loop without `#n`
    loop : (test : Expression) (body : Statement) → Statement
    eot : (number : ℕ) → Statement
    par : (number : ℕ) (threads : List ℕ) → Statement
    abort : (number : ℕ) (weak : Bool) (body : Statement) (test : Expression) → Statement

  pub data Statements : Type 0 where
    none : Statements
    each : Statement → Statements → Statements

-- a function: the places of its parameters, and of its locals with their values
pub record Routine : Type 0 where
  pub parameters : List ℕ
  pub locals : List (ℕ × Option Expression)
  pub body : Statements
  pub result : Option Expression

pub record Program : Type 0 where
  -- in the order of the text
  pub routines : List Routine
  -- the number of the function `main`
  pub main : ℕ
  -- the words with which the cells are declared
  pub declared : List ℤ
  -- the places of the inputs, and of the outputs, in the order of the text
  pub inputs : List ℕ
  pub outputs : List ℕ

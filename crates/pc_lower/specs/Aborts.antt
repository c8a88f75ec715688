-- The aborts of a program in the order of the text, each whether it is weak, and its test.
use Rattle.std.specs.Prelude.{Bool, List, [], ◌∷◌, ◌++◌}
use Rattle.pc_meaning.specs.Tree.{Expression, Statement, Statements, skip, assign, call_of, block, if_so, repeat, loop, eot, par, abort, none, each, Routine}

abbrev mutual
  pub aborts_in : Statement → List (Bool × Expression)
  aborts_in skip = []
  aborts_in (assign goal e) = []
  aborts_in (call_of goal f es) = []
  aborts_in (block all) = aborts_in_all all
  aborts_in (if_so test first second) = aborts_in first ++ aborts_in second
  aborts_in (repeat most test body) = aborts_in body
  aborts_in (loop test body) = aborts_in body
  aborts_in (eot i) = []
  aborts_in (par i threads) = []
  aborts_in (abort j weak body test) = (weak, test) ∷ aborts_in body

  pub aborts_in_all : Statements → List (Bool × Expression)
  aborts_in_all none = []
  aborts_in_all (each s rest) = aborts_in s ++ aborts_in_all rest

abbrev pub aborts_of : List Routine → List (Bool × Expression)
aborts_of [] = []
aborts_of (r ∷ rest) = aborts_in_all r.body ++ aborts_of rest

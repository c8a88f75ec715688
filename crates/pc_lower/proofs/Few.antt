-- Each place of a flow is one of 652 temporaries.
use Rattle.std.proofs.Common.{Bool, List, [], ◌∷◌, ◌++◌}
use Rattle.pc_meaning.specs.Tree.{Expression, Statement, Statements, skip, assign, call_of, block, if_so, repeat, loop, eot, par, abort, none, each, Routine}
use Rattle.pc_lower.specs.Aborts.{aborts_in, aborts_in_all, aborts_of}
use Rattle.pc_lower.specs.Lowered.{bodies_of, conditions_of}
use Rattle.pc_lower.specs.Counts.{StatementNested, StatementsNested, RoutinesNested, BodiesWithin, ConditionsWithin}
use Rattle.pc_lower.proofs.Temporaries.{routine_within, condition_within}

within_both : (a b : List (Bool × Expression)) → ConditionsWithin 652 (conditions_of a) → ConditionsWithin 652 (conditions_of b) → ConditionsWithin 652 (conditions_of (a ++ b))
within_both [] b p q = q
within_both (x ∷ a) b p q = (p.0, within_both a b p.1 q)

mutual
  conditions_within : (s : Statement) → StatementNested s → ConditionsWithin 652 (conditions_of (aborts_in s))
  conditions_within skip h = tt
  conditions_within (assign goal e) h = tt
  conditions_within (call_of goal f es) h = tt
  conditions_within (block all) h = all_within all h
  conditions_within (if_so test first second) h = within_both (aborts_in first) (aborts_in second) (conditions_within first h.1) (conditions_within second h.2)
  conditions_within (repeat most test body) h = conditions_within body h.1
  conditions_within (loop test body) h = conditions_within body h.1
  conditions_within (eot i) h = tt
  conditions_within (par i threads) h = tt
  conditions_within (abort j weak body test) h = (condition_within [] test h.1, conditions_within body h.0)

  all_within : (all : Statements) → StatementsNested all → ConditionsWithin 652 (conditions_of (aborts_in_all all))
  all_within none h = tt
  all_within (each s rest) h = within_both (aborts_in s) (aborts_in_all rest) (conditions_within s h.0) (all_within rest h.1)

pub bodies_few : (routines rs : List Routine) → RoutinesNested rs → BodiesWithin 652 (bodies_of routines rs)
bodies_few routines [] h = tt
bodies_few routines (r ∷ rs) h = (routine_within routines r h.0, bodies_few routines rs h.1)

pub conditions_few : (rs : List Routine) → RoutinesNested rs → ConditionsWithin 652 (conditions_of (aborts_of rs))
conditions_few [] h = tt
conditions_few (r ∷ rs) h = within_both (aborts_in_all r.body) (aborts_of rs) (all_within r.body h.0.1) (conditions_few rs h.1)

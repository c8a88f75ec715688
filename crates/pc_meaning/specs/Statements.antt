-- What a statement does from its start, and what is left of it in a later tick: docs/language.md, "The meaning of a program".
use Rattle.std.specs.Prelude.{ℕ, zero, suc, ◌&&◌, not, if◌then◌else◌, List, [], ◌∷◌, ◌++◌, Option, Some, None, slice_get, unwrap_or}
use Rattle.pc_meaning.specs.Tree.{Expression, Goal, Statement, Statements, skip, assign, call_of, block, if_so, repeat, loop, eot, par, abort, none, each, Routine}
use Rattle.pc_meaning.specs.Values.{Store, value, holds, value_or_zero, put, set_all, values, set_locals}
use Rattle.pc_meaning.specs.Outcomes.{Residual, Threads, here, seq, in_abort, in_par, no_more, ended, paused, Outcome, Done, Paused, store_of, followed, aborting, fired_or_aborting, beside, joined}

-- ---- loops with a bound, and calls

-- at most so many turns, and the test before each; a turn is over once its body is, and no body of such a loop pauses
abbrev pub turning : ℕ → Expression → (Store → Outcome) → Store → Store
turning zero test go store = store
turning (suc n) test go store = if holds test store then turning n test go (store_of (go store)) else store

abbrev pub no_routine : Routine
no_routine = record { parameters = []; locals = []; body = none; result = None }

abbrev pub routine_at : List Routine → ℕ → Routine
routine_at routines f = unwrap_or (slice_get routines f) no_routine

-- what functions do from their start, each by its number
abbrev pub Known : Type 0
Known = List (Store → Outcome)

abbrev pub known_at : Known → ℕ → Store → Outcome
known_at known f = unwrap_or (slice_get known f) Done

-- the result of a function goes to the goal of its call
abbrev pub returned : Routine → Goal → Store → Store
returned r goal store = put goal (value_or_zero r.result store) store

-- the arguments from left to right, then the parameters, then what the function does, then its result
abbrev pub called : Routine → (Store → Outcome) → Goal → List Expression → Store → Store
called r go goal arguments store = returned r goal (store_of (go (set_all r.parameters (values arguments store) store)))

abbrev pub starting : Known → List ℕ → List (Option (Store → Outcome))
starting known [] = []
starting known (f ∷ fs) = Some (known_at known f) ∷ starting known fs

-- the functions, and what those do that may be called and started
module _ (routines : List Routine) (known : Known) where
  -- ---- what a statement does from its start

  abbrev mutual
    pub start : Statement → Store → Outcome
    start skip store = Done store
    start (assign goal e) store = Done (put goal (value e store) store)
    start (call_of goal f arguments) store = Done (called (routine_at routines f) (known_at known f) goal arguments store)
    start (block all) store = start_all all store
    start (if_so test first second) store = if holds test store then start first store else start second store
    start (repeat most test body) store = Done (turning most test (start body) store)
    -- a body that has paused comes back to the loop; one that is done ends it, and by the rules none ever is
    start (loop test body) store = if holds test store then followed (start body store) (each (loop test body) none) Done else Done store
    start (eot i) store = Paused (here i) store
    start (par i threads) store = joined i (beside (starting known threads) store)
    -- the test of an abort isn't looked at in the tick of its entry
    start (abort j weak body test) store = aborting j weak test (start body store)

    pub start_all : Statements → Store → Outcome
    start_all none store = Done store
    start_all (each s rest) store = followed (start s store) rest (start_all rest)

  -- ---- what is left of it goes on; `before` is the store at the end of the last tick, and every test of an abort reads it

  module _ (before : Store) where
    abbrev mutual
      pub resume : Residual → Store → Outcome
      resume (here i) store = Done store
      resume (seq r rest) store = followed (resume r store) rest (start_all rest)
      -- a strong abort that fires drops its body; a weak one lets it go on once more
      resume (in_abort j weak test r) store =
          if not weak && holds test before then Done store else fired_or_aborting (holds test before) j weak test (resume r store)
      resume (in_par i threads) store = joined i (beside (resuming threads) store)

      pub resuming : Threads → List (Option (Store → Outcome))
      resuming no_more = []
      resuming (ended more) = None ∷ resuming more
      resuming (paused r more) = Some (resume r) ∷ resuming more

-- ---- functions in the order of the text

-- the locals are set, and the body starts
abbrev pub start_routine : List Routine → Known → Routine → Store → Outcome
start_routine routines known r store = start_all routines known r.body (set_locals r.locals store)

abbrev pub starts_from : List Routine → Known → List Routine → Known
starts_from routines known [] = known
starts_from routines known (r ∷ rest) = starts_from routines (known ++ start_routine routines known r ∷ []) rest

-- what each function does from its start, given those before it
abbrev pub starts_of : List Routine → Known
starts_of routines = starts_from routines [] routines

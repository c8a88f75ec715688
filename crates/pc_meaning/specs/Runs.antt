-- What a program does, tick by tick: docs/language.md, "The meaning of a program".
use Rattle.std.specs.Prelude.{ℕ, ℤ, List, [], ◌∷◌, map}
use Rattle.pc_meaning.specs.Tree.{Program}
use Rattle.pc_meaning.specs.Values.{Store, word_at, set_all}
use Rattle.pc_meaning.specs.Outcomes.{Residual, Outcome, Done, Paused}
use Rattle.pc_meaning.specs.Statements.{known_at, starts_of, resume}

-- where `main` stands between two ticks
pub data Standing : Type 0 where
  Unstarted : Standing
  At : Residual → Standing
  Ended : Standing

-- where `main` stands, and the store
pub record Moment : Type 0 where
  pub standing : Standing
  pub store : Store

abbrev pub moment_of : Outcome → Moment
moment_of (Done store) = record { standing = Ended; store = store }
moment_of (Paused r store) = record { standing = At r; store = store }

abbrev pub words_at : List ℕ → Store → List ℤ
words_at places store = map (word_at store) places

module _ (p : Program) where
  -- before the first tick the cells have their declared words
  abbrev pub before_ticks : Moment
  before_ticks = record { standing = Unstarted; store = p.declared }

  -- what `main` does in a tick, once the inputs are set: it starts, it goes on, or it has ended
  abbrev pub went : Standing → (before store : Store) → Outcome
  went Unstarted before store = known_at (starts_of p.routines) p.main store
  went (At r) before store = resume p.routines (starts_of p.routines) before r store
  went Ended before store = Done store

  -- a tick: the inputs are set, and `main` starts or goes on
  abbrev pub ticked : Moment → (row : List ℤ) → Moment
  ticked m row = moment_of (went m.standing m.store (set_all p.inputs row m.store))

  -- the words of the outputs at a moment
  abbrev pub outputs_at : Moment → List ℤ
  outputs_at m = words_at p.outputs m.store

  -- the moments after each of the ticks
  abbrev pub moments_from : Moment → List (List ℤ) → List Moment
  moments_from m [] = []
  moments_from m (row ∷ rows) = ticked m row ∷ moments_from (ticked m row) rows

  -- the meaning: for a list of input rows the outputs at the end of each tick
  abbrev pub meaning_of : List (List ℤ) → List (List ℤ)
  meaning_of rows = map outputs_at (moments_from before_ticks rows)

-- What a `Meaning` keeps between two ticks, and the moment that it is.
use Rattle.std.specs.Prelude.{◌≡◌, ℕ, ℤ, List, Option, Some, None}
use Rattle.pc_grammar.specs.Typing.{Typing}
use Rattle.pc_meaning.specs.Tree.{Program}
use Rattle.pc_meaning.specs.Values.{Store, set_all}
use Rattle.pc_meaning.specs.Runs as runs
use Rattle.pc_meaning.specs.Runs.{Moment, moment_of, went}
use Rattle.pc_meaning.specs.Cells.{Words}
use Rattle.pc_meaning.specs.declared.places.Room.{Room}
use Rattle.pc_meaning.specs.Programs.{program_of, rooms_of}
use Rattle.pc_meaning.specs.Lefts.{left_of, body_of}
use Rattle.pc_meaning.specs.declared.lefts.Left.{Left}
use Rattle.pc_meaning.specs.declared.standing.Standing.{Standing}
use Rattle.pc_meaning.specs.declared.standing.Standing.TheVariants.{Unstarted, At, Ended}

-- a program, where its `main` stands, and the words of its cells
pub record State : Type 0 where
  pub typing : Typing
  pub standing : Standing
  pub store : Store

-- what is left of `main` is read along its body
abbrev pub standing_of : Program → Standing → runs.Standing
standing_of p Unstarted = runs.Unstarted
standing_of p (At left) = runs.At (left_of p.routines left (body_of p.routines p.main))
standing_of p Ended = runs.Ended

abbrev pub moment_at : Program → Standing → Store → Moment
moment_at p standing store = record { standing = standing_of p standing; store = store }

abbrev pub moment : State → Moment
moment s = moment_at (program_of s.typing) s.standing s.store

abbrev pub standing_after : Option Left → Standing
standing_after None = Ended
standing_after (Some left) = At left

-- `main` went from one standing to another
abbrev pub Goes : Program → (was after : Standing) → (before old new : Store) → Type 0
Goes p was after before old new = moment_at p after new ≡ moment_of (went p (standing_of p was) before old)

-- and so in a tick, in which the inputs are set first
abbrev pub Steps : Program → List ℤ → (was after : Standing) → (old new : Store) → Type 0
Steps p row was after old new = Goes p was after old (set_all p.inputs row old) new

-- the lists beside a program are its own, and between two ticks the words are those of the last one's end
pub record IsLaidOut (typing : Typing) (rooms : List Room) (inputs outputs : List ℕ) (cells : Words) : Type 0 where
  pub rooms_are : rooms ≡ rooms_of typing.cells
  pub inputs_are : inputs ≡ (program_of typing).inputs
  pub outputs_are : outputs ≡ (program_of typing).outputs
  pub at_rest : cells.current ≡ cells.before

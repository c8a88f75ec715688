-- How statements come out, and what is left of those that have paused: docs/language.md, "The meaning of a program".
use Rattle.std.specs.Prelude.{ℕ, Bool, true, false, if◌then◌else◌, List, [], ◌∷◌, Option, Some, None}
use Rattle.pc_meaning.specs.Tree.{Expression, Statements, none, each}
use Rattle.pc_meaning.specs.Values.{Store}

-- what is left of a statement that has paused
mutual
  pub data Residual : Type 0 where
    -- the `EOT` of this number has paused
    here : (number : ℕ) → Residual
    -- a part has paused, and these statements come after it
    seq : Residual → Statements → Residual
    -- the body of the abort of this number has paused
    in_abort : (number : ℕ) (weak : Bool) (test : Expression) → Residual → Residual
    -- the threads of the `PAR` of this number, of which at least one has paused
    in_par : (number : ℕ) → Threads → Residual

  -- threads in the order of the text, each ended or paused
  pub data Threads : Type 0 where
    no_more : Threads
    ended : Threads → Threads
    paused : Residual → Threads → Threads

-- a statement is done, or it has paused
pub data Outcome : Type 0 where
  Done : Store → Outcome
  Paused : Residual → Store → Outcome

abbrev pub store_of : Outcome → Store
store_of (Done store) = store
store_of (Paused r store) = store

-- where nothing comes after what has paused, it is alone
abbrev pub before_rest : Residual → Statements → Residual
before_rest r none = r
before_rest r (each s rest) = seq r (each s rest)

-- after a part comes the rest, in the same tick where the part is done
abbrev pub followed : Outcome → Statements → (Store → Outcome) → Outcome
followed (Done store) rest go = go store
followed (Paused r store) rest go = Paused (before_rest r rest) store

-- an abort is done with its body, and stays while its body pauses
abbrev pub aborting : ℕ → Bool → Expression → Outcome → Outcome
aborting j weak test (Done store) = Done store
aborting j weak test (Paused r store) = Paused (in_abort j weak test r) store

-- one that was fired ends with its body, whether this is done or has paused
abbrev pub fired_or_aborting : Bool → ℕ → Bool → Expression → Outcome → Outcome
fired_or_aborting true j weak test o = Done (store_of o)
fired_or_aborting false j weak test o = aborting j weak test o

-- ---- threads beside one another

-- how threads stand, and the store that they leave
pub record Side : Type 0 where
  pub threads : Threads
  pub store : Store

abbrev pub and_side : Outcome → (Store → Side) → Side
and_side (Done store) go = record { threads = ended (go store).threads; store = (go store).store }
and_side (Paused r store) go = record { threads = paused r (go store).threads; store = (go store).store }

-- what each thread does, each on the store that the one before it left; one that has ended does nothing
abbrev pub beside : List (Option (Store → Outcome)) → Store → Side
beside [] store = record { threads = no_more; store = store }
beside (None ∷ more) store = and_side (Done store) (beside more)
beside (Some go ∷ more) store = and_side (go store) (beside more)

abbrev pub all_ended : Threads → Bool
all_ended no_more = true
all_ended (ended more) = all_ended more
all_ended (paused r more) = false

-- a `PAR` is done where all its threads have ended
abbrev pub joined : ℕ → Side → Outcome
joined i side = if all_ended side.threads then Done side.store else Paused (in_par i side.threads) side.store

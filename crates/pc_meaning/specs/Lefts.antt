-- What the numbers that are kept of a paused statement say, read along the statement.
use Rattle.std.specs.Prelude.{◌≡◌, ◌≤◌, ℕ, zero, suc, nat_eq, Bool, true, false, if◌then◌else◌, List, [], ◌∷◌, map, take, length, Option, Some, None}
use Rattle.std.specs.Option.{option_map}
use Rattle.pc_grammar.specs.declared.statements.Stmt.{Stmt}
use Rattle.pc_grammar.specs.declared.typed.Function.{Function}
use Rattle.pc_meaning.specs.Tree.{Statement, Statements, skip, assign, call_of, block, if_so, repeat, loop, eot, par, abort, none, each, Routine}
use Rattle.pc_meaning.specs.Values.{Store}
use Rattle.pc_meaning.specs.Outcomes.{Residual, Threads, here, in_abort, in_par, no_more, ended, paused, before_rest, Outcome, Done, Paused, Side, beside}
use Rattle.pc_meaning.specs.Statements.{Known, routine_at, known_at, starting, starts_of, start, resume, resuming}
use Rattle.pc_meaning.specs.declared.places.Room.{Room}
use Rattle.pc_meaning.specs.Programs.{numbering_of, statement_of, statements_of, routine_of}
use Rattle.pc_meaning.specs.declared.lefts.Left.{Left, fold-Left}
use Rattle.pc_meaning.specs.declared.lefts.Left.TheOpen.{Left-F, Here as OpenHere, Inside as OpenInside, Beside as OpenBeside}

-- numbers that fit no part of a statement, which are never kept
abbrev pub unread : Residual
unread = here 0

-- the statement of this number in a list has paused, and those behind it come after it
abbrev pub in_list : ℕ → (Statement → Residual) → Statements → Residual
in_list zero r none = unread
in_list (suc k) r none = unread
in_list zero r (each s rest) = before_rest (r s) rest
in_list (suc k) r (each s rest) = in_list k r rest

abbrev pub here_of : Statement → Residual
here_of skip = unread
here_of (assign goal e) = unread
here_of (call_of goal f es) = unread
here_of (block all) = unread
here_of (if_so test first second) = unread
here_of (repeat most test body) = unread
here_of (loop test body) = unread
here_of (eot i) = here i
here_of (par i threads) = unread
here_of (abort j weak body test) = unread

abbrev pub inside_of : ℕ → (Statement → Residual) → Statement → Residual
inside_of k r skip = unread
inside_of k r (assign goal e) = unread
inside_of k r (call_of goal f es) = unread
inside_of k r (block all) = in_list k r all
inside_of k r (if_so test first second) = if nat_eq k 0 then r first else r second
inside_of k r (repeat most test body) = unread
inside_of k r (loop test body) = before_rest (r body) (each (loop test body) none)
inside_of k r (eot i) = unread
inside_of k r (par i threads) = unread
inside_of k r (abort j weak body test) = in_abort j weak test (r body)

-- nothing is left of threads
abbrev pub is_over : List (Option Left) → Bool
is_over [] = true
is_over (None ∷ lefts) = is_over lefts
is_over (Some left ∷ lefts) = false

module _ (routines : List Routine) where
  -- the body of a function, as one statement
  abbrev pub body_of : ℕ → Statement
  body_of f = block (routine_at routines f).body

  abbrev pub threads_from : List (Option (Statement → Residual)) → List ℕ → Threads
  threads_from [] fs = no_more
  threads_from (r ∷ rs) [] = no_more
  threads_from (None ∷ rs) (f ∷ fs) = ended (threads_from rs fs)
  threads_from (Some r ∷ rs) (f ∷ fs) = paused (r (body_of f)) (threads_from rs fs)

  abbrev pub beside_of : List (Option (Statement → Residual)) → Statement → Residual
  beside_of rs skip = unread
  beside_of rs (assign goal e) = unread
  beside_of rs (call_of goal f es) = unread
  beside_of rs (block all) = unread
  beside_of rs (if_so test first second) = unread
  beside_of rs (repeat most test body) = unread
  beside_of rs (loop test body) = unread
  beside_of rs (eot i) = unread
  beside_of rs (par i threads) = in_par i (threads_from rs threads)
  beside_of rs (abort j weak body test) = unread

  abbrev pub left_step : Left-F (Statement → Residual) → Statement → Residual
  left_step OpenHere s = here_of s
  left_step (OpenInside k r) s = inside_of k r s
  left_step (OpenBeside rs) s = beside_of rs s

  -- what is left of a statement
  abbrev pub left_of : Left → Statement → Residual
  left_of = fold-Left (Statement → Residual) left_step

  -- and of threads
  abbrev pub threads_of : List (Option Left) → List ℕ → Threads
  threads_of lefts fs = threads_from (map (option_map left_of) lefts) fs

  -- threads of which this is left, and the store
  abbrev pub sided : List (Option Left) → List ℕ → Store → Side
  sided lefts fs store = record { threads = threads_of lefts fs; store = store }

  abbrev pub outcome_of : Statement → Option Left → Store → Outcome
  outcome_of s None store = Done store
  outcome_of s (Some left) store = Paused (left_of left s) store

-- ---- of a program with numbers for names

module _ (rooms : List Room) (functions : List Function) where
  abbrev pub tree : Stmt ℕ → Statement
  tree s = statement_of rooms (numbering_of functions) s

  abbrev pub trees : List (Stmt ℕ) → Statements
  trees all = statements_of rooms (numbering_of functions) all

  abbrev pub routines_of : List Routine
  routines_of = map (routine_of rooms (numbering_of functions)) functions

  -- what the first functions do, so many of them
  abbrev pub known_of : ℕ → Known
  known_of known = take known (starts_of routines_of)

  -- what a statement does that may call and start so many functions
  abbrev pub starts : ℕ → Statement → Store → Outcome
  starts known s store = start routines_of (known_of known) s store

  abbrev pub ends : Statement → Option Left → Store → Outcome
  ends s left store = outcome_of routines_of s left store

  abbrev pub resumes : Store → Residual → Store → Outcome
  resumes before r store = resume routines_of (known_of (length functions)) before r store

  -- ---- the facts of the walks

  -- the statement was started, and this is left of it
  abbrev pub Started : ℕ → Statement → Option Left → Store → Store → Type 0
  Started known s left old new = ends s left new ≡ starts known s old

  -- the function was started, and this is left of its body
  abbrev pub FunctionStarted : ℕ → ℕ → Option Left → Store → Store → Type 0
  FunctionStarted known f left old new = ends (body_of routines_of f) left new ≡ known_at (known_of known) f old

  -- the threads were started, and this is left of each
  abbrev pub ThreadsStarted : ℕ → List ℕ → List (Option Left) → Store → Store → Type 0
  ThreadsStarted known fs lefts old new = (sided routines_of lefts fs new ≡ beside (starting (known_of known) fs) old) × (length lefts ≤ length fs)

  -- what was left of the statement went on, and this is left of it now
  abbrev pub Resumed : Store → Statement → Left → Option Left → Store → Store → Type 0
  Resumed before s was left old new = ends s left new ≡ resumes before (left_of routines_of was s) old

  -- the same of the body of a function, of which something may be left
  abbrev pub resumes_thread : Store → Option Left → ℕ → Store → Outcome
  resumes_thread before None f store = Done store
  resumes_thread before (Some left) f store = resumes before (left_of routines_of left (body_of routines_of f)) store

  -- what was left of the threads went on, and this is left of each now
  abbrev pub ThreadsResumed : Store → List ℕ → List (Option Left) → List (Option Left) → Store → Store → Type 0
  ThreadsResumed before fs was lefts old new =
      (sided routines_of lefts fs new ≡ beside (resuming routines_of (known_of (length functions)) before (threads_of routines_of was fs)) old)
      × (length lefts ≤ length fs)

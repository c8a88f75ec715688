-- The numbers of the places of a region and of a thread's code, from those of the place behind: docs/bounds.md, "Programs".
use Rattle.std.specs.Prelude.{ℕ, zero, suc, ◌+◌, ◌-◌, ◌*◌, ◌++◌, max, min, if◌then◌else◌, List, [], ◌∷◌, map, length, ℤ, Option, Some, None}
use Rattle.std.specs.List.{range_with_len}
use Rattle.mb_isa.specs.declared.Class.{Class}
use Rattle.mb_isa.specs.declared.Class.TheVariants as class
use Rattle.mb_isa.specs.Costs.{cost_of}
use Rattle.pt_image.specs.declared.Parts.{Parts}
use Rattle.tk_cert.specs.declared.cert.Line.{Line}
use Rattle.tk_cert.specs.declared.cert.Line.TheVariants.{Thread, Routine, Cond}
use Rattle.tk_paths.specs.declared.view.Side.{Side}
use Rattle.tk_paths.specs.declared.view.Side.TheVariants.{ToPause, ToEnd}
use Rattle.tk_paths.specs.declared.view.View.{View}
use Rattle.tk_paths.specs.declared.view.View.TheVariants.{On, Value}
use Rattle.tk_paths.specs.Sums.{plus, greater, or_zero, all_ends, most_paused}
use Rattle.tk_paths.specs.Kinds.{abort_at}
use Rattle.tk_paths.specs.Acceptance.{on_side, more}
use Rattle.tk_paths.specs.Regions.{Region, Words, Then, Choice, Counted, Repeated, Calling, to, half, word_place, behind, unit_word, extra, word_cost, units_cost, tested_turn, plain_turn, leaving, through}
use Rattle.tk_paths.specs.Greatest.{stays}
use Rattle.tk_paths.specs.Codes.{Code, Passed, Sequence, Either, Turns, Forever, Resting, Forking, Guarded, exit}

-- what a line says but for its numbers
pub data Kind : Type 0 where
  thread : (slot : ℕ) (stack loops : List ℕ) → Kind
  routine : (height : ℕ) (loops : List ℕ) → Kind
  condition : Kind

-- inside one loop more
abbrev pub inside : ℕ → Kind → Kind
inside a (thread s stack loops) = thread s stack (loops ++ a ∷ [])
inside a (routine h loops) = routine h (loops ++ a ∷ [])
inside a condition = condition

-- the numbers of a place
abbrev pub Numbers : Type 0
Numbers = View → Option ℕ

abbrev pub level : Numbers → ℕ → Option ℕ × Option ℕ
level V k = (V (On ToPause k), V (On ToEnd k))

-- the line of a place of this kind with these numbers
abbrev pub line : Kind → Numbers → Line
line (thread s stack loops) V = Thread s stack loops (map (level V) (range_with_len 0 (length stack + 1)))
line (routine h loops) V = Routine h loops (or_zero (V Value))
line condition V = Cond (or_zero (V Value))

-- no way leads on
abbrev pub nothing : Numbers
nothing view = None

abbrev pub just : ℕ → Numbers
just n view = Some n

-- a charge, and these numbers
abbrev pub after : ℕ → Numbers → Numbers
after c V view = more c (V view)

-- at a `next` behind whose loop these come: all turns are used up, or one leaves where a whole turn, which costs w, would go on
abbrev pub next_number : (next out w : ℕ) → Option ℕ → Option ℕ
next_number next out w None = None
next_number next out w (Some n) = Some (max (next + n) ((out + n) - w))

-- an abort that a place is inside: its number, and the two numbers of its handler, where those outside it are old
abbrev pub Handler : Type 0
Handler = ℕ × (Option ℕ × Option ℕ)

abbrev pub stack_of : List Handler → List ℕ
stack_of aborts = map (λ (h : Handler). h.0) aborts

module _ (image : Parts) (costs : List ℕ) where
  abbrev pub cost : Class → ℕ
  cost class = cost_of costs class

  -- the lines of a unit, at whose word these numbers stand; of so many units, and what is behind them
  abbrev pub half_lines : Kind → Option ℤ → Numbers → List Line
  half_lines kind None V = []
  half_lines kind (Some upper) V = line kind (after (cost class.Imm) V) ∷ []

  abbrev pub unit_lines : Kind → ℕ → Numbers → List Line
  unit_lines kind p V = half_lines kind (half image p) V ++ line kind V ∷ []

  abbrev pub units_lines : Kind → ℕ → ℕ → Numbers → List Line
  units_lines kind p zero V = []
  units_lines kind p (suc n) V =
      unit_lines kind p (after (word_cost image costs (unit_word image p) + units_cost image costs (behind image p) n) V)
      ++ units_lines kind (behind image p) n V

  -- the two ways of a branch
  abbrev pub branched : Numbers → Numbers → Numbers
  branched V W view = greater (more (cost class.Untaken) (V view)) (more (cost class.Taken) (W view))

  -- where a jump leads to a place with these numbers
  abbrev pub jumping : ℕ → Numbers → Numbers
  jumping p V = after (extra image costs p + cost class.Jump) V

  abbrev pub jump_lines : Kind → ℕ → Numbers → List Line
  jump_lines kind p V = unit_lines kind p (after (cost class.Jump) V)

  -- a test of so many units and its branch
  abbrev pub testing : ℕ → ℕ → ℕ → Numbers → Numbers
  testing p n at V = after (units_cost image costs p n + extra image costs at) V

  abbrev pub test_lines : Kind → ℕ → ℕ → ℕ → Numbers → List Line
  test_lines kind p n at V = units_lines kind p n (after (extra image costs at) V) ++ unit_lines kind at V

  -- ---- regions: at the beginning of one stand its dearest way and what is behind

  abbrev pub passing : Region → Numbers → Numbers
  passing r V = after (through image costs r) V

  -- the weight of a loop with a test, and of one without; what stands at its `next`; at the branch of its test
  abbrev pub tested_weight : (p n at : ℕ) → Region → ℕ
  tested_weight p n at body = tested_turn image costs p n at body (through image costs body)

  abbrev pub plain_weight : Region → ℕ
  plain_weight body = plain_turn image costs body (through image costs body)

  abbrev pub at_next : (p n at : ℕ) → Region → Numbers → Numbers
  at_next p n at body V view = next_number (cost class.Next) (leaving image costs p n at) (tested_weight p n at body) (V view)

  abbrev pub at_test : (p n at : ℕ) → Region → Numbers → Numbers
  at_test p n at body V = branched (passing body (jumping (to body) (at_next p n at body V))) (after (cost class.Drop) V)

  abbrev pub region_lines : Kind → Region → Numbers → List Line
  region_lines kind (Words p n q) V = units_lines kind p n V
  region_lines kind (Then x y) V = region_lines kind x (passing y V) ++ region_lines kind y V
  region_lines kind (Choice p n at x y) V =
      test_lines kind p n at (branched (passing x (jumping (to x) V)) (passing y V))
      ++ region_lines kind x (jumping (to x) V) ++ jump_lines kind (to x) V ++ region_lines kind y V
  region_lines kind (Counted p m n at body q) V =
      unit_lines kind p (after (cost class.Loop + suc m * tested_weight p n at body) (at_next p n at body V))
      ++ line (inside (word_place image p) kind) (at_next p n at body V)
      ∷ test_lines (inside (word_place image p) kind) (behind image p + 1) n at (at_test p n at body V)
      ++ region_lines (inside (word_place image p) kind) body (jumping (to body) (at_next p n at body V))
      ++ jump_lines (inside (word_place image p) kind) (to body) (at_next p n at body V)
      ++ line (inside (word_place image p) kind) (after (cost class.Drop) V) ∷ []
  region_lines kind (Repeated p m body q) V =
      unit_lines kind p (after (cost class.Loop + suc m * plain_weight body) (after (cost class.Next) V))
      ++ line (inside (word_place image p) kind) (after (cost class.Next) V)
      ∷ region_lines (inside (word_place image p) kind) body (jumping (to body) (after (cost class.Next) V))
      ++ jump_lines (inside (word_place image p) kind) (to body) (after (cost class.Next) V)
  region_lines kind (Calling p callee) V = line kind (passing (Calling p callee) V) ∷ []

  -- the loops of a region, each with its weight
  abbrev pub region_weights : Region → List (ℕ × ℕ)
  region_weights (Words p n q) = []
  region_weights (Then x y) = region_weights x ++ region_weights y
  region_weights (Choice p n at x y) = region_weights x ++ region_weights y
  region_weights (Counted p m n at body q) = (word_place image p, tested_weight p n at body) ∷ region_weights body
  region_weights (Repeated p m body q) = (word_place image p, plain_weight body) ∷ region_weights body
  region_weights (Calling p callee) = []

  -- ---- threads

  -- the greatest number of the handlers of the weak ones among the first k of these aborts
  abbrev pub handled : Side → List Handler → ℕ → Option ℕ
  handled side [] k = None
  handled side (h ∷ aborts) zero = None
  handled side (h ∷ aborts) (suc k) =
      greater (if (abort_at image h.0).weak then on_side side (Some (h.1)) else None) (handled side aborts k)

  -- what follows a rest inside these aborts: it stays, or a handler goes on
  abbrev pub rested : List Handler → Numbers
  rested aborts (On side k) = greater (stays side) (handled side aborts k)
  rested aborts Value = None

  -- where an abort inside these ends, its `leave` goes on; its own level is the innermost
  abbrev pub left : List Handler → Numbers → Numbers
  left aborts V (On side k) = more (cost class.Leave) (V (On side (min k (length aborts))))
  left aborts V Value = None

  abbrev pub with_abort : List Handler → ℕ → Numbers → List Handler
  with_abort aborts j V = aborts ++ (j, level V (length aborts)) ∷ []

  -- the numbers with which slots start
  module _ (starts : Side → ℕ → Option ℕ) where
    -- after a fork: its children come to rest, or all of them end
    abbrev pub grouped : List Handler → ℕ → ℕ → Numbers → Numbers
    grouped aborts lo n V view = greater (plus (most_paused starts lo n) (rested aborts view)) (plus (all_ends starts lo n) (V view))

    -- the numbers where a code begins, from those behind it
    abbrev pub entered : List Handler → Code → Numbers → Numbers
    entered aborts (Passed r) V = passing r V
    entered aborts (Sequence x y) V = entered aborts x (entered aborts y V)
    entered aborts (Either p n at x y) V =
        testing p n at (branched (entered aborts x (jumping (exit x) V)) (entered aborts y V))
    -- the body never comes to its end within the tick
    entered aborts (Turns p n at body q) V = testing p n at (branched (entered aborts body nothing) V)
    entered aborts (Forever body q) V = entered aborts body nothing
    entered aborts (Resting p) V = after (cost class.Eot) (rested aborts)
    entered aborts (Forking p lo n) V = after (cost class.Fork) (grouped aborts lo n V)
    entered aborts (Guarded p j body) V = after (cost class.Abrt) (entered (with_abort aborts j V) body (left aborts V))

    -- the lines of its places, in a thread of slot s
    module _ (s : ℕ) where
      abbrev pub in_thread : List Handler → Kind
      in_thread aborts = thread s (stack_of aborts) []

      abbrev pub code_lines : List Handler → Code → Numbers → List Line
      code_lines aborts (Passed r) V = region_lines (in_thread aborts) r V
      code_lines aborts (Sequence x y) V = code_lines aborts x (entered aborts y V) ++ code_lines aborts y V
      code_lines aborts (Either p n at x y) V =
          test_lines (in_thread aborts) p n at (branched (entered aborts x (jumping (exit x) V)) (entered aborts y V))
          ++ code_lines aborts x (jumping (exit x) V) ++ jump_lines (in_thread aborts) (exit x) V ++ code_lines aborts y V
      code_lines aborts (Turns p n at body q) V =
          test_lines (in_thread aborts) p n at (branched (entered aborts body nothing) V)
          ++ code_lines aborts body (jumping (exit body) (entered aborts (Turns p n at body q) V))
          ++ jump_lines (in_thread aborts) (exit body) (entered aborts (Turns p n at body q) V)
      code_lines aborts (Forever body q) V =
          code_lines aborts body (jumping (exit body) (entered aborts body nothing))
          ++ jump_lines (in_thread aborts) (exit body) (entered aborts body nothing)
      code_lines aborts (Resting p) V = line (in_thread aborts) (entered aborts (Resting p) V) ∷ []
      code_lines aborts (Forking p lo n) V = line (in_thread aborts) (entered aborts (Forking p lo n) V) ∷ []
      code_lines aborts (Guarded p j body) V =
          line (in_thread aborts) (entered aborts (Guarded p j body) V)
          ∷ code_lines (with_abort aborts j V) body (left aborts V)
          ++ line (in_thread (with_abort aborts j V)) (left aborts V) ∷ []

  abbrev pub code_weights : Code → List (ℕ × ℕ)
  code_weights (Passed r) = region_weights r
  code_weights (Sequence x y) = code_weights x ++ code_weights y
  code_weights (Either p n at x y) = code_weights x ++ code_weights y
  code_weights (Turns p n at body q) = code_weights body
  code_weights (Forever body q) = code_weights body
  code_weights (Resting p) = []
  code_weights (Forking p lo n) = []
  code_weights (Guarded p j body) = code_weights body

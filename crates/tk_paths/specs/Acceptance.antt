-- The conditions of acceptance A3 to A7, and what all conditions ask: docs/bounds.md, "Acceptance".
use Rattle.tk_paths.specs.declared.view.View.{View}
use Rattle.tk_paths.specs.declared.view.View.TheVariants.{On, Value}
use Rattle.std.specs.Prelude.{ℕ, zero, suc, ◌||◌, ◌+◌, ◌-◌, ◌*◌, min, Bool, if◌then◌else◌, List, [], ◌∷◌, ◌++◌, length, slice_get, Option, Some, None}
use Rattle.std.specs.Option.{is_some}
use Rattle.std.specs.List.{list_any, flat_map, range_with_len}
use Rattle.mb_isa.specs.declared.Class.{Class}
use Rattle.mb_isa.specs.declared.Class.TheVariants as class
use Rattle.mb_isa.specs.Costs.{cost_of}
use Rattle.pt_image.specs.declared.Point.{Point}
use Rattle.pt_image.specs.declared.Parts.{Parts}
use Rattle.mb_pfu.specs.Calls.{last_of}
use Rattle.mb_isa.specs.Tick.{base_of}
use Rattle.tk_cert.specs.declared.cert.Line.{Line}
use Rattle.tk_cert.specs.declared.cert.Line.TheVariants.{Bare, Thread, Routine, Cond}
use Rattle.tk_cert.specs.declared.cert.CertParts.{CertParts}
use Rattle.tk_cert.specs.Demands.{Demand, at_least}
use Rattle.tk_paths.specs.declared.view.Side.{Side}
use Rattle.tk_paths.specs.declared.view.Side.TheVariants.{ToPause, ToEnd}
use Rattle.tk_paths.specs.Sums.{plus, or_zero, lowered, all_ends, most_paused, resumed_ends, resumed_paused, greatest}
use Rattle.tk_paths.specs.declared.word.Word.{Word}
use Rattle.tk_paths.specs.declared.word.Word.TheVariants.{Does, Imm, Jump, Branch, Fork, Eot, End, Abrt, Leave, Call, Ret, Loop, Next, Drop, Cend}
use Rattle.tk_paths.specs.Kinds.{line_at, loops_of, word_at, places_of, start_of, abort_at, points_at}
use Rattle.tk_paths.specs.Shape.{weight_in, shape, apart, children_at}

-- one of two numbers
abbrev pub on_side : Side → Option (Option ℕ × Option ℕ) → Option ℕ
on_side side None = None
on_side ToPause (Some numbers) = numbers.0
on_side ToEnd (Some numbers) = numbers.1

abbrev pub level_of : View → ℕ
level_of (On side level) = level
level_of Value = 0

abbrev pub levels_of : Line → List (Option ℕ × Option ℕ)
levels_of (Thread slot stack loops levels) = levels
levels_of other = []

abbrev pub stack_of : Line → List ℕ
stack_of (Thread slot stack loops levels) = stack
stack_of other = []

-- the value of a routine or a condition; no other line is asked for one
abbrev pub value_of : Line → ℕ
value_of (Routine height loops value) = value
value_of (Cond value) = value
value_of other = 0

abbrev pub number_in : View → Line → Option ℕ
number_in (On side level) line = on_side side (slice_get (levels_of line) level)
number_in Value line = Some (value_of line)

-- the levels of a line, from the outermost abort inwards
abbrev pub levels : Line → List ℕ
levels line = range_with_len 0 (length (levels_of line))

-- all numbers of a line in order: at each level up to a pause and up to the end
abbrev pub views_of : Line → List View
views_of Bare = []
views_of (Thread slot stack loops numbers) = flat_map (λ k. On ToPause k ∷ On ToEnd k ∷ []) (range_with_len 0 (length numbers))
views_of (Routine height loops value) = Value ∷ []
views_of (Cond value) = Value ∷ []

-- so much more than a number, where that is there
abbrev pub more : ℕ → Option ℕ → Option ℕ
more n o = plus (Some n) o

module _ (image : Parts) (cert : CertParts) (costs : List ℕ) where
  -- a number of a place's line
  abbrev pub number : View → ℕ → Option ℕ
  number view place = number_in view (line_at cert.lines place)

  -- the value of a routine or a condition
  abbrev pub value : ℕ → ℕ
  value place = value_of (line_at cert.lines place)

  -- the weight of a loop
  abbrev pub weight : ℕ → ℕ
  weight a = or_zero (weight_in cert.weights a)

  -- the numbers of a slot that is resumed, and of a child that starts
  abbrev pub resumed : Side → ℕ → Option ℕ
  resumed side slot = on_side side (slice_get cert.slot_bounds slot)

  abbrev pub begins : Side → ℕ → Option ℕ
  begins side slot = number (On side 0) (start_of image slot)

  abbrev pub cost : Class → ℕ
  cost class = cost_of costs class

  -- what each weak one of the first k aborts asks, by its handler; the first has number i
  abbrev pub weak_handlers : (ℕ → ℕ → List Demand) → ℕ → List ℕ → ℕ → List Demand
  weak_handlers asks i [] k = []
  weak_handlers asks i (j ∷ stack) zero = []
  weak_handlers asks i (j ∷ stack) (suc k) = (if (abort_at image j).weak then asks i ((abort_at image j).handler) else []) ++ weak_handlers asks (i + 1) stack k

  -- what each strong abort asks, by its handler and the sum of the conditions up to and with its own
  abbrev pub strong_handlers : (ℕ → ℕ → ℕ → List Demand) → ℕ → ℕ → List ℕ → List Demand
  strong_handlers asks sum i [] = []
  strong_handlers asks sum i (j ∷ stack) =
      (if (abort_at image j).weak then [] else asks (sum + value ((abort_at image j).cond)) i ((abort_at image j).handler)) ++ strong_handlers asks (sum + value ((abort_at image j).cond)) (i + 1) stack

  -- the sum of all conditions
  abbrev pub conditions : ℕ → List ℕ → ℕ
  conditions sum [] = sum
  conditions sum (j ∷ stack) = conditions (sum + value ((abort_at image j).cond)) stack

  -- A3: a number of a place reaches a cost and the number of the next place
  abbrev pub edge : ℕ → View → ℕ → ℕ → List Demand
  edge place view charge next = at_least 3 place (level_of view) (number view place) (more charge (number view next))

  -- outside the innermost abort a level is at most the number of the other aborts
  abbrev pub left_view : ℕ → View → View
  left_view aborts (On side level) = On side (min level (aborts - 1))
  left_view aborts Value = Value

  abbrev pub ending : ℕ → View → List Demand
  ending place (On ToPause level) = []
  ending place (On ToEnd level) = at_least 3 place level (number (On ToEnd level) place) (Some (cost class.End))
  ending place Value = []

  -- a routine or a condition is over
  abbrev pub closing : ℕ → Class → View → List Demand
  closing place class (On side level) = []
  closing place class Value = at_least 3 place 0 (number Value place) (Some (cost class))

  -- the weight of the innermost loop
  abbrev pub inner_weight : Option (List ℕ × ℕ) → ℕ
  inner_weight None = 0
  inner_weight (Some p) = weight p.1

  abbrev pub word_edges : ℕ → Line → View → Option Word → List Demand
  word_edges place line view None = []
  word_edges place line view (Some (Does class)) = edge place view (cost class) (place + 1)
  word_edges place line view (Some (Imm upper)) = edge place view (cost class.Imm) (place + 1)
  word_edges place line view (Some (Jump None)) = []
  word_edges place line view (Some (Jump (Some to))) = edge place view (cost class.Jump) to
  word_edges place line view (Some (Branch None)) = []
  word_edges place line view (Some (Branch (Some to))) = edge place view (cost class.Untaken) (place + 1) ++ edge place view (cost class.Taken) to
  -- pauses and forks are asked by A4 and A5
  word_edges place line view (Some Eot) = []
  word_edges place line view (Some (Fork lo count)) = []
  word_edges place line view (Some End) = ending place view
  word_edges place line view (Some (Abrt j)) = edge place view (cost class.Abrt) (place + 1)
  word_edges place line view (Some Leave) =
      at_least 3 place (level_of view) (number view place) (more (cost class.Leave) (number (left_view (length (stack_of line)) view) (place + 1)))
  word_edges place line view (Some (Call to)) = edge place view (cost class.Call + value to) (place + 1)
  word_edges place line view (Some Ret) = closing place class.Ret view
  word_edges place line view (Some (Loop turns)) = edge place view (cost class.Loop + turns * weight place) (place + 1)
  -- a turn is paid by the loop's weight, and may cost no more
  word_edges place line view (Some (Next to)) =
      at_least 3 place (level_of view) (number view place) (lowered (inner_weight (last_of (loops_of line))) (more (cost class.Next) (number view (place + 1))))
      ++ edge place view (cost class.Next) to
  word_edges place line view (Some Drop) = edge place view (cost class.Drop) (place + 1)
  word_edges place line view (Some Cend) = closing place class.Cend view

  abbrev pub line_edges : ℕ → Line → List Demand
  line_edges place line = flat_map (λ view. word_edges place line view (word_at image cert.lines place)) (views_of line)

  -- A3, edges
  abbrev pub edges : List Demand
  edges = flat_map (λ place. line_edges place (line_at cert.lines place)) (places_of image)

  -- A4: what a pause asks at a level, where so many aborts are old: the pause itself, or the handler of a weak one that fired
  abbrev pub pause_handlers : ℕ → List ℕ → ℕ → Side → List Demand
  pause_handlers place stack k side = weak_handlers (λ i handler. at_least 4 place k (number (On side k) place) (more (cost class.Eot) (number (On side i) handler))) 0 stack k

  abbrev pub pause_at_level : ℕ → List ℕ → ℕ → List Demand
  pause_at_level place stack k = at_least 4 place k (number (On ToPause k) place) (Some (cost class.Eot)) ++ pause_handlers place stack k ToPause ++ pause_handlers place stack k ToEnd

  abbrev pub word_pauses : ℕ → Line → Option Word → List Demand
  word_pauses place line (Some Eot) = flat_map (pause_at_level place (stack_of line)) (levels line)
  word_pauses place line other = []

  -- A4, pauses
  abbrev pub pauses : List Demand
  pauses = flat_map (λ place. word_pauses place (line_at cert.lines place) (word_at image cert.lines place)) (places_of image)

  -- A5: what a fork asks at a level: all children end and its thread goes on; or they come to rest, and a weak abort that fired is handled
  abbrev pub fork_ends : ℕ → ℕ → ℕ → ℕ → Side → List Demand
  fork_ends place lo count k side = at_least 5 place k (number (On side k) place) (more (cost class.Fork) (plus (all_ends begins lo count) (number (On side k) (place + 1))))

  abbrev pub fork_handlers : ℕ → List ℕ → ℕ → ℕ → ℕ → Side → List Demand
  fork_handlers place stack lo count k side =
      weak_handlers (λ i handler. at_least 5 place k (number (On side k) place) (more (cost class.Fork) (plus (most_paused begins lo count) (number (On side i) handler)))) 0 stack k

  abbrev pub fork_at_level : ℕ → List ℕ → ℕ → ℕ → ℕ → List Demand
  fork_at_level place stack lo count k =
      fork_ends place lo count k ToPause ++ at_least 5 place k (number (On ToPause k) place) (more (cost class.Fork) (most_paused begins lo count)) ++ fork_handlers place stack lo count k ToPause
      ++ fork_ends place lo count k ToEnd ++ fork_handlers place stack lo count k ToEnd

  abbrev pub word_forks : ℕ → Line → Option Word → List Demand
  word_forks place line (Some (Fork lo count)) = flat_map (fork_at_level place (stack_of line) lo count) (levels line)
  word_forks place line other = []

  -- A5, forks
  abbrev pub forks : List Demand
  forks = flat_map (λ place. word_forks place (line_at cert.lines place) (word_at image cert.lines place)) (places_of image)

  -- A6: what a slot that is resumed at a listed point asks
  abbrev pub resumes : Point → Side → Option ℕ → List Demand
  resumes p side needed = at_least 6 p.at 0 (resumed side p.slot) needed

  abbrev pub resumed_strong : Point → Side → List Demand
  resumed_strong p side = strong_handlers (λ sum i handler. resumes p side (more sum (number (On side i) handler))) 0 0 p.stack

  abbrev pub pause_resumes : Point → Side → List Demand
  pause_resumes p side = resumed_strong p side ++ resumes p side (more (conditions 0 p.stack) (number (On side (length p.stack)) (p.at + 1)))

  abbrev pub resumed_handlers : Point → ℕ → ℕ → Side → List Demand
  resumed_handlers p lo count side =
      weak_handlers (λ i handler. resumes p side (more (conditions 0 p.stack) (plus (resumed_paused resumed lo count) (number (On side i) handler)))) 0 p.stack (length p.stack)

  abbrev pub resumed_join : Point → ℕ → ℕ → Side → List Demand
  resumed_join p lo count side = resumes p side (more (conditions 0 p.stack) (plus (resumed_ends resumed lo count) (number (On side (length p.stack)) (p.at + 1))))

  -- a child of the fork has a number where it is resumed
  abbrev pub has_resumed : ℕ → ℕ → Bool
  has_resumed lo count = list_any (λ child. is_some (resumed ToPause child) || is_some (resumed ToEnd child)) (range_with_len lo count)

  abbrev pub fork_resumes : Point → ℕ → ℕ → List Demand
  fork_resumes p lo count =
      if has_resumed lo count then
      resumed_strong p ToPause ++ resumed_join p lo count ToPause ++ resumes p ToPause (more (conditions 0 p.stack) (resumed_paused resumed lo count)) ++ resumed_handlers p lo count ToPause
      ++ resumed_strong p ToEnd ++ resumed_join p lo count ToEnd ++ resumed_handlers p lo count ToEnd
      else []

  -- A6, resuming
  abbrev pub resuming : List Demand
  resuming =
      flat_map (λ place. flat_map (λ p. pause_resumes p ToPause ++ pause_resumes p ToEnd) (points_at image.pauses place)
      ++ flat_map (λ p. fork_resumes p ((children_at image place).0) ((children_at image place).1)) (points_at image.forks place)) (places_of image)

  -- A7: the bound covers what the tick itself is charged and the greatest of its beginnings
  abbrev pub bounded : List Demand
  bounded = at_least 7 0 0 (Some cert.bound) (Some (base_of image costs + greatest (begins ToPause 0 ∷ begins ToEnd 0 ∷ resumed ToPause 0 ∷ resumed ToEnd 0 ∷ [])))

  -- what all conditions ask, in the order in which a failing demand is looked for
  abbrev pub asks : List Demand
  asks = shape image cert ++ apart image ++ edges ++ pauses ++ forks ++ resuming ++ bounded

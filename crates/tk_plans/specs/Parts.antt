-- A plan by its first part: the choices of a fork's children, the place's own, and where the slot goes behind them.
use Rattle.std.specs.Prelude.{◌≡◌, ℕ, zero, suc, ◌+◌, ◌-◌, ◌++◌, min, Bool, true, false, if◌then◌else◌, List, [], ◌∷◌, length, Option, Some, None}
use Rattle.mb_isa.specs.declared.Class.TheVariants as class
use Rattle.mb_isa.specs.declared.Instr.{Instr}
use Rattle.mb_isa.specs.declared.Instr.TheVariants as instr
use Rattle.mb_isa.specs.Costs.{cost_of}
use Rattle.pt_image.specs.declared.Parts.{Parts}
use Rattle.tk_cert.specs.declared.cert.CertParts.{CertParts}
use Rattle.tk_paths.specs.declared.view.Side.{Side}
use Rattle.tk_paths.specs.declared.view.Side.TheVariants.{ToPause, ToEnd}
use Rattle.tk_paths.specs.declared.word.Word.{Word}
use Rattle.tk_paths.specs.declared.word.Word.TheVariants.{Jump, Branch}
use Rattle.tk_paths.specs.Sums.{plus, all_ends, most, most_paused}
use Rattle.tk_paths.specs.Kinds.{abort_at}
use Rattle.tk_paths.specs.Acceptance.{begins, more}
use Rattle.tk_paths.specs.Regions.{Region, to, behind, unit_word, extra, dearest_way}
use Rattle.tk_paths.specs.Greatest.{stays, num, handlers, resting}
use Rattle.tk_paths.specs.Choices.{is_second, Plan, fit, nothing, holding, stretch, ended_choices, most_choices, paused_choices}
use Rattle.tk_plans.specs.declared.parts.Group.{Group}
use Rattle.tk_plans.specs.declared.parts.Group.TheVariants.{Ending, Resting, Pausing}
use Rattle.tk_plans.specs.declared.parts.Next.{Next}
use Rattle.tk_plans.specs.declared.parts.Next.TheVariants.{On, Out, Handler, Stays, Nowhere}
use Rattle.tk_plans.specs.declared.parts.Part.{Part}
use Rattle.tk_plans.specs.declared.parts.Part.TheVariants.{Open, Whole}

-- ---- the children of a fork

abbrev pub group_of : Bool → Group
group_of true = Ending
group_of false = Pausing

abbrev pub side_by : Bool → Side
side_by true = ToEnd
side_by false = ToPause

-- how the children behind one go, which ends or doesn't
abbrev pub behind_child : Group → Bool → Group
behind_child Ending ends = Ending
behind_child Resting ends = Resting
behind_child Pausing true = Pausing
behind_child Pausing false = Resting

abbrev pub first_in : Option Instr → ℕ
first_in (Some (instr.Fork lo n)) = lo
first_in other = 0

abbrev pub count_in : Option Instr → ℕ
count_in (Some (instr.Fork lo n)) = n
count_in other = 0

module _ (image : Parts) (cert : CertParts) (costs : List ℕ) where
  -- a child ends, behind which stand so many others
  abbrev pub child_ends : Group → ℕ → ℕ → Bool
  child_ends Ending c n = true
  child_ends Resting c n = is_second (begins image cert costs ToPause c) (begins image cert costs ToEnd c)
  child_ends Pausing c n =
      is_second (plus (begins image cert costs ToPause c) (most (begins image cert costs) (c + 1) n))
      (plus (begins image cert costs ToEnd c) (most_paused (begins image cert costs) (c + 1) n))

  -- all children of a fork end, and its slot goes on
  abbrev pub joins : ℕ → ℕ → ℕ → List ℕ → ℕ → Side → Bool
  joins place lo n stack k side =
      is_second (plus (most_paused (begins image cert costs) lo n) (resting image cert costs stack k side))
      (plus (all_ends (begins image cert costs) lo n) (num image cert costs side k (place + 1)))

  abbrev pub joined_by : Option Instr → List ℕ → ℕ → Side → ℕ → Bool
  joined_by (Some (instr.Fork lo n)) stack place side k = joins place lo n stack k side
  joined_by other stack place side k = false

  -- the choices of children
  abbrev pub group_choices : (ℕ → Side → ℕ → Plan) → Group → ℕ → ℕ → List Bool
  group_choices next Ending c n = ended_choices image cert costs next c n
  group_choices next Resting c n = most_choices image cert costs next c n
  group_choices next Pausing c n = paused_choices image cert costs next c n

  -- ---- where a slot goes

  -- at a rest: to the handler of one of the weak aborts
  abbrev pub handler_next : Side → ℕ → List ℕ → ℕ → Next
  handler_next side i [] zero = Stays
  handler_next side i [] (suc k) = Stays
  handler_next side i (j ∷ stack) zero = Stays
  handler_next side i (j ∷ stack) (suc k) =
      if is_second (if (abort_at image j).weak then num image cert costs side i ((abort_at image j).handler) else None)
      (handlers image cert costs side (i + 1) stack k) then
      handler_next side (i + 1) stack k
      else Handler ((abort_at image j).handler) i

  -- or it stays
  abbrev pub rest_next : List ℕ → ℕ → Side → Next
  rest_next stack k side = if is_second (stays side) (handlers image cert costs side 0 stack k) then handler_next side 0 stack k else Stays

  abbrev pub branch_taken : ℕ → ℕ → Side → ℕ → Bool
  branch_taken place goal side k =
      is_second (more (extra image costs place + cost_of costs class.Untaken) (num image cert costs side k (behind image place)))
      (more (extra image costs place + cost_of costs class.Taken) (num image cert costs side k goal))

-- by the whole of a stretch
abbrev pub crossed : Option Region → Next
crossed None = Nowhere
crossed (Some r) = On (to r)

abbrev pub crossed_way : Parts → List ℕ → Option Region → List Bool
crossed_way image costs None = []
crossed_way image costs (Some r) = dearest_way image costs r

module _ (image : Parts) (cert : CertParts) (costs : List ℕ) (find : ℕ → Option Region) where
  abbrev pub straight_next : Option Word → ℕ → Side → ℕ → Next
  straight_next (Some (Jump (Some goal))) place side k = On goal
  straight_next (Some (Branch (Some goal))) place side k = On (if branch_taken image cert costs place goal side k then goal else behind image place)
  straight_next other place side k = crossed (stretch image find other place)

  abbrev pub straight_choices : Option Word → ℕ → Side → ℕ → List Bool
  straight_choices (Some (Jump (Some goal))) place side k = []
  straight_choices (Some (Branch (Some goal))) place side k = branch_taken image cert costs place goal side k ∷ []
  straight_choices other place side k = crossed_way image costs (stretch image find other place)

  -- by the word of the place, whose children all end if it is a fork that is joined
  abbrev pub next_by : Bool → Option Instr → List ℕ → ℕ → Side → ℕ → Next
  next_by joined (Some (instr.Abrt j)) stack place side k = On (place + 1)
  next_by joined (Some instr.Leave) stack place side k = Out (place + 1) (min k (length stack - 1))
  next_by joined (Some instr.Eot) stack place side k = rest_next image cert costs stack k side
  next_by joined (Some (instr.Fork lo n)) stack place side k = if joined then On (place + 1) else rest_next image cert costs stack k side
  next_by joined (Some instr.End) stack place side k = Stays
  next_by joined other stack place side k = straight_next (unit_word image place) place side k

  abbrev pub choices_by : Option Instr → ℕ → Side → ℕ → List Bool
  choices_by (Some (instr.Abrt j)) place side k = []
  choices_by (Some instr.Leave) place side k = []
  choices_by (Some instr.Eot) place side k = []
  choices_by (Some (instr.Fork lo n)) place side k = []
  choices_by (Some instr.End) place side k = []
  choices_by other place side k = straight_choices (unit_word image place) place side k

-- ---- the plan of where a slot goes

module _ (next : ℕ → Side → ℕ → Plan) (side : Side) (k : ℕ) where
  abbrev pub goes : Next → Plan
  goes (On q) = next q side k
  goes (Out q i) = fit k (next q side i)
  goes (Handler q i) = fit k (holding (next q side i))
  goes Stays = fit k nothing
  goes Nowhere = nothing

  -- what is told of a plan: that it goes on with a place's plan, or all of it; the choices up to there are added
  abbrev pub IsPart : Plan → Part → List Bool → List Bool → Type 0
  IsPart whole (Open q) old new = (whole.0 ≡ (next q side k).0) × (new ++ (next q side k).1 ≡ old ++ whole.1)
  IsPart whole (Whole answers) old new = (answers.items ≡ whole.0) × (new ≡ old ++ whole.1)

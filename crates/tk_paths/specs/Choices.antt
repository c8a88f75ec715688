-- Which way each branch of a program goes in its dearest tick, and which conditions hold: docs/bounds.md, "The dearest tick".
use Rattle.std.specs.Prelude.{ℕ, zero, suc, ◌+◌, ◌-◌, ◌==◌, ◌++◌, min, nat_le, Bool, true, false, if◌then◌else◌, List, [], ◌∷◌, length, Option, Some, None}
use Rattle.mb_isa.specs.declared.Class.TheVariants as class
use Rattle.mb_isa.specs.declared.Instr.{Instr}
use Rattle.mb_isa.specs.declared.Instr.TheVariants as instr
use Rattle.mb_isa.specs.Costs.{cost_of}
use Rattle.pt_image.specs.declared.Parts.{Parts}
use Rattle.tk_cert.specs.declared.cert.CertParts.{CertParts}
use Rattle.tk_paths.specs.declared.view.Side.{Side}
use Rattle.tk_paths.specs.declared.view.Side.TheVariants.{ToPause, ToEnd}
use Rattle.tk_paths.specs.declared.word.Word.{Word}
use Rattle.tk_paths.specs.declared.word.Word.TheVariants.{Does, Jump, Branch, Call, Loop}
use Rattle.tk_paths.specs.Sums.{plus, all_ends, most, most_paused}
use Rattle.tk_paths.specs.Words.{instr_at}
use Rattle.tk_paths.specs.Kinds.{line_at, start_of, abort_at}
use Rattle.tk_paths.specs.Acceptance.{stack_of, begins, more}
use Rattle.tk_paths.specs.Regions.{Region, Words, Then, Choice, Counted, Repeated, Calling, to, behind, unit_word, extra, dearest_way}
use Rattle.tk_paths.specs.Codes.{Code, Passed, Sequence, Either, Turns, Forever, Resting, Forking, Guarded}
use Rattle.tk_paths.specs.Programs.{Section, OfThread, OfRoutine, OfCondition, Unused}
use Rattle.tk_paths.specs.Greatest.{stays, num, handlers, resting}

-- of two numbers that may be none, the second is the greater
abbrev pub is_second : Option ℕ → Option ℕ → Bool
is_second None b = true
is_second (Some a) None = false
is_second (Some a) (Some b) = nat_le a b

-- ---- the bounded loops and the calls of a program, but for those inside its bounded loops

abbrev pub pieces : Region → List (ℕ × Region)
pieces (Words p n q) = []
pieces (Then x y) = pieces x ++ pieces y
pieces (Choice p n at x y) = pieces x ++ pieces y
pieces (Counted p m n at body q) = (p, Counted p m n at body q) ∷ []
pieces (Repeated p m body q) = (p, Repeated p m body q) ∷ []
pieces (Calling p callee) = (p, Calling p callee) ∷ []

abbrev pub code_pieces : Code → List (ℕ × Region)
code_pieces (Passed r) = pieces r
code_pieces (Sequence x y) = code_pieces x ++ code_pieces y
code_pieces (Either p n at x y) = code_pieces x ++ code_pieces y
code_pieces (Turns p n at body q) = code_pieces body
code_pieces (Forever body q) = code_pieces body
code_pieces (Resting p) = []
code_pieces (Forking p lo n) = []
code_pieces (Guarded p j body) = code_pieces body

abbrev pub section_pieces : Section → List (ℕ × Region)
section_pieces (OfThread s code) = code_pieces code
section_pieces (OfRoutine r) = []
section_pieces (OfCondition p n q) = []
section_pieces (Unused n) = []

-- the one at a place
abbrev pub piece_in : List (ℕ × Region) → ℕ → Option Region
piece_in [] place = None
piece_in (x ∷ xs) place = if x.0 == place then Some (x.1) else piece_in xs place

-- what plans are told from: the lines of a certificate, and the numbers of its slots
abbrev pub bare_of : CertParts → CertParts
bare_of cert = record { bound = 0; lines = cert.lines; weights = []; slot_bounds = cert.slot_bounds; walk = record { states = []; choices = [] } }

-- ---- what follows a place of a thread: which of the conditions at the tick's start hold for it, the outermost abort's first, and
-- the choices from there to the rest, those of a fork's children before those behind it

abbrev pub Plan : Type 0
Plan = List Bool × List Bool

-- after these choices
abbrev pub behind_choices : List Bool → Plan → Plan
behind_choices choices plan = (plan.0, choices ++ plan.1)

-- the answers of just so many conditions; those that are not told don't hold
abbrev pub fitted : ℕ → List Bool → List Bool
fitted zero answers = []
fitted (suc k) [] = false ∷ fitted k []
fitted (suc k) (b ∷ answers) = b ∷ fitted k answers

abbrev pub fit : ℕ → Plan → Plan
fit k plan = (fitted k plan.0, plan.1)

abbrev pub nothing : Plan
nothing = ([], [])

-- one more condition holds
abbrev pub holding : Plan → Plan
holding plan = (plan.0 ++ true ∷ [], plan.1)

module _ (image : Parts) (cert : CertParts) (costs : List ℕ) where
  -- the plans of the places that are less dear, by side and level
  module _ (next : ℕ → Side → ℕ → Plan) where
    -- the handlers of the weak ones among the first k of these aborts; the first has number i
    abbrev pub handled_plan : Side → ℕ → List ℕ → ℕ → Plan
    handled_plan side i [] k = nothing
    handled_plan side i (j ∷ stack) zero = nothing
    handled_plan side i (j ∷ stack) (suc k) =
        if is_second (if (abort_at image j).weak then num image cert costs side i ((abort_at image j).handler) else None)
        (handlers image cert costs side (i + 1) stack k) then
        handled_plan side (i + 1) stack k
        else holding (next ((abort_at image j).handler) side i)

    -- a rest: it stays, or a handler goes on
    abbrev pub resting_plan : List ℕ → ℕ → Side → Plan
    resting_plan stack k side =
        if is_second (stays side) (handlers image cert costs side 0 stack k) then fit k (handled_plan side 0 stack k) else fit k nothing

    -- children that all end; that come to rest in their dearest way; the same, with one that pauses
    abbrev pub ended_choices : ℕ → ℕ → List Bool
    ended_choices c zero = []
    ended_choices c (suc n) = (next (start_of image c) ToEnd 0).1 ++ ended_choices (c + 1) n

    abbrev pub most_choices : ℕ → ℕ → List Bool
    most_choices c zero = []
    most_choices c (suc n) =
        (if is_second (begins image cert costs ToPause c) (begins image cert costs ToEnd c) then (next (start_of image c) ToEnd 0).1
        else (next (start_of image c) ToPause 0).1) ++ most_choices (c + 1) n

    abbrev pub paused_choices : ℕ → ℕ → List Bool
    paused_choices c zero = []
    paused_choices c (suc n) =
        if is_second (plus (begins image cert costs ToPause c) (most (begins image cert costs) (c + 1) n))
        (plus (begins image cert costs ToEnd c) (most_paused (begins image cert costs) (c + 1) n)) then
        (next (start_of image c) ToEnd 0).1 ++ paused_choices (c + 1) n
        else (next (start_of image c) ToPause 0).1 ++ most_choices (c + 1) n

    -- after a fork
    abbrev pub grouping_plan : ℕ → ℕ → ℕ → List ℕ → ℕ → Side → Plan
    grouping_plan place lo n stack k side =
        if is_second (plus (most_paused (begins image cert costs) lo n) (resting image cert costs stack k side))
        (plus (all_ends (begins image cert costs) lo n) (num image cert costs side k (place + 1))) then
        behind_choices (ended_choices lo n) (next (place + 1) side k)
        else behind_choices (paused_choices lo n) (resting_plan stack k side)

module _ (image : Parts) (find : ℕ → Option Region) where
  -- the stretch of a thread that begins at a place with this word: one unit, a whole bounded loop, or a call
  abbrev pub stretch : Option Word → ℕ → Option Region
  stretch (Some (Does class)) place = Some (Words place 1 (behind image place))
  stretch (Some (Loop turns)) place = find place
  stretch (Some (Call goal)) place = find place
  stretch other place = None

module _ (image : Parts) (cert : CertParts) (costs : List ℕ) (find : ℕ → Option Region) where
  module _ (next : ℕ → Side → ℕ → Plan) where
    abbrev pub stretch_plan : Option Region → Side → ℕ → Plan
    stretch_plan None side k = nothing
    stretch_plan (Some r) side k = behind_choices (dearest_way image costs r) (next (to r) side k)

    abbrev pub straight_plan : Option Word → ℕ → Side → ℕ → Plan
    straight_plan (Some (Jump (Some goal))) place side k = next goal side k
    straight_plan (Some (Branch (Some goal))) place side k =
        if is_second (more (extra image costs place + cost_of costs class.Untaken) (num image cert costs side k (behind image place)))
        (more (extra image costs place + cost_of costs class.Taken) (num image cert costs side k goal)) then
        behind_choices (true ∷ []) (next goal side k)
        else behind_choices (false ∷ []) (next (behind image place) side k)
    straight_plan other place side k = stretch_plan (stretch image find other place) side k

    -- by the word of the place, inside these aborts
    abbrev pub word_plan : Option Instr → List ℕ → ℕ → Side → ℕ → Plan
    word_plan (Some (instr.Abrt j)) stack place side k = next (place + 1) side k
    word_plan (Some instr.Leave) stack place side k = fit k (next (place + 1) side (min k (length stack - 1)))
    word_plan (Some instr.Eot) stack place side k = resting_plan image cert costs next stack k side
    word_plan (Some (instr.Fork lo n)) stack place side k = grouping_plan image cert costs next place lo n stack k side
    word_plan (Some instr.End) stack place side k = fit k nothing
    word_plan other stack place side k = straight_plan (unit_word image place) place side k

  -- The plan of a place, where its number is at most so much.
  abbrev pub plan : ℕ → ℕ → Side → ℕ → Plan
  plan zero place side k = nothing
  plan (suc most) place side k = word_plan (plan most) (instr_at image place) (stack_of (line_at cert.lines place)) place side k

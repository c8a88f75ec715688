-- The slots with which a tick begins, one after another.
use Rattle.std.specs.Prelude.{ℕ, ◌+◌, ◌==◌, Bool, true, false, not, if◌then◌else◌, List, [], ◌∷◌, length, Option, Some, None}
use Rattle.mb_pfu.specs.Tree.{Waits}
use Rattle.pt_image.specs.declared.Point.{Point}
use Rattle.pt_image.specs.declared.Parts.{Parts}
use Rattle.tk_cert.specs.declared.cert.Line.{Line}
use Rattle.tk_cert.specs.declared.cert.CertParts.{CertParts}
use Rattle.tk_paths.specs.declared.view.Side.{Side}
use Rattle.tk_paths.specs.declared.view.Side.TheVariants.{ToPause, ToEnd}
use Rattle.tk_paths.specs.Sums.{plus, greater, or_zero, resumed_most, resumed_paused, greatest}
use Rattle.tk_paths.specs.Words.{instr_at}
use Rattle.tk_paths.specs.Kinds.{abort_at}
use Rattle.tk_paths.specs.Acceptance.{resumed, begins}
use Rattle.tk_paths.specs.declared.trees.Program.{Program}
use Rattle.tk_paths.specs.Greatest.{best, num, tested, ending_sum, pausing_sum}
use Rattle.tk_paths.specs.Choices.{is_second, Plan, holding, resting_plan}
use Rattle.tk_paths.specs.Dearest.{Begun, Begun_group, ended_slot, plan_or, cut_plan, pause_begun, ended_group, most_group, paused_group, entries, waiting, fork_begun, fork_begun_by, slot_begun, start_begun}
use Rattle.tk_paths.specs.Told.{told_by, joined_paused, joined_ended}
use Rattle.tk_plans.specs.declared.parts.Group.{Group}
use Rattle.tk_plans.specs.declared.parts.Group.TheVariants.{Ending, Resting, Pausing}
use Rattle.tk_analyse.specs.declared.walks.Beginning.{Beginning}
use Rattle.tk_analyse.specs.declared.walks.Beginning.TheVariants.{Starts, Resumes, HasEnded}
use Rattle.tk_plans.specs.Parts.{group_of, side_by}
use Rattle.tk_plans.specs.Plans.{plans}

-- of a slot's points the one that gives its number
abbrev pub best_point : (Point → Option ℕ) → ℕ → List Point → Option Point
best_point given s [] = None
best_point given s (p ∷ points) =
    if p.slot == s then (if is_second (given p) (best given s points) then best_point given s points else Some p) else best_point given s points

-- what begins at a point, if there is one
abbrev pub at_point : (Point → Begun) → Option Point → Begun
at_point begun None = ended_slot
at_point begun (Some p) = begun p

-- a side, where the number is there
abbrev pub side_where : Option ℕ → Side → Option Side
side_where None side = None
side_where (Some n) side = Some side

-- a child that is resumed to a side, or had ended
abbrev pub child_by : (Side → ℕ → Begun) → ℕ → Option Side → Begun
child_by child c None = ended_slot
child_by child c (Some side) = child side c

-- what is told where a strong abort cuts, if one does
abbrev pub cut_by : (ℕ → Side → ℕ → Plan) → Side → Option (ℕ × ℕ) → Option Plan
cut_by next side None = None
cut_by next side (Some x) = Some (holding (next x.0 side x.1))

module _ (image : Parts) (cert : CertParts) (costs : List ℕ) where
  -- the handler of the strong abort that is dearer than what is behind all conditions, and its level
  abbrev pub cut_in : Side → ℕ → List ℕ → Option ℕ → Option (ℕ × ℕ)
  cut_in side i [] rest = None
  cut_in side i (j ∷ stack) rest =
      if is_second (if (abort_at image j).weak then None else num image cert costs side i ((abort_at image j).handler))
      (tested image cert costs side (i + 1) stack rest) then
      cut_in side (i + 1) stack rest
      else Some ((abort_at image j).handler, i)

  -- a child of this group ends, behind which stand so many others; and the side to which it is resumed, if it is
  abbrev pub resumed_ends_first : Group → ℕ → ℕ → Bool
  resumed_ends_first Ending c n = true
  resumed_ends_first Resting c n = is_second (resumed image cert costs ToPause c) (resumed image cert costs ToEnd c)
  resumed_ends_first Pausing c n =
      is_second (plus (resumed image cert costs ToPause c) (Some (resumed_most (resumed image cert costs) (c + 1) n)))
      (plus (Some (or_zero (resumed image cert costs ToEnd c))) (resumed_paused (resumed image cert costs) (c + 1) n))

  abbrev pub resumed_side : Group → Bool → ℕ → Option Side
  resumed_side Ending ends c = side_where (resumed image cert costs ToEnd c) ToEnd
  resumed_side Resting ends c = side_where (greater (resumed image cert costs ToPause c) (resumed image cert costs ToEnd c)) (side_by ends)
  resumed_side Pausing true c = side_where (resumed image cert costs ToEnd c) ToEnd
  resumed_side Pausing false c = Some ToPause

  -- how a tick begins
  abbrev pub beginning : Beginning
  beginning =
      if is_second (begins image cert costs ToPause 0)
      (Some (greatest (begins image cert costs ToEnd 0 ∷ resumed image cert costs ToPause 0 ∷ resumed image cert costs ToEnd 0 ∷ []))) then
      (if is_second (begins image cert costs ToEnd 0) (Some (greatest (resumed image cert costs ToPause 0 ∷ resumed image cert costs ToEnd 0 ∷ []))) then
      (if is_second (resumed image cert costs ToPause 0) (Some (greatest (resumed image cert costs ToEnd 0 ∷ []))) then
      (if is_second (resumed image cert costs ToEnd 0) (Some 0) then HasEnded else Resumes ToEnd)
      else Resumes ToPause)
      else Starts ToEnd)
      else Starts ToPause

  module _ (next : ℕ → Side → ℕ → Plan) (child : Side → ℕ → Begun) where
    abbrev pub group_begun : Group → ℕ → ℕ → Begun_group
    group_begun Ending c n = ended_group image cert costs next child c n
    group_begun Resting c n = most_group image cert costs next child c n
    group_begun Pausing c n = paused_group image cert costs next child c n

-- the slots of a program, as a tick begins
module _ (image : Parts) (lines : List Line) (bounds : List (Option ℕ × Option ℕ)) (costs : List ℕ) (program : Program) (most : ℕ) where
  abbrev pub slots : ℕ → Side → ℕ → Begun
  slots = slot_begun image (told_by lines bounds) costs (plans image lines bounds costs program most)

  abbrev pub groups : ℕ → Group → ℕ → ℕ → Begun_group
  groups deep = group_begun image (told_by lines bounds) costs (plans image lines bounds costs program most) (slots deep)

  abbrev pub paused_slot : Side → Point → Begun
  paused_slot = pause_begun image (told_by lines bounds) costs (plans image lines bounds costs program most)

  abbrev pub waiting_slot : ℕ → Side → Point → Begun
  waiting_slot deep side p =
      fork_begun_by image (told_by lines bounds) costs (plans image lines bounds costs program most) (slots deep) (instr_at image p.at) side p

  abbrev pub child_slot : ℕ → ℕ → Option Side → Begun
  child_slot deep = child_by (slots deep)

  -- a slot behind its conditions, of which that of a strong abort may be the last
  abbrev pub tested_plan : Option (ℕ × ℕ) → ℕ → Side → ℕ → Plan
  tested_plan cut place side level =
      plan_or (cut_by (plans image lines bounds costs program most) side cut) (plans image lines bounds costs program most place side level)

  -- a slot behind its fork: its children all end, or it rests
  abbrev pub fork_own : Bool → Side → Point → Plan
  fork_own joined side p =
      if joined then plans image lines bounds costs program most (p.at + 1) side (length p.stack)
      else resting_plan image (told_by lines bounds) costs (plans image lines bounds costs program most) p.stack (length p.stack) side

  -- a slot that waits for so many children, which all end or don't
  abbrev pub waited_joined : ℕ → Side → Point → ℕ → ℕ → Bool → Begun
  waited_joined deep side p lo n joined =
      waiting image (told_by lines bounds) costs (plans image lines bounds costs program most) (slots deep) p lo (groups deep (group_of joined) lo n)
      (fork_own joined side p)

  -- the same, where a strong abort cuts its wait: what the children do is neither tested nor goes on
  abbrev pub waited_cut : ℕ → Side → Point → ℕ → ℕ → ℕ → ℕ → Begun
  waited_cut deep side p lo n handler level = (
    Waits (entries image p.stack) p.at lo
        (groups deep
        (group_of (not (is_second (ending_sum image (told_by lines bounds) costs lo n) (pausing_sum image (told_by lines bounds) costs lo n)))) lo n).0,
    holding (plans image lines bounds costs program most handler side level),
  )

  abbrev pub waiting_where : ℕ → Side → Point → ℕ → ℕ → Begun
  waiting_where deep side p lo n =
      fork_begun image (told_by lines bounds) costs (plans image lines bounds costs program most) (slots deep) side p lo n
      (cut_plan image (told_by lines bounds) costs (plans image lines bounds costs program most) side 0 p.stack
      (greater (joined_paused image (told_by lines bounds) costs side p lo n) (joined_ended image (told_by lines bounds) costs side p lo n)))

  -- slot 0, as the tick begins
  abbrev pub begun_by : Beginning → Begun
  begun_by (Starts side) = start_begun image (told_by lines bounds) costs (plans image lines bounds costs program most) side
  begun_by (Resumes side) = slots (length image.slots) side 0
  begun_by HasEnded = ended_slot

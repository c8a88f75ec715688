-- The walk of a program's certificate, and that it costs the bound: docs/bounds.md, "The dearest tick".
use Rattle.std.specs.Prelude.{ℕ, zero, suc, ◌+◌, ◌==◌, ◌≤◌, ◌++◌, if◌then◌else◌, List, [], ◌∷◌, flat_map, length, Option, Some, None}
use Rattle.mb_isa.specs.declared.Instr.{Instr}
use Rattle.mb_isa.specs.declared.Instr.TheVariants as instr
use Rattle.mb_isa.specs.Costs.{IsCosts}
use Rattle.mb_pfu.specs.declared.parts.Watch.{Watch}
use Rattle.mb_pfu.specs.Tree.{Running, Pausing, Finished, Tree, Group, Leaf, Waits, no_more, member}
use Rattle.mb_pfu.specs.Unit.{State, fresh}
use Rattle.pt_image.specs.declared.Point.{Point}
use Rattle.pt_image.specs.declared.Parts.{Parts}
use Rattle.pt_image.specs.Ranges.{IsImage}
use Rattle.tk_cert.specs.Form.{IsWalk}
use Rattle.tk_cert.specs.declared.cert.Walk.{Walk}
use Rattle.tk_cert.specs.declared.cert.CertParts.{CertParts}
use Rattle.tk_paths.specs.declared.view.Side.{Side}
use Rattle.tk_paths.specs.declared.view.Side.TheVariants.{ToPause, ToEnd}
use Rattle.tk_paths.specs.Sums.{plus, greater, or_zero, resumed_most, resumed_paused, greatest}
use Rattle.tk_paths.specs.Words.{instr_at}
use Rattle.tk_paths.specs.Kinds.{start_of, abort_at}
use Rattle.tk_paths.specs.Acceptance.{resumed, begins}
use Rattle.tk_paths.specs.Walks.{most_cycles, states_of, IsCostOf}
use Rattle.tk_paths.specs.Regions.{Region}
use Rattle.tk_paths.specs.Greatest.{best, num, resting, tested, paused, waited, ending_sum, pausing_sum}
use Rattle.tk_paths.specs.Programs.{Program, IsProgram, certificate}
use Rattle.tk_paths.specs.Choices.{is_second, section_pieces, piece_in, Plan, nothing, holding, bare_of, resting_plan, plan}

-- a slot, or slots of a group, with their children as a tick begins, and the answers and choices that are theirs
abbrev pub Begun : Type 0
Begun = Tree × Plan

abbrev pub Begun_group : Type 0
Begun_group = Group × Plan

abbrev pub ended_slot : Begun
ended_slot = (Leaf [] Finished, nothing)

abbrev pub empty_group : Begun_group
empty_group = (no_more, nothing)

abbrev pub one_more : Begun → Begun_group → Begun_group
one_more x g = (member x.0 g.0, (x.1.0 ++ g.1.0, x.1.1 ++ g.1.1))

-- a child that has a number is resumed; another had ended
abbrev pub resumed_child : Option ℕ → Begun → Begun
resumed_child None x = ended_slot
resumed_child (Some n) x = x

-- a plan, where another isn't told
abbrev pub plan_or : Option Plan → Plan → Plan
plan_or None plan = plan
plan_or (Some other) plan = other

-- of a slot's points the one that gives its number
abbrev pub best_begun : (Point → Option ℕ) → (Point → Begun) → ℕ → List Point → Begun
best_begun given begun s [] = ended_slot
best_begun given begun s (p ∷ points) =
    if p.slot == s then (if is_second (given p) (best given s points) then best_begun given begun s points else begun p)
    else best_begun given begun s points

module _ (image : Parts) where
  -- the entries of aborts that a slot was inside
  abbrev pub entries : List ℕ → List Watch
  entries [] = []
  entries (j ∷ stack) = fresh j ((abort_at image j).weak) ((abort_at image j).cond) ((abort_at image j).handler) ∷ entries stack

module _ (image : Parts) (cert : CertParts) (costs : List ℕ) where
  -- the plans of places
  module _ (next : ℕ → Side → ℕ → Plan) where
    -- where a strong abort's handler is dearer than what is behind all conditions: those before it are answered as the handler
    -- wants it, and it holds
    abbrev pub cut_plan : Side → ℕ → List ℕ → Option ℕ → Option Plan
    cut_plan side i [] rest = None
    cut_plan side i (j ∷ stack) rest =
        if is_second (if (abort_at image j).weak then None else num image cert costs side i ((abort_at image j).handler))
        (tested image cert costs side (i + 1) stack rest) then
        cut_plan side (i + 1) stack rest
        else Some (holding (next ((abort_at image j).handler) side i))

    abbrev pub pause_begun : Side → Point → Begun
    pause_begun side p = (
      Leaf (entries image p.stack) (Pausing p.at),
      plan_or (cut_plan side 0 p.stack (num image cert costs side (length p.stack) (p.at + 1))) (next (p.at + 1) side (length p.stack)),
    )

    -- later slots
    module _ (child : Side → ℕ → Begun) where
      abbrev pub num_to : Side → ℕ → Option ℕ
      num_to side c = resumed image cert costs side c

      abbrev pub ended_group : ℕ → ℕ → Begun_group
      ended_group c zero = empty_group
      ended_group c (suc n) = one_more (resumed_child (num_to ToEnd c) (child ToEnd c)) (ended_group (c + 1) n)

      abbrev pub most_group : ℕ → ℕ → Begun_group
      most_group c zero = empty_group
      most_group c (suc n) =
          one_more
          (resumed_child (greater (num_to ToPause c) (num_to ToEnd c))
          (if is_second (num_to ToPause c) (num_to ToEnd c) then child ToEnd c else child ToPause c))
          (most_group (c + 1) n)

      abbrev pub paused_group : ℕ → ℕ → Begun_group
      paused_group c zero = empty_group
      paused_group c (suc n) =
          if is_second (plus (num_to ToPause c) (Some (resumed_most num_to (c + 1) n)))
          (plus (Some (or_zero (num_to ToEnd c))) (resumed_paused num_to (c + 1) n)) then
          one_more (resumed_child (num_to ToEnd c) (child ToEnd c)) (paused_group (c + 1) n)
          else one_more (child ToPause c) (most_group (c + 1) n)

      abbrev pub waiting : Point → ℕ → Begun_group → Plan → Begun
      waiting p lo group plan = (Waits (entries image p.stack) p.at lo group.0, (plan.0 ++ group.1.0, group.1.1 ++ plan.1))

      -- a slot that waits for so many children
      abbrev pub fork_begun : Side → Point → ℕ → ℕ → Option Plan → Begun
      fork_begun side p lo n (Some cut) = (
        Waits (entries image p.stack) p.at lo
            (if is_second (ending_sum image cert costs lo n) (pausing_sum image cert costs lo n) then paused_group lo n else ended_group lo n).0,
        cut,
      )
      fork_begun side p lo n None =
          if is_second (plus (pausing_sum image cert costs lo n) (resting image cert costs p.stack (length p.stack) side))
          (plus (ending_sum image cert costs lo n) (num image cert costs side (length p.stack) (p.at + 1))) then
          waiting p lo (ended_group lo n) (next (p.at + 1) side (length p.stack))
          else waiting p lo (paused_group lo n) (resting_plan image cert costs next p.stack (length p.stack) side)

      abbrev pub fork_begun_by : Option Instr → Side → Point → Begun
      fork_begun_by (Some (instr.Fork lo n)) side p =
          fork_begun side p lo n
          (cut_plan side 0 p.stack
          (greater (plus (pausing_sum image cert costs lo n) (resting image cert costs p.stack (length p.stack) side))
          (plus (ending_sum image cert costs lo n) (num image cert costs side (length p.stack) (p.at + 1)))))
      fork_begun_by other side p = ended_slot

  module _ (next : ℕ → Side → ℕ → Plan) where
    -- a slot that is resumed, of which at most so many slots stand below one another
    abbrev pub slot_begun : ℕ → Side → ℕ → Begun
    slot_begun zero side s = ended_slot
    slot_begun (suc deep) side s =
        if is_second (best (paused image cert costs side) s image.pauses) (best (waited image cert costs side) s image.forks) then
        best_begun (waited image cert costs side) (λ p. fork_begun_by next (slot_begun deep) (instr_at image p.at) side p) s image.forks
        else best_begun (paused image cert costs side) (pause_begun next side) s image.pauses

    abbrev pub start_begun : Side → Begun
    start_begun side = (Leaf [] (Running (start_of image 0)), ([], (next (start_of image 0) side 0).1))

    -- the greatest of the numbers with which a tick may begin
    abbrev pub dearest_begun : Begun
    dearest_begun =
        if is_second (begins image cert costs ToPause 0)
        (Some (greatest (begins image cert costs ToEnd 0 ∷ resumed image cert costs ToPause 0 ∷ resumed image cert costs ToEnd 0 ∷ []))) then
        (if is_second (begins image cert costs ToEnd 0) (Some (greatest (resumed image cert costs ToPause 0 ∷ resumed image cert costs ToEnd 0 ∷ []))) then
        (if is_second (resumed image cert costs ToPause 0) (Some (greatest (resumed image cert costs ToEnd 0 ∷ []))) then
        (if is_second (resumed image cert costs ToEnd 0) (Some 0) then ended_slot else slot_begun (length image.slots) ToEnd 0)
        else slot_begun (length image.slots) ToPause 0)
        else start_begun ToEnd)
        else start_begun ToPause

    abbrev pub dearest_state : State
    dearest_state = record { slots = length image.slots; tree = dearest_begun.0; links = []; counters = [] }

    abbrev pub dearest_walk : Walk
    dearest_walk = record { states = states_of dearest_state; choices = dearest_begun.1.0 ++ dearest_begun.1.1 }

-- the bounded loops and the calls of a program's threads
abbrev pub find_piece : Program → ℕ → Option Region
find_piece program = piece_in (flat_map section_pieces program.sections)

-- The walk of a program in an image.
module _ (image : Parts) (costs : List ℕ) (program : Program) where
  abbrev pub told : CertParts
  told = certificate image costs program (record { states = []; choices = [] })

  abbrev pub walk_of : Walk
  walk_of = dearest_walk image (bare_of told) costs (plan image (bare_of told) costs (find_piece program) told.bound)

-- It costs the bound of the program's certificate.
abbrev pub WalksCostTheBound : Type 0
WalksCostTheBound =
    (image : Parts) (program : Program) (costs : List ℕ) → IsImage image → IsCosts costs → IsProgram image program →
    (certificate image costs program (walk_of image costs program)).bound ≤ most_cycles →
    IsCostOf image costs (walk_of image costs program) (certificate image costs program (walk_of image costs program)).bound

-- And it is within the ranges of a certificate's file.
abbrev pub WalksAreInForm : Type 0
WalksAreInForm =
    (image : Parts) (program : Program) (costs : List ℕ) → IsImage image → IsCosts costs → IsProgram image program →
    (certificate image costs program (walk_of image costs program)).bound ≤ most_cycles → IsWalk (walk_of image costs program)

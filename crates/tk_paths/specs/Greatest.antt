-- Certificates whose numbers are the greatest that is asked of them, each from those to which it leads: docs/bounds.md, "Greatest numbers".
use Rattle.std.specs.Prelude.{◌≡◌, ℕ, zero, suc, ◌+◌, ◌-◌, ◌≤◌, ◌==◌, ◌++◌, min, IsTrue, if◌then◌else◌, List, [], ◌∷◌, length, Option, Some, None}
use Rattle.mb_isa.specs.declared.Instr.{Instr}
use Rattle.mb_isa.specs.declared.Instr.TheVariants as instr
use Rattle.mb_isa.specs.declared.Class.TheVariants as class
use Rattle.mb_isa.specs.Costs.{cost_of}
use Rattle.pt_image.specs.declared.Point.{Point}
use Rattle.pt_image.specs.declared.Parts.{Parts}
use Rattle.mb_isa.specs.Tick.{base_of}
use Rattle.tk_cert.specs.declared.cert.CertParts.{CertParts}
use Rattle.tk_paths.specs.declared.view.Side.{Side}
use Rattle.tk_paths.specs.declared.view.Side.TheVariants.{ToPause, ToEnd}
use Rattle.tk_paths.specs.declared.view.View.TheVariants.{On}
use Rattle.tk_paths.specs.declared.word.Word.TheVariants.{Jump, Branch, Cend}
use Rattle.tk_paths.specs.Sums.{plus, greater, all_ends, most_paused, resumed_ends, resumed_paused, greatest}
use Rattle.tk_paths.specs.Words.{instr_at}
use Rattle.tk_paths.specs.Kinds.{line_at, is_cond, upper_at, abort_at}
use Rattle.tk_cert.specs.Shapes.{IsCert}
use Rattle.tk_cert.specs.Demands.{AllHold}
use Rattle.tk_paths.specs.Acceptance.{number, value, resumed, begins, more, pauses, forks, resuming, bounded}
use Rattle.tk_paths.specs.Shape.{shape}
use Rattle.tk_paths.specs.Bounded.{IsAcceptedFor}
use Rattle.tk_paths.specs.Walks.{most_cycles, IsWorst}
use Rattle.tk_paths.specs.Reached.{IsOpen}
use Rattle.tk_paths.specs.Regions.{Region, from, to, links_in, counters_in, behind, IsUnit, IsWord, AreUnits, IsLaid, extra, units_cost, through}

-- a pause stays where it is
abbrev pub stays : Side → Option ℕ
stays ToPause = Some 0
stays ToEnd = None

-- where some number is there, another
abbrev pub where_some : Option ℕ → Option ℕ → Option ℕ
where_some None other = None
where_some (Some n) other = other

-- the greatest of what the points of a slot give
abbrev pub best : (Point → Option ℕ) → ℕ → List Point → Option ℕ
best given s [] = None
best given s (p ∷ points) = if p.slot == s then greater (given p) (best given s points) else best given s points

module _ (image : Parts) (cert : CertParts) (costs : List ℕ) where
  abbrev pub num : Side → ℕ → ℕ → Option ℕ
  num side k place = number image cert costs (On side k) place

  -- of the handlers of the weak ones among the first k of these aborts; the first has number i
  abbrev pub handlers : Side → ℕ → List ℕ → ℕ → Option ℕ
  handlers side i [] k = None
  handlers side i (j ∷ stack) zero = None
  handlers side i (j ∷ stack) (suc k) =
      greater (if (abort_at image j).weak then num side i ((abort_at image j).handler) else None) (handlers side (i + 1) stack k)

  -- after a pause inside these aborts, of which so many are old
  abbrev pub resting : List ℕ → ℕ → Side → Option ℕ
  resting stack k side = greater (stays side) (handlers side 0 stack k)

  -- after a fork: its children come to rest, or all of them end
  abbrev pub grouping : ℕ → ℕ → ℕ → List ℕ → ℕ → Side → Option ℕ
  grouping place lo count stack k side =
      greater (plus (most_paused (begins image cert costs) lo count) (resting stack k side))
      (plus (all_ends (begins image cert costs) lo count) (num side k (place + 1)))

  abbrev pub ended : Side → Option ℕ
  ended ToPause = None
  ended ToEnd = Some (cost_of costs class.End)

  -- the two ways of a branch
  abbrev pub branched : ℕ → ℕ → Side → ℕ → Option ℕ
  branched place goal side k =
      greater (more (extra image costs place + cost_of costs class.Untaken) (num side k (behind image place)))
      (more (extra image costs place + cost_of costs class.Taken) (num side k goal))

  -- outside the innermost abort a level is at most the number of the other aborts
  abbrev pub left : ℕ → List ℕ → Side → ℕ → Option ℕ
  left place stack side k = more (cost_of costs class.Leave) (num side (min k (length stack - 1)) (place + 1))

  -- the numbers of a place are these
  abbrev pub Are : ℕ → List ℕ → (Side → ℕ → Option ℕ) → Type 0
  Are place stack given = (side : Side) (k : ℕ) → k ≤ length stack → num side k place ≡ given side k

  -- the numbers of an open place where the slot goes on in its turn
  pub data IsStraight (place s : ℕ) (stack : List ℕ) : Type 0 where
    -- straight code, a whole bounded loop, or a call
    passing : (r : Region) → IsLaid image r → from r ≡ place → 1 ≤ through image costs r → links_in r ≤ 16 → counters_in r ≤ 136 →
        IsOpen image cert costs (to r) s stack → Are place stack (λ side k. more (through image costs r) (num side k (to r))) →
        IsStraight place s stack
    jumping : (goal : ℕ) → IsUnit image place (Jump (Some goal)) → IsOpen image cert costs goal s stack →
        Are place stack (λ side k. more (extra image costs place + cost_of costs class.Jump) (num side k goal)) → IsStraight place s stack
    branching : (goal : ℕ) → IsUnit image place (Branch (Some goal)) → IsOpen image cert costs goal s stack →
        IsOpen image cert costs (behind image place) s stack → Are place stack (branched place goal) → IsStraight place s stack

  -- the numbers of an open place, by its word
  abbrev pub IsGreatestWith : Option Instr → ℕ → ℕ → List ℕ → Type 0
  IsGreatestWith (Some (instr.Abrt j)) place s stack = Are place stack (λ side k. more (cost_of costs class.Abrt) (num side k (place + 1)))
  IsGreatestWith (Some instr.Leave) place s stack = Are place stack (left place stack)
  IsGreatestWith (Some instr.Eot) place s stack = Are place stack (λ side k. more (cost_of costs class.Eot) (resting stack k side))
  IsGreatestWith (Some (instr.Fork lo count)) place s stack =
      Are place stack (λ side k. more (cost_of costs class.Fork) (grouping place lo count stack k side))
  IsGreatestWith (Some instr.End) place s stack = Are place stack (λ side k. ended side)
  IsGreatestWith other place s stack = IsStraight place s stack

  -- a condition of straight code, which `cend` closes
  pub record IsStraightCondition (place : ℕ) : Type 0 where
    pub count : ℕ
    pub close : ℕ
    pub units : AreUnits image place count close
    pub closes : IsWord image close Cend
    pub value_is : value image cert costs place ≡ units_cost image costs place count + cost_of costs class.Cend

  -- the conditions of these aborts, the first of which has number i: a strong one may lead to its handler, and then `rest`
  abbrev pub tested : Side → ℕ → List ℕ → Option ℕ → Option ℕ
  tested side i [] rest = rest
  tested side i (j ∷ stack) rest =
      more (value image cert costs ((abort_at image j).cond))
      (greater (if (abort_at image j).weak then None else num side i ((abort_at image j).handler)) (tested side (i + 1) stack rest))

  abbrev pub paused : Side → Point → Option ℕ
  paused side p = tested side 0 p.stack (num side (length p.stack) (p.at + 1))

  -- the children of a fork that are resumed
  abbrev pub ending_sum : ℕ → ℕ → Option ℕ
  ending_sum lo count = resumed_ends (resumed image cert costs) lo count

  abbrev pub pausing_sum : ℕ → ℕ → Option ℕ
  pausing_sum lo count = resumed_paused (resumed image cert costs) lo count

  abbrev pub joined : Side → Point → ℕ → ℕ → Option ℕ
  joined side p lo count =
      greater (plus (pausing_sum lo count) (resting p.stack (length p.stack) side))
      (plus (ending_sum lo count) (num side (length p.stack) (p.at + 1)))

  abbrev pub waited_by : Option Instr → Side → Point → Option ℕ
  waited_by (Some (instr.Fork lo count)) side p =
      where_some (greater (ending_sum lo count) (pausing_sum lo count)) (tested side 0 p.stack (joined side p lo count))
  waited_by other side p = None

  abbrev pub waited : Side → Point → Option ℕ
  waited side p = waited_by (instr_at image p.at) side p

  -- the numbers with which a tick may begin
  abbrev pub beginnings : List (Option ℕ)
  beginnings =
      begins image cert costs ToPause 0 ∷ begins image cert costs ToEnd 0 ∷ resumed image cert costs ToPause 0 ∷ resumed image cert costs ToEnd 0 ∷ []

  pub record IsGreatest : Type 0 where
    pub place : (place s : ℕ) (stack : List ℕ) → IsOpen image cert costs place s stack → IsGreatestWith (instr_at image place) place s stack
    pub condition : (place : ℕ) → IsTrue (is_cond (line_at cert.lines place)) → upper_at image cert.lines place ≡ None →
        IsStraightCondition place
    pub slot : (s : ℕ) (side : Side) →
        resumed image cert costs side s ≡ greater (best (paused side) s image.pauses) (best (waited side) s image.forks)
    pub bound : cert.bound ≡ base_of image costs + greatest beginnings

-- Where a certificate is accepted and its numbers are the greatest, its bound is the worst of the image.
abbrev pub GreatestIsWorst : Type 0
GreatestIsWorst =
    (image : Parts) (cert : CertParts) (costs : List ℕ) → IsAcceptedFor image cert costs → IsGreatest image cert costs →
    cert.bound ≤ most_cycles → IsWorst image costs cert.bound

-- It holds the conditions on what is resumed and on the bound.
abbrev pub BeginningsAreCovered : Type 0
BeginningsAreCovered =
    (image : Parts) (cert : CertParts) (costs : List ℕ) → IsGreatest image cert costs →
    AllHold (resuming image cert costs ++ bounded image cert costs)

-- Where its shape holds as well, it holds the conditions on pauses and forks.
abbrev pub RestsAreCovered : Type 0
RestsAreCovered =
    (image : Parts) (cert : CertParts) (costs : List ℕ) → IsCert cert → AllHold (shape image cert) → IsGreatest image cert costs →
    AllHold (pauses image cert costs ++ forks image cert costs)

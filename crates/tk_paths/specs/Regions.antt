-- Regions of code in which no slot rests, how they lie in an image, and what the dearest way through one costs: docs/bounds.md, "Regions".
use Rattle.std.specs.Prelude.{◌≡◌, ℕ, ℤ, zero, suc, ◌+◌, ◌*◌, ◌≤◌, ◌++◌, nat_le, max, Bool, true, false, if◌then◌else◌, List, [], ◌∷◌, length, Option, Some, None}
use Rattle.mb_isa.specs.declared.Class.{Class}
use Rattle.mb_isa.specs.declared.Class.TheVariants as class
use Rattle.mb_isa.specs.Costs.{cost_of}
use Rattle.mb_pfu.specs.Unit.{State}
use Rattle.pt_image.specs.declared.Parts.{Parts}
use Rattle.mb_isa.specs.Control.{Turn, goes}
use Rattle.tk_paths.specs.declared.word.Word.{Word}
use Rattle.tk_paths.specs.declared.word.Word.TheVariants.{Does, Jump, Branch, Call, Ret, Loop, Next, Drop}
use Rattle.tk_paths.specs.Words.{instr_at, read}
use Rattle.tk_paths.specs.Kinds.{imm_in}
use Rattle.tk_paths.specs.Passages.{Leads, Passage}

-- Straight code is made of units: a word, or an `imm` and the word behind it. Branches and jumps are such units too.
pub data Region : Type 0 where
  -- so many units
  Words : (from count to : ℕ) → Region
  Then : (first next : Region) → Region
  -- the units of a test, its branch, the side where it is not taken with a jump behind it, the side where it is
  Choice : (from count branch : ℕ) (untaken taken : Region) → Region
  -- a `loop` of one turn more than said, its `next`, the units of a test, its branch, the body, the jump back, and `drop`
  Counted : (from turns count branch : ℕ) (body : Region) (drop : ℕ) → Region
  -- the same with no test
  Repeated : (from turns : ℕ) (body : Region) (to : ℕ) → Region
  -- a call of a routine whose region is another
  Calling : (place : ℕ) (callee : Region) → Region

abbrev pub from : Region → ℕ
from (Words p n q) = p
from (Then x y) = from x
from (Choice p n at x y) = p
from (Counted p m n at body q) = p
from (Repeated p m body q) = p
from (Calling p callee) = p

abbrev pub to : Region → ℕ
to (Words p n q) = q
to (Then x y) = to y
to (Choice p n at x y) = to y
to (Counted p m n at body q) = q + 1
to (Repeated p m body q) = q
to (Calling p callee) = p + 1

-- how many links and counters are there at once inside it
abbrev pub links_in : Region → ℕ
links_in (Words p n q) = 0
links_in (Then x y) = max (links_in x) (links_in y)
links_in (Choice p n at x y) = max (links_in x) (links_in y)
links_in (Counted p m n at body q) = links_in body
links_in (Repeated p m body q) = links_in body
links_in (Calling p callee) = links_in callee + 1

abbrev pub counters_in : Region → ℕ
counters_in (Words p n q) = 0
counters_in (Then x y) = max (counters_in x) (counters_in y)
counters_in (Choice p n at x y) = max (counters_in x) (counters_in y)
counters_in (Counted p m n at body q) = counters_in body + 1
counters_in (Repeated p m body q) = counters_in body + 1
counters_in (Calling p callee) = counters_in callee

-- the place of the word that an upper half may stand before
abbrev pub behind_half : Option ℤ → ℕ → ℕ
behind_half None place = place
behind_half (Some upper) place = place + 1

-- so many times the same
abbrev pub times : ℕ → List Bool → List Bool
times zero choices = []
times (suc k) choices = choices ++ times k choices

module _ (image : Parts) where
  -- the upper half of the unit at a place, the place of its word, and the place behind it
  abbrev pub half : ℕ → Option ℤ
  half place = imm_in (instr_at image place)

  abbrev pub word_place : ℕ → ℕ
  word_place place = behind_half (half place) place

  abbrev pub behind : ℕ → ℕ
  behind place = word_place place + 1

  abbrev pub unit_word : ℕ → Option Word
  unit_word place = read image (word_place place) (half place)

  -- the unit at a place has this word; or the place itself has it
  abbrev pub IsUnit : ℕ → Word → Type 0
  IsUnit place word = unit_word place ≡ Some word

  abbrev pub IsWord : ℕ → Word → Type 0
  IsWord place word = read image place None ≡ Some word

  -- so many units that just go on stand from a place to another
  abbrev pub AreUnits : ℕ → ℕ → ℕ → Type 0
  AreUnits place zero end = place ≡ end
  AreUnits place (suc count) end = (class : Class) × IsUnit place (Does class) × AreUnits (behind place) count end

  -- a region's words lie in the image
  abbrev pub IsLaid : Region → Type 0
  IsLaid (Words p n q) = AreUnits p n q
  IsLaid (Then x y) = IsLaid x × IsLaid y × (to x ≡ from y)
  IsLaid (Choice p n at x y) =
      AreUnits p n at × IsUnit at (Branch (Some (from y))) × (behind at ≡ from x) × IsLaid x × IsUnit (to x) (Jump (Some (to y)))
      × (behind (to x) ≡ from y) × IsLaid y
  IsLaid (Counted p m n at body q) =
      IsUnit p (Loop (suc m)) × IsWord (behind p) (Next (q + 1)) × AreUnits (behind p + 1) n at × IsUnit at (Branch (Some q))
      × (behind at ≡ from body) × IsLaid body
      × IsUnit (to body) (Jump (Some (behind p))) × (behind (to body) ≡ q) × IsWord q Drop
  IsLaid (Repeated p m body q) =
      IsUnit p (Loop (suc m)) × IsWord (behind p) (Next q) × (behind p + 1 ≡ from body) × IsLaid body
      × IsUnit (to body) (Jump (Some (behind p))) × (behind (to body) ≡ q)
  IsLaid (Calling p callee) = IsWord p (Call (from callee)) × IsLaid callee × IsWord (to callee) Ret

  module _ (costs : List ℕ) where
    abbrev pub cost : Class → ℕ
    cost class = cost_of costs class

    -- what the upper half of a unit charges
    abbrev pub half_cost : Option ℤ → ℕ
    half_cost None = 0
    half_cost (Some upper) = cost class.Imm

    abbrev pub extra : ℕ → ℕ
    extra place = half_cost (half place)

    abbrev pub word_cost : Option Word → ℕ
    word_cost (Some (Does class)) = cost class
    word_cost other = 0

    abbrev pub units_cost : ℕ → ℕ → ℕ
    units_cost place zero = 0
    units_cost place (suc count) = (extra place + word_cost (unit_word place)) + units_cost (behind place) count

    -- the test of a bounded loop
    abbrev pub test_cost : ℕ → ℕ → ℕ → ℕ
    test_cost p n at = units_cost (behind p + 1) n + extra at

    -- one whole turn of a bounded loop whose body costs t: the loop's weight
    abbrev pub tested_turn : ℕ → ℕ → ℕ → Region → ℕ → ℕ
    tested_turn p n at body t = cost class.Next + ((test_cost p n at + cost class.Untaken) + (t + (extra (to body) + cost class.Jump)))

    abbrev pub plain_turn : Region → ℕ → ℕ
    plain_turn body t = cost class.Next + (t + (extra (to body) + cost class.Jump))

    -- the way out of a loop by its test
    abbrev pub leaving : ℕ → ℕ → ℕ → ℕ
    leaving p n at = cost class.Next + ((test_cost p n at + cost class.Taken) + cost class.Drop)

    -- the dearer of its ends: all turns are used up, or the test says so in the turn that would be the last
    abbrev pub tested_loop : ℕ → ℕ → ℕ → ℕ → Region → ℕ → ℕ
    tested_loop p m n at body t =
        max (suc m * tested_turn p n at body t + cost class.Next) (m * tested_turn p n at body t + leaving p n at)

    -- The dearest way through a region.
    abbrev pub through : Region → ℕ
    through (Words p n q) = units_cost p n
    through (Then x y) = through x + through y
    through (Choice p n at x y) =
        (units_cost p n + extra at)
        + max (cost class.Untaken + (through x + (extra (to x) + cost class.Jump))) (cost class.Taken + through y)
    through (Counted p m n at body q) =
        (extra p + cost class.Loop) + tested_loop p m n at body (through body)
    through (Repeated p m body q) = (extra p + cost class.Loop) + (suc m * plain_turn body (through body) + cost class.Next)
    through (Calling p callee) = cost class.Call + (through callee + cost class.Ret)

    -- Which way each of its branches goes then, in the order in which they come: a whole turn of a loop is not taken, and the
    -- way out by a test is taken.
    abbrev pub dearest_way : Region → List Bool
    dearest_way (Words p n q) = []
    dearest_way (Then x y) = dearest_way x ++ dearest_way y
    dearest_way (Choice p n at x y) =
        if nat_le (cost class.Untaken + (through x + (extra (to x) + cost class.Jump))) (cost class.Taken + through y) then
        true ∷ dearest_way y
        else false ∷ dearest_way x
    dearest_way (Counted p m n at body q) =
        if nat_le (suc m * tested_turn p n at body (through body) + cost class.Next)
        (m * tested_turn p n at body (through body) + leaving p n at) then
        times m (false ∷ dearest_way body) ++ true ∷ []
        else times (suc m) (false ∷ dearest_way body)
    dearest_way (Repeated p m body q) = times (suc m) (dearest_way body)
    dearest_way (Calling p callee) = dearest_way callee

    -- a slot's turn goes from a region's start to its end by these choices at this cost, wherever there is room for its links
    -- and counters
    pub record Crossing (r : Region) (choices : List Bool) (n : ℕ) : Type 0 where
      pub leads : (s : ℕ) (u : State) → length u.links + links_in r ≤ 16 → length u.counters + counters_in r ≤ 136 →
          Leads image costs (goes (Turn s) (from r) u) choices n (goes (Turn s) (to r) u)

-- A region that lies in an image is crossed at the cost of its dearest way.
abbrev pub RegionsAreCrossed : Type 0
RegionsAreCrossed =
    (image : Parts) (costs : List ℕ) (r : Region) → IsLaid image r → Crossing image costs r (dearest_way image costs r) (through image costs r)

-- So it is a passage, where it has a word and the machine has room for it.
abbrev pub RegionsArePassages : Type 0
RegionsArePassages =
    (image : Parts) (costs : List ℕ) (r : Region) → IsLaid image r → 1 ≤ through image costs r → links_in r ≤ 16 → counters_in r ≤ 136
    → Passage image costs (from r) (through image costs r) (to r)

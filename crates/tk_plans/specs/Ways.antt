-- The choices by which routines, and the bounded loops and calls of threads, are crossed.
use Rattle.std.specs.Prelude.{◌≡◌, ℕ, suc, ◌+◌, ◌*◌, ◌++◌, ◌==◌, nat_le, Bool, true, false, if◌then◌else◌, List, [], ◌∷◌, map, flat_map, Option, Some, None}
use Rattle.mb_isa.specs.declared.Class.TheVariants as class
use Rattle.pt_image.specs.declared.Parts.{Parts}
use Rattle.tk_paths.specs.declared.Section.{Section as KeptSection}
use Rattle.tk_paths.specs.Regions.{Region, to, extra, cost, through, tested_turn, leaving, times, dearest_way}
use Rattle.tk_paths.specs.Programs.{Program}
use Rattle.tk_paths.specs.Choices.{section_pieces}
use Rattle.tk_numbers.specs.Charges.{routines_in}
use Rattle.tk_plans.specs.declared.parts.Next.{Next}
use Rattle.tk_plans.specs.declared.parts.Next.TheVariants.{On, Nowhere}
use Rattle.tk_plans.specs.declared.pieces.Piece.{Piece}

-- the dearest way through each of the routines before
abbrev pub AreWays : Parts → List ℕ → List (List Bool) → List KeptSection → Type 0
AreWays image costs ways before = ways ≡ map (dearest_way image costs) (routines_in before)

module _ (image : Parts) (costs : List ℕ) where
  -- the sides of a choice behind its test, and whether the second is the dearer
  abbrev pub untaken_side : Region → ℕ
  untaken_side x = cost image costs class.Untaken + (through image costs x + (extra image costs (to x) + cost image costs class.Jump))

  abbrev pub taken_side : Region → ℕ
  taken_side y = cost image costs class.Taken + through image costs y

  abbrev pub side_taken : Region → Region → Bool
  side_taken x y = nat_le (untaken_side x) (taken_side y)

  -- a bounded loop is left by its test
  abbrev pub is_left : ℕ → ℕ → ℕ → ℕ → Region → Bool
  is_left p m n at body =
      nat_le (suc m * tested_turn image costs p n at body (through image costs body) + cost image costs class.Next)
      (m * tested_turn image costs p n at body (through image costs body) + leaving image costs p n at)

  -- a bounded loop or a call at its place
  abbrev pub crossing : ℕ × Region → Piece
  crossing x = record { place = x.0; to = to (x.1); way = dearest_way image costs (x.1) }

  abbrev pub ArePieces : List Piece → Program → Type 0
  ArePieces pieces program = pieces ≡ map crossing (flat_map section_pieces program.sections)

-- the turns of a bounded loop, left by its test or not
abbrev pub turns_by : Bool → ℕ → List Bool → List Bool
turns_by true m turn = times m turn ++ true ∷ []
turns_by false m turn = times (suc m) turn

-- the one at a place
abbrev pub piece_among : List Piece → ℕ → Option Piece
piece_among [] place = None
piece_among (x ∷ xs) place = if x.place == place then Some x else piece_among xs place

abbrev pub crossed_by : Option Piece → Next
crossed_by None = Nowhere
crossed_by (Some x) = On x.to

abbrev pub way_by : Option Piece → List Bool
way_by None = []
way_by (Some x) = x.way

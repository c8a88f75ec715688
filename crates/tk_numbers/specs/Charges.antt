-- What the routines of the sections so far cost, and what regions cost by what those cost that they are made of.
use Rattle.std.specs.Prelude.{◌≡◌, ℕ, suc, ◌+◌, ◌*◌, ◌++◌, max, List, [], ◌∷◌, map}
use Rattle.mb_isa.specs.declared.Class.TheVariants as class
use Rattle.pt_image.specs.declared.Parts.{Parts}
use Rattle.tk_paths.specs.declared.Section.{Section}
use Rattle.tk_paths.specs.declared.Section.TheVariants.{OfThread, OfRoutine, OfCondition, Unused}
use Rattle.tk_paths.specs.Regions.{Region, cost, extra, units_cost, tested_loop, plain_turn, through}
use Rattle.tk_paths.specs.Trees.{read_region}

-- the routines that are known behind these sections, where some are before
abbrev pub routines_behind : List Region → List Section → List Region
routines_behind routines [] = routines
routines_behind routines (OfThread s code ∷ rest) = routines_behind routines rest
routines_behind routines (OfRoutine r ∷ rest) = routines_behind (routines ++ read_region routines r ∷ []) rest
routines_behind routines (OfCondition p n q ∷ rest) = routines_behind routines rest
routines_behind routines (Unused n ∷ rest) = routines_behind routines rest

-- the routines of the sections before some place, in their order
unfoldable pub routines_in : List Section → List Region
routines_in before = routines_behind [] before

-- the cost of the dearest way through each of them
abbrev pub IsValued : Parts → List ℕ → List ℕ → List Section → Type 0
IsValued image costs values before = values ≡ map (through image costs) (routines_in before)

module _ (image : Parts) (costs : List ℕ) where
  -- a test of so many units, up to its branch
  abbrev pub testing_cost : (place count branch : ℕ) → ℕ
  testing_cost p n at = units_cost image costs p n + extra image costs at

  -- a choice whose sides cost so much, the first of which ends at a place; loops whose body does; a call of a routine that does
  abbrev pub choice_cost : (place count branch jump untaken taken : ℕ) → ℕ
  choice_cost p n at j x y =
      testing_cost p n at
      + max (cost image costs class.Untaken + (x + (extra image costs j + cost image costs class.Jump))) (cost image costs class.Taken + y)

  abbrev pub counted_cost : (place turns count branch : ℕ) → Region → ℕ → ℕ
  counted_cost p m n at body t = (extra image costs p + cost image costs class.Loop) + tested_loop image costs p m n at body t

  abbrev pub repeated_cost : (place turns : ℕ) → Region → ℕ → ℕ
  repeated_cost p m body t =
      (extra image costs p + cost image costs class.Loop) + (suc m * plain_turn image costs body t + cost image costs class.Next)

  abbrev pub calling_cost : ℕ → ℕ
  calling_cost t = cost image costs class.Call + (t + cost image costs class.Ret)

  -- the `loop` of so many turns of this weight
  abbrev pub opening_cost : (place turns weight : ℕ) → ℕ
  opening_cost p m w = extra image costs p + (cost image costs class.Loop + suc m * w)

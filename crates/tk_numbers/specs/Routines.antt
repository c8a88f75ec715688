-- What is known of the routines of the sections before one, and where their sums are small.
use Rattle.std.specs.Prelude.{◌≡◌, ℕ, ◌+◌, ◌<◌, ◌≤◌, ◌^◌, ◌++◌, Bool, true, false, List, [], ◌∷◌, map}
use Rattle.pt_image.specs.declared.Parts.{Parts}
use Rattle.tk_paths.specs.declared.Section.{Section as KeptSection}
use Rattle.tk_paths.specs.declared.Section.TheVariants as kept
use Rattle.tk_paths.specs.Walks.{most_cycles}
use Rattle.tk_paths.specs.Regions.{Region, links_in, through}
use Rattle.tk_paths.specs.Programs.{Section, OfThread, OfRoutine, OfCondition, Unused}
use Rattle.tk_paths.specs.Trees.{read_region, read_code}
use Rattle.tk_numbers.specs.Charges.{routines_in}

-- the links inside each of the routines before
abbrev pub AreLinks : List ℕ → List KeptSection → Type 0
AreLinks links before = links ≡ map links_in (routines_in before)

-- the section of the definition that one in memory is, where so many routines are before, and the routines behind it
abbrev pub read_section : List Region → KeptSection → Section
read_section routines (kept.OfThread s code) = OfThread s (read_code routines code)
read_section routines (kept.OfRoutine r) = OfRoutine (read_region routines r)
read_section routines (kept.OfCondition p n q) = OfCondition p n q
read_section routines (kept.Unused n) = Unused n

abbrev pub routines_after : List Region → KeptSection → List Region
routines_after routines (kept.OfThread s code) = routines
routines_after routines (kept.OfRoutine r) = routines ++ read_region routines r ∷ []
routines_after routines (kept.OfCondition p n q) = routines
routines_after routines (kept.Unused n) = routines

abbrev pub is_routine : KeptSection → Bool
is_routine (kept.OfThread s code) = false
is_routine (kept.OfRoutine r) = true
is_routine (kept.OfCondition p n q) = false
is_routine (kept.Unused n) = false

-- a routine
abbrev pub IsSmallRoutine : Parts → List ℕ → Section → Type 0
IsSmallRoutine image costs (OfRoutine r) = through image costs r ≤ most_cycles
IsSmallRoutine image costs other = Unit {0}

-- not too many calls are inside a routine
abbrev pub IsShallow : Section → Type 0
IsShallow (OfRoutine r) = links_in r + 1 < 2 ^ 32
IsShallow other = Unit {0}

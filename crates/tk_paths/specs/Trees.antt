-- The regions, the codes and the program of the definition that those in memory are.
use Rattle.std.specs.Prelude.{ℕ, suc, ◌==◌, ◌++◌, if◌then◌else◌, List, [], ◌∷◌, map, slice_index_or}
use Rattle.std.specs.List.{range_with_len}
use Rattle.tk_paths.specs.declared.trees.Region.{Region as KeptRegion, fold-Region}
use Rattle.tk_paths.specs.declared.trees.Region.TheOpen as kept_region
use Rattle.tk_paths.specs.declared.trees.Region.TheOpen.{Region-F}
use Rattle.tk_paths.specs.declared.trees.Code.{Code as KeptCode, fold-Code}
use Rattle.tk_paths.specs.declared.trees.Code.TheOpen as kept_code
use Rattle.tk_paths.specs.declared.trees.Code.TheOpen.{Code-F}
use Rattle.tk_paths.specs.declared.trees.Section.{Section as KeptSection}
use Rattle.tk_paths.specs.declared.trees.Section.TheVariants as kept_section
use Rattle.tk_paths.specs.declared.trees.Program.{Program as KeptProgram}
use Rattle.tk_paths.specs.Regions.{Region, Words, Then, Choice, Counted, Repeated, Calling}
use Rattle.tk_paths.specs.Codes.{Code, Passed, Sequence, Either, Turns, Forever, Resting, Forking, Guarded}
use Rattle.tk_paths.specs.Programs.{Section, OfThread, OfRoutine, OfCondition, Unused, Program}

-- no words at a place
abbrev pub nowhere : ℕ → Region
nowhere p = Words p 0 p

-- regions one behind the other, and the place behind the last
abbrev pub regions_from : ℕ → List Region → Region
regions_from q [] = nowhere q
regions_from q (r ∷ rest) = Then r (regions_from q rest)

abbrev pub codes_from : ℕ → List Code → Code
codes_from q [] = Passed (nowhere q)
codes_from q (c ∷ rest) = Sequence c (codes_from q rest)

-- the regions of routines by their numbers
module _ (routines : List Region) where
  -- the one that a word at a place calls; no words where there is none of that number
  abbrev pub routine_at : ℕ → ℕ → Region
  routine_at p f = slice_index_or routines f (nowhere p)

  abbrev pub region_step : Region-F Region → Region
  region_step (kept_region.Words p n q) = Words p n q
  region_step (kept_region.Sequence parts q) = regions_from q parts
  region_step (kept_region.Choice p n at x y) = Choice p n at x y
  region_step (kept_region.Counted p m n at body q) = Counted p m n at body q
  region_step (kept_region.Repeated p m body q) = Repeated p m body q
  region_step (kept_region.Calling p f) = Calling p (routine_at p f)

  -- the region that one in memory is
  abbrev pub read_region : KeptRegion → Region
  read_region = fold-Region Region region_step

  abbrev pub code_step : Code-F Code → Code
  code_step (kept_code.Passed r) = Passed (read_region r)
  code_step (kept_code.Sequence parts q) = codes_from q parts
  code_step (kept_code.Either p n at x y) = Either p n at x y
  code_step (kept_code.Turns p n at body q) = Turns p n at body q
  code_step (kept_code.Forever body q) = Forever body q
  code_step (kept_code.Resting p) = Resting p
  code_step (kept_code.Forking p lo n) = Forking p lo n
  code_step (kept_code.Guarded p j body) = Guarded p j body

  -- the code that one in memory is
  abbrev pub read_code : KeptCode → Code
  read_code = fold-Code Code code_step

-- the sections that these in memory are, where so many routines came before
abbrev pub read_sections : List Region → List KeptSection → List Section
read_sections routines [] = []
read_sections routines (kept_section.OfThread s code ∷ rest) = OfThread s (read_code routines code) ∷ read_sections routines rest
read_sections routines (kept_section.OfRoutine r ∷ rest) =
    OfRoutine (read_region routines r) ∷ read_sections (routines ++ read_region routines r ∷ []) rest
read_sections routines (kept_section.OfCondition p n q ∷ rest) = OfCondition p n q ∷ read_sections routines rest
read_sections routines (kept_section.Unused n ∷ rest) = Unused n ∷ read_sections routines rest

-- how many threads there are
abbrev pub threads_in : List Section → ℕ
threads_in [] = 0
threads_in (OfThread s code ∷ rest) = suc (threads_in rest)
threads_in (OfRoutine r ∷ rest) = threads_in rest
threads_in (OfCondition p n q ∷ rest) = threads_in rest
threads_in (Unused n ∷ rest) = threads_in rest

-- the code of a slot: the first section's that is its own
abbrev pub code_of : ℕ → List Section → Code
code_of s [] = Passed (nowhere 0)
code_of s (OfThread t code ∷ rest) = if t == s then code else code_of s rest
code_of s (OfRoutine r ∷ rest) = code_of s rest
code_of s (OfCondition p n q ∷ rest) = code_of s rest
code_of s (Unused n ∷ rest) = code_of s rest

abbrev pub codes_of : List Section → List Code
codes_of sections = map (λ s. code_of s sections) (range_with_len 0 (threads_in sections))

abbrev pub program_of_sections : List Section → Program
program_of_sections sections = record { threads = codes_of sections; sections = sections }

-- the program that one in memory is
abbrev pub read_program : KeptProgram → Program
read_program program = program_of_sections (read_sections [] program.sections.items)

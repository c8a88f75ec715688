-- The lines and weights of one section after another, and what is known of the routines before it.
use Rattle.std.specs.Prelude.{◌≡◌, ℕ, ◌++◌, ◌==◌, Bool, true, false, List, [], ◌∷◌, replicate, Option}
use Rattle.mb_isa.specs.declared.Class.TheVariants as class
use Rattle.pt_image.specs.declared.Parts.{Parts}
use Rattle.tk_cert.specs.declared.cert.Line.{Line}
use Rattle.tk_cert.specs.declared.cert.Line.TheVariants.{Bare}
use Rattle.tk_paths.specs.declared.view.Side.{Side}
use Rattle.tk_paths.specs.declared.Section.{Section as KeptSection}
use Rattle.tk_paths.specs.declared.Section.TheVariants as kept
use Rattle.tk_paths.specs.Regions.{Region}
use Rattle.tk_paths.specs.Numbers.{thread, routine, condition, line, just, units_lines, region_lines, region_weights, code_lines, code_weights, cost}
use Rattle.tk_paths.specs.Programs.{Section, OfThread, OfRoutine, OfCondition, Unused, height, ended}
use Rattle.tk_paths.specs.Codes.{Code, Passed}
use Rattle.tk_paths.specs.Trees.{nowhere, read_code}

-- a section is the code of a slot, and that code; where it is none, no words
abbrev pub is_own : ℕ → KeptSection → Bool
is_own slot (kept.OfThread s code) = s == slot
is_own slot (kept.OfRoutine r) = false
is_own slot (kept.OfCondition p n q) = false
is_own slot (kept.Unused n) = false

abbrev pub own_code : List Region → KeptSection → Code
own_code routines (kept.OfThread s code) = read_code routines code
own_code routines (kept.OfRoutine r) = Passed (nowhere 0)
own_code routines (kept.OfCondition p n q) = Passed (nowhere 0)
own_code routines (kept.Unused n) = Passed (nowhere 0)

abbrev pub is_thread : KeptSection → Bool
is_thread (kept.OfThread s code) = true
is_thread (kept.OfRoutine r) = false
is_thread (kept.OfCondition p n q) = false
is_thread (kept.Unused n) = false

module _ (image : Parts) (costs : List ℕ) where
  -- the lines of a thread of a slot, where these are the numbers with which slots start; of a routine; of a condition
  abbrev pub thread_lines : (Side → ℕ → Option ℕ) → ℕ → Code → List Line
  thread_lines starts s code =
      code_lines image costs starts s [] code (ended image costs) ++ line (thread s [] []) (ended image costs) ∷ []

  abbrev pub routine_lines : Region → List Line
  routine_lines r =
      region_lines image costs (routine (height r) []) r (just (cost image costs class.Ret))
      ++ line (routine (height r) []) (just (cost image costs class.Ret)) ∷ []

  abbrev pub condition_lines : ℕ → ℕ → List Line
  condition_lines p n =
      units_lines image costs condition p n (just (cost image costs class.Cend))
      ++ line condition (just (cost image costs class.Cend)) ∷ []

  abbrev pub lines_of : (Side → ℕ → Option ℕ) → Section → List Line
  lines_of starts (OfThread s code) = thread_lines starts s code
  lines_of starts (OfRoutine r) = routine_lines r
  lines_of starts (OfCondition p n q) = condition_lines p n
  lines_of starts (Unused n) = replicate n Bare

  abbrev pub weights_of : Section → List (ℕ × ℕ)
  weights_of (OfThread s code) = code_weights image costs code
  weights_of (OfRoutine r) = region_weights image costs r
  weights_of (OfCondition p n q) = []
  weights_of (Unused n) = []

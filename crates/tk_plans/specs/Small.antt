-- Where the ways of a program's codes are small: through each region in which no slot rests.
use Rattle.std.specs.Prelude.{ℕ, ◌≤◌, List}
use Rattle.pt_image.specs.declared.Parts.{Parts}
use Rattle.tk_paths.specs.Walks.{most_cycles}
use Rattle.tk_paths.specs.Regions.{through}
use Rattle.tk_paths.specs.Codes.{Code, Passed, Sequence, Either, Turns, Forever, Resting, Forking, Guarded}
use Rattle.tk_paths.specs.Programs.{Section, OfThread, OfRoutine, OfCondition, Unused}

abbrev pub HasSmallWays : Parts → List ℕ → Code → Type 0
HasSmallWays image costs (Passed r) = through image costs r ≤ most_cycles
HasSmallWays image costs (Sequence x y) = HasSmallWays image costs x × HasSmallWays image costs y
HasSmallWays image costs (Either p n at x y) = HasSmallWays image costs x × HasSmallWays image costs y
HasSmallWays image costs (Turns p n at body q) = HasSmallWays image costs body
HasSmallWays image costs (Forever body q) = HasSmallWays image costs body
HasSmallWays image costs (Resting p) = Unit {0}
HasSmallWays image costs (Forking p lo n) = Unit {0}
HasSmallWays image costs (Guarded p j body) = HasSmallWays image costs body

-- those of a section
abbrev pub HasSmallWaysIn : Parts → List ℕ → Section → Type 0
HasSmallWaysIn image costs (OfThread s code) = HasSmallWays image costs code
HasSmallWaysIn image costs (OfRoutine r) = through image costs r ≤ most_cycles
HasSmallWaysIn image costs (OfCondition p n q) = Unit {0}
HasSmallWaysIn image costs (Unused n) = Unit {0}

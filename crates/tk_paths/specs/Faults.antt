-- Where the analyser fails for want of memory alone.
use Rattle.std.specs.Prelude.{◌≡◌, ℕ, ◌≤◌, Option, Some, None, Result, Ok, Err}
use Rattle.tk_paths.specs.declared.view.View.{View}
use Rattle.tk_paths.specs.Walks.{most_cycles}
use Rattle.tk_paths.specs.Numbers.{Numbers, after}
use Rattle.tk_paths.specs.declared.fault.Fault.{Fault}
use Rattle.tk_paths.specs.declared.fault.Fault.TheVariants.{Memory}

-- it is done, or there was no memory
abbrev pub OnlyMemory : {A : Type 0} → Result A Fault → Type 0
OnlyMemory (Ok a) = Unit {0}
OnlyMemory (Err fault) = fault ≡ Memory

-- a number that is there is one that a tick may take
abbrev pub IsSmall : Option ℕ → Type 0
IsSmall None = Unit {0}
IsSmall (Some n) = n ≤ most_cycles

-- so are all numbers of a place, at all levels
abbrev pub AllSmall : Numbers → Type 0
AllSmall V = (view : View) → IsSmall (V view)

-- so many cycles are, alone and before what comes behind
pub record HasRoom (n : ℕ) (V : Numbers) : Type 0 where
  pub cycles : n ≤ most_cycles
  pub before : AllSmall (after n V)

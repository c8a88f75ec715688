-- The kind of place of the definition that one in memory is.
use Rattle.tk_paths.specs.Numbers.{Kind, thread, routine, condition}
use Rattle.tk_paths.specs.declared.kinds.Kind.{Kind as Kept}
use Rattle.tk_paths.specs.declared.kinds.Kind.TheVariants.{Thread, Routine, Condition}

abbrev pub kind_of : Kept → Kind
kind_of (Thread slot stack loops) = thread slot stack loops
kind_of (Routine height loops) = routine height loops
kind_of Condition = condition

-- No number of a line is more than a tick may take.
use Rattle.std.specs.Prelude.{List}
use Rattle.std.specs.List.{AllByRecursion}
use Rattle.tk_cert.specs.declared.cert.Line.{Line}
use Rattle.tk_paths.specs.Walks.{most_cycles}
use Rattle.tk_paths.specs.Counts.{Within}

abbrev pub AreLow : List Line → Type 0
AreLow lines = AllByRecursion (Within most_cycles) lines

use Rattle.std.proofs.Common.{◌≡◌, ◌++◌, map, drop}
use Rattle.pc_grammar.specs.declared.programs.CellKind.TheVariants.{Local}
use Rattle.pc_grammar.specs.Places.{names_of}
use Rattle.pc_grammar.specs.Typing.{cell_of}
use Rattle.pc_names.proofs.cells.add_locals.Given as goal

abbrev pub invariant-loop-name : goal.invariant-loop-name
invariant-loop-name l = l.cells.items ++ map (cell_of Local) (names_of (drop l.name-index l.locals)) ≡ l.initial.cells.items ++ map (cell_of Local) (names_of l.locals)

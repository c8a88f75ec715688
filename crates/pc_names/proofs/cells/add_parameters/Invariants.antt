use Rattle.std.proofs.Common.{◌≡◌, ◌++◌, map, drop}
use Rattle.pc_grammar.specs.declared.programs.CellKind.TheVariants.{Parameter}
use Rattle.pc_grammar.specs.Typing.{cell_of}
use Rattle.pc_names.proofs.cells.add_parameters.Given as goal

abbrev pub invariant-loop-name : goal.invariant-loop-name
invariant-loop-name l = l.cells.items ++ map (cell_of Parameter) (drop l.name-index l.parameters) ≡ l.initial.cells.items ++ map (cell_of Parameter) l.parameters

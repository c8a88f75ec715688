use Rattle.std.proofs.Common.{◌≡◌, ◌++◌, drop}
use Rattle.pc_grammar.specs.Typing.{cells_of}
use Rattle.pc_names.proofs.cells.cells.Given as goal

abbrev pub invariant-loop-item : goal.invariant-loop-item
invariant-loop-item l = l.cells.items ++ cells_of (drop l.item-index l.items) ≡ cells_of l.items

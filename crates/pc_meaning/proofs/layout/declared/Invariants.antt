use Rattle.std.proofs.Common.{◌≡◌, ◌++◌, drop}
use Rattle.pc_meaning.specs.Programs.{declared_of}
use Rattle.pc_meaning.proofs.layout.declared.Given as goal

abbrev pub invariant-loop-cell : goal.invariant-loop-cell
invariant-loop-cell l = l.words.items ++ declared_of (drop l.cell-index l.cells) ≡ declared_of l.cells

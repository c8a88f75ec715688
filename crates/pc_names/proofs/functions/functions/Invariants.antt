use Rattle.std.proofs.Common.{◌≡◌, ◌++◌, [], take, drop}
use Rattle.pc_grammar.specs.Typing.{typed_from}
use Rattle.pc_names.proofs.functions.functions.Given as goal

abbrev pub invariant-loop-place : goal.invariant-loop-place
invariant-loop-place l = record {
  functions : l.functions.items ++ typed_from l.items (take l.place l.items) (drop l.place l.items) ≡ typed_from l.items [] l.items;
  known : l.known ≡ take l.place l.items;
}

use Rattle.std.proofs.Common.{◌≡◌, drop}
use Rattle.std.specs.Prelude.{find}
use Rattle.pc_grammar.specs.Breaking.{is_named_main}
use Rattle.pc_names.proofs.finding.main_place.Given as goal

abbrev pub invariant-loop-item : goal.invariant-loop-item
invariant-loop-item l = find is_named_main (drop l.item-index l.items) ≡ find is_named_main l.items

use Rattle.std.proofs.Common.{◌≡◌, drop}
use Rattle.std.specs.List.{list_any}
use Rattle.pc_grammar.specs.Breaking.{is_main_item}
use Rattle.pc_names.proofs.finding.has_main.Given as goal

abbrev pub invariant-loop-item : goal.invariant-loop-item
invariant-loop-item l = list_any is_main_item (drop l.item-index l.items) ≡ list_any is_main_item l.items

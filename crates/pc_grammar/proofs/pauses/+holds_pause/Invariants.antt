use Rattle.std.proofs.Common.{◌≡◌, drop}
use Rattle.std.specs.List.{list_any}
use Rattle.pc_grammar.specs.Uses.{holds_pause}
use Rattle.pc_grammar.proofs.pauses.+holds_pause.Given as goal

abbrev pub invariant-hold_pauses-loop-s : goal.invariant-hold_pauses-loop-s
invariant-hold_pauses-loop-s over l = list_any holds_pause (drop l.s-index l.all) ≡ list_any holds_pause l.all

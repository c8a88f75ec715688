use Rattle.std.proofs.Common.{◌≡◌, ◌||◌, drop}
use Rattle.pc_grammar.specs.declared.expressions.Word.{Word}
use Rattle.pc_grammar.specs.Places.{is_among}
use Rattle.pc_names.specs.Started.{started_items}
use Rattle.pc_names.proofs.threads.started_names.Given as goal

abbrev pub invariant-loop-site : goal.invariant-loop-site
invariant-loop-site l = (w : Word) → (is_among w l.names || is_among w (started_items (drop l.site-index l.sites))) ≡ is_among w (started_items l.sites)

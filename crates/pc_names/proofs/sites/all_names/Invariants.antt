use Rattle.std.proofs.Common.{◌≡◌, ◌||◌, drop}
use Rattle.pc_grammar.specs.declared.expressions.Word.{Word}
use Rattle.pc_grammar.specs.Places.{is_among}
use Rattle.pc_names.proofs.sites.all_names.Given as goal

abbrev pub invariant-loop-word : goal.invariant-loop-word
invariant-loop-word l = (w : Word) → (is_among w l.names || is_among w (drop l.word-index l.words)) ≡ is_among w l.words

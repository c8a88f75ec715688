use Rattle.std.proofs.Common.{◌≡◌, ◌++◌, map, drop}
use Rattle.pc_grammar.specs.Places.{word_of}
use Rattle.pc_names.proofs.faults.item_words.Given as goal

abbrev pub invariant-loop-item : goal.invariant-loop-item
invariant-loop-item l = map (λ w. w.now) l.words.items ++ map word_of (drop l.item-index l.items) ≡ map word_of l.items

use Rattle.std.proofs.Common.{◌≡◌, ◌++◌, ◌-◌, replicate}
use Rattle.pc_meaning.proofs.layout.push_words.Given as goal

abbrev pub invariant-loop-turn : goal.invariant-loop-turn
invariant-loop-turn l = l.words.items ++ replicate (l.count - l._turn) l.word ≡ l.initial.words.items ++ replicate l.count l.word

use Rattle.std.proofs.Common.{◌≡◌, ◌++◌, map, drop}
use Rattle.pc_grammar.specs.Places.{names_of}
use Rattle.pc_names.proofs.faults.declared_words.Given as goal

abbrev pub invariant-loop-word : goal.invariant-loop-word
invariant-loop-word l = map (λ w. w.now) l.words.items ++ drop l.word-index l.parameters ≡ l.parameters

abbrev pub invariant-loop-word-2 : goal.invariant-loop-word-2
invariant-loop-word-2 l = map (λ w. w.now) l.words.items ++ names_of (drop l.word-index l.locals) ≡ l.parameters ++ names_of l.locals

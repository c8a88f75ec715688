use Rattle.std.proofs.Common.{◌≡◌, ◌+◌, ◌||◌, ◌∷◌, List, drop, subst}
use Rattle.pc_grammar.specs.declared.expressions.Word.{Word}
use Rattle.pc_grammar.specs.Places.{is_among}
use Rattle.pc_grammar.proofs.Lists.{next_at}
use Rattle.pc_names.proofs.Sets.{among_next}
use Rattle.pc_names.proofs.sites.all_names.Goals as goal

pub loop-word-preserved : goal.loop-word-preserved
loop-word-preserved c =
    let words = c.args.words.now in
    let i = c.loop-word.word-index in
    let word = c.word-item.result in
    let names = c.loop-word.names in
    let P : List Word → Type 0 = λ rest. (v : Word) → (is_among v names || is_among v rest) ≡ is_among v words in
    let is : drop i words ≡ word ∷ drop (i + 1) words = next_at words i word c.loop-word-test.true c.word-item.is in
    among_next names c.insert.new.self word (drop (i + 1) words) words c.in_ok-insert.ensures.names (subst P is c.loop-word.invariant)

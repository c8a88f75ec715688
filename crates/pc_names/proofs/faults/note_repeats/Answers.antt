use Rattle.std.proofs.Common.{◌≡◌, ◌+◌, ◌∷◌, map, drop, sym, ap, ◌∙◌}
use Rattle.std.specs.Prelude.{not}
use Rattle.pt_base.specs.First.{first_of}
use Rattle.pc_grammar.specs.Places.{is_among}
use Rattle.pc_grammar.proofs.Lists.{next_at}
use Rattle.pc_names.specs.Faults.{repeats}
use Rattle.pc_names.proofs.Sets.{repeats_next, not_not}
use Rattle.pc_names.proofs.faults.note_repeats.Goals as goal

pub loop-word-preserved : goal.loop-word-preserved
loop-word-preserved c =
    let words = c.args.words.now in
    let i = c.loop-word.word-index in
    let w = c.word-item.result in
    let names = c.loop-word.before in
    let so_far = c.loop-word.so_far in
    let rest : drop i words ≡ w ∷ drop (i + 1) words = next_at words i w c.loop-word-test.true c.word-item.is in
    repeats_next c.args.rule names c.insert.new.self w.now (map (λ v. v.now) (drop (i + 1) words)) so_far c.note_if-so_far.result (not c.in_ok-is_new.is_new)
    c.in_ok-is_new.ensures.names (ap not c.in_ok-is_new.ensures.is_new ∙ not_not (is_among w.now names)) c.note_if-so_far.ensures
    ∙ ap (λ ws. first_of so_far (repeats c.args.rule names (map (λ v. v.now) ws))) (sym rest)
    ∙ c.loop-word.invariant

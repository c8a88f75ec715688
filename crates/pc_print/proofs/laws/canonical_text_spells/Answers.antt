use Rattle.std.proofs.Common.{[]}
use Rattle.pc_grammar.specs.Lexing.{whole}
use Rattle.pc_print.specs.Canonical.{expression, expression_text}
use Rattle.pc_print.specs.Tokens.{tokens}
use Rattle.pc_print.proofs.Spelled.{spelled_again}
use Rattle.pc_print.proofs.Respelled.{respelled}
use Rattle.pc_print.proofs.Stands.{reads_all}
use Rattle.pc_print.proofs.Sound.{sound_level}
use Rattle.pc_print.proofs.Goods.{goods}
use Rattle.pc_print.proofs.laws.canonical_text_spells.Goals as goal

pub returns : goal.returns
returns c = λ source ts e lexed d.
    let r = reads_all source (expression e) ((sound_level d (goods source ts whole lexed)).stands [] tt) in
    let k = respelled source (tokens (expression e)) e (spelled_again source ts e d) (expression_text e) r.0 r.2 in
    (r.0, k.tree, r.1, k.spelled, k.same)

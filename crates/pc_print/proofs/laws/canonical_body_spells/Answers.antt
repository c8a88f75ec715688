use Rattle.std.proofs.Common.{[]}
use Rattle.pc_grammar.specs.Lexing.{whole}
use Rattle.pc_print.specs.Parts.{text}
use Rattle.pc_print.specs.Canonical.{statements}
use Rattle.pc_print.proofs.Stands.{reads_all}
use Rattle.pc_print.proofs.Goods.{goods}
use Rattle.pc_print.proofs.Reading.{closed_parts}
use Rattle.pc_print.proofs.Bodies.{parts_seen}
use Rattle.pc_print.proofs.laws.canonical_body_spells.Goals as goal

pub returns : goal.returns
returns c = λ source ts all level lexed d.
    let r = reads_all source (statements level all) ((closed_parts d (goods source ts whole lexed) level).stands []) in
    let k = parts_seen d (text (statements level all)) level r.0 r.2 in
    (r.0, k.tree, r.1, k.spelled, k.same)

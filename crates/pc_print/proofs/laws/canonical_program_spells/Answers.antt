use Rattle.std.proofs.Common.{[]}
use Rattle.pc_grammar.specs.Lexing.{whole}
use Rattle.pc_print.specs.Parts.{text}
use Rattle.pc_print.specs.Canonical.{items}
use Rattle.pc_print.proofs.Stands.{reads_all}
use Rattle.pc_print.proofs.Goods.{goods}
use Rattle.pc_print.proofs.ItemReading.{closed_items}
use Rattle.pc_print.proofs.ItemSeen.{items_seen}
use Rattle.pc_print.proofs.laws.canonical_program_spells.Goals as goal

pub returns : goal.returns
returns c = λ source ts all lexed d.
    let r = reads_all source (items all) ((closed_items source d (goods source ts whole lexed)).stands []) in
    let k = items_seen source (text (items all)) d r.0 r.2 in
    (r.0, k.tree, r.1, k.spelled, k.same)

use Rattle.std.proofs.Common.{◌≡◌, true, false, sym, ap, ◌∙◌}
use Rattle.std.specs.Prelude.{find}
use Rattle.pc_grammar.specs.Places.{is_among, has_name}
use Rattle.pc_names.proofs.Seeing.{site_own, site_item}
use Rattle.pc_names.proofs.sites.located.Goals as goal

pub returns-then-contains : goal.returns-then-contains
returns-then-contains c =
    let there : is_among c.args.used.now.word c.args.own.now ≡ true = ap (λ w. is_among w c.args.own.now) (sym c.word-word.ensures) ∙ sym c.if-contains.ensures in
    site_own c.args.before.now c.args.own.now c.args.used.now c.role-role.result c.word-word.result.now c.role-role.ensures c.word-word.ensures there

pub returns : goal.returns
returns c =
    let there : is_among c.args.used.now.word c.args.own.now ≡ false = ap (λ w. is_among w c.args.own.now) (sym c.word-word.ensures) ∙ sym c.if-contains.ensures in
    site_item c.args.before.now c.args.own.now c.args.used.now c.role-role.result c.word-word.result.now _ c.role-role.ensures c.word-word.ensures there (c.item.ensures ∙ ap (λ w. find (has_name w) c.args.before.now) c.word-word.ensures)

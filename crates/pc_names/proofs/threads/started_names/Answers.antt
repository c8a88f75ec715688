use Rattle.std.proofs.Common.{◌≡◌, ◌+◌, ◌||◌, ◌∷◌, List, drop, subst}
use Rattle.pc_grammar.specs.declared.expressions.Word.{Word}
use Rattle.pc_grammar.specs.Places.{is_among}
use Rattle.pc_grammar.proofs.Lists.{next_at}
use Rattle.pc_names.specs.Sites.{Site}
use Rattle.pc_names.specs.Started.{started_item, started_items}
use Rattle.pc_names.proofs.Sets.{among_sites}
use Rattle.pc_names.proofs.threads.started_names.Goals as goal

pub loop-site-preserved : goal.loop-site-preserved
loop-site-preserved c =
    let sites = c.args.sites.now in
    let i = c.loop-site.site-index in
    let s = c.site-item.result in
    let names = c.loop-site.names in
    let P : List Site → Type 0 = λ rest. (v : Word) → (is_among v names || is_among v (started_items rest)) ≡ is_among v (started_items sites) in
    let is : drop i sites ≡ s ∷ drop (i + 1) sites = next_at sites i s c.loop-site-test.true c.site-item.is in
    among_sites names c.in_ok-names.names (started_item s) (started_items (drop (i + 1) sites)) (started_items sites) c.in_ok-names.ensures (subst P is c.loop-site.invariant)

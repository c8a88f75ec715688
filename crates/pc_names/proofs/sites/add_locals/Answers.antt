use Rattle.std.proofs.Common.{◌≡◌, ◌+◌, [], ◌∷◌, ◌++◌, List, take, drop, subst, sym, ap, ◌∙◌}
use Rattle.pc_grammar.specs.declared.expressions.Word.{Word}
use Rattle.pc_grammar.specs.Uses.{value_uses}
use Rattle.pc_grammar.specs.Places.{names_of}
use Rattle.pc_grammar.proofs.Lists.{next_at}
use Rattle.pc_names.specs.Names.{HasNames}
use Rattle.pc_names.proofs.Sets.{has_more}
use Rattle.pc_names.proofs.Seeing.{same_sites, locals_kept, names_more}
use Rattle.pc_names.proofs.sites.add_locals.Goals as goal

pub loop-name-preserved : goal.loop-name-preserved
loop-name-preserved c =
    let i = c.loop-name.name-index in
    let locals = c.args.locals.now in
    let parameters = c.args.parameters.now in
    let before = c.args.before.now in
    let p = c.loop-name-item.result in
    let words = parameters ++ names_of (take i locals) in
    let is : drop i locals ≡ p ∷ drop (i + 1) locals = next_at locals i p c.loop-name-test.true c.loop-name-item.is in
    let grown : parameters ++ names_of (take (i + 1) locals) ≡ words ++ p.0 ∷ [] = names_more parameters locals i p c.loop-name-test.true c.loop-name-item.is in
    let P : List Word → Type 0 = λ ws. HasNames c.insert.new.self ws in
    record {
      sites = locals_kept before words _ p (drop (i + 1) locals) (drop i locals) c.loop-name.sites.items _ _ is (c.in_ok-add_value.ensures ∙ ap (λ s. c.loop-name.sites.items ++ s) (same_sites before c.loop-name.own words (value_uses p.1) c.loop-name.invariant.own)) grown c.loop-name.invariant.sites;
      own = subst P (sym grown) (has_more c.loop-name.own c.insert.new.self words p.0 c.loop-name.invariant.own c.in_ok-insert.ensures.names);
    }

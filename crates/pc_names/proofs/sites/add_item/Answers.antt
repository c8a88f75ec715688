use Rattle.std.proofs.Common.{◌++◌, List, Option, ap, subst, ◌∙◌}
use Rattle.pc_grammar.specs.declared.expressions.Word.{Word}
use Rattle.pc_grammar.specs.declared.expressions.Expr.{Expr}
use Rattle.pc_grammar.specs.Uses.{statements_uses, value_uses}
use Rattle.pc_grammar.specs.Places.{names_of}
use Rattle.pc_names.specs.Names.{HasNames}
use Rattle.pc_names.specs.Sites.{sites_of_locals, sites_of_uses}
use Rattle.pc_names.proofs.Seeing.{item_added, same_sites}
use Rattle.pc_names.proofs.sites.add_item.Goals as goal

pub returns : goal.returns
returns c =
    let f = c.in-Function in
    let before = c.args.before.now in
    let words = f.parameters ++ names_of f.locals in
    let uses = statements_uses f.body ++ value_uses f.result in
    let P : List Word → Type 0 = λ ps. HasNames c.in_ok-own.own (ps ++ names_of c.as_slice-2.result.now) in
    let Q : List (Word × Option (Expr Word)) → Type 0 = λ ls. HasNames c.in_ok-own.own (f.parameters ++ names_of ls) in
    let own : HasNames c.in_ok-own.own words = subst Q c.as_slice-2.ensures (subst P c.as_slice.ensures c.in_ok-own.ensures.own) in
    let first = c.in_ok-own.ensures.sites ∙ ap (λ ls. c.args.sites.now.items ++ sites_of_locals before c.as_slice.result.now ls) c.as_slice-2.ensures ∙ ap (λ ps. c.args.sites.now.items ++ sites_of_locals before ps f.locals) c.as_slice.ensures in
    let second = c.in_ok-add_body.ensures ∙ ap (λ b. c.add_locals.new.sites.items ++ sites_of_uses before c.in_ok-own.own (statements_uses b ++ value_uses f.result)) c.as_slice-3.ensures
    ∙ ap (λ s. c.add_locals.new.sites.items ++ s) (same_sites before c.in_ok-own.own words uses own) in
    item_added before c.args.item.now f.name f.gives f.parameters f.locals f.body f.result c.args.sites.now.items c.add_locals.new.sites.items c.add_body.new.sites.items f.is first second

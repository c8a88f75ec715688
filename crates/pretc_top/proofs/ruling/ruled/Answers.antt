use Rattle.std.proofs.Common.{◌≡◌, [], ◌∷◌, refl, sym, ap, subst, ◌∙◌}
use Rattle.pt_trace.specs.Accepted.{accepted_line}
use Rattle.pc_grammar.specs.Typing.{Typing}
use Rattle.pc_rules.specs.declared.sizes.Sizes.{Sizes}
use Rattle.pc_rules.specs.Sizes.{AreSizes}
use Rattle.pc_rules.specs.Verdicts.{BreaksFirst}
use Rattle.pretc_top.specs.declared.saying.Saying.{Saying}
use Rattle.pretc_top.specs.Says.{SaysEnds, said, unsaid, IsRuled, rules_text}
use Rattle.pretc_top.proofs.ruling.ruled.Goals as goal

sizes_line : (t : Typing) (sizes : Sizes) → AreSizes t sizes → accepted_line sizes.threads sizes.cell_words sizes.weight sizes.passage ≡ rules_text t
sizes_line t sizes are = rw (are.threads, are.cell_words, are.weight, are.passage) refl

pub returns-in-Err : goal.returns-in-Err
returns-in-Err g c =
    let P : Saying → Type 0 = λ s. SaysEnds BreaksFirst IsRuled c.args.program.now (g.H.Shelf.told c.args.shelf.now) (g.H.Shelf.told c.load_accepted.new.shelf) (s.line ∷ []) s.ending in
    record { ends = subst P (sym c.said.ensures) (unsaid c.in-Err.ending c.in-Err.ensures.failed) }

pub returns : goal.returns
returns g c = record {
  ends =
      said c.in-Ok.ensures.taken.text (c.accepted_line.new.into ∷ []) c.in-Ok.ensures.taken.held
      (record {
        tree = c.in-Ok.accepted.program;
        typing = c.in-Ok.accepted.typed;
        accepted = c.in-Ok.ensures.taken.accepted;
        due_is = ap (λ l. l ∷ []) (c.accepted_line.ensures ∙ sizes_line c.in-Ok.accepted.typed c.in-Ok.accepted.sizes c.in-Ok.ensures.sizes);
      })
      c.in-Ok.ensures.kept;
}

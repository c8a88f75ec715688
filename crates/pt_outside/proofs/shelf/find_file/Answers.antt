use Rattle.std.proofs.Common.{List, ℕ, ap, sym, ◌∙◌}
use Rattle.std.specs.Str.{bytes_eq}
use Rattle.pt_outside.proofs.Finding.{find-step}
use Rattle.pt_outside.proofs.shelf.find_file.Goals as goal

pub returns-then-eq : goal.returns-then-eq
returns-then-eq c = sym (c.loop-file.invariant ∙ find-step _ _ _ c.file-item.result _ c.loop-file-test.true c.file-item.is (c.if-eq.ensures ∙ ap (λ (k : List ℕ). bytes_eq k c.args.name.now) c.bytes.ensures))

pub loop-file-preserved : goal.loop-file-preserved
loop-file-preserved c = c.loop-file.invariant ∙ find-step _ _ _ c.file-item.result _ c.loop-file-test.true c.file-item.is (c.if-eq.ensures ∙ ap (λ (k : List ℕ). bytes_eq k c.args.name.now) c.bytes.ensures)

-- The sizes of a program within the limits are whole.
use Rattle.std.proofs.Common.{◌≡◌, ℕ, ◌<◌, ◌+◌, min, sum_by, ◌∙◌, arith}
use Rattle.pt_base.specs.First.{end_of}
use Rattle.pt_base.specs.declared.rules.Rule.TheVariants.{Z3, Z7, Z8}
use Rattle.pc_grammar.specs.Typing.{Typing}
use Rattle.pc_rules.specs.Weights.{program_weight, program_passage}
use Rattle.pc_rules.specs.Judging.{IsWithin, words, weight, passage}
use Rattle.pc_rules.specs.Sizes.{AreSizes, AreCounted}
use Rattle.pc_rules.specs.declared.sizes.Sizes.{Sizes}

whole : (n most : ℕ) → (most < n → ⊥) → min (most + 1) n ≡ n
whole n most h = omega arith

pub are_sizes : (t : Typing) (sizes : Sizes) → IsWithin t → AreCounted t sizes → AreSizes t sizes
are_sizes t sizes within counted = record {
  threads = counted.threads;
  cell_words = counted.cell_words ∙ whole (sum_by (λ cell. cell.size) t.cells) 15000 (λ h. within.limits Z3 (end_of t.length) (words h));
  weight = counted.weight ∙ whole (program_weight t) 60000 (λ h. within.limits Z7 (end_of t.length) (weight h));
  passage = counted.passage ∙ whole (program_passage t) 2000000 (λ h. within.limits Z8 (end_of t.length) (passage h));
}

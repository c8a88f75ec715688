-- How large a program is: docs/language.md, "Weights".
use Rattle.std.specs.Prelude.{◌≡◌, ◌+◌, min, count_by, sum_by}
use Rattle.pt_base.specs.declared.limits.TheConstants.{MOST_CELL_WORDS, MOST_WEIGHT, MOST_PASSAGE}
use Rattle.pc_grammar.specs.Typing.{Typing}
use Rattle.pc_rules.specs.Weights.{program_weight, program_passage}
use Rattle.pc_rules.specs.declared.sizes.Sizes.{Sizes}

pub record AreSizes (t : Typing) (sizes : Sizes) : Type 0 where
  pub threads : sizes.threads ≡ count_by (λ f. f.thread) t.functions
  pub cell_words : sizes.cell_words ≡ sum_by (λ cell. cell.size) t.cells
  pub weight : sizes.weight ≡ program_weight t
  pub passage : sizes.passage ≡ program_passage t

-- as far as they are counted: one more than the limit stands for every greater number
pub record AreCounted (t : Typing) (sizes : Sizes) : Type 0 where
  pub threads : sizes.threads ≡ count_by (λ f. f.thread) t.functions
  pub cell_words : sizes.cell_words ≡ min (MOST_CELL_WORDS + 1) (sum_by (λ cell. cell.size) t.cells)
  pub weight : sizes.weight ≡ min (MOST_WEIGHT + 1) (program_weight t)
  pub passage : sizes.passage ≡ min (MOST_PASSAGE + 1) (program_passage t)

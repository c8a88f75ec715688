use Rattle.pc_print.specs.Tokens.{tokens}
use Rattle.pc_print.specs.Canonical.{expression}
use Rattle.pc_print.proofs.Spelled.{spelled_again}
use Rattle.pc_print.proofs.Respelled.{respelled}
use Rattle.pc_print.proofs.laws.canonical_tokens_spell.Goals as goal

pub returns : goal.returns
returns c = λ source ts e d again us eq. let k = respelled source (tokens (expression e)) e (spelled_again source ts e d) again us eq in (k.tree, k.spelled, k.same)

use Rattle.mb_pfu.proofs.DueCuts.{cut-tests, kept-tests}
use Rattle.mb_pfu.proofs.tree_laws.answers_take_off.Goals as goal

pub returns : goal.returns
returns c = record { cuts = cut-tests; keeps = kept-tests }

use Rattle.mb_pfu.proofs.DueLists.{begun-all, next-first}
use Rattle.mb_pfu.proofs.tree_laws.tests_are_in_order.Goals as goal

pub returns : goal.returns
returns c = record { begins = begun-all; next = next-first }

use Rattle.pt_base.proofs.FieldLaws.{list_reads, numbers_read}
use Rattle.pt_base.proofs.exact.lists_are_exact.Goals as goal

pub returns-clause-alone : goal.returns-clause-alone
returns-clause-alone c = list_reads

pub returns-clause-ended : goal.returns-clause-ended
returns-clause-ended c = numbers_read

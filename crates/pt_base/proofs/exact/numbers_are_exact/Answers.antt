use Rattle.pt_base.proofs.FieldLaws.{number_reads, number_then_reads, count_reads}
use Rattle.pt_base.proofs.exact.numbers_are_exact.Goals as goal

pub returns-clause-alone : goal.returns-clause-alone
returns-clause-alone c = number_reads

pub returns-clause-ended : goal.returns-clause-ended
returns-clause-ended c = number_then_reads

pub returns-clause-counts : goal.returns-clause-counts
returns-clause-counts c = count_reads

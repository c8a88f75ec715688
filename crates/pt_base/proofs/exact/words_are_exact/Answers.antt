use Rattle.pt_base.proofs.WordLaws.{word_lines_read, signed_lines_read}
use Rattle.pt_base.proofs.exact.words_are_exact.Goals as goal

pub returns-clause-hexadecimal : goal.returns-clause-hexadecimal
returns-clause-hexadecimal c = word_lines_read

pub returns-clause-signed : goal.returns-clause-signed
returns-clause-signed c = signed_lines_read

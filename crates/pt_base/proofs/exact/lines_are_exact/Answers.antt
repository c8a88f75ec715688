use Rattle.std.specs.Int.{w32}
use Rattle.std.specs.Int.RustNames.{FitsSigned}
use Rattle.pt_base.specs.Spelling.{number_text, word_text, signed_text}
use Rattle.pt_base.specs.Reading.{number_then_at, word_line_at, signed_line_at}
use Rattle.pt_base.specs.Reads.{Below, IsWord}
use Rattle.pt_base.proofs.Laws.{many_read}
use Rattle.pt_base.proofs.FieldLaws.{number_then_reads}
use Rattle.pt_base.proofs.WordLaws.{word_lines_read, signed_lines_read}
use Rattle.std.proofs.Common.{refl}
use Rattle.pt_base.proofs.exact.lines_are_exact.Goals as goal

pub returns-clause-numbers : goal.returns-clause-numbers
returns-clause-numbers c count limit fits = many_read (number_then_at 10 limit) (number_text 10) (Below limit) (number_then_reads 10 limit fits refl) count

pub returns-clause-words : goal.returns-clause-words
returns-clause-words c count = many_read word_line_at word_text IsWord word_lines_read count

pub returns-clause-signed : goal.returns-clause-signed
returns-clause-signed c count = many_read signed_line_at signed_text (FitsSigned w32) signed_lines_read count

use Rattle.pc_parse.proofs.Whole.{one_program}
use Rattle.pc_parse.proofs.programs.one_program.Goals as goal

pub returns : goal.returns
returns c = one_program

use Rattle.pc_parse.proofs.StatementUnique.{one_body}
use Rattle.pc_parse.proofs.bodies.one_body.Goals as goal

pub returns : goal.returns
returns c = one_body

use Rattle.pc_grammar.proofs.Facts.{facts}
use Rattle.pc_grammar.proofs.fronts.look.Goals as goal

pub returns-clause-some : goal.returns-clause-some
returns-clause-some c = rw c.read_front.ensures (facts c.args.bytes.now c.requires).some

pub returns-clause-within : goal.returns-clause-within
returns-clause-within c = rw c.read_front.ensures (facts c.args.bytes.now c.requires).within

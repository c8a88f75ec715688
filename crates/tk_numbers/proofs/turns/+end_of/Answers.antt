use Rattle.tk_numbers.specs.Charges.{routines_in}
use Rattle.tk_numbers.proofs.Values.{sequence_to}
use Rattle.tk_numbers.proofs.turns.+end_of.Goals as goal

pub returns-in-Sequence-clause-place : goal.returns-in-Sequence-clause-place
returns-in-Sequence-clause-place t c = sequence_to (routines_in c.args.before.now) c.args.region.now _ _ c.in-Sequence.is

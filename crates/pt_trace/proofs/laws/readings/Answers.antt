use Rattle.pt_trace.proofs.Chaining.{begins_with_none, gives_one_more, ends_with_all, ended_with_all, refuses_the_first, fails_after_whole, pulls_few, pulled_few}
use Rattle.pt_trace.proofs.laws.readings.Goals as goal

pub returns-clause-begins : goal.returns-clause-begins
returns-clause-begins c = begins_with_none

pub returns-clause-gives : goal.returns-clause-gives
returns-clause-gives c = gives_one_more

pub returns-clause-ends : goal.returns-clause-ends
returns-clause-ends c = ends_with_all

pub returns-clause-ended : goal.returns-clause-ended
returns-clause-ended c = ended_with_all

pub returns-clause-refuses : goal.returns-clause-refuses
returns-clause-refuses c = refuses_the_first

pub returns-clause-fails : goal.returns-clause-fails
returns-clause-fails c = fails_after_whole

pub returns-clause-few : goal.returns-clause-few
returns-clause-few c = pulls_few

pub returns-clause-pulled : goal.returns-clause-pulled
returns-clause-pulled c = pulled_few

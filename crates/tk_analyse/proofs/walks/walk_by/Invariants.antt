use Rattle.std.proofs.Common.{◌≡◌, replicate}
use Rattle.tk_cert.specs.declared.cert.State.TheVariants.{Free}
use Rattle.tk_analyse.proofs.walks.walk_by.Given as goal

abbrev pub invariant-loop : goal.invariant-loop
invariant-loop l = l.states.items ≡ replicate l.counter Free

use Rattle.std.proofs.Common.{◌≡◌, ◌++◌, replicate}
use Rattle.tk_cert.specs.declared.cert.Line.TheVariants.{Bare}
use Rattle.tk_threads.proofs.sections.put_bare.Given as goal

abbrev pub invariant-loop : goal.invariant-loop
invariant-loop l = (l.made.lines ≡ replicate l.counter Bare ++ l.fn.made.lines) × (l.made.weights ≡ l.fn.made.weights)

use Rattle.pc_lower_cases.specs.Ports.{HasPorts}
use Rattle.pc_lower_cases.proofs.operator_tests.unary_so.Given as goal

abbrev pub invariant-loop-a : goal.invariant-loop-a
invariant-loop-a l = HasPorts l.machine

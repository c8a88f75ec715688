use Rattle.pc_lower_cases.specs.Ports.{HasPorts}
use Rattle.pc_lower_cases.proofs.element_tests.reads_so.Given as goal

abbrev pub invariant-loop-i : goal.invariant-loop-i
invariant-loop-i l = HasPorts l.machine

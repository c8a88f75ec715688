use Rattle.pc_lower_cases.specs.Ports.{HasPorts}
use Rattle.pc_lower_cases.proofs.element_tests.writes_so.Given as goal

abbrev pub invariant-loop-word : goal.invariant-loop-word
invariant-loop-word l = HasPorts l.machine

abbrev pub invariant-loop-i : goal.invariant-loop-i
invariant-loop-i l = HasPorts l.machine

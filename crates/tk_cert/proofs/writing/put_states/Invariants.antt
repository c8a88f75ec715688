use Rattle.std.proofs.Common.{◌≡◌, ◌++◌, drop}
use Rattle.pt_base.specs.Spelling.{each}
use Rattle.tk_cert.specs.Text.{state_text}
use Rattle.tk_cert.proofs.writing.put_states.Given as goal

abbrev pub invariant-loop-state : goal.invariant-loop-state
invariant-loop-state l = l.out.items ++ each state_text (drop l.state-index l.states) ≡ l.fn.out.items ++ each state_text l.states

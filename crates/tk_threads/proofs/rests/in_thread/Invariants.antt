use Rattle.std.proofs.Common.{◌≡◌, ◌++◌, drop}
use Rattle.tk_paths.specs.Numbers.{stack_of}
use Rattle.tk_threads.proofs.rests.in_thread.Given as goal

abbrev pub invariant-loop-handler : goal.invariant-loop-handler
invariant-loop-handler l = l.stack.items ++ stack_of (drop l.handler-index l.aborts) ≡ stack_of l.aborts

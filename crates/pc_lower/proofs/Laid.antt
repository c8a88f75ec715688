-- The flow of an accepted program can be laid out.
use Rattle.std.proofs.Common.{ℕ, arith}
use Rattle.pc_grammar.specs.Typing.{Typing}
use Rattle.pc_grammar.specs.Keeping.{IsTyped}
use Rattle.pc_rules.specs.Judging.{IsWithin}
use Rattle.pc_meaning.specs.Programs.{program_of}
use Rattle.pc_lower.specs.Numbering.{function_of}
use Rattle.pc_lower.specs.Layable.{CanBeLaid}
use Rattle.pc_lower.specs.Placing.{typed_flow, placing_of}
use Rattle.pc_lower.proofs.Order.{flow-in-order, flow-quiet}
use Rattle.pc_lower.proofs.Functions.{there-below}
use Rattle.pc_lower.proofs.FlowProgram.{fit, long, main-there, slot-thread}
use Rattle.pc_lower.proofs.Counting.{slots-few, slots-once}
use Rattle.pc_lower.proofs.Laying.{slot-layable, slot-room, is-called, in-slot-or-called}
use Rattle.pc_lower.proofs.Numbers.{pauses-counted, forks-counted, guards-counted}
use Rattle.pc_lower.proofs.Shaped.{is-shaped}

pub can-be-laid : (t : Typing) → IsTyped t → IsWithin t → (entrance : ℕ → ℕ) → CanBeLaid (typed_flow t) (placing_of t entrance)
can-be-laid t typed within entrance = record {
  main = main-there t typed within;
  order = flow-in-order (program_of t) (fit t typed within);
  few = slots-few t typed within;
  once = slots-once t typed within;
  there = λ c less. (let h = slot-thread t typed within c less in let b = there-below t.functions (function_of (typed_flow t) c) h.0 h.1 in let l = long t typed within in omega (arith, b, l));
  threads = slot-layable t typed within entrance;
  room = slot-room t typed within entrance;
  each = in-slot-or-called t typed within entrance;
  called = is-called t typed within entrance;
  quiet = flow-quiet (program_of t);
  pauses = pauses-counted t typed within;
  forks = forks-counted t typed within;
  guards = guards-counted t typed within;
  shape = is-shaped t typed within entrance;
}

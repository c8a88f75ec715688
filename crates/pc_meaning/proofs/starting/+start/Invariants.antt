use Rattle.std.proofs.Common.{◌≡◌, ◌+◌, ◌-◌, ◌*◌, drop, length}
use Rattle.pc_meaning.specs.Tree.{block}
use Rattle.pc_meaning.specs.Outcomes.{beside}
use Rattle.pc_meaning.specs.Statements.{turning, starting}
use Rattle.pc_meaning.specs.Programs.{expression_of}
use Rattle.pc_meaning.specs.Lefts.{routines_of, known_of, threads_of, tree, trees, starts}
use Rattle.pc_meaning.proofs.Threads.{after_threads}
use Rattle.pc_meaning.proofs.Cost.{cost}
use Rattle.pc_meaning.proofs.starting.+start.Given as goal

abbrev pub decreases-start : goal.decreases-start
decreases-start l = 4 * cost l.functions.now l.known + 4 * goal.size-start l

abbrev pub decreases-start_from : goal.decreases-start_from
decreases-start_from l = 4 * cost l.functions.now l.known + 4 * goal.size-start_from l + 1

abbrev pub decreases-start_loop : goal.decreases-start_loop
decreases-start_loop l = 4 * cost l.functions.now l.known + 4 * goal.size-start_loop l + 1

abbrev pub decreases-repeat : goal.decreases-repeat
decreases-repeat l = 4 * cost l.functions.now l.known + 4 * goal.size-repeat l + 1

abbrev pub decreases-call : goal.decreases-call
decreases-call l = 4 * cost l.functions.now l.known + 2

abbrev pub decreases-start_function : goal.decreases-start_function
decreases-start_function l = 4 * cost l.functions.now l.known + 1

abbrev pub decreases-start_threads : goal.decreases-start_threads
decreases-start_threads l = 4 * cost l.functions.now l.known + 2

abbrev pub invariant-start_from-loop-i : goal.invariant-start_from-loop-i
invariant-start_from-loop-i l = record {
  started : starts l.rooms l.functions l.known (block (trees l.rooms l.functions (drop l.i l.all))) l.cells.current
      ≡ starts l.rooms l.functions l.known (block (trees l.rooms l.functions (drop l.from l.all))) l.initial.cells.current;
  before : l.cells.before ≡ l.initial.cells.before;
}

abbrev pub invariant-repeat-loop-turn : goal.invariant-repeat-loop-turn
invariant-repeat-loop-turn l = record {
  turned : turning (l.most - l.turn) (expression_of l.rooms l.test) (starts l.rooms l.functions l.known (tree l.rooms l.functions l.body)) l.cells.current
      ≡ turning l.most (expression_of l.rooms l.test) (starts l.rooms l.functions l.known (tree l.rooms l.functions l.body)) l.initial.cells.current;
  before : l.cells.before ≡ l.initial.cells.before;
}

abbrev pub invariant-start_threads-loop-thread : goal.invariant-start_threads-loop-thread
invariant-start_threads-loop-thread l = record {
  started :
      after_threads (threads_of (routines_of l.rooms l.functions) l.lefts l.threads)
      (beside (starting (known_of l.rooms l.functions l.known) (drop l.thread-index l.threads)) l.cells.current)
      ≡ beside (starting (known_of l.rooms l.functions l.known) l.threads) l.initial.cells.current;
  long : length l.lefts ≡ l.thread-index;
  before : l.cells.before ≡ l.initial.cells.before;
}

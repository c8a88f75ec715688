use Rattle.std.proofs.Common.{◌≡◌, ◌+◌, ◌*◌, ◌≤◌, drop, length}
use Rattle.pc_meaning.specs.Outcomes.{beside}
use Rattle.pc_meaning.specs.Statements.{resuming}
use Rattle.pc_meaning.specs.Lefts.{routines_of, known_of, threads_of}
use Rattle.pc_meaning.proofs.Threads.{after_threads}
use Rattle.pc_meaning.proofs.resuming.+resume.Given as goal

abbrev pub decreases-resume : goal.decreases-resume
decreases-resume l = 4 * goal.size-resume l

abbrev pub decreases-resume_from : goal.decreases-resume_from
decreases-resume_from l = 4 * goal.size-resume_from l + 1

abbrev pub decreases-resume_function : goal.decreases-resume_function
decreases-resume_function l = 4 * goal.size-resume_function l + 1

abbrev pub decreases-resume_thread : goal.decreases-resume_thread
decreases-resume_thread l = 4 * goal.size-resume_thread l + 2

abbrev pub decreases-resume_threads : goal.decreases-resume_threads
decreases-resume_threads l = 4 * goal.size-resume_threads l + 3

abbrev pub invariant-resume_threads-loop-i : goal.invariant-resume_threads-loop-i
invariant-resume_threads-loop-i l = record {
  resumed :
      after_threads (threads_of (routines_of l.rooms l.functions) l.next l.threads)
      (beside (resuming (routines_of l.rooms l.functions) (known_of l.rooms l.functions (length l.functions)) l.initial.cells.before
      (threads_of (routines_of l.rooms l.functions) (drop l.i l.lefts) (drop l.i l.threads))) l.cells.current)
      ≡ beside (resuming (routines_of l.rooms l.functions) (known_of l.rooms l.functions (length l.functions)) l.initial.cells.before
      (threads_of (routines_of l.rooms l.functions) l.lefts l.threads)) l.initial.cells.current;
  long : length l.next ≡ l.i;
  short : length l.next ≤ length l.threads;
  before : l.cells.before ≡ l.initial.cells.before;
}

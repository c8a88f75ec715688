use Rattle.std.proofs.Common.{sym, ap, ◌∙◌}
use Rattle.std.specs.Prelude.{if◌then◌else◌}
use Rattle.pc_meaning.specs.Tree.{par}
use Rattle.pc_meaning.specs.Outcomes.{Done, Paused, in_par}
use Rattle.pc_meaning.specs.Lefts.{is_over, threads_of}
use Rattle.pc_meaning.proofs.Leaving.{left-Beside}
use Rattle.pc_meaning.proofs.Threads.{over-ended}
use Rattle.pc_meaning.proofs.lefts.beside.Goals as goal

pub returns-then-is_over : goal.returns-then-is_over
returns-then-is_over c = λ routines i fs store long.
    let lefts = c.args.lefts in
    let over = over-ended routines lefts fs long ∙ sym (c.if-is_over.ensures ∙ ap is_over c.as_slice.ensures) in
    sym (ap (λ b. if b then Done store else Paused (in_par i (threads_of routines lefts fs)) store) over)

pub returns-else-is_over : goal.returns-else-is_over
returns-else-is_over c = λ routines i fs store long.
    let lefts = c.args.lefts in
    let over = over-ended routines lefts fs long ∙ sym (c.if-is_over.ensures ∙ ap is_over c.as_slice.ensures) in
    ap (λ r. Paused r store) (left-Beside routines lefts (par i fs))
    ∙ sym (ap (λ b. if b then Done store else Paused (in_par i (threads_of routines lefts fs)) store) over)

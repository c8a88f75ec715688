use Rattle.std.proofs.Common.{◌≡◌, ◌+◌, ◌<◌, [], ◌∷◌, length, drop, IfOk, None, sym, ap, ◌∙◌, subst, arith, length-append}
use Rattle.std.proofs.lemmas.Option.{slice_get_within}
use Rattle.pc_meaning.specs.Tree.{Statement, block, par}
use Rattle.pc_meaning.specs.Outcomes.{Outcome, Paused, in_par, joined}
use Rattle.pc_meaning.specs.Programs.{numbering_of}
use Rattle.pc_meaning.proofs.Trees.{statement-Block, statement-Par}
use Rattle.pc_meaning.specs.declared.lefts.Left.{Left}
use Rattle.pc_meaning.specs.declared.lefts.Left.TheVariants.{Inside}
use Rattle.pc_meaning.specs.Lefts.{left_of, routines_of, known_of, body_of, threads_of, tree, trees, ends, resumes}
use Rattle.pc_meaning.proofs.Leaving.{left-Beside, resume-past, resume-list, resume-paused}
use Rattle.pc_meaning.proofs.Calling.{body_is, no_routine_is}
use Rattle.pc_meaning.proofs.Threads.{after_threads, goes_on, rest_goes, resume-step, resume-end, resume-short}
use Rattle.pc_meaning.proofs.resuming.+resume.Goals as goal

pub resume-returns-in-Block-clause-resumed : goal.resume-returns-in-Block-clause-resumed
resume-returns-in-Block-clause-resumed t c =
    let rooms = c.args.rooms.now in
    let functions = c.args.functions.now in
    let routines = routines_of rooms functions in
    let before = c.args.cells.now.before in
    let P : Statement → Type 0 = λ x. IfOk c.resume_from.result (λ o. ends rooms functions x o c.resume_from.new.cells.current ≡ resumes rooms functions before (left_of routines c.args.left.now x) c.args.cells.now.current) in
    let Q : Left → Type 0 = λ l. IfOk c.resume_from.result (λ o. ends rooms functions (block (trees rooms functions c.as_slice-in-Block.result.now)) o c.resume_from.new.cells.current ≡ resumes rooms functions before (left_of routines l (block (trees rooms functions c.as_slice-in-Block.result.now))) c.args.cells.now.current) in
    let is =
    ap (λ l. block (trees rooms functions l)) c.as_slice-in-Block.ensures
    ∙ sym (statement-Block rooms (numbering_of functions) c.in-Block.all)
    ∙ ap (tree rooms functions) (sym c.in-Block.is)
    in
    let same = ap (λ l. Inside c.in-Inside.part l) c.get.ensures ∙ sym c.in-Inside.is in
    subst P is (subst Q same c.resume_from.ensures.resumed)

pub resume_from-returns-then-part-all-clause-resumed : goal.resume_from-returns-then-part-all-clause-resumed
resume_from-returns-then-part-all-clause-resumed t c =
    sym (resume-past c.args.rooms.now c.args.functions.now c.args.cells.now.before c.args.left.now c.args.all.now c.args.part c.args.cells.now.current (omega arith))

pub resume_from-returns-in-None-clause-resumed : goal.resume_from-returns-in-None-clause-resumed
resume_from-returns-in-None-clause-resumed t c =
    let rooms = c.args.rooms.now in
    let functions = c.args.functions.now in
    let after = c.resume.new.cells.current in
    let s = c.index-all-part.result in
    let less : c.args.part < length c.args.all.now = omega arith in
    let h = ap (λ o. ends rooms functions (tree rooms functions s) o after) (sym c.in-None.is) ∙ c.in_ok-resume.ensures.resumed in
    let P : Outcome → Type 0 = λ x. IfOk c.start_from.result (λ o. ends rooms functions (block (trees rooms functions c.args.all.now)) o c.start_from.new.cells.current ≡ x) in
    subst P (sym (resume-list rooms functions c.args.cells.now.before c.args.left.now c.args.all.now c.args.part s None c.args.cells.now.current after less c.index-all-part.is h)) c.start_from.ensures.started

pub resume_from-returns-in_ok-new-in-Some-clause-resumed : goal.resume_from-returns-in_ok-new-in-Some-clause-resumed
resume_from-returns-in_ok-new-in-Some-clause-resumed t c =
    let rooms = c.args.rooms.now in
    let functions = c.args.functions.now in
    let after = c.resume.new.cells.current in
    let s = c.index-all-part.result in
    let less : c.args.part < length c.args.all.now = omega arith in
    let h = ap (λ o. ends rooms functions (tree rooms functions s) o after) (sym c.in-Some.is) ∙ c.in_ok-resume.ensures.resumed in
    ap (λ l. Paused (left_of (routines_of rooms functions) (Inside c.args.part l) (block (trees rooms functions c.args.all.now))) after) c.in_ok-new-in-Some.ensures
    ∙ resume-paused rooms functions c.args.cells.now.before c.args.left.now c.in-Some.left c.args.all.now c.args.part s c.args.cells.now.current after less c.index-all-part.is h

pub resume-returns-in_ok-lefts-in-Par-clause-resumed : goal.resume-returns-in_ok-lefts-in-Par-clause-resumed
resume-returns-in_ok-lefts-in-Par-clause-resumed t c =
    let rooms = c.args.rooms.now in
    let functions = c.args.functions.now in
    let routines = routines_of rooms functions in
    let n = numbering_of functions in
    let i = n.par_number c.in-Par.span in
    let fs = c.as_slice-in-Par.result.now in
    let was = c.as_slice.result.now in
    let before = c.args.cells.now.before in
    let old = c.args.cells.now.current in
    let after = c.resume_threads.new.cells.current in
    let h = c.in_ok-lefts-in-Par.ensures.resumed in
    let whole = ap (par i) c.as_slice-in-Par.ensures ∙ sym (statement-Par rooms n c.in-Par.span c.in-Par.threads) ∙ ap (tree rooms functions) (sym c.in-Par.is) in
    let left =
    ap (λ l. left_of routines l (par i fs)) c.in-Beside.is ∙ left-Beside routines c.in-Beside.lefts (par i fs)
    ∙ ap (λ w. in_par i (threads_of routines w fs)) (sym c.as_slice.ensures)
    in
    let main = c.beside.ensures routines i fs after h.1 ∙ ap (joined i) h.0 ∙ ap (λ r. resumes rooms functions before r old) (sym left) in
    let P : Statement → Type 0 = λ s. ends rooms functions s c.beside.result after ≡ resumes rooms functions before (left_of routines c.args.left.now s) old in
    subst P whole main

pub resume_function-returns-in_default-at-clause-resumed : goal.resume_function-returns-in_default-at-clause-resumed
resume_function-returns-in_default-at-clause-resumed t c =
    let rooms = c.args.rooms.now in
    let functions = c.args.functions.now in
    let routines = routines_of rooms functions in
    let f = c.args.function in
    let before = c.args.cells.now.before in
    let old = c.args.cells.now.current in
    let part = c.in-Inside.part in
    let left = c.in-Inside.left in
    sym (
    ap (λ l. resumes rooms functions before (left_of routines l (body_of routines f)) old) c.in-Inside.is
    ∙ ap (λ r. resumes rooms functions before (left_of routines (Inside part left) (block r.body)) old) (no_routine_is rooms functions f (sym c.in_default-at.ensures))
    ∙ resume-past rooms functions before left [] part old (omega arith)
    )

pub resume_function-returns-clause-resumed : goal.resume_function-returns-clause-resumed
resume_function-returns-clause-resumed t c =
    let rooms = c.args.rooms.now in
    let functions = c.args.functions.now in
    let routines = routines_of rooms functions in
    let f = c.args.function in
    let g = c.in-Some.resumed.now in
    let before = c.args.cells.now.before in
    let old = c.args.cells.now.current in
    let after = c.resume_from.new.cells.current in
    let body = ap (λ l. block (trees rooms functions l)) c.as_slice.ensures ∙ body_is rooms functions f g (sym c.in-Some.ensures) in
    let same = ap (λ l. Inside c.in-Inside.part l) c.get.ensures ∙ sym c.in-Inside.is in
    let P : Left → Type 0 = λ l. IfOk c.resume_from.result (λ o. ends rooms functions (block (trees rooms functions c.as_slice.result.now)) o after ≡ resumes rooms functions before (left_of routines l (block (trees rooms functions c.as_slice.result.now))) old) in
    let Q : Statement → Type 0 = λ s. IfOk c.resume_from.result (λ o. ends rooms functions s o after ≡ resumes rooms functions before (left_of routines c.args.left.now s) old) in
    subst Q body (subst P same c.resume_from.ensures.resumed)

pub resume_threads-loop-i-preserved : goal.resume_threads-loop-i-preserved
resume_threads-loop-i-preserved t c =
    let rooms = c.args.rooms.now in
    let functions = c.args.functions.now in
    let routines = routines_of rooms functions in
    let known = known_of rooms functions (length functions) in
    let fs = c.args.threads.now in
    let was = c.args.lefts.now in
    let i = c.loop-i.i in
    let next = c.loop-i.next in
    let f = c.in-Some.thread in
    let state = c.in_ok-state.state in
    let before = c.args.cells.now.before in
    let later = c.resume_thread.new.cells.current in
    let pushed = c.in_ok-push.ensures.ok in
    let more = length-append next (state ∷ []) in
    let many = ap length pushed in
    let there = sym c.in-Some.ensures in
    let less = slice_get_within fs i f there in
    let same = ap (λ b. goes_on routines known b c.index-lefts-i.result f c.loop-i.cells.current) c.loop-i.invariant.before in
    record {
      resumed =
          ap (λ l. after_threads (threads_of routines l fs) (rest_goes routines known before (drop (i + 1) was) (drop (i + 1) fs) later)) pushed
          ∙ sym (resume-step routines known before was next c.index-lefts-i.result state fs i f c.loop-i.cells.current later there c.loop-i-test.true c.index-lefts-i.is c.loop-i.invariant.long (c.in_ok-state.ensures.resumed ∙ same))
          ∙ c.loop-i.invariant.resumed;
      long = omega (arith, more, many, c.loop-i.invariant.long);
      short = omega (arith, more, many, c.loop-i.invariant.long, less);
      before = c.resume_thread.ensures.before ∙ c.loop-i.invariant.before;
    }

pub resume_threads-returns-in_default-clause-resumed : goal.resume_threads-returns-in_default-clause-resumed
resume_threads-returns-in_default-clause-resumed t c =
    let rooms = c.args.rooms.now in
    let functions = c.args.functions.now in
    (sym (resume-short (routines_of rooms functions) (known_of rooms functions (length functions)) c.args.cells.now.before c.args.lefts.now c.loop-i.next c.args.threads.now c.loop-i.i c.loop-i.cells.current (sym c.in_default.ensures)) ∙ c.loop-i.invariant.resumed, c.loop-i.invariant.short)

pub resume_threads-returns-clause-resumed : goal.resume_threads-returns-clause-resumed
resume_threads-returns-clause-resumed t c =
    let rooms = c.args.rooms.now in
    let functions = c.args.functions.now in
    (sym (resume-end (routines_of rooms functions) (known_of rooms functions (length functions)) c.args.cells.now.before c.args.lefts.now c.loop-i.next c.args.threads.now c.loop-i.i c.loop-i.cells.current c.loop-i-test.false) ∙ c.loop-i.invariant.resumed, c.loop-i.invariant.short)

use Rattle.std.proofs.Common.{◌≡◌, ◌+◌, ◌<◌, ◌≤◌, true, [], ◌∷◌, length, map, drop, get_or, IfOk, None, refl, sym, ap, ◌∙◌, subst, arith, length-append}
use Rattle.std.specs.Prelude.{OnOk}
use Rattle.pc_meaning.specs.Tree.{Statement, block}
use Rattle.pc_meaning.specs.Outcomes.{Outcome, Paused, store_of, beside}
use Rattle.pc_meaning.specs.Values.{Store, holds, set_locals}
use Rattle.pc_meaning.specs.Statements.{known_at, returned, called, starting}
use Rattle.pc_meaning.specs.Programs.{expression_of, target_of, locals_of, routine_of, numbering_of}
use Rattle.pc_meaning.specs.declared.lefts.Left.TheVariants.{Inside}
use Rattle.pc_meaning.specs.Lefts.{left_of, routines_of, known_of, body_of, threads_of, tree, trees, starts, ends}
use Rattle.pc_meaning.proofs.Leaving.{ends-store, turning-more, list-step, list-paused}
use Rattle.pc_meaning.proofs.Calling.{there, routine_is, body_is, known_starts}
use Rattle.pc_meaning.proofs.Cost.{size_all, size_of, cost-below}
use Rattle.pc_meaning.proofs.Threads.{after_threads, start-step, start-end}
use Rattle.pc_meaning.proofs.starting.+start.Goals as goal

pub start_from-returns-in-Some-clause-started : goal.start_from-returns-in-Some-clause-started
start_from-returns-in-Some-clause-started t c =
    let rooms = c.args.rooms.now in
    let functions = c.args.functions.now in
    let after = c.start.new.cells.current in
    let s = c.index-all-i.result in
    let h = ap (λ o. ends rooms functions (tree rooms functions s) o after) (sym c.in-Some.is) ∙ c.in_ok-start.ensures.started in
    ap (λ l. Paused (left_of (routines_of rooms functions) (Inside c.loop-i.i l) (block (trees rooms functions c.args.all.now))) after) c.in_ok-new-in-Some.ensures
    ∙ list-paused rooms functions c.args.known c.args.all.now c.loop-i.i s c.in-Some.left c.loop-i.cells.current after c.loop-i-test.true c.index-all-i.is h
    ∙ c.loop-i.invariant.started

pub start_from-loop-i-preserved : goal.start_from-loop-i-preserved
start_from-loop-i-preserved t c =
    let rooms = c.args.rooms.now in
    let functions = c.args.functions.now in
    let after = c.start.new.cells.current in
    let s = c.index-all-i.result in
    let h = ap (λ o. ends rooms functions (tree rooms functions s) o after) (sym c.in-None.is) ∙ c.in_ok-start.ensures.started in
    record {
      started = sym (list-step rooms functions c.args.known c.args.all.now c.loop-i.i s None c.loop-i.cells.current after c.loop-i-test.true c.index-all-i.is h) ∙ c.loop-i.invariant.started;
      before = c.start.ensures.before ∙ c.loop-i.invariant.before;
    }

pub repeat-loop-turn-preserved : goal.repeat-loop-turn-preserved
repeat-loop-turn-preserved t c =
    let rooms = c.args.rooms.now in
    let functions = c.args.functions.now in
    let body = tree rooms functions c.args.body.now in
    let test = expression_of rooms c.args.test.now in
    let after = c.start.new.cells.current in
    let held : holds test c.loop-turn.cells.current ≡ true = grind (arith, c.holds.ensures, c.current.ensures, c.if-not-holds.false) in
    let is = sym (ap store_of c.in_ok-start.ensures.started) ∙ ends-store (routines_of rooms functions) body c.in_ok-start.field-0 after in
    record {
      turned = sym (turning-more c.args.most c.loop-turn.turn test (starts rooms functions c.args.known body) c.loop-turn.cells.current after c.loop-turn-test.true held is) ∙ c.loop-turn.invariant.turned;
      before = c.start.ensures.before ∙ c.loop-turn.invariant.before;
    }

pub call-returns-clause-called : goal.call-returns-clause-called
call-returns-clause-called t c =
    let rooms = c.args.rooms.now in
    let functions = c.args.functions.now in
    let routines = routines_of rooms functions in
    let n = numbering_of functions in
    let f = c.args.function in
    let g = c.in-Some.called.now in
    let target = target_of rooms c.args.goal.now in
    let arguments = map (expression_of rooms) c.args.arguments.now in
    let old = c.args.cells.now.current in
    let go = known_at (known_of rooms functions c.args.known) f in
    let left = c.in_ok-start_function.field-0 in
    let after = c.start_function.new.cells.current in
    let ran = sym (ends-store routines (body_of routines f) left after) ∙ ap store_of c.in_ok-start_function.ensures.started ∙ ap (λ s. store_of (go s)) c.in_ok-set_arguments.ensures.current in
    let is = ap (λ s. returned (routine_of rooms n g) target s) ran ∙ ap (λ r. called r go target arguments old) (sym (routine_is rooms functions f g (sym c.in-Some.ensures))) in
    let P : Store → Type 0 = λ s. OnOk c.put_result.result (c.put_result.new.cells.current ≡ s) in
    subst P is (c.put_result.ensures.current n)

pub start_function-start_from-requires : goal.start_function-start_from-requires
start_function-start_from-requires t c =
    let rooms = c.args.rooms.now in
    let functions = c.args.functions.now in
    let f = c.args.function in
    let g = c.index-functions-function.result in
    let less : f < c.args.known = omega arith in
    let below = cost-below functions f c.args.known less in
    let at = ap size_of (there rooms functions f g (omega arith) c.index-functions-function.is) in
    let same = ap size_all c.as_slice-2.ensures in
    let h = c.decreases in
    (omega arith, omega arith)

pub start_function-returns-clause-started : goal.start_function-returns-clause-started
start_function-returns-clause-started t c =
    let rooms = c.args.rooms.now in
    let functions = c.args.functions.now in
    let routines = routines_of rooms functions in
    let f = c.args.function in
    let g = c.index-functions-function.result in
    let all = c.as_slice-2.result.now in
    let old = c.args.cells.now.current in
    let mid = c.set_locals.new.cells.current in
    let after = c.start_from.new.cells.current in
    let less : f < c.args.known = omega arith in
    let few : c.args.known ≤ length functions = omega arith in
    let is = there rooms functions f g (omega arith) c.index-functions-function.is in
    let P : Statement → Type 0 = λ s. IfOk c.start_from.result (λ left. ends rooms functions s left after ≡ starts rooms functions f (block (trees rooms functions all)) mid) in
    let Q : Outcome → Type 0 = λ o. IfOk c.start_from.result (λ left. ends rooms functions (body_of routines f) left after ≡ o) in
    let body = ap (λ l. block (trees rooms functions l)) c.as_slice-2.ensures ∙ body_is rooms functions f g is in
    let set = c.in_ok-set_locals.ensures.current ∙ ap (λ l. set_locals (locals_of rooms l) old) c.as_slice.ensures in
    let went =
    ap (λ l. starts rooms functions f (block (trees rooms functions l)) mid) c.as_slice-2.ensures
    ∙ ap (starts rooms functions f (block (trees rooms functions g.body))) set
    ∙ known_starts rooms functions c.args.known f g old less few is
    in
    subst Q went (subst P body c.start_from.ensures.started)

pub start_threads-loop-thread-preserved : goal.start_threads-loop-thread-preserved
start_threads-loop-thread-preserved t c =
    let rooms = c.args.rooms.now in
    let functions = c.args.functions.now in
    let routines = routines_of rooms functions in
    let known = known_of rooms functions c.args.known in
    let fs = c.args.threads.now in
    let i = c.loop-thread.thread-index in
    let lefts = c.loop-thread.lefts in
    let left = c.in_ok-left.left in
    let later = c.start_function.new.cells.current in
    let pushed = c.in_ok-push.ensures.ok in
    let more = length-append lefts (left ∷ []) in
    let many = ap length pushed in
    record {
      started =
          ap (λ l. after_threads (threads_of routines l fs) (beside (starting known (drop (i + 1) fs)) later)) pushed
          ∙ sym (start-step routines known lefts left fs i (get_or fs i 0) c.loop-thread.cells.current later c.loop-thread-test.true refl c.loop-thread.invariant.long c.in_ok-left.ensures.started)
          ∙ c.loop-thread.invariant.started;
      long = omega (arith, more, many, c.loop-thread.invariant.long);
      before = c.start_function.ensures.before ∙ c.loop-thread.invariant.before;
    }

pub start_threads-returns-clause-started : goal.start_threads-returns-clause-started
start_threads-returns-clause-started t c =
    let rooms = c.args.rooms.now in
    let functions = c.args.functions.now in
    let lefts = c.loop-thread.lefts in
    let fs = c.args.threads.now in
    let long = c.loop-thread.invariant.long in
    (sym (start-end (routines_of rooms functions) (known_of rooms functions c.args.known) lefts fs c.loop-thread.thread-index c.loop-thread.cells.current c.loop-thread-test.false) ∙ c.loop-thread.invariant.started, omega arith)

use Rattle.std.proofs.Common.{◌-◌, Bool, Ok, ap, subst, refl, arith}
use Rattle.pt_trace.specs.Next.{Next}
use Rattle.pretc_run.specs.declared.endings.Ending.{Ending}
use Rattle.pretc_run.specs.Endings.{line_of}
use Rattle.pretc_run.specs.UnderWay.{SaysLast}
use Rattle.pretc_run.proofs.Stepping.{read_by, opened_by}
use Rattle.pretc_run.proofs.MeanStepping.{mean_steps, mean_is_done, mean_is_faulty}
use Rattle.pretc_run.proofs.meaning.step.Goals as goal

pub returns-in-Ok-true-clause-comes : goal.returns-in-Ok-true-clause-comes
returns-in-Ok-true-clause-comes g c start rows u =
    let opened = opened_by c.args.reader.now.ended (λ e. cc ((c.in-Ok-true.ensures.end_again u.given.no_fault e).0, c.in-Ok-true.field-0-test)) in
    let Q : Bool → Type 0 = λ b. Next c.args.reader.now c.next.new.self (g.I.Source.told c.args.input.now) (g.I.Source.told c.next.new.input) c.next.new.row (Ok b) in
    let gave = subst Q c.in-Ok-true.field-0-test (c.in-Ok-true.ensures.answer u.given.no_fault opened) in
    mean_steps start rows c.next.new.row (c.given-tick.result - 1) c.args.meaning.now c.do_tick.new.meaning c.args.reader.now c.next.new.self
    (g.I.Source.told c.args.input.now) (g.I.Source.told c.next.new.input) (g.O.Sink.told c.args.out.now) (g.O.Sink.told c.do_tick.new.out) c.do_tick.result
    u c.do_tick.ensures.typing opened gave c.in-Ok-true.ensures.stays c.next.ensures.few_kept (omega (arith, c.given-tick.ensures, ap (λ t. t.given) gave.reader)) c.do_tick.ensures.comes

pub returns-in-Ok-false-clause-comes : goal.returns-in-Ok-false-clause-comes
returns-in-Ok-false-clause-comes g c start rows u =
    let Q : Bool → Type 0 = λ b. Next c.args.reader.now c.next.new.self (g.I.Source.told c.args.input.now) (g.I.Source.told c.next.new.input) c.next.new.row (Ok b) in
    mean_is_done start rows c.args.meaning.now c.args.reader.now c.next.new.self c.given.result
    (g.I.Source.told c.args.input.now) (g.I.Source.told c.next.new.input) (g.O.Sink.told c.args.out.now) (g.O.Sink.told c.say_ticks.new.out) c.say_ticks.result u
    (read_by _ _ c.args.reader.now c.next.new.self (g.I.Source.told c.args.input.now) (g.I.Source.told c.next.new.input) rows c.args.reader.now.ended refl u.given
    (λ e. let again = c.in-Ok-false.ensures.end_again u.given.no_fault e in (again.1, ap g.I.Source.told again.2))
    (λ e. subst Q c.in-Ok-false.field-0-test (c.in-Ok-false.ensures.answer u.given.no_fault e)) c.requires.kept c.next.ensures.few_kept)
    c.in-Ok-false.ensures.stays c.given.ensures c.say_ticks.ensures

pub returns-in-Err-clause-comes : goal.returns-in-Err-clause-comes
returns-in-Err-clause-comes g c start rows u =
    let opened = opened_by c.args.reader.now.ended (λ e. cc ((c.in-Err.ensures.end_again u.given.no_fault e).0)) in
    let P : Ending → Type 0 = λ e. SaysLast e (line_of e) (g.O.Sink.told c.args.out.now) (g.O.Sink.told c.say.new.out) c.say.result in
    mean_is_faulty start rows c.args.meaning.now c.args.reader.now c.next.new.self c.in-Err.fault c.next.new.row
    (g.I.Source.told c.args.input.now) (g.I.Source.told c.next.new.input) (g.O.Sink.told c.args.out.now) (g.O.Sink.told c.say.new.out) c.say.result u opened
    (c.in-Err.ensures.answer u.given.no_fault opened) c.in-Err.ensures.stays c.next.ensures.later c.next.ensures.few_kept (subst P c.ending_of.ensures c.say.ensures)

use Rattle.std.proofs.Common.{◌≡◌, ◌-◌, ℕ, Bool, Ok, Err, ap, sym, subst, refl, ◌∙◌, arith}
use Rattle.mb_core.specs.Machine.{tick_of}
use Rattle.pt_trace.specs.Next.{Next, Stays}
use Rattle.pt_trace.specs.declared.reader.TraceFault.{TraceFault}
use Rattle.pretc_run.specs.UnderWay.{TickComes}
use Rattle.pretc_run.proofs.Stepping.{steps, read_by, says_worst, says_bad, says_fault, opened_by}
use Rattle.pretc_run.proofs.running.step.Goals as goal

pub returns-in-Ok-true-clause-comes : goal.returns-in-Ok-true-clause-comes
returns-in-Ok-true-clause-comes g c start rows most u =
    let opened = opened_by c.args.reader.now.ended (λ e. cc ((c.in-Ok-true.ensures.end_again u.given.no_fault e).0, c.in-Ok-true.field-0-test)) in
    let Q : Bool → Type 0 = λ b. Next c.args.reader.now c.next.new.self (g.I.Source.told c.args.input.now) (g.I.Source.told c.next.new.input) c.next.new.row (Ok b) in
    let gave = subst Q c.in-Ok-true.field-0-test (c.in-Ok-true.ensures.answer u.given.no_fault opened) in
    let P : ℕ → Type 0 = λ n. TickComes (tick_of c.args.machine.now c.next.new.row n) (c.given-tick.result - 1) c.args.machine.now c.do_tick.new.machine c.args.worst.now c.do_tick.new.worst
    (g.O.Sink.told c.args.out.now) (g.O.Sink.told c.do_tick.new.out) c.do_tick.result in
    steps start rows c.next.new.row (c.given-tick.result - 1) c.args.machine.now c.do_tick.new.machine c.args.reader.now c.next.new.self c.args.worst.now c.do_tick.new.worst
    (g.I.Source.told c.args.input.now) (g.I.Source.told c.next.new.input) (g.O.Sink.told c.args.out.now) (g.O.Sink.told c.do_tick.new.out) c.do_tick.result
    u opened gave c.in-Ok-true.ensures.stays c.next.ensures.few_kept (omega (arith, c.given-tick.ensures, ap (λ t. t.given) gave.reader)) (subst P (sym most) c.do_tick.ensures.comes)

pub returns-in-Ok-false-clause-comes : goal.returns-in-Ok-false-clause-comes
returns-in-Ok-false-clause-comes g c start rows most u =
    let Q : Bool → Type 0 = λ b. Next c.args.reader.now c.next.new.self (g.I.Source.told c.args.input.now) (g.I.Source.told c.next.new.input) c.next.new.row (Ok b) in
    says_worst start rows c.args.machine.now c.args.reader.now c.next.new.self c.args.worst.now c.given.result
    (g.I.Source.told c.args.input.now) (g.I.Source.told c.next.new.input) (g.O.Sink.told c.args.out.now) (g.O.Sink.told c.say_worst.new.out) c.say_worst.result u
    (read_by _ _ c.args.reader.now c.next.new.self (g.I.Source.told c.args.input.now) (g.I.Source.told c.next.new.input) rows c.args.reader.now.ended refl u.given
    (λ e. let again = c.in-Ok-false.ensures.end_again u.given.no_fault e in (again.1, ap g.I.Source.told again.2))
    (λ e. subst Q c.in-Ok-false.field-0-test (c.in-Ok-false.ensures.answer u.given.no_fault e)) c.requires.kept c.next.ensures.few_kept)
    c.in-Ok-false.ensures.stays c.given.ensures c.say_worst.ensures

pub returns-in-Err-Refused-clause-comes : goal.returns-in-Err-Refused-clause-comes
returns-in-Err-Refused-clause-comes g c start rows most u =
    let opened = opened_by c.args.reader.now.ended (λ e. cc ((c.in-Err-Refused.ensures.end_again u.given.no_fault e).0)) in
    let Q : TraceFault → Type 0 = λ f. Next c.args.reader.now c.next.new.self (g.I.Source.told c.args.input.now) (g.I.Source.told c.next.new.input) c.next.new.row (Err f) in
    let S : TraceFault → Type 0 = λ f. Stays (g.I.Source.told c.args.input.now).faults (g.I.Source.told c.next.new.input).faults (Err f) in
    let bad = subst Q c.in-Err-Refused.field-0-is (c.in-Err-Refused.ensures.answer u.given.no_fault opened) in
    says_bad start rows c.args.machine.now c.args.reader.now c.next.new.self c.args.worst.now c.in-Err-Refused.rule c.in-Err-Refused.line
    (g.I.Source.told c.args.input.now) (g.I.Source.told c.next.new.input) (g.O.Sink.told c.args.out.now) (g.O.Sink.told c.say.new.out) c.say.result u bad
    c.next.ensures.few_kept (subst S c.in-Err-Refused.field-0-is c.in-Err-Refused.ensures.stays) c.say.ensures

pub returns-in-Err-ReadFault-clause-comes : goal.returns-in-Err-ReadFault-clause-comes
returns-in-Err-ReadFault-clause-comes g c start rows most u =
    let opened = opened_by c.args.reader.now.ended (λ e. cc ((c.in-Err-ReadFault.ensures.end_again u.given.no_fault e).0)) in
    let Q : TraceFault → Type 0 = λ f. Next c.args.reader.now c.next.new.self (g.I.Source.told c.args.input.now) (g.I.Source.told c.next.new.input) c.next.new.row (Err f) in
    let fault = subst Q c.in-Err-ReadFault.field-0-is (c.in-Err-ReadFault.ensures.answer u.given.no_fault opened) in
    says_fault start rows c.args.machine.now c.args.reader.now c.next.new.self c.args.worst.now
    (g.I.Source.told c.args.input.now) (g.I.Source.told c.next.new.input) (g.O.Sink.told c.args.out.now) (g.O.Sink.told c.say-in-Err-ReadFault.new.out) c.say-in-Err-ReadFault.result u opened fault
    c.next.ensures.later c.next.ensures.few_kept c.say-in-Err-ReadFault.ensures

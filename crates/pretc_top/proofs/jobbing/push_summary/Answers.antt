use Rattle.std.proofs.Common.{ℕ, List, [], ◌∷◌, subst}
use Rattle.pretc_run.specs.Writing.{Wrote, BrokeOff}
use Rattle.pretc_top.proofs.Jobs.{second_broke, third_broke}
use Rattle.pretc_top.proofs.jobbing.push_summary.Goals as goal

pub returns-in-Err-push_line : goal.returns-in-Err-push_line
returns-in-Err-push_line g c =
    let W : List ℕ → Type 0 = λ l. Wrote (g.O.Sink.told c.args.out.now) (g.O.Sink.told c.push_line.new.out) (l ∷ []) in
    let B : List ℕ → Type 0 = λ l. BrokeOff (g.O.Sink.told c.push_line.new.out) (g.O.Sink.told c.push_line-2.new.out) [] l in
    second_broke (Unit {0}) c.args.summary.now.threads c.args.summary.now.bound c.args.summary.now.totals (g.O.Sink.told c.args.out.now)
    (g.O.Sink.told c.push_line.new.out) (g.O.Sink.told c.push_line-2.new.out) c.in-Err-push_line.failed
    (subst W c.bytes.ensures c.in-Ok.ensures.wrote) (subst B c.bytes-2.ensures c.in-Err-push_line.ensures.broke)

pub returns-in-Err-push_line-2 : goal.returns-in-Err-push_line-2
returns-in-Err-push_line-2 g c =
    let W : List ℕ → Type 0 = λ l. Wrote (g.O.Sink.told c.args.out.now) (g.O.Sink.told c.push_line.new.out) (l ∷ []) in
    let V : List ℕ → Type 0 = λ l. Wrote (g.O.Sink.told c.push_line.new.out) (g.O.Sink.told c.push_line-2.new.out) (l ∷ []) in
    let B : List ℕ → Type 0 = λ l. BrokeOff (g.O.Sink.told c.push_line-2.new.out) (g.O.Sink.told c.push_line-3.new.out) [] l in
    third_broke (Unit {0}) c.args.summary.now.threads c.args.summary.now.bound c.args.summary.now.totals (g.O.Sink.told c.args.out.now)
    (g.O.Sink.told c.push_line.new.out) (g.O.Sink.told c.push_line-2.new.out) (g.O.Sink.told c.push_line-3.new.out) c.in-Err-push_line-2.failed
    (subst W c.bytes.ensures c.in-Ok.ensures.wrote) (subst V c.bytes-2.ensures c.in-Ok-push_line.ensures.wrote)
    (subst B c.bytes-3.ensures c.in-Err-push_line-2.ensures.broke)

use Rattle.std.proofs.Common.{List, ℕ, take, drop, sym, subst}
use Rattle.pretc_top.proofs.Lines.{IsPushed, pushed_none, pushed_more, pushed_all, pushed_front, no_rest}
use Rattle.pretc_top.proofs.printing.push_lines.Goals as goal

pub lines-init : goal.lines-init
lines-init g c = pushed_none c.args.text.now (g.O.Sink.told c.args.out.now)

pub returns-in-Err : goal.returns-in-Err
returns-in-Err g c =
    pushed_front (Unit {0}) c.args.text.now c.lines.rest.now (take c.line_length-n.result c.lines.rest.now) (drop c.line_length-n.result c.lines.rest.now) (g.O.Sink.told c.args.out.now) (g.O.Sink.told c.lines.out)
    (g.O.Sink.told c.push_line.new.out) c.in-Err.failed c.lines.invariant c.line_length-n.ensures.first c.in-Err.ensures.broke

pub lines-preserved : goal.lines-preserved
lines-preserved g c =
    let P : List ℕ → Type 0 = λ rest. IsPushed c.args.text.now rest (g.O.Sink.told c.args.out.now) (g.O.Sink.told c.push_line.new.out) in
    subst P (sym c.behind-rest.ensures)
    (pushed_more c.args.text.now c.lines.rest.now (take c.line_length-n.result c.lines.rest.now) (drop c.line_length-n.result c.lines.rest.now) (g.O.Sink.told c.args.out.now) (g.O.Sink.told c.lines.out)
    (g.O.Sink.told c.push_line.new.out) c.lines.invariant c.line_length-n.ensures.first c.in-Ok.ensures.wrote)

pub returns : goal.returns
returns g c = pushed_all c.args.text.now c.lines.rest.now (g.O.Sink.told c.args.out.now) (g.O.Sink.told c.lines.out) c.lines.invariant (no_rest c.lines.rest.now c.lines-test.false)

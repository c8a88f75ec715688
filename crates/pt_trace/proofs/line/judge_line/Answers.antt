use Rattle.std.proofs.Common.{None, length, sym, ◌∙◌}
use Rattle.pt_trace.specs.Trace.{Line, Refused, Row, words, numbers, content}
use Rattle.pt_trace.proofs.Scanning.{no_count, same_count, other_count, judged-is, line_scanned}
use Rattle.pt_trace.proofs.line.judge_line.Goals as goal

pub returns-in-None : goal.returns-in-None
returns-in-None c =
    let l : Line = record { bytes = c.args.line.now; ended = c.args.ended } in
    judged-is (length c.args.row.now) c.args.number l (Refused 1) c.if-number-gt1000000.false c.if-line-gt1024.false
    (no_count c.args.row.now (numbers (words (content l))) (line_scanned l c.without_return.result.now c.args.row.now None c.without_return.ensures (c.in-None.ensures {u = tt})) (length c.args.row.now))

pub returns-then-count-row : goal.returns-then-count-row
returns-then-count-row c =
    let l : Line = record { bytes = c.args.line.now; ended = c.args.ended } in
    judged-is (length c.args.row.now) c.args.number l (Row c.scan_line.new.row) c.if-number-gt1000000.false c.if-line-gt1024.false
    (same_count c.args.row.now c.scan_line.new.row c.in-Some.count (numbers (words (content l)))
    (line_scanned l c.without_return.result.now c.args.row.now _ c.without_return.ensures (c.in-Some.ensures {u = tt}))
    (c.if-count-row.true ∙ c.scan_line.auto.row))

pub returns-else-count-row : goal.returns-else-count-row
returns-else-count-row c =
    let l : Line = record { bytes = c.args.line.now; ended = c.args.ended } in
    judged-is (length c.args.row.now) c.args.number l (Refused 2) c.if-number-gt1000000.false c.if-line-gt1024.false
    (other_count c.args.row.now c.scan_line.new.row c.in-Some.count (numbers (words (content l)))
    (line_scanned l c.without_return.result.now c.args.row.now _ c.without_return.ensures (c.in-Some.ensures {u = tt}))
    (λ e. c.if-count-row.false (e ∙ sym c.scan_line.auto.row)))

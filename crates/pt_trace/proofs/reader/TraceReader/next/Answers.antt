use Rattle.std.proofs.Common.{◌<◌, ◌+◌, ℕ, List, length, sym, ap, refl, ◌∙◌, arith}
use Rattle.std.proofs.lemmas.List.{drop_all}
use Rattle.pt_trace.specs.Next.{Reader}
use Rattle.pt_trace.proofs.Answering.{refuses, refuses-ended, refuses-last, gave-ended, gave-last}
use Rattle.pt_trace.proofs.Cutting.{early}
use Rattle.pt_trace.proofs.reader.TraceReader.next.Goals as goal

pub returns-in-Some-judge_line-clause-answer : goal.returns-in-Some-judge_line-clause-answer
returns-in-Some-judge_line-clause-answer g c none opened =
    let found = rw c.in-Ok-LineFeed.field-0-is at (c.in-Ok-LineFeed.ensures {u = tt}).found in
    rw (← c.self.view_is)
    (refuses-ended _ _ _ _ c.bytes.result.now _ c.in-Ok-LineFeed.at _ _ c.gather.ensures.unread found
    c.bytes.ensures.all (c.requires ∙ ap (λ (r : Reader). r.width) (sym c.self.view_is)) refl (c.in-Some-judge_line.ensures {u = tt}) refl)

pub returns-in-Some-judge_line-2-clause-answer : goal.returns-in-Some-judge_line-2-clause-answer
returns-in-Some-judge_line-2-clause-answer g c none opened =
    let found = rw c.in-Ok-End.field-0-is at (c.in-Ok-End.ensures {u = tt}).found in
    let some : 0 < length c.gather.new.kept = omega (arith, c.if-count-eq0.false, ap (λ (xs : List ℕ). length xs) c.bytes-count.ensures.all) in
    rw (← c.self.view_is)
    (refuses-last _ _ _ _ c.bytes-in-Ok-End.result.now _ _ _ c.gather.ensures.unread found.at_end found.no_line_feed some
    c.bytes-in-Ok-End.ensures.all (c.requires ∙ ap (λ (r : Reader). r.width) (sym c.self.view_is)) refl (c.in-Some-judge_line-2.ensures {u = tt}) refl)

pub returns-in-Ok-Long-clause-answer : goal.returns-in-Ok-Long-clause-answer
returns-in-Ok-Long-clause-answer g c none opened =
    let found = rw c.in-Ok-Long.field-0-is at (c.in-Ok-Long.ensures {u = tt}).found in
    let is = early _ _ c.gather.new.kept c.self.inside.width (c.self.inside.given + 1) c.most_of.result c.early_rule.result c.gather.ensures.unread found.no_line_feed c.most_of.ensures.exact c.early_rule.ensures found.more in
    rw (← c.self.view_is) (refuses _ _ _ _ _ _ _ is.line is.first c.gather.ensures.unread refl refl (sym is.refused) refl)

pub returns-in_default-judge_line-clause-answer : goal.returns-in_default-judge_line-clause-answer
returns-in_default-judge_line-clause-answer g c none opened =
    let found = rw c.in-Ok-LineFeed.field-0-is at (c.in-Ok-LineFeed.ensures {u = tt}).found in
    rw (← c.self.view_is)
    (gave-ended _ _ _ _ c.gather.new.kept c.bytes.result.now _ _ c.in-Ok-LineFeed.at c.gather.ensures.unread found
    c.bytes.ensures.all (c.requires ∙ ap (λ (r : Reader). r.width) (sym c.self.view_is)) (c.in_default-judge_line.ensures {u = tt}) refl c.if-self.false c.drop_front.ensures.after)

pub returns-in_default-judge_line-2-clause-answer :
    goal.returns-in_default-judge_line-2-clause-answer
returns-in_default-judge_line-2-clause-answer g c none opened =
    let found = rw c.in-Ok-End.field-0-is at (c.in-Ok-End.ensures {u = tt}).found in
    let some : 0 < length c.gather.new.kept = omega (arith, c.if-count-eq0.false, ap (λ (xs : List ℕ). length xs) c.bytes-count.ensures.all) in
    rw (← c.self.view_is)
    (gave-last _ _ _ _ c.gather.new.kept c.bytes-in-Ok-End.result.now _ _ c.gather.ensures.unread found.at_end found.no_line_feed some
    c.bytes-in-Ok-End.ensures.all (c.requires ∙ ap (λ (r : Reader). r.width) (sym c.self.view_is)) (c.in_default-judge_line-2.ensures {u = tt}) refl refl
    (c.drop_front-in-Ok-End.ensures.after ∙ drop_all (length c.bytes-count.result.now) c.gather.new.kept (omega (arith, ap (λ (xs : List ℕ). length xs) c.bytes-count.ensures.all))))

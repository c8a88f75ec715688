use Rattle.std.proofs.Common.{◌+◌, ◌-◌, ◌∙◌, ap, sym, arith, rules}
use Rattle.std.proofs.lemmas.Result.{err_from_is_err_and}
use Rattle.std.specs.Option.{option_copied}
use Rattle.tk_paths.specs.Dearest.{entries}
use Rattle.tk_paths.specs.Greatest.{ending_sum, joined, paused, pausing_sum, waited}
use Rattle.tk_paths.specs.Told.{joined_ended, joined_paused, told_by}
use Rattle.tk_paths.proofs.Rooms.{small-left, small-right}
use Rattle.tk_paths.proofs.SmallLaws.{tested-inner}
use Rattle.tk_analyse.specs.Begun.{child_slot, cut_in, groups, slots, waited_cut, waited_joined}
use Rattle.tk_plans.specs.Plans.{plans}
use Rattle.tk_analyse.proofs.BegunLaws.{more_begun, one_states, one_answers, one_choices, slot_forks, slot_pauses, uncut_is, cut_off, pair_some, cut_how, waited_states, same_states, same_answers, same_choices}
use Rattle.tk_analyse.proofs.PointLaws.{best_small, waits_of}
use Rattle.tk_analyse.proofs.slots.+slot.Goals as goal

pub cut_slot-returns-clause-states : goal.cut_slot-returns-clause-states
cut_slot-returns-clause-states t c =
    let a = c.args in
    let T = told_by a.lines.now a.bounds.now in
    let how =
    cut_how c.in_ok-all_end.all_end c.in_ok-one_pauses.one_pauses (ending_sum a.image.now T a.costs.now a.first a.count) (pausing_sum a.image.now T a.costs.now a.first a.count)
    c.is_second.result c.group_of-how.result c.in_ok-all_end.ensures.exact c.in_ok-one_pauses.ensures.exact c.is_second.ensures c.group_of-how.ensures in
    waited_states a.slot a.p.now.at a.first (entries a.image.now a.p.now.stack)
    (λ g. groups a.image.now a.lines.now a.bounds.now a.costs.now a.program.now a.most a.deep g a.first a.count) c.group_of-how.result _ _ _ _ how
    c.stand.ensures c.in_ok-group.ensures.states

pub joined_slot-returns-clause-states : goal.joined_slot-returns-clause-states
joined_slot-returns-clause-states t c =
    let a = c.args in
    waited_states a.slot a.p.now.at a.first (entries a.image.now a.p.now.stack)
    (λ g. groups a.image.now a.lines.now a.bounds.now a.costs.now a.program.now a.most a.deep g a.first a.count) c.group_of-how.result _ _ _ _
    c.group_of-how.ensures c.stand.ensures c.in_ok-group.ensures.states

pub group-returns-clause-states : goal.group-returns-clause-states
group-returns-clause-states t c =
    let a = c.args in
    let next = plans a.image.now a.lines.now a.bounds.now a.costs.now a.program.now a.most in
    let whole =
    more_begun a.image.now (told_by a.lines.now a.bounds.now) a.costs.now next (slots a.image.now a.lines.now a.bounds.now a.costs.now a.program.now a.most a.deep)
    a.how c.behind_child-others.result a.child a.count c.in_ok-ends.ends c.resumed_side-side.result (omega arith) c.in_ok-ends.ensures.exact
    c.resumed_side-side.ensures c.behind_child-others.ensures in
    one_states (groups a.image.now a.lines.now a.bounds.now a.costs.now a.program.now a.most a.deep a.how a.child a.count)
    (child_slot a.image.now a.lines.now a.bounds.now a.costs.now a.program.now a.most a.deep a.child c.resumed_side-side.result)
    (groups a.image.now a.lines.now a.bounds.now a.costs.now a.program.now a.most a.deep c.behind_child-others.result (a.child + 1) (a.count - 1))
    whole c.args.child _ _ _ c.in_ok-child_slot.ensures.states c.in_ok-group.ensures.states

pub group-returns-clause-answers : goal.group-returns-clause-answers
group-returns-clause-answers t c =
    let a = c.args in
    let next = plans a.image.now a.lines.now a.bounds.now a.costs.now a.program.now a.most in
    let whole =
    more_begun a.image.now (told_by a.lines.now a.bounds.now) a.costs.now next (slots a.image.now a.lines.now a.bounds.now a.costs.now a.program.now a.most a.deep)
    a.how c.behind_child-others.result a.child a.count c.in_ok-ends.ends c.resumed_side-side.result (omega arith) c.in_ok-ends.ensures.exact
    c.resumed_side-side.ensures c.behind_child-others.ensures in
    one_answers (groups a.image.now a.lines.now a.bounds.now a.costs.now a.program.now a.most a.deep a.how a.child a.count)
    (child_slot a.image.now a.lines.now a.bounds.now a.costs.now a.program.now a.most a.deep a.child c.resumed_side-side.result)
    (groups a.image.now a.lines.now a.bounds.now a.costs.now a.program.now a.most a.deep c.behind_child-others.result (a.child + 1) (a.count - 1))
    whole _ _ _ c.in_ok-child_slot.ensures.answers c.in_ok-group.ensures.answers

pub group-returns-clause-choices : goal.group-returns-clause-choices
group-returns-clause-choices t c =
    let a = c.args in
    let next = plans a.image.now a.lines.now a.bounds.now a.costs.now a.program.now a.most in
    let whole =
    more_begun a.image.now (told_by a.lines.now a.bounds.now) a.costs.now next (slots a.image.now a.lines.now a.bounds.now a.costs.now a.program.now a.most a.deep)
    a.how c.behind_child-others.result a.child a.count c.in_ok-ends.ends c.resumed_side-side.result (omega arith) c.in_ok-ends.ensures.exact
    c.resumed_side-side.ensures c.behind_child-others.ensures in
    one_choices (groups a.image.now a.lines.now a.bounds.now a.costs.now a.program.now a.most a.deep a.how a.child a.count)
    (child_slot a.image.now a.lines.now a.bounds.now a.costs.now a.program.now a.most a.deep a.child c.resumed_side-side.result)
    (groups a.image.now a.lines.now a.bounds.now a.costs.now a.program.now a.most a.deep c.behind_child-others.result (a.child + 1) (a.count - 1))
    whole _ _ _ c.in_ok-child_slot.ensures.choices c.in_ok-group.ensures.choices

pub slot-returns-then-waits-clause-states : goal.slot-returns-then-waits-clause-states
slot-returns-then-waits-clause-states t c =
    let a = c.args in
    let next = plans a.image.now a.lines.now a.bounds.now a.costs.now a.program.now a.most in
    let whole =
    slot_forks a.image.now (told_by a.lines.now a.bounds.now) a.costs.now next a.deep a.slot a.side c.in_ok-pausing.pausing c.in_ok-waiting.waiting
    c.is_second-waits.result (option_copied c.in_ok-fork.fork) (omega arith) c.in_ok-pausing.ensures.exact c.in_ok-waiting.ensures.exact c.is_second-waits.ensures c.if-waits.true
    c.in_ok-fork.ensures.best in
    same_states _ _ whole a.slot _ _ c.in_ok-fork_at.ensures.states

pub slot-returns-then-waits-clause-answers : goal.slot-returns-then-waits-clause-answers
slot-returns-then-waits-clause-answers t c =
    let a = c.args in
    let next = plans a.image.now a.lines.now a.bounds.now a.costs.now a.program.now a.most in
    let whole =
    slot_forks a.image.now (told_by a.lines.now a.bounds.now) a.costs.now next a.deep a.slot a.side c.in_ok-pausing.pausing c.in_ok-waiting.waiting
    c.is_second-waits.result (option_copied c.in_ok-fork.fork) (omega arith) c.in_ok-pausing.ensures.exact c.in_ok-waiting.ensures.exact c.is_second-waits.ensures c.if-waits.true
    c.in_ok-fork.ensures.best in
    same_answers _ _ whole _ _ c.in_ok-fork_at.ensures.answers

pub slot-returns-then-waits-clause-choices : goal.slot-returns-then-waits-clause-choices
slot-returns-then-waits-clause-choices t c =
    let a = c.args in
    let next = plans a.image.now a.lines.now a.bounds.now a.costs.now a.program.now a.most in
    let whole =
    slot_forks a.image.now (told_by a.lines.now a.bounds.now) a.costs.now next a.deep a.slot a.side c.in_ok-pausing.pausing c.in_ok-waiting.waiting
    c.is_second-waits.result (option_copied c.in_ok-fork.fork) (omega arith) c.in_ok-pausing.ensures.exact c.in_ok-waiting.ensures.exact c.is_second-waits.ensures c.if-waits.true
    c.in_ok-fork.ensures.best in
    same_choices _ _ whole _ _ c.in_ok-fork_at.ensures.choices

pub slot-returns-clause-states : goal.slot-returns-clause-states
slot-returns-clause-states t c =
    let a = c.args in
    let next = plans a.image.now a.lines.now a.bounds.now a.costs.now a.program.now a.most in
    let whole =
    slot_pauses a.image.now (told_by a.lines.now a.bounds.now) a.costs.now next a.deep a.slot a.side c.in_ok-pausing.pausing c.in_ok-waiting.waiting
    c.is_second-waits.result (option_copied c.in_ok-pause.pause) (omega arith) c.in_ok-pausing.ensures.exact c.in_ok-waiting.ensures.exact c.is_second-waits.ensures c.if-waits.false
    c.in_ok-pause.ensures.best in
    same_states _ _ whole a.slot _ _ c.in_ok-pause_at.ensures.states

pub slot-returns-clause-answers : goal.slot-returns-clause-answers
slot-returns-clause-answers t c =
    let a = c.args in
    let next = plans a.image.now a.lines.now a.bounds.now a.costs.now a.program.now a.most in
    let whole =
    slot_pauses a.image.now (told_by a.lines.now a.bounds.now) a.costs.now next a.deep a.slot a.side c.in_ok-pausing.pausing c.in_ok-waiting.waiting
    c.is_second-waits.result (option_copied c.in_ok-pause.pause) (omega arith) c.in_ok-pausing.ensures.exact c.in_ok-waiting.ensures.exact c.is_second-waits.ensures c.if-waits.false
    c.in_ok-pause.ensures.best in
    same_answers _ _ whole _ _ c.in_ok-pause_at.ensures.answers

pub slot-returns-clause-choices : goal.slot-returns-clause-choices
slot-returns-clause-choices t c =
    let a = c.args in
    let next = plans a.image.now a.lines.now a.bounds.now a.costs.now a.program.now a.most in
    let whole =
    slot_pauses a.image.now (told_by a.lines.now a.bounds.now) a.costs.now next a.deep a.slot a.side c.in_ok-pausing.pausing c.in_ok-waiting.waiting
    c.is_second-waits.result (option_copied c.in_ok-pause.pause) (omega arith) c.in_ok-pausing.ensures.exact c.in_ok-waiting.ensures.exact c.is_second-waits.ensures c.if-waits.false
    c.in_ok-pause.ensures.best in
    same_choices _ _ whole _ _ c.in_ok-pause_at.ensures.choices

pub waiting_slot-returns-in_ok-joined_slot-in-None-clause-states : goal.waiting_slot-returns-in_ok-joined_slot-in-None-clause-states
waiting_slot-returns-in_ok-joined_slot-in-None-clause-states t c =
    let a = c.args in
    let next = plans a.image.now a.lines.now a.bounds.now a.costs.now a.program.now a.most in
    let T = told_by a.lines.now a.bounds.now in
    let cut =
    c.in_ok-cut.ensures.exact ∙ ap (λ l. cut_in a.image.now T a.costs.now a.side 0 l c.greater-inner.result) c.items-stack.ensures
    ∙ ap (cut_in a.image.now T a.costs.now a.side 0 a.p.now.stack) c.greater-inner.ensures in
    let whole =
    uncut_is a.image.now T a.costs.now next (slots a.image.now a.lines.now a.bounds.now a.costs.now a.program.now a.most a.deep) a.side a.p.now a.lo a.count
    c.in_ok-cut.cut c.in_ok-pausing.pausing c.in_ok-ending.ending c.is_second-joined.result c.in_ok-pausing.ensures.exact c.in_ok-ending.ensures.exact cut c.in-None.is c.is_second-joined.ensures
    ∙ ap (λ z. waited_joined a.image.now a.lines.now a.bounds.now a.costs.now a.program.now a.most a.deep a.side a.p.now z a.count c.is_second-joined.result) (sym c.from-first.ensures)
    ∙ ap (λ z. waited_joined a.image.now a.lines.now a.bounds.now a.costs.now a.program.now a.most a.deep a.side a.p.now c.from-first.result z c.is_second-joined.result) (sym c.from-children.ensures) in
    same_states _ _ whole a.slot _ _ c.in_ok-joined_slot-in-None.ensures.states

pub waiting_slot-returns-in_ok-joined_slot-in-None-clause-answers : goal.waiting_slot-returns-in_ok-joined_slot-in-None-clause-answers
waiting_slot-returns-in_ok-joined_slot-in-None-clause-answers t c =
    let a = c.args in
    let next = plans a.image.now a.lines.now a.bounds.now a.costs.now a.program.now a.most in
    let T = told_by a.lines.now a.bounds.now in
    let cut =
    c.in_ok-cut.ensures.exact ∙ ap (λ l. cut_in a.image.now T a.costs.now a.side 0 l c.greater-inner.result) c.items-stack.ensures
    ∙ ap (cut_in a.image.now T a.costs.now a.side 0 a.p.now.stack) c.greater-inner.ensures in
    let whole =
    uncut_is a.image.now T a.costs.now next (slots a.image.now a.lines.now a.bounds.now a.costs.now a.program.now a.most a.deep) a.side a.p.now a.lo a.count
    c.in_ok-cut.cut c.in_ok-pausing.pausing c.in_ok-ending.ending c.is_second-joined.result c.in_ok-pausing.ensures.exact c.in_ok-ending.ensures.exact cut c.in-None.is c.is_second-joined.ensures
    ∙ ap (λ z. waited_joined a.image.now a.lines.now a.bounds.now a.costs.now a.program.now a.most a.deep a.side a.p.now z a.count c.is_second-joined.result) (sym c.from-first.ensures)
    ∙ ap (λ z. waited_joined a.image.now a.lines.now a.bounds.now a.costs.now a.program.now a.most a.deep a.side a.p.now c.from-first.result z c.is_second-joined.result) (sym c.from-children.ensures) in
    same_answers _ _ whole _ _ c.in_ok-joined_slot-in-None.ensures.answers

pub waiting_slot-returns-in_ok-joined_slot-in-None-clause-choices : goal.waiting_slot-returns-in_ok-joined_slot-in-None-clause-choices
waiting_slot-returns-in_ok-joined_slot-in-None-clause-choices t c =
    let a = c.args in
    let next = plans a.image.now a.lines.now a.bounds.now a.costs.now a.program.now a.most in
    let T = told_by a.lines.now a.bounds.now in
    let cut =
    c.in_ok-cut.ensures.exact ∙ ap (λ l. cut_in a.image.now T a.costs.now a.side 0 l c.greater-inner.result) c.items-stack.ensures
    ∙ ap (cut_in a.image.now T a.costs.now a.side 0 a.p.now.stack) c.greater-inner.ensures in
    let whole =
    uncut_is a.image.now T a.costs.now next (slots a.image.now a.lines.now a.bounds.now a.costs.now a.program.now a.most a.deep) a.side a.p.now a.lo a.count
    c.in_ok-cut.cut c.in_ok-pausing.pausing c.in_ok-ending.ending c.is_second-joined.result c.in_ok-pausing.ensures.exact c.in_ok-ending.ensures.exact cut c.in-None.is c.is_second-joined.ensures
    ∙ ap (λ z. waited_joined a.image.now a.lines.now a.bounds.now a.costs.now a.program.now a.most a.deep a.side a.p.now z a.count c.is_second-joined.result) (sym c.from-first.ensures)
    ∙ ap (λ z. waited_joined a.image.now a.lines.now a.bounds.now a.costs.now a.program.now a.most a.deep a.side a.p.now c.from-first.result z c.is_second-joined.result) (sym c.from-children.ensures) in
    same_choices _ _ whole _ _ c.in_ok-joined_slot-in-None.ensures.choices

pub waiting_slot-returns-in_ok-cut_slot-in-Some-clause-states : goal.waiting_slot-returns-in_ok-cut_slot-in-Some-clause-states
waiting_slot-returns-in_ok-cut_slot-in-Some-clause-states t c =
    let a = c.args in
    let next = plans a.image.now a.lines.now a.bounds.now a.costs.now a.program.now a.most in
    let T = told_by a.lines.now a.bounds.now in
    let cut =
    c.in_ok-cut.ensures.exact ∙ ap (λ l. cut_in a.image.now T a.costs.now a.side 0 l c.greater-inner.result) c.items-stack.ensures
    ∙ ap (cut_in a.image.now T a.costs.now a.side 0 a.p.now.stack) c.greater-inner.ensures in
    let whole =
    cut_off a.image.now T a.costs.now next (slots a.image.now a.lines.now a.bounds.now a.costs.now a.program.now a.most a.deep) a.side a.p.now a.lo a.count
    c.in_ok-cut.cut c.in_ok-pausing.pausing c.in_ok-ending.ending c.in-Some.handler c.in-Some.level c.in_ok-pausing.ensures.exact c.in_ok-ending.ensures.exact cut (pair_some c.in_ok-cut.cut _ c.in-Some.handler c.in-Some.level c.in-Some.is c.in-Some.handler-is c.in-Some.level-is)
    ∙ ap (λ z. waited_cut a.image.now a.lines.now a.bounds.now a.costs.now a.program.now a.most a.deep a.side a.p.now z a.count c.in-Some.handler c.in-Some.level) (sym c.from-first.ensures)
    ∙ ap (λ z. waited_cut a.image.now a.lines.now a.bounds.now a.costs.now a.program.now a.most a.deep a.side a.p.now c.from-first.result z c.in-Some.handler c.in-Some.level) (sym c.from-children.ensures) in
    same_states _ _ whole a.slot _ _ c.in_ok-cut_slot-in-Some.ensures.states

pub waiting_slot-returns-in_ok-cut_slot-in-Some-clause-answers : goal.waiting_slot-returns-in_ok-cut_slot-in-Some-clause-answers
waiting_slot-returns-in_ok-cut_slot-in-Some-clause-answers t c =
    let a = c.args in
    let next = plans a.image.now a.lines.now a.bounds.now a.costs.now a.program.now a.most in
    let T = told_by a.lines.now a.bounds.now in
    let cut =
    c.in_ok-cut.ensures.exact ∙ ap (λ l. cut_in a.image.now T a.costs.now a.side 0 l c.greater-inner.result) c.items-stack.ensures
    ∙ ap (cut_in a.image.now T a.costs.now a.side 0 a.p.now.stack) c.greater-inner.ensures in
    let whole =
    cut_off a.image.now T a.costs.now next (slots a.image.now a.lines.now a.bounds.now a.costs.now a.program.now a.most a.deep) a.side a.p.now a.lo a.count
    c.in_ok-cut.cut c.in_ok-pausing.pausing c.in_ok-ending.ending c.in-Some.handler c.in-Some.level c.in_ok-pausing.ensures.exact c.in_ok-ending.ensures.exact cut (pair_some c.in_ok-cut.cut _ c.in-Some.handler c.in-Some.level c.in-Some.is c.in-Some.handler-is c.in-Some.level-is)
    ∙ ap (λ z. waited_cut a.image.now a.lines.now a.bounds.now a.costs.now a.program.now a.most a.deep a.side a.p.now z a.count c.in-Some.handler c.in-Some.level) (sym c.from-first.ensures)
    ∙ ap (λ z. waited_cut a.image.now a.lines.now a.bounds.now a.costs.now a.program.now a.most a.deep a.side a.p.now c.from-first.result z c.in-Some.handler c.in-Some.level) (sym c.from-children.ensures) in
    same_answers _ _ whole _ _ c.in_ok-cut_slot-in-Some.ensures.answers

pub waiting_slot-returns-in_ok-cut_slot-in-Some-clause-choices : goal.waiting_slot-returns-in_ok-cut_slot-in-Some-clause-choices
waiting_slot-returns-in_ok-cut_slot-in-Some-clause-choices t c =
    let a = c.args in
    let next = plans a.image.now a.lines.now a.bounds.now a.costs.now a.program.now a.most in
    let T = told_by a.lines.now a.bounds.now in
    let cut =
    c.in_ok-cut.ensures.exact ∙ ap (λ l. cut_in a.image.now T a.costs.now a.side 0 l c.greater-inner.result) c.items-stack.ensures
    ∙ ap (cut_in a.image.now T a.costs.now a.side 0 a.p.now.stack) c.greater-inner.ensures in
    let whole =
    cut_off a.image.now T a.costs.now next (slots a.image.now a.lines.now a.bounds.now a.costs.now a.program.now a.most a.deep) a.side a.p.now a.lo a.count
    c.in_ok-cut.cut c.in_ok-pausing.pausing c.in_ok-ending.ending c.in-Some.handler c.in-Some.level c.in_ok-pausing.ensures.exact c.in_ok-ending.ensures.exact cut (pair_some c.in_ok-cut.cut _ c.in-Some.handler c.in-Some.level c.in-Some.is c.in-Some.handler-is c.in-Some.level-is)
    ∙ ap (λ z. waited_cut a.image.now a.lines.now a.bounds.now a.costs.now a.program.now a.most a.deep a.side a.p.now z a.count c.in-Some.handler c.in-Some.level) (sym c.from-first.ensures)
    ∙ ap (λ z. waited_cut a.image.now a.lines.now a.bounds.now a.costs.now a.program.now a.most a.deep a.side a.p.now c.from-first.result z c.in-Some.handler c.in-Some.level) (sym c.from-children.ensures) in
    same_choices _ _ whole _ _ c.in_ok-cut_slot-in-Some.ensures.choices

pub slot-returns-in_err-pausing-clause-only : goal.slot-returns-in_err-pausing-clause-only
slot-returns-in_err-pausing-clause-only t c =
    let a = c.args in
    let p = err_from_is_err_and c.from_residual.result c.from_residual.ensures.1 in
    rw (p.1, p.2) (c.in_err-pausing.ensures.fits
    (best_small (paused a.image.now (told_by a.lines.now a.bounds.now) a.costs.now a.side) a.slot a.image.now.pauses (c.requires.points.pauses a.side)))

pub slot-returns-in_err-waiting-clause-only : goal.slot-returns-in_err-waiting-clause-only
slot-returns-in_err-waiting-clause-only t c =
    let a = c.args in
    let p = err_from_is_err_and c.from_residual-in_err-waiting.result c.from_residual-in_err-waiting.ensures.1 in
    rw (p.1, p.2) (c.in_err-waiting.ensures.fits (waits_of a.image.now a.bounds.now a.slot a.image.now.forks c.requires.points.waits)
    (best_small (waited a.image.now (told_by a.lines.now a.bounds.now) a.costs.now a.side) a.slot a.image.now.forks (c.requires.points.forks a.side)))

pub slot-returns-in_err-fork-clause-only : goal.slot-returns-in_err-fork-clause-only
slot-returns-in_err-fork-clause-only t c =
    let p = err_from_is_err_and c.from_residual-in_err-fork.result c.from_residual-in_err-fork.ensures.1 in
    rw (p.1, p.2) (c.in_err-fork.ensures.fits (c.requires.points.forks c.args.side) c.requires.points.waits)

pub slot-returns-in_err-pause-clause-only : goal.slot-returns-in_err-pause-clause-only
slot-returns-in_err-pause-clause-only t c =
    let p = err_from_is_err_and c.from_residual-in_err-pause.result c.from_residual-in_err-pause.ensures.1 in
    rw (p.1, p.2) (c.in_err-pause.ensures.fits (c.requires.points.pauses c.args.side))

pub slot-fork_at-requires : goal.slot-fork_at-requires
slot-fork_at-requires t c =
    let small = c.in_ok-fork.ensures.small (c.requires.points.forks c.args.side) in
    let waits = c.in_ok-fork.ensures.waits c.requires.points.waits in
    (search rules, (c.requires.pieces, (c.requires.low, (c.requires.points, (c.in_ok-fork.ensures.few, (waits, small))))))

pub slot-pause_at-requires-clause-small : goal.slot-pause_at-requires-clause-small
slot-pause_at-requires-clause-small t c = c.in_ok-pause.ensures.small (c.requires.points.pauses c.args.side)

pub waiting_slot-returns-in_err-pausing-clause-only : goal.waiting_slot-returns-in_err-pausing-clause-only
waiting_slot-returns-in_err-pausing-clause-only t c =
    let a = c.args in
    let T = told_by a.lines.now a.bounds.now in
    let p = err_from_is_err_and c.from_residual.result c.from_residual.ensures.1 in
    let both = tested-inner a.image.now T a.costs.now a.side 0 a.p.now.stack (joined a.image.now T a.costs.now a.side a.p.now a.lo a.count) c.requires.small in
    rw (p.1, p.2) (c.in_err-pausing.ensures.fits c.requires.waits
    (small-left (joined_paused a.image.now T a.costs.now a.side a.p.now a.lo a.count) (joined_ended a.image.now T a.costs.now a.side a.p.now a.lo a.count) both))

pub waiting_slot-returns-in_err-ending-clause-only : goal.waiting_slot-returns-in_err-ending-clause-only
waiting_slot-returns-in_err-ending-clause-only t c =
    let a = c.args in
    let T = told_by a.lines.now a.bounds.now in
    let p = err_from_is_err_and c.from_residual-in_err-ending.result c.from_residual-in_err-ending.ensures.1 in
    let both = tested-inner a.image.now T a.costs.now a.side 0 a.p.now.stack (joined a.image.now T a.costs.now a.side a.p.now a.lo a.count) c.requires.small in
    rw (p.1, p.2) (c.in_err-ending.ensures.fits c.requires.waits
    (small-right (joined_paused a.image.now T a.costs.now a.side a.p.now a.lo a.count) (joined_ended a.image.now T a.costs.now a.side a.p.now a.lo a.count) both))

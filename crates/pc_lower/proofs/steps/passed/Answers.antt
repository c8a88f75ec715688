use Rattle.std.proofs.Common.{◌++◌, map, length, sym, ap, ◌∙◌, append-nil}
use Rattle.std.proofs.lemmas.Bool.{ltb-false}
use Rattle.pc_meaning.specs.Programs.{place_of}
use Rattle.pc_lower.proofs.Trees.{passed-past}
use Rattle.pc_lower.proofs.steps.passed.Goals as goal
use Rattle.std.proofs.Common.{drop}

pub returns-in_default : goal.returns-in_default
returns-in_default c =
    let rooms = c.args.rooms.now in
    let i = c.loop-i.i in
    let steps = c.loop-i.steps in
    let es = c.args.arguments.now in
    let past = ltb-false i (length es) (sym c.in_default.ensures.lookup.0) in
    sym (append-nil steps) ∙ ap (λ l. steps ++ l) (sym (passed-past rooms (map (place_of rooms) (drop i c.args.parameters.now)) es i past)) ∙ c.loop-i.invariant

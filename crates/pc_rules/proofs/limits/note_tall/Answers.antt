use Rattle.std.proofs.Common.{ap, sym, ◌∙◌, add-one}
use Rattle.pt_base.specs.First.{first_of}
use Rattle.pc_rules.proofs.Tall.{one_less, no_functions}
use Rattle.pc_rules.proofs.limits.note_tall.Goals as goal

pub loop-i-preserved : goal.loop-i-preserved
loop-i-preserved c =
    rw add-one
    (one_less c.args.functions.now c.args.heights.now c.loop-i.i c.index-functions-i.result c.loop-i.so_far c.note_if-so_far.result c.known_of.result c.is_tall.result
    c.index-functions-i.is c.loop-i-test.true c.known_of.ensures c.is_tall.ensures c.note_if-so_far.ensures
    ∙ c.loop-i.invariant)

pub returns : goal.returns
returns c = sym (ap (first_of c.loop-i.so_far) (no_functions c.args.functions.now c.args.heights.now c.loop-i.i c.loop-i-test.false)) ∙ c.loop-i.invariant

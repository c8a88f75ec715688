use Rattle.std.proofs.Common.{drop, length, sym, ◌∙◌}
use Rattle.std.proofs.lemmas.Bool.{ltb-false}
use Rattle.pc_meaning.proofs.Leaving.{set_all-past}
use Rattle.pc_meaning.proofs.ticking.sample.Goals as goal

pub returns-in_default-clause-current : goal.returns-in_default-clause-current
returns-in_default-clause-current c =
    let past = ltb-false c.loop-i.i (length c.args.row.now) (sym c.in_default.ensures.lookup.0) in
    sym (set_all-past (drop c.loop-i.i c.args.places.now) c.args.row.now c.loop-i.i c.loop-i.cells.current past) ∙ c.loop-i.invariant.current

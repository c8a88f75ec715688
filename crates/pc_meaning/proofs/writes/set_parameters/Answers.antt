use Rattle.std.proofs.Common.{drop, length, map, sym, ◌∙◌}
use Rattle.pc_meaning.specs.Programs.{place_of}
use Rattle.std.proofs.lemmas.Bool.{ltb-false}
use Rattle.pc_meaning.proofs.Leaving.{set_all-past}
use Rattle.pc_meaning.proofs.writes.set_parameters.Goals as goal

pub returns-in_default-clause-current : goal.returns-in_default-clause-current
returns-in_default-clause-current c =
    let past = ltb-false c.loop-i.i (length c.args.words.now) (sym c.in_default.ensures.lookup.0) in
    sym (set_all-past (map (place_of c.args.rooms.now) (drop c.loop-i.i c.args.parameters.now)) c.args.words.now c.loop-i.i c.loop-i.cells.current past) ∙ c.loop-i.invariant.current

use Rattle.std.proofs.Common.{map, sym, ap, ◌∙◌}
use Rattle.tk_paths.specs.Codes.{exit}
use Rattle.tk_paths.specs.Trees.{read_code}
use Rattle.tk_paths.proofs.Readings.{read-Sequence, codes-end}
use Rattle.tk_numbers.specs.Charges.{routines_in}
use Rattle.tk_threads.proofs.exits.+exit.Goals as goal

pub returns-in-Sequence-clause-exact : goal.returns-in-Sequence-clause-exact
returns-in-Sequence-clause-exact t c =
    let R = routines_in c.args.before.now in
    let e = c.in-Sequence in
    sym (codes-end e.to (map (read_code R) e.parts)) ∙ ap exit (sym (ap (read_code R) e.is ∙ read-Sequence R e.parts e.to))

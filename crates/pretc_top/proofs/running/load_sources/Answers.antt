use Rattle.pretc_top.specs.Run.{no_program, no_table}
use Rattle.pretc_top.proofs.Shelves.{costs_before, before_both, load_fails_after}
use Rattle.pretc_top.proofs.running.load_sources.Goals as goal

pub returns-in-Err-clause-failed : goal.returns-in-Err-clause-failed
returns-in-Err-clause-failed g c = no_program c.in-Err.ending c.in-Err.ensures.failed

pub returns-in-Ok-load_costs-clause-loaded : goal.returns-in-Ok-load_costs-clause-loaded
returns-in-Ok-load_costs-clause-loaded g c = record {
  program_held = c.in-Ok.ensures.held;
  costs_held = costs_before _ _ _ _ c.in-Ok.ensures.kept.files c.in-Ok-load_costs.ensures.held;
  kept = before_both _ _ _ c.in-Ok.ensures.kept c.in-Ok-load_costs.ensures.kept;
}

pub returns-in-Err-load_costs-clause-failed : goal.returns-in-Err-load_costs-clause-failed
returns-in-Err-load_costs-clause-failed g c =
    let f = c.in-Err-load_costs.ensures.failed in
    no_table c.in-Err-load_costs.ending c.in-Ok.text c.in-Ok.ensures.held
    (record { table = f.table; fails = load_fails_after _ _ _ _ c.in-Err-load_costs.ending c.in-Ok.ensures.kept f.fails })

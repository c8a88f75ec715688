use Rattle.pretc_top.specs.Check.{no_image, no_cert, no_costs}
use Rattle.pretc_top.proofs.Shelves.{held_before, costs_before, before_both, load_fails_after}
use Rattle.pretc_top.proofs.checking.load_all.Goals as goal

pub returns-in-Err-clause-failed : goal.returns-in-Err-clause-failed
returns-in-Err-clause-failed g c = no_image c.in-Err.ending c.in-Err.ensures.failed

pub returns-in-Err-load_text-clause-failed : goal.returns-in-Err-load_text-clause-failed
returns-in-Err-load_text-clause-failed g c =
    no_cert c.in-Err-load_text.ending c.in-Ok.text c.in-Ok.ensures.held
    (load_fails_after _ _ _ _ c.in-Err-load_text.ending c.in-Ok.ensures.kept c.in-Err-load_text.ensures.failed)

pub returns-in-Ok-load_costs-clause-loaded : goal.returns-in-Ok-load_costs-clause-loaded
returns-in-Ok-load_costs-clause-loaded g c =
    let both = before_both _ _ _ c.in-Ok.ensures.kept c.in-Ok-load_text.ensures.kept in
    record {
      image_held = c.in-Ok.ensures.held;
      cert_held = held_before _ _ _ _ _ c.in-Ok.ensures.kept.files c.in-Ok-load_text.ensures.held;
      costs_held = costs_before _ _ _ _ both.files c.in-Ok-load_costs.ensures.held;
      kept = before_both _ _ _ both c.in-Ok-load_costs.ensures.kept;
    }

pub returns-in-Err-load_costs-clause-failed : goal.returns-in-Err-load_costs-clause-failed
returns-in-Err-load_costs-clause-failed g c =
    let both = before_both _ _ _ c.in-Ok.ensures.kept c.in-Ok-load_text.ensures.kept in
    let f = c.in-Err-load_costs.ensures.failed in
    no_costs c.in-Err-load_costs.ending c.in-Ok.text c.in-Ok-load_text.text c.in-Ok.ensures.held
    (held_before _ _ _ _ _ c.in-Ok.ensures.kept.files c.in-Ok-load_text.ensures.held) f.table (load_fails_after _ _ _ _ c.in-Err-load_costs.ending both f.fails)

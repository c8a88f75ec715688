use Rattle.std.proofs.Common.{ℕ, sym, subst}
use Rattle.pretc_top.specs.Exec.{IsApproved, exec_not_loaded, exec_unapproved, exec_memory}
use Rattle.pretc_top.proofs.executing.prepare.Goals as goal

pub returns-in-Err-clause-failed : goal.returns-in-Err-clause-failed
returns-in-Err-clause-failed g c = exec_not_loaded c.in-Err.ending c.in-Err.ensures.failed

pub returns-in-Err-approve-clause-failed : goal.returns-in-Err-approve-clause-failed
returns-in-Err-approve-clause-failed g c =
    exec_unapproved c.in-Ok.texts.image c.in-Ok.texts.cert c.in-Ok.texts.costs c.in-Err-approve.ending c.in-Ok.ensures.loaded c.in-Err-approve.ensures.failed

pub returns-clause-failed : goal.returns-clause-failed
returns-clause-failed g c = exec_memory c.in-Ok.ensures.loaded.kept

pub returns-in-Ok-load_machine-clause-ready : goal.returns-in-Ok-load_machine-clause-ready
returns-in-Ok-load_machine-clause-ready g c = record {
  image_read = c.in-Ok-approve.approved.image;
  costs_read = c.in-Ok-approve.approved.costs;
  approved =
      let P : ℕ → Type 0 = λ b. IsApproved c.args.image.now c.args.cert.now c.args.costs.now (g.H.Shelf.told c.args.shelf.now) (g.H.Shelf.told c.load_all.new.shelf)
      c.in-Ok-approve.approved.image c.in-Ok-approve.approved.costs b in
      subst P (sym c.in-Ok-load_machine.ensures.bound)
      (record {
        image_text = c.in-Ok.texts.image;
        cert_text = c.in-Ok.texts.cert;
        costs_text = c.in-Ok.texts.costs;
        loaded = c.in-Ok.ensures.loaded;
        approves = c.in-Ok-approve.ensures.approves;
      });
  ranges = c.in-Ok-approve.ensures.approves.read.image_is.ranges;
  machine_is = c.in-Ok-load_machine.ensures.machine;
  inputs_are = c.in-Ok-load_machine.ensures.row;
  outputs_are = c.in-Ok-load_machine.ensures.outputs;
}

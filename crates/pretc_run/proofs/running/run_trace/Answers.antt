use Rattle.std.proofs.Common.{◌≡◌, ◌≤◌, ◌∷◌, ◌++◌, [], ℕ, List, length, sym, ap, subst, ◌∙◌}
use Rattle.pt_image.specs.declared.image.Parts.{Parts}
use Rattle.pretc_run.proofs.running.run_trace.Goals as goal

pub ticks-preserved : goal.ticks-preserved
ticks-preserved g c =
    let P : Parts → Type 0 = λ image. length image.outputs ≤ 64 in
    record {
      under_way = λ start most u.
          let done = c.ticks.invariant.under_way start most u in
          let next = rw c.in-Ok-None.field-0-is at (c.in-Ok-None.ensures.comes start done.0 most done.1) in
          (done.0 ++ next.0 ∷ [], next.1);
      width = c.step.ensures.same_row ∙ c.ticks.invariant.width ∙ sym c.step.ensures.same_width;
      inputs = c.step.ensures.same_row ∙ c.ticks.invariant.inputs ∙ sym (ap (λ (image : Parts). length image.inputs) c.step.ensures.same_image);
      places = c.step.ensures.same_outputs ∙ c.ticks.invariant.places ∙ sym (ap (λ (image : Parts). length image.outputs) c.step.ensures.same_image);
      few = subst P (sym c.step.ensures.same_image) c.ticks.invariant.few;
      kept = c.step.ensures.few_kept;
    }

pub returns-in-Ok-Some : goal.returns-in-Ok-Some
returns-in-Ok-Some g c = record {
  comes = λ start most u.
      let done = c.ticks.invariant.under_way start most u in
      rw c.in-Ok-Some.field-0-is at (c.in-Ok-Some.ensures.comes start done.0 most done.1);
}

pub returns-in-Err : goal.returns-in-Err
returns-in-Err g c = record {
  comes = λ start most u. let done = c.ticks.invariant.under_way start most u in c.in-Err.ensures.comes start done.0 most done.1;
}

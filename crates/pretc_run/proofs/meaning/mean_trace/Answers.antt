use Rattle.std.proofs.Common.{◌≤◌, ◌∷◌, ◌++◌, [], ℕ, length, sym, ap, subst, ◌∙◌}
use Rattle.pc_grammar.specs.Typing.{Typing}
use Rattle.pc_meaning.specs.Programs.{program_of}
use Rattle.pretc_run.proofs.meaning.mean_trace.Goals as goal

pub ticks-preserved : goal.ticks-preserved
ticks-preserved g c =
    let P : ℕ → Type 0 = λ n. n ≤ 64 in
    record {
      under_way = λ start u.
          let done = c.ticks.invariant.under_way start u in
          let next = rw c.in-Ok-None.field-0-is at (c.in-Ok-None.ensures.comes start done.0 done.1) in
          (done.0 ++ next.0 ∷ [], next.1);
      width = c.step.ensures.same_row ∙ c.ticks.invariant.width ∙ sym c.step.ensures.same_width;
      places = c.step.ensures.same_outputs ∙ c.ticks.invariant.places ∙ sym (ap (λ (t : Typing). length (program_of t).outputs) c.step.ensures.same_typing);
      few = subst P (sym c.step.ensures.same_outputs) c.ticks.invariant.few;
      kept = c.step.ensures.few_kept;
    }

pub returns-in-Ok-Some : goal.returns-in-Ok-Some
returns-in-Ok-Some g c = record {
  comes = λ start u.
      let done = c.ticks.invariant.under_way start u in
      rw c.in-Ok-Some.field-0-is at (c.in-Ok-Some.ensures.comes start done.0 done.1);
}

pub returns-in-Err : goal.returns-in-Err
returns-in-Err g c = record {
  comes = λ start u. let done = c.ticks.invariant.under_way start u in c.in-Err.ensures.comes start done.0 done.1;
}

use Rattle.std.proofs.Common.{ℕ, List, [], ◌∷◌, ap, subst, ◌∙◌}
use Rattle.pretc_run.specs.declared.endings.Ending.TheVariants.{Done, WantOfMemory}
use Rattle.pretc_run.specs.Endings.{line_of}
use Rattle.pretc_run.specs.Writing.{Answers}
use Rattle.pc_print.specs.Generated.{generated}
use Rattle.pretc_top.specs.Says.{lines_of, generates, gen_memory}
use Rattle.pretc_top.proofs.generating.print_generated.Goals as goal

pub returns-in-Ok : goal.returns-in-Ok
returns-in-Ok g c =
    let P : List ℕ → Type 0 = λ text. Answers (lines_of text) 0 (g.O.Sink.told c.args.out.now) (g.O.Sink.told c.finish_lines.new.out) c.finish_lines.result in
    record {
      concludes = record {
        due = lines_of (generated c.args.threads);
        ending = Done;
        ends = generates;
        answers = subst P (c.bytes.ensures ∙ c.in-Ok.ensures) c.finish_lines.ensures.answers;
      };
    }

pub returns-in-Err : goal.returns-in-Err
returns-in-Err g c = record {
  concludes = record { due = line_of WantOfMemory ∷ []; ending = WantOfMemory; ends = gen_memory; answers = c.finish.ensures.answers };
}

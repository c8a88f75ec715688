use Rattle.std.proofs.Common.{ℕ, List, [], ◌∷◌, ap, subst}
use Rattle.pretc_run.specs.declared.endings.Ending.TheVariants.{Done}
use Rattle.pretc_run.specs.Endings.{line_of}
use Rattle.pretc_run.specs.Writing.{Answers}
use Rattle.pretc_top.specs.Says.{lines_of, said, unsaid}
use Rattle.pretc_top.proofs.printing.print_program.Goals as goal

pub returns-in-Ok : goal.returns-in-Ok
returns-in-Ok g c =
    let P : List ℕ → Type 0 = λ text. Answers (lines_of text) 0 (g.O.Sink.told c.args.out.now) (g.O.Sink.told c.finish_lines.new.out) c.finish_lines.result in
    let p = c.in-Ok.ensures.printed in
    record {
      concludes = record {
        due = lines_of c.in-Ok.text;
        ending = Done;
        ends = said p.loaded.text (lines_of c.in-Ok.text) p.loaded.held (record { tree = p.tree; source = p.loaded.source; due_is = ap lines_of p.printed_is }) c.in-Ok.ensures.kept;
        answers = subst P c.bytes.ensures c.finish_lines.ensures.answers;
      };
    }

pub returns-in-Err : goal.returns-in-Err
returns-in-Err g c = record {
  concludes = record {
    due = line_of c.in-Err.ending ∷ [];
    ending = c.in-Err.ending;
    ends = unsaid c.in-Err.ending c.in-Err.ensures.failed;
    answers = c.finish.ensures.answers;
  };
}

use Rattle.std.proofs.Common.{ℕ, List, [], ◌∷◌, subst}
use Rattle.pretc_run.specs.Endings.{number_of}
use Rattle.pretc_run.specs.Writing.{Answers}
use Rattle.pretc_top.proofs.checking.check_files.Goals as goal

pub returns : goal.returns
returns g c =
    let P : List ℕ → Type 0 = λ l. Answers (l ∷ []) (number_of c.checked-said.result.ending) (g.O.Sink.told c.args.out.now) (g.O.Sink.told c.finish_with.new.out) c.finish_with.result in
    record {
      concludes = record {
        due = c.checked-said.result.line ∷ [];
        ending = c.checked-said.result.ending;
        ends = c.checked-said.ensures.ends;
        answers = subst P c.bytes.ensures c.finish_with.ensures.answers;
      };
    }

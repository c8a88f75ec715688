use Rattle.std.proofs.Common.{List, ℕ, [], ◌∷◌, subst, ◌∙◌}
use Rattle.pretc_run.specs.Endings.{number_of}
use Rattle.pretc_run.specs.Writing.{Answers}
use Rattle.pretc_run.proofs.closing.finish.Goals as goal

pub returns : goal.returns
returns g c =
    let P : List ℕ → Type 0 = λ l. Answers (l ∷ []) (number_of c.args.ending) (g.O.Sink.told c.args.out.now) (g.O.Sink.told c.finish_with.new.out) c.finish_with.result in
    record { answers = subst P (c.bytes.ensures ∙ c.line-line.ensures) c.finish_with.ensures.answers }

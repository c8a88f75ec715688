use Rattle.std.proofs.Common.{ℕ, List, [], ◌∷◌, refl, subst, ◌∙◌}
use Rattle.pretc_run.specs.Writing.{Wrote, BrokeOff}
use Rattle.pretc_top.specs.Exec.{bound_broke, bound_said}
use Rattle.pretc_top.proofs.executing.run.Goals as goal

pub returns-in-Ok : goal.returns-in-Ok
returns-in-Ok g c =
    let P : List ℕ → Type 0 = λ l. Wrote (g.O.Sink.told c.args.out.now) (g.O.Sink.told c.push_line.new.out) (l ∷ []) in
    record { comes = bound_said (g.O.Sink.told c.push_line.new.out) (subst P (c.bytes.ensures ∙ c.bound_line.ensures) c.in-Ok.ensures.wrote) c.report.ensures.comes }

pub returns : goal.returns
returns g c =
    let P : List ℕ → Type 0 = λ l. BrokeOff (g.O.Sink.told c.args.out.now) (g.O.Sink.told c.push_line.new.out) [] l in
    record { comes = bound_broke refl refl (subst P (c.bytes.ensures ∙ c.bound_line.ensures) c.in-Err.ensures.broke) }

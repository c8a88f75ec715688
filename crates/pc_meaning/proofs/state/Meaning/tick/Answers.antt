use Rattle.std.proofs.Common.{◌≡◌, ap, ◌∙◌, subst}
use Rattle.pc_meaning.specs.Runs.{ticked}
use Rattle.pc_meaning.specs.Programs.{program_of}
use Rattle.pc_meaning.specs.Moments.{State, moment, moment_at}
use Rattle.pc_meaning.proofs.state.Meaning.tick.Goals as goal

pub returns-in-Ok-clause-ticked : goal.returns-in-Ok-clause-ticked
returns-in-Ok-clause-ticked c =
    let p = program_of c.self.inside.typed.now in
    let now = c.keep.new.self.current in
    let main = ap (moment_at p c.in-Ok.standing) (ap (λ w. w.current) c.keep.ensures) ∙ c.in-Ok.ensures.stepped in
    let P : State → Type 0 = λ s. moment_at p c.in-Ok.standing now ≡ ticked (program_of s.typing) (moment s) c.args.row.now in
    subst P c.self.view_is main

use Rattle.std.proofs.Common.{ℕ, List, [], ◌∷◌, Option, Some, None, refl, sym, ap, subst, ◌∙◌}
use Rattle.std.specs.Option.{option_map}
use Rattle.pretc_run.specs.declared.endings.Ending.TheVariants.{Usage}
use Rattle.pretc_run.specs.Endings.{line_of}
use Rattle.pretc_top.specs.declared.commands.Command.{Command}
use Rattle.pretc_top.specs.Named.{named}
use Rattle.pretc_top.specs.Outside.{outside}
use Rattle.pretc_top.specs.Comes.{Comes, ends, no_command}
use Rattle.pretc_top.proofs.Called.{check_comes, print_comes, gen_comes, rules_comes}
use Rattle.pretc_top.proofs.Jobs.{job_comes}
use Rattle.pretc_top.proofs.calling.called.Goals as goal

pub returns-in-None : goal.returns-in-None
returns-in-None g c =
    let P : Option (Command (List ℕ)) → Type 0 = λ command. Comes command
    (outside (g.H.Shelf.told c.args.shelf.now) (g.I.Source.told c.args.input.now) (g.O.Sink.told c.args.out.now))
    (outside (g.H.Shelf.told c.args.shelf.now) (g.I.Source.told c.args.input.now) (g.O.Sink.told c.finish.new.out)) c.finish.result in
    record { comes = subst P (sym (ap (option_map named) c.in-None.is) ∙ c.command_of.ensures) (ends (line_of Usage ∷ []) Usage (no_command refl) refl c.finish.ensures.answers) }

pub returns-in-Some-Go : goal.returns-in-Some-Go
returns-in-Some-Go g c =
    let P : Option (Command (List ℕ)) → Type 0 = λ command. Comes command
    (outside (g.H.Shelf.told c.args.shelf.now) (g.I.Source.told c.args.input.now) (g.O.Sink.told c.args.out.now))
    (outside (g.H.Shelf.told c.go.new.shelf) (g.I.Source.told c.go.new.input) (g.O.Sink.told c.go.new.out)) c.go.result in
    record { comes = subst P (sym (ap (option_map named) (c.in-Some-Go.is ∙ ap Some c.in-Some-Go.field-0-is)) ∙ c.command_of.ensures) c.go.ensures.comes }

pub returns-in-Some-Check : goal.returns-in-Some-Check
returns-in-Some-Check g c =
    let P : Option (Command (List ℕ)) → Type 0 = λ command. Comes command
    (outside (g.H.Shelf.told c.args.shelf.now) (g.I.Source.told c.args.input.now) (g.O.Sink.told c.args.out.now))
    (outside (g.H.Shelf.told c.check_files.new.shelf) (g.I.Source.told c.args.input.now) (g.O.Sink.told c.check_files.new.out)) c.check_files.result in
    record {
      comes = subst P (sym (ap (option_map named) (c.in-Some-Check.is ∙ ap Some c.in-Some-Check.field-0-is)) ∙ c.command_of.ensures)
          (check_comes _ _ _ _ _ _ _ _ _ c.check_files.ensures.concludes);
    }

pub returns-in-Some-Print : goal.returns-in-Some-Print
returns-in-Some-Print g c =
    let P : Option (Command (List ℕ)) → Type 0 = λ command. Comes command
    (outside (g.H.Shelf.told c.args.shelf.now) (g.I.Source.told c.args.input.now) (g.O.Sink.told c.args.out.now))
    (outside (g.H.Shelf.told c.print_program.new.shelf) (g.I.Source.told c.args.input.now) (g.O.Sink.told c.print_program.new.out)) c.print_program.result in
    record {
      comes = subst P (sym (ap (option_map named) (c.in-Some-Print.is ∙ ap Some c.in-Some-Print.field-0-is)) ∙ c.command_of.ensures)
          (print_comes _ _ _ _ _ _ _ c.print_program.ensures.concludes);
    }

pub returns-in-Some-Rules : goal.returns-in-Some-Rules
returns-in-Some-Rules g c =
    let P : Option (Command (List ℕ)) → Type 0 = λ command. Comes command
    (outside (g.H.Shelf.told c.args.shelf.now) (g.I.Source.told c.args.input.now) (g.O.Sink.told c.args.out.now))
    (outside (g.H.Shelf.told c.rules_of_program.new.shelf) (g.I.Source.told c.args.input.now) (g.O.Sink.told c.rules_of_program.new.out)) c.rules_of_program.result in
    record {
      comes = subst P (sym (ap (option_map named) (c.in-Some-Rules.is ∙ ap Some c.in-Some-Rules.field-0-is)) ∙ c.command_of.ensures)
          (rules_comes _ _ _ _ _ _ _ c.rules_of_program.ensures.concludes);
    }

pub returns-in-Some-Mean : goal.returns-in-Some-Mean
returns-in-Some-Mean g c =
    let P : Option (Command (List ℕ)) → Type 0 = λ command. Comes command
    (outside (g.H.Shelf.told c.args.shelf.now) (g.I.Source.told c.args.input.now) (g.O.Sink.told c.args.out.now))
    (outside (g.H.Shelf.told c.mean.new.shelf) (g.I.Source.told c.mean.new.input) (g.O.Sink.told c.mean.new.out)) c.mean.result in
    record { comes = subst P (sym (ap (option_map named) (c.in-Some-Mean.is ∙ ap Some c.in-Some-Mean.field-0-is)) ∙ c.command_of.ensures) c.mean.ensures.comes }

pub returns-in-Some-Gen : goal.returns-in-Some-Gen
returns-in-Some-Gen g c =
    let P : Option (Command (List ℕ)) → Type 0 = λ command. Comes command
    (outside (g.H.Shelf.told c.args.shelf.now) (g.I.Source.told c.args.input.now) (g.O.Sink.told c.args.out.now))
    (outside (g.H.Shelf.told c.args.shelf.now) (g.I.Source.told c.args.input.now) (g.O.Sink.told c.print_generated.new.out)) c.print_generated.result in
    record {
      comes = subst P (sym (ap (option_map named) (c.in-Some-Gen.is ∙ ap Some c.in-Some-Gen.field-0-is)) ∙ c.command_of.ensures)
          (gen_comes _ _ _ _ _ _ _ refl c.print_generated.ensures.concludes);
    }

pub returns-in-Some-Exec : goal.returns-in-Some-Exec
returns-in-Some-Exec g c =
    let P : Option (Command (List ℕ)) → Type 0 = λ command. Comes command
    (outside (g.H.Shelf.told c.args.shelf.now) (g.I.Source.told c.args.input.now) (g.O.Sink.told c.args.out.now))
    (outside (g.H.Shelf.told c.exec.new.shelf) (g.I.Source.told c.exec.new.input) (g.O.Sink.told c.exec.new.out)) c.exec.result in
    record { comes = subst P (sym (ap (option_map named) (c.in-Some-Exec.is ∙ ap Some c.in-Some-Exec.field-0-is)) ∙ c.command_of.ensures) c.exec.ensures.comes }

pub returns-in-Some-Run : goal.returns-in-Some-Run
returns-in-Some-Run g c =
    let P : Option (Command (List ℕ)) → Type 0 = λ command. Comes command
    (outside (g.H.Shelf.told c.args.shelf.now) (g.I.Source.told c.args.input.now) (g.O.Sink.told c.args.out.now))
    (outside (g.H.Shelf.told c.carry_out.new.shelf) (g.I.Source.told c.carry_out.new.input) (g.O.Sink.told c.carry_out.new.out)) c.carry_out.result in
    record { comes = subst P (sym (ap (option_map named) (c.in-Some-Run.is ∙ ap Some c.in-Some-Run.field-0-is)) ∙ c.command_of.ensures) c.carry_out.ensures.comes }

pub returns-in-Some-Job : goal.returns-in-Some-Job
returns-in-Some-Job g c =
    let P : Option (Command (List ℕ)) → Type 0 = λ command. Comes command
    (outside (g.H.Shelf.told c.args.shelf.now) (g.I.Source.told c.args.input.now) (g.O.Sink.told c.args.out.now))
    (outside (g.H.Shelf.told c.args.shelf.now) (g.I.Source.told c.args.input.now) (g.O.Sink.told c.job.new.out)) c.job.result in
    record {
      comes = subst P (sym (ap (option_map named) (c.in-Some-Job.is ∙ ap Some c.in-Some-Job.field-0-is)) ∙ c.command_of.ensures)
          (job_comes _ _ _ _ _ _ _ refl c.job.ensures.concludes);
    }

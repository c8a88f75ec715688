use Rattle.std.proofs.Common.{sym, ap, ◌∙◌}
use Rattle.pc_grammar.specs.Places.{is_thread}
use Rattle.pc_names.proofs.Threading.{main_is_thread, other_is_thread}
use Rattle.pc_names.proofs.threads.Threads.is_thread.Goals as goal

pub returns-then-is_main : goal.returns-then-is_main
returns-then-is_main c = c.if-is_main.true ∙ main_is_thread c.args.self.now c.args.name.now (sym c.if-is_main.ensures)

pub returns-else-is_main : goal.returns-else-is_main
returns-else-is_main c =
    c.contains.ensures
    ∙ c.self.invariant c.args.name.now
    ∙ other_is_thread c.self.inside.items.now c.args.name.now (sym c.if-is_main.ensures)
    ∙ ap (λ is. is_thread is c.args.name.now) c.self.view_is

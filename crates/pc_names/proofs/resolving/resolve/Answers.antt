use Rattle.std.proofs.Common.{◌≡◌, None, sym, ap, ◌∙◌}
use Rattle.pt_base.specs.First.{first_of}
use Rattle.pc_names.specs.Faults.{faults}
use Rattle.pc_names.proofs.Laws.{first_broken, nothing_broken}
use Rattle.pc_names.proofs.resolving.resolve.Goals as goal

pub returns-in-Some : goal.returns-in-Some
returns-in-Some c =
    let program = c.args.program.now in
    let first : c.in-Ok.fault.first ≡ first_of None (faults program.items program.length) =
    c.in-Ok.ensures.found ∙ ap (λ items. first_of None (faults items c.length.result)) c.items.ensures.items ∙ ap (λ end. first_of None (faults program.items end)) c.length.ensures.length in
    first_broken program.items program.length c.in-Some.rule c.in-Some.span (sym (c.in-Some.ensures ∙ first))

pub typed-requires-clause-unbroken : goal.typed-requires-clause-unbroken
typed-requires-clause-unbroken c =
    let program = c.args.program.now in
    let first : c.in-Ok.fault.first ≡ first_of None (faults program.items program.length) =
    c.in-Ok.ensures.found ∙ ap (λ items. first_of None (faults items c.length.result)) c.items.ensures.items ∙ ap (λ end. first_of None (faults program.items end)) c.length.ensures.length in
    nothing_broken program.items program.length (sym (c.in_default-found.ensures ∙ first))

pub returns-in-Ok-typed : goal.returns-in-Ok-typed
returns-in-Ok-typed c =
    let program = c.args.program.now in
    let first : c.in-Ok.fault.first ≡ first_of None (faults program.items program.length) =
    c.in-Ok.ensures.found ∙ ap (λ items. first_of None (faults items c.length.result)) c.items.ensures.items ∙ ap (λ end. first_of None (faults program.items end)) c.length.ensures.length in
    record {
      unbroken = nothing_broken program.items program.length (sym (c.in_default-found.ensures ∙ first));
      same = c.in-Ok-typed.ensures;
    }

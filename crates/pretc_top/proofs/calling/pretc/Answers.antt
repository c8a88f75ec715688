use Rattle.std.proofs.Common.{ℕ, List, subst}
use Rattle.pretc_top.specs.Commands.{command_of}
use Rattle.pretc_top.specs.Outside.{outside}
use Rattle.pretc_top.specs.Comes.{Comes}
use Rattle.pretc_top.specs.Causes.{Causes}
use Rattle.pretc_top.proofs.Told.{causes}
use Rattle.pretc_top.proofs.calling.pretc.Goals as goal

pub returns-clause-comes : goal.returns-clause-comes
returns-clause-comes g c =
    let P : List (List ℕ) → Type 0 = λ words. Comes (command_of words)
    (outside (g.H.Shelf.told c.args.shelf.now) (g.I.Source.told c.args.input.now) (g.O.Sink.told c.args.out.now))
    (outside (g.H.Shelf.told c.called.new.shelf) (g.I.Source.told c.called.new.input) (g.O.Sink.told c.called.new.out)) c.called.result in
    subst P c.deref.ensures.value c.called.ensures.comes

pub returns-clause-causes : goal.returns-clause-causes
returns-clause-causes g c =
    let P : List (List ℕ) → Type 0 = λ words. Causes (command_of words)
    (outside (g.H.Shelf.told c.args.shelf.now) (g.I.Source.told c.args.input.now) (g.O.Sink.told c.args.out.now))
    (outside (g.H.Shelf.told c.called.new.shelf) (g.I.Source.told c.called.new.input) (g.O.Sink.told c.called.new.out)) c.called.result in
    subst P c.deref.ensures.value (causes _ _ _ _ c.called.ensures.comes)

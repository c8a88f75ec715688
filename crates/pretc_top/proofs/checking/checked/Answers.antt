use Rattle.std.proofs.Common.{[], ◌∷◌, sym, subst}
use Rattle.pretc_top.specs.declared.saying.Saying.{Saying}
use Rattle.pretc_top.specs.Check.{CheckEnds, not_loaded, judged}
use Rattle.pretc_top.proofs.checking.checked.Goals as goal

pub returns-in-Ok : goal.returns-in-Ok
returns-in-Ok g c = record {
  ends = judged c.in-Ok.texts.image c.in-Ok.texts.cert c.in-Ok.texts.costs c.judged.result.line c.judged.result.ending c.in-Ok.ensures.loaded c.judged.ensures;
}

pub returns-in-Err : goal.returns-in-Err
returns-in-Err g c =
    let P : Saying → Type 0 = λ s. CheckEnds c.args.image.now c.args.cert.now c.args.costs.now (g.H.Shelf.told c.args.shelf.now) (g.H.Shelf.told c.load_all.new.shelf) (s.line ∷ []) s.ending in
    record { ends = subst P (sym c.said.ensures) (not_loaded c.in-Err.ending c.in-Err.ensures.failed) }

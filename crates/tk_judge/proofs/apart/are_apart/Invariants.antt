use Rattle.std.proofs.Common.{◌≡◌, drop}
use Rattle.std.specs.List.{list_all}
use Rattle.tk_paths.specs.Shape.{earlier}
use Rattle.tk_judge.specs.Asks.{is_clear}
use Rattle.tk_judge.proofs.apart.are_apart.Given as goal

abbrev pub invariant-loop-p : goal.invariant-loop-p
invariant-loop-p l = list_all (is_clear l.image l.children) (earlier l.image.forks l.place) ≡ list_all (is_clear l.image l.children) (earlier (drop l.p-index l.image.forks) l.place)

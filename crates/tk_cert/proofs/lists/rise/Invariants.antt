use Rattle.std.proofs.Common.{◌≡◌, drop}
use Rattle.tk_cert.specs.Reading.{rise_from}
use Rattle.tk_cert.proofs.lists.rise.Given as goal

abbrev pub invariant-loop-place : goal.invariant-loop-place
invariant-loop-place l = rise_from l.low (drop l.place-index l.weights) ≡ rise_from 0 l.weights

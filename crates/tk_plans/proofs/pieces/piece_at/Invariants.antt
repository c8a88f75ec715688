use Rattle.std.proofs.Common.{◌≡◌, drop}
use Rattle.tk_plans.specs.Ways.{piece_among}
use Rattle.tk_plans.proofs.pieces.piece_at.Given as goal

abbrev pub invariant-loop-piece : goal.invariant-loop-piece
invariant-loop-piece l = piece_among (drop l.piece-index l.pieces) l.place ≡ piece_among l.pieces l.place

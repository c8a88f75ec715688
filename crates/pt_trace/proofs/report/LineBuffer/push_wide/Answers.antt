use Rattle.std.proofs.Common.{ℕ, List, length, ap, arith}
use Rattle.std.specs.Fmt.{decimal}
use Rattle.std.proofs.lemmas.List.{length-append}
use Rattle.pt_trace.proofs.Decimals.{wide_room}
use Rattle.pt_trace.proofs.report.LineBuffer.push_wide.Goals as goal

pub push_digits-requires : goal.push_digits-requires
push_digits-requires c = omega (arith, c.requires, wide_room c.args.n c.ranges.n.fits)

pub returns-clause-room : goal.returns-clause-room
returns-clause-room c = omega (arith, wide_room c.args.n c.ranges.n.fits, ap (λ (xs : List ℕ). length xs) c.push_digits.ensures, length-append c.args.self.now (decimal c.args.n))

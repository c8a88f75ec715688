use Rattle.std.proofs.Common.{ℕ, List, length, drop, ap, ◌≤◌, ◌-◌, take, ◌∙◌, arith}
use Rattle.std.proofs.lemmas.List.{length-take-le}
use Rattle.pt_trace.proofs.Keeping.{take-copied}
use Rattle.pt_trace.proofs.kept.KeptBytes.drop_front.Goals as goal

pub returns-clause-after : goal.returns-clause-after
returns-clause-after c =
    let most : c.self.inside.filled ≤ length c.self.inside.table = omega (arith, c.self.invariant, c.self.told) in
    let some : c.args.count ≤ c.self.inside.filled = omega (arith, c.requires, ap (λ (xs : List ℕ). length xs) c.self.view_is, length-take-le c.self.inside.filled c.self.inside.table most) in
    ap (λ (xs : List ℕ). take (c.self.inside.filled - c.args.count) xs) c.copy_within.ensures.after
    ∙ take-copied c.self.inside.table c.args.count c.self.inside.filled some most
    ∙ ap (λ (xs : List ℕ). drop c.args.count xs) c.self.view_is

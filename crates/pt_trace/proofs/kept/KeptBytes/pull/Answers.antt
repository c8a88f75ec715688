use Rattle.std.proofs.Common.{ℕ, List, ◌≤◌, ◌-◌, ◌++◌, length, take, ap, ◌∙◌, arith}
use Rattle.pt_trace.proofs.Keeping.{take-put, unread-pulled}
use Rattle.pt_trace.proofs.kept.KeptBytes.pull.Goals as goal

pub returns-in-Ok-clause-unread : goal.returns-in-Ok-clause-unread
returns-in-Ok-clause-unread g c =
    let filled = c.self.inside.filled in
    let fits : filled ≤ length c.self.inside.table = omega (arith, c.self.invariant, c.self.told) in
    unread-pulled _ _ c.args.self.now _ (take c.in-Ok.count c.pull.new.into) (c.in-Ok.ensures {u = tt}).bytes.0
    (take-put filled (2048 - filled) c.in-Ok.count c.self.inside.table c.pull.new.into fits (c.in-Ok.ensures {u = tt}).bound.0
    ∙ ap (λ (xs : List ℕ). xs ++ take c.in-Ok.count c.pull.new.into) c.self.view_is)

use Rattle.std.proofs.Common.{sym, subst, List, ℕ}
use Rattle.mb_isa.specs.Costs.{IsCosts}
use Rattle.mb_isa.proofs.costs.Costs.of.Goals as goal

pub invariant_of-result : goal.invariant_of-result
invariant_of-result c =
    let P : List ℕ → Type 0 = IsCosts in
    subst P (sym c.copied.ensures.copy) (record { count = c.told-numbers; range = λ k d h. (c.requires k d h, c.copied.ensures.bytes k d h) })

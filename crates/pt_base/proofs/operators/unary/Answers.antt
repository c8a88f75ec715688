use Rattle.std.proofs.Common.{w32, ◌∙◌, rules, FitsSigned}
use Rattle.std.proofs.lemmas.Int.{wrapping_neg_is, to_z-of_z}
use Rattle.pt_base.proofs.operators.unary.Goals as goal

pub returns-in-Neg : goal.returns-in-Neg
returns-in-Neg c =
    let f : FitsSigned w32 c.args.a = c.ranges.a in
    let g : FitsSigned w32 c.wrapping_neg.result = search rules in
    rw c.in-Neg.is (to_z-of_z w32 c.wrapping_neg.result g ∙ (simp to_z-of_z at c.wrapping_neg.ensures) ∙ wrapping_neg_is w32 c.args.a f)

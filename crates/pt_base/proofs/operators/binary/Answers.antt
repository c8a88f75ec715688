use Rattle.std.proofs.Common.{◌%◌, w32, ◌∙◌, rules, FitsSigned, of_z, arith}
use Rattle.std.proofs.lemmas.Int.{wrapping_add_is, wrapping_sub_is, to_z-of_z}
use Rattle.std.proofs.lemmas.Nat.{pow_below}
use Rattle.pt_base.proofs.WordFacts.{quotient_is, shl_is}
use Rattle.pt_base.proofs.operators.binary.Goals as goal

pub returns-in-Add : goal.returns-in-Add
returns-in-Add c = rw c.in-Add.is (wrapping_add_is w32 c.args.a c.args.b c.ranges.a c.ranges.b)

pub returns-in-Sub : goal.returns-in-Sub
returns-in-Sub c = rw c.in-Sub.is (wrapping_sub_is w32 c.args.a c.args.b c.ranges.a c.ranges.b)

pub returns-else-b-eq0 : goal.returns-else-b-eq0
returns-else-b-eq0 c =
    let f : FitsSigned w32 c.args.a = c.ranges.a in
    let h : FitsSigned w32 c.args.b = c.ranges.b in
    let g : FitsSigned w32 c.wrapping_div.result = search rules in
    rw c.in-Div.is (to_z-of_z w32 c.wrapping_div.result g ∙ (simp to_z-of_z at c.wrapping_div.ensures) ∙ quotient_is c.args.a c.args.b f c.if-b-eq0.false)

pub returns-in-ShiftLeft : goal.returns-in-ShiftLeft
returns-in-ShiftLeft c =
    let f : FitsSigned w32 c.args.a = c.ranges.a in
    let h : FitsSigned w32 c.args.b = c.ranges.b in
    let g : FitsSigned w32 c.wrapping_shl.result = search rules in
    let e = simp to_z-of_z at c.cast_unsigned.ensures in
    rw c.in-ShiftLeft.is (to_z-of_z w32 c.wrapping_shl.result g ∙ (simp (to_z-of_z, e) at c.wrapping_shl.ensures) ∙ shl_is c.args.a (of_z w32 c.args.b % 32) f (pow_below (of_z w32 c.args.b % 32) 32 (omega arith)))

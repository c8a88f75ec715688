use Rattle.std.proofs.Common.{◌≤◌, ℕ, List, length, subst}
use Rattle.pt_base.specs.declared.limits.TheConstants.{MOST_SOURCE_BYTES}
use Rattle.pc_rules.proofs.Readings.{unlexed, parsed}
use Rattle.pc_rules.proofs.sources.source_of.Goals as goal

pub returns-in-Ok : goal.returns-in-Ok
returns-in-Ok c =
    let P : List ℕ → Type 0 = λ l. length l ≤ MOST_SOURCE_BYTES in
    parsed c.args.text.now c.in-Ok.tokens.tokens c.in-Ok.tokens.length c.parse.result (subst P c.bytes.ensures c.if-bytes.false) c.in-Ok.ensures.tokens c.in-Ok.ensures.length c.parse.ensures.program c.parse.ensures.length c.parse.ensures.refused

pub returns-in-Err : goal.returns-in-Err
returns-in-Err c =
    let P : List ℕ → Type 0 = λ l. length l ≤ MOST_SOURCE_BYTES in
    unlexed c.args.text.now c.in-Err.refusal (subst P c.bytes.ensures c.if-bytes.false) c.in-Err.ensures.refused

use Rattle.std.proofs.Common.{sym, ◌∙◌}
use Rattle.pc_parse.proofs.Holds.{none_plain, none_other}
use Rattle.pc_parse.proofs.expressions.operator_at.Goals as goal

pub returns-in_default : goal.returns-in_default
returns-in_default c = none_plain c.args.level c.args.tokens.now c.in_ok-token.token c.in_ok-token.rest.now c.requires c.in_ok-token.ensures (sym c.binary_operator.ensures ∙ c.in_default.is)

pub returns-then-level_number-level : goal.returns-then-level_number-level
returns-then-level_number-level c = none_other c.args.level c.args.tokens.now c.in_ok-token.token c.in_ok-token.rest.now c.in-Some.op c.in_ok-token.ensures (sym c.binary_operator.ensures ∙ c.in-Some.is) (λ h. c.if-level_number-level.true (c.level_number.ensures ∙ h))

use Rattle.std.proofs.Common.{arith}
use Rattle.pc_rules.proofs.Chains.{weight-Chain}
use Rattle.pc_rules.proofs.expressions.+expression.Goals as goal

pub expression-returns-in-Chain : goal.expression-returns-in-Chain
expression-returns-in-Chain t c = grind (arith, weight-Chain)

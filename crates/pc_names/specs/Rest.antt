-- The names of the operands behind the first one of a chain.
use Rattle.std.specs.Prelude.{List, map}
use Rattle.pt_base.specs.declared.operators.BinOp.{BinOp}
use Rattle.pc_grammar.specs.declared.expressions.Word.{Word}
use Rattle.pc_grammar.specs.declared.expressions.Expr.{Expr}
use Rattle.pc_grammar.specs.Uses.{Use, expression_uses, operands_uses}

abbrev pub chain_uses : List (BinOp × Expr Word) → List (Use Word)
chain_uses rest = operands_uses (map (λ p. (p.0, expression_uses p.1)) rest)

-- The equations of expressions without places.
use Rattle.std.proofs.Common.{◌≡◌, ℕ, List, map, sym, ap, ◌∙◌}
use Rattle.pt_base.specs.declared.operators.UnOp.{UnOp}
use Rattle.pt_base.specs.declared.operators.BinOp.{BinOp}
use Rattle.pc_grammar.specs.declared.expressions.Word.{Word}
use Rattle.pc_grammar.specs.declared.expressions.Expr.{Expr, fold-roll-Expr}
use Rattle.pc_grammar.specs.declared.expressions.Expr.TheVariants.{Var, Elem, Unary, Chain, rolls-Var, rolls-Elem, rolls-Unary, rolls-Chain}
use Rattle.pc_grammar.specs.declared.expressions.Expr.TheOpen.{Var as OpenVar, Elem as OpenElem, Unary as OpenUnary, Chain as OpenChain}
use Rattle.pc_print.specs.Tokens.{bare_of, bare}

pub bare-Var : (w : Word) → bare (Var w) ≡ Var w.text
bare-Var w = ap bare (sym (rolls-Var w)) ∙ fold-roll-Expr Word (Expr (List ℕ)) bare_of (OpenVar w)

pub bare-Elem : (w : Word) (index : Expr Word) → bare (Elem w index) ≡ Elem w.text (bare index)
bare-Elem w index = ap bare (sym (rolls-Elem w index)) ∙ fold-roll-Expr Word (Expr (List ℕ)) bare_of (OpenElem w index)

pub bare-Unary : (op : UnOp) (e : Expr Word) → bare (Unary op e) ≡ Unary op (bare e)
bare-Unary op e = ap bare (sym (rolls-Unary op e)) ∙ fold-roll-Expr Word (Expr (List ℕ)) bare_of (OpenUnary op e)

-- each operator with its operand without places
abbrev pub bares : List (BinOp × Expr Word) → List (BinOp × Expr (List ℕ))
bares rest = map (λ p. (p.0, bare p.1)) rest

pub bare-Chain : (head : Expr Word) (rest : List (BinOp × Expr Word)) → bare (Chain head rest) ≡ Chain (bare head) (bares rest)
bare-Chain head rest = ap bare (sym (rolls-Chain head rest)) ∙ fold-roll-Expr Word (Expr (List ℕ)) bare_of (OpenChain head rest)

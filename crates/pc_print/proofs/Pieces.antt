-- The equations of the pieces that expressions are written as.
use Rattle.std.proofs.Common.{◌≡◌, ℕ, Bool, true, false, List, [], ◌∷◌, ◌++◌, map, refl, sym, ap, ◌∙◌, append_assoc, append-nil}
use Rattle.pt_base.specs.declared.operators.UnOp.{UnOp}
use Rattle.pt_base.specs.declared.operators.BinOp.{BinOp}
use Rattle.pc_grammar.specs.declared.tokens.Sort.TheVariants.{OpenBracket, CloseBracket}
use Rattle.pc_grammar.specs.declared.expressions.Word.{Word}
use Rattle.pc_grammar.specs.declared.expressions.Expr.{Expr, fold-roll-Expr}
use Rattle.pc_grammar.specs.declared.expressions.Expr.TheVariants.{Number, Var, Elem, Unary, Chain, rolls-Number, rolls-Var, rolls-Elem, rolls-Unary, rolls-Chain}
use Rattle.pc_grammar.specs.declared.expressions.Expr.TheOpen.{Number as OpenNumber, Var as OpenVar, Elem as OpenElem, Unary as OpenUnary, Chain as OpenChain}
use Rattle.pc_print.specs.Parts.{Part, mark, word, literal, look, text}
use Rattle.pc_print.specs.Canonical.{Piece, unary_sign, is_neg, gap, tighter, chain_level, operands, piece_of, written, pieces}

pub text-append : (a b : List Part) → text (a ++ b) ≡ text a ++ text b
text-append [] b = refl
text-append (p ∷ a) b = ap (λ x. look p ++ x) (text-append a b) ∙ sym (append_assoc (look p) (text a) (text b))

pub written-Number : (n : ℕ) → written (Number n) ≡ record { level = 0; negates = false; parts = literal n ∷ [] }
written-Number n = ap written (sym (rolls-Number n)) ∙ fold-roll-Expr Word Piece piece_of (OpenNumber n)

pub written-Var : (w : Word) → written (Var w) ≡ record { level = 0; negates = false; parts = word w ∷ [] }
written-Var w = ap written (sym (rolls-Var w)) ∙ fold-roll-Expr Word Piece piece_of (OpenVar w)

pub written-Elem : (w : Word) (index : Expr Word) → written (Elem w index) ≡ record { level = 0; negates = false; parts = word w ∷ mark OpenBracket ∷ ((written index).parts ++ mark CloseBracket ∷ []) }
written-Elem w index = ap written (sym (rolls-Elem w index)) ∙ fold-roll-Expr Word Piece piece_of (OpenElem w index)

pub written-Unary : (op : UnOp) (e : Expr Word) → written (Unary op e) ≡ record { level = 0; negates = is_neg op; parts = mark (unary_sign op) ∷ (gap op (written e).negates ++ tighter 1 (written e)) }
written-Unary op e = ap written (sym (rolls-Unary op e)) ∙ fold-roll-Expr Word Piece piece_of (OpenUnary op e)

chain_level-pieces : (rest : List (BinOp × Expr Word)) → chain_level (pieces rest) ≡ chain_level rest
chain_level-pieces [] = refl
chain_level-pieces (p ∷ rest) = refl

pub written-Chain : (head : Expr Word) (rest : List (BinOp × Expr Word)) →
    written (Chain head rest) ≡ record { level = chain_level rest; negates = false; parts = tighter (chain_level rest) (written head) ++ operands (chain_level rest) (pieces rest) }
written-Chain head rest =
    ap written (sym (rolls-Chain head rest)) ∙ fold-roll-Expr Word Piece piece_of (OpenChain head rest)
    ∙ ap (λ (l : ℕ). let k : Piece = record { level = l; negates = false; parts = tighter l (written head) ++ operands l (pieces rest) } in k) (chain_level-pieces rest)

pub ruleset pieces_are = (append_assoc, append-nil, text-append, written-Number, written-Var, written-Elem, written-Unary, written-Chain)

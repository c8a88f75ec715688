-- The equations of `expression_of` and `statement_of`.
use Rattle.std.proofs.Common.{◌≡◌, ℕ, Bool, List, [], ◌∷◌, map, Option, Some, None, refl, sym, ap, ◌∙◌}
use Rattle.pt_base.specs.declared.Span.{Span}
use Rattle.pt_base.specs.declared.operators.UnOp.{UnOp}
use Rattle.pt_base.specs.declared.operators.BinOp.{BinOp}
use Rattle.pc_grammar.specs.declared.expressions.Expr.{Expr, fold-roll-Expr}
use Rattle.pc_grammar.specs.declared.expressions.Expr.TheVariants.{Number, Var, Elem, Unary, Chain, rolls-Number, rolls-Var, rolls-Elem, rolls-Unary, rolls-Chain}
use Rattle.pc_grammar.specs.declared.expressions.Expr.TheOpen.{Number as OpenNumber, Var as OpenVar, Elem as OpenElem, Unary as OpenUnary, Chain as OpenChain}
use Rattle.pc_grammar.specs.declared.expressions.Goal.{Goal}
use Rattle.pc_grammar.specs.declared.statements.Stmt.{Stmt, fold-roll-Stmt}
use Rattle.pc_grammar.specs.declared.statements.Stmt.TheVariants.{Skip, Assign, Call, Block, If, While, Eot, Par, Abort, rolls-Skip, rolls-Assign, rolls-Call, rolls-Eot, rolls-Par, rolls-Block, rolls-If, rolls-While, rolls-Abort}
use Rattle.pc_grammar.specs.declared.statements.Stmt.TheOpen.{Skip as OpenSkip, Assign as OpenAssign, Call as OpenCall, Eot as OpenEot, Par as OpenPar, Block as OpenBlock, If as OpenIf, While as OpenWhile, Abort as OpenAbort}
use Rattle.pc_meaning.specs.declared.places.Room.{Room}
use Rattle.pc_meaning.specs.Tree.{Expression, number, cell, element, unary, chain, Statement, Statements, assign, call_of, eot, par, block, if_so, abort, each, skip, operand}
use Rattle.pc_meaning.specs.Programs.{room_at, operands_from, operands_of, expression_step, expression_of, target_of, statements_from, loop_from, Numbering, statement_step, statement_of, statements_of}

module _ (rooms : List Room) where
  all_operands : (rest : List (BinOp × Expr ℕ)) → operands_from (map (λ p. (p.0, expression_of rooms p.1)) rest) ≡ operands_of rooms rest
  all_operands [] = refl
  all_operands (p ∷ rest) = ap (λ os. operand p.0 (expression_of rooms p.1) os) (all_operands rest)

  pub expression-Number : (n : ℕ) → expression_of rooms (Number n) ≡ number n
  expression-Number n = ap (expression_of rooms) (sym (rolls-Number n)) ∙ fold-roll-Expr ℕ Expression (expression_step rooms) (OpenNumber n)

  pub expression-Var : (c : ℕ) → expression_of rooms (Var c) ≡ cell (room_at rooms c).first
  expression-Var c = ap (expression_of rooms) (sym (rolls-Var c)) ∙ fold-roll-Expr ℕ Expression (expression_step rooms) (OpenVar c)

  pub expression-Elem : (c : ℕ) (index : Expr ℕ) → expression_of rooms (Elem c index) ≡ element (room_at rooms c).first (room_at rooms c).size (expression_of rooms index)
  expression-Elem c index = ap (expression_of rooms) (sym (rolls-Elem c index)) ∙ fold-roll-Expr ℕ Expression (expression_step rooms) (OpenElem c index)

  pub expression-Unary : (op : UnOp) (e : Expr ℕ) → expression_of rooms (Unary op e) ≡ unary op (expression_of rooms e)
  expression-Unary op e = ap (expression_of rooms) (sym (rolls-Unary op e)) ∙ fold-roll-Expr ℕ Expression (expression_step rooms) (OpenUnary op e)

  pub expression-Chain : (first : Expr ℕ) (rest : List (BinOp × Expr ℕ)) → expression_of rooms (Chain first rest) ≡ chain (expression_of rooms first) (operands_of rooms rest)
  expression-Chain first rest = ap (expression_of rooms) (sym (rolls-Chain first rest)) ∙ fold-roll-Expr ℕ Expression (expression_step rooms) (OpenChain first rest) ∙ ap (λ os. chain (expression_of rooms first) os) (all_operands rest)

  module _ (n : Numbering) where
    all_statements : (all : List (Stmt ℕ)) → statements_from (map (statement_of rooms n) all) ≡ statements_of rooms n all
    all_statements [] = refl
    all_statements (s ∷ rest) = ap (each (statement_of rooms n s)) (all_statements rest)

    pub statement-Skip : statement_of rooms n Skip ≡ skip
    statement-Skip = ap (statement_of rooms n) (sym rolls-Skip) ∙ fold-roll-Stmt ℕ Statement (statement_step rooms n) OpenSkip

    pub statement-Assign : (goal : Goal ℕ) (e : Expr ℕ) → statement_of rooms n (Assign goal e) ≡ assign (target_of rooms goal) (expression_of rooms e)
    statement-Assign goal e = ap (statement_of rooms n) (sym (rolls-Assign goal e)) ∙ fold-roll-Stmt ℕ Statement (statement_step rooms n) (OpenAssign goal e)

    pub statement-Call : (goal : Goal ℕ) (f : ℕ) (es : List (Expr ℕ)) → statement_of rooms n (Call goal f es) ≡ call_of (target_of rooms goal) f (map (expression_of rooms) es)
    statement-Call goal f es = ap (statement_of rooms n) (sym (rolls-Call goal f es)) ∙ fold-roll-Stmt ℕ Statement (statement_step rooms n) (OpenCall goal f es)

    pub statement-Eot : (span : Span) → statement_of rooms n (Eot span) ≡ eot (n.eot_number span)
    statement-Eot span = ap (statement_of rooms n) (sym (rolls-Eot span)) ∙ fold-roll-Stmt ℕ Statement (statement_step rooms n) (OpenEot span)

    pub statement-Par : (span : Span) (threads : List ℕ) → statement_of rooms n (Par span threads) ≡ par (n.par_number span) threads
    statement-Par span threads = ap (statement_of rooms n) (sym (rolls-Par span threads)) ∙ fold-roll-Stmt ℕ Statement (statement_step rooms n) (OpenPar span threads)

    pub statement-Block : (all : List (Stmt ℕ)) → statement_of rooms n (Block all) ≡ block (statements_of rooms n all)
    statement-Block all = ap (statement_of rooms n) (sym (rolls-Block all)) ∙ fold-roll-Stmt ℕ Statement (statement_step rooms n) (OpenBlock all) ∙ ap (λ (ss : Statements). block ss) (all_statements all)

    pub statement-If_else : (test : Expr ℕ) (first second : Stmt ℕ) → statement_of rooms n (If test first (Some second)) ≡ if_so (expression_of rooms test) (statement_of rooms n first) (statement_of rooms n second)
    statement-If_else test first second = ap (statement_of rooms n) (sym (rolls-If test first (Some second))) ∙ fold-roll-Stmt ℕ Statement (statement_step rooms n) (OpenIf test first (Some second))

    pub statement-If : (test : Expr ℕ) (first : Stmt ℕ) → statement_of rooms n (If test first None) ≡ if_so (expression_of rooms test) (statement_of rooms n first) skip
    statement-If test first = ap (statement_of rooms n) (sym (rolls-If test first None)) ∙ fold-roll-Stmt ℕ Statement (statement_step rooms n) (OpenIf test first None)

    pub statement-While : (span : Span) (test : Expr ℕ) (most : Option ℕ) (body : Stmt ℕ) → statement_of rooms n (While span test most body) ≡ loop_from most (expression_of rooms test) (statement_of rooms n body)
    statement-While span test most body = ap (statement_of rooms n) (sym (rolls-While span test most body)) ∙ fold-roll-Stmt ℕ Statement (statement_step rooms n) (OpenWhile span test most body)

    pub statement-Abort : (span : Span) (weak : Bool) (body : Stmt ℕ) (test : Expr ℕ) → statement_of rooms n (Abort span weak body test) ≡ abort (n.abort_number span) weak (statement_of rooms n body) (expression_of rooms test)
    statement-Abort span weak body test = ap (statement_of rooms n) (sym (rolls-Abort span weak body test)) ∙ fold-roll-Stmt ℕ Statement (statement_step rooms n) (OpenAbort span weak body test)

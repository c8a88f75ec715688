-- A tree of the grammar with places for names: first each name gets its number, then each number its place.
use Rattle.std.proofs.Common.{◌≡◌, ℕ, Bool, List, map, Option, Some, None, sym, ap, ◌∙◌}
use Rattle.pt_base.specs.declared.rules.Span.{Span}
use Rattle.pt_base.specs.declared.operators.UnOp.{UnOp}
use Rattle.pt_base.specs.declared.operators.BinOp.{BinOp}
use Rattle.pc_grammar.specs.declared.expressions.Word.{Word}
use Rattle.pc_grammar.specs.declared.expressions.Expr.{Expr, fold-roll-Expr}
use Rattle.pc_grammar.specs.declared.expressions.Expr.TheVariants.{Number, Var, Elem, Unary, Chain, rolls-Number, rolls-Var, rolls-Elem, rolls-Unary, rolls-Chain}
use Rattle.pc_grammar.specs.declared.expressions.Expr.TheOpen.{Number as OpenNumber, Var as OpenVar, Elem as OpenElem, Unary as OpenUnary, Chain as OpenChain}
use Rattle.pc_grammar.specs.declared.expressions.Goal.{Goal}
use Rattle.pc_grammar.specs.declared.statements.Stmt.{Stmt, fold-roll-Stmt}
use Rattle.pc_grammar.specs.declared.statements.Stmt.TheVariants.{Skip, Assign, Call, Block, If, While, Eot, Par, Abort, rolls-Skip, rolls-Assign, rolls-Call, rolls-Eot, rolls-Par, rolls-Block, rolls-If, rolls-While, rolls-Abort}
use Rattle.pc_grammar.specs.declared.statements.Stmt.TheOpen.{Stmt-F, Skip as OpenSkip, Assign as OpenAssign, Call as OpenCall, Eot as OpenEot, Par as OpenPar, Block as OpenBlock, If as OpenIf, While as OpenWhile, Abort as OpenAbort}
use Rattle.pc_grammar.specs.Typing.{numbered_step, numbered, numbered_goal, numbered_statement_step, numbered_statement}
use Rattle.pc_meaning.specs.declared.places.Room.{Room}
use Rattle.pc_meaning.specs.Tree.{Expression, number, cell, element, unary, chain, Statement, Statements, assign, call_of, eot, par, block, if_so, abort, skip}
use Rattle.pc_meaning.specs.Programs.{room_at, operands_of, expression_of, target_of, loop_from, Numbering, statement_of, statements_of}
use Rattle.pc_meaning.proofs.Trees.{expression-Number, expression-Var, expression-Elem, expression-Unary, expression-Chain, statement-Skip, statement-Assign, statement-Call, statement-Eot, statement-Par, statement-Block, statement-If_else, statement-If, statement-While, statement-Abort}

module _ (rooms : List Room) (number_of : Word → ℕ) where
  abbrev pub placed : Expr Word → Expression
  placed e = expression_of rooms (numbered number_of e)

  pub placed-Number : (n : ℕ) → placed (Number n) ≡ number n
  placed-Number n =
      ap placed (sym (rolls-Number n)) ∙ ap (expression_of rooms) (fold-roll-Expr Word (Expr ℕ) (numbered_step number_of) (OpenNumber n)) ∙ expression-Number rooms n

  pub placed-Var : (w : Word) → placed (Var w) ≡ cell (room_at rooms (number_of w)).first
  placed-Var w =
      ap placed (sym (rolls-Var w)) ∙ ap (expression_of rooms) (fold-roll-Expr Word (Expr ℕ) (numbered_step number_of) (OpenVar w)) ∙ expression-Var rooms (number_of w)

  pub placed-Elem : (w : Word) (index : Expr Word) → placed (Elem w index) ≡ element (room_at rooms (number_of w)).first (room_at rooms (number_of w)).size (placed index)
  placed-Elem w index =
      ap placed (sym (rolls-Elem w index)) ∙ ap (expression_of rooms) (fold-roll-Expr Word (Expr ℕ) (numbered_step number_of) (OpenElem w index))
      ∙ expression-Elem rooms (number_of w) (numbered number_of index)

  pub placed-Unary : (op : UnOp) (e : Expr Word) → placed (Unary op e) ≡ unary op (placed e)
  placed-Unary op e =
      ap placed (sym (rolls-Unary op e)) ∙ ap (expression_of rooms) (fold-roll-Expr Word (Expr ℕ) (numbered_step number_of) (OpenUnary op e))
      ∙ expression-Unary rooms op (numbered number_of e)

  abbrev pub numbered_operands : List (BinOp × Expr Word) → List (BinOp × Expr ℕ)
  numbered_operands rest = map (λ (p : BinOp × Expr Word). (p.0, numbered number_of p.1)) rest

  pub placed-Chain : (head : Expr Word) (rest : List (BinOp × Expr Word)) → placed (Chain head rest) ≡ chain (placed head) (operands_of rooms (numbered_operands rest))
  placed-Chain head rest =
      ap placed (sym (rolls-Chain head rest)) ∙ ap (expression_of rooms) (fold-roll-Expr Word (Expr ℕ) (numbered_step number_of) (OpenChain head rest))
      ∙ expression-Chain rooms (numbered number_of head) (numbered_operands rest)

  module _ (function : Word → ℕ) (n : Numbering) where
    abbrev pub placed_statement : Stmt Word → Statement
    placed_statement s = statement_of rooms n (numbered_statement number_of function s)

    abbrev pub placed_statements : List (Stmt Word) → Statements
    placed_statements all = statements_of rooms n (map (numbered_statement number_of function) all)

    abbrev step : Stmt-F Word (Stmt ℕ) → Stmt ℕ
    step = numbered_statement_step number_of function

    pub placed-Skip : placed_statement Skip ≡ skip
    placed-Skip = ap placed_statement (sym rolls-Skip) ∙ ap (statement_of rooms n) (fold-roll-Stmt Word (Stmt ℕ) step OpenSkip) ∙ statement-Skip rooms n

    pub placed-Assign : (goal : Goal Word) (e : Expr Word) → placed_statement (Assign goal e) ≡ assign (target_of rooms (numbered_goal number_of goal)) (placed e)
    placed-Assign goal e =
        ap placed_statement (sym (rolls-Assign goal e)) ∙ ap (statement_of rooms n) (fold-roll-Stmt Word (Stmt ℕ) step (OpenAssign goal e))
        ∙ statement-Assign rooms n (numbered_goal number_of goal) (numbered number_of e)

    pub placed-Call : (goal : Goal Word) (f : Word) (es : List (Expr Word)) →
        placed_statement (Call goal f es) ≡ call_of (target_of rooms (numbered_goal number_of goal)) (function f) (map (expression_of rooms) (map (numbered number_of) es))
    placed-Call goal f es =
        ap placed_statement (sym (rolls-Call goal f es)) ∙ ap (statement_of rooms n) (fold-roll-Stmt Word (Stmt ℕ) step (OpenCall goal f es))
        ∙ statement-Call rooms n (numbered_goal number_of goal) (function f) (map (numbered number_of) es)

    pub placed-Eot : (span : Span) → placed_statement (Eot span) ≡ eot (n.eot_number span)
    placed-Eot span = ap placed_statement (sym (rolls-Eot span)) ∙ ap (statement_of rooms n) (fold-roll-Stmt Word (Stmt ℕ) step (OpenEot span)) ∙ statement-Eot rooms n span

    pub placed-Par : (span : Span) (threads : List Word) → placed_statement (Par span threads) ≡ par (n.par_number span) (map function threads)
    placed-Par span threads =
        ap placed_statement (sym (rolls-Par span threads)) ∙ ap (statement_of rooms n) (fold-roll-Stmt Word (Stmt ℕ) step (OpenPar span threads))
        ∙ statement-Par rooms n span (map function threads)

    pub placed-Block : (all : List (Stmt Word)) → placed_statement (Block all) ≡ block (placed_statements all)
    placed-Block all =
        ap placed_statement (sym (rolls-Block all)) ∙ ap (statement_of rooms n) (fold-roll-Stmt Word (Stmt ℕ) step (OpenBlock all))
        ∙ statement-Block rooms n (map (numbered_statement number_of function) all)

    pub placed-If : (test : Expr Word) (first : Stmt Word) → placed_statement (If test first None) ≡ if_so (placed test) (placed_statement first) skip
    placed-If test first =
        ap placed_statement (sym (rolls-If test first None)) ∙ ap (statement_of rooms n) (fold-roll-Stmt Word (Stmt ℕ) step (OpenIf test first None))
        ∙ statement-If rooms n (numbered number_of test) (numbered_statement number_of function first)

    pub placed-If_else : (test : Expr Word) (first second : Stmt Word) → placed_statement (If test first (Some second)) ≡ if_so (placed test) (placed_statement first) (placed_statement second)
    placed-If_else test first second =
        ap placed_statement (sym (rolls-If test first (Some second))) ∙ ap (statement_of rooms n) (fold-roll-Stmt Word (Stmt ℕ) step (OpenIf test first (Some second)))
        ∙ statement-If_else rooms n (numbered number_of test) (numbered_statement number_of function first) (numbered_statement number_of function second)

    pub placed-While : (span : Span) (test : Expr Word) (most : Option ℕ) (body : Stmt Word) → placed_statement (While span test most body) ≡ loop_from most (placed test) (placed_statement body)
    placed-While span test most body =
        ap placed_statement (sym (rolls-While span test most body)) ∙ ap (statement_of rooms n) (fold-roll-Stmt Word (Stmt ℕ) step (OpenWhile span test most body))
        ∙ statement-While rooms n span (numbered number_of test) most (numbered_statement number_of function body)

    pub placed-Abort : (span : Span) (weak : Bool) (body : Stmt Word) (test : Expr Word) → placed_statement (Abort span weak body test) ≡ abort (n.abort_number span) weak (placed_statement body) (placed test)
    placed-Abort span weak body test =
        ap placed_statement (sym (rolls-Abort span weak body test)) ∙ ap (statement_of rooms n) (fold-roll-Stmt Word (Stmt ℕ) step (OpenAbort span weak body test))
        ∙ statement-Abort rooms n span weak (numbered_statement number_of function body) (numbered number_of test)

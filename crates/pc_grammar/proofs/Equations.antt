-- The equations of the spans of expressions and statements.
use Rattle.std.proofs.Common.{◌≡◌, ℕ, Bool, List, [], ◌∷◌, ◌++◌, Option, Some, None, map, refl, sym, ap, ◌∙◌, append-nil}
use Rattle.pt_base.specs.declared.operators.UnOp.{UnOp}
use Rattle.pt_base.specs.declared.operators.BinOp.{BinOp}
use Rattle.pt_base.specs.declared.rules.Span.{Span}
use Rattle.pc_grammar.specs.declared.expressions.Word.{Word}
use Rattle.pc_grammar.specs.declared.expressions.Expr.{Expr, fold-roll-Expr}
use Rattle.pc_grammar.specs.declared.expressions.Expr.TheVariants.{Number, Var, Elem, Unary, Chain, rolls-Number, rolls-Var, rolls-Elem, rolls-Unary, rolls-Chain}
use Rattle.pc_grammar.specs.declared.expressions.Expr.TheOpen.{Number as OpenNumber, Var as OpenVar, Elem as OpenElem, Unary as OpenUnary, Chain as OpenChain}
use Rattle.pc_grammar.specs.declared.expressions.Goal.{Goal}
use Rattle.pc_grammar.specs.declared.statements.Stmt.{Stmt, fold-roll-Stmt}
use Rattle.pc_grammar.specs.declared.statements.Stmt.TheVariants.{Skip, Assign, Call, Block, If, While, Eot, Par, Abort, rolls-Skip, rolls-Assign, rolls-Call, rolls-Block, rolls-If, rolls-While, rolls-Eot, rolls-Par, rolls-Abort}
use Rattle.pc_grammar.specs.declared.statements.Stmt.TheOpen.{Skip as OpenSkip, Assign as OpenAssign, Call as OpenCall, Block as OpenBlock, If as OpenIf, While as OpenWhile, Eot as OpenEot, Par as OpenPar, Abort as OpenAbort}
use Rattle.pc_grammar.specs.Spans.{each, name_spans, expression_spans_of, expression_spans, goal_spans, statement_spans_of, statement_spans}

-- ---- expressions

pub expression-Number : (n : ℕ) → expression_spans (Number n) ≡ []
expression-Number n = ap expression_spans (sym (rolls-Number n)) ∙ fold-roll-Expr Word (List Span) expression_spans_of (OpenNumber n)

pub expression-Var : (x : Word) → expression_spans (Var x) ≡ x.span ∷ []
expression-Var x = ap expression_spans (sym (rolls-Var x)) ∙ fold-roll-Expr Word (List Span) expression_spans_of (OpenVar x)

pub expression-Elem : (x : Word) (index : Expr Word) → expression_spans (Elem x index) ≡ x.span ∷ expression_spans index
expression-Elem x index = ap expression_spans (sym (rolls-Elem x index)) ∙ fold-roll-Expr Word (List Span) expression_spans_of (OpenElem x index)

pub expression-Unary : (op : UnOp) (e : Expr Word) → expression_spans (Unary op e) ≡ expression_spans e
expression-Unary op e = ap expression_spans (sym (rolls-Unary op e)) ∙ fold-roll-Expr Word (List Span) expression_spans_of (OpenUnary op e)

-- the spans of the operands behind the first one
abbrev pub operand_spans : List (BinOp × Expr Word) → List Span
operand_spans [] = []
operand_spans (p ∷ rest) = expression_spans p.1 ++ operand_spans rest

each-operands : (rest : List (BinOp × Expr Word)) → each (λ (p : BinOp × List Span). p.1) (map (λ p. (p.0, expression_spans p.1)) rest) ≡ operand_spans rest
each-operands [] = refl
each-operands (p ∷ rest) = ap (λ x. expression_spans p.1 ++ x) (each-operands rest)

pub expression-Chain : (head : Expr Word) (rest : List (BinOp × Expr Word)) → expression_spans (Chain head rest) ≡ expression_spans head ++ operand_spans rest
expression-Chain head rest =
    ap expression_spans (sym (rolls-Chain head rest)) ∙ fold-roll-Expr Word (List Span) expression_spans_of (OpenChain head rest)
    ∙ ap (λ x. expression_spans head ++ x) (each-operands rest)

-- ---- statements

pub statement-Skip : statement_spans Skip ≡ []
statement-Skip = ap statement_spans (sym rolls-Skip) ∙ fold-roll-Stmt Word (List Span) statement_spans_of OpenSkip

pub statement-Assign : (goal : Goal Word) (value : Expr Word) → statement_spans (Assign goal value) ≡ goal_spans goal ++ expression_spans value
statement-Assign goal value = ap statement_spans (sym (rolls-Assign goal value)) ∙ fold-roll-Stmt Word (List Span) statement_spans_of (OpenAssign goal value)

pub statement-Call : (goal : Goal Word) (function : Word) (arguments : List (Expr Word)) → statement_spans (Call goal function arguments) ≡ goal_spans goal ++ function.span ∷ each expression_spans arguments
statement-Call goal function arguments = ap statement_spans (sym (rolls-Call goal function arguments)) ∙ fold-roll-Stmt Word (List Span) statement_spans_of (OpenCall goal function arguments)

each-statements : (all : List (Stmt Word)) → each (λ (s : List Span). s) (map statement_spans all) ≡ each statement_spans all
each-statements [] = refl
each-statements (s ∷ rest) = ap (λ x. statement_spans s ++ x) (each-statements rest)

pub statement-Block : (all : List (Stmt Word)) → statement_spans (Block all) ≡ each statement_spans all
statement-Block all = ap statement_spans (sym (rolls-Block all)) ∙ fold-roll-Stmt Word (List Span) statement_spans_of (OpenBlock all) ∙ each-statements all

pub statement-If-None : (test : Expr Word) (first : Stmt Word) → statement_spans (If test first None) ≡ expression_spans test ++ statement_spans first
statement-If-None test first =
    ap statement_spans (sym (rolls-If test first None)) ∙ fold-roll-Stmt Word (List Span) statement_spans_of (OpenIf test first None)
    ∙ ap (λ x. expression_spans test ++ x) (append-nil (statement_spans first))

pub statement-If-Some : (test : Expr Word) (first second : Stmt Word) → statement_spans (If test first (Some second)) ≡ expression_spans test ++ (statement_spans first ++ statement_spans second)
statement-If-Some test first second = ap statement_spans (sym (rolls-If test first (Some second))) ∙ fold-roll-Stmt Word (List Span) statement_spans_of (OpenIf test first (Some second))

pub statement-While : (span : Span) (test : Expr Word) (most : Option ℕ) (body : Stmt Word) → statement_spans (While span test most body) ≡ span ∷ (expression_spans test ++ statement_spans body)
statement-While span test most body = ap statement_spans (sym (rolls-While span test most body)) ∙ fold-roll-Stmt Word (List Span) statement_spans_of (OpenWhile span test most body)

pub statement-Eot : (span : Span) → statement_spans (Eot span) ≡ span ∷ []
statement-Eot span = ap statement_spans (sym (rolls-Eot span)) ∙ fold-roll-Stmt Word (List Span) statement_spans_of (OpenEot span)

pub statement-Par : (span : Span) (threads : List Word) → statement_spans (Par span threads) ≡ span ∷ each name_spans threads
statement-Par span threads = ap statement_spans (sym (rolls-Par span threads)) ∙ fold-roll-Stmt Word (List Span) statement_spans_of (OpenPar span threads)

pub statement-Abort : (span : Span) (weak : Bool) (body : Stmt Word) (test : Expr Word) → statement_spans (Abort span weak body test) ≡ span ∷ (statement_spans body ++ expression_spans test)
statement-Abort span weak body test = ap statement_spans (sym (rolls-Abort span weak body test)) ∙ fold-roll-Stmt Word (List Span) statement_spans_of (OpenAbort span weak body test)

-- The equations of the marks of statements.
use Rattle.std.proofs.Common.{◌≡◌, ℕ, Bool, List, [], ◌∷◌, ◌++◌, map, Option, Some, None, refl, sym, ap, ◌∙◌, append_assoc, append-nil}
use Rattle.pt_base.specs.declared.rules.Span.{Span}
use Rattle.pc_grammar.specs.declared.expressions.Expr.{Expr}
use Rattle.pc_grammar.specs.declared.expressions.Goal.{Goal}
use Rattle.pc_grammar.specs.declared.statements.Stmt.{Stmt, fold-Stmt, fold-roll-Stmt}
use Rattle.pc_grammar.specs.declared.statements.Stmt.TheVariants.{Skip, Assign, Call, Block, If, While, Eot, Par, Abort, rolls-Skip, rolls-Assign, rolls-Call, rolls-Eot, rolls-Par, rolls-Block, rolls-If, rolls-While, rolls-Abort}
use Rattle.pc_grammar.specs.declared.statements.Stmt.TheOpen.{Stmt-F, Skip as OpenSkip, Assign as OpenAssign, Call as OpenCall, Eot as OpenEot, Par as OpenPar, Block as OpenBlock, If as OpenIf, While as OpenWhile, Abort as OpenAbort}

module _ (step : Stmt-F ℕ (List Span) → List Span) where
  abbrev found : Stmt ℕ → List Span
  found = fold-Stmt ℕ (List Span) step

  pub marked-Skip : found Skip ≡ step OpenSkip
  marked-Skip = ap found (sym rolls-Skip) ∙ fold-roll-Stmt ℕ (List Span) step OpenSkip

  pub marked-Assign : (goal : Goal ℕ) (e : Expr ℕ) → found (Assign goal e) ≡ step (OpenAssign goal e)
  marked-Assign goal e = ap found (sym (rolls-Assign goal e)) ∙ fold-roll-Stmt ℕ (List Span) step (OpenAssign goal e)

  pub marked-Call : (goal : Goal ℕ) (f : ℕ) (es : List (Expr ℕ)) → found (Call goal f es) ≡ step (OpenCall goal f es)
  marked-Call goal f es = ap found (sym (rolls-Call goal f es)) ∙ fold-roll-Stmt ℕ (List Span) step (OpenCall goal f es)

  pub marked-Eot : (span : Span) → found (Eot span) ≡ step (OpenEot span)
  marked-Eot span = ap found (sym (rolls-Eot span)) ∙ fold-roll-Stmt ℕ (List Span) step (OpenEot span)

  pub marked-Par : (span : Span) (threads : List ℕ) → found (Par span threads) ≡ step (OpenPar span threads)
  marked-Par span threads = ap found (sym (rolls-Par span threads)) ∙ fold-roll-Stmt ℕ (List Span) step (OpenPar span threads)

  pub marked-Block : (all : List (Stmt ℕ)) → found (Block all) ≡ step (OpenBlock (map found all))
  marked-Block all = ap found (sym (rolls-Block all)) ∙ fold-roll-Stmt ℕ (List Span) step (OpenBlock all)

  pub marked-If : (test : Expr ℕ) (first : Stmt ℕ) → found (If test first None) ≡ step (OpenIf test (found first) None)
  marked-If test first = ap found (sym (rolls-If test first None)) ∙ fold-roll-Stmt ℕ (List Span) step (OpenIf test first None)

  pub marked-If_else : (test : Expr ℕ) (first second : Stmt ℕ) → found (If test first (Some second)) ≡ step (OpenIf test (found first) (Some (found second)))
  marked-If_else test first second = ap found (sym (rolls-If test first (Some second))) ∙ fold-roll-Stmt ℕ (List Span) step (OpenIf test first (Some second))

  pub marked-While : (span : Span) (test : Expr ℕ) (most : Option ℕ) (body : Stmt ℕ) → found (While span test most body) ≡ step (OpenWhile span test most (found body))
  marked-While span test most body = ap found (sym (rolls-While span test most body)) ∙ fold-roll-Stmt ℕ (List Span) step (OpenWhile span test most body)

  pub marked-Abort : (span : Span) (weak : Bool) (body : Stmt ℕ) (test : Expr ℕ) → found (Abort span weak body test) ≡ step (OpenAbort span weak (found body) test)
  marked-Abort span weak body test = ap found (sym (rolls-Abort span weak body test)) ∙ fold-roll-Stmt ℕ (List Span) step (OpenAbort span weak body test)

pub ruleset marked = (append_assoc, append-nil, marked-Skip, marked-Assign, marked-Call, marked-Eot, marked-Par, marked-Block, marked-If, marked-If_else, marked-While, marked-Abort)

-- The equations of statements without places.
use Rattle.std.proofs.Common.{◌≡◌, ℕ, Bool, List, Option, Some, None, map, sym, ap, ◌∙◌}
use Rattle.pt_base.specs.declared.rules.Span.{Span}
use Rattle.pc_grammar.specs.declared.expressions.Word.{Word}
use Rattle.pc_grammar.specs.declared.expressions.Expr.{Expr}
use Rattle.pc_grammar.specs.declared.expressions.Goal.{Goal}
use Rattle.pc_grammar.specs.declared.statements.Stmt.{Stmt, fold-roll-Stmt}
use Rattle.pc_grammar.specs.declared.statements.Stmt.TheVariants.{Assign, Call, Block, If, While, Eot, Par, Abort, rolls-Assign, rolls-Call, rolls-Block, rolls-If, rolls-While, rolls-Eot, rolls-Par, rolls-Abort}
use Rattle.pc_grammar.specs.declared.statements.Stmt.TheOpen.{Assign as OpenAssign, Call as OpenCall, Block as OpenBlock, If as OpenIf, While as OpenWhile, Eot as OpenEot, Par as OpenPar, Abort as OpenAbort}
use Rattle.pc_print.specs.Tokens.{nowhere, bare}
use Rattle.pc_print.specs.Same.{bare_goal, bare_statement_of, bare_statement, bare_statements}

pub bare-Assign : (goal : Goal Word) (value : Expr Word) → bare_statement (Assign goal value) ≡ Assign (bare_goal goal) (bare value)
bare-Assign goal value = ap bare_statement (sym (rolls-Assign goal value)) ∙ fold-roll-Stmt Word (Stmt (List ℕ)) bare_statement_of (OpenAssign goal value)

pub bare-Call : (goal : Goal Word) (function : Word) (arguments : List (Expr Word)) → bare_statement (Call goal function arguments) ≡ Call (bare_goal goal) function.text (map bare arguments)
bare-Call goal function arguments = ap bare_statement (sym (rolls-Call goal function arguments)) ∙ fold-roll-Stmt Word (Stmt (List ℕ)) bare_statement_of (OpenCall goal function arguments)

pub bare-Block : (all : List (Stmt Word)) → bare_statement (Block all) ≡ Block (bare_statements all)
bare-Block all = ap bare_statement (sym (rolls-Block all)) ∙ fold-roll-Stmt Word (Stmt (List ℕ)) bare_statement_of (OpenBlock all)

pub bare-If-None : (test : Expr Word) (first : Stmt Word) → bare_statement (If test first None) ≡ If (bare test) (bare_statement first) None
bare-If-None test first = ap bare_statement (sym (rolls-If test first None)) ∙ fold-roll-Stmt Word (Stmt (List ℕ)) bare_statement_of (OpenIf test first None)

pub bare-If-Some : (test : Expr Word) (first second : Stmt Word) → bare_statement (If test first (Some second)) ≡ If (bare test) (bare_statement first) (Some (bare_statement second))
bare-If-Some test first second = ap bare_statement (sym (rolls-If test first (Some second))) ∙ fold-roll-Stmt Word (Stmt (List ℕ)) bare_statement_of (OpenIf test first (Some second))

pub bare-While : (span : Span) (test : Expr Word) (most : Option ℕ) (body : Stmt Word) → bare_statement (While span test most body) ≡ While nowhere (bare test) most (bare_statement body)
bare-While span test most body = ap bare_statement (sym (rolls-While span test most body)) ∙ fold-roll-Stmt Word (Stmt (List ℕ)) bare_statement_of (OpenWhile span test most body)

pub bare-Eot : (span : Span) → bare_statement (Eot span) ≡ Eot nowhere
bare-Eot span = ap bare_statement (sym (rolls-Eot span)) ∙ fold-roll-Stmt Word (Stmt (List ℕ)) bare_statement_of (OpenEot span)

pub bare-Par : (span : Span) (threads : List Word) → bare_statement (Par span threads) ≡ Par nowhere (map (λ x. x.text) threads)
bare-Par span threads = ap bare_statement (sym (rolls-Par span threads)) ∙ fold-roll-Stmt Word (Stmt (List ℕ)) bare_statement_of (OpenPar span threads)

pub bare-Abort : (span : Span) (weak : Bool) (body : Stmt Word) (test : Expr Word) → bare_statement (Abort span weak body test) ≡ Abort nowhere weak (bare_statement body) (bare test)
bare-Abort span weak body test = ap bare_statement (sym (rolls-Abort span weak body test)) ∙ fold-roll-Stmt Word (Stmt (List ℕ)) bare_statement_of (OpenAbort span weak body test)

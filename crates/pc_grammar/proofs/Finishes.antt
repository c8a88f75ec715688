-- The equations of `finishes`, one for each statement.
use Rattle.std.proofs.Common.{◌≡◌, ℕ, Bool, true, false, ◌||◌, List, Option, Some, None, sym, ap, ◌∙◌}
use Rattle.std.specs.List.{list_all}
use Rattle.pt_base.specs.declared.rules.Span.{Span}
use Rattle.pc_grammar.specs.declared.expressions.Expr.{Expr}
use Rattle.pc_grammar.specs.declared.expressions.Goal.{Goal}
use Rattle.pc_grammar.specs.declared.statements.Stmt.{Stmt, fold-roll-Stmt}
use Rattle.pc_grammar.specs.declared.statements.Stmt.TheVariants.{Skip, Assign, Call, Block, If, While, Eot, Par, Abort, rolls-Skip, rolls-Assign, rolls-Call, rolls-Block, rolls-If, rolls-While, rolls-Eot, rolls-Par, rolls-Abort}
use Rattle.pc_grammar.specs.declared.statements.Stmt.TheOpen.{Stmt-F, Skip as OpenSkip, Assign as OpenAssign, Call as OpenCall, Block as OpenBlock, If as OpenIf, While as OpenWhile, Eot as OpenEot, Par as OpenPar, Abort as OpenAbort}
use Rattle.pc_grammar.specs.declared.statements.Stmt.TheViews.{roll-Stmt}
use Rattle.pc_grammar.specs.declared.statements.Stmt.TheFolds.{map-Stmt}
use Rattle.pc_grammar.specs.Finishing.{is_known, loop_finishes, finishes_step, finishes, all_finish}

-- the equation of a level
opened : (known : List Bool) (x : Stmt-F ℕ (Stmt ℕ)) (s : Stmt ℕ) → roll-Stmt ℕ x ≡ s → finishes known s ≡ finishes_step known (map-Stmt ℕ (Stmt ℕ) Bool (finishes known) x)
opened known x s e = ap (finishes known) (sym e) ∙ fold-roll-Stmt ℕ Bool (finishes_step known) x

pub finishes-Skip : (known : List Bool) → finishes known Skip ≡ true
finishes-Skip known = opened known OpenSkip Skip rolls-Skip

pub finishes-Assign : (known : List Bool) (goal : Goal ℕ) (value : Expr ℕ) → finishes known (Assign goal value) ≡ true
finishes-Assign known goal value = opened known (OpenAssign goal value) (Assign goal value) (rolls-Assign goal value)

pub finishes-Call : (known : List Bool) (goal : Goal ℕ) (function : ℕ) (arguments : List (Expr ℕ)) → finishes known (Call goal function arguments) ≡ true
finishes-Call known goal function arguments = opened known (OpenCall goal function arguments) (Call goal function arguments) (rolls-Call goal function arguments)

pub finishes-Block : (known : List Bool) (all : List (Stmt ℕ)) → finishes known (Block all) ≡ all_finish known all
finishes-Block known all = opened known (OpenBlock all) (Block all) (rolls-Block all)

pub finishes-If-None : (known : List Bool) (test : Expr ℕ) (first : Stmt ℕ) → finishes known (If test first None) ≡ finishes known first || true
finishes-If-None known test first = opened known (OpenIf test first None) (If test first None) (rolls-If test first None)

pub finishes-If-Some : (known : List Bool) (test : Expr ℕ) (first second : Stmt ℕ) → finishes known (If test first (Some second)) ≡ finishes known first || finishes known second
finishes-If-Some known test first second = opened known (OpenIf test first (Some second)) (If test first (Some second)) (rolls-If test first (Some second))

pub finishes-While : (known : List Bool) (span : Span) (test : Expr ℕ) (most : Option ℕ) (body : Stmt ℕ) → finishes known (While span test most body) ≡ loop_finishes most test
finishes-While known span test most body = opened known (OpenWhile span test most body) (While span test most body) (rolls-While span test most body)

pub finishes-Eot : (known : List Bool) (span : Span) → finishes known (Eot span) ≡ false
finishes-Eot known span = opened known (OpenEot span) (Eot span) (rolls-Eot span)

pub finishes-Par : (known : List Bool) (span : Span) (threads : List ℕ) → finishes known (Par span threads) ≡ list_all (is_known known) threads
finishes-Par known span threads = opened known (OpenPar span threads) (Par span threads) (rolls-Par span threads)

pub finishes-Abort : (known : List Bool) (span : Span) (weak : Bool) (body : Stmt ℕ) (test : Expr ℕ) → finishes known (Abort span weak body test) ≡ finishes known body
finishes-Abort known span weak body test = opened known (OpenAbort span weak body test) (Abort span weak body test) (rolls-Abort span weak body test)

pub ruleset finishes_steps = (finishes-Skip, finishes-Assign, finishes-Call, finishes-Block, finishes-If-None, finishes-If-Some, finishes-While, finishes-Eot, finishes-Par, finishes-Abort)

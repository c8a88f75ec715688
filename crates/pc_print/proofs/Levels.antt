-- The equations of the lines of statements.
use Rattle.std.proofs.Common.{◌≡◌, ℕ, ◌+◌, Bool, List, [], ◌∷◌, ◌++◌, Option, Some, None, map, refl, sym, ap, ◌∙◌, append_assoc, append-nil}
use Rattle.pt_base.specs.declared.rules.Span.{Span}
use Rattle.pc_grammar.specs.declared.tokens.Sort.TheVariants.{Semicolon, OpenBrace, CloseBrace, ElseWord}
use Rattle.pc_grammar.specs.declared.expressions.Word.{Word}
use Rattle.pc_grammar.specs.declared.expressions.Expr.{Expr}
use Rattle.pc_grammar.specs.declared.expressions.Goal.{Goal}
use Rattle.pc_grammar.specs.declared.statements.Stmt.{Stmt, fold-roll-Stmt}
use Rattle.pc_grammar.specs.declared.statements.Stmt.TheVariants.{Skip, Assign, Call, Block, If, While, Eot, Par, Abort, rolls-Skip, rolls-Assign, rolls-Call, rolls-Block, rolls-If, rolls-While, rolls-Eot, rolls-Par, rolls-Abort}
use Rattle.pc_grammar.specs.declared.statements.Stmt.TheOpen.{Skip as OpenSkip, Assign as OpenAssign, Call as OpenCall, Block as OpenBlock, If as OpenIf, While as OpenWhile, Eot as OpenEot, Par as OpenPar, Abort as OpenAbort}
use Rattle.pc_print.specs.Parts.{Part, mark}
use Rattle.pc_print.specs.Canonical.{line, lines_of, all_at, statement, statements, assignment_line, call_line, threads_line, pause_line, if_line, while_line, abort_line, when_line}
use Rattle.pc_print.proofs.Pieces.{text-append}

pub statement-Skip : (level : ℕ) → statement Skip level ≡ line level (mark Semicolon ∷ [])
statement-Skip level = ap (λ s. statement s level) (sym rolls-Skip) ∙ ap (λ f. f level) (fold-roll-Stmt Word (ℕ → List Part) lines_of OpenSkip)

pub statement-Assign : (target : Goal Word) (value : Expr Word) (level : ℕ) → statement (Assign target value) level ≡ assignment_line level target value
statement-Assign target value level = ap (λ s. statement s level) (sym (rolls-Assign target value)) ∙ ap (λ f. f level) (fold-roll-Stmt Word (ℕ → List Part) lines_of (OpenAssign target value))

pub statement-Call : (target : Goal Word) (function : Word) (arguments : List (Expr Word)) (level : ℕ) → statement (Call target function arguments) level ≡ call_line level target function arguments
statement-Call target function arguments level = ap (λ s. statement s level) (sym (rolls-Call target function arguments)) ∙ ap (λ f. f level) (fold-roll-Stmt Word (ℕ → List Part) lines_of (OpenCall target function arguments))

all_at-statements : (level : ℕ) (all : List (Stmt Word)) → all_at level (map statement all) ≡ statements level all
all_at-statements level [] = refl
all_at-statements level (s ∷ rest) = ap (λ x. statement s level ++ x) (all_at-statements level rest)

pub statement-Block : (all : List (Stmt Word)) (level : ℕ) → statement (Block all) level ≡ line level (mark OpenBrace ∷ []) ++ (statements (level + 1) all ++ line level (mark CloseBrace ∷ []))
statement-Block all level =
    ap (λ s. statement s level) (sym (rolls-Block all)) ∙ ap (λ f. f level) (fold-roll-Stmt Word (ℕ → List Part) lines_of (OpenBlock all))
    ∙ ap (λ x. line level (mark OpenBrace ∷ []) ++ (x ++ line level (mark CloseBrace ∷ []))) (all_at-statements (level + 1) all)

pub statement-If-None : (test : Expr Word) (first : Stmt Word) (level : ℕ) → statement (If test first None) level ≡ if_line level test ++ (statement first (level + 1) ++ [])
statement-If-None test first level = ap (λ s. statement s level) (sym (rolls-If test first None)) ∙ ap (λ f. f level) (fold-roll-Stmt Word (ℕ → List Part) lines_of (OpenIf test first None))

pub statement-If-Some : (test : Expr Word) (first second : Stmt Word) (level : ℕ) →
    statement (If test first (Some second)) level ≡ if_line level test ++ (statement first (level + 1) ++ (line level (mark ElseWord ∷ []) ++ statement second (level + 1)))
statement-If-Some test first second level = ap (λ s. statement s level) (sym (rolls-If test first (Some second))) ∙ ap (λ f. f level) (fold-roll-Stmt Word (ℕ → List Part) lines_of (OpenIf test first (Some second)))

pub statement-While : (span : Span) (test : Expr Word) (most : Option ℕ) (body : Stmt Word) (level : ℕ) → statement (While span test most body) level ≡ while_line level test most ++ statement body (level + 1)
statement-While span test most body level = ap (λ s. statement s level) (sym (rolls-While span test most body)) ∙ ap (λ f. f level) (fold-roll-Stmt Word (ℕ → List Part) lines_of (OpenWhile span test most body))

pub statement-Eot : (span : Span) (level : ℕ) → statement (Eot span) level ≡ pause_line level
statement-Eot span level = ap (λ s. statement s level) (sym (rolls-Eot span)) ∙ ap (λ f. f level) (fold-roll-Stmt Word (ℕ → List Part) lines_of (OpenEot span))

pub statement-Par : (span : Span) (threads : List Word) (level : ℕ) → statement (Par span threads) level ≡ threads_line level threads
statement-Par span threads level = ap (λ s. statement s level) (sym (rolls-Par span threads)) ∙ ap (λ f. f level) (fold-roll-Stmt Word (ℕ → List Part) lines_of (OpenPar span threads))

pub statement-Abort : (span : Span) (weak : Bool) (body : Stmt Word) (test : Expr Word) (level : ℕ) → statement (Abort span weak body test) level ≡ abort_line level weak ++ (statement body (level + 1) ++ when_line level test)
statement-Abort span weak body test level = ap (λ s. statement s level) (sym (rolls-Abort span weak body test)) ∙ ap (λ f. f level) (fold-roll-Stmt Word (ℕ → List Part) lines_of (OpenAbort span weak body test))

pub ruleset lines_are = (append_assoc, append-nil, text-append, statement-Skip, statement-Assign, statement-Call, statement-Block, statement-If-None, statement-If-Some, statement-While, statement-Eot, statement-Par, statement-Abort)

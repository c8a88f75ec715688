-- Whether a statement holds a pause, constructor by constructor.
use Rattle.std.proofs.Common.{◌≡◌, List, [], ◌∷◌, Some, Bool, ◌||◌, map, refl, sym, ap, ◌∙◌}
use Rattle.std.specs.List.{list_any}
use Rattle.pc_grammar.specs.declared.expressions.Expr.{Expr}
use Rattle.pc_grammar.specs.declared.statements.Stmt.{Stmt, fold-roll-Stmt}
use Rattle.pc_grammar.specs.declared.statements.Stmt.TheVariants.{Block, If, rolls-Block, rolls-If}
use Rattle.pc_grammar.specs.declared.statements.Stmt.TheOpen.{Block as OpenBlock, If as OpenIf}
use Rattle.pc_grammar.specs.Uses.{any_of, pauses_step, holds_pause}

any_of-map : {A : Type 0} (f : A → Bool) (xs : List A) → any_of (map f xs) ≡ list_any f xs
any_of-map f [] = refl
any_of-map f (x ∷ xs) = ap (λ b. f x || b) (any_of-map f xs)

pub block : {N : Type 0} (all : List (Stmt N)) → holds_pause (Block all) ≡ list_any holds_pause all
block {N} all = ap holds_pause (sym (rolls-Block all)) ∙ fold-roll-Stmt N Bool pauses_step (OpenBlock all) ∙ any_of-map holds_pause all

pub if_else : {N : Type 0} (test : Expr N) (first second : Stmt N) → holds_pause (If test first (Some second)) ≡ (holds_pause first || holds_pause second)
if_else {N} test first second = ap holds_pause (sym (rolls-If test first (Some second))) ∙ fold-roll-Stmt N Bool pauses_step (OpenIf test first (Some second))

pub ruleset pauses = (block, if_else)

-- Whether a statement may finish, and whether it holds a pause, are the same of the tree that the meaning takes.
use Rattle.std.proofs.Common.{◌≡◌, ℕ, Bool, true, false, ◌&&◌, ◌||◌, not, List, [], ◌∷◌, ◌++◌, map, Option, Some, None, refl, sym, ap, subst, ◌∙◌}
use Rattle.pc_grammar.specs.declared.expressions.Expr.{Expr}
use Rattle.pc_grammar.specs.declared.expressions.Expr.TheFolds.{fold-roll-Expr, ind-Expr, map-Expr}
use Rattle.pc_grammar.specs.declared.expressions.Expr.TheViews.{roll-Expr, out-roll-Expr}
use Rattle.pc_grammar.specs.declared.expressions.Expr.TheOpen.{Expr-F, Number, Var, Elem, Unary, Chain}
use Rattle.pc_grammar.specs.declared.statements.Stmt.{Stmt}
use Rattle.pc_grammar.specs.declared.statements.Stmt.TheFolds.{fold-roll-Stmt, ind-Stmt, map-Stmt}
use Rattle.pc_grammar.specs.declared.statements.Stmt.TheViews.{roll-Stmt}
use Rattle.pc_grammar.specs.declared.statements.Stmt.TheOpen.{Stmt-F, Skip, Assign, Call, Block, If, While, Eot, Par, Abort}
use Rattle.pc_grammar.specs.declared.typed.Function.{Function}
use Rattle.pc_grammar.specs.Finishing as typed
use Rattle.pc_grammar.specs.Uses.{any_of, pauses_step, holds_pause}
use Rattle.pc_meaning.specs.Tree.{Expression, Statement}
use Rattle.pc_meaning.specs.Promises.{pauses, some_pauses, is_always_true, finishes, all_finish, finishing_from}
use Rattle.pc_meaning.specs.declared.places.Room.{Room}
use Rattle.pc_meaning.specs.Programs.{expression_step, expression_of, statements_from, loop_from, Numbering, statement_step, statement_of, statements_of, routine_of}

-- a step of a fold comes to that of another, part by part
module _ (rooms : List Room) (n : Numbering) where
  -- ---- pauses

  abbrev SamePause : Stmt ℕ → Type 0
  SamePause s = pauses (statement_of rooms n s) ≡ holds_pause s

  abbrev Paused : Type 0
  Paused = (s : Stmt ℕ) × SamePause s

  all_pause : (all : List Paused) → some_pauses (statements_from (map (statement_of rooms n) (map (λ e. e.0) all))) ≡ any_of (map (holds_pause {N = ℕ}) (map (λ e. e.0) all))
  all_pause [] = refl
  all_pause (e ∷ all) = ap (λ b. b || some_pauses (statements_from (map (statement_of rooms n) (map (λ e. e.0) all)))) e.1 ∙ ap (λ b. holds_pause e.0 || b) (all_pause all)

  or_false : (b : Bool) → (b || false) ≡ b
  or_false true = refl
  or_false false = refl

  loop_pauses : (most : Option ℕ) (test : Expression) (body : Statement) → pauses (loop_from most test body) ≡ pauses body
  loop_pauses None test body = refl
  loop_pauses (Some most) test body = refl

  pause_level : (x : Stmt-F ℕ Paused) →
      pauses (statement_step rooms n (map-Stmt ℕ (Stmt ℕ) Statement (statement_of rooms n) (map-Stmt ℕ Paused (Stmt ℕ) (λ e. e.0) x)))
      ≡ pauses_step (map-Stmt ℕ (Stmt ℕ) Bool (holds_pause {N = ℕ}) (map-Stmt ℕ Paused (Stmt ℕ) (λ e. e.0) x))
  pause_level Skip = refl
  pause_level (Assign goal e) = refl
  pause_level (Call goal f es) = refl
  pause_level (Block all) = all_pause all
  pause_level (If test first None) = ap (λ b. b || false) first.1
  pause_level (If test first (Some second)) = ap (λ b. b || pauses (statement_of rooms n second.0)) first.1 ∙ ap (λ b. holds_pause first.0 || b) second.1
  pause_level (While span test most body) = loop_pauses most (expression_of rooms test) (statement_of rooms n body.0) ∙ body.1
  pause_level (Eot span) = refl
  pause_level (Par span threads) = refl
  pause_level (Abort span weak body test) = refl

  pub same_pause : (s : Stmt ℕ) → SamePause s
  same_pause = ind-Stmt ℕ SamePause (λ x y is.
      subst (λ z. SamePause (roll-Stmt ℕ z)) is
      (let below = map-Stmt ℕ Paused (Stmt ℕ) (λ e. e.0) y in
      ap pauses (fold-roll-Stmt ℕ Statement (statement_step rooms n) below) ∙ pause_level y ∙ sym (fold-roll-Stmt ℕ Bool pauses_step below)))

  -- ---- finishing

  module _ (known : List Bool) where
    abbrev SameFinish : Stmt ℕ → Type 0
    SameFinish s = finishes known (statement_of rooms n s) ≡ typed.finishes known s

    abbrev Finished : Type 0
    Finished = (s : Stmt ℕ) × SameFinish s

    all_same : (all : List Finished) → all_finish known (statements_from (map (statement_of rooms n) (map (λ e. e.0) all))) ≡ typed.all_of (map (typed.finishes known) (map (λ e. e.0) all))
    all_same [] = refl
    all_same (e ∷ all) = ap (λ b. b && all_finish known (statements_from (map (statement_of rooms n) (map (λ e. e.0) all)))) e.1 ∙ ap (λ b. typed.finishes known e.0 && b) (all_same all)

    always_level : (x : Expr-F ℕ (Expr ℕ)) → is_always_true (expression_step rooms (map-Expr ℕ (Expr ℕ) Expression (expression_of rooms) x)) ≡ typed.is_literal_truth x
    always_level (Number n) = refl
    always_level (Var c) = refl
    always_level (Elem c index) = refl
    always_level (Unary op e) = refl
    always_level (Chain first rest) = refl

    abbrev SameAlways : Expr ℕ → Type 0
    SameAlways e = is_always_true (expression_of rooms e) ≡ typed.is_always_true e

    abbrev Truth : Type 0
    Truth = (e : Expr ℕ) × SameAlways e

    same_always : (e : Expr ℕ) → SameAlways e
    same_always = ind-Expr ℕ SameAlways (λ x y is.
        subst (λ z. SameAlways (roll-Expr ℕ z)) is
        (let below = map-Expr ℕ Truth (Expr ℕ) (λ e. e.0) y in
        ap is_always_true (fold-roll-Expr ℕ Expression (expression_step rooms) below) ∙ always_level below ∙ ap typed.is_literal_truth (sym (out-roll-Expr ℕ below))))

    loop_same : (most : Option ℕ) (test : Expr ℕ) (body : Statement) → finishes known (loop_from most (expression_of rooms test) body) ≡ typed.loop_finishes most test
    loop_same None test body = ap not (same_always test)
    loop_same (Some most) test body = refl

    finish_level : (x : Stmt-F ℕ Finished) →
        finishes known (statement_step rooms n (map-Stmt ℕ (Stmt ℕ) Statement (statement_of rooms n) (map-Stmt ℕ Finished (Stmt ℕ) (λ e. e.0) x)))
        ≡ typed.finishes_step known (map-Stmt ℕ (Stmt ℕ) Bool (typed.finishes known) (map-Stmt ℕ Finished (Stmt ℕ) (λ e. e.0) x))
    finish_level Skip = refl
    finish_level (Assign goal e) = refl
    finish_level (Call goal f es) = refl
    finish_level (Block all) = all_same all
    finish_level (If test first None) = ap (λ b. b || true) first.1
    finish_level (If test first (Some second)) = ap (λ b. b || finishes known (statement_of rooms n second.0)) first.1 ∙ ap (λ b. typed.finishes known first.0 || b) second.1
    finish_level (While span test most body) = loop_same most test (statement_of rooms n body.0)
    finish_level (Eot span) = refl
    finish_level (Par span threads) = refl
    finish_level (Abort span weak body test) = body.1

    pub same_finish : (s : Stmt ℕ) → SameFinish s
    same_finish = ind-Stmt ℕ SameFinish (λ x y is.
        subst (λ z. SameFinish (roll-Stmt ℕ z)) is
        (let below = map-Stmt ℕ Finished (Stmt ℕ) (λ e. e.0) y in
        ap (finishes known) (fold-roll-Stmt ℕ Statement (statement_step rooms n) below) ∙ finish_level y ∙ sym (fold-roll-Stmt ℕ Bool (typed.finishes_step known) below)))

    body_same : (all : List (Stmt ℕ)) → all_finish known (statements_of rooms n all) ≡ typed.all_finish known all
    body_same [] = refl
    body_same (s ∷ all) = ap (λ b. b && all_finish known (statements_of rooms n all)) (same_finish s) ∙ ap (λ b. typed.finishes known s && b) (body_same all)

  pub same_finishing : (known : List Bool) (functions : List Function) → finishing_from known (map (routine_of rooms n) functions) ≡ typed.finishing_from known functions
  same_finishing known [] = refl
  same_finishing known (f ∷ functions) =
      ap (λ b. finishing_from (known ++ b ∷ []) (map (routine_of rooms n) functions)) (body_same known f.body) ∙ same_finishing (known ++ typed.all_finish known f.body ∷ []) functions

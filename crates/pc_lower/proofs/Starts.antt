-- The threads that a program's statements start are those that its uses name.
use Rattle.std.proofs.Common.{◌≡◌, ℕ, zero, suc, ◌+◌, ◌<◌, ◌≤◌, Bool, true, false, cond, List, [], ◌∷◌, ◌++◌, map, length, Option, Some, None, refl, sym, ap, subst, ◌∙◌, arith}
use Rattle.std.specs.Prelude.{filter, if◌then◌else◌}
use Rattle.std.proofs.lemmas.List.{map-append}
use Rattle.pt_base.specs.declared.operators.BinOp.{BinOp}
use Rattle.pc_grammar.specs.declared.expressions.Expr.{Expr}
use Rattle.pc_grammar.specs.declared.expressions.Expr.TheFolds.{fold-roll-Expr, ind-Expr, map-Expr}
use Rattle.pc_grammar.specs.declared.expressions.Expr.TheViews.{roll-Expr}
use Rattle.pc_grammar.specs.declared.expressions.Expr.TheOpen.{Expr-F, Number, Var, Elem, Unary, Chain}
use Rattle.pc_grammar.specs.declared.expressions.Goal.{Goal}
use Rattle.pc_grammar.specs.declared.expressions.Goal.TheVariants.{Nothing, Var as GoalVar, Elem as GoalElem}
use Rattle.pc_grammar.specs.declared.statements.Stmt.{Stmt}
use Rattle.pc_grammar.specs.declared.statements.Stmt.TheFolds.{fold-roll-Stmt, ind-Stmt, map-Stmt}
use Rattle.pc_grammar.specs.declared.statements.Stmt.TheViews.{roll-Stmt}
use Rattle.pc_grammar.specs.declared.statements.Stmt.TheOpen.{Stmt-F, Skip, Assign, Call, Block, If, While, Eot, Par, Abort}
use Rattle.pc_grammar.specs.declared.roles.Role.TheVariants.{Calls, Starts}
use Rattle.pc_grammar.specs.declared.typed.Function.{Function}
use Rattle.pc_grammar.specs.Places.{is_start}
use Rattle.pc_grammar.specs.Uses.{Use, use_of, joined, operands_uses, expression_step, expression_uses, expressions_uses, value_uses, goal_uses, is_taken, statement_step, statement_uses, statements_uses}
use Rattle.pc_grammar.specs.Meant.{starts_in, function_uses}
use Rattle.pc_meaning.specs.declared.places.Room.{Room}
use Rattle.pc_meaning.specs.Tree.{Expression, Statement}
use Rattle.pc_meaning.specs.Programs as programs
use Rattle.pc_meaning.specs.Programs.{Numbering, expression_of, loop_from, statements_from, statement_of, statements_of}
use Rattle.pc_lower.proofs.Shapes.{threads_in, threads_in_all}

filter-append : {A : Type 0} (p : A → Bool) (xs ys : List A) → filter p (xs ++ ys) ≡ filter p xs ++ filter p ys
filter-append p [] ys = refl
filter-append p (x ∷ xs) ys = by (p x) (filter-append p xs ys)
  where
    by : (b : Bool) → filter p (xs ++ ys) ≡ filter p xs ++ filter p ys → (if b then x ∷ filter p (xs ++ ys) else filter p (xs ++ ys)) ≡ (if b then x ∷ filter p xs else filter p xs) ++ filter p ys
    by true e = ap (λ l. x ∷ l) e
    by false e = e

pub starts-append : (a b : List (Use ℕ)) → starts_in (a ++ b) ≡ starts_in a ++ starts_in b
starts-append a b = ap (map (λ u. u.word)) (filter-append (λ u. is_start u.role) a b) ∙ map-append (λ u. u.word) (filter (λ u. is_start u.role) a) (filter (λ u. is_start u.role) b)

-- ---- an expression starts nothing

both-none : (a b : List (Use ℕ)) → starts_in a ≡ [] → starts_in b ≡ [] → starts_in (a ++ b) ≡ []
both-none a b p q = starts-append a b ∙ ap (λ l. l ++ starts_in b) p ∙ q

abbrev StartsNone : Expr ℕ → Type 0
StartsNone e = starts_in (expression_uses e) ≡ []

abbrev KnownExpr : Type 0
KnownExpr = (e : Expr ℕ) × StartsNone e

operands-none : (rest : List (BinOp × KnownExpr)) → starts_in (operands_uses (map (λ (q : BinOp × Expr ℕ). (q.0, expression_uses q.1)) (map (λ (q : BinOp × KnownExpr). (q.0, q.1.0)) rest))) ≡ []
operands-none [] = refl
operands-none (q ∷ rest) = both-none (expression_uses q.1.0) _ q.1.1 (operands-none rest)

level-none : (x : Expr-F ℕ KnownExpr) → starts_in (expression_step (map-Expr ℕ (Expr ℕ) (List (Use ℕ)) (expression_uses {N = ℕ}) (map-Expr ℕ KnownExpr (Expr ℕ) (λ e. e.0) x))) ≡ []
level-none (Number n) = refl
level-none (Var c) = refl
level-none (Elem c index) = index.1
level-none (Unary op e) = e.1
level-none (Chain first rest) = both-none (expression_uses first.0) _ first.1 (operands-none rest)

pub expression-none : (e : Expr ℕ) → StartsNone e
expression-none = ind-Expr ℕ StartsNone (λ x y is.
    subst (λ z. StartsNone (roll-Expr ℕ z)) is
    (let below = map-Expr ℕ KnownExpr (Expr ℕ) (λ e. e.0) y in
    ap starts_in (fold-roll-Expr ℕ (List (Use ℕ)) (expression_step {N = ℕ}) below) ∙ level-none y))

expressions-none : (es : List (Expr ℕ)) → starts_in (expressions_uses es) ≡ []
expressions-none [] = refl
expressions-none (e ∷ es) = both-none (expression_uses e) (expressions_uses es) (expression-none e) (expressions-none es)

goal-none : (goal : Goal ℕ) → starts_in (goal_uses goal) ≡ []
goal-none Nothing = refl
goal-none (GoalVar c) = refl
goal-none (GoalElem c index) = expression-none index

value-none : (o : Option (Expr ℕ)) → starts_in (value_uses o) ≡ []
value-none Option.None = refl
value-none (Some e) = expression-none e

-- ---- statements

starts-map : (threads : List ℕ) → starts_in (map (use_of Starts) threads) ≡ threads
starts-map [] = refl
starts-map (k ∷ threads) = ap (λ l. k ∷ l) (starts-map threads)

module _ (rooms : List Room) (n : Numbering) where
  abbrev Same : Stmt ℕ → Type 0
  Same s = starts_in (statement_uses s) ≡ threads_in (statement_of rooms n s)

  abbrev Known : Type 0
  Known = (s : Stmt ℕ) × Same s

  abbrev bare : Stmt-F ℕ Known → Stmt-F ℕ (Stmt ℕ)
  bare x = map-Stmt ℕ Known (Stmt ℕ) (λ s. s.0) x

  all-same : (all : List Known) → starts_in (joined (map statement_uses (map (λ s. s.0) all))) ≡ threads_in_all (statements_from (map (statement_of rooms n) (map (λ s. s.0) all)))
  all-same [] = refl
  all-same (s ∷ all) =
      starts-append (statement_uses s.0) _ ∙ ap (λ l. l ++ starts_in (joined (map statement_uses (map (λ s. s.0) all)))) s.1
      ∙ ap (λ l. threads_in (statement_of rooms n s.0) ++ l) (all-same all)

  looped : (most : Option ℕ) (test : Expression) (body : Statement) → threads_in (loop_from most test body) ≡ threads_in body
  looped Option.None test body = refl
  looped (Some most) test body = refl

  behind : (a b : List (Use ℕ)) → starts_in a ≡ [] → starts_in (a ++ b) ≡ starts_in b
  behind a b p = starts-append a b ∙ ap (λ l. l ++ starts_in b) p

  before : (a b : List (Use ℕ)) → starts_in b ≡ [] → starts_in (a ++ b) ≡ starts_in a
  before a b p = starts-append a b ∙ ap (λ l. starts_in a ++ l) p ∙ Rattle.std.proofs.Common.append-nil (starts_in a)

  level-same : (x : Stmt-F ℕ Known) → starts_in (statement_step (map-Stmt ℕ (Stmt ℕ) (List (Use ℕ)) (statement_uses {N = ℕ}) (bare x))) ≡ threads_in (programs.statement_step rooms n (map-Stmt ℕ (Stmt ℕ) Statement (statement_of rooms n) (bare x)))
  level-same Skip = refl
  level-same (Assign goal e) = both-none (goal_uses goal) (expression_uses e) (goal-none goal) (expression-none e)
  level-same (Call goal k es) = both-none (goal_uses goal) (use_of (Calls (length es) (is_taken goal)) k ∷ expressions_uses es) (goal-none goal) (expressions-none es)
  level-same (Block all) = all-same all
  level-same (If test first Option.None) =
      behind (expression_uses test) _ (expression-none test) ∙ before (statement_uses first.0) [] refl ∙ first.1
      ∙ sym (Rattle.std.proofs.Common.append-nil (threads_in (statement_of rooms n first.0)))
  level-same (If test first (Some second)) =
      behind (expression_uses test) _ (expression-none test) ∙ starts-append (statement_uses first.0) (statement_uses second.0)
      ∙ ap (λ l. l ++ starts_in (statement_uses second.0)) first.1 ∙ ap (λ l. threads_in (statement_of rooms n first.0) ++ l) second.1
  level-same (While span test most body) = behind (expression_uses test) (statement_uses body.0) (expression-none test) ∙ body.1 ∙ sym (looped most (expression_of rooms test) (statement_of rooms n body.0))
  level-same (Eot span) = refl
  level-same (Par span threads) = starts-map threads
  level-same (Abort span weak body test) = before (statement_uses body.0) (expression_uses test) (expression-none test) ∙ body.1

  statement-same : (s : Stmt ℕ) → Same s
  statement-same = ind-Stmt ℕ Same (λ x y is.
      subst (λ z. Same (roll-Stmt ℕ z)) is
      (let below = bare y in
      ap starts_in (fold-roll-Stmt ℕ (List (Use ℕ)) (statement_step {N = ℕ}) below) ∙ level-same y
      ∙ sym (ap threads_in (fold-roll-Stmt ℕ Statement (programs.statement_step rooms n) below))))

  body-same : (all : List (Stmt ℕ)) → starts_in (statements_uses all) ≡ threads_in_all (statements_of rooms n all)
  body-same [] = refl
  body-same (s ∷ all) =
      starts-append (statement_uses s) (statements_uses all) ∙ ap (λ l. l ++ starts_in (statements_uses all)) (statement-same s) ∙ ap (λ l. threads_in (statement_of rooms n s) ++ l) (body-same all)

  locals-none : (locals : List (ℕ × Option (Expr ℕ))) → starts_in (joined (map (λ p. value_uses p.1) locals)) ≡ []
  locals-none [] = refl
  locals-none (l ∷ locals) = both-none (value_uses l.1) _ (value-none l.1) (locals-none locals)

  -- those of a function
  pub function-starts : (f : Function) → starts_in (function_uses f) ≡ threads_in_all (statements_of rooms n f.body)
  function-starts f =
      behind (joined (map (λ p. value_uses p.1) f.locals)) _ (locals-none f.locals) ∙ before (statements_uses f.body) (value_uses f.result) (value-none f.result) ∙ body-same f.body

-- What the uses of a program name: functions that are called, and threads that are started.
use Rattle.std.proofs.Common.{◌≡◌, ℕ, ◌+◌, ◌<◌, ◌≤◌, List, [], ◌∷◌, ◌++◌, map, length, Option, Some, None, refl, sym, ap, subst, ◌∙◌, arith}
use Rattle.std.specs.Prelude.{Contains}
use Rattle.std.specs.List.{AllByRecursion}
use Rattle.pt_base.proofs.Elements.{in_head, in_tail, in_left, in_right}
use Rattle.pc_grammar.specs.declared.expressions.Expr.{Expr}
use Rattle.pc_grammar.specs.declared.expressions.Goal.{Goal}
use Rattle.pc_grammar.specs.declared.statements.Stmt.{Stmt}
use Rattle.pc_grammar.specs.declared.statements.Stmt.TheFolds.{fold-roll-Stmt, ind-Stmt, map-Stmt}
use Rattle.pc_grammar.specs.declared.statements.Stmt.TheViews.{roll-Stmt}
use Rattle.pc_grammar.specs.declared.statements.Stmt.TheOpen.{Stmt-F, Skip, Assign, Call, Block, If, While, Eot, Par, Abort}
use Rattle.pc_grammar.specs.declared.roles.Role.TheVariants.{Calls, Starts}
use Rattle.pc_grammar.specs.declared.typed.Function.{Function}
use Rattle.pc_grammar.specs.Typing.{Typing}
use Rattle.pc_grammar.specs.Uses.{Use, use_of, joined, expression_uses, expressions_uses, goal_uses, is_taken, statement_step, statement_uses, statements_uses}
use Rattle.pc_grammar.specs.Meant.{NamesRoutine, NamesThread, IsMeant}
use Rattle.pc_meaning.specs.declared.places.Room.{Room}
use Rattle.pc_meaning.specs.Tree.{Expression, Statement}
use Rattle.pc_meaning.specs.Programs as programs
use Rattle.pc_meaning.specs.Programs.{Numbering, expression_of, loop_from, statements_from, statement_of, statements_of}
use Rattle.pc_lower.proofs.Shapes.{Names, AllName}

module _ (t : Typing) (i : ℕ) (f : Function) (rooms : List Room) (n : Numbering) (Called Started : ℕ → Type 0)
    (callable : (k arguments : ℕ) (taken : Rattle.std.proofs.Common.Bool) → NamesRoutine t i arguments taken k → Called k)
    (startable : (k : ℕ) → NamesThread t i k → Started k) where
  abbrev AllMeant : List (Use ℕ) → Type 0
  AllMeant uses = (u : Use ℕ) → Contains uses u → IsMeant t i f u

  threads-start : (threads : List ℕ) → AllMeant (map (use_of Starts) threads) → AllByRecursion Started threads
  threads-start [] h = tt
  threads-start (k ∷ threads) h =
      (startable k (h (use_of Starts k) (in_head _ (map (use_of Starts) threads))), threads-start threads (λ u c. h u (in_tail (use_of Starts k) u (map (use_of Starts) threads) c)))

  abbrev Fit : Statement → Type 0
  Fit = Names Called Started

  abbrev IsFit : Stmt ℕ → Type 0
  IsFit s = AllMeant (statement_uses s) → Fit (statement_of rooms n s)

  abbrev Known : Type 0
  Known = (s : Stmt ℕ) × IsFit s

  abbrev bare : Stmt-F ℕ Known → Stmt-F ℕ (Stmt ℕ)
  bare x = map-Stmt ℕ Known (Stmt ℕ) (λ s. s.0) x

  all-known : (all : List Known) → AllMeant (joined (map statement_uses (map (λ s. s.0) all))) → AllName Called Started (statements_from (map (statement_of rooms n) (map (λ s. s.0) all)))
  all-known [] h = tt
  all-known (s ∷ all) h = (s.1 (λ u c. h u (in_left (statement_uses s.0) _ u c)), all-known all (λ u c. h u (in_right (statement_uses s.0) _ u c)))

  looped : (most : Option ℕ) (test : Expression) (body : Statement) → Fit body → Fit (loop_from most test body)
  looped None test body h = h
  looped (Some most) test body h = h

  called : (goal : Goal ℕ) (k : ℕ) (es : List (Expr ℕ)) → AllMeant (statement_step (Call goal k es)) → Called k
  called goal k es h =
      let call : Use ℕ = use_of (Calls (length es) (is_taken goal)) k in
      callable k (length es) (is_taken goal) (h call (in_right (goal_uses goal) (call ∷ expressions_uses es) call (in_head call (expressions_uses es))))

  level-fits : (x : Stmt-F ℕ Known) → AllMeant (statement_step (map-Stmt ℕ (Stmt ℕ) (List (Use ℕ)) (statement_uses {N = ℕ}) (bare x))) → Fit (programs.statement_step rooms n (map-Stmt ℕ (Stmt ℕ) Statement (statement_of rooms n) (bare x)))
  level-fits Skip h = tt
  level-fits (Assign goal e) h = tt
  level-fits (Call goal k es) h = called goal k es h
  level-fits (Block all) h = all-known all h
  level-fits (If test first None) h = (first.1 (λ u c. h u (in_right (expression_uses test) _ u (in_left (statement_uses first.0) _ u c))), tt)
  level-fits (If test first (Some second)) h =
      (first.1 (λ u c. h u (in_right (expression_uses test) _ u (in_left (statement_uses first.0) _ u c))), second.1 (λ u c. h u (in_right (expression_uses test) _ u (in_right (statement_uses first.0) _ u c))))
  level-fits (While span test most body) h = looped most (expression_of rooms test) (statement_of rooms n body.0) (body.1 (λ u c. h u (in_right (expression_uses test) _ u c)))
  level-fits (Eot span) h = tt
  level-fits (Par span threads) h = threads-start threads h
  level-fits (Abort span weak body test) h = body.1 (λ u c. h u (in_left (statement_uses body.0) _ u c))

  statement-fits : (s : Stmt ℕ) → IsFit s
  statement-fits = ind-Stmt ℕ IsFit (λ x y is.
      subst (λ z. IsFit (roll-Stmt ℕ z)) is
      (let below = bare y in
      let uses = fold-roll-Stmt ℕ (List (Use ℕ)) (statement_step {N = ℕ}) below in
      λ h. subst Fit (sym (fold-roll-Stmt ℕ Statement (programs.statement_step rooms n) below)) (level-fits y (subst AllMeant uses h))))

  pub body-names : (all : List (Stmt ℕ)) → AllMeant (statements_uses all) → AllName Called Started (statements_of rooms n all)
  body-names [] h = tt
  body-names (s ∷ all) h = (statement-fits s (λ u c. h u (in_left (statement_uses s) (statements_uses all) u c)), body-names all (λ u c. h u (in_right (statement_uses s) (statements_uses all) u c)))

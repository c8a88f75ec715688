-- The weights of the trees that the meaning takes are those of the program.
use Rattle.std.proofs.Common.{◌≡◌, ℕ, ◌+◌, List, [], ◌∷◌, ◌++◌, map, Option, Some, None, refl, sym, ap, subst, ◌∙◌, arith, sum_by}
use Rattle.std.specs.Prelude.{sum}
use Rattle.std.proofs.lemmas.List.Sums.{sum_by-cons}
use Rattle.pt_base.specs.declared.operators.BinOp.{BinOp}
use Rattle.pc_grammar.specs.declared.expressions.Expr.{Expr}
use Rattle.pc_grammar.specs.declared.expressions.Expr.TheFolds.{fold-roll-Expr, ind-Expr, map-Expr}
use Rattle.pc_grammar.specs.declared.expressions.Expr.TheViews.{roll-Expr}
use Rattle.pc_grammar.specs.declared.expressions.Expr.TheOpen.{Expr-F, Number, Var, Elem, Unary, Chain}
use Rattle.pc_grammar.specs.declared.expressions.Goal.{Goal}
use Rattle.pc_grammar.specs.declared.expressions.Goal.TheVariants.{Nothing, Var as GoalVar, Elem as GoalElem}
use Rattle.pc_grammar.specs.declared.statements.Stmt.{Stmt}
use Rattle.pc_grammar.specs.declared.statements.Stmt.TheFolds.{fold-roll-Stmt, ind-Stmt, map-Stmt}
use Rattle.pc_grammar.specs.declared.statements.Stmt.TheViews.{roll-Stmt}
use Rattle.pc_grammar.specs.declared.statements.Stmt.TheOpen.{Stmt-F, Skip, Assign, Call, Block, If, While, Eot, Par, Abort}
use Rattle.pc_grammar.specs.declared.typed.Function.{Function}
use Rattle.pc_grammar.specs.Typing.{Typing}
use Rattle.pc_rules.specs.Known.{each_given}
use Rattle.pc_rules.specs.Weights as words
use Rattle.pc_meaning.specs.declared.places.Room.{Room}
use Rattle.pc_meaning.specs.Tree.{Expression, Statement}
use Rattle.pc_meaning.specs.Programs.{rooms_of, operands_from, expression_step, expression_of, target_of, optional, locals_of, loop_from, Numbering, numbering_of, statements_from, statement_step, statement_of, statements_of, routine_of, program_of}
use Rattle.pc_lower.specs.Counts.{value_weight, operands_weight, goal_weight, arguments_weight, weight, weights, or_four, locals_weight, result_weight, routine_weight, routines_weight, count_at, single, singles, routine_single, singles_from}

module _ (rooms : List Room) where
  -- ---- expressions

  abbrev SameValue : Expr ℕ → Type 0
  SameValue e = value_weight (expression_of rooms e) ≡ words.expression_weight e

  abbrev Valued : Type 0
  Valued = (e : Expr ℕ) × SameValue e

  same_operands : (rest : List (BinOp × Valued)) →
      operands_weight (operands_from (map (λ (q : BinOp × Expr ℕ). (q.0, expression_of rooms q.1)) (map (λ (q : BinOp × Valued). (q.0, q.1.0)) rest))) ≡ sum_by (λ (q : BinOp × ℕ). 16 + q.1) (map (λ (q : BinOp × Expr ℕ). (q.0, words.expression_weight q.1)) (map (λ (q : BinOp × Valued). (q.0, q.1.0)) rest))
  same_operands [] = refl
  same_operands (q ∷ rest) = simp sum_by-cons (let e = q.1.1 in let r = same_operands rest in omega (arith, e, r))

  level_value : (x : Expr-F ℕ Valued) → value_weight (expression_step rooms (map-Expr ℕ (Expr ℕ) Expression (expression_of rooms) (map-Expr ℕ Valued (Expr ℕ) (λ e. e.0) x)))
      ≡ words.expression_step (map-Expr ℕ (Expr ℕ) ℕ words.expression_weight (map-Expr ℕ Valued (Expr ℕ) (λ e. e.0) x))
  level_value (Number n) = refl
  level_value (Var c) = refl
  level_value (Elem c index) = ap (λ k. 24 + k) index.1
  level_value (Unary op e) = ap (λ k. 12 + k) e.1
  level_value (Chain first rest) = let a = first.1 in let b = same_operands rest in ap (λ k. k + operands_weight (operands_from (map (λ (q : BinOp × Expr ℕ). (q.0, expression_of rooms q.1)) (map (λ (q : BinOp × Valued). (q.0, q.1.0)) rest)))) a ∙ ap (λ k. words.expression_weight first.0 + k) b

  same_value : (e : Expr ℕ) → SameValue e
  same_value = ind-Expr ℕ SameValue (λ x y is.
      subst (λ z. SameValue (roll-Expr ℕ z)) is
      (let below = map-Expr ℕ Valued (Expr ℕ) (λ e. e.0) y in
      ap value_weight (fold-roll-Expr ℕ Expression (expression_step rooms) below) ∙ level_value y ∙ sym (fold-roll-Expr ℕ ℕ words.expression_step below)))

  same_goal : (goal : Goal ℕ) → goal_weight (target_of rooms goal) ≡ words.goal_weight goal
  same_goal Nothing = refl
  same_goal (GoalVar c) = refl
  same_goal (GoalElem c index) = ap (λ k. 24 + k) (same_value index)

  same_arguments : (es : List (Expr ℕ)) → arguments_weight (map (expression_of rooms) es) ≡ sum_by (λ e. 4 + words.expression_weight e) es
  same_arguments [] = refl
  same_arguments (e ∷ es) = simp sum_by-cons (let a = same_value e in let r = same_arguments es in omega (arith, a, r))

  same_call : (goal : Goal ℕ) (es : List (Expr ℕ)) → 8 + arguments_weight (map (expression_of rooms) es) + goal_weight (target_of rooms goal) ≡ words.call_weight goal es
  same_call goal es = let a = same_goal goal in let b = same_arguments es in omega (arith, a, b)

  -- ---- statements

  module _ (n : Numbering) where
    abbrev SameWeight : Stmt ℕ → Type 0
    SameWeight s = weight (statement_of rooms n s) ≡ words.statement_weight s

    abbrev Weighed : Type 0
    Weighed = (s : Stmt ℕ) × SameWeight s

    abbrev bare : Stmt-F ℕ Weighed → Stmt-F ℕ (Stmt ℕ)
    bare x = map-Stmt ℕ Weighed (Stmt ℕ) (λ s. s.0) x

    sum-cons : (k : ℕ) (ks : List ℕ) → sum (k ∷ ks) ≡ k + sum ks
    sum-cons k ks = sum_by-cons (λ j. j) k ks

    all_weigh : (all : List Weighed) → weights (statements_from (map (statement_of rooms n) (map (λ s. s.0) all))) ≡ sum (map words.statement_weight (map (λ s. s.0) all))
    all_weigh [] = refl
    all_weigh (s ∷ all) =
        let a = s.1 in
        let b = all_weigh all in
        ap (λ k. k + weights (statements_from (map (statement_of rooms n) (map (λ s. s.0) all)))) a ∙ ap (λ k. words.statement_weight s.0 + k) b
        ∙ sym (sum-cons (words.statement_weight s.0) (map words.statement_weight (map (λ s. s.0) all)))

    loop_weighs : (most : Option ℕ) (test : Expression) (body : Statement) → weight (loop_from most test body) ≡ words.loop_words None most (value_weight test) (weight body)
    loop_weighs None test body = refl
    loop_weighs (Some most) test body = refl

    level_weighs : (x : Stmt-F ℕ Weighed) → weight (statement_step rooms n (map-Stmt ℕ (Stmt ℕ) Statement (statement_of rooms n) (bare x))) ≡ words.words_step None (map-Stmt ℕ (Stmt ℕ) ℕ words.statement_weight (bare x))
    level_weighs Skip = refl
    level_weighs (Assign goal e) = let a = same_goal goal in let b = same_value e in omega (arith, a, b)
    level_weighs (Call goal k es) = let a = same_call goal es in omega (arith, a)
    level_weighs (Block all) = all_weigh all
    level_weighs (If test first None) = let a = same_value test in let b = first.1 in omega (arith, a, b)
    level_weighs (If test first (Some second)) = let a = same_value test in let b = first.1 in let c = second.1 in omega (arith, a, b, c)
    level_weighs (While span test most body) =
        loop_weighs most (expression_of rooms test) (statement_of rooms n body.0) ∙ ap (λ k. words.loop_words None most k (weight (statement_of rooms n body.0))) (same_value test) ∙ ap (words.loop_words None most (words.expression_weight test)) body.1
    level_weighs (Eot span) = refl
    level_weighs (Par span threads) = refl
    level_weighs (Abort span weak body test) = let a = same_value test in let b = body.1 in omega (arith, a, b)

    same_weight : (s : Stmt ℕ) → SameWeight s
    same_weight = ind-Stmt ℕ SameWeight (λ x y is.
        subst (λ z. SameWeight (roll-Stmt ℕ z)) is
        (let below = bare y in
        ap weight (fold-roll-Stmt ℕ Statement (statement_step rooms n) below) ∙ level_weighs y ∙ sym (fold-roll-Stmt ℕ ℕ (words.words_step None) below)))

    body_weighs : (all : List (Stmt ℕ)) → weights (statements_of rooms n all) ≡ sum_by words.statement_weight all
    body_weighs [] = refl
    body_weighs (s ∷ all) = simp sum_by-cons (let a = same_weight s in let r = body_weighs all in omega (arith, a, r))

    local_weighs : (o : Option (Expr ℕ)) → or_four (optional rooms o) ≡ words.value_weight o
    local_weighs None = refl
    local_weighs (Some e) = same_value e

    locals_weigh : (ls : List (ℕ × Option (Expr ℕ))) → locals_weight (locals_of rooms ls) ≡ sum_by (λ p. 4 + words.value_weight p.1) ls
    locals_weigh [] = refl
    locals_weigh (l ∷ ls) = simp sum_by-cons (let a = local_weighs l.1 in let r = locals_weigh ls in omega (arith, a, r))

    result_weighs : (o : Option (Expr ℕ)) → result_weight (optional rooms o) ≡ words.result_weight o
    result_weighs None = refl
    result_weighs (Some e) = ap (λ k. 4 + k) (same_value e)

    routine_weighs : (f : Function) → routine_weight (routine_of rooms n f) ≡ words.function_weight f
    routine_weighs f =
        let a = locals_weigh f.locals in
        let b = result_weighs f.result in
        let c = body_weighs f.body in
        omega (arith, a, b, c)

    pub routines_weigh : (fs : List Function) → routines_weight (map (routine_of rooms n) fs) ≡ sum_by words.function_weight fs
    routines_weigh [] = refl
    routines_weigh (f ∷ fs) = simp sum_by-cons (let a = routine_weighs f in let r = routines_weigh fs in omega (arith, a, r))

    -- ---- one passage

    module _ (known : List ℕ) where
      abbrev SamePassage : Stmt ℕ → Type 0
      SamePassage s = single known (statement_of rooms n s) ≡ words.statement_passage known s

      abbrev Passed : Type 0
      Passed = (s : Stmt ℕ) × SamePassage s

      abbrev plain : Stmt-F ℕ Passed → Stmt-F ℕ (Stmt ℕ)
      plain x = map-Stmt ℕ Passed (Stmt ℕ) (λ s. s.0) x

      all_pass : (all : List Passed) → singles known (statements_from (map (statement_of rooms n) (map (λ s. s.0) all))) ≡ sum (map (words.statement_passage known) (map (λ s. s.0) all))
      all_pass [] = refl
      all_pass (s ∷ all) =
          ap (λ k. k + singles known (statements_from (map (statement_of rooms n) (map (λ s. s.0) all)))) s.1 ∙ ap (λ k. words.statement_passage known s.0 + k) (all_pass all)
          ∙ sym (sum-cons (words.statement_passage known s.0) (map (words.statement_passage known) (map (λ s. s.0) all)))

      loop_passes : (most : Option ℕ) (test : Expression) (body : Statement) → single known (loop_from most test body) ≡ words.loop_words (Some known) most (value_weight test) (single known body)
      loop_passes None test body = refl
      loop_passes (Some most) test body = refl

      level_passes : (x : Stmt-F ℕ Passed) → single known (statement_step rooms n (map-Stmt ℕ (Stmt ℕ) Statement (statement_of rooms n) (plain x))) ≡ words.words_step (Some known) (map-Stmt ℕ (Stmt ℕ) ℕ (words.statement_passage known) (plain x))
      level_passes Skip = refl
      level_passes (Assign goal e) = let a = same_goal goal in let b = same_value e in omega (arith, a, b)
      level_passes (Call goal k es) = ap (λ j. j + count_at known k) (same_call goal es)
      level_passes (Block all) = all_pass all
      level_passes (If test first None) = let a = same_value test in let b = first.1 in omega (arith, a, b)
      level_passes (If test first (Some second)) = let a = same_value test in let b = first.1 in let c = second.1 in omega (arith, a, b, c)
      level_passes (While span test most body) =
          loop_passes most (expression_of rooms test) (statement_of rooms n body.0) ∙ ap (λ k. words.loop_words (Some known) most k (single known (statement_of rooms n body.0))) (same_value test)
          ∙ ap (words.loop_words (Some known) most (words.expression_weight test)) body.1
      level_passes (Eot span) = refl
      level_passes (Par span threads) = refl
      level_passes (Abort span weak body test) = let a = same_value test in let b = body.1 in omega (arith, a, b)

      same_passage : (s : Stmt ℕ) → SamePassage s
      same_passage = ind-Stmt ℕ SamePassage (λ x y is.
          subst (λ z. SamePassage (roll-Stmt ℕ z)) is
          (let below = plain y in
          ap (single known) (fold-roll-Stmt ℕ Statement (statement_step rooms n) below) ∙ level_passes y ∙ sym (fold-roll-Stmt ℕ ℕ (words.words_step (Some known)) below)))

      body_passes : (all : List (Stmt ℕ)) → singles known (statements_of rooms n all) ≡ sum_by (words.statement_passage known) all
      body_passes [] = refl
      body_passes (s ∷ all) = simp sum_by-cons (let a = same_passage s in let r = body_passes all in omega (arith, a, r))

      routine_passes : (f : Function) → routine_single known (routine_of rooms n f) ≡ words.function_passage known f
      routine_passes f =
          let a = locals_weigh f.locals in
          let b = result_weighs f.result in
          let c = body_passes f.body in
          omega (arith, a, b, c)

    pub routines_pass : (known : List ℕ) (fs : List Function) → singles_from known (map (routine_of rooms n) fs) ≡ each_given words.function_passage known fs
    routines_pass known [] = refl
    routines_pass known (f ∷ fs) =
        ap (λ k. singles_from (known ++ k ∷ []) (map (routine_of rooms n) fs)) (routine_passes known f) ∙ routines_pass (known ++ words.function_passage known f ∷ []) fs

pub program_weighs : (t : Typing) → routines_weight (program_of t).routines ≡ words.program_weight t
program_weighs t = routines_weigh (rooms_of t.cells) (numbering_of t.functions) t.functions

pub program_passes : (t : Typing) → singles_from [] (program_of t).routines ≡ words.passages t.functions
program_passes t = routines_pass (rooms_of t.cells) (numbering_of t.functions) [] t.functions

-- The words of a passage up to a bound come from those of the functions up to the bound.
use Rattle.std.proofs.Common.{◌≡◌, ℕ, zero, suc, ◌+◌, ◌*◌, ◌≤◌, min, map, List, [], ◌∷◌, Option, Some, None, ◌⊎◌, ⊎_elim, sum_by, refl, sym, ap, subst, ◌∙◌, arith}
use Rattle.std.specs.Prelude.{sum}
use Rattle.std.proofs.Math.Nat.{le-mul_of_pos_right}
use Rattle.std.proofs.lemmas.List.Sums.{sum_by-cons}
use Rattle.pt_base.specs.declared.rules.Span.{Span}
use Rattle.pc_grammar.specs.declared.expressions.Expr.{Expr}
use Rattle.pc_grammar.specs.declared.statements.Stmt.{Stmt}
use Rattle.pc_grammar.specs.declared.statements.Stmt.TheVariants.{While as WhileStmt, rolls-While}
use Rattle.pc_grammar.specs.declared.statements.Stmt.TheFolds.{fold-roll-Stmt, ind-Stmt, map-Stmt}
use Rattle.pc_grammar.specs.declared.statements.Stmt.TheViews.{roll-Stmt}
use Rattle.pc_grammar.specs.declared.statements.Stmt.TheOpen.{Stmt-F, Skip, Assign, Call, Block, If, While, Eot, Par, Abort}
use Rattle.pc_rules.specs.Weights.{expression_weight, loop_words, words_step, statement_words, statement_passage, function_passage}
use Rattle.pc_rules.proofs.Each.{known_bounded, IsBounded}

-- ---- sums and products up to a bound

same_or_past : (c x y : ℕ) → min c x ≡ min c y → (x ≡ y) ⊎ ((c ≤ x) × (c ≤ y))
same_or_past c x y e = grind arith

times_past : (c j x : ℕ) → c ≤ x → c ≤ suc j * x
times_past c j x past = omega (arith, le-mul_of_pos_right)

pub times_bounded : (c k x y : ℕ) → min c x ≡ min c y → min c (k * x) ≡ min c (k * y)
times_bounded c zero x y e = omega arith
times_bounded c (suc j) x y e =
    ⊎_elim
    (λ same. ap (λ z. min c (suc j * z)) same)
    (λ past. let a = times_past c j x past.0 in let b = times_past c j y past.1 in omega arith)
    (same_or_past c x y e)

-- ---- loops

loop_bounded : (c : ℕ) (known other : List ℕ) (most : Option ℕ) (test a b : ℕ) → min c a ≡ min c b → min c (loop_words (Some known) most test a) ≡ min c (loop_words (Some other) most test b)
loop_bounded c known other None test a b e = omega arith
loop_bounded c known other (Some most) test a b e =
    let inner : min c (8 + test + a) ≡ min c (8 + test + b) = omega arith in
    let turns = times_bounded c (most + 1) (8 + test + a) (8 + test + b) inner in
    omega arith

-- a loop up to a bound comes from its test and its body up to the bound
pub loop_capped : (c : ℕ) (counted : Option (List ℕ)) (most : Option ℕ) (test body : ℕ) → min c (loop_words counted most (min c test) (min c body)) ≡ min c (loop_words counted most test body)
loop_capped c counted None test body = omega arith
loop_capped c None (Some most) test body = omega arith
loop_capped c (Some passages) (Some most) test body =
    let inner : min c (8 + min c test + min c body) ≡ min c (8 + test + body) = omega arith in
    let turns = times_bounded c (most + 1) (8 + min c test + min c body) (8 + test + body) inner in
    omega arith

pub while_words : (counted : Option (List ℕ)) (span : Span) (test : Expr ℕ) (most : Option ℕ) (body : Stmt ℕ) →
    loop_words counted most (expression_weight test) (statement_words counted body) ≡ statement_words counted (WhileStmt span test most body)
while_words counted span test most body = sym (ap (statement_words counted) (sym (rolls-While span test most body)) ∙ fold-roll-Stmt ℕ ℕ (words_step counted) (While span test most body))

-- ---- statements

abbrev Agrees : ℕ → List ℕ → Stmt ℕ → Type 0
Agrees c known s = min c (statement_passage known s) ≡ min c (statement_passage (map (min c) known) s)

abbrev Known : ℕ → List ℕ → Type 0
Known c known = (s : Stmt ℕ) × Agrees c known s

-- with nothing beside it
abbrev alone : (c : ℕ) (known : List ℕ) → Stmt-F ℕ (Known c known) → Stmt ℕ
alone c known x = roll-Stmt ℕ (map-Stmt ℕ (Known c known) (Stmt ℕ) (λ e. e.0) x)

-- the equation of a level
opened : (known : List ℕ) (x : Stmt-F ℕ (Stmt ℕ)) → statement_passage known (roll-Stmt ℕ x) ≡ words_step (Some known) (map-Stmt ℕ (Stmt ℕ) ℕ (statement_passage known) x)
opened known x = fold-roll-Stmt ℕ ℕ (words_step (Some known)) x

all_agree : (c : ℕ) (known : List ℕ) (all : List (Known c known)) →
    min c (sum (map (statement_passage known) (map (λ e. e.0) all))) ≡ min c (sum (map (statement_passage (map (min c) known)) (map (λ e. e.0) all)))
all_agree c known [] = refl
all_agree c known (e ∷ all) = simp sum_by-cons (omega (arith, e.1, all_agree c known all))

level : (c : ℕ) (known : List ℕ) (x : Stmt-F ℕ (Known c known)) →
    min c (words_step (Some known) (map-Stmt ℕ (Stmt ℕ) ℕ (statement_passage known) (map-Stmt ℕ (Known c known) (Stmt ℕ) (λ e. e.0) x)))
    ≡ min c (words_step (Some (map (min c) known)) (map-Stmt ℕ (Stmt ℕ) ℕ (statement_passage (map (min c) known)) (map-Stmt ℕ (Known c known) (Stmt ℕ) (λ e. e.0) x)))
level c known Skip = refl
level c known (Assign goal value) = refl
level c known (Call goal function arguments) = omega (arith, known_bounded c known function)
level c known (Block all) = all_agree c known all
level c known (If test first None) = omega (arith, first.1)
level c known (If test first (Some second)) = omega (arith, first.1, second.1)
level c known (While span test most body) = loop_bounded c known (map (min c) known) most (expression_weight test) (statement_passage known body.0) (statement_passage (map (min c) known) body.0) body.1
level c known (Eot span) = refl
level c known (Par span threads) = refl
level c known (Abort span weak body test) = omega (arith, body.1)

agrees : (c : ℕ) (known : List ℕ) (s : Stmt ℕ) → Agrees c known s
agrees c known = ind-Stmt ℕ (Agrees c known) (λ x y is.
    subst (λ z. Agrees c known (roll-Stmt ℕ z)) is
    (let below = map-Stmt ℕ (Known c known) (Stmt ℕ) (λ e. e.0) y in
    ap (min c) (opened known below) ∙ level c known y ∙ sym (ap (min c) (opened (map (min c) known) below))))

-- ---- functions

body_agrees : (c : ℕ) (known : List ℕ) (body : List (Stmt ℕ)) → min c (sum_by (statement_passage known) body) ≡ min c (sum_by (statement_passage (map (min c) known)) body)
body_agrees c known [] = refl
body_agrees c known (s ∷ body) = simp sum_by-cons (omega (arith, agrees c known s, body_agrees c known body))

pub passage_bounded : (c : ℕ) → IsBounded c function_passage
passage_bounded c known f = omega (arith, body_agrees c known f.body)

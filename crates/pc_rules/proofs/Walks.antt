-- What is noted of the loops and aborts of a statement, one equation for each.
use Rattle.std.proofs.Common.{◌≡◌, ℕ, ◌+◌, min, map, fold, Bool, List, [], ◌∷◌, ◌++◌, Option, Some, None, refl, sym, ap, subst, ◌∙◌, arith}
use Rattle.std.specs.Prelude.{nat_le}
use Rattle.std.proofs.lemmas.List.Sums.{fold-append}
use Rattle.pt_base.specs.declared.rules.Span.{Span}
use Rattle.pc_grammar.specs.declared.expressions.Expr.{Expr}
use Rattle.pc_grammar.specs.declared.expressions.Goal.{Goal}
use Rattle.pc_grammar.specs.declared.statements.Stmt.{Stmt, para-roll-Stmt}
use Rattle.pc_grammar.specs.declared.statements.Stmt.TheVariants.{Skip, Assign, Call, Block, If, While, Eot, Par, Abort, rolls-Skip, rolls-Assign, rolls-Call, rolls-Block, rolls-If, rolls-While, rolls-Eot, rolls-Par, rolls-Abort}
use Rattle.pc_grammar.specs.declared.statements.Stmt.TheOpen.{Stmt-F, Skip as OpenSkip, Assign as OpenAssign, Call as OpenCall, Block as OpenBlock, If as OpenIf, While as OpenWhile, Eot as OpenEot, Par as OpenPar, Abort as OpenAbort}
use Rattle.pc_grammar.specs.declared.statements.Stmt.TheViews.{roll-Stmt}
use Rattle.pc_grammar.specs.declared.statements.Stmt.TheFolds.{map-Stmt, ind-Stmt}
use Rattle.pc_rules.specs.Nests.{Nest, Loop, Aborted, one_more, all_nests, nests_step, nests}
use Rattle.pt_base.specs.declared.rules.Rule.TheVariants.{E2, Z4, Z5}
use Rattle.pc_grammar.specs.Uses.{holds_pause, joined}
use Rattle.pt_base.specs.First.{first_of, fault_if}
use Rattle.pc_rules.specs.Faults.{note_nest}
use Rattle.pc_rules.specs.declared.noting.Noted.{Noted}

abbrev Nesting : Type 0
Nesting = ℕ → ℕ → List Nest

-- a statement beside its loops and aborts
abbrev beside : Stmt ℕ → Stmt ℕ × Nesting
beside s = (s, nests s)

-- the equation of a level
opened : (x : Stmt-F ℕ (Stmt ℕ)) (s : Stmt ℕ) (a l : ℕ) → roll-Stmt ℕ x ≡ s → nests s a l ≡ nests_step (map-Stmt ℕ (Stmt ℕ) (Stmt ℕ × Nesting) beside x) a l
opened x s a l e = ap (λ t. nests t a l) (sym e) ∙ ap (λ f. f a l) (para-roll-Stmt ℕ Nesting nests_step x)

all_beside : (all : List (Stmt ℕ)) (a l : ℕ) → all_nests (map beside all) a l ≡ joined (map (λ s. nests s a l) all)
all_beside [] a l = refl
all_beside (s ∷ all) a l = ap (λ m. nests s a l ++ m) (all_beside all a l)

nests-Block : (all : List (Stmt ℕ)) (a l : ℕ) → nests (Block all) a l ≡ joined (map (λ s. nests s a l) all)
nests-Block all a l = opened (OpenBlock all) (Block all) a l (rolls-Block all) ∙ all_beside all a l

nests-If-None : (test : Expr ℕ) (first : Stmt ℕ) (a l : ℕ) → nests (If test first None) a l ≡ nests first a l ++ []
nests-If-None test first a l = opened (OpenIf test first None) (If test first None) a l (rolls-If test first None)

nests-If-Some : (test : Expr ℕ) (first second : Stmt ℕ) (a l : ℕ) → nests (If test first (Some second)) a l ≡ nests first a l ++ nests second a l
nests-If-Some test first second a l = opened (OpenIf test first (Some second)) (If test first (Some second)) a l (rolls-If test first (Some second))

nests-While : (span : Span) (test : Expr ℕ) (most : Option ℕ) (body : Stmt ℕ) (a l : ℕ) → nests (While span test most body) a l ≡ Loop span most body l ∷ nests body a (one_more most l)
nests-While span test most body a l = opened (OpenWhile span test most body) (While span test most body) a l (rolls-While span test most body)

nests-Abort : (span : Span) (weak : Bool) (body : Stmt ℕ) (test : Expr ℕ) (a l : ℕ) → nests (Abort span weak body test) a l ≡ Aborted span a ∷ nests body (a + 1) l
nests-Abort span weak body test a l = opened (OpenAbort span weak body test) (Abort span weak body test) a l (rolls-Abort span weak body test)

-- ---- eight levels say as much as more of them

same_test : (a b : ℕ) → min 8 a ≡ min 8 b → nat_le 8 a ≡ nat_le 8 b
same_test a b e = grind arith

same_loop : (known : List Bool) (n : Noted) (span : Span) (most : Option ℕ) (body : Stmt ℕ) (l k : ℕ) → min 8 l ≡ min 8 k → note_nest known n (Loop span most body l) ≡ note_nest known n (Loop span most body k)
same_loop known n span None body l k e = refl
same_loop known n span (Some most) body l k e = ap (λ b. note_nest_loop b) (same_test l k e)
  where
    note_nest_loop : Bool → Noted
    note_nest_loop b = record { rules = first_of n.rules (fault_if (holds_pause body) (E2, span)); limits = first_of n.limits (fault_if b (Z5, span)) }

same_abort : (known : List Bool) (n : Noted) (span : Span) (a b : ℕ) → min 8 a ≡ min 8 b → note_nest known n (Aborted span a) ≡ note_nest known n (Aborted span b)
same_abort known n span a b e = ap (λ t. note_nest_abort t) (same_test a b e)
  where
    note_nest_abort : Bool → Noted
    note_nest_abort t = record { rules = n.rules; limits = first_of n.limits (fault_if t (Z4, span)) }

same_more : (most : Option ℕ) (l k : ℕ) → min 8 l ≡ min 8 k → min 8 (one_more most l) ≡ min 8 (one_more most k)
same_more None l k e = e
same_more (Some most) l k e = omega arith

-- what is noted of a statement
abbrev pub noting : List Bool → Noted → Stmt ℕ → ℕ → ℕ → Noted
noting known n s a l = fold (note_nest known) n (nests s a l)

abbrev pub noting_all : List Bool → Noted → List (Stmt ℕ) → ℕ → ℕ → Noted
noting_all known n all a l = fold (note_nest known) n (joined (map (λ s. nests s a l) all))

abbrev Same : List Bool → Stmt ℕ → Type 0
Same known s = (n : Noted) (a b l k : ℕ) → min 8 a ≡ min 8 b → min 8 l ≡ min 8 k → noting known n s a l ≡ noting known n s b k

abbrev Known : List Bool → Type 0
Known known = (s : Stmt ℕ) × Same known s

abbrev without : (known : List Bool) → Stmt-F ℕ (Known known) → Stmt-F ℕ (Stmt ℕ)
without known x = map-Stmt ℕ (Known known) (Stmt ℕ) (λ e. e.0) x

joined-append : (known : List Bool) (n : Noted) (s : Stmt ℕ) (all : List (Stmt ℕ)) (a l : ℕ) → noting_all known n (s ∷ all) a l ≡ noting_all known (noting known n s a l) all a l
joined-append known n s all a l = fold-append (note_nest known) n (nests s a l) (joined (map (λ t. nests t a l) all))

all_same : (known : List Bool) (all : List (Known known)) (n : Noted) (a b l k : ℕ) → min 8 a ≡ min 8 b → min 8 l ≡ min 8 k →
    noting_all known n (map (λ e. e.0) all) a l ≡ noting_all known n (map (λ e. e.0) all) b k
all_same known [] n a b l k e d = refl
all_same known (s ∷ all) n a b l k e d =
    joined-append known n s.0 (map (λ e. e.0) all) a l
    ∙ ap (λ m. noting_all known m (map (λ e. e.0) all) a l) (s.1 n a b l k e d)
    ∙ all_same known all (noting known n s.0 b k) a b l k e d
    ∙ sym (joined-append known n s.0 (map (λ e. e.0) all) b k)

-- ---- the steps of a walk

pub walk-Skip : (known : List Bool) (n : Noted) (a l : ℕ) → noting known n Skip a l ≡ n
walk-Skip known n a l = ap (fold (note_nest known) n) (opened OpenSkip Skip a l rolls-Skip)

pub walk-Assign : (known : List Bool) (n : Noted) (goal : Goal ℕ) (value : Expr ℕ) (a l : ℕ) → noting known n (Assign goal value) a l ≡ n
walk-Assign known n goal value a l = ap (fold (note_nest known) n) (opened (OpenAssign goal value) (Assign goal value) a l (rolls-Assign goal value))

pub walk-Call : (known : List Bool) (n : Noted) (goal : Goal ℕ) (function : ℕ) (arguments : List (Expr ℕ)) (a l : ℕ) → noting known n (Call goal function arguments) a l ≡ n
walk-Call known n goal function arguments a l = ap (fold (note_nest known) n) (opened (OpenCall goal function arguments) (Call goal function arguments) a l (rolls-Call goal function arguments))

pub walk-Block : (known : List Bool) (n : Noted) (all : List (Stmt ℕ)) (a l : ℕ) → noting known n (Block all) a l ≡ noting_all known n all a l
walk-Block known n all a l = ap (fold (note_nest known) n) (nests-Block all a l)

pub walk-If-None : (known : List Bool) (n : Noted) (test : Expr ℕ) (first : Stmt ℕ) (a l : ℕ) → noting known n (If test first None) a l ≡ noting known n first a l
walk-If-None known n test first a l = ap (fold (note_nest known) n) (nests-If-None test first a l) ∙ fold-append (note_nest known) n (nests first a l) []

pub walk-If-Some : (known : List Bool) (n : Noted) (test : Expr ℕ) (first second : Stmt ℕ) (a l : ℕ) →
    noting known n (If test first (Some second)) a l ≡ noting known (noting known n first a l) second a l
walk-If-Some known n test first second a l = ap (fold (note_nest known) n) (nests-If-Some test first second a l) ∙ fold-append (note_nest known) n (nests first a l) (nests second a l)

walk-While : (known : List Bool) (n : Noted) (span : Span) (test : Expr ℕ) (most : Option ℕ) (body : Stmt ℕ) (a l : ℕ) →
    noting known n (While span test most body) a l ≡ noting known (note_nest known n (Loop span most body l)) body a (one_more most l)
walk-While known n span test most body a l = ap (fold (note_nest known) n) (nests-While span test most body a l)

walk-Abort : (known : List Bool) (n : Noted) (span : Span) (weak : Bool) (body : Stmt ℕ) (test : Expr ℕ) (a l : ℕ) →
    noting known n (Abort span weak body test) a l ≡ noting known (note_nest known n (Aborted span a)) body (a + 1) l
walk-Abort known n span weak body test a l = ap (fold (note_nest known) n) (nests-Abort span weak body test a l)

pub walk-Eot : (known : List Bool) (n : Noted) (span : Span) (a l : ℕ) → noting known n (Eot span) a l ≡ n
walk-Eot known n span a l = ap (fold (note_nest known) n) (opened (OpenEot span) (Eot span) a l (rolls-Eot span))

pub walk-Par : (known : List Bool) (n : Noted) (span : Span) (threads : List ℕ) (a l : ℕ) → noting known n (Par span threads) a l ≡ n
walk-Par known n span threads a l = ap (fold (note_nest known) n) (opened (OpenPar span threads) (Par span threads) a l (rolls-Par span threads))

-- ---- by induction on the statement

level : (known : List Bool) (x : Stmt-F ℕ (Known known)) → Same known (roll-Stmt ℕ (without known x))
level known OpenSkip n a b l k e d = rw rolls-Skip (walk-Skip known n a l ∙ sym (walk-Skip known n b k))
level known (OpenAssign goal value) n a b l k e d = rw (rolls-Assign goal value) (walk-Assign known n goal value a l ∙ sym (walk-Assign known n goal value b k))
level known (OpenCall goal function arguments) n a b l k e d = rw (rolls-Call goal function arguments) (walk-Call known n goal function arguments a l ∙ sym (walk-Call known n goal function arguments b k))
level known (OpenBlock all) n a b l k e d =
    let all' = map (λ (e : Known known). e.0) all in
    rw (rolls-Block all') (walk-Block known n all' a l ∙ all_same known all n a b l k e d ∙ sym (walk-Block known n all' b k))
level known (OpenIf test first None) n a b l k e d =
    rw (rolls-If test first.0 None) (walk-If-None known n test first.0 a l ∙ first.1 n a b l k e d ∙ sym (walk-If-None known n test first.0 b k))
level known (OpenIf test first (Some second)) n a b l k e d =
    rw (rolls-If test first.0 (Some second.0))
    (walk-If-Some known n test first.0 second.0 a l
    ∙ second.1 (noting known n first.0 a l) a b l k e d
    ∙ ap (λ m. noting known m second.0 b k) (first.1 n a b l k e d)
    ∙ sym (walk-If-Some known n test first.0 second.0 b k))
level known (OpenWhile span test most body) n a b l k e d =
    rw (rolls-While span test most body.0)
    (walk-While known n span test most body.0 a l
    ∙ body.1 (note_nest known n (Loop span most body.0 l)) a b (one_more most l) (one_more most k) e (same_more most l k d)
    ∙ ap (λ m. noting known m body.0 b (one_more most k)) (same_loop known n span most body.0 l k d)
    ∙ sym (walk-While known n span test most body.0 b k))
level known (OpenEot span) n a b l k e d = rw (rolls-Eot span) (walk-Eot known n span a l ∙ sym (walk-Eot known n span b k))
level known (OpenPar span threads) n a b l k e d = rw (rolls-Par span threads) (walk-Par known n span threads a l ∙ sym (walk-Par known n span threads b k))
level known (OpenAbort span weak body test) n a b l k e d =
    rw (rolls-Abort span weak body.0 test)
    (walk-Abort known n span weak body.0 test a l
    ∙ body.1 (note_nest known n (Aborted span a)) (a + 1) (b + 1) l k (omega arith) d
    ∙ ap (λ m. noting known m body.0 (b + 1) k) (same_abort known n span a b e)
    ∙ sym (walk-Abort known n span weak body.0 test b k))

same : (known : List Bool) (s : Stmt ℕ) → Same known s
same known = ind-Stmt ℕ (Same known) (λ x y is. subst (λ z. Same known (roll-Stmt ℕ z)) is (level known y))

-- a loop's body, where eight loops are as good as more
pub walk-While-eight : (known : List Bool) (n : Noted) (span : Span) (test : Expr ℕ) (most : Option ℕ) (body : Stmt ℕ) (a l : ℕ) →
    noting known n (While span test most body) a l ≡ noting known (note_nest known n (Loop span most body l)) body a (min 8 (one_more most l))
walk-While-eight known n span test most body a l =
    walk-While known n span test most body a l ∙ same known body (note_nest known n (Loop span most body l)) a a (one_more most l) (min 8 (one_more most l)) refl (omega arith)

pub walk-Abort-eight : (known : List Bool) (n : Noted) (span : Span) (weak : Bool) (body : Stmt ℕ) (test : Expr ℕ) (a l : ℕ) →
    noting known n (Abort span weak body test) a l ≡ noting known (note_nest known n (Aborted span a)) body (min 8 (a + 1)) l
walk-Abort-eight known n span weak body test a l =
    walk-Abort known n span weak body test a l ∙ same known body (note_nest known n (Aborted span a)) (a + 1) (min 8 (a + 1)) l l (omega arith) refl

pub ruleset walk_steps = (walk-Skip, walk-Assign, walk-Call, walk-Block, walk-If-None, walk-If-Some, walk-While-eight, walk-Eot, walk-Par, walk-Abort-eight)

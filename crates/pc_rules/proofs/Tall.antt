-- The heights of functions up to a bound, and the functions that are too high.
use Rattle.std.proofs.Common.{◌≡◌, ℕ, zero, suc, ◌<◌, ◌≤◌, min, map, length, drop, get_or, Bool, true, false, not, ◌&&◌, List, [], ◌∷◌, ◌++◌, Option, Some, None, refl, sym, ap, subst, ◌∙◌, arith}
use Rattle.std.specs.Prelude.{nat_lt}
use Rattle.std.proofs.lemmas.List.Sums.{fold-append}
use Rattle.pt_base.specs.declared.rules.Rule.TheVariants.{Z6}
use Rattle.pc_grammar.specs.declared.statements.Stmt.{Stmt}
use Rattle.pc_grammar.specs.declared.statements.Stmt.TheFolds.{fold-roll-Stmt, ind-Stmt, map-Stmt}
use Rattle.pc_grammar.specs.declared.statements.Stmt.TheViews.{roll-Stmt}
use Rattle.pc_grammar.specs.declared.statements.Stmt.TheOpen.{Stmt-F, Skip, Assign, Call, Block, If, While, Eot, Par, Abort}
use Rattle.pc_grammar.specs.declared.typed.Function.{Function}
use Rattle.pc_rules.specs.Known.{known_of}
use Rattle.pc_rules.specs.Nests.{greatest, height_step, called_height, function_height}
use Rattle.pc_rules.proofs.Each.{known_bounded, IsBounded}
use Rattle.pt_base.specs.First.{Fault, first_of, fault_if}
use Rattle.pc_rules.specs.Faults.{tall_faults}

-- ---- the height of a statement up to a bound comes from those of the functions up to the bound

abbrev Agrees : ℕ → List ℕ → Stmt ℕ → Type 0
Agrees c known s = min c (called_height known s) ≡ min c (called_height (map (min c) known) s)

abbrev Known : ℕ → List ℕ → Type 0
Known c known = (s : Stmt ℕ) × Agrees c known s

-- the equation of a level
opened : (known : List ℕ) (x : Stmt-F ℕ (Stmt ℕ)) → called_height known (roll-Stmt ℕ x) ≡ height_step known (map-Stmt ℕ (Stmt ℕ) ℕ (called_height known) x)
opened known x = fold-roll-Stmt ℕ ℕ (height_step known) x

all_agree : (c : ℕ) (known : List ℕ) (all : List (Known c known)) →
    min c (greatest (map (called_height known) (map (λ e. e.0) all))) ≡ min c (greatest (map (called_height (map (min c) known)) (map (λ e. e.0) all)))
all_agree c known [] = refl
all_agree c known (e ∷ all) = omega (arith, e.1, all_agree c known all)

level : (c : ℕ) (known : List ℕ) (x : Stmt-F ℕ (Known c known)) →
    min c (height_step known (map-Stmt ℕ (Stmt ℕ) ℕ (called_height known) (map-Stmt ℕ (Known c known) (Stmt ℕ) (λ e. e.0) x)))
    ≡ min c (height_step (map (min c) known) (map-Stmt ℕ (Stmt ℕ) ℕ (called_height (map (min c) known)) (map-Stmt ℕ (Known c known) (Stmt ℕ) (λ e. e.0) x)))
level c known Skip = refl
level c known (Assign goal value) = refl
level c known (Call goal function arguments) = known_bounded c known function
level c known (Block all) = all_agree c known all
level c known (If test first None) = omega (arith, first.1)
level c known (If test first (Some second)) = omega (arith, first.1, second.1)
level c known (While span test most body) = body.1
level c known (Eot span) = refl
level c known (Par span threads) = refl
level c known (Abort span weak body test) = body.1

agrees : (c : ℕ) (known : List ℕ) (s : Stmt ℕ) → Agrees c known s
agrees c known = ind-Stmt ℕ (Agrees c known) (λ x y is.
    subst (λ z. Agrees c known (roll-Stmt ℕ z)) is
    (let below = map-Stmt ℕ (Known c known) (Stmt ℕ) (λ e. e.0) y in
    ap (min c) (opened known below) ∙ level c known y ∙ sym (ap (min c) (opened (map (min c) known) below))))

body_agrees : (c : ℕ) (known : List ℕ) (body : List (Stmt ℕ)) → min c (greatest (map (called_height known) body)) ≡ min c (greatest (map (called_height (map (min c) known)) body))
body_agrees c known [] = refl
body_agrees c known (s ∷ body) = omega (arith, agrees c known s, body_agrees c known body)

pub height_bounded : (c : ℕ) → IsBounded c function_height
height_bounded c known f = omega (arith, body_agrees c known f.body)

-- ---- the functions that are too high

no_heights : (functions : List Function) → tall_faults functions [] ≡ []
no_heights [] = refl
no_heights (f ∷ functions) = refl

not_tall : (b : Bool) (f : Fault) → fault_if (b && false) f ≡ []
not_tall true f = refl
not_tall false f = refl

abbrev tall_if : Function → ℕ → List Fault
tall_if f h = fault_if (not f.thread && nat_lt 16 h) (Z6, f.name.span)

tall-more : (functions : List Function) (heights : List ℕ) (i : ℕ) (d : Function) → i < length functions →
    tall_faults (drop i functions) (drop i heights) ≡ tall_if (get_or functions i d) (known_of heights i) ++ tall_faults (drop (suc i) functions) (drop (suc i) heights)
tall-more [] heights i d h = absurd (omega arith)
tall-more (f ∷ functions) [] zero d h = sym (ap (λ l. l ++ tall_faults functions []) (not_tall (not f.thread) (Z6, f.name.span)) ∙ no_heights functions)
tall-more (f ∷ functions) (n ∷ heights) zero d h = refl
tall-more (f ∷ functions) [] (suc i) d h =
    let g = get_or functions i d in
    no_heights (drop i functions)
    ∙ sym (ap (λ l. l ++ tall_faults (drop (suc i) functions) []) (not_tall (not g.thread) (Z6, g.name.span)) ∙ no_heights (drop (suc i) functions))
tall-more (f ∷ functions) (n ∷ heights) (suc i) d h = tall-more functions heights i d (omega arith)

pub one_less : (functions : List Function) (heights : List ℕ) (i : ℕ) (f : Function) (found next : Option Fault) (height : ℕ) (high : Bool) → f ≡ get_or functions i f → i < length functions →
    height ≡ known_of heights i → high ≡ (not f.thread && nat_lt 16 height) → next ≡ first_of found (fault_if high (Z6, f.name.span)) →
    first_of next (tall_faults (drop (suc i) functions) (drop (suc i) heights)) ≡ first_of found (tall_faults (drop i functions) (drop i heights))
one_less functions heights i f found next height high is within height_is high_is next_is =
    let rest = tall_faults (drop (suc i) functions) (drop (suc i) heights) in
    ap (λ n. first_of n rest)
    (next_is ∙ ap (λ b. first_of found (fault_if b (Z6, f.name.span))) (high_is ∙ ap (λ h. not f.thread && nat_lt 16 h) height_is))
    ∙ sym (fold-append _ found (tall_if f (known_of heights i)) rest)
    ∙ ap (λ (g : Function). first_of found (tall_if g (known_of heights i) ++ rest)) is
    ∙ ap (first_of found) (sym (tall-more functions heights i f within))

pub no_functions : (functions : List Function) (heights : List ℕ) (i : ℕ) → length functions ≤ i → tall_faults (drop i functions) (drop i heights) ≡ []
no_functions [] heights zero h = refl
no_functions [] heights (suc i) h = refl
no_functions (f ∷ functions) heights zero h = absurd (omega arith)
no_functions (f ∷ functions) [] (suc i) h = no_heights (drop i functions)
no_functions (f ∷ functions) (n ∷ heights) (suc i) h = no_functions functions heights i (omega arith)

same_lt : (h : ℕ) → nat_lt 16 (min 17 h) ≡ nat_lt 16 h
same_lt h = grind arith

pub tall-bounded : (functions : List Function) (heights : List ℕ) → tall_faults functions (map (min 17) heights) ≡ tall_faults functions heights
tall-bounded [] heights = refl
tall-bounded (f ∷ functions) [] = refl
tall-bounded (f ∷ functions) (h ∷ heights) =
    ap (λ b. fault_if (not f.thread && b) (Z6, f.name.span) ++ tall_faults functions (map (min 17) heights)) (same_lt h)
    ∙ ap (λ l. tall_if f h ++ l) (tall-bounded functions heights)

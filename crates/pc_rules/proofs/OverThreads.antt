-- The sum of the passages over the threads.
use Rattle.std.proofs.Common.{◌≡◌, ℕ, zero, suc, ◌+◌, ◌<◌, ◌≤◌, Bool, true, false, min, map, length, drop, get_or, List, [], ◌∷◌, refl, sym, ap, ◌∙◌, arith}
use Rattle.std.specs.Prelude.{if◌then◌else◌}
use Rattle.pc_grammar.specs.declared.typed.Function.{Function}
use Rattle.pc_rules.specs.Known.{known_of}
use Rattle.pc_rules.specs.Weights.{thread_sum}

no_sizes : (functions : List Function) → thread_sum functions [] ≡ 0
no_sizes [] = refl
no_sizes (f ∷ functions) = refl

same_either : (b : Bool) (n : ℕ) → (if b then n else n) ≡ n
same_either true n = refl
same_either false n = refl

thread_sum-more : (functions : List Function) (sizes : List ℕ) (i : ℕ) (d : Function) → i < length functions →
    thread_sum (drop i functions) (drop i sizes) ≡ (if (get_or functions i d).thread then known_of sizes i else 0) + thread_sum (drop (suc i) functions) (drop (suc i) sizes)
thread_sum-more [] sizes i d h = absurd (omega arith)
thread_sum-more (f ∷ functions) [] zero d h = omega (arith, same_either f.thread 0, no_sizes functions)
thread_sum-more (f ∷ functions) (n ∷ sizes) zero d h = refl
thread_sum-more (f ∷ functions) [] (suc i) d h = omega (arith, no_sizes (drop i functions), same_either (get_or functions i d).thread 0, no_sizes (drop (suc i) functions))
thread_sum-more (f ∷ functions) (n ∷ sizes) (suc i) d h = thread_sum-more functions sizes i d (omega arith)

-- one more thread
pub one_less : (functions : List Function) (sizes : List ℕ) (i : ℕ) (f : Function) (known words : ℕ) → f ≡ get_or functions i f → i < length functions →
    known ≡ known_of sizes i → words ≡ (if f.thread then known else 0) →
    thread_sum (drop i functions) (drop i sizes) ≡ words + thread_sum (drop (suc i) functions) (drop (suc i) sizes)
one_less functions sizes i f known words is within known_is words_is =
    let rest = thread_sum (drop (suc i) functions) (drop (suc i) sizes) in
    thread_sum-more functions sizes i f within
    ∙ ap (λ (g : Function). (if g.thread then known_of sizes i else 0) + rest) (sym is)
    ∙ ap (λ n. (if f.thread then n else 0) + rest) (sym known_is)
    ∙ ap (λ n. n + rest) (sym words_is)

pub no_functions : (functions : List Function) (sizes : List ℕ) (i : ℕ) → length functions ≤ i → thread_sum (drop i functions) (drop i sizes) ≡ 0
no_functions [] sizes zero h = refl
no_functions [] sizes (suc i) h = refl
no_functions (f ∷ functions) sizes zero h = absurd (omega arith)
no_functions (f ∷ functions) [] (suc i) h = no_sizes (drop i functions)
no_functions (f ∷ functions) (n ∷ sizes) (suc i) h = no_functions functions sizes i (omega arith)

one_bounded : (c : ℕ) (b : Bool) (n : ℕ) → min c (if b then n else 0) ≡ min c (if b then min c n else 0)
one_bounded c true n = omega arith
one_bounded c false n = refl

pub thread_sum-bounded : (c : ℕ) (functions : List Function) (sizes : List ℕ) → min c (thread_sum functions (map (min c) sizes)) ≡ min c (thread_sum functions sizes)
thread_sum-bounded c [] sizes = refl
thread_sum-bounded c (f ∷ functions) [] = refl
thread_sum-bounded c (f ∷ functions) (n ∷ sizes) = omega (arith, one_bounded c f.thread n, thread_sum-bounded c functions sizes)

-- A measure for calls: how much the functions that may be called can take.
use Rattle.std.proofs.Common.{◌≡◌, ℕ, zero, suc, ◌+◌, ◌-◌, ◌<◌, ◌≤◌, List, Option, Some, None, refl, ap, arith}
use Rattle.std.specs.Prelude.{slice_get}
use Rattle.pc_grammar.specs.declared.statements.Stmt.{Stmt, size-Stmt}
use denote.Param.Weighed.{most}
use Rattle.pc_grammar.specs.declared.typed.Function.{Function}

abbrev pub size_all : List (Stmt ℕ) → ℕ
size_all all = most (size-Stmt ℕ) all

abbrev pub size_of : Option Function → ℕ
size_of None = 0
size_of (Some f) = size_all f.body

-- the sizes of the first n bodies, and one more for each
unfoldable pub cost : List Function → ℕ → ℕ
cost functions zero = 0
cost functions (suc n) = cost functions n + size_of (slice_get functions n) + 1

pub cost-suc : (functions : List Function) (n : ℕ) → cost functions (suc n) ≡ cost functions n + size_of (slice_get functions n) + 1
unfolding cost
cost-suc functions n = refl

-- more functions cost more
pub cost-more : (functions : List Function) (n k : ℕ) → cost functions n ≤ cost functions (n + k)
cost-more functions n zero = let e : n ≡ n + 0 = omega arith in omega (arith, ap (cost functions) e)
cost-more functions n (suc k) =
    let e : n + suc k ≡ suc (n + k) = omega arith in
    omega (arith, cost-more functions n k, cost-suc functions (n + k), ap (cost functions) e)

-- a call leaves less
pub cost-below : (functions : List Function) (f n : ℕ) → f < n → cost functions f + size_of (slice_get functions f) + 1 ≤ cost functions n
cost-below functions f n h =
    let e : n ≡ suc f + (n - suc f) = omega arith in
    omega (arith, cost-suc functions f, cost-more functions (suc f) (n - suc f), ap (cost functions) e)

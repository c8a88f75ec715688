-- The first entry whose condition is due.
use Rattle.std.proofs.Common.{◌≡◌, ◌<◌, ◌+◌, ℕ, Bool, true, false, ◌||◌, if◌then◌else◌, List, [], ◌∷◌, length, arith}
use Rattle.mb_pfu.specs.declared.parts.Watch.{Watch}
use Rattle.mb_pfu.specs.Rows.{any_due, first_due}

within-by : (b c : Bool) (n m : ℕ) → (b || c) ≡ true → (c ≡ true → n < m) → (if b then 0 else n + 1) < m + 1
within-by true c n m h more = omega arith
within-by false c n m h more = omega (arith, more h)

pub due-within : (watches : List Watch) → any_due watches ≡ true → first_due watches < length watches
due-within [] h = cc
due-within (l ∷ watches) h = omega (arith, within-by l.due (any_due watches) (first_due watches) (length watches) h (due-within watches))

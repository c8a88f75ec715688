-- The dearest way through a region has no more choices than it costs.
use Rattle.std.proofs.Common.{◌≡◌, ◌≤◌, ◌+◌, ◌*◌, ◌++◌, max, ℕ, zero, suc, nat_le, Bool, true, false, if◌then◌else◌, List, [], ◌∷◌, length, refl, leb-true, arith}
use Rattle.std.proofs.lemmas.Bool.Decides.{nat_tests}
use Rattle.mb_isa.specs.declared.Class.{Class}
use Rattle.mb_isa.specs.declared.Class.TheVariants as class
use Rattle.mb_isa.specs.Costs.{cost_of, IsCosts}
use Rattle.mb_isa.proofs.CostRange.{cost_of-range}
use Rattle.pt_image.specs.declared.Parts.{Parts}
use Rattle.tk_paths.specs.Regions.{Region, Words, Then, Choice, Counted, Repeated, Calling, to, extra, units_cost, tested_turn, plain_turn, leaving, through, times, dearest_way}
use Rattle.tk_paths.proofs.Flags.{length-join}

times-length : (image : Parts) (k : ℕ) (d : List Bool) (c : ℕ) → length d ≤ c → length (times k d) ≤ k * c
times-length image zero d c h = omega arith
times-length image (suc k) d c h =
    let r = times-length image k d c h in
    let j = length-join image d (times k d) in
    let e : suc k * c ≡ c + k * c = omega arith in
    omega (arith, h, r, j, e)

module _ (image : Parts) (costs : List ℕ) (priced : IsCosts costs) where
  one : (c : Class) → 1 ≤ cost_of costs c
  one c = (cost_of-range costs priced c).0

  pub way-short : (r : Region) → length (dearest_way image costs r) ≤ through image costs r
  way-short (Words p n q) = omega arith
  way-short (Then x y) =
      let a = way-short x in
      let b = way-short y in
      let j = length-join image (dearest_way image costs x) (dearest_way image costs y) in
      omega (arith, a, b, j)
  way-short (Choice p n at x y) = by (nat_le A B) refl (way-short x) (way-short y)
    where
      A : ℕ
      A = cost_of costs class.Untaken + (through image costs x + (extra image costs (to x) + cost_of costs class.Jump))

      B : ℕ
      B = cost_of costs class.Taken + through image costs y

      by : (t : Bool) → nat_le A B ≡ t → length (dearest_way image costs x) ≤ through image costs x → length (dearest_way image costs y) ≤ through image costs y →
          length (if t then true ∷ dearest_way image costs y else false ∷ dearest_way image costs x) ≤ (units_cost image costs p n + extra image costs at) + max A B
      by true e a b = let l : A ≤ B = leb-true A B e in let u = one class.Taken in omega (arith, l, b, u)
      by false e a b = let l : B ≤ A = grind (arith, nat_tests, e) in let u = one class.Untaken in omega (arith, l, a, u)
  way-short (Counted p m n at body q) = by (nat_le A B) refl (way-short body)
    where
      W : ℕ
      W = tested_turn image costs p n at body (through image costs body)

      A : ℕ
      A = suc m * W + cost_of costs class.Next

      B : ℕ
      B = m * W + leaving image costs p n at

      by : (t : Bool) → nat_le A B ≡ t → length (dearest_way image costs body) ≤ through image costs body →
          length (if t then times m (false ∷ dearest_way image costs body) ++ true ∷ [] else times (suc m) (false ∷ dearest_way image costs body)) ≤ (extra image costs p + cost_of costs class.Loop) + max A B
      by true e a =
          let l : A ≤ B = leb-true A B e in
          let u = one class.Untaken in
          let v = one class.Taken in
          let turn : length (false ∷ dearest_way image costs body) ≤ W = omega (arith, a, u) in
          let all = times-length image m (false ∷ dearest_way image costs body) W turn in
          let j = length-join image (times m (false ∷ dearest_way image costs body)) (true ∷ []) in
          let last : length (true ∷ []) ≡ 1 = refl in
          omega (arith, l, all, j, v, last)
      by false e a =
          let l : B ≤ A = grind (arith, nat_tests, e) in
          let u = one class.Untaken in
          let turn : length (false ∷ dearest_way image costs body) ≤ W = omega (arith, a, u) in
          let all = times-length image (suc m) (false ∷ dearest_way image costs body) W turn in
          omega (arith, l, all)
  way-short (Repeated p m body q) =
      let a = way-short body in
      let W = plain_turn image costs body (through image costs body) in
      let turn : length (dearest_way image costs body) ≤ W = omega (arith, a) in
      let all = times-length image (suc m) (dearest_way image costs body) W turn in
      omega (arith, all)
  way-short (Calling p callee) = let a = way-short callee in omega (arith, a)

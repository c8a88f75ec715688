-- The functions of a program by their numbers.
use Rattle.std.proofs.Common.{◌≡◌, ℕ, zero, suc, ◌+◌, ◌<◌, Bool, List, [], ◌∷◌, map, length, Some, refl, ap, subst, arith}
use Rattle.std.specs.Prelude.{slice_get}
use Rattle.pc_meaning.specs.Tree.{Expression, Routine}
use Rattle.pc_lower.specs.Residuals.{body_at}
use Rattle.pc_lower.specs.Lowered.{body_of, bodies_of}
use Rattle.pc_lower.specs.Sound.{RoutineFits, RoutinesFit}
use Rattle.pc_lower.specs.Loops.{AllLoopsKept, RoutinesLoopsKept}

pub body-there : (routines rest : List Routine) (i : ℕ) (r : Routine) → slice_get rest i ≡ Some r → body_at (bodies_of routines rest) i ≡ body_of routines r
body-there routines [] i r there = cc
body-there routines (x ∷ rest) zero r there = let e : x ≡ r = cc in ap (body_of routines) e
body-there routines (x ∷ rest) (suc i) r there = body-there routines rest i r there

pub fits-there : (routines : List Routine) (aborts : List (Bool × Expression)) (rest : List Routine) (n i : ℕ) (r : Routine) → slice_get rest i ≡ Some r → RoutinesFit routines aborts n rest → RoutineFits routines aborts (n + i) r
fits-there routines aborts [] n i r there h = cc
fits-there routines aborts (x ∷ rest) n zero r there h =
    let e : x ≡ r = cc in
    let m : n ≡ n + 0 = omega arith in
    subst (λ k. RoutineFits routines aborts k r) m (subst (RoutineFits routines aborts n) e h.0)
fits-there routines aborts (x ∷ rest) n (suc i) r there h =
    let m : suc n + i ≡ n + suc i = omega arith in
    subst (λ k. RoutineFits routines aborts k r) m (fits-there routines aborts rest (suc n) i r there h.1)

pub kept-there : (known : List Bool) (rest : List Routine) (i : ℕ) (r : Routine) → slice_get rest i ≡ Some r → RoutinesLoopsKept known rest → AllLoopsKept known r.body
kept-there known [] i r there h = cc
kept-there known (x ∷ rest) zero r there h = let e : x ≡ r = cc in subst (λ y. AllLoopsKept known y.body) e h.0
kept-there known (x ∷ rest) (suc i) r there h = kept-there known rest i r there h.1

pub map-there : {A B : Type 0} (g : A → B) (fs : List A) (i : ℕ) (f : A) → slice_get fs i ≡ Some f → slice_get (map g fs) i ≡ Some (g f)
map-there g [] i f there = cc
map-there g (x ∷ fs) zero f there = let e : x ≡ f = cc in ap (λ y. Some (g y)) e
map-there g (x ∷ fs) (suc i) f there = map-there g fs i f there

pub there-below : {A : Type 0} (fs : List A) (i : ℕ) (f : A) → slice_get fs i ≡ Some f → i < length fs
there-below [] i f there = cc
there-below (x ∷ fs) zero f there = omega arith
there-below (x ∷ fs) (suc i) f there = let h = there-below fs i f there in omega (arith, h)

pub some-there : {A : Type 0} (fs : List A) (i : ℕ) → i < length fs → (f : A) × (slice_get fs i ≡ Some f)
some-there [] i less = absurd (omega (arith, less))
some-there (x ∷ fs) zero less = (x, refl)
some-there (x ∷ fs) (suc i) less = some-there fs i (omega (arith, less))

-- What a number of a certificate may be made of, one way at a time: docs/bounds.md, "Tight certificates".
use Rattle.std.specs.Prelude.{◌≡◌, ◌⊎◌, ℕ, zero, suc, ◌+◌, IsTrue, IsFalse, List, [], ◌∷◌, Option, Some, None}
use Rattle.pt_image.specs.declared.Parts.{Parts}
use Rattle.tk_cert.specs.declared.cert.CertParts.{CertParts}
use Rattle.tk_paths.specs.declared.view.Side.{Side}
use Rattle.tk_paths.specs.declared.view.Side.TheVariants.{ToPause, ToEnd}
use Rattle.tk_paths.specs.declared.view.View.TheVariants.{On}
use Rattle.tk_paths.specs.Kinds.{line_at, is_thread, upper_at, abort_at}
use Rattle.tk_paths.specs.Acceptance.{number, value, resumed, begins}

-- a group comes to its end where each of two parts does
abbrev pub both_sides : Side → Side → Side
both_sides ToEnd ToEnd = ToEnd
both_sides ToEnd ToPause = ToPause
both_sides ToPause other = ToPause

-- the same of parts that are resumed, where one that had ended before says nothing
abbrev pub both_ends : Option Side → Option Side → Option Side
both_ends None other = other
both_ends (Some side) None = Some side
both_ends (Some x) (Some y) = Some (both_sides x y)

module _ (image : Parts) (cert : CertParts) (costs : List ℕ) where
  -- a place of slot s inside these aborts, in no loop and no routine, that is read with no upper half
  abbrev pub IsOpen : ℕ → ℕ → List ℕ → Type 0
  IsOpen place s stack = IsTrue (is_thread s stack [] (line_at cert.lines place)) × (upper_at image cert.lines place ≡ None)

  -- the number of a side at a level of a place
  abbrev pub Has : Side → ℕ → ℕ → ℕ → Type 0
  Has side level place n = number image cert costs (On side level) place ≡ Some n

  -- one of the first k of these aborts is weak, and its handler has this number at its level; the first has number i
  abbrev pub Handled : Side → ℕ → List ℕ → ℕ → ℕ → Type 0
  Handled side i [] k n = ⊥
  Handled side i (j ∷ stack) zero n = ⊥
  Handled side i (j ∷ stack) (suc k) n =
      (IsTrue ((abort_at image j).weak) × Has side i ((abort_at image j).handler) n) ⊎ Handled side (i + 1) stack k n

  -- after a pause inside these aborts, of which so many are old: the tick is over, or a handler goes on
  abbrev pub Rests : List ℕ → ℕ → Side → ℕ → Type 0
  Rests stack k side n = ((side ≡ ToPause) × (n ≡ 0)) ⊎ Handled side 0 stack k n

  -- after a group that came to its end, or to a pause
  abbrev pub After : List ℕ → ℕ → ℕ → Side → Side → ℕ → Type 0
  After stack k at ToEnd side n = Has side k (at + 1) n
  After stack k at ToPause side n = Rests stack k side n

  -- a sum of one number a child that starts, of so many children from slot c on
  abbrev pub Sum : ℕ → ℕ → Side → ℕ → Type 0
  Sum c zero side n = (side ≡ ToEnd) × (n ≡ 0)
  Sum c (suc count) side n =
      (x y : Side) × (p q : ℕ) × (begins image cert costs x c ≡ Some p) × Sum (c + 1) count y q × (side ≡ both_sides x y) × (n ≡ p + q)

  -- a child that is resumed, or had ended before
  abbrev pub Resumes : ℕ → Option Side → ℕ → Type 0
  Resumes c None n = n ≡ 0
  Resumes c (Some side) n = resumed image cert costs side c ≡ Some n

  -- a sum of these
  abbrev pub Resumed : ℕ → ℕ → Option Side → ℕ → Type 0
  Resumed c zero end n = (end ≡ None) × (n ≡ 0)
  Resumed c (suc count) end n =
      (x y : Option Side) × (p q : ℕ) × Resumes c x p × Resumed (c + 1) count y q × (end ≡ both_ends x y) × (n ≡ p + q)

  -- the conditions of these aborts one after another, the first of number i: a strong one may lead to its handler, and behind all
  -- stands `inner`
  abbrev pub Tested : ℕ → List ℕ → (Side → ℕ → Type 0) → Side → ℕ → Type 0
  Tested i [] inner side n = inner side n
  Tested i (j ∷ stack) inner side n =
      (m : ℕ) × (n ≡ value image cert costs ((abort_at image j).cond) + m)
      × ((IsFalse ((abort_at image j).weak) × Has side i ((abort_at image j).handler) m) ⊎ Tested (i + 1) stack inner side m)

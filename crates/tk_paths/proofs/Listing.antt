-- A region whose outermost bounded loops and calls are found at their places, where a thread is in no bounded loop.
use Rattle.std.proofs.Common.{◌≡◌, ℕ, List, [], ◌∷◌, Option, Some}
use Rattle.pt_image.specs.declared.Parts.{Parts}
use Rattle.tk_cert.specs.declared.cert.CertParts.{CertParts}
use Rattle.tk_paths.specs.Regions.{Region, Words, Then, Choice, Counted, Repeated, Calling}
use Rattle.tk_paths.specs.Numbers.{Kind, thread, routine, condition, inside}
use Rattle.tk_paths.proofs.PlaceLaws.{Openly}
use Rattle.tk_paths.proofs.UnitLaws.{IsCode}

module _ (image : Parts) (cert : CertParts) (costs : List ℕ) (find : ℕ → Option Region) where
  -- its outermost loops and its calls are found at their places
  abbrev pub AreListed : Region → Type 0
  AreListed (Words p n q) = Unit {0}
  AreListed (Then x y) = AreListed x × AreListed y
  AreListed (Choice p n at x y) = AreListed x × AreListed y
  AreListed (Counted p m n at body q) = find p ≡ Some (Counted p m n at body q)
  AreListed (Repeated p m body q) = find p ≡ Some (Repeated p m body q)
  AreListed (Calling p callee) = find p ≡ Some (Calling p callee)

  abbrev pub Listed : Kind → Type 0 → Type 0
  Listed = Openly image cert costs find

  pub listed-inside : (a : ℕ) (kind : Kind) (T : Type 0) → IsCode kind → Listed (inside a kind) T
  listed-inside a (thread s b []) T c = tt
  listed-inside a (thread s b (x ∷ l)) T c = tt
  listed-inside a (routine h l) T c = tt
  listed-inside a condition T c = absurd c

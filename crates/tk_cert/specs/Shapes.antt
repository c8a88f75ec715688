-- The shape that a certificate keeps: docs/files.md, "The certificate file".
use Rattle.std.specs.Prelude.{◌≡◌, ℕ, ◌+◌, ◌≤◌, List, [], ◌∷◌, length}
use Rattle.std.specs.List.{AllByRecursion}
use Rattle.tk_cert.specs.declared.cert.Line.{Line}
use Rattle.tk_cert.specs.declared.cert.Line.TheVariants.{Bare, Thread, Routine, Cond}
use Rattle.tk_cert.specs.declared.cert.CertParts.{CertParts}

-- a thread line has one level more than its stack has numbers, and a height is from 1 to 16
abbrev pub IsShaped : Line → Type 0
IsShaped Bare = Unit {0}
IsShaped (Thread slot stack loops levels) = length levels ≡ length stack + 1
IsShaped (Routine height loops value) = (1 ≤ height) × (height ≤ 16)
IsShaped (Cond value) = Unit {0}

-- the places rise, and the first isn't below this one
abbrev pub RiseFrom : ℕ → List (ℕ × ℕ) → Type 0
RiseFrom low [] = Unit {0}
RiseFrom low (w ∷ ws) = (low ≤ w.0) × RiseFrom (w.0 + 1) ws

pub record IsCert (c : CertParts) : Type 0 where
  pub lines : AllByRecursion IsShaped c.lines
  pub weights : RiseFrom 0 c.weights

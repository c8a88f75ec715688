-- Which texts are those of certificates, and at which group of lines another text is first at fault: docs/files.md,
-- "The certificate file".
use Rattle.std.specs.Prelude.{◌≡◌, ℕ, ◌+◌, ◌<◌, ◌≤◌, List, length, Option, IfSome, Result, Ok, Err}
use Rattle.std.specs.List.{AllByRecursion}
use Rattle.pt_base.specs.Forms.{Form, IsFault}
use Rattle.tk_cert.specs.declared.cert.State.{State}
use Rattle.tk_cert.specs.declared.cert.State.TheVariants.{Free, Start, Paused, Waiting, Ended}
use Rattle.tk_cert.specs.declared.cert.Walk.{Walk}
use Rattle.tk_cert.specs.declared.fault.CertFault.{CertFault}
use Rattle.tk_cert.specs.declared.fault.CertFault.TheVariants as faults
use Rattle.tk_cert.specs.declared.cert.Line.{Line}
use Rattle.tk_cert.specs.declared.cert.Line.TheVariants.{Bare, Thread, Routine, Cond}
use Rattle.tk_cert.specs.declared.cert.CertParts.{CertParts}
use Rattle.tk_cert.specs.Shapes.{RiseFrom}
use Rattle.tk_cert.specs.Text.{groups}
use Rattle.tk_cert.specs.Reading.{too_large}
use Rattle.tk_cert.specs.Whole.{most_bytes}

-- a number isn't too large
abbrev pub IsNumber : ℕ → Type 0
IsNumber n = n < too_large

abbrev pub IsOptional : Option ℕ → Type 0
IsOptional o = IfSome o IsNumber

abbrev pub ArePair : Option ℕ × Option ℕ → Type 0
ArePair l = IsOptional l.0 × IsOptional l.1

-- at most eight places of loops
abbrev pub AreLoops : List ℕ → Type 0
AreLoops ls = (length ls ≤ 8) × AllByRecursion (λ n. n < 65536) ls

-- at most eight numbers of abort lines, of 32 bits
abbrev pub IsStack : List ℕ → Type 0
IsStack ns = (length ns ≤ 8) × AllByRecursion (λ n. n < 4294967296) ns

abbrev pub IsLine : Line → Type 0
IsLine Bare = Unit {0}
IsLine (Thread slot stack loops levels) = (slot < 64) × IsStack stack × AreLoops loops × (length levels ≡ length stack + 1) × AllByRecursion ArePair levels
IsLine (Routine height loops value) = (1 ≤ height) × (height ≤ 16) × AreLoops loops × IsNumber value
IsLine (Cond value) = IsNumber value

abbrev pub IsWeight : ℕ × ℕ → Type 0
IsWeight w = (w.0 < 65536) × IsNumber w.1

abbrev pub IsState : State → Type 0
IsState Free = Unit {0}
IsState Start = Unit {0}
IsState (Paused at) = at < 65536
IsState (Waiting at) = at < 65536
IsState Ended = Unit {0}

abbrev pub IsWalk : Walk → Type 0
IsWalk w = (1 ≤ length w.states) × (length w.states ≤ 64) × AllByRecursion IsState w.states × IsNumber (length w.choices)

-- the first groups of lines are within their ranges; the first group is the heading
pub record Ranges (number : ℕ) (c : CertParts) : Type 0 where
  pub bound : 2 ≤ number → IsNumber c.bound
  pub lines : 3 ≤ number → (1 ≤ length c.lines) × (length c.lines ≤ 65536) × AllByRecursion IsLine c.lines
  pub weights : 4 ≤ number → AllByRecursion IsWeight c.weights × RiseFrom 0 c.weights
  pub slots : 5 ≤ number → (1 ≤ length c.slot_bounds) × (length c.slot_bounds ≤ 64) × AllByRecursion ArePair c.slot_bounds
  pub walk : 6 ≤ number → IsWalk c.walk

-- all groups are within their ranges
abbrev pub IsInForm : CertParts → Type 0
IsInForm c = Ranges 6 c

-- The form of certificate files: six groups of lines, and the end.
abbrev pub cert_form : Form CertParts
cert_form = record { groups = groups; Ranges = Ranges; most = most_bytes; last = 7 }

-- the fault that was given is that of the first group at fault
abbrev pub FaultIsFirst : List ℕ → Result CertParts CertFault → Type 0
FaultIsFirst text (Ok c) = Unit {0}
FaultIsFirst text (Err (faults.Form number)) = IsFault cert_form number text
FaultIsFirst text (Err faults.Memory) = Unit {0}

-- it is these lists, unless memory ran out
abbrev pub IsRead : CertParts → Result CertParts CertFault → Type 0
IsRead c (Ok d) = d ≡ c
IsRead c (Err (faults.Form number)) = ⊥
IsRead c (Err faults.Memory) = Unit {0}

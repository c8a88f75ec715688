-- Routines that may be called, and aborts as they may be.
use Rattle.std.specs.Prelude.{ℕ, ◌+◌, not, ◌||◌, List, [], ◌∷◌, slice_get, ◌==◌, ◌&&◌, nat_lt, nat_le, Bool, true, false, length, Option, Some, None}
use Rattle.pt_image.specs.declared.AbortLine.{AbortLine}
use Rattle.pt_image.specs.declared.Point.{Point}
use Rattle.pt_image.specs.declared.Parts.{Parts}
use Rattle.tk_cert.specs.declared.cert.CertParts.{CertParts}
use Rattle.tk_cert.specs.Demands.{Demand, shape_demand}
use Rattle.tk_paths.specs.Kinds.{line_at, is_thread, is_cond, word_at}
use Rattle.tk_paths.specs.Shape.{children_start, says_well, word_is_shaped, place_is_shaped}
use Rattle.tk_cert.specs.declared.cert.Line.{Line}
use Rattle.tk_cert.specs.declared.cert.Line.TheVariants.{Bare, Thread, Routine, Cond}

-- a height is below another, if that is asked
abbrev pub is_below : ℕ → Option ℕ → Bool
is_below height None = true
is_below height (Some limit) = nat_lt height limit

-- the line is that of a routine inside no loop, below a height
abbrev pub callable : Option ℕ → Line → Bool
callable limit (Routine height loops value) = length loops == 0 && is_below height limit
callable limit other = false

-- an abort line of a slot inside others is there, and its condition and its handler have their kinds
abbrev pub line_is_fit : CertParts → ℕ → List ℕ → Option AbortLine → Bool
line_is_fit cert slot outside None = false
line_is_fit cert slot outside (Some line) =
    is_cond (line_at cert.lines line.cond) && is_thread slot outside [] (line_at cert.lines line.handler)

abbrev pub abort_is_shaped : Parts → CertParts → ℕ → List ℕ → ℕ → Bool
abort_is_shaped image cert slot outside j = line_is_fit cert slot outside (slice_get image.aborts j)

-- a fork of a slot may have these children
abbrev pub may_have : Parts → CertParts → ℕ → ℕ → ℕ → Bool
may_have image cert slot lo count = nat_lt slot lo && nat_lt 0 count && nat_le (lo + count) (length image.slots) && children_start image cert lo count

-- a line that says something is as it may be, and its word too
abbrev pub speaks_well : Parts → CertParts → ℕ → Line → Bool
speaks_well image cert place line = says_well image cert line && word_is_shaped image cert place line (word_at image cert.lines place)

-- what a place's shape asks
abbrev pub shape_at : Parts → CertParts → ℕ → List Demand
shape_at image cert place = shape_demand 1 place (place_is_shaped image cert place) ∷ []

-- The numbers of the slots that a fork starts, and of slots that are resumed.
use Rattle.std.specs.Prelude.{ℕ, Option, slice_get}
use Rattle.pt_image.specs.declared.Parts.{Parts}
use Rattle.tk_cert.specs.declared.cert.CertParts.{CertParts}
use Rattle.tk_paths.specs.declared.view.Side.{Side}
use Rattle.tk_paths.specs.declared.view.View.TheVariants.{On}
use Rattle.tk_paths.specs.Kinds.{line_at, start_of}
use Rattle.tk_paths.specs.Acceptance.{on_side, number_in}

-- a number of a slot that starts
abbrev pub starting : Parts → CertParts → Side → ℕ → Option ℕ
starting image cert side slot = number_in (On side 0) (line_at cert.lines (start_of image slot))

-- a number of a slot that is resumed
abbrev pub restarted : CertParts → Side → ℕ → Option ℕ
restarted cert side slot = on_side side (slice_get cert.slot_bounds slot)

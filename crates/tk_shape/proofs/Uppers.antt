-- The upper half behind the place before.
use Rattle.std.proofs.Common.{◌≡◌, ℕ, suc, List, ap}
use Rattle.pt_image.specs.declared.Parts.{Parts}
use Rattle.tk_cert.specs.declared.cert.Line.{Line}
use Rattle.tk_paths.specs.Words.{instr_at}
use Rattle.tk_paths.specs.Kinds.{line_at, upper_behind, upper_at}

pub upper_before : (image : Parts) (lines : List Line) (place before : ℕ) → place ≡ suc before → upper_at image lines place ≡ upper_behind (line_at lines before) (instr_at image before)
upper_before image lines place before e = ap (upper_at image lines) e

-- The lines and weights that are made so far, from the first place on.
use Rattle.std.specs.Prelude.{ℕ, List}
use Rattle.tk_cert.specs.declared.cert.Line.{Line}

pub record Made : Type 0 where
  pub lines : List Line
  pub weights : List (ℕ × ℕ)

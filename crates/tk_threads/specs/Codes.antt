-- The numbers at a pause and at a fork, and those of codes one behind the other.
use Rattle.std.specs.Prelude.{ℕ, ◌++◌, List, [], ◌∷◌, Option}
use Rattle.mb_isa.specs.declared.Class.TheVariants as class
use Rattle.pt_image.specs.declared.Parts.{Parts}
use Rattle.tk_cert.specs.declared.cert.Line.{Line}
use Rattle.tk_paths.specs.declared.view.Side.{Side}
use Rattle.tk_paths.specs.Codes.{Code}
use Rattle.tk_paths.specs.Numbers.{Numbers, Handler, cost, after, rested, grouped, entered, code_lines, code_weights}

unfoldable pub pausing : Parts → List ℕ → List Handler → Numbers
pausing image costs aborts = after (cost image costs class.Eot) (rested image costs aborts)

unfoldable pub forking : Parts → List ℕ → (Side → ℕ → Option ℕ) → List Handler → (low count : ℕ) → Numbers → Numbers
forking image costs starts aborts low count V = after (cost image costs class.Fork) (grouped image costs starts aborts low count V)

module _ (image : Parts) (costs : List ℕ) (starts : Side → ℕ → Option ℕ) where
  -- the numbers where codes begin that come one behind the other, and their lines
  abbrev pub entered_all : List Handler → List Code → Numbers → Numbers
  entered_all aborts [] V = V
  entered_all aborts (c ∷ codes) V = entered image costs starts aborts c (entered_all aborts codes V)

  abbrev pub lines_all : ℕ → List Handler → List Code → Numbers → List Line
  lines_all slot aborts [] V = []
  lines_all slot aborts (c ∷ codes) V =
      code_lines image costs starts slot aborts c (entered_all aborts codes V) ++ lines_all slot aborts codes V

abbrev pub weights_all : Parts → List ℕ → List Code → List (ℕ × ℕ)
weights_all image costs [] = []
weights_all image costs (c ∷ codes) = code_weights image costs c ++ weights_all image costs codes

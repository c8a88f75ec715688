-- Units one by one, by the places where they begin.
use Rattle.std.specs.Prelude.{ℕ, zero, suc, ◌+◌, ◌++◌, List, [], ◌∷◌}
use Rattle.pt_image.specs.declared.Parts.{Parts}
use Rattle.tk_cert.specs.declared.cert.Line.{Line}
use Rattle.tk_paths.specs.Regions.{behind, unit_word, extra, word_cost}
use Rattle.tk_paths.specs.Numbers.{Kind, Numbers, after, unit_lines}

module _ (image : Parts) where
  -- the places where so many units begin, from a place on
  abbrev pub places_from : ℕ → ℕ → List ℕ
  places_from p zero = []
  places_from p (suc n) = p ∷ places_from (behind image p) n

  module _ (costs : List ℕ) where
    -- what these units are charged, and their lines
    abbrev pub charged : List ℕ → ℕ
    charged [] = 0
    charged (p ∷ places) = (extra image costs p + word_cost image costs (unit_word image p)) + charged places

    abbrev pub lines_at : Kind → List ℕ → Numbers → List Line
    lines_at kind [] V = []
    lines_at kind (p ∷ places) V =
        unit_lines image costs kind p (after (word_cost image costs (unit_word image p) + charged places) V) ++ lines_at kind places V

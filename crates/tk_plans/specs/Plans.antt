-- The plans of a program's places, from the lines and the numbers of slots that are told.
use Rattle.std.specs.Prelude.{ℕ, List, Bool, Option}
use Rattle.pt_image.specs.declared.Parts.{Parts}
use Rattle.tk_cert.specs.declared.cert.Line.{Line}
use Rattle.tk_paths.specs.declared.view.Side.{Side}
use Rattle.tk_paths.specs.Words.{instr_at}
use Rattle.tk_paths.specs.Kinds.{line_at}
use Rattle.tk_paths.specs.Acceptance.{stack_of}
use Rattle.tk_paths.specs.declared.trees.Program.{Program}
use Rattle.tk_paths.specs.Regions.{unit_word}
use Rattle.tk_paths.specs.Trees.{read_program}
use Rattle.tk_paths.specs.Choices.{Plan, plan}
use Rattle.tk_paths.specs.Dearest.{find_piece}
use Rattle.tk_paths.specs.Told.{told_by}
use Rattle.tk_plans.specs.declared.parts.Group.{Group}
use Rattle.tk_plans.specs.declared.parts.Next.{Next}
use Rattle.tk_plans.specs.Parts as parts

module _ (image : Parts) (lines : List Line) (bounds : List (Option ℕ × Option ℕ)) (costs : List ℕ) where
  -- a fork at a place is joined
  abbrev pub joined_at : ℕ → Side → ℕ → Bool
  joined_at place side k =
      parts.joined_by image (told_by lines bounds) costs (instr_at image place) (stack_of (line_at lines place)) place side k

  module _ (program : Program) where
    abbrev pub plans : ℕ → ℕ → Side → ℕ → Plan
    plans = plan image (told_by lines bounds) costs (find_piece (read_program program))

    abbrev pub children_choices : ℕ → Group → ℕ → ℕ → List Bool
    children_choices most group c n = parts.group_choices image (told_by lines bounds) costs (plans most) group c n

    abbrev pub straight_at : ℕ → Side → ℕ → Next
    straight_at place side k =
        parts.straight_next image (told_by lines bounds) costs (find_piece (read_program program)) (unit_word image place) place side k

    abbrev pub straight_choices_at : ℕ → Side → ℕ → List Bool
    straight_choices_at place side k =
        parts.straight_choices image (told_by lines bounds) costs (find_piece (read_program program)) (unit_word image place) place side k

    abbrev pub next_at : ℕ → Side → ℕ → Bool → Next
    next_at place side k joined =
        parts.next_by image (told_by lines bounds) costs (find_piece (read_program program)) joined (instr_at image place)
        (stack_of (line_at lines place)) place side k

    abbrev pub choices_at : ℕ → Side → ℕ → List Bool
    choices_at place side k =
        parts.choices_by image (told_by lines bounds) costs (find_piece (read_program program)) (instr_at image place) place side k

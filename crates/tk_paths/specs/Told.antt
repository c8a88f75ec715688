-- What the numbers of slots are told from: the lines of the places, and the slots that are known.
use Rattle.std.specs.Prelude.{ℕ, zero, suc, ◌+◌, ◌++◌, if◌then◌else◌, List, [], ◌∷◌, replicate, length, Option, None, slice_get}
use Rattle.pt_image.specs.declared.Point.{Point}
use Rattle.pt_image.specs.declared.Parts.{Parts}
use Rattle.tk_cert.specs.declared.cert.Line.{Line}
use Rattle.tk_cert.specs.declared.cert.CertParts.{CertParts}
use Rattle.tk_paths.specs.declared.view.Side.{Side}
use Rattle.tk_paths.specs.declared.view.Side.TheVariants.{ToPause, ToEnd}
use Rattle.tk_paths.specs.Sums.{plus, greater}
use Rattle.tk_paths.specs.Greatest.{best, num, resting, ending_sum, pausing_sum, paused, waited}
use Rattle.tk_paths.specs.declared.view.View.TheVariants.{On}
use Rattle.tk_paths.specs.Kinds.{line_at, abort_at}
use Rattle.tk_paths.specs.Acceptance.{on_side, number_in}

-- a number of a list of pairs
abbrev pub pair_at : List (Option ℕ × Option ℕ) → Side → ℕ → Option ℕ
pair_at pairs side n = on_side side (slice_get pairs n)

-- a certificate with these lines and slots
abbrev pub told_by : List Line → List (Option ℕ × Option ℕ) → CertParts
told_by lines pairs = record { bound = 0; lines = lines; weights = []; slot_bounds = pairs; walk = record { states = []; choices = [] } }

-- the number of the handler of an abort where it is weak, and where it is strong
abbrev pub weak_handler : Parts → List Line → Side → ℕ → ℕ → Option ℕ
weak_handler image lines side level j =
    if (abort_at image j).weak then number_in (On side level) (line_at lines ((abort_at image j).handler)) else None

abbrev pub strong_handler : Parts → List Line → Side → ℕ → ℕ → Option ℕ
strong_handler image lines side level j =
    if (abort_at image j).weak then None else number_in (On side level) (line_at lines ((abort_at image j).handler))

-- what follows behind the conditions of a fork that waits: some child pauses, or all end
abbrev pub joined_paused : Parts → CertParts → List ℕ → Side → Point → ℕ → ℕ → Option ℕ
joined_paused image cert costs side p lo count =
    plus (pausing_sum image cert costs lo count) (resting image cert costs p.stack (length p.stack) side)

abbrev pub joined_ended : Parts → CertParts → List ℕ → Side → Point → ℕ → ℕ → Option ℕ
joined_ended image cert costs side p lo count = plus (ending_sum image cert costs lo count) (num image cert costs side (length p.stack) (p.at + 1))

-- what is known as the numbers of slot s are told: those of later slots
abbrev pub known_from : ℕ → List (Option ℕ × Option ℕ) → List (Option ℕ × Option ℕ)
known_from s later = replicate (s + 1) (None, None) ++ later

module _ (image : Parts) (costs : List ℕ) (lines : List Line) where
  -- a number of a slot that is resumed, where these are known
  abbrev pub resumption : List (Option ℕ × Option ℕ) → ℕ → Side → Option ℕ
  resumption pairs s side =
      greater (best (paused image (told_by lines pairs) costs side) s image.pauses) (best (waited image (told_by lines pairs) costs side) s image.forks)

  -- the numbers of so many slots, from slot s on, which are the last
  unfoldable pub slots_from : ℕ → ℕ → List (Option ℕ × Option ℕ)
  slots_from s zero = []
  slots_from s (suc n) =
      (resumption (known_from s (slots_from (s + 1) n)) s ToPause, resumption (known_from s (slots_from (s + 1) n)) s ToEnd)
      ∷ slots_from (s + 1) n

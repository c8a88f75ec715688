-- What is told from the lines of a certificate and the numbers of its slots alone.
use Rattle.std.proofs.Common.{◌≡◌, ◌+◌, ◌==◌, ℕ, zero, suc, if◌then◌else◌, List, [], ◌∷◌, length, Option, Some, None, refl, ap, ◌∙◌}
use Rattle.mb_isa.specs.declared.Instr.{Instr}
use Rattle.mb_isa.specs.declared.Instr.TheVariants as instr
use Rattle.pt_image.specs.declared.Point.{Point}
use Rattle.pt_image.specs.declared.Parts.{Parts}
use Rattle.tk_cert.specs.declared.cert.CertParts.{CertParts}
use Rattle.tk_paths.specs.declared.view.Side.{Side}
use Rattle.tk_paths.specs.Sums.{plus, greater, all_ends, most_paused}
use Rattle.tk_paths.specs.Words.{instr_at}
use Rattle.tk_paths.specs.Kinds.{abort_at}
use Rattle.tk_paths.specs.Acceptance.{value, begins, more}
use Rattle.tk_paths.specs.Greatest.{stays, where_some, best, num, handlers, resting, grouping, tested, paused, waited_by, waited, ending_sum, pausing_sum, joined}
use Rattle.tk_paths.specs.Choices.{bare_of}

best-same : (f g : Point → Option ℕ) → ((p : Point) → f p ≡ g p) → (s : ℕ) (points : List Point) → best f s points ≡ best g s points
best-same f g h s [] = refl
best-same f g h s (p ∷ points) =
    ap (λ o. if p.slot == s then greater o (best f s points) else best f s points) (h p) ∙ ap (λ o. if p.slot == s then greater (g p) o else o) (best-same f g h s points)

module _ (image : Parts) (cert : CertParts) (costs : List ℕ) where
  abbrev view : CertParts
  view = bare_of cert

  handlers-same : (side : Side) (i : ℕ) (stack : List ℕ) (k : ℕ) → handlers image view costs side i stack k ≡ handlers image cert costs side i stack k
  handlers-same side i [] k = refl
  handlers-same side i (j ∷ stack) zero = refl
  handlers-same side i (j ∷ stack) (suc k) = ap (greater (if (abort_at image j).weak then num image cert costs side i ((abort_at image j).handler) else None)) (handlers-same side (i + 1) stack k)

  pub resting-same : (stack : List ℕ) (k : ℕ) (side : Side) → resting image view costs stack k side ≡ resting image cert costs stack k side
  resting-same stack k side = ap (greater (stays side)) (handlers-same side 0 stack k)

  pub grouping-same : (place lo count : ℕ) (stack : List ℕ) (k : ℕ) (side : Side) → grouping image view costs place lo count stack k side ≡ grouping image cert costs place lo count stack k side
  grouping-same place lo count stack k side =
      ap (λ o. greater (plus (most_paused (begins image cert costs) lo count) o) (plus (all_ends (begins image cert costs) lo count) (num image cert costs side k (place + 1)))) (resting-same stack k side)

  tested-same : (side : Side) (i : ℕ) (stack : List ℕ) (rest : Option ℕ) → tested image view costs side i stack rest ≡ tested image cert costs side i stack rest
  tested-same side i [] rest = refl
  tested-same side i (j ∷ stack) rest =
      ap (λ o. more (value image cert costs ((abort_at image j).cond)) (greater (if (abort_at image j).weak then None else num image cert costs side i ((abort_at image j).handler)) o)) (tested-same side (i + 1) stack rest)

  paused-same : (side : Side) (p : Point) → paused image view costs side p ≡ paused image cert costs side p
  paused-same side p = tested-same side 0 p.stack (num image cert costs side (length p.stack) (p.at + 1))

  waited-by-same : (o : Option Instr) (side : Side) (p : Point) → waited_by image view costs o side p ≡ waited_by image cert costs o side p
  waited-by-same (Some (instr.Fork lo count)) side p =
      let some = greater (ending_sum image cert costs lo count) (pausing_sum image cert costs lo count) in
      let k = length p.stack in
      ap (where_some some)
      (tested-same side 0 p.stack (joined image view costs side p lo count)
      ∙ ap (λ o. tested image cert costs side 0 p.stack (greater (plus (pausing_sum image cert costs lo count) o) (plus (ending_sum image cert costs lo count) (num image cert costs side k (p.at + 1))))) (resting-same p.stack k side))
  waited-by-same (Some other) side p = refl
  waited-by-same None side p = refl

  -- what the points of a slot give
  pub points-same : (s : ℕ) (side : Side) → greater (best (paused image view costs side) s image.pauses) (best (waited image view costs side) s image.forks) ≡ greater (best (paused image cert costs side) s image.pauses) (best (waited image cert costs side) s image.forks)
  points-same s side =
      ap (λ o. greater o (best (waited image view costs side) s image.forks)) (best-same (paused image view costs side) (paused image cert costs side) (λ p. paused-same side p) s image.pauses)
      ∙ ap (greater (best (paused image cert costs side) s image.pauses)) (best-same (waited image view costs side) (waited image cert costs side) (λ p. waited-by-same (instr_at image p.at) side p) s image.forks)

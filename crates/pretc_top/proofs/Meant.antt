-- What ticks that do what a program means tell.
use Rattle.std.proofs.Common.{◌≡◌, ℕ, ℤ, List, [], ◌∷◌, ◌++◌, map, refl, ap, ◌∙◌}
use Rattle.mb_pfu.specs.declared.TrapKind.{TrapKind}
use Rattle.pt_image.specs.declared.image.Parts.{Parts}
use Rattle.mb_isa.specs.Run.{Ticked, Ends, Trapped}
use Rattle.pc_meaning.specs.Tree.{Program}
use Rattle.pc_meaning.specs.Runs.{Moment, outputs_at}
use Rattle.pretc_run.specs.Told.{told, AllEnded}
use Rattle.pc_lower.specs.Meant.{EachMeans}

pub each_ended : (p : Program) (image : Parts) (ms : List Moment) (os : List Ticked) → EachMeans p image ms os → AllEnded os
each_ended p image [] [] h = tt
each_ended p image (m ∷ ms) [] h = tt
each_ended p image [] (o ∷ os) h = absurd h
each_ended p image (m ∷ ms) (Ends cycles outputs state ∷ os) h = (tt, each_ended p image ms os h.1)
each_ended p image (m ∷ ms) (Trapped kind at charged ∷ os) h = absurd h.0

pub each_outputs : (p : Program) (image : Parts) (ms : List Moment) (os : List Ticked) → EachMeans p image ms os →
    map (λ (tick : List ℤ × ℕ). tick.0) (told os) ≡ map (outputs_at p) ms
each_outputs p image [] [] h = refl
each_outputs p image (m ∷ ms) [] h = absurd h
each_outputs p image [] (o ∷ os) h = absurd h
each_outputs p image (m ∷ ms) (Ends cycles outputs state ∷ os) h =
    ap (λ o. o ∷ map (λ (tick : List ℤ × ℕ). tick.0) (told os)) h.0.0 ∙ ap (λ l. outputs_at p m ∷ l) (each_outputs p image ms os h.1)
each_outputs p image (m ∷ ms) (Trapped kind at charged ∷ os) h = absurd h.0

pub not_all_ended : (os : List Ticked) (kind : TrapKind) (at charged : ℕ) → AllEnded (os ++ Trapped kind at charged ∷ []) → ⊥
not_all_ended [] kind at charged h = h.0
not_all_ended (o ∷ os) kind at charged h = not_all_ended os kind at charged h.1

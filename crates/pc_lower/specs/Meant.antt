-- What an image does that does what a program means: docs/language.md, "What a compiled program does".
use Rattle.std.specs.Prelude.{◌≡◌, ℕ, ℤ, ◌<◌, ◌≤◌, List, [], ◌∷◌}
use Rattle.std.specs.List.{AllByRecursion}
use Rattle.mb_isa.specs.Costs.{IsCosts}
use Rattle.mb_pfu.specs.declared.Slot.TheVariants.{Free, Ended as SlotEnded}
use Rattle.mb_pfu.specs.Tree.{Tree, slot_of}
use Rattle.pt_image.specs.declared.Parts.{Parts}
use Rattle.mb_isa.specs.Run.{Ticked, Ends, Trapped, run_of}
use Rattle.pc_meaning.specs.Tree.{Program}
use Rattle.pc_meaning.specs.Runs.{Standing, Unstarted, At, Ended, Moment, before_ticks, moments_from, outputs_at}
use Rattle.pc_lower.specs.Lowered.{rest_of}
use Rattle.pc_lower.specs.Runs.{IsRow}
use Rattle.pc_lower.specs.Slotwise.{StandsSlotwise}

-- The slots stand where the program stands: slot 0 is paused at the place of its `EOT`, or waits at the place of its `PAR`, where
-- each child has ended or stands for its member; it has ended where `main` has; and all other slots are free.
abbrev pub StandsIn : Program → Parts → Standing → Tree → Type 0
StandsIn p image Unstarted t = ⊥
StandsIn p image (At r) t = StandsSlotwise image (rest_of p.routines r) t
StandsIn p image Ended t = (slot_of 0 t ≡ SlotEnded) × ((q : ℕ) → 0 < q → slot_of q t ≡ Free)

-- a tick of the machine does what the meaning does: it doesn't trap, its outputs are the meaning's, it is charged at most
-- 1,000,000,000,000, and the slots stand where the program stands
abbrev pub TickMeans : Program → Parts → Moment → Ticked → Type 0
TickMeans p image m (Ends cycles outputs state) =
    (outputs ≡ outputs_at p m) × (cycles ≤ 1000000000000) × StandsIn p image m.standing state.unit.tree
TickMeans p image m (Trapped kind at charged) = ⊥

-- tick by tick, as many of one as of the other
abbrev pub EachMeans : Program → Parts → List Moment → List Ticked → Type 0
EachMeans p image [] [] = Unit {0}
EachMeans p image (m ∷ moments) (outcome ∷ outcomes) = TickMeans p image m outcome × EachMeans p image moments outcomes
EachMeans p image [] (outcome ∷ outcomes) = ⊥
EachMeans p image (m ∷ moments) [] = ⊥

-- under every cost table, on every list of rows of words, with every limit of at least 1,000,000,000,000 cycles
abbrev pub DoesWhatIsMeant : Program → Parts → Type 0
DoesWhatIsMeant p image =
    (costs : List ℕ) → IsCosts costs → (most : ℕ) → 1000000000000 ≤ most → (rows : List (List ℤ)) → AllByRecursion IsRow rows →
    EachMeans p image (moments_from p (before_ticks p) rows) (run_of image costs most rows)

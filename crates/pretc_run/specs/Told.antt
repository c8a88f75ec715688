-- What a report tells of the ticks of a run.
use Rattle.std.specs.Prelude.{ℕ, ℤ, List, [], ◌∷◌}
use Rattle.mb_isa.specs.Run.{Ticked, Ends, Trapped}

-- the outputs and the cycles of each tick that ended
abbrev pub told : List Ticked → List (List ℤ × ℕ)
told [] = []
told (Ends cycles outputs state ∷ outcomes) = (outputs, cycles) ∷ told outcomes
told (Trapped kind at charged ∷ outcomes) = told outcomes

abbrev pub Ended : Ticked → Type 0
Ended (Ends cycles outputs state) = Unit {0}
Ended (Trapped kind at charged) = ⊥

-- no tick trapped
abbrev pub AllEnded : List Ticked → Type 0
AllEnded [] = Unit {0}
AllEnded (outcome ∷ outcomes) = Ended outcome × AllEnded outcomes

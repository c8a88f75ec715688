-- Which lists an image has, and where its pauses stand.
use Rattle.std.specs.Prelude.{◌≡◌, ℕ, ◌+◌, ◌==◌, if◌then◌else◌, length, List, [], ◌∷◌}
use Rattle.mb_isa.specs.declared.words.Instr.TheVariants.{Eot}
use Rattle.mb_isa.specs.Codes.{code_of}
use Rattle.pt_image.specs.declared.image.Parts.{Parts}
use Rattle.pt_image.specs.Ranges.{places_of}
use Rattle.pc_lower.specs.Flow.{Flow}
use Rattle.pc_lower.specs.Layable.{pauses_in, forks_of, numbers_in}

-- the places of the words that are `eot`, in the order of the code, counted from a place
abbrev pub eots_from : ℕ → List ℕ → List ℕ
eots_from place [] = []
eots_from place (word ∷ words) = if word == code_of Eot then place ∷ eots_from (place + 1) words else eots_from (place + 1) words

-- as many pauses, forks and abort lines as the flow has; a pause at every `eot` of the code and nowhere else
pub record ListsAll (f : Flow) (image : Parts) : Type 0 where
  pub pauses : length image.pauses ≡ length (numbers_in pauses_in f.bodies)
  pub forks : length image.forks ≡ length (numbers_in forks_of f.bodies)
  pub aborts : length image.aborts ≡ length f.aborts
  pub places : places_of image.pauses ≡ eots_from 0 image.code

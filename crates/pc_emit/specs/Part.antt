-- Words and tables that are put one behind another.
use Rattle.std.specs.Prelude.{ℕ, List, [], ◌∷◌, ◌++◌}
use Rattle.mb_isa.specs.declared.words.Instr.{Instr}
use Rattle.mb_isa.specs.declared.words.Instr.TheVariants.{Fork, Eot, Abrt}
use Rattle.pt_image.specs.declared.image.Point.{Point}

-- the words of a piece of a program, its pauses and forks, and the handlers of its aborts
pub record Part : Type 0 where
  pub words : List Instr
  pub pauses : List Point
  pub forks : List Point
  pub handlers : List ℕ

-- one part, and the next behind it
abbrev pub joined : Part → Part → Part
joined a b = record {
  words = a.words ++ b.words;
  pauses = a.pauses ++ b.pauses;
  forks = a.forks ++ b.forks;
  handlers = a.handlers ++ b.handlers;
}

-- words that add nothing to the tables
abbrev pub just : List Instr → Part
just words = record { words = words; pauses = []; forks = []; handlers = [] }

-- a pause, and its point in the list
abbrev pub pausing : Point → Part
pausing point = record { words = Eot ∷ []; pauses = point ∷ []; forks = []; handlers = [] }

-- a fork of so many slots from a number on, and its point in the list
abbrev pub forking : (lo count : ℕ) → Point → Part
forking lo count point = record { words = Fork lo count ∷ []; pauses = []; forks = point ∷ []; handlers = [] }

-- the beginning of an abort, and its handler in the list
abbrev pub entering : (number handler : ℕ) → Part
entering number handler = record { words = Abrt number ∷ []; pauses = []; forks = []; handlers = handler ∷ [] }

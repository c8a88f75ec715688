-- The numbers of the places of the definition that those in memory are: docs/bounds.md, "Programs".
use Rattle.std.specs.Prelude.{ℕ, ◌-◌, min, List, map, length, slice_index_or, Option, Some, None}
use Rattle.std.specs.List.{range_with_len}
use Rattle.mb_isa.specs.declared.Class.TheVariants as class
use Rattle.mb_isa.specs.Costs.{cost_of}
use Rattle.tk_paths.specs.declared.view.View.TheVariants.{On, Value}
use Rattle.tk_paths.specs.Sums.{plus, greater}
use Rattle.tk_paths.specs.Acceptance.{on_side}
use Rattle.tk_paths.specs.Numbers.{Numbers, level, after}
use Rattle.tk_paths.specs.declared.levels.Levels.{Levels}

-- the two numbers of a level; one behind the last is as the last
abbrev pub level_in : List (Option ℕ × Option ℕ) → ℕ → Option ℕ × Option ℕ
level_in levels k = slice_index_or levels (min k (length levels - 1)) (None, None)

-- the numbers that these in memory are
unfoldable pub numbers_of : Levels → Numbers
numbers_of l (On side k) = on_side side (Some (level_in l.levels k))
numbers_of l Value = l.value

-- the first levels of numbers
unfoldable pub levels_to : Numbers → ℕ → List (Option ℕ × Option ℕ)
levels_to V n = map (level V) (range_with_len 0 n)

-- so much more, or nothing where that isn't there
unfoldable pub added : Option ℕ → Numbers → Numbers
added o V view = plus o (V view)

-- the dearer of two ways
unfoldable pub dearer : Numbers → Numbers → Numbers
dearer V W view = greater (V view) (W view)

-- the two ways of a branch
unfoldable pub branching : List ℕ → Numbers → Numbers → Numbers
branching costs V W = dearer (after (cost_of costs class.Untaken) V) (after (cost_of costs class.Taken) W)

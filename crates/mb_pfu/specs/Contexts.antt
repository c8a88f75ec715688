-- A tree round a tree.
use Rattle.std.specs.Prelude.{◌≡◌, ℕ, ◌+◌, false, List, [], ◌∷◌}
use Rattle.mb_pfu.specs.declared.parts.Watch.{Watch}
use Rattle.mb_pfu.specs.Tree.{Tree, Group, Waits, member, size, append_group, settle, any_ready}

-- a slot that waits, with the members of its group before and after one
pub record Frame : Type 0 where
  pub watches : List Watch
  pub at : ℕ
  pub lo : ℕ
  pub before : Group
  pub behind : Group

-- the frames round a tree, the innermost first
abbrev pub Context : Type 0
Context = List Frame

abbrev pub filled : Frame → Tree → Tree
filled frame t = Waits frame.watches frame.at frame.lo (append_group frame.before (member t frame.behind))

abbrev pub plug : Context → Tree → Tree
plug [] t = t
plug (frame ∷ frames) t = plug frames (filled frame t)

-- the number of the slot in the middle
abbrev pub middle : Context → ℕ
middle [] = 0
middle (frame ∷ frames) = frame.lo + size frame.before

-- what is round a tree settles, the innermost first
abbrev pub climb : Context → Tree → Tree
climb [] t = t
climb (frame ∷ frames) t = climb frames (settle (filled frame t))

-- nothing is ready before the middle
abbrev pub IsQuietBefore : Context → Type 0
IsQuietBefore [] = Unit {0}
IsQuietBefore (frame ∷ frames) = (any_ready frame.before ≡ false) × IsQuietBefore frames

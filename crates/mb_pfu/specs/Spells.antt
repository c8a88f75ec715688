-- Rows and the tree that they spell.
use Rattle.std.proofs.Common.{◌≡◌, ℕ, ◌+◌, List, [], refl, ap, ◌∙◌, add-one}
use Rattle.mb_pfu.specs.Rows.{SlotRow}
use Rattle.mb_pfu.specs.Tree.{Tree, Group, Leaf, Waits, no_more, member, Running, Pausing, Finished, size, spelled, spelled_group, append_group, take_group, drop_group, trees_of, tree_of}

take_group-size : (ts us : Group) → take_group (size ts) (append_group ts us) ≡ ts
take_group-size no_more us = refl
take_group-size (member t ts) us = rw (add-one (size ts)) (ap (member t) (take_group-size ts us))

drop_group-size : (ts us : Group) → drop_group (size ts) (append_group ts us) ≡ us
drop_group-size no_more us = refl
drop_group-size (member t ts) us = rw (add-one (size ts)) (drop_group-size ts us)

-- the rows of a tree spell it, whatever follows
mutual
  pub trees_of-spelled : (level s : ℕ) (t : Tree) (rows : List SlotRow) → trees_of (spelled level s t rows) ≡ member t (trees_of rows)
  trees_of-spelled level s (Leaf watches (Running place)) rows = refl
  trees_of-spelled level s (Leaf watches (Pausing place)) rows = refl
  trees_of-spelled level s (Leaf watches Finished) rows = refl
  trees_of-spelled level s (Waits watches at lo group) rows =
      rw (trees_of-spelled_group (level + 1) lo group rows, take_group-size group (trees_of rows), drop_group-size group (trees_of rows)) refl

  pub trees_of-spelled_group : (level s : ℕ) (ts : Group) (rows : List SlotRow) → trees_of (spelled_group level s ts rows) ≡ append_group ts (trees_of rows)
  trees_of-spelled_group level s no_more rows = refl
  trees_of-spelled_group level s (member t ts) rows =
      trees_of-spelled level s t (spelled_group level (s + 1) ts rows) ∙ ap (member t) (trees_of-spelled_group level (s + 1) ts rows)

pub tree_of-spelled : (t : Tree) → tree_of (spelled 0 0 t []) ≡ t
tree_of-spelled t = rw (trees_of-spelled 0 0 t []) refl

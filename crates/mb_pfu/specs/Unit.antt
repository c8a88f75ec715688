-- What contracts see of a unit: "The unit" in docs/machine.md.
use Rattle.std.specs.Prelude.{◌≡◌, ◌≤◌, ◌+◌, ◌==◌, nat_lt, nat_le, length, ℕ, Bool, false, not, ◌||◌, List, slice_index_or}
use Rattle.mb_pfu.specs.declared.parts.Entry.{Entry}
use Rattle.mb_pfu.specs.declared.parts.Watch.{Watch}
use Rattle.mb_pfu.specs.Rows.{no_watch}
use Rattle.mb_pfu.specs.Tree.{Tree, tally}

-- the number of slots, the tree of those that aren't free, the links of calls and the loop counters
pub record State : Type 0 where
  pub slots : ℕ
  pub tree : Tree
  pub links : List ℕ
  pub counters : List ℕ

-- all slots of the tree are below a number
abbrev pub IsBelow : ℕ → Tree → Type 0
IsBelow slots t = (q : ℕ) → slots ≤ q → tally q 0 t ≡ 0

-- there are at most 64 slots, and those of the tree are among them
pub record IsUnit (u : State) : Type 0 where
  pub few : u.slots ≤ 64
  pub below : IsBelow u.slots u.tree

-- a link or a counter is there: the slot that runs is inside a call or a loop
abbrev pub is_nested : State → Bool
is_nested s = not (length s.links == 0) || not (length s.counters == 0)

-- a fork can't be of these children
abbrev pub is_misplaced : State → ℕ → ℕ → List ℕ → Bool
is_misplaced old s lo starts = is_nested old || length starts == 0 || nat_le lo s || nat_lt old.slots (lo + length starts)

-- an entry of those that a slot is inside
abbrev pub entry_of : List Watch → ℕ → Entry
entry_of watches i = (slice_index_or watches i no_watch).entry

-- an entry that a slot enters: not aged, not fired and not due
abbrev pub fresh : ℕ → Bool → ℕ → ℕ → Watch
fresh number weak cond handler = record { entry = record { number = number; weak = weak; cond = cond; handler = handler; aged = false; fired = false }; due = false }

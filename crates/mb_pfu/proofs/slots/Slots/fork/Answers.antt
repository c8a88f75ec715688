use Rattle.std.proofs.Common.{◌≡◌, ◌+◌, ◌≤◌, false, arith, ◌∙◌, sym, ap, length, IsTrue, subst, ℕ, List, []}
use Rattle.mb_pfu.specs.Rows.{fork_row, stay, numbered, busy_in, is_ready, SlotRow, IsAt, IsDoneAt}
use Rattle.mb_pfu.specs.Tree.{Tree, fork_at, tree_of, is_busy, IsRight, spelled, forked, slot_of}
use Rattle.mb_pfu.proofs.Moves.{acts-fork, acts-stay}
use Rattle.mb_pfu.proofs.Ways.{climbed-here}
use Rattle.mb_pfu.proofs.Sound.{room, sound-fork}
use Rattle.mb_pfu.proofs.Trees.{moved, ready-some, spells, right-rows, sound-of, busy-tree, level-at}
use Rattle.mb_pfu.proofs.slots.Slots.fork.Goals as goal

not-busy : (lo : ℕ) (starts : List ℕ) (rows same : List SlotRow) (t : Tree) → IsRight rows → tree_of rows ≡ t → same ≡ rows → false ≡ busy_in lo starts same → is_busy lo starts t ≡ false
not-busy lo starts rows same t right view e free =
    let all : false ≡ is_busy lo starts (tree_of rows) = free ∙ ap (busy_in lo starts) e ∙ busy-tree lo starts rows right.spelled in
    sym (all ∙ ap (is_busy lo starts) view)

room-of : (lo : ℕ) (starts : List ℕ) (rows : List SlotRow) (t : Tree) → IsRight rows → tree_of rows ≡ t → is_busy lo starts t ≡ false → lo + length starts ≤ 64 → length rows + length starts ≤ 64
room-of lo starts rows t right view free few = room lo starts t rows (sym right.spelled ∙ ap (λ u. spelled 0 0 u []) view) (sound-of rows t right view) free few

at-of : (s i : ℕ) (rows same : List SlotRow) → same ≡ rows → IsAt (numbered s) i same → IsAt (numbered s) i rows
at-of s i rows same e h = let P : List SlotRow → Type 0 = λ rs. IsAt (numbered s) i rs in subst P e h

forks : (s i at lo : ℕ) (starts : List ℕ) (rows new : List SlotRow) (t : Tree) → IsRight rows → tree_of rows ≡ t → IsTrue (is_ready (slot_of s t)) → IsAt (numbered s) i rows →
    IsDoneAt (fork_row at lo starts) i rows new → new ≡ spelled 0 0 (forked s at lo starts t) []
forks s i at lo starts rows new t right view ready here done =
    moved (numbered s) (fork_row at lo starts) stay (fork_at at lo starts) (λ u. u) (acts-fork at lo starts) acts-stay rows new t right.spelled view (ready-some s t ready) (climbed-here (numbered s) (fork_row at lo starts) i rows new here done)

pub fork_at-requires-clause-level : goal.fork_at-requires-clause-level
fork_at-requires-clause-level c =
    let free : is_busy c.args.lo c.args.starts.now c.args.self.now ≡ false = not-busy _ _ c.self.inside.rows.items _ _ c.self.invariant c.self.view_is c.deref.ensures.0 (sym c.if-any_busy.false ∙ c.any_busy.ensures) in
    let room : length c.self.inside.rows.items + length c.args.starts.now ≤ 64 = room-of c.args.lo _ _ _ c.self.invariant c.self.view_is free c.requires.few in
    level-at c.in-Some.i _ c.self.invariant.spelled (at-of c.args.s c.in-Some.i _ _ c.deref-2.ensures.0 c.in-Some.ensures.found).within (omega arith)

pub fork_at-requires-clause-room : goal.fork_at-requires-clause-room
fork_at-requires-clause-room c =
    room-of c.args.lo _ _ _ c.self.invariant c.self.view_is (not-busy _ _ c.self.inside.rows.items _ _ c.self.invariant c.self.view_is c.deref.ensures.0 (sym c.if-any_busy.false ∙ c.any_busy.ensures)) c.requires.few

pub invariant_of-self : goal.invariant_of-self
invariant_of-self c =
    right-rows (forked c.args.s c.args.at c.args.lo c.args.starts.now c.args.self.now) _
    (forks c.args.s c.in-Some.i c.args.at c.args.lo c.args.starts.now _ _ _ c.self.invariant c.self.view_is c.requires.ready (at-of c.args.s c.in-Some.i _ _ c.deref-2.ensures.0 c.in-Some.ensures.found) c.fork_at.ensures)
    (sound-fork c.args.s c.args.at c.args.lo c.args.starts.now _ (sound-of _ _ c.self.invariant c.self.view_is) (not-busy _ _ c.self.inside.rows.items _ _ c.self.invariant c.self.view_is c.deref.ensures.0 (sym c.if-any_busy.false ∙ c.any_busy.ensures)) c.requires.few)

pub returns-clause-tree : goal.returns-clause-tree
returns-clause-tree c =
    spells _ _ (forks c.args.s c.in-Some.i c.args.at c.args.lo c.args.starts.now _ _ _ c.self.invariant c.self.view_is c.requires.ready (at-of c.args.s c.in-Some.i _ _ c.deref-2.ensures.0 c.in-Some.ensures.found) c.fork_at.ensures)

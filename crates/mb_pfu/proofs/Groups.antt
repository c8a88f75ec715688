-- What the rows of a group say of its trees.
use Rattle.std.proofs.Common.{◌≡◌, ℕ, ◌+◌, ◌<◌, ◌≤◌, Bool, true, false, ◌||◌, ◌&&◌, List, [], ◌∷◌, refl, sym, ap, ◌∙◌, arith, lt-ltb, le-ltb}
use Rattle.mb_pfu.specs.Rows.{SlotRow, stops, after, runs_in, ended_in}
use Rattle.mb_pfu.specs.Tree.{Tree, Group, Leaf, Waits, no_more, member, Running, Pausing, Finished, spelled, spelled_group, has_ready, any_ready, has_ended, all_ended}

or-assoc : (a b c : Bool) → ((a || b) || c) ≡ (a || (b || c))
or-assoc true b c = refl
or-assoc false b c = refl

and-assoc : (a b c : Bool) → ((a && b) && c) ≡ (a && (b && c))
and-assoc true b c = refl
and-assoc false b c = refl

-- rows that are not below a level have no group there
pub stops-after : (level : ℕ) (rows : List SlotRow) → stops level rows ≡ true → after level rows ≡ rows
stops-after level [] h = refl
stops-after level (r ∷ rows) h = grind arith

pub stops-runs : (level : ℕ) (rows : List SlotRow) → stops level rows ≡ true → runs_in level rows ≡ false
stops-runs level [] h = refl
stops-runs level (r ∷ rows) h = grind arith

pub stops-ended : (level : ℕ) (rows : List SlotRow) → stops level rows ≡ true → ended_in level rows ≡ true
stops-ended level [] h = refl
stops-ended level (r ∷ rows) h = grind arith

pub stops-deeper : (level more : ℕ) (rows : List SlotRow) → level ≤ more → stops level rows ≡ true → stops more rows ≡ true
stops-deeper level more [] h e = refl
stops-deeper level more (r ∷ rows) h e = grind arith

pub stops-spelled : (level s : ℕ) (t : Tree) (rows : List SlotRow) → stops level (spelled level s t rows) ≡ true
stops-spelled level s (Leaf watches activity) rows = rw (le-ltb level level (omega arith)) refl
stops-spelled level s (Waits watches at lo group) rows = rw (le-ltb level level (omega arith)) refl

pub stops-group : (level s : ℕ) (ts : Group) (rows : List SlotRow) → stops level rows ≡ true → stops level (spelled_group level s ts rows) ≡ true
stops-group level s no_more rows h = h
stops-group level s (member t ts) rows h = stops-spelled level s t (spelled_group level (s + 1) ts rows)

mutual
  pub after-spelled : (least level s : ℕ) (t : Tree) (rows : List SlotRow) → least < level → after least (spelled level s t rows) ≡ after least rows
  after-spelled least level s (Leaf watches activity) rows h = rw (lt-ltb least level h) refl
  after-spelled least level s (Waits watches at lo group) rows h = rw (lt-ltb least level h) (after-group least (level + 1) lo group rows (omega arith))

  pub after-group : (least level s : ℕ) (ts : Group) (rows : List SlotRow) → least < level → after least (spelled_group level s ts rows) ≡ after least rows
  after-group least level s no_more rows h = refl
  after-group least level s (member t ts) rows h = after-spelled least level s t (spelled_group level (s + 1) ts rows) h ∙ after-group least level (s + 1) ts rows h

mutual
  pub runs-spelled : (least level s : ℕ) (t : Tree) (rows : List SlotRow) → least < level → runs_in least (spelled level s t rows) ≡ (has_ready t || runs_in least rows)
  runs-spelled least level s (Leaf watches (Running place)) rows h = rw (lt-ltb least level h) refl
  runs-spelled least level s (Leaf watches (Pausing place)) rows h = rw (lt-ltb least level h) refl
  runs-spelled least level s (Leaf watches Finished) rows h = rw (lt-ltb least level h) refl
  runs-spelled least level s (Waits watches at lo group) rows h = rw (lt-ltb least level h) (runs-group least (level + 1) lo group rows (omega arith))

  pub runs-group : (least level s : ℕ) (ts : Group) (rows : List SlotRow) → least < level → runs_in least (spelled_group level s ts rows) ≡ (any_ready ts || runs_in least rows)
  runs-group least level s no_more rows h = refl
  runs-group least level s (member t ts) rows h =
      runs-spelled least level s t (spelled_group level (s + 1) ts rows) h
      ∙ ap (λ b. has_ready t || b) (runs-group least level (s + 1) ts rows h)
      ∙ sym (or-assoc (has_ready t) (any_ready ts) (runs_in least rows))

ended-spelled : (least level s : ℕ) (t : Tree) (rows : List SlotRow) → least < level → ended_in least (spelled level s t rows) ≡ (has_ended t && ended_in least rows)
ended-spelled least level s (Leaf watches (Running place)) rows h = rw (lt-ltb least level h) refl
ended-spelled least level s (Leaf watches (Pausing place)) rows h = rw (lt-ltb least level h) refl
ended-spelled least level s (Leaf watches Finished) rows h = rw (lt-ltb least level h) refl
ended-spelled least level s (Waits watches at lo group) rows h = rw (lt-ltb least level h) refl

pub ended-group : (least level s : ℕ) (ts : Group) (rows : List SlotRow) → least < level → ended_in least (spelled_group level s ts rows) ≡ (all_ended ts && ended_in least rows)
ended-group least level s no_more rows h = refl
ended-group least level s (member t ts) rows h =
    ended-spelled least level s t (spelled_group level (s + 1) ts rows) h
    ∙ ap (λ b. has_ended t && b) (ended-group least level (s + 1) ts rows h)
    ∙ sym (and-assoc (has_ended t) (all_ended ts) (ended_in least rows))

-- What rows say of the tree that they spell.
use Rattle.std.proofs.Common.{◌≡◌, length, drop, drop-cons, add-one, ℕ, zero, suc, ◌+◌, ◌<◌, ◌≤◌, Bool, true, false, ◌||◌, if◌then◌else◌, List, [], ◌∷◌, Option, Some, None, refl, sym, ap, ◌∙◌, arith, is_some, subst}
use Rattle.mb_pfu.specs.declared.parts.Slot.TheVariants.{Waiting}
use Rattle.mb_pfu.specs.Rows.{SlotRow, row_at, or_else, report_in, report_at, Report, climbed, is_ready, Selector, numbered, ready, busy_in, due, any_due, reported_test, stay, IsAt, IsDoneAt}
use Rattle.mb_pfu.specs.Tree.{Tree, Group, Leaf, Waits, no_more, member, size, slot_of_activity, spelled, spelled_group, tree_of, report, report_among, is_in, is_among, at_slot, slot_of, watches_of, next_job, reported_state, reported_watches, reported_number, IsSpelled, is_busy, IsSound, IsRight, next_test}
use Rattle.mb_pfu.specs.Spells.{tree_of-spelled}
use Rattle.mb_pfu.proofs.Climbs.{Acts, climbed-in}
use Rattle.mb_pfu.proofs.Moves.{acts-stay}
use Rattle.mb_pfu.proofs.Ways.{climbed-here}
use Rattle.mb_pfu.proofs.Cases.{or_else-assoc, or_else-none}
use Rattle.mb_pfu.proofs.Frees.{taken-there}

report-if : (b : Bool) (x : Report) (r s : Option Report) → (if b then Some x else or_else r s) ≡ or_else (if b then Some x else r) s
report-if true x r s = refl
report-if false x r s = refl

mutual
  pub report-spelled : (p : Selector) (level k : ℕ) (t : Tree) (rows : List SlotRow) → report_in p (spelled level k t rows) ≡ or_else (report p k t) (report_in p rows)
  report-spelled p level k (Leaf watches activity) rows = report-if (p k (slot_of_activity activity) watches) _ None (report_in p rows)
  report-spelled p level k (Waits watches at lo group) rows =
      rw (report-spelled_group p (level + 1) lo group rows) (report-if (p k (Waiting at lo (size group)) watches) _ (report_among p lo group) (report_in p rows))

  pub report-spelled_group : (p : Selector) (level k : ℕ) (ts : Group) (rows : List SlotRow) → report_in p (spelled_group level k ts rows) ≡ or_else (report_among p k ts) (report_in p rows)
  report-spelled_group p level k no_more rows = refl
  report-spelled_group p level k (member t ts) rows =
      report-spelled p level k t (spelled_group level (k + 1) ts rows)
      ∙ ap (or_else (report p k t)) (report-spelled_group p level (k + 1) ts rows)
      ∙ sym (or_else-assoc (report p k t) (report_among p (k + 1) ts) (report_in p rows))

is_some-if : (b : Bool) (x : Report) (r : Option Report) → (b || is_some r) ≡ is_some (if b then Some x else r)
is_some-if true x r = refl
is_some-if false x r = refl

is_some-or : {X : Type 0} (a b : Option X) → (is_some a || is_some b) ≡ is_some (or_else a b)
is_some-or None b = refl
is_some-or (Some a) b = refl

is_in-leaf : (b : Bool) (x : Report) → b ≡ is_some (if b then Some x else None)
is_in-leaf true x = refl
is_in-leaf false x = refl

-- a slot is in the tree where it is reported
mutual
  pub is_in-report : (p : Selector) (k : ℕ) (t : Tree) → is_in p k t ≡ is_some (report p k t)
  is_in-report p k (Leaf watches activity) = is_in-leaf (p k (slot_of_activity activity) watches) _
  is_in-report p k (Waits watches at lo group) =
      ap (λ b. p k (Waiting at lo (size group)) watches || b) (is_among-report p lo group) ∙ is_some-if (p k (Waiting at lo (size group)) watches) _ (report_among p lo group)

  pub is_among-report : (p : Selector) (k : ℕ) (ts : Group) → is_among p k ts ≡ is_some (report_among p k ts)
  is_among-report p k no_more = refl
  is_among-report p k (member t ts) =
      ap (λ b. b || is_among p (k + 1) ts) (is_in-report p k t) ∙ ap (λ b. is_some (report p k t) || b) (is_among-report p (k + 1) ts)
      ∙ is_some-or (report p k t) (report_among p (k + 1) ts)

pub report-tree : (p : Selector) (rows : List SlotRow) → IsSpelled rows → report_in p rows ≡ report p 0 (tree_of rows)
report-tree p rows e = ap (report_in p) (sym e) ∙ report-spelled p 0 0 (tree_of rows) [] ∙ or_else-none (report p 0 (tree_of rows))

-- rows that spell a tree are its rows
pub spells : (t : Tree) (rows : List SlotRow) → rows ≡ spelled 0 0 t [] → tree_of rows ≡ t
spells t rows e = ap tree_of e ∙ tree_of-spelled t

pub spells-whole : (t : Tree) (rows : List SlotRow) → rows ≡ spelled 0 0 t [] → IsSpelled rows
spells-whole t rows e = ap (λ u. spelled 0 0 u []) (spells t rows e) ∙ sym e

-- a change of rows at a slot, and on the way up from it, is the tree's
pub moved : (p : Selector) (F G : SlotRow → List SlotRow → List SlotRow) (f g : Tree → Tree) → Acts F f → Acts G g → (rows new : List SlotRow) (t : Tree) → IsSpelled rows → tree_of rows ≡ t →
    is_some (report p 0 t) ≡ true → new ≡ (climbed p F G rows).0 → new ≡ spelled 0 0 (at_slot p f g 0 t) []
moved p F G f g acts acts' rows new t e same has h =
    let has' : is_in p 0 (tree_of rows) ≡ true = ap (is_in p 0) same ∙ is_in-report p 0 t ∙ has in
    h ∙ ap (λ (rs : List SlotRow). (climbed p F G rs).0) (sym e) ∙ ap (λ (c : List SlotRow × ℕ). c.0) (climbed-in p F G f g acts acts' 0 0 (tree_of rows) [] has' refl)
    ∙ ap (λ u. spelled 0 0 (at_slot p f g 0 u) []) same

-- what the rows of a slot tell
pub slot-tree : (s : ℕ) (rows : List SlotRow) → IsSpelled rows → reported_state (report_in (numbered s) rows) ≡ slot_of s (tree_of rows)
slot-tree s rows e = ap reported_state (report-tree (numbered s) rows e)

pub watches-tree : (s : ℕ) (rows : List SlotRow) → IsSpelled rows → reported_watches (report_in (numbered s) rows) ≡ watches_of s (tree_of rows)
watches-tree s rows e = ap reported_watches (report-tree (numbered s) rows e)

pub next-tree : (rows : List SlotRow) → IsSpelled rows → reported_number (report_in ready rows) ≡ next_job (tree_of rows)
next-tree rows e = ap reported_number (report-tree ready rows e)

pub absent : (s : ℕ) (rows : List SlotRow) → IsSpelled rows → is_ready (slot_of s (tree_of rows)) ≡ true → report_in (numbered s) rows ≡ None → ⊥
absent s rows e ready none =
    let free : is_ready (reported_state (report_in (numbered s) rows)) ≡ true = ap is_ready (slot-tree s rows e) ∙ ready in
    let no : false ≡ true = rw none at free in
    cc

pub ready-row : (s i : ℕ) (rows : List SlotRow) → IsSpelled rows → is_ready (slot_of s (tree_of rows)) ≡ true → report_in (numbered s) rows ≡ report_at rows (Some i) → is_ready (row_at rows i).state ≡ true
ready-row s i rows e ready at = ap (λ x. is_ready (reported_state x)) (sym at ∙ report-tree (numbered s) rows e) ∙ ready

pub watches-row : (s i : ℕ) (rows : List SlotRow) → IsSpelled rows → report_in (numbered s) rows ≡ report_at rows (Some i) → (row_at rows i).watches ≡ watches_of s (tree_of rows)
watches-row s i rows e at = ap reported_watches (sym at ∙ report-tree (numbered s) rows e)

pub some-ready : (x : Option Report) → is_ready (reported_state x) ≡ true → is_some x ≡ true
some-ready None h = cc
some-ready (Some x) h = refl

-- a ready slot is in the tree
pub ready-some : (s : ℕ) (t : Tree) → is_ready (slot_of s t) ≡ true → is_some (report (numbered s) 0 t) ≡ true
ready-some s t h = some-ready (report (numbered s) 0 t) h

-- a level is at most the place
abbrev pub Gentle : ℕ → List SlotRow → Type 0
Gentle level [] = Unit {0}
Gentle level (r ∷ rows) = (r.level ≤ level) × Gentle (r.level + 1) rows

gentle-more : (m n : ℕ) (rows : List SlotRow) → m ≤ n → Gentle m rows → Gentle n rows
gentle-more m n [] h g = tt
gentle-more m n (r ∷ rows) h g = (omega (arith, g.0), g.1)

mutual
  gentle-spelled : (level k : ℕ) (t : Tree) (rows : List SlotRow) → Gentle (level + 1) rows → Gentle level (spelled level k t rows)
  gentle-spelled level k (Leaf watches activity) rows g = (omega arith, g)
  gentle-spelled level k (Waits watches at lo group) rows g = (omega arith, gentle-group (level + 1) lo group rows g)

  gentle-group : (level k : ℕ) (ts : Group) (rows : List SlotRow) → Gentle level rows → Gentle level (spelled_group level k ts rows)
  gentle-group level k no_more rows g = g
  gentle-group level k (member t ts) rows g =
      gentle-spelled level k t (spelled_group level (k + 1) ts rows) (gentle-more level (level + 1) (spelled_group level (k + 1) ts rows) (omega arith) (gentle-group level (k + 1) ts rows g))

gentle-at : (level i : ℕ) (rows : List SlotRow) → i < length rows → Gentle level rows → (row_at rows i).level ≤ level + i
gentle-at level i [] h g = absurd (omega arith)
gentle-at level zero (r ∷ rows) h g = omega (arith, g.0)
gentle-at level (suc i) (r ∷ rows) h g = omega (arith, gentle-at (r.level + 1) i rows (omega arith) g.1, g.0)

pub level-at : (i : ℕ) (rows : List SlotRow) → IsSpelled rows → i < length rows → length rows ≤ 64 → (row_at rows i).level < 64
level-at i rows e h few =
    let P : List SlotRow → Type 0 = λ rs. Gentle 0 rs in
    omega (arith, gentle-at 0 i rows h (subst P e (gentle-spelled 0 0 (tree_of rows) [] tt)))

pub busy-tree : (lo : ℕ) (starts : List ℕ) (rows : List SlotRow) → IsSpelled rows → busy_in lo starts rows ≡ is_busy lo starts (tree_of rows)
busy-tree lo [] rows e = refl
busy-tree lo (start ∷ starts) rows e =
    ap (λ x. is_some x || busy_in (lo + 1) starts rows) (report-tree (numbered lo) rows e) ∙ ap (λ b. is_some (report (numbered lo) 0 (tree_of rows)) || b) (busy-tree (lo + 1) starts rows e)
    ∙ ap (λ b. b || is_busy (lo + 1) starts (tree_of rows)) (taken-there lo (tree_of rows))

some-report : (rows : List SlotRow) (o : Option ℕ) → is_some (report_at rows o) ≡ is_some o
some-report rows None = refl
some-report rows (Some i) = refl

busy-drop : (lo i : ℕ) (starts : List ℕ) (rows : List SlotRow) → i < length starts →
    busy_in (lo + i) (drop i starts) rows ≡ (is_some (report_in (numbered (lo + i)) rows) || busy_in (lo + (i + 1)) (drop (i + 1) starts) rows)
busy-drop lo i starts rows h =
    let e : lo + i + 1 ≡ lo + (i + 1) = omega arith in
    ap (λ l. busy_in (lo + i) l rows) (drop-cons starts i 0 h) ∙ ap (λ n. is_some (report_in (numbered (lo + i)) rows) || busy_in (lo + i + 1) (drop n starts) rows) (sym (add-one i))
    ∙ ap (λ n. is_some (report_in (numbered (lo + i)) rows) || busy_in n (drop (i + 1) starts) rows) e

pub busy-here : (lo i : ℕ) (starts : List ℕ) (rows : List SlotRow) (o : Option ℕ) → i < length starts → report_in (numbered (lo + i)) rows ≡ report_at rows o → is_some o ≡ true →
    busy_in (lo + i) (drop i starts) rows ≡ true
busy-here lo i starts rows o h e some =
    let is : is_some (report_in (numbered (lo + i)) rows) ≡ true = ap is_some e ∙ some-report rows o ∙ some in
    busy-drop lo i starts rows h ∙ rw is refl

pub busy-past : (lo i : ℕ) (starts : List ℕ) (rows : List SlotRow) (o : Option ℕ) → i < length starts → report_in (numbered (lo + i)) rows ≡ report_at rows o → is_some o ≡ false →
    busy_in (lo + i) (drop i starts) rows ≡ busy_in (lo + (i + 1)) (drop (i + 1) starts) rows
busy-past lo i starts rows o h e none =
    let is : is_some (report_in (numbered (lo + i)) rows) ≡ false = ap is_some e ∙ some-report rows o ∙ none in
    busy-drop lo i starts rows h ∙ rw is refl

-- the rows of a tree in which no number stands twice
pub right-rows : (t : Tree) (rows : List SlotRow) → rows ≡ spelled 0 0 t [] → IsSound t → IsRight rows
right-rows t rows e sound = record {
  spelled = spells-whole t rows e;
  sound = let P : Tree → Type 0 = λ u. IsSound u in subst P (sym (spells t rows e)) sound;
}

pub sound-of : (rows : List SlotRow) (t : Tree) → IsRight rows → tree_of rows ≡ t → IsSound t
sound-of rows t right e = let P : Tree → Type 0 = λ u. IsSound u in subst P e right.sound

-- a change at one slot alone
pub changed : (p : Selector) (F : SlotRow → List SlotRow → List SlotRow) (f : Tree → Tree) → Acts F f → (i : ℕ) (rows same new : List SlotRow) (t : Tree) → IsRight rows → tree_of rows ≡ t →
    is_some (report p 0 t) ≡ true → same ≡ rows → IsAt p i same → IsDoneAt F i rows new → new ≡ spelled 0 0 (at_slot p f (λ u. u) 0 t) []
changed p F f acts i rows same new t right view has e here done =
    let P : List SlotRow → Type 0 = λ rs. IsAt p i rs in
    moved p F stay f (λ u. u) acts acts-stay rows new t right.spelled view has (climbed-here p F i rows new (subst P e here) done)

-- a change of all slots
pub changed_all : (F : List SlotRow → List SlotRow) (f : Tree → Tree) → ((u : Tree) → F (spelled 0 0 u []) ≡ spelled 0 0 (f u) []) → (rows new : List SlotRow) (t : Tree) → IsRight rows → tree_of rows ≡ t →
    new ≡ F rows → new ≡ spelled 0 0 (f t) []
changed_all F f acts rows new t right view e = e ∙ ap F (sym right.spelled) ∙ acts (tree_of rows) ∙ ap (λ u. spelled 0 0 (f u) []) view

pub next_test-tree : (rows : List SlotRow) → IsSpelled rows → reported_test (report_in due rows) ≡ next_test (tree_of rows)
next_test-tree rows e = ap reported_test (report-tree due rows e)

-- where a test is due, a row has it
pub due-row : (i : ℕ) (rows same : List SlotRow) → same ≡ rows → IsAt due i same → any_due (row_at rows i).watches ≡ true
due-row i rows same e here = let P : List SlotRow → Type 0 = λ rs. any_due (row_at rs i).watches ≡ true in subst P e here.here

some-test : (x : Option Report) → is_some (reported_test x) ≡ true → is_some x ≡ true
some-test None h = h
some-test (Some x) h = refl

pub test-some : (t : Tree) → is_some (next_test t) ≡ true → is_some (report due 0 t) ≡ true
test-some t h = some-test (report due 0 t) h

pub no-test : (rows same : List SlotRow) (t : Tree) → IsRight rows → tree_of rows ≡ t → is_some (next_test t) ≡ true → same ≡ rows → report_in due same ≡ None → ⊥
no-test rows same t right view h e none =
    let x : report due 0 t ≡ None = sym (ap (report_in due) e ∙ report-tree due rows right.spelled ∙ ap (report due 0) view) ∙ none in
    let no : false ≡ true = rw x at h in
    cc

pub ruleset tree_rules = (next_test-tree, next-tree, slot-tree, watches-tree, absent, ready-row, watches-row, busy-tree)

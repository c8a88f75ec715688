-- Lists of statements, and turns, step by step; what is left, read along its statement.
use Rattle.std.proofs.Common.{◌≡◌, ℕ, zero, suc, ◌+◌, ◌-◌, ◌<◌, ◌≤◌, true, List, [], ◌∷◌, ◌++◌, append_assoc, map, length, drop, get_or, add-one, drop-cons, Option, Some, None, refl, sym, ap, ◌∙◌, subst, arith}
use Rattle.std.specs.Prelude.{if◌then◌else◌, slice_get, replicate, ℤ}
use Rattle.std.specs.Option.{option_map}
use Rattle.pc_grammar.specs.declared.statements.Stmt.{Stmt}
use Rattle.pc_grammar.specs.declared.typed.Function.{Function}
use Rattle.pc_meaning.specs.Tree.{Expression, Statement, Statements, skip, block, none, each, Routine}
use Rattle.pc_meaning.specs.Values.{Store, holds, set_all}
use Rattle.pc_meaning.specs.Outcomes.{Residual, here, before_rest, Outcome, Done, Paused, store_of, followed}
use Rattle.pc_meaning.specs.Statements.{turning, start_all}
use Rattle.pc_meaning.specs.declared.places.Room.{Room}
use Rattle.pc_meaning.specs.declared.lefts.Left.{Left, fold-roll-Left}
use Rattle.pc_meaning.specs.declared.lefts.Left.TheVariants.{Here, Inside, Beside, rolls-Here, rolls-Inside, rolls-Beside}
use Rattle.pc_meaning.specs.declared.lefts.Left.TheOpen.{Left-F, Here as OpenHere, Inside as OpenInside, Beside as OpenBeside}
use Rattle.pc_meaning.specs.declared.lefts.Left.TheFolds.{ind-Left, map-Left}
use Rattle.pc_meaning.specs.declared.lefts.Left.TheViews.{roll-Left}
use Rattle.pc_meaning.specs.declared.lefts.Left.TheShapes.{former-Left-Beside-0-at-1}
use Rattle.pc_meaning.specs.Lefts.{in_list, here_of, inside_of, beside_of, left_step, left_of, outcome_of, tree, trees, routines_of, known_of, starts, ends, resumes}

pub ends-store : (routines : List Routine) (s : Statement) (o : Option Left) (store : Store) → store_of (outcome_of routines s o store) ≡ store
ends-store routines s None store = refl
ends-store routines s (Some left) store = refl

-- ---- the equations of `left_of`

pub left-Here : (routines : List Routine) (s : Statement) → left_of routines Here s ≡ here_of s
left-Here routines s = ap (λ t. left_of routines t s) (sym rolls-Here) ∙ ap (λ f. f s) (fold-roll-Left (Statement → Residual) (left_step routines) OpenHere)

pub left-Inside : (routines : List Routine) (k : ℕ) (l : Left) (s : Statement) → left_of routines (Inside k l) s ≡ inside_of k (left_of routines l) s
left-Inside routines k l s = ap (λ t. left_of routines t s) (sym (rolls-Inside k l)) ∙ ap (λ f. f s) (fold-roll-Left (Statement → Residual) (left_step routines) (OpenInside k l))

-- the same list, as the fold reaches into it
beside-former : (routines : List Routine) (ls : List (Option Left)) → map ((former-Left-Beside-0-at-1).map Left (Statement → Residual) (left_of routines)) ls ≡ map (option_map (left_of routines)) ls
beside-former routines [] = refl
beside-former routines (None ∷ ls) = ap (λ rs. None ∷ rs) (beside-former routines ls)
beside-former routines (Some l ∷ ls) = ap (λ rs. Some (left_of routines l) ∷ rs) (beside-former routines ls)

pub left-Beside : (routines : List Routine) (ls : List (Option Left)) (s : Statement) → left_of routines (Beside ls) s ≡ beside_of routines (map (option_map (left_of routines)) ls) s
left-Beside routines ls s = ap (λ t. left_of routines t s) (sym (rolls-Beside ls)) ∙ ap (λ f. f s) (fold-roll-Left (Statement → Residual) (left_step routines) (OpenBeside ls)) ∙ ap (λ rs. beside_of routines rs s) (beside-former routines ls)

-- a missing `else` leaves nothing
pub left-skip : (routines : List Routine) (l : Left) → left_of routines l skip ≡ here 0
left-skip routines = ind-Left (λ l. left_of routines l skip ≡ here 0) (λ x y is.
    subst (λ z. left_of routines (roll-Left z) skip ≡ here 0) is
    (let below = map-Left ((l : Left) × (left_of routines l skip ≡ here 0)) Left (λ e. e.0) y in
    ap (λ f. f skip) (fold-roll-Left (Statement → Residual) (left_step routines) below) ∙ by routines (map-Left Left (Statement → Residual) (left_of routines) below)))
  where
    by : (routines : List Routine) (z : Left-F (Statement → Residual)) → left_step routines z skip ≡ here 0
    by routines OpenHere = refl
    by routines (OpenInside k r) = refl
    by routines (OpenBeside rs) = refl

pub ruleset lefts = (left-Here, left-Inside, left-Beside, left-skip)

-- ---- turns

pub turning-more : (n i : ℕ) (test : Expression) (go : Store → Outcome) (store after : Store) → i < n → holds test store ≡ true → store_of (go store) ≡ after → turning (n - i) test go store ≡ turning (n - (i + 1)) test go after
turning-more n i test go store after less held is =
    let e : n - i ≡ suc (n - (i + 1)) = omega arith in
    ap (λ m. turning m test go store) e
    ∙ ap (λ b. if b then turning (n - (i + 1)) test go (store_of (go store)) else store) held
    ∙ ap (turning (n - (i + 1)) test go) is

-- ---- lists

pub drop-at : {X : Type 0} (xs : List X) (i : ℕ) (x : X) → i < length xs → x ≡ get_or xs i x → drop i xs ≡ x ∷ drop (i + 1) xs
drop-at xs i x h e = rw add-one (drop-cons xs i x h ∙ ap (λ y. y ∷ drop (suc i) xs) (sym e))

pub drop-past : {X : Type 0} (xs : List X) (i : ℕ) → length xs ≤ i → drop i xs ≡ []
drop-past [] zero h = refl
drop-past [] (suc i) h = refl
drop-past (x ∷ xs) zero h = absurd (omega arith)
drop-past (x ∷ xs) (suc i) h = drop-past xs i (omega arith)

pub drop-none : {X : Type 0} (xs : List X) (i : ℕ) → slice_get xs i ≡ None → drop i xs ≡ []
drop-none [] zero is = refl
drop-none [] (suc i) is = refl
drop-none (x ∷ xs) zero is = cc
drop-none (x ∷ xs) (suc i) is = drop-none xs i is

-- within a list the default doesn't matter
pub get_or-default : {X : Type 0} (xs : List X) (i : ℕ) (d e : X) → i < length xs → get_or xs i d ≡ get_or xs i e
get_or-default [] i d e less = absurd (omega arith)
get_or-default (x ∷ xs) zero d e less = refl
get_or-default (x ∷ xs) (suc i) d e less = get_or-default xs i d e (omega arith)

-- no words are left to go to places
pub set_all-past : (places : List ℕ) (words : List ℤ) (i : ℕ) (store : Store) → length words ≤ i → set_all places (drop i words) store ≡ store
set_all-past places words i store past = ap (λ l. set_all places l store) (drop-past words i past) ∙ by places
  where
    by : (ps : List ℕ) → set_all ps [] store ≡ store
    by [] = refl
    by (p ∷ ps) = refl

-- a word more of those that are all one
pub push-turn : (words new all : List ℤ) (n i : ℕ) (w : ℤ) → i < n → new ≡ words ++ w ∷ [] → words ++ replicate (n - i) w ≡ all → new ++ replicate (n - (i + 1)) w ≡ all
push-turn words new all n i w less is h =
    ap (λ l. l ++ replicate (n - (i + 1)) w) is
    ∙ append_assoc words (w ∷ []) (replicate (n - (i + 1)) w)
    ∙ ap (λ k. words ++ replicate k w) (let e : suc (n - (i + 1)) ≡ n - i = omega arith in e)
    ∙ h

module _ (rooms : List Room) (functions : List Function) where
  list-at : (r : Statement → Residual) (all : List (Stmt ℕ)) (i : ℕ) (s : Stmt ℕ) → i < length all → s ≡ get_or all i s → in_list i r (trees rooms functions all) ≡ before_rest (r (tree rooms functions s)) (trees rooms functions (drop (suc i) all))
  list-at r [] i s less is = absurd (omega arith)
  list-at r (x ∷ all) zero s less is = ap (λ y. before_rest (r (tree rooms functions y)) (trees rooms functions all)) (sym is)
  list-at r (x ∷ all) (suc i) s less is = list-at r all i s (omega arith) is

  left-list : (l : Left) (all : List (Stmt ℕ)) (i : ℕ) (s : Stmt ℕ) → i < length all → s ≡ get_or all i s →
      left_of (routines_of rooms functions) (Inside i l) (block (trees rooms functions all)) ≡ before_rest (left_of (routines_of rooms functions) l (tree rooms functions s)) (trees rooms functions (drop (i + 1) all))
  left-list l all i s less is =
      left-Inside (routines_of rooms functions) i l (block (trees rooms functions all))
      ∙ list-at (left_of (routines_of rooms functions) l) all i s less is
      ∙ ap (λ k. before_rest (left_of (routines_of rooms functions) l (tree rooms functions s)) (trees rooms functions (drop k all))) (let e : suc i ≡ i + 1 = omega arith in e)

  module _ (known : ℕ) where
    pub list-step : (all : List (Stmt ℕ)) (i : ℕ) (s : Stmt ℕ) (o : Option Left) (store after : Store) → i < length all → s ≡ get_or all i s → ends rooms functions (tree rooms functions s) o after ≡ starts rooms functions known (tree rooms functions s) store →
        starts rooms functions known (block (trees rooms functions (drop i all))) store
        ≡ followed (ends rooms functions (tree rooms functions s) o after) (trees rooms functions (drop (i + 1) all)) (start_all (routines_of rooms functions) (known_of rooms functions known) (trees rooms functions (drop (i + 1) all)))
    list-step all i s o store after less is h =
        ap (λ l. starts rooms functions known (block (trees rooms functions l)) store) (drop-at all i s less is)
        ∙ ap (λ x. followed x (trees rooms functions (drop (i + 1) all)) (start_all (routines_of rooms functions) (known_of rooms functions known) (trees rooms functions (drop (i + 1) all)))) (sym h)

    pub list-paused : (all : List (Stmt ℕ)) (i : ℕ) (s : Stmt ℕ) (l : Left) (store after : Store) → i < length all → s ≡ get_or all i s → ends rooms functions (tree rooms functions s) (Some l) after ≡ starts rooms functions known (tree rooms functions s) store →
        ends rooms functions (block (trees rooms functions all)) (Some (Inside i l)) after ≡ starts rooms functions known (block (trees rooms functions (drop i all))) store
    list-paused all i s l store after less is h =
        ap (λ r. Paused r after) (left-list l all i s less is) ∙ sym (list-step all i s (Some l) store after less is h)

  list-past : (r : Statement → Residual) (all : List (Stmt ℕ)) (i : ℕ) → length all ≤ i → in_list i r (trees rooms functions all) ≡ here 0
  list-past r [] zero past = refl
  list-past r [] (suc i) past = refl
  list-past r (x ∷ all) zero past = absurd (omega arith)
  list-past r (x ∷ all) (suc i) past = list-past r all i (omega arith)

  -- a number past the list says nothing
  pub resume-past : (before : Store) (l : Left) (all : List (Stmt ℕ)) (i : ℕ) (store : Store) → length all ≤ i → resumes rooms functions before (left_of (routines_of rooms functions) (Inside i l) (block (trees rooms functions all))) store ≡ Done store
  resume-past before l all i store past =
      ap (λ r. resumes rooms functions before r store) (left-Inside (routines_of rooms functions) i l (block (trees rooms functions all)) ∙ list-past (left_of (routines_of rooms functions) l) all i past)

  resume-before : (before : Store) (r : Residual) (rest : Statements) (store : Store) → resumes rooms functions before (before_rest r rest) store ≡ followed (resumes rooms functions before r store) rest (start_all (routines_of rooms functions) (known_of rooms functions (length functions)) rest)
  resume-before before r (each s rest) store = refl
  resume-before before r none store = by (resumes rooms functions before r store)
    where
      by : (o : Outcome) → o ≡ followed o none (start_all (routines_of rooms functions) (known_of rooms functions (length functions)) none)
      by (Done later) = refl
      by (Paused q later) = refl

  -- a part of a list goes on, and is done or has paused again
  pub resume-list : (before : Store) (l : Left) (all : List (Stmt ℕ)) (i : ℕ) (s : Stmt ℕ) (o : Option Left) (store after : Store) → i < length all → s ≡ get_or all i s →
      ends rooms functions (tree rooms functions s) o after ≡ resumes rooms functions before (left_of (routines_of rooms functions) l (tree rooms functions s)) store →
      resumes rooms functions before (left_of (routines_of rooms functions) (Inside i l) (block (trees rooms functions all))) store
      ≡ followed (ends rooms functions (tree rooms functions s) o after) (trees rooms functions (drop (i + 1) all)) (start_all (routines_of rooms functions) (known_of rooms functions (length functions)) (trees rooms functions (drop (i + 1) all)))
  resume-list before l all i s o store after less is h =
      ap (λ r. resumes rooms functions before r store) (left-list l all i s less is)
      ∙ resume-before before (left_of (routines_of rooms functions) l (tree rooms functions s)) (trees rooms functions (drop (i + 1) all)) store
      ∙ ap (λ x. followed x (trees rooms functions (drop (i + 1) all)) (start_all (routines_of rooms functions) (known_of rooms functions (length functions)) (trees rooms functions (drop (i + 1) all)))) (sym h)

  pub resume-paused : (before : Store) (l left : Left) (all : List (Stmt ℕ)) (i : ℕ) (s : Stmt ℕ) (store after : Store) → i < length all → s ≡ get_or all i s →
      ends rooms functions (tree rooms functions s) (Some left) after ≡ resumes rooms functions before (left_of (routines_of rooms functions) l (tree rooms functions s)) store →
      ends rooms functions (block (trees rooms functions all)) (Some (Inside i left)) after ≡ resumes rooms functions before (left_of (routines_of rooms functions) (Inside i l) (block (trees rooms functions all))) store
  resume-paused before l left all i s store after less is h =
      ap (λ r. Paused r after) (left-list left all i s less is) ∙ sym (resume-list before l all i s (Some left) store after less is h)

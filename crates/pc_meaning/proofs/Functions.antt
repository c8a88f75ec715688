-- Functions one after another: more of them change nothing, and which of them can finish.
use Rattle.std.proofs.Common.{◌≡◌, ℕ, suc, ◌+◌, ◌<◌, ◌≤◌, Bool, true, false, List, [], ◌∷◌, ◌++◌, length, refl, sym, ap, ◌∙◌, subst, arith, append_assoc, length-append}
use Rattle.std.specs.Prelude.{unwrap_or}
use Rattle.pc_meaning.specs.Tree.{Statement, Routine}
use Rattle.pc_meaning.specs.Values.{Store, set_locals}
use Rattle.pc_meaning.specs.Outcomes.{Done}
use Rattle.pc_meaning.specs.Statements.{no_routine, routine_at, Known, known_at, start, start_routine, starts_from, starts_of}
use Rattle.pc_meaning.specs.Promises.{IsPaused, Below, RoutinesBelow, is_known, finishes, all_finish, Lasts, finishing_from, finishing_of, RoutinesLast}
use Rattle.pc_meaning.proofs.Lookups.{slice_get_front, slice_get_middle, both_grow, both_grow_all}
use Rattle.pc_meaning.proofs.Pausing.{start_same, start_all_same, never_finishes, all_never_finish}

-- ---- a list of functions goes on

starts-long : (routines rest : List Routine) (known : Known) → length (starts_from routines known rest) ≡ length known + length rest
starts-long routines [] known = omega arith
starts-long routines (r ∷ rest) known =
    let e = length-append known (start_routine routines known r ∷ []) in
    let h = starts-long routines rest (known ++ start_routine routines known r ∷ []) in
    omega (arith, e, h)

starts-append : (routines front more : List Routine) (known : Known) → starts_from routines known (front ++ more) ≡ starts_from routines (starts_from routines known front) more
starts-append routines [] more known = refl
starts-append routines (r ∷ front) more known = starts-append routines front more (known ++ start_routine routines known r ∷ [])

-- what is known stays in front
starts-front : (routines rest : List Routine) (known : Known) (f : ℕ) → f < length known → known_at (starts_from routines known rest) f ≡ known_at known f
starts-front routines [] known f less = refl
starts-front routines (r ∷ rest) known f less =
    let e = length-append known (start_routine routines known r ∷ []) in
    starts-front routines rest (known ++ start_routine routines known r ∷ []) f (omega (arith, e, less)) ∙ ap (λ o. unwrap_or o Done) (slice_get_front known (start_routine routines known r ∷ []) f less)

-- functions do the same over two lists of functions that are alike below a number
starts_same : (routines routines' rest : List Routine) (n limit : ℕ) (known known' : Known) → ((f : ℕ) → f < limit → routine_at routines f ≡ routine_at routines' f) → n + length rest ≤ limit → length known ≡ n → length known' ≡ n → RoutinesBelow n rest →
    ((f : ℕ) → f < length known → (store : Store) → known_at known f store ≡ known_at known' f store) →
    (f : ℕ) → f < n + length rest → (store : Store) → known_at (starts_from routines known rest) f store ≡ known_at (starts_from routines' known' rest) f store
starts_same routines routines' [] n limit known known' alike few long long' below same f less = same f (omega arith)
starts_same routines routines' (r ∷ rest) n limit known known' alike few long long' below same f less =
    let new : (store : Store) → start_routine routines known r store ≡ start_routine routines' known' r store =
    λ store. start_all_same routines routines' known known' n (λ k l. alike k (omega arith)) (λ k l. same k (omega arith)) r.body below.0 (set_locals r.locals store) in
    let a = length-append known (start_routine routines known r ∷ []) in
    let b = length-append known' (start_routine routines' known' r ∷ []) in
    starts_same routines routines' rest (suc n) limit (known ++ start_routine routines known r ∷ []) (known' ++ start_routine routines' known' r ∷ []) alike (omega arith) (omega (arith, a, long)) (omega (arith, b, long')) below.1
    (λ k l. both_grow (λ i x y. (store : Store) → x store ≡ y store) Done Done known known' (start_routine routines known r) (start_routine routines' known' r) (omega arith) same new k (omega (arith, a, l)))
    f (omega arith)

routine-front : (front more : List Routine) (f : ℕ) → f < length front → routine_at (front ++ more) f ≡ routine_at front f
routine-front front more f less = ap (λ o. unwrap_or o no_routine) (slice_get_front front more f less)

-- a statement means the same over more functions
pub prefix : (front more : List Routine) → RoutinesBelow 0 front → (s : Statement) → Below (length front) s → (store : Store) → start (front ++ more) (starts_of (front ++ more)) s store ≡ start front (starts_of front) s store
prefix front more below s named store =
    start_same (front ++ more) front (starts_of (front ++ more)) (starts_of front) (length front) (routine-front front more) (
    λ f less later.
    let long = starts-long (front ++ more) front [] in
    ap (λ k. known_at k f later) (starts-append (front ++ more) front more [])
    ∙ ap (λ go. go later) (starts-front (front ++ more) more (starts_from (front ++ more) [] front) f (omega (arith, long, less)))
    ∙ starts_same (front ++ more) front front 0 (length front) [] [] (routine-front front more) (omega arith) refl refl below (λ k l. absurd (omega arith)) f (omega arith) later
    ) s named store

-- each function does from its start what its body does, over all functions
starts_are : (routines rest front : List Routine) (known : Known) → front ++ rest ≡ routines → length known ≡ length front → RoutinesBelow (length known) rest →
    ((f : ℕ) → f < length known → (store : Store) → known_at known f store ≡ start_routine routines (starts_from routines known rest) (routine_at routines f) store) →
    (f : ℕ) → f < length known + length rest → (store : Store) → known_at (starts_from routines known rest) f store ≡ start_routine routines (starts_from routines known rest) (routine_at routines f) store
starts_are routines [] front known whole long below same f less = same f (omega arith)
starts_are routines (r ∷ rest) front known whole long below same f less =
    let new = start_routine routines known r in
    let final = starts_from routines known (r ∷ rest) in
    let here : routine_at routines (length known) ≡ r = ap (λ l. routine_at l (length known)) (sym whole) ∙ ap (routine_at (front ++ r ∷ rest)) long ∙ ap (λ o. unwrap_or o no_routine) (slice_get_middle front r rest) in
    let a = length-append known (new ∷ []) in
    let b = length-append front (r ∷ []) in
    let last : (store : Store) → new store ≡ start_routine routines final (routine_at routines (length known)) store =
    λ store. start_all_same routines routines known final (length known) (λ k l. refl) (λ k l later. ap (λ go. go later) (sym (starts-front routines (r ∷ rest) known k l))) r.body below.0 (set_locals r.locals store)
    ∙ ap (λ x. start_routine routines final x store) (sym here) in
    starts_are routines rest (front ++ r ∷ []) (known ++ new ∷ []) (append_assoc front (r ∷ []) rest ∙ whole) (omega (arith, a, b, long)) (subst (λ k. RoutinesBelow k rest) (let e : suc (length known) ≡ length (known ++ new ∷ []) = omega (arith, a) in e) below.1)
    (λ k l. both_grow (λ i x y. (store : Store) → x store ≡ start_routine routines final (routine_at routines i) store) Done Done known known new new refl same last k (omega (arith, a, l)))
    f (omega (arith, a, less))

pub function_is : (routines : List Routine) → RoutinesBelow 0 routines → (f : ℕ) → f < length routines → (store : Store) → known_at (starts_of routines) f store ≡ start_routine routines (starts_of routines) (routine_at routines f) store
function_is routines below f less = starts_are routines routines [] [] refl refl below (λ k l. absurd (omega arith)) f (omega arith)

-- ---- which functions can finish

lasting_from : (routines rest : List Routine) (finishing : List Bool) (known : Known) → length finishing ≡ length known → RoutinesLast finishing rest →
    ((f : ℕ) → is_known finishing f ≡ false → (store : Store) → IsPaused (known_at known f store)) →
    (f : ℕ) → is_known (finishing_from finishing rest) f ≡ false → (store : Store) → IsPaused (known_at (starts_from routines known rest) f store)
lasting_from routines [] finishing known long last h = h
lasting_from routines (r ∷ rest) finishing known long last h =
    let a = length-append finishing (all_finish finishing r.body ∷ []) in
    let b = length-append known (start_routine routines known r ∷ []) in
    lasting_from routines rest (finishing ++ all_finish finishing r.body ∷ []) (known ++ start_routine routines known r ∷ []) (omega (arith, a, b, long)) last.1 (
    both_grow_all (λ i x y. x ≡ false → (store : Store) → IsPaused (y store)) true Done finishing known (all_finish finishing r.body) (start_routine routines known r) long h
    (λ never store. all_never_finish routines known finishing h r.body last.0 never (set_locals r.locals store))
    )

pub function_lasts : (routines : List Routine) → RoutinesLast [] routines → (f : ℕ) → is_known (finishing_of routines) f ≡ false → (store : Store) → IsPaused (known_at (starts_of routines) f store)
function_lasts routines last = lasting_from routines routines [] [] refl last (λ f never store. cc)

-- a statement that can't finish pauses
pub statement_lasts : (routines : List Routine) → RoutinesLast [] routines → (s : Statement) → Lasts (finishing_of routines) s → finishes (finishing_of routines) s ≡ false → (store : Store) → IsPaused (start routines (starts_of routines) s store)
statement_lasts routines last s lasts never store = never_finishes routines (starts_of routines) (finishing_of routines) (function_lasts routines last) s lasts never store

-- A routine never pauses; a statement that can't finish pauses; what is known of more functions changes nothing.
use Rattle.std.proofs.Common.{◌≡◌, ℕ, zero, suc, ◌<◌, ◌^◌, ◌%◌, Bool, true, false, ◌==◌, ◌&&◌, ◌||◌, not, List, [], ◌∷◌, refl, sym, ap, ◌∙◌, subst, arith}
use Rattle.std.specs.Prelude.{ℤ, pos, negsuc, if◌then◌else◌}
use Rattle.std.specs.Int.{w32, cast_unsigned, int_wrap}
use Rattle.std.proofs.lemmas.Int.{of_z-to_z}
use Rattle.pt_base.specs.Operators.{is_true, word_of, not_of}
use Rattle.std.specs.List.{list_all}
use Rattle.pc_meaning.specs.Tree.{Expression, number, cell, element, unary, chain, Statement, Statements, skip, assign, call_of, block, if_so, repeat, loop, eot, par, abort, none, each, Routine}
use Rattle.pc_meaning.specs.Values.{Store, values, holds, set_all}
use Rattle.pc_meaning.specs.Outcomes.{in_par, Outcome, Done, Paused, store_of, followed, aborting, Side, and_side, beside, all_ended, joined}
use Rattle.pc_meaning.specs.Statements.{turning, routine_at, Known, known_at, called, returned, starting, start, start_all}
use Rattle.pc_meaning.specs.Promises.{IsDone, IsPaused, pauses, some_pauses, is_always_true, is_known, finishes, all_finish, Lasts, AllLast, LiteralFits, AllBelow, Below, EachBelow}

-- ---- a literal below 2^32 that isn't 0 holds

literal-unsigned : (m : ℕ) → m < 2 ^ 32 → cast_unsigned w32 (word_of (pos m)) ≡ m
unfolding int_wrap
literal-unsigned m less = of_z-to_z w32 (m % 2 ^ 32) (omega arith) ∙ grind (arith, less)

not-zero : (n : ℕ) (z : ℤ) → cast_unsigned w32 z ≡ suc n → is_true z ≡ true
not-zero n (pos zero) is = absurd (omega (arith, is))
not-zero n (pos (suc k)) is = let e : (suc k == 0) ≡ false = grind arith in ap not_of e
not-zero n (negsuc k) is = refl

left_of : (a b : Bool) → (a || b) ≡ false → a ≡ false
left_of true b h = h
left_of false b h = refl

right_of : (a b : Bool) → (a || b) ≡ false → b ≡ false
right_of true b h = cc
right_of false b h = h

done_if : (b : Bool) (o o' : Outcome) → IsDone o → IsDone o' → IsDone (if b then o else o')
done_if true o o' h h' = h
done_if false o o' h h' = h'

done_followed : (o : Outcome) (rest : Statements) (f : Store → Outcome) → IsDone o → ((store : Store) → IsDone (f store)) → IsDone (followed o rest f)
done_followed (Done store) rest f h more = more store
done_followed (Paused r store) rest f h more = absurd h

paused_if : (b : Bool) (o o' : Outcome) → IsPaused o → IsPaused o' → IsPaused (if b then o else o')
paused_if true o o' h h' = h
paused_if false o o' h h' = h'

paused_followed : (o : Outcome) (rest : Statements) (f : Store → Outcome) → IsPaused o → IsPaused (followed o rest f)
paused_followed (Done store) rest f h = absurd h
paused_followed (Paused r store) rest f h = tt

paused_later : (o : Outcome) (rest : Statements) (f : Store → Outcome) → ((store : Store) → IsPaused (f store)) → IsPaused (followed o rest f)
paused_later (Done store) rest f h = h store
paused_later (Paused r store) rest f h = tt

paused_aborting : (j : ℕ) (weak : Bool) (test : Expression) (o : Outcome) → IsPaused o → IsPaused (aborting j weak test o)
paused_aborting j weak test (Done store) h = absurd h
paused_aborting j weak test (Paused r store) h = tt

module _ (routines : List Routine) (known : Known) where
  -- ---- a routine never pauses
  mutual
    pub never_pauses : (s : Statement) → pauses s ≡ false → (store : Store) → IsDone (start routines known s store)
    never_pauses skip h store = tt
    never_pauses (assign goal e) h store = tt
    never_pauses (call_of goal f es) h store = tt
    never_pauses (block all) h store = none_pauses all h store
    never_pauses (if_so test first second) h store =
        done_if (holds test store) (start routines known first store) (start routines known second store) (never_pauses first (left_of (pauses first) (pauses second) h) store) (never_pauses second (right_of (pauses first) (pauses second) h) store)
    never_pauses (repeat most test body) h store = tt
    never_pauses (loop test body) h store =
        done_if (holds test store) (followed (start routines known body store) (each (loop test body) none) Done) (Done store)
        (done_followed (start routines known body store) (each (loop test body) none) Done (never_pauses body h store) (λ later. tt)) tt
    never_pauses (eot i) h store = cc
    never_pauses (par i threads) h store = cc
    never_pauses (abort j weak body test) h store = cc

    pub none_pauses : (all : Statements) → some_pauses all ≡ false → (store : Store) → IsDone (start_all routines known all store)
    none_pauses none h store = tt
    none_pauses (each s rest) h store =
        done_followed (start routines known s store) rest (start_all routines known rest) (never_pauses s (left_of (pauses s) (some_pauses rest) h) store) (none_pauses rest (right_of (pauses s) (some_pauses rest) h))

  -- ---- what can't finish pauses

  always : (test : Expression) → LiteralFits test → not (is_always_true test) ≡ false → (store : Store) → holds test store ≡ true
  always (number zero) small h store = cc
  always (number (suc n)) small h store = not-zero n (word_of (pos (suc n))) (literal-unsigned (suc n) small)
  always (cell place) small h store = cc
  always (element first size index) small h store = cc
  always (unary op e) small h store = cc
  always (chain e rest) small h store = cc

  module _ (finishing : List Bool) (lasting : (f : ℕ) → is_known finishing f ≡ false → (store : Store) → IsPaused (known_at known f store)) where
    one_left : (o : Outcome) (f : Store → Side) → ((store : Store) → all_ended (f store).threads ≡ false) → all_ended (and_side o f).threads ≡ false
    one_left (Done store) f h = h store
    one_left (Paused r store) f h = refl

    this_left : (o : Outcome) (f : Store → Side) → IsPaused o → all_ended (and_side o f).threads ≡ false
    this_left (Done store) f h = absurd h
    this_left (Paused r store) f h = refl

    some_left : (fs : List ℕ) → list_all (is_known finishing) fs ≡ false → (store : Store) → all_ended (beside (starting known fs) store).threads ≡ false
    some_left [] h store = cc
    some_left (f ∷ fs) h store = by (is_known finishing f) refl h (some_left fs)
      where
        by : (b : Bool) → is_known finishing f ≡ b → (b && list_all (is_known finishing) fs) ≡ false → (list_all (is_known finishing) fs ≡ false → (later : Store) → all_ended (beside (starting known fs) later).threads ≡ false) →
            all_ended (and_side (known_at known f store) (beside (starting known fs))).threads ≡ false
        by true is h more = one_left (known_at known f store) (beside (starting known fs)) (more h)
        by false is h more = this_left (known_at known f store) (beside (starting known fs)) (lasting f is store)

    joined_left : (i : ℕ) (b : Bool) (side : Side) → b ≡ false → IsPaused (if b then Done side.store else Paused (in_par i side.threads) side.store)
    joined_left i true side h = cc
    joined_left i false side h = tt

    mutual
      pub never_finishes : (s : Statement) → Lasts finishing s → finishes finishing s ≡ false → (store : Store) → IsPaused (start routines known s store)
      never_finishes skip last h store = cc
      never_finishes (assign goal e) last h store = cc
      never_finishes (call_of goal f es) last h store = cc
      never_finishes (block all) last h store = all_never_finish all last h store
      never_finishes (if_so test first second) last h store =
          paused_if (holds test store) (start routines known first store) (start routines known second store) (never_finishes first last.0 (left_of (finishes finishing first) (finishes finishing second) h) store)
          (never_finishes second last.1 (right_of (finishes finishing first) (finishes finishing second) h) store)
      never_finishes (repeat most test body) last h store = cc
      never_finishes (loop test body) last h store =
          subst (λ b. IsPaused (if b then followed (start routines known body store) (each (loop test body) none) Done else Done store)) (sym (always test last.0 h store)) (
          paused_followed (start routines known body store) (each (loop test body) none) Done (never_finishes body last.2 last.1 store)
          )
      never_finishes (eot i) last h store = tt
      never_finishes (par i threads) last h store = joined_left i (all_ended (beside (starting known threads) store).threads) (beside (starting known threads) store) (some_left threads h store)
      never_finishes (abort j weak body test) last h store = paused_aborting j weak test (start routines known body store) (never_finishes body last h store)

      pub all_never_finish : (all : Statements) → AllLast finishing all → all_finish finishing all ≡ false → (store : Store) → IsPaused (start_all routines known all store)
      all_never_finish none last h store = cc
      all_never_finish (each s rest) last h store = by (finishes finishing s) refl h (never_finishes s last.0) (all_never_finish rest last.1)
        where
          by : (b : Bool) → finishes finishing s ≡ b → (b && all_finish finishing rest) ≡ false → (finishes finishing s ≡ false → (store : Store) → IsPaused (start routines known s store)) →
              (all_finish finishing rest ≡ false → (store : Store) → IsPaused (start_all routines known rest store)) → IsPaused (followed (start routines known s store) rest (start_all routines known rest))
          by true is h this more = paused_later (start routines known s store) rest (start_all routines known rest) (more h)
          by false is h this more = paused_followed (start routines known s store) rest (start_all routines known rest) (this is store)

-- ---- functions that are known to do the same

module _ (routines routines' : List Routine) (known known' : Known) (count : ℕ) (same_routine : (f : ℕ) → f < count → routine_at routines f ≡ routine_at routines' f)
    (same_known : (f : ℕ) → f < count → (store : Store) → known_at known f store ≡ known_at known' f store) where
  followed_same : (o o' : Outcome) (rest : Statements) (f g : Store → Outcome) → o ≡ o' → ((store : Store) → f store ≡ g store) → followed o rest f ≡ followed o' rest g
  followed_same o o' rest f g e h = ap (λ x. followed x rest f) e ∙ by o'
    where
      by : (x : Outcome) → followed x rest f ≡ followed x rest g
      by (Done store) = h store
      by (Paused r store) = refl

  side_same : (o : Outcome) (f g : Store → Side) → ((store : Store) → f store ≡ g store) → and_side o f ≡ and_side o g
  side_same (Done store) f g h = ap (λ s. and_side (Done store) (λ later. s)) (h store)
  side_same (Paused r store) f g h = ap (λ s. and_side (Paused r store) (λ later. s)) (h store)

  beside_same : (fs : List ℕ) → AllBelow count fs → (store : Store) → beside (starting known fs) store ≡ beside (starting known' fs) store
  beside_same [] below store = refl
  beside_same (f ∷ fs) below store =
      ap (λ o. and_side o (beside (starting known fs))) (same_known f below.0 store)
      ∙ side_same (known_at known' f store) (beside (starting known fs)) (beside (starting known' fs)) (beside_same fs below.1)

  turning_same : (n : ℕ) (test : Expression) (f g : Store → Outcome) → ((store : Store) → f store ≡ g store) → (store : Store) → turning n test f store ≡ turning n test g store
  turning_same zero test f g h store = refl
  turning_same (suc n) test f g h store =
      ap (λ s. if holds test store then s else store) (ap (λ o. turning n test f (store_of o)) (h store) ∙ turning_same n test f g h (store_of (g store)))

  mutual
    pub start_same : (s : Statement) → Below count s → (store : Store) → start routines known s store ≡ start routines' known' s store
    start_same skip below store = refl
    start_same (assign goal e) below store = refl
    start_same (call_of goal f es) below store =
        ap (λ r. Done (called r (known_at known f) goal es store)) (same_routine f below)
        ∙ ap (λ o. Done (returned (routine_at routines' f) goal (store_of o))) (same_known f below (set_all (routine_at routines' f).parameters (values es store) store))
    start_same (block all) below store = start_all_same all below store
    start_same (if_so test first second) below store =
        ap (λ o. if holds test store then o else start routines known second store) (start_same first below.0 store) ∙ ap (λ o. if holds test store then start routines' known' first store else o) (start_same second below.1 store)
    start_same (repeat most test body) below store = ap (λ s. Done s) (turning_same most test (start routines known body) (start routines' known' body) (start_same body below) store)
    start_same (loop test body) below store = ap (λ o. if holds test store then followed o (each (loop test body) none) Done else Done store) (start_same body below store)
    start_same (eot i) below store = refl
    start_same (par i threads) below store = ap (joined i) (beside_same threads below store)
    start_same (abort j weak body test) below store = ap (aborting j weak test) (start_same body below store)

    pub start_all_same : (all : Statements) → EachBelow count all → (store : Store) → start_all routines known all store ≡ start_all routines' known' all store
    start_all_same none below store = refl
    start_all_same (each s rest) below store =
        followed_same (start routines known s store) (start routines' known' s store) rest (start_all routines known rest) (start_all routines' known' rest) (start_same s below.0 store) (start_all_same rest below.1)

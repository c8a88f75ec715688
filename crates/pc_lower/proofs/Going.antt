-- What is left goes on as its rest does; what is left of a statement that fits fits.
use Rattle.std.proofs.Common.{◌≡◌, ℕ, ◌<◌, ◌≤◌, Bool, true, false, ◌&&◌, not, List, [], ◌∷◌, Option, Some, None, slice_get, refl, ap, ◌∙◌, arith}
use Rattle.std.specs.Prelude.{if◌then◌else◌}
use Rattle.pc_meaning.specs.Tree.{Expression, Statement, Statements, skip, assign, call_of, block, if_so, repeat, loop, eot, par, abort, none, each, Routine}
use Rattle.pc_meaning.specs.Values.{Store, value, holds}
use Rattle.pc_meaning.specs.Outcomes.{Residual, Threads, here, seq, in_abort, in_par, no_more, ended, paused, Outcome, Done, Paused, before_rest, followed, aborting, fired_or_aborting, Side, and_side, beside, all_ended, joined}
use Rattle.pc_meaning.specs.Statements.{routine_at, Known, known_at, starting, start, start_all, resume, resuming}
use Rattle.pc_lower.specs.declared.nodes.Place.TheVariants.{Temp as temp}
use Rattle.pc_lower.specs.Flow.{State, Through, Flows, state_of, flow_at, go_all, again, agains, fired_or_in_guard}
use Rattle.pc_lower.specs.Lowered.{nodes_of, rest_of, rests_of}
use Rattle.pc_meaning.specs.Promises.{AllBelow}
use Rattle.pc_lower.specs.Sound.{Fits, AllFit, RestFits, RestsFit}
use Rattle.pc_lower.specs.Laws.{SameFrom, OutcomeFits}
use Rattle.pc_lower.proofs.Ends.{same_if, same_followed, same_fired, SameJobs, same_joined}
use Rattle.pc_lower.proofs.StatementFacts.{same_start_all}

-- ---- resuming

module _ (routines : List Routine) (known : Known) (flows : Flows) (count : ℕ) (same : (f : ℕ) → f < count → SameFrom routines (known_at known f) (flow_at flows f)) (aborts : List (Bool × Expression))
    (back : (f : ℕ) → f < count → (e : Expression) → (routine_at routines f).result ≡ Some e → (w : State) → (state_of (flow_at flows f w)).temps (temp 0) ≡ value e (state_of (flow_at flows f w)).store)
    (weak fires : ℕ → Bool) (before : Store)
    (agree : (j : ℕ) (a : Bool × Expression) → slice_get aborts j ≡ Some a → (weak j ≡ a.0) × (fires j ≡ holds a.1 before)) where
  mutual
    pub same_resume : (r : Residual) → RestFits routines aborts count r → SameFrom routines (resume routines known before r) (again flows weak fires (rest_of routines r))
    same_resume (here i) fits store w is = is
    same_resume (seq r rest) fits store w is =
        same_followed routines (resume routines known before r store) (again flows weak fires (rest_of routines r) w) rest (nodes_of routines rest) (start_all routines known rest) (go_all flows (nodes_of routines rest)) refl
        (same_resume r fits.0 store w is) (same_start_all routines known flows count same aborts back rest fits.1)
    same_resume (in_abort j heavy test r) fits store w is =
        let a = agree j (heavy, test) fits.0 in
        same_if routines (not (weak j) && fires j) (not heavy && holds test before) (Done store) (fired_or_aborting (holds test before) j heavy test (resume routines known before r store))
        (Through w) (fired_or_in_guard (fires j) j (again flows weak fires (rest_of routines r) w))
        (ap (λ b. not b && fires j) a.0 ∙ ap (λ b. not heavy && b) a.1) is
        (same_fired routines (fires j) (holds test before) j heavy test (resume routines known before r store) (again flows weak fires (rest_of routines r) w) a.1 (same_resume r fits.1 store w is))
    same_resume (in_par i threads) fits store w is =
        same_joined routines i (resuming routines known before threads) (agains flows weak fires (rests_of routines threads)) (same_resuming threads fits) store w is

    same_resuming : (threads : Threads) → RestsFit routines aborts count threads → SameJobs routines (resuming routines known before threads) (agains flows weak fires (rests_of routines threads))
    same_resuming no_more fits = tt
    same_resuming (ended more) fits = same_resuming more fits
    same_resuming (paused r more) fits = (same_resume r fits.0, same_resuming more fits.1)

-- ---- what is left fits

module _ (routines : List Routine) (aborts : List (Bool × Expression)) where
  fits_if : (count : ℕ) (b : Bool) (o o' : Outcome) → OutcomeFits routines aborts count o → OutcomeFits routines aborts count o' → OutcomeFits routines aborts count (if b then o else o')
  fits_if count true o o' h h' = h
  fits_if count false o o' h h' = h'

  fits_before : (count : ℕ) (r : Residual) (rest : Statements) → RestFits routines aborts count r → AllFit routines aborts count rest → RestFits routines aborts count (before_rest r rest)
  fits_before count r none h all = h
  fits_before count r (each s rest) h all = (h, all)

  fits_followed : (count : ℕ) (o : Outcome) (rest : Statements) (f : Store → Outcome) → OutcomeFits routines aborts count o → AllFit routines aborts count rest → ((store : Store) → OutcomeFits routines aborts count (f store)) → OutcomeFits routines aborts count (followed o rest f)
  fits_followed count (Done store) rest f h all more = more store
  fits_followed count (Paused r store) rest f h all more = fits_before count r rest h all

  fits_aborting : (count j : ℕ) (weak : Bool) (test : Expression) (o : Outcome) → slice_get aborts j ≡ Some (weak, test) → OutcomeFits routines aborts count o → OutcomeFits routines aborts count (aborting j weak test o)
  fits_aborting count j weak test (Done store) is h = tt
  fits_aborting count j weak test (Paused r store) is h = (is, h)

  fits_fired : (count : ℕ) (b : Bool) (j : ℕ) (weak : Bool) (test : Expression) (o : Outcome) → slice_get aborts j ≡ Some (weak, test) → OutcomeFits routines aborts count o → OutcomeFits routines aborts count (fired_or_aborting b j weak test o)
  fits_fired count true j weak test o is h = tt
  fits_fired count false j weak test o is h = fits_aborting count j weak test o is h

  abbrev JobsFit : ℕ → List (Option (Store → Outcome)) → Type 0
  JobsFit count [] = Unit {0}
  JobsFit count (None ∷ fs) = JobsFit count fs
  JobsFit count (Some f ∷ fs) = ((store : Store) → OutcomeFits routines aborts count (f store)) × JobsFit count fs

  fits_and : (count : ℕ) (o : Outcome) (f : Store → Side) → OutcomeFits routines aborts count o → ((store : Store) → RestsFit routines aborts count (f store).threads) → RestsFit routines aborts count (and_side o f).threads
  fits_and count (Done store) f h more = more store
  fits_and count (Paused r store) f h more = (h, more store)

  fits_beside : (count : ℕ) (fs : List (Option (Store → Outcome))) → JobsFit count fs → (store : Store) → RestsFit routines aborts count (beside fs store).threads
  fits_beside count [] jobs store = tt
  fits_beside count (None ∷ fs) jobs store = fits_and count (Done store) (beside fs) tt (fits_beside count fs jobs)
  fits_beside count (Some f ∷ fs) jobs store = fits_and count (f store) (beside fs) (jobs.0 store) (fits_beside count fs jobs.1)

  fits_joined : (count i : ℕ) (fs : List (Option (Store → Outcome))) → JobsFit count fs → (store : Store) → OutcomeFits routines aborts count (joined i (beside fs store))
  fits_joined count i fs jobs store = fits_if count (all_ended (beside fs store).threads) (Done (beside fs store).store) (Paused (in_par i (beside fs store).threads) (beside fs store).store) tt (fits_beside count fs jobs store)

  module _ (known : Known) (count : ℕ) (starts : (f : ℕ) → f < count → (store : Store) → OutcomeFits routines aborts count (known_at known f store)) where
    fits_starting : (fs : List ℕ) → AllBelow count fs → JobsFit count (starting known fs)
    fits_starting [] below = tt
    fits_starting (f ∷ fs) below = (starts f below.0, fits_starting fs below.1)

    mutual
      pub fits_start : (s : Statement) → Fits routines aborts count s → (store : Store) → OutcomeFits routines aborts count (start routines known s store)
      fits_start skip fits store = tt
      fits_start (assign goal e) fits store = tt
      fits_start (call_of goal f es) fits store = tt
      fits_start (block all) fits store = fits_start_all all fits store
      fits_start (if_so test first second) fits store = fits_if count (holds test store) (start routines known first store) (start routines known second store) (fits_start first fits.0 store) (fits_start second fits.1 store)
      fits_start (repeat most test body) fits store = tt
      fits_start (loop test body) fits store =
          fits_if count (holds test store) (followed (start routines known body store) (each (loop test body) none) Done) (Done store)
          (fits_followed count (start routines known body store) (each (loop test body) none) Done (fits_start body fits.1 store) (fits, tt) (λ later. tt)) tt
      fits_start (eot i) fits store = tt
      fits_start (par i threads) fits store = fits_joined count i (starting known threads) (fits_starting threads fits) store
      fits_start (abort j weak body test) fits store = fits_aborting count j weak test (start routines known body store) fits.0 (fits_start body fits.1 store)

      pub fits_start_all : (all : Statements) → AllFit routines aborts count all → (store : Store) → OutcomeFits routines aborts count (start_all routines known all store)
      fits_start_all none fits store = tt
      fits_start_all (each s rest) fits store = fits_followed count (start routines known s store) rest (start_all routines known rest) (fits_start s fits.0 store) fits.1 (fits_start_all rest fits.1)

    module _ (before : Store) where
      mutual
        pub fits_resume : (r : Residual) → RestFits routines aborts count r → (store : Store) → OutcomeFits routines aborts count (resume routines known before r store)
        fits_resume (here i) fits store = tt
        fits_resume (seq r rest) fits store = fits_followed count (resume routines known before r store) rest (start_all routines known rest) (fits_resume r fits.0 store) fits.1 (fits_start_all rest fits.1)
        fits_resume (in_abort j weak test r) fits store =
            fits_if count (not weak && holds test before) (Done store) (fired_or_aborting (holds test before) j weak test (resume routines known before r store)) tt
            (fits_fired count (holds test before) j weak test (resume routines known before r store) fits.0 (fits_resume r fits.1 store))
        fits_resume (in_par i threads) fits store = fits_joined count i (resuming routines known before threads) (fits_resuming threads fits) store

        fits_resuming : (threads : Threads) → RestsFit routines aborts count threads → JobsFit count (resuming routines known before threads)
        fits_resuming no_more fits = tt
        fits_resuming (ended more) fits = fits_resuming more fits
        fits_resuming (paused r more) fits = (fits_resume r fits.0, fits_resuming more fits.1)

  -- ---- what fits before some functions fits before more

  module _ (count more : ℕ) (less : count ≤ more) where
    below_more : (fs : List ℕ) → AllBelow count fs → AllBelow more fs
    below_more [] h = tt
    below_more (f ∷ fs) h = (omega (arith, less, h.0), below_more fs h.1)

    mutual
      pub fits_more : (s : Statement) → Fits routines aborts count s → Fits routines aborts more s
      fits_more skip h = tt
      fits_more (assign goal e) h = tt
      fits_more (call_of goal f es) h = record { below = omega (arith, less, h.below); gives = h.gives; apart = h.apart }
      fits_more (block all) h = all_more all h
      fits_more (if_so test first second) h = (fits_more first h.0, fits_more second h.1)
      fits_more (repeat most test body) h = (h.0, fits_more body h.1)
      fits_more (loop test body) h = (h.0, fits_more body h.1)
      fits_more (eot i) h = tt
      fits_more (par i threads) h = below_more threads h
      fits_more (abort j weak body test) h = (h.0, fits_more body h.1)

      pub all_more : (all : Statements) → AllFit routines aborts count all → AllFit routines aborts more all
      all_more none h = tt
      all_more (each s rest) h = (fits_more s h.0, all_more rest h.1)

    mutual
      pub rest_more : (r : Residual) → RestFits routines aborts count r → RestFits routines aborts more r
      rest_more (here i) h = tt
      rest_more (seq r rest) h = (rest_more r h.0, all_more rest h.1)
      rest_more (in_abort j weak test r) h = (h.0, rest_more r h.1)
      rest_more (in_par i threads) h = rests_more threads h

      rests_more : (threads : Threads) → RestsFit routines aborts count threads → RestsFit routines aborts more threads
      rests_more no_more h = tt
      rests_more (ended more) h = rests_more more h
      rests_more (paused r more) h = (rest_more r h.0, rests_more more h.1)

    pub outcome_more : (o : Outcome) → OutcomeFits routines aborts count o → OutcomeFits routines aborts more o
    outcome_more (Done store) h = tt
    outcome_more (Paused r store) h = rest_more r h

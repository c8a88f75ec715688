-- Threads one after another.
use Rattle.std.proofs.Common.{◌≡◌, ℕ, ◌+◌, ◌<◌, ◌≤◌, List, [], ◌∷◌, ◌++◌, length, drop, get_or, Option, Some, None, refl, sym, ap, ◌∙◌, arith}
use Rattle.pc_meaning.specs.Tree.{Routine}
use Rattle.pc_meaning.specs.Values.{Store}
use Rattle.pc_meaning.specs.Outcomes.{Threads, no_more, ended, paused, Outcome, Done, Side, and_side, beside, all_ended}
use Rattle.pc_meaning.specs.Statements.{Known, known_at, starting, resume, resuming}
use Rattle.pc_meaning.specs.declared.lefts.Left.{Left}
use Rattle.pc_meaning.specs.Lefts.{is_over, body_of, left_of, threads_of, sided, outcome_of}
use Rattle.std.specs.Prelude.{slice_get}
use Rattle.std.proofs.lemmas.Option.{slice_get_within, get_or_from_slice_get}
use Rattle.pc_meaning.proofs.Leaving.{drop-at, drop-past, drop-none, get_or-default}

-- threads before others
abbrev pub before : Threads → Threads → Threads
before no_more more = more
before (ended threads) more = ended (before threads more)
before (paused r threads) more = paused r (before threads more)

abbrev pub after_threads : Threads → Side → Side
after_threads threads side = record { threads = before threads side.threads; store = side.store }

before-none : (threads : Threads) → before threads no_more ≡ threads
before-none no_more = refl
before-none (ended threads) = ap ended (before-none threads)
before-none (paused r threads) = ap (paused r) (before-none threads)

module _ (routines : List Routine) where
  -- a thread of which this is left
  abbrev pub one : Option Left → ℕ → Threads → Threads
  one None f more = ended more
  one (Some left) f more = paused (left_of routines left (body_of routines f)) more

  threads-cons : (left : Option Left) (lefts : List (Option Left)) (f : ℕ) (fs : List ℕ) → threads_of routines (left ∷ lefts) (f ∷ fs) ≡ one left f (threads_of routines lefts fs)
  threads-cons None lefts f fs = refl
  threads-cons (Some left) lefts f fs = refl

  before-one : (left : Option Left) (f : ℕ) (threads more : Threads) → before (one left f threads) more ≡ one left f (before threads more)
  before-one None f threads more = refl
  before-one (Some left) f threads more = refl

  before-push : (lefts : List (Option Left)) (left : Option Left) (f : ℕ) (fs : List ℕ) (more : Threads) → length lefts < length fs → f ≡ get_or fs (length lefts) f →
      before (threads_of routines (lefts ++ left ∷ []) fs) more ≡ before (threads_of routines lefts fs) (one left f more)
  before-push [] left f [] more less is = absurd (omega arith)
  before-push [] left f (g ∷ fs) more less is = ap (λ t. before t more) (threads-cons left [] g fs) ∙ before-one left g no_more more ∙ ap (λ k. one left k more) (sym is)
  before-push (l ∷ lefts) left f [] more less is = absurd (omega arith)
  before-push (l ∷ lefts) left f (g ∷ fs) more less is =
      ap (λ t. before t more) (threads-cons l (lefts ++ left ∷ []) g fs)
      ∙ before-one l g (threads_of routines (lefts ++ left ∷ []) fs) more
      ∙ ap (one l g) (before-push lefts left f fs more (omega arith) is)
      ∙ sym (before-one l g (threads_of routines lefts fs) (one left f more))
      ∙ ap (λ t. before t (one left f more)) (sym (threads-cons l lefts g fs))

  side-one : (left : Option Left) (f : ℕ) (later : Store) (go : Store → Side) →
      and_side (outcome_of routines (body_of routines f) left later) go ≡ record { threads = one left f (go later).threads; store = (go later).store }
  side-one None f later go = refl
  side-one (Some left) f later go = refl

  -- a thread that is left so goes to those before it
  pub step-after : (lefts : List (Option Left)) (left : Option Left) (f : ℕ) (fs : List ℕ) (later : Store) (go : Store → Side) → length lefts < length fs → f ≡ get_or fs (length lefts) f →
      after_threads (threads_of routines lefts fs) (and_side (outcome_of routines (body_of routines f) left later) go) ≡ after_threads (threads_of routines (lefts ++ left ∷ []) fs) (go later)
  step-after lefts left f fs later go less is =
      ap (after_threads (threads_of routines lefts fs)) (side-one left f later go)
      ∙ ap (λ t. record { threads = t; store = (go later).store }) (sym (before-push lefts left f fs (go later).threads less is))

  pub step-end : (lefts : List (Option Left)) (fs : List ℕ) (store : Store) → after_threads (threads_of routines lefts fs) (beside [] store) ≡ sided routines lefts fs store
  step-end lefts fs store = ap (λ t. record { threads = t; store = store }) (before-none (threads_of routines lefts fs))

  -- nothing is left of threads exactly where all have ended
  pub over-ended : (lefts : List (Option Left)) (fs : List ℕ) → length lefts ≤ length fs → all_ended (threads_of routines lefts fs) ≡ is_over lefts
  over-ended [] fs long = refl
  over-ended (None ∷ lefts) [] long = absurd (omega arith)
  over-ended (Some left ∷ lefts) [] long = absurd (omega arith)
  over-ended (None ∷ lefts) (f ∷ fs) long = over-ended lefts fs (omega arith)
  over-ended (Some left ∷ lefts) (f ∷ fs) long = refl

  module _ (known : Known) where
    -- a thread starts, and what is left of it goes to those before it
    pub start-step : (lefts : List (Option Left)) (left : Option Left) (fs : List ℕ) (i f : ℕ) (store later : Store) → i < length fs → f ≡ get_or fs i 0 → length lefts ≡ i →
        outcome_of routines (body_of routines f) left later ≡ known_at known f store →
        after_threads (threads_of routines lefts fs) (beside (starting known (drop i fs)) store) ≡ after_threads (threads_of routines (lefts ++ left ∷ []) fs) (beside (starting known (drop (i + 1) fs)) later)
    start-step lefts left fs i f store later less is long h =
        let at = is ∙ get_or-default fs i 0 f less in
        ap (λ l. after_threads (threads_of routines lefts fs) (beside (starting known l) store)) (drop-at fs i f less at)
        ∙ ap (λ o. after_threads (threads_of routines lefts fs) (and_side o (beside (starting known (drop (i + 1) fs))))) (sym h)
        ∙ step-after lefts left f fs later (beside (starting known (drop (i + 1) fs))) (omega arith) (at ∙ ap (λ n. get_or fs n f) (sym long))

    pub start-end : (lefts : List (Option Left)) (fs : List ℕ) (i : ℕ) (store : Store) → length fs ≤ i →
        after_threads (threads_of routines lefts fs) (beside (starting known (drop i fs)) store) ≡ sided routines lefts fs store
    start-end lefts fs i store past = ap (λ l. after_threads (threads_of routines lefts fs) (beside (starting known l) store)) (drop-past fs i past) ∙ step-end lefts fs store

    module _ (last : Store) where
      -- what a thread does that may have ended
      abbrev pub goes_on : Option Left → ℕ → Store → Outcome
      goes_on None f store = Done store
      goes_on (Some left) f store = resume routines known last (left_of routines left (body_of routines f)) store

      abbrev pub rest_goes : List (Option Left) → List ℕ → Store → Side
      rest_goes was fs store = beside (resuming routines known last (threads_of routines was fs)) store

      goes-cons : (left : Option Left) (was : List (Option Left)) (f : ℕ) (fs : List ℕ) (store : Store) → rest_goes (left ∷ was) (f ∷ fs) store ≡ and_side (goes_on left f store) (rest_goes was fs)
      goes-cons None was f fs store = refl
      goes-cons (Some left) was f fs store = refl

      pub resume-step : (was next : List (Option Left)) (left state : Option Left) (fs : List ℕ) (i f : ℕ) (store later : Store) → slice_get fs i ≡ Some f → i < length was → left ≡ get_or was i left → length next ≡ i →
          outcome_of routines (body_of routines f) state later ≡ goes_on left f store →
          after_threads (threads_of routines next fs) (rest_goes (drop i was) (drop i fs) store) ≡ after_threads (threads_of routines (next ++ state ∷ []) fs) (rest_goes (drop (i + 1) was) (drop (i + 1) fs) later)
      resume-step was next left state fs i f store later there less' is' long h =
          let less = slice_get_within fs i f there in
          let is = sym (get_or_from_slice_get fs i f f there) in
          ap (λ l. after_threads (threads_of routines next fs) (rest_goes l (drop i fs) store)) (drop-at was i left less' is')
          ∙ ap (λ l. after_threads (threads_of routines next fs) (rest_goes (left ∷ drop (i + 1) was) l store)) (drop-at fs i f less is)
          ∙ ap (after_threads (threads_of routines next fs)) (goes-cons left (drop (i + 1) was) f (drop (i + 1) fs) store)
          ∙ ap (λ o. after_threads (threads_of routines next fs) (and_side o (rest_goes (drop (i + 1) was) (drop (i + 1) fs)))) (sym h)
          ∙ step-after next state f fs later (rest_goes (drop (i + 1) was) (drop (i + 1) fs)) (omega arith) (is ∙ ap (λ n. get_or fs n f) (sym long))

      none-left : (was : List (Option Left)) → threads_of routines was [] ≡ no_more
      none-left [] = refl
      none-left (None ∷ was) = refl
      none-left (Some left ∷ was) = refl

      -- no thread is left, or no number of one
      pub resume-end : (was next : List (Option Left)) (fs : List ℕ) (i : ℕ) (store : Store) → length was ≤ i →
          after_threads (threads_of routines next fs) (rest_goes (drop i was) (drop i fs) store) ≡ sided routines next fs store
      resume-end was next fs i store past = ap (λ l. after_threads (threads_of routines next fs) (rest_goes l (drop i fs) store)) (drop-past was i past) ∙ step-end next fs store

      pub resume-short : (was next : List (Option Left)) (fs : List ℕ) (i : ℕ) (store : Store) → slice_get fs i ≡ None →
          after_threads (threads_of routines next fs) (rest_goes (drop i was) (drop i fs) store) ≡ sided routines next fs store
      resume-short was next fs i store past =
          ap (λ l. after_threads (threads_of routines next fs) (rest_goes (drop i was) l store)) (drop-none fs i past)
          ∙ ap (λ t. after_threads (threads_of routines next fs) (beside (resuming routines known last t) store)) (none-left (drop i was))
          ∙ step-end next fs store

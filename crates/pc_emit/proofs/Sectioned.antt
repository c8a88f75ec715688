-- What the sections of a flow's program come to: routines that are used, conditions, and the codes of threads, which call such routines.
use Rattle.std.proofs.Common.{◌≡◌, ◌≤◌, ◌<◌, ◌+◌, ◌*◌, ◌++◌, ◌==◌, ℕ, zero, suc, Bool, true, false, IsTrue, if◌then◌else◌, List, [], ◌∷◌, length, length-append, append_assoc, slice_get, slice_index_or, Option, Some, None, refl, sym, ap, ◌∙◌, subst, inl, inr, ⊎_elim, arith}
use Rattle.std.specs.Prelude.{unwrap_or}
use Rattle.std.specs.List.{AllByRecursion}
use Rattle.std.proofs.lemmas.Bool.{cases_lt}
use Rattle.std.proofs.lemmas.Bool.Decides.{nat_tests}
use Rattle.std.proofs.lemmas.Option.{none-some, same_Some}
use Rattle.pt_image.specs.declared.Parts.{Parts}
use Rattle.pc_lower.specs.declared.nodes.Step.{Step}
use Rattle.pc_lower.specs.declared.nodes.Test.{Test}
use Rattle.pc_lower.specs.Flow.{Node, Flow, no_abort}
use Rattle.pc_lower.specs.Residuals.{body_at}
use Rattle.pc_meaning.proofs.Lookups.{slice_get_middle}
use Rattle.pc_lower.specs.Laid.{Placing}
use Rattle.pc_lower.specs.Words.{words_in, Writing}
use Rattle.pc_lower.specs.Image.{condition_of, condition_words}
use Rattle.pc_lower.specs.StepCounts.{Sizes, through}
use Rattle.pc_lower.specs.Bounds.{span}
use Rattle.pc_lower.specs.Program.{IsEarlier, HasRoom}
use Rattle.pc_lower.specs.Limits.{started_by, sum_below, without_threads, passage}
use Rattle.pc_lower.specs.Numbering.{slots_of, function_of, first_started}
use Rattle.pc_lower.specs.Layable.{CanBeLaid}
use Rattle.pc_lower.specs.Shaped.{IsLasting}
use Rattle.pc_lower.proofs.Earlier.{earlier}
use Rattle.pc_lower.proofs.Slots.{same-of}
use Rattle.pc_lower.proofs.RegionThreads.{all-append, all-as}
use Rattle.tk_paths.proofs.Lists.{IsAmong}
use Rattle.tk_paths.proofs.Accepts.{among-left, among-right}
use Rattle.tk_paths.specs.Regions.{Region}
use Rattle.tk_paths.specs.Codes.{IsLaidIn}
use Rattle.tk_paths.specs.Programs.{Section, OfThread, OfRoutine, OfCondition, Unused, AreSections}
use Rattle.tk_paths.specs.Counts.{words_most, region_most}
use Rattle.tk_paths.specs.Trees.{nowhere, routine_at}
use Rattle.pc_emit.specs.Code.{size}
use Rattle.pc_emit.specs.Image.{found_from, slot_of, condition_size, functions_size}
use Rattle.pc_emit.specs.Fits.{placed, AreSizes}
use Rattle.pc_emit.specs.Sections.{calls_in, is_among, is_used, used_calls, counted, numbers_from, region, thread_code, condition_sections, function_section, with_routine, function_sections, numbers_of, sections_of}
use Rattle.pc_emit.proofs.Spans.{IsKnown, small-region}
use Rattle.pc_emit.proofs.Shares.{slot-own}
use Rattle.pc_emit.proofs.Called.{among-is, is-among, among-all, all-among, turning, IsCallee, callees, calls-through, calls-span}

-- ---- places in lists

found-at : (xs : List ℕ) (b g c : ℕ) → found_from b g xs ≡ Some c → (i : ℕ) × (c ≡ b + i) × (i < length xs) × (slice_index_or xs i 0 ≡ g)
found-at [] b g c e = absurd (none-some c e)
found-at (x ∷ xs) b g c e = by (x == g) refl e (λ k. found-at xs (b + 1) g c k)
  where
    by : (t : Bool) → (x == g) ≡ t → (if t then Some b else found_from (b + 1) g xs) ≡ Some c →
        (found_from (b + 1) g xs ≡ Some c → (i : ℕ) × (c ≡ b + 1 + i) × (i < length xs) × (slice_index_or xs i 0 ≡ g)) → (i : ℕ) × (c ≡ b + i) × (i < length (x ∷ xs)) × (slice_index_or (x ∷ xs) i 0 ≡ g)
    by true h k later = let s : b ≡ c = same_Some b c k in (0, omega (arith, s), omega arith, sym (same-of x g h))
    by false h k later = let r = later k in let l = r.1 in let m = r.2 in (suc (r.0), omega (arith, l), omega (arith, m), r.3)

found-some : (xs : List ℕ) (b g : ℕ) → IsAmong g xs → found_from b g xs ≡ None → ⊥
found-some [] b g h e = h
found-some (x ∷ xs) b g h e = by (x == g) refl e h (λ r k. found-some xs (b + 1) g r k)
  where
    apart : x ≡ g → (x == g) ≡ false → ⊥
    apart s d = let k : (x == g) ≡ true = grind (arith, nat_tests, s) in cc

    by : (t : Bool) → (x == g) ≡ t → (if t then Some b else found_from (b + 1) g xs) ≡ None → IsAmong g (x ∷ xs) → (IsAmong g xs → found_from (b + 1) g xs ≡ None → ⊥) → ⊥
    by true d k m later = none-some b (sym k)
    by false d k m later = ⊎_elim (λ s. apart s d) (λ r. later r k) m

index-there : (xs : List ℕ) (c : ℕ) → c < length xs → IsAmong (slice_index_or xs c 0) xs
index-there [] c h = absurd (omega (arith, h))
index-there (x ∷ xs) zero h = inl refl
index-there (x ∷ xs) (suc c) h = inr (index-there xs c (omega (arith, h)))

seam : (xs ys : List ℕ) (y : ℕ) → slice_index_or (xs ++ y ∷ ys) (length xs) 0 ≡ y
seam [] ys y = refl
seam (x ∷ xs) ys y = seam xs ys y

get-left : {X : Type 0} (xs : List X) (y x : X) (k : ℕ) → slice_get xs k ≡ Some x → slice_get (xs ++ y ∷ []) k ≡ Some x
get-left [] y x k e = absurd (none-some x e)
get-left (z ∷ xs) y x zero e = e
get-left (z ∷ xs) y x (suc k) e = get-left xs y x k e

get-last : {X : Type 0} (xs : List X) (y : X) → slice_get (xs ++ y ∷ []) (length xs) ≡ Some y
get-last [] y = refl
get-last (z ∷ xs) y = get-last xs y

get-index : {X : Type 0} (xs : List X) (d x : X) (k : ℕ) → slice_get xs k ≡ Some x → slice_index_or xs k d ≡ x
get-index [] d x k e = absurd (none-some x e)
get-index (z ∷ xs) d x zero e = same_Some z x e
get-index (z ∷ xs) d x (suc k) e = get-index xs d x k e

module _ (f : Flow) (writing : Writing) (sizes : Sizes) (placing : Placing) (image : Parts) (can : CanBeLaid f (placed f writing placing)) (sized : AreSizes f writing sizes)
    (passages : passage sizes f.bodies f.main + sum_below (started_by f.bodies) (passage sizes f.bodies) (length f.bodies) ≤ 2000000) where
  abbrev slots : List ℕ
  slots = slots_of f

  abbrev body : ℕ → Node
  body g = body_at f.bodies g

  abbrev spots : Placing
  spots = placed f writing placing

  abbrev numbers : List ℕ
  numbers = numbers_of writing f

  -- ---- functions

  pub slot-runs : (g c : ℕ) → slot_of slots g ≡ Some c → (c < length slots) × (function_of f c ≡ g)
  slot-runs g c e =
      let r = found-at slots 0 g c e in
      let i : r.0 ≡ c = (let k = r.1 in omega (arith, k)) in
      let l = r.2 in
      (omega (arith, l, i), subst (λ x. slice_index_or slots x 0 ≡ g) i r.3)

  called-free : (x : ℕ) → IsTrue (placing.called x) → slot_of slots x ≡ None
  called-free x h = by (slot_of slots x) refl
    where
      by : (o : Option ℕ) → slot_of slots x ≡ o → o ≡ None
      by None e = refl
      by (Some c) e = let r = slot-runs x c e in absurd ((can.called x h).apart c r.0 r.1)

  -- a function that no slot runs may be called
  free-called : (g : ℕ) → g < length f.bodies → slot_of slots g ≡ None → IsTrue (placing.called g)
  free-called g low e =
      ⊎_elim (λ (h : (c : ℕ) × (c < length slots) × (function_of f c ≡ g)). absurd (found-some slots 0 g (subst (λ x. IsAmong x slots) h.2 (index-there slots h.0 h.1)) e)) (λ h. h) (can.each g low)

  routine-room : (g : ℕ) → IsTrue (placing.called g) → HasRoom spots (body g) 1 0
  routine-room g h = let low = can.shape.low g h in let a = low.0 in let b = low.1 in (can.called g h).room 1 0 (omega arith) (omega (arith, a)) (omega (arith, b))

  lasting : (g : ℕ) → g < length f.bodies → IsLasting can.shape.ends (body g)
  lasting g low = can.shape.lasts g low

  short-passage : (c : ℕ) → c < length slots → passage sizes f.bodies (function_of f c) ≤ 2000000
  short-passage c less = slot-own f can.order can.main can.once can.there (passage sizes f.bodies) 2000000 passages c less

  -- ---- the functions that are used

  abbrev IsShort : ℕ → Type 0
  IsShort x = sizes.routines x ≤ 2000000

  -- what is called by a function that is used
  calls-short : (g : ℕ) → g < length f.bodies → (s : Option ℕ) (b : Bool) → slot_of slots g ≡ s → (b ≡ true → IsShort g) → is_used s b ≡ true → AllByRecursion IsShort (calls_in (body g))
  calls-short g low None b e few used =
      let t = (sized.counts g).routine_bound in
      let r = few used in
      all-as (λ x. sizes.routines x ≤ through sizes (body g)) IsShort (calls_in (body g)) (λ x k. omega (arith, k, t, r))
      (calls-through spots can.shape.ends sizes (body g) 1 0 (omega arith) (routine-room g (free-called g low e)) (lasting g low))
  calls-short g low (Some c) b e few used =
      let r = slot-runs g c e in
      let p = short-passage c r.0 in
      let room : HasRoom spots (body g) 0 0 = subst (λ x. HasRoom spots (body x) 0 0) r.1 (can.room c r.0) in
      let q : passage sizes f.bodies (function_of f c) ≡ passage sizes f.bodies g = ap (passage sizes f.bodies) r.1 in
      all-as (λ x. sizes.routines x ≤ span (without_threads sizes) (body g)) IsShort (calls_in (body g)) (λ x k. omega (arith, k, p, q))
      (calls-span spots can.shape.ends (without_threads sizes) (body g) 0 0 room (lasting g low))

  -- a function's number, in the list of functions
  there-at : (front nodes : List Node) (n : Node) (g : ℕ) → front ++ n ∷ nodes ≡ f.bodies → length front ≡ g → (body g ≡ n) × (g < length f.bodies)
  there-at front nodes n g e l = (
    ap (λ k. body_at f.bodies k) (sym l) ∙ ap (λ xs. body_at xs (length front)) (sym e) ∙ ap (λ o. unwrap_or o (body_at [] 0)) (slice_get_middle front n nodes),
    (let a = ap length e in let b = length-append front (n ∷ nodes) in omega (arith, a, b, l)),
  )

  used-step : (front nodes : List Node) (n : Node) (g : ℕ) → front ++ n ∷ nodes ≡ f.bodies → length front ≡ g → (later : List ℕ) → AllByRecursion IsShort later → (s : Option ℕ) (b : Bool) → slot_of slots g ≡ s → is_among g later ≡ b →
      (u : Bool) → is_used s b ≡ u → AllByRecursion IsShort (if u then calls_in n ++ later else later)
  used-step front nodes n g e l later rest s b es eb true u =
      let t = there-at front nodes n g e l in
      let few : b ≡ true → IsShort g = λ h. among-all IsShort g later (among-is g later (eb ∙ h)) rest in
      all-append IsShort (calls_in n) later (subst (λ x. AllByRecursion IsShort (calls_in x)) t.0 (calls-short g t.1 s b es few u)) rest
  used-step front nodes n g e l later rest s b es eb false u = rest

  -- one function more at the front
  longer : (front nodes : List Node) (n : Node) (g : ℕ) → front ++ n ∷ nodes ≡ f.bodies → length front ≡ g → ((front ++ n ∷ []) ++ nodes ≡ f.bodies) × (length (front ++ n ∷ []) ≡ g + 1)
  longer front nodes n g e l = (append_assoc front (n ∷ []) nodes ∙ e, (let a = length-append front (n ∷ []) in omega (arith, a, l)))

  used-short : (nodes front : List Node) (g : ℕ) → front ++ nodes ≡ f.bodies → length front ≡ g → AllByRecursion IsShort (used_calls slots g nodes)
  used-short [] front g e l = tt
  used-short (n ∷ nodes) front g e l =
      let m = longer front nodes n g e l in
      let later = used_calls slots (g + 1) nodes in
      used-step front nodes n g e l later (used-short nodes (front ++ n ∷ []) (g + 1) m.0 m.1) (slot_of slots g) (is_among g later) refl refl (is_used (slot_of slots g) (is_among g later)) refl

  -- ---- sections

  module _ (words : (p : List Step) → words_in (writing.words_of p) ≤ sizes.words p) (tests : (t : Test) → words_in (writing.test_words_of t) + 2 ≤ sizes.test_words t) where
    -- what a section comes to
    abbrev pub IsFound : Section → Type 0
    IsFound (OfThread c code) =
        (at : ℕ) × (routines : List Region) × (c < length slots) × (code ≡ thread_code writing numbers routines (body (function_of f c)) (first_started f c) at)
        × AllByRecursion (IsKnown image writing sizes numbers routines words tests) (calls_in (body (function_of f c))) × IsLaidIn image c [] code
    IsFound (OfRoutine r) = region_most image r + 255 ≤ 255 * 2000000
    IsFound (OfCondition p n q) = words_most p q + 255 ≤ 255 * 60002
    IsFound (Unused n) = Unit {0}

    -- the region of a routine is known by its number
    abbrev IsHeld : List Region → ℕ → Type 0
    IsHeld routines x = (r : Region) × (slice_get routines (slice_index_or numbers x 0) ≡ Some r) × (region_most image r + 255 ≤ 255 * sizes.routines x)

    held-known : (routines : List Region) (x : ℕ) → IsHeld routines x → IsKnown image writing sizes numbers routines words tests x
    held-known routines x h at =
        let e : routine_at routines at (slice_index_or numbers x 0) ≡ h.0 = get-index routines (nowhere at) h.0 (slice_index_or numbers x 0) h.1 in
        let m : region_most image (routine_at routines at (slice_index_or numbers x 0)) ≡ region_most image h.0 = ap (region_most image) e in
        let l = h.2 in
        omega (arith, m, l)

    -- of the functions below a number, those that are called by the used ones from it on
    abbrev AreHeld : List Region → ℕ → List ℕ → Type 0
    AreHeld routines g used = (x : ℕ) → x < g → slot_of slots x ≡ None → IsAmong x used → IsHeld routines x

    used-more : (n : Node) (later : List ℕ) (u : Bool) (x : ℕ) → IsAmong x later → IsAmong x (if u then calls_in n ++ later else later)
    used-more n later true x h = among-right x (calls_in n) later h
    used-more n later false x h = h

    -- what a function calls
    calls-held : (n : Node) (g l k : ℕ) (routines : List Region) (later : List ℕ) → IsEarlier g n → HasRoom spots n l k → AreHeld routines g (calls_in n ++ later) → AllByRecursion (IsKnown image writing sizes numbers routines words tests) (calls_in n)
    calls-held n g l k routines later early room held =
        all-among (IsKnown image writing sizes numbers routines words tests) (calls_in n)
        (λ x h. let c = among-all (IsCallee spots g) x (calls_in n) h (callees spots g n l k early room) in held-known routines x (held x c.0 (called-free x c.1) (among-left x (calls_in n) later h)))

    -- a function that is no routine leaves the routines as they are
    same-held : (g : ℕ) (routines : List Region) (later : List ℕ) → AreHeld routines g later → (slot_of slots g ≡ None → IsAmong g later → ⊥) → AreHeld routines (g + 1) later
    same-held g routines later held none x low free h =
        ⊎_elim (λ (l : x < g). held x l free h)
        (λ (u : g ≤ x). let e : x ≡ g = omega (arith, low, u) in absurd (none (subst (λ y. slot_of slots y ≡ None) e free) (subst (λ y. IsAmong y later) e h))) (cases_lt x g)

    module _ (behind : List Section) (last : AllByRecursion IsFound behind) where
      abbrev rest_of : List Region → (g : ℕ) → List Node → (at : ℕ) → List Section
      rest_of routines g nodes at = function_sections writing numbers slots (first_started f) routines g nodes at behind

      step : (n : Node) (nodes front : List Node) (g : ℕ) (routines : List Region) (N later : List ℕ) (at place : ℕ) → front ++ n ∷ nodes ≡ f.bodies → length front ≡ g → length N ≡ g → AllByRecursion IsShort later → (s : Option ℕ) (b : Bool) →
          slot_of slots g ≡ s → is_among g later ≡ b → N ++ (length routines ∷ numbers_from slots (counted s b (length routines)) (g + 1) nodes) ≡ numbers → AreHeld routines g (if is_used s b then calls_in n ++ later else later) →
          ((others : List Region) → N ++ (length routines ∷ numbers_from slots (length others) (g + 1) nodes) ≡ numbers → AreHeld others (g + 1) later → (next place : ℕ) → AreSections image place (rest_of others (g + 1) nodes next) → AllByRecursion IsFound (rest_of others (g + 1) nodes next)) →
          AreSections image place (function_section writing numbers slots (first_started f) routines s b n at ∷ rest_of (with_routine writing numbers slots (first_started f) routines s b n at) (g + 1) nodes (at + size writing n + 1)) →
          AllByRecursion IsFound (function_section writing numbers slots (first_started f) routines s b n at ∷ rest_of (with_routine writing numbers slots (first_started f) routines s b n at) (g + 1) nodes (at + size writing n + 1))
      step n nodes front g routines N later at place e l ln few None true es eb en held next laid =
          let t = there-at front nodes n g e l in
          let called = free-called g t.1 es in
          let room : HasRoom spots n 1 0 = subst (λ x. HasRoom spots x 1 0) t.0 (routine-room g called) in
          let early : IsEarlier g n = subst (IsEarlier g) t.0 (earlier f.bodies can.order g) in
          let lasts : IsLasting can.shape.ends n = subst (IsLasting can.shape.ends) t.0 (lasting g t.1) in
          let known = calls-held n g 1 0 routines later early room held in
          let r = region writing numbers routines n at in
          let a = small-region image writing sizes numbers routines words tests n at (turning can.shape.ends n lasts) known laid.1 in
          let b = (sized.counts g).routine_bound in
          let c : through sizes (body g) ≡ through sizes n = ap (through sizes) t.0 in
          let mine : region_most image r + 255 ≤ 255 * sizes.routines g = omega (arith, a, b, c) in
          let short : IsShort g = among-all IsShort g later (among-is g later eb) few in
          let others = routines ++ r ∷ [] in
          let longer : length routines + 1 ≡ length others = sym (length-append routines (r ∷ [])) in
          let number : slice_index_or numbers g 0 ≡ length routines = ap (λ xs. slice_index_or xs g 0) (sym en) ∙ ap (λ k. slice_index_or (N ++ (length routines ∷ numbers_from slots (length routines + 1) (g + 1) nodes)) k 0) (sym ln) ∙ seam N (numbers_from slots (length routines + 1) (g + 1) nodes) (length routines) in (
            omega (arith, mine, short),
            next others (subst (λ k. N ++ (length routines ∷ numbers_from slots k (g + 1) nodes) ≡ numbers) longer en)
                (λ x low free h.
                ⊎_elim (λ (u : x < g). let k = held x u free (among-right x (calls_in n) later h) in (k.0, get-left routines r k.0 (slice_index_or numbers x 0) k.1, k.2))
                (λ (u : g ≤ x). let q : g ≡ x = omega (arith, low, u) in subst (IsHeld others) q (r, ap (slice_get others) number ∙ get-last routines r, mine)) (cases_lt x g))
                (at + size writing n + 1) _ laid.5,
          )
      step n nodes front g routines N later at place e l ln few None false es eb en held next laid =
          (tt, next routines en (same-held g routines later held (λ free h. let k = is-among g later h in let z : true ≡ false = sym k ∙ eb in absurd (true-false z))) (at + size writing n + 1) _ laid)
        where
          true-false : true ≡ false → ⊥
          true-false z = cc
      step n nodes front g routines N later at place e l ln few (Some c) b es eb en held next laid =
          let t = there-at front nodes n g e l in
          let run = slot-runs g c es in
          let is : n ≡ body (function_of f c) = sym t.0 ∙ ap body (sym run.1) in
          let room : HasRoom spots n 0 0 = subst (λ x. HasRoom spots x 0 0) (sym is) (can.room c run.0) in
          let early : IsEarlier g n = subst (IsEarlier g) t.0 (earlier f.bodies can.order g) in
          let known = calls-held n g 0 0 routines later early room held in (
            (at, routines, run.0, ap (λ x. thread_code writing numbers routines x (first_started f c) at) is, subst (λ x. AllByRecursion (IsKnown image writing sizes numbers routines words tests) (calls_in x)) is known, laid.1),
            next routines en (same-held g routines later (λ x low free h. held x low free (among-right x (calls_in n) later h)) (λ free h. none-some c (sym free ∙ es))) (at + size writing n + 1) _ laid.3,
          )

      walk : (nodes front : List Node) (g : ℕ) (routines : List Region) (N : List ℕ) (at place : ℕ) → front ++ nodes ≡ f.bodies → length front ≡ g → length N ≡ g → N ++ numbers_from slots (length routines) g nodes ≡ numbers →
          AreHeld routines g (used_calls slots g nodes) → AreSections image place (rest_of routines g nodes at) → AllByRecursion IsFound (rest_of routines g nodes at)
      walk [] front g routines N at place e l ln en held laid = last
      walk (n ∷ nodes) front g routines N at place e l ln en held laid =
          let m = longer front nodes n g e l in
          let later = used_calls slots (g + 1) nodes in
          let lN : length (N ++ length routines ∷ []) ≡ g + 1 = (let a = length-append N (length routines ∷ []) in omega (arith, a, ln)) in
          step n nodes front g routines N later at place e l ln (used-short nodes (front ++ n ∷ []) (g + 1) m.0 m.1) (slot_of slots g) (is_among g later) refl refl en held
          (λ others en' held' at' place' laid'. walk nodes (front ++ n ∷ []) (g + 1) others (N ++ length routines ∷ []) at' place' m.0 m.1 lN (append_assoc N (length routines ∷ []) (numbers_from slots (length others) (g + 1) nodes) ∙ en') held' laid') laid

    -- ---- conditions

    conditions-found : (aborts : List (Bool × Test)) (at : ℕ) → ((j : ℕ) (a : Bool × Test) → slice_get aborts j ≡ Some a → words_in (writing.test_words_of a.1) + 1 ≤ 60002) → AllByRecursion IsFound (condition_sections writing aborts at)
    conditions-found [] at few = tt
    conditions-found (a ∷ aborts) at few = ((let w = few 0 a refl in omega (arith, w)), conditions-found aborts (at + condition_size writing a.1) (λ j b e. few (suc j) b e))

    pub sections-found : ((j : ℕ) → condition_words writing f j ≤ 60002) → AreSections image 0 (sections_of writing f) → AllByRecursion IsFound (sections_of writing f)
    sections-found few laid =
        let first = functions_size writing f.bodies in
        let conditions = conditions-found f.aborts first (λ j a e. let c = few j in let k : words_in (writing.test_words_of (condition_of f j)) ≡ words_in (writing.test_words_of a.1) = ap (λ o. words_in (writing.test_words_of ((unwrap_or o no_abort).1))) e in omega (arith, c, k)) in
        walk (condition_sections writing f.aborts first) conditions f.bodies [] 0 [] [] 0 0 refl refl refl refl (λ x low free h. absurd (omega (arith, low))) laid

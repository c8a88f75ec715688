-- The slots of a flow are numbered as they are to be.
use Rattle.std.proofs.Common.{◌≡◌, ◌⊎◌, ℕ, zero, suc, ◌+◌, ◌<◌, ◌≤◌, ◌++◌, inl, inr, ⊎_elim, List, [], ◌∷◌, length, length-append, append_assoc, append-nil, take, drop, replicate, get_or, refl, sym, ap, ◌∙◌, subst, arith}
use Rattle.std.specs.List.{AllByRecursion}
use Rattle.std.proofs.lemmas.List.{take-append-drop, length-take-le, length-replicate, replicate-append-replicate, drop_more, take_at}
use Rattle.std.proofs.Math.Seq.{get_or-append_seam}
use Rattle.std.proofs.lemmas.Option.{slice_get_past}
use Rattle.pc_lower.specs.Flow.{Node, Flow}
use Rattle.pc_lower.specs.Residuals.{body_at}
use Rattle.pc_lower.specs.Slots.{IsChild, AreChildren, Runs}
use Rattle.pc_lower.specs.Program.{IsEarlier, InOrder}
use Rattle.pc_lower.specs.Limits.{threads_of, started_by}
use Rattle.pc_lower.specs.Numbering.{all_started, generations, starters, AreSlots, slots_of, function_of, parent_of, first_started, HaveSlots}
use Rattle.pc_lower.proofs.Earlier.{earlier, below-or-past}
use Rattle.pc_lower.proofs.RegionThreads.{all-append, all-as}
use Rattle.pc_lower.proofs.Limits.{starts-earlier}

-- ---- lists

-- a list of numbers in the middle of another
run-there : (front fs rest : List ℕ) → Runs (λ c. get_or (front ++ (fs ++ rest)) c 0) (length front) fs
run-there front [] rest = tt
run-there front (f ∷ fs) rest =
    let long : length (front ++ f ∷ []) ≡ length front + 1 = length-append front (f ∷ []) in
    let whole : (front ++ f ∷ []) ++ (fs ++ rest) ≡ front ++ ((f ∷ fs) ++ rest) = append_assoc front (f ∷ []) (fs ++ rest) in
    let h = run-there (front ++ f ∷ []) fs rest in
    let g : Runs (λ c. get_or (front ++ ((f ∷ fs) ++ rest)) c 0) (length (front ++ f ∷ [])) fs = subst (λ l. Runs (λ c. get_or l c 0) (length (front ++ f ∷ [])) fs) whole h in
    (get_or-append_seam front f (fs ++ rest) 0, subst (λ n. Runs (λ c. get_or (front ++ ((f ∷ fs) ++ rest)) c 0) n fs) long g)

-- the same number so many times, each of which is the parent
children-there : (k n : ℕ) (front rest : List ℕ) → k < length front → AreChildren (λ c. get_or (front ++ (replicate n k ++ rest)) c 0) k (length front) n
children-there k zero front rest less = tt
children-there k (suc n) front rest less =
    let long : length (front ++ k ∷ []) ≡ length front + 1 = length-append front (k ∷ []) in
    let whole : (front ++ k ∷ []) ++ (replicate n k ++ rest) ≡ front ++ (replicate (suc n) k ++ rest) = append_assoc front (k ∷ []) (replicate n k ++ rest) in
    let h = children-there k n (front ++ k ∷ []) rest (omega (arith, less, long)) in
    let g : AreChildren (λ c. get_or (front ++ (replicate (suc n) k ++ rest)) c 0) k (length (front ++ k ∷ [])) n = subst (λ l. AreChildren (λ c. get_or l c 0) k (length (front ++ k ∷ [])) n) whole h in
    ((get_or-append_seam front k (replicate n k ++ rest) 0, less), subst (λ m. AreChildren (λ c. get_or (front ++ (replicate (suc n) k ++ rest)) c 0) k m n) long g)

-- ---- what functions start

module _ (bodies : List Node) where
  started-append : (xs ys : List ℕ) → all_started bodies (xs ++ ys) ≡ all_started bodies xs ++ all_started bodies ys
  started-append [] ys = refl
  started-append (x ∷ xs) ys = ap (λ l. started_by bodies x ++ l) (started-append xs ys) ∙ sym (append_assoc (started_by bodies x) (all_started bodies xs) (all_started bodies ys))

  starters-long : (c : ℕ) (fs : List ℕ) → length (starters bodies c fs) ≡ length (all_started bodies fs)
  starters-long c [] = refl
  starters-long c (f ∷ fs) =
      let h = starters-long (c + 1) fs in
      let a = length-append (replicate (length (started_by bodies f)) c) (starters bodies (c + 1) fs) in
      let b = length-append (started_by bodies f) (all_started bodies fs) in
      let r = length-replicate (length (started_by bodies f)) c in
      omega (arith, h, a, b, r)

  starters-append : (c : ℕ) (xs ys : List ℕ) → starters bodies c (xs ++ ys) ≡ starters bodies c xs ++ starters bodies (c + length xs) ys
  starters-append c [] ys = let e : c ≡ c + 0 = omega arith in ap (λ n. starters bodies n ys) e
  starters-append c (x ∷ xs) ys =
      let e : c + 1 + length xs ≡ c + length (x ∷ xs) = omega arith in
      ap (λ l. replicate (length (started_by bodies x)) c ++ l) (starters-append (c + 1) xs ys ∙ ap (λ n. starters bodies (c + 1) xs ++ starters bodies n ys) e)
      ∙ sym (append_assoc (replicate (length (started_by bodies x)) c) (starters bodies (c + 1) xs) (starters bodies (c + length (x ∷ xs)) ys))

  -- what so many generations later is started
  abbrev after : ℕ → List ℕ → List ℕ
  after zero fs = fs
  after (suc n) fs = after n (all_started bodies fs)

  unrolled : (n : ℕ) (fs ts : List ℕ) → ts ≡ fs ++ all_started bodies ts → ts ≡ generations bodies n fs ++ after n ts
  unrolled zero fs ts e = refl
  unrolled (suc n) fs ts e =
      let next : all_started bodies ts ≡ all_started bodies fs ++ all_started bodies (all_started bodies ts) = ap (all_started bodies) e ∙ started-append fs (all_started bodies ts) in
      let h = unrolled n (all_started bodies fs) (all_started bodies ts) next in
      e ∙ ap (λ l. fs ++ l) h ∙ sym (append_assoc fs (generations bodies n (all_started bodies fs)) (after n (all_started bodies ts)))

  rolled : (n : ℕ) (fs : List ℕ) → fs ++ all_started bodies (generations bodies n fs) ≡ generations bodies n fs ++ after n fs
  rolled zero fs = append-nil fs
  rolled (suc n) fs =
      let h = rolled n (all_started bodies fs) in
      ap (λ l. fs ++ l) (started-append fs (generations bodies n (all_started bodies fs)) ∙ h)
      ∙ sym (append_assoc fs (generations bodies n (all_started bodies fs)) (after n (all_started bodies fs)))

  module _ (order : InOrder 0 bodies) where
    pub starts-below : (f : ℕ) → AllByRecursion (λ g. g < f) (started_by bodies f)
    starts-below f = starts-earlier f (body_at bodies f) (earlier bodies order f)

    all-below : (n : ℕ) (fs : List ℕ) → AllByRecursion (λ f. f < suc n) fs → AllByRecursion (λ g. g < n) (all_started bodies fs)
    all-below n [] h = tt
    all-below n (f ∷ fs) h =
        all-append (λ g. g < n) (started_by bodies f) (all_started bodies fs)
        (all-as (λ g. g < f) (λ g. g < n) (started_by bodies f) (λ g l. omega (arith, l, h.0)) (starts-below f)) (all-below n fs h.1)

    none-after : (n : ℕ) (fs : List ℕ) → AllByRecursion (λ f. f < n) fs → after n fs ≡ []
    none-after zero [] h = refl
    none-after zero (f ∷ fs) h = absurd (omega (arith, h.0))
    none-after (suc n) fs h = none-after n (all_started bodies fs) (all-below n fs h)

    -- a function that isn't there starts nothing
    starts-some : (f : ℕ) → AllByRecursion (λ g. g < length bodies) (started_by bodies f)
    starts-some f =
        ⊎_elim (λ (lt : f < length bodies). all-as (λ g. g < f) (λ g. g < length bodies) (started_by bodies f) (λ g l. omega (arith, l, lt)) (starts-below f))
        (λ (past : length bodies ≤ f). nothing past) (below-or-past f (length bodies))
      where
        nothing : length bodies ≤ f → AllByRecursion (λ g. g < length bodies) (started_by bodies f)
        nothing past = let e = slice_get_past bodies f past in rw e tt

    all-some : (fs : List ℕ) → AllByRecursion (λ g. g < length bodies) (all_started bodies fs)
    all-some [] = tt
    all-some (f ∷ fs) = all-append (λ g. g < length bodies) (started_by bodies f) (all_started bodies fs) (starts-some f) (all-some fs)

-- ---- the slots of a flow

module _ (f : Flow) (order : InOrder 0 f.bodies) (main : f.main < length f.bodies) where
  abbrev all : List ℕ → List ℕ
  all = all_started f.bodies

  pub slots-are : AreSlots f (slots_of f)
  slots-are =
      let n : ℕ = length f.bodies in
      let h = rolled f.bodies n (f.main ∷ []) in
      let none = none-after f.bodies order n (f.main ∷ []) (main, tt) in
      sym (h ∙ ap (λ l. slots_of f ++ l) none ∙ append-nil (slots_of f))

  -- no other list is so
  pub one-list : (ts : List ℕ) → AreSlots f ts → ts ≡ slots_of f
  one-list ts e =
      let n : ℕ = length f.bodies in
      let below : AllByRecursion (λ g. g < n) ts = subst (AllByRecursion (λ g. g < n)) (sym e) (main, all-some f.bodies order ts) in
      unrolled f.bodies n (f.main ∷ []) ts e ∙ ap (λ l. slots_of f ++ l) (none-after f.bodies order n ts below) ∙ append-nil (slots_of f)

  abbrev slots : List ℕ
  slots = slots_of f

  -- the slots, cut at one of them
  cut : (c : ℕ) → c < length slots → slots ≡ take c slots ++ function_of f c ∷ drop (c + 1) slots
  cut c less = sym (take-append-drop c slots) ∙ ap (λ l. take c slots ++ l) (drop_more slots c 0 less)

  -- all that is started, cut at what a slot starts
  started-cut : (c : ℕ) → c < length slots → all slots ≡ all (take c slots) ++ (started_by f.bodies (function_of f c) ++ all (drop (c + 1) slots))
  started-cut c less = ap all (cut c less) ∙ started-append f.bodies (take c slots) (function_of f c ∷ drop (c + 1) slots)

  -- the slots up to one start as many as they are, and more
  module _ (c : ℕ) (less : suc c < length slots) (known : c ≤ length (all (take c slots))) where
    upto : take (suc c) slots ≡ take c slots ++ function_of f c ∷ []
    upto =
        let a = length-append (take c slots) (function_of f c ∷ []) in
        let b = length-take-le c slots (omega (arith, less)) in
        ap (take (suc c)) (cut c (omega (arith, less)) ∙ sym (append_assoc (take c slots) (function_of f c ∷ []) (drop (c + 1) slots)))
        ∙ take_at (take c slots ++ function_of f c ∷ []) (drop (c + 1) slots) (suc c) (omega (arith, a, b))

    grown : length (all (take (suc c) slots)) ≡ length (all (take c slots)) + length (started_by f.bodies (function_of f c))
    grown =
        let a = ap (λ l. length (all l)) upto ∙ ap length (started-append f.bodies (take c slots) (function_of f c ∷ [])) in
        let b = length-append (all (take c slots)) (started_by f.bodies (function_of f c) ++ []) in
        let d = ap length (append-nil (started_by f.bodies (function_of f c))) in
        omega (arith, a, b, d)

    closed : length (all (take (suc c) slots)) < suc c → ⊥
    closed short =
        let here : length (take (suc c) slots) ≡ suc c = length-take-le (suc c) slots (omega (arith, less)) in
        let exact : length (f.main ∷ all (take (suc c) slots)) ≡ suc c = omega (arith, known, grown, short) in
        let front : slots ≡ (f.main ∷ all (take (suc c) slots)) ++ all (drop (suc c) slots) =
        slots-are ∙ ap (λ l. f.main ∷ l) (ap all (sym (take-append-drop (suc c) slots)) ∙ started-append f.bodies (take (suc c) slots) (drop (suc c) slots)) in
        let is : AreSlots f (take (suc c) slots) = ap (take (suc c)) front ∙ take_at (f.main ∷ all (take (suc c) slots)) (all (drop (suc c) slots)) (suc c) exact in
        let whole = ap length (one-list (take (suc c) slots) is) in
        absurd (omega (arith, whole, here, less))

    one-more : suc c ≤ length (all (take (suc c) slots))
    one-more = ⊎_elim (λ short. absurd (closed short)) (λ long. long) (below-or-past (length (all (take (suc c) slots))) (suc c))

  enough : (c : ℕ) → c < length slots → c ≤ length (all (take c slots))
  enough zero less = omega arith
  enough (suc c) less = one-more c less (enough c (omega (arith, less)))

  module _ (c : ℕ) (less : c < length slots) (before fs behind : List ℕ) (starts : started_by f.bodies (function_of f c) ≡ before ++ (fs ++ behind)) where
    abbrev front : List ℕ
    front = f.main ∷ (all (take c slots) ++ before)

    abbrev rest : List ℕ
    rest = behind ++ all (drop (c + 1) slots)

    there : slots ≡ front ++ (fs ++ rest)
    there =
        slots-are ∙ ap (λ l. f.main ∷ l) (
        started-cut c less ∙ ap (λ l. all (take c slots) ++ (l ++ all (drop (c + 1) slots))) starts
        ∙ ap (λ l. all (take c slots) ++ l) (append_assoc before (fs ++ behind) (all (drop (c + 1) slots)) ∙ ap (λ l. before ++ l) (append_assoc fs behind (all (drop (c + 1) slots))))
        ∙ sym (append_assoc (all (take c slots)) before (fs ++ rest))
        )

    front-long : length front ≡ first_started f c + length before
    front-long = let a = length-append (all (take c slots)) before in omega (arith, a)

    parents-front : List ℕ
    parents-front = 0 ∷ (starters f.bodies 0 (take c slots) ++ replicate (length before) c)

    parents-rest : List ℕ
    parents-rest = replicate (length behind) c ++ starters f.bodies (c + 1) (drop (c + 1) slots)

    parents-there : 0 ∷ starters f.bodies 0 slots ≡ parents-front ++ (replicate (length fs) c ++ parents-rest)
    unfolding parents-front parents-rest
    parents-there =
        let taken = length-take-le c slots (omega (arith, less)) in
        let long : 0 + length (take c slots) ≡ c = omega (arith, taken) in
        let n : length (started_by f.bodies (function_of f c)) ≡ length before + (length fs + length behind) =
        ap length starts ∙ length-append before (fs ++ behind) ∙ ap (λ m. length before + m) (length-append fs behind) in
        let more : List ℕ = starters f.bodies (c + 1) (drop (c + 1) slots) in
        ap (λ l. 0 ∷ l) (
        ap (starters f.bodies 0) (cut c less) ∙ starters-append f.bodies 0 (take c slots) (function_of f c ∷ drop (c + 1) slots)
        ∙ ap (λ m. starters f.bodies 0 (take c slots) ++ starters f.bodies m (function_of f c ∷ drop (c + 1) slots)) long
        ∙ ap (λ m. starters f.bodies 0 (take c slots) ++ (replicate m c ++ more)) n
        ∙ ap (λ l. starters f.bodies 0 (take c slots) ++ (l ++ more)) (
        sym (replicate-append-replicate (length before) (length fs + length behind) c)
        ∙ ap (λ l. replicate (length before) c ++ l) (sym (replicate-append-replicate (length fs) (length behind) c))
        )
        ∙ ap (λ l. starters f.bodies 0 (take c slots) ++ l) (
        append_assoc (replicate (length before) c) (replicate (length fs) c ++ replicate (length behind) c) more
        ∙ ap (λ l. replicate (length before) c ++ l) (append_assoc (replicate (length fs) c) (replicate (length behind) c) more)
        )
        ∙ sym (append_assoc (starters f.bodies 0 (take c slots)) (replicate (length before) c) (replicate (length fs) c ++ parents-rest))
        )

    parents-long : length parents-front ≡ first_started f c + length before
    unfolding parents-front
    parents-long =
        let a = length-append (starters f.bodies 0 (take c slots)) (replicate (length before) c) in
        let b = starters-long f.bodies 0 (take c slots) in
        let d = length-replicate (length before) c in
        omega (arith, a, b, d)

    pub have-slots : HaveSlots f c (first_started f c + length before) fs
    have-slots = record {
      within = let a = ap length there ∙ length-append front (fs ++ rest) in let b = length-append fs rest in omega (arith, a, b, front-long);
      children =
          let low : c < length parents-front = (let e = enough c less in omega (arith, e, parents-long)) in
          subst (λ n. AreChildren (parent_of f) c n (length fs)) parents-long
          (subst (λ l. AreChildren (λ d. get_or l d 0) c (length parents-front) (length fs)) (sym parents-there) (children-there c (length fs) parents-front parents-rest low));
      run = subst (λ n. Runs (function_of f) n fs) front-long (subst (λ l. Runs (λ d. get_or l d 0) (length front) fs) (sym there) (run-there front fs rest));
    }

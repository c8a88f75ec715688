-- The functions that used functions call: earlier ones, routines, and no dearer than their callers.
use Rattle.std.proofs.Common.{◌≡◌, ◌≤◌, ◌<◌, ◌+◌, ◌*◌, ◌++◌, ◌==◌, ◌&&◌, ◌||◌, ℕ, zero, suc, Bool, true, false, IsTrue, List, [], ◌∷◌, refl, sym, subst, inl, inr, ⊎_elim, arith}
use Rattle.std.specs.List.{AllByRecursion}
use Rattle.std.proofs.lemmas.Bool.Decides.{nat_tests}
use Rattle.pc_lower.specs.Flow.{Node, Nodes, straight, sequence, branch, turns, bounded, call, pause, fork, guard, no_nodes, and}
use Rattle.pc_lower.specs.Laid.{Placing}
use Rattle.pc_lower.specs.StepCounts.{Sizes, option_words, through, through_all}
use Rattle.pc_lower.specs.Bounds.{span, span_all}
use Rattle.pc_lower.specs.Program.{IsEarlier, AreEarlier, HasRoom, HaveRoom}
use Rattle.pc_lower.specs.Shaped.{can_end, can_all_end, IsLasting, AreLasting}
use Rattle.pc_lower.proofs.Slots.{same-of}
use Rattle.pc_lower.proofs.RegionThreads.{all-append, all-as}
use Rattle.tk_paths.proofs.Lists.{IsAmong, passes-any, any-passes}
use Rattle.pc_emit.specs.Sections.{calls_in, calls_in_all, is_among}
use Rattle.pc_emit.proofs.Spans.{IsTurning, AreTurning}

-- ---- a number among others

pub among-is : (g : ℕ) (xs : List ℕ) → is_among g xs ≡ true → IsAmong g xs
among-is g xs h =
    let w = any-passes (λ f. f == g) xs h in
    let e : g ≡ w.which = same-of w.which g w.passes in
    subst (λ x. IsAmong x xs) (sym e) w.among

pub is-among : (g : ℕ) (xs : List ℕ) → IsAmong g xs → is_among g xs ≡ true
is-among g xs h = let e : (g == g) ≡ true = grind (arith, nat_tests) in passes-any (λ f. f == g) xs g h e

pub among-all : (P : ℕ → Type 0) (g : ℕ) (xs : List ℕ) → IsAmong g xs → AllByRecursion P xs → P g
among-all P g [] h all = absurd h
among-all P g (x ∷ xs) h all = ⊎_elim (λ e. subst P e all.0) (λ r. among-all P g xs r all.1) h

pub all-among : (P : ℕ → Type 0) (xs : List ℕ) → ((x : ℕ) → IsAmong x xs → P x) → AllByRecursion P xs
all-among P [] h = tt
all-among P (x ∷ xs) h = (h x (inl refl), all-among P xs (λ y k. h y (inr k)))

-- ---- nodes

mutual
  pub turning : (ends : ℕ → Bool) (n : Node) → IsLasting ends n → IsTurning n
  turning ends (straight steps) h = tt
  turning ends (sequence nodes) h = all-turning ends nodes h
  turning ends (branch test a b) h = (turning ends a h.0, turning ends b h.1)
  turning ends (turns test body) h = turning ends body h.0
  turning ends (bounded n test body) h = (h.0, turning ends body h.1)
  turning ends (call f) h = tt
  turning ends (pause i) h = tt
  turning ends (fork i fs) h = tt
  turning ends (guard j body) h = turning ends body h

  all-turning : (ends : ℕ → Bool) (nodes : Nodes) → AreLasting ends nodes → AreTurning nodes
  all-turning ends no_nodes h = tt
  all-turning ends (and n nodes) h = (turning ends n h.0, all-turning ends nodes h.1)

module _ (placing : Placing) (below : ℕ) where
  -- what may be called
  abbrev pub IsCallee : ℕ → Type 0
  IsCallee x = (x < below) × IsTrue (placing.called x)

  mutual
    pub callees : (n : Node) (l k : ℕ) → IsEarlier below n → HasRoom placing n l k → AllByRecursion IsCallee (calls_in n)
    callees (straight steps) l k e room = tt
    callees (sequence nodes) l k e room = all-callees nodes l k e room
    callees (branch test a b) l k e room = all-append IsCallee (calls_in a) (calls_in b) (callees a l k e.0 room.0) (callees b l k e.1 room.1)
    callees (turns test body) l k e room = callees body l k e room
    callees (bounded n test body) l k e room = callees body l (k + 1) e room.1
    callees (call f) l k e room = ((e, room.0), tt)
    callees (pause i) l k e room = tt
    callees (fork i fs) l k e room = tt
    callees (guard j body) l k e room = callees body l k e room.2

    all-callees : (nodes : Nodes) (l k : ℕ) → AreEarlier below nodes → HaveRoom placing nodes l k → AllByRecursion IsCallee (calls_in_all nodes)
    all-callees no_nodes l k e room = tt
    all-callees (and n nodes) l k e room = all-append IsCallee (calls_in n) (calls_in_all nodes) (callees n l k e.0 room.0) (all-callees nodes l k e.1 room.1)

-- in a call or in a bounded loop a node ends, so no loop without a number is there
module _ (placing : Placing) (ends : ℕ → Bool) where
  both : (a b : Bool) → a ≡ true → b ≡ true → (a && b) ≡ true
  both true b h k = k
  both false b h k = h

  either : (a b : Bool) → a ≡ true → (a || b) ≡ true
  either true b h = refl
  either false b h = absurd (false-true h)
    where
      false-true : (false ≡ true) → ⊥
      false-true e = cc

  true-false : (b : Bool) → b ≡ true → b ≡ false → ⊥
  true-false b h k = cc

  mutual
    ending : (n : Node) (l k : ℕ) → 1 ≤ l + k → HasRoom placing n l k → IsLasting ends n → can_end ends n ≡ true
    ending (straight steps) l k some room h = refl
    ending (sequence nodes) l k some room h = all-ending nodes l k some room h
    ending (branch test a b) l k some room h = either (can_end ends a) (can_end ends b) (ending a l k some room.0 h.0)
    ending (turns test body) l k some room h = absurd (true-false (can_end ends body) (ending body l k some room h.0) h.1)
    ending (bounded n test body) l k some room h = refl
    ending (call f) l k some room h = refl
    ending (pause i) l k some room h = absurd (let a = room.0 in let b = room.1 in omega (arith, some, a, b))
    ending (fork i fs) l k some room h = absurd (let a = room.0 in let b = room.1 in omega (arith, some, a, b))
    ending (guard j body) l k some room h = absurd (let a = room.0 in let b = room.1 in omega (arith, some, a, b))

    all-ending : (nodes : Nodes) (l k : ℕ) → 1 ≤ l + k → HaveRoom placing nodes l k → AreLasting ends nodes → can_all_end ends nodes ≡ true
    all-ending no_nodes l k some room h = refl
    all-ending (and n nodes) l k some room h = both (can_end ends n) (can_all_end ends nodes) (ending n l k some room.0 h.0) (all-ending nodes l k some room.1 h.1)

  no-turns : (body : Node) (l k : ℕ) → 1 ≤ l + k → HasRoom placing body l k → IsLasting ends body × (can_end ends body ≡ false) → ⊥
  no-turns body l k some room h = true-false (can_end ends body) (ending body l k some room h.0) h.1

  module _ (sizes : Sizes) where
    wider : (a b : ℕ) (xs : List ℕ) → a ≤ b → AllByRecursion (λ x. sizes.routines x ≤ a) xs → AllByRecursion (λ x. sizes.routines x ≤ b) xs
    wider a b xs le h = all-as (λ x. sizes.routines x ≤ a) (λ x. sizes.routines x ≤ b) xs (λ x k. omega (arith, k, le)) h

    join : (a b c : ℕ) (xs ys : List ℕ) → a ≤ c → b ≤ c → AllByRecursion (λ x. sizes.routines x ≤ a) xs → AllByRecursion (λ x. sizes.routines x ≤ b) ys → AllByRecursion (λ x. sizes.routines x ≤ c) (xs ++ ys)
    join a b c xs ys h k f g = all-append (λ x. sizes.routines x ≤ c) xs ys (wider a c xs h f) (wider b c ys k g)

    some-turns : (n o t : ℕ) → 1 ≤ n → t ≤ n * (o + t + 3) + (o + 4)
    some-turns zero o t h = absurd (omega (arith, h))
    some-turns (suc n) o t h = let e : suc n * (o + t + 3) ≡ n * (o + t + 3) + (o + t + 3) = omega arith in omega (arith, e)

    mutual
      pub calls-through : (n : Node) (l k : ℕ) → 1 ≤ l + k → HasRoom placing n l k → IsLasting ends n → AllByRecursion (λ x. sizes.routines x ≤ through sizes n) (calls_in n)
      calls-through (straight steps) l k some room h = tt
      calls-through (sequence nodes) l k some room h = all-calls-through nodes l k some room h
      calls-through (branch test a b) l k some room h =
          join (through sizes a) (through sizes b) (through sizes (branch test a b)) (calls_in a) (calls_in b) (omega arith) (omega arith) (calls-through a l k some room.0 h.0) (calls-through b l k some room.1 h.1)
      calls-through (turns test body) l k some room h = absurd (no-turns body l k some room h)
      calls-through (bounded n test body) l k some room h =
          wider (through sizes body) (through sizes (bounded n test body)) (calls_in body) (some-turns n (option_words sizes test) (through sizes body) h.0) (calls-through body l (k + 1) (omega arith) room.1 h.1)
      calls-through (call f) l k some room h = (omega arith, tt)
      calls-through (pause i) l k some room h = tt
      calls-through (fork i fs) l k some room h = tt
      calls-through (guard j body) l k some room h = absurd (let a = room.0 in let b = room.1 in omega (arith, some, a, b))

      all-calls-through : (nodes : Nodes) (l k : ℕ) → 1 ≤ l + k → HaveRoom placing nodes l k → AreLasting ends nodes → AllByRecursion (λ x. sizes.routines x ≤ through_all sizes nodes) (calls_in_all nodes)
      all-calls-through no_nodes l k some room h = tt
      all-calls-through (and n nodes) l k some room h =
          join (through sizes n) (through_all sizes nodes) (through_all sizes (and n nodes)) (calls_in n) (calls_in_all nodes) (omega arith) (omega arith) (calls-through n l k some room.0 h.0) (all-calls-through nodes l k some room.1 h.1)

    mutual
      pub calls-span : (n : Node) (l k : ℕ) → HasRoom placing n l k → IsLasting ends n → AllByRecursion (λ x. sizes.routines x ≤ span sizes n) (calls_in n)
      calls-span (straight steps) l k room h = tt
      calls-span (sequence nodes) l k room h = all-calls-span nodes l k room h
      calls-span (branch test a b) l k room h =
          join (span sizes a) (span sizes b) (span sizes (branch test a b)) (calls_in a) (calls_in b) (omega arith) (omega arith) (calls-span a l k room.0 h.0) (calls-span b l k room.1 h.1)
      calls-span (turns test body) l k room h = wider (span sizes body) (span sizes (turns test body)) (calls_in body) (omega arith) (calls-span body l k room h.0)
      calls-span (bounded n test body) l k room h =
          wider (through sizes body) (span sizes (bounded n test body)) (calls_in body) (some-turns n (option_words sizes test) (through sizes body) h.0) (calls-through body l (k + 1) (omega arith) room.1 h.1)
      calls-span (call f) l k room h = (omega arith, tt)
      calls-span (pause i) l k room h = tt
      calls-span (fork i fs) l k room h = tt
      calls-span (guard j body) l k room h = wider (span sizes body) (span sizes (guard j body)) (calls_in body) (omega arith) (calls-span body l k room.2 h)

      all-calls-span : (nodes : Nodes) (l k : ℕ) → HaveRoom placing nodes l k → AreLasting ends nodes → AllByRecursion (λ x. sizes.routines x ≤ span_all sizes nodes) (calls_in_all nodes)
      all-calls-span no_nodes l k room h = tt
      all-calls-span (and n nodes) l k room h =
          join (span sizes n) (span_all sizes nodes) (span_all sizes (and n nodes)) (calls_in n) (calls_in_all nodes) (omega arith) (omega arith) (calls-span n l k room.0 h.0) (all-calls-span nodes l k room.1 h.1)

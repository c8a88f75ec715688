-- Each word of a slot's turn keeps a good control.
use Rattle.std.proofs.Common.{◌≡◌, ◌≤◌, ◌+◌, ◌==◌, ◌||◌, ℕ, ℤ, zero, suc, Bool, true, false, not, nat_le, nat_lt, if◌then◌else◌, List, [], ◌∷◌, ◌++◌, map, take, drop, reverse, length, Option, Some, None, refl, sym, ap, ◌∙◌, subst, inr, arith, add-one}
use Rattle.std.proofs.lemmas.Bool.{false≢true}
use Rattle.std.proofs.lemmas.Bool.Decides.{nat_tests}
use Rattle.std.proofs.lemmas.List.{length-reverse, reverse-reverse}
use Rattle.mb_isa.specs.declared.Instr.{Instr}
use Rattle.mb_isa.specs.declared.Instr.TheVariants as instr
use Rattle.mb_isa.specs.Candidates.{decoded}
use Rattle.mb_isa.specs.Operands.{turns_of}
use Rattle.std.specs.Prelude.{slice_get, Result, Ok}
use Rattle.std.proofs.Math.Seq.{drop-cons}
use Rattle.pt_image.specs.declared.AbortLine.{AbortLine}
use Rattle.pt_image.specs.Listed.{is_listed}
use Rattle.mb_isa.specs.declared.Class.{Class}
use Rattle.mb_isa.specs.declared.Class.TheVariants as class
use Rattle.mb_isa.specs.Classes.{class_of}
use Rattle.mb_isa.specs.Costs.{cost_of}
use Rattle.pt_image.specs.declared.Parts.{Parts}
use Rattle.mb_pfu.specs.declared.parts.Watch.{Watch}
use Rattle.mb_pfu.specs.Tree.{Running, Tree, Leaf, Waits, Pausing, Finished, pause_at, has_ready, all_woken, report, reported_number, reported_watches, slot_of, watches_of, next_job, next_test}
use Rattle.mb_pfu.specs.Tree as tree
use Rattle.mb_pfu.specs.Contexts.{Context, plug, IsQuietBefore}
use Rattle.mb_pfu.specs.Contexts as contexts
use Rattle.mb_pfu.specs.Unit as unit
use Rattle.mb_pfu.specs.Unit.{fresh}
use Rattle.mb_pfu.specs.Calls as calls
use Rattle.mb_pfu.specs.Calls.{with_tree, last_of}
use Rattle.mb_pfu.specs.Rows.{with_last}
use Rattle.mb_pfu.specs.declared.parts.TrapKind.{TrapKind}
use Rattle.mb_pfu.specs.declared.parts.TrapKind.TheVariants.{WrongPlace, SlotBusy, TableFull, TableEmpty}
use Rattle.mb_pfu.specs.Unit.{entry_of}
use Rattle.mb_isa.specs.Control as control
use Rattle.mb_isa.specs.Control.{Control, goes, stack_of, start_in, turns_from, turns_on, wakes, tests_from, tests_on}
use Rattle.mb_isa.specs.Words as plans
use Rattle.mb_isa.specs.Words.{Plan, Rest, Refuse, Go, Work, Conclude, plan_of, plan_word, plan_decoded, is_barred, rests, on, on_to, enters, goes_to}
use Rattle.tk_cert.specs.declared.cert.CertParts.{CertParts}
use Rattle.tk_paths.proofs.Inner.{Image, State, Outcome, Goes, Traps, Stops, IsSound, stack, unless, is_none, is_nested, is_zero, is_busy, occurs, effect, returned, turned, dropped, turn_at, test_at, test_effect, begun}
use Rattle.tk_paths.proofs.Inner as machine
use Rattle.tk_paths.proofs.Conditions.{Cert}
use Rattle.tk_paths.specs.declared.word.Word.{Word}
use Rattle.tk_paths.specs.declared.word.Word.TheVariants.{Jump, Branch, Fork, Eot, End, Abrt, Leave, Call, Loop}
use Rattle.tk_paths.specs.Words.{word_of, goal_of, instr_in, read_instr, read}
use Rattle.tk_paths.specs.Kinds.{start_of, abort_at}
use Rattle.tk_paths.proofs.Firsts.{job}
use Rattle.tk_paths.proofs.Running.{IsTurned, IsTurnKept, turn-running}
use Rattle.tk_paths.proofs.Steps.{turn-kept}
use Rattle.tk_paths.proofs.Sounds.{sound-leaf}
use Rattle.tk_paths.proofs.SlotFacts.{middle, without_last}
use Rattle.tk_paths.proofs.Carried.{reverse-last}
use Rattle.tk_paths.proofs.Accepts.{Accepts}
use Rattle.tk_paths.proofs.Accepted.{abort-there}
use Rattle.tk_paths.proofs.Turns.{middle-same, last-reverse, reverse-none, plug-occurs, free-children, watches-are, paused-is, finished-is, forked-is, entered-is, left-is}
use Rattle.tk_paths.proofs.Controls.{E, D, sums, IsTurnAt, IsGood, IsPlanGood, turns-good}

pub busy-same : (t u : Tree) → ((c : ℕ) → occurs c 0 t ≡ occurs c 0 u) → (n lo : ℕ) → is_busy lo n t ≡ is_busy lo n u
busy-same t u h zero lo = refl
busy-same t u h (suc n) lo = ap (λ b. b || is_busy (lo + 1) n t) (h lo) ∙ ap (λ b. occurs lo 0 u || b) (busy-same t u h n (lo + 1))

stack-length : (watches : List Watch) → length (stack watches) ≡ length watches
stack-length [] = refl
stack-length (l ∷ watches) = let e = stack-length watches in omega (arith, e)

not-so : (m n : ℕ) → nat_le n m ≡ false → (m == n) ≡ false
not-so m n h = grind (arith, nat_tests, h)

below-so : (m n : ℕ) → nat_lt m n ≡ false → n ≤ m
below-so m n h = grind (arith, nat_tests, h)

not-zero-so : (n : ℕ) → is_zero n ≡ false → (n == 0) ≡ false
not-zero-so zero h = absurd (false≢true (sym h))
not-zero-so (suc n) h = grind (arith, nat_tests)

not-false : (b : Bool) → not b ≡ false → b ≡ true
not-false true h = refl
not-false false h = absurd (false≢true (sym h))

or-three : (x y z : Bool) → x || y || z ≡ false → (x ≡ false) × (y ≡ false) × (z ≡ false)
or-three true y z h = absurd (false≢true (sym h))
or-three false true z h = absurd (false≢true (sym h))
or-three false false z h = (refl, refl, h)

none-is : {X : Type 0} (xs : List X) → not (is_none xs) ≡ false → xs ≡ []
none-is [] h = refl
none-is (x ∷ xs) h = absurd (false≢true (sym h))

nested-none : (links counters : List ℕ) → not (is_none links) || not (is_none counters) ≡ false → (links ≡ []) × (counters ≡ [])
nested-none [] [] h = (refl, refl)
nested-none [] (x ∷ cs) h = absurd (false≢true (sym h))
nested-none (x ∷ links) cs h = absurd (false≢true (sym h))

some-so : (watches : List Watch) → is_none watches ≡ false → (length watches == 0) ≡ false
some-so [] h = absurd (false≢true (sym h))
some-so (l ∷ watches) h = grind (arith, nat_tests)

module _ (image : Parts) (cert : CertParts) (costs : List ℕ) (a : Accepts image cert costs) where
  abbrev F : Image
  F = E image cert costs a

  abbrev G : Cert
  G = D image cert costs a

  -- the children of a fork
  pub starts-are : (n lo : ℕ) → lo + n ≤ length image.slots → (tree.begun (take n (drop lo image.slots)) ≡ begun F lo n) × (length (take n (drop lo image.slots)) ≡ n)
  starts-are zero lo h = (refl, refl)
  starts-are (suc n) lo h =
      let r = starts-are n (lo + 1) (omega (arith, h)) in
      let c : drop lo image.slots ≡ start_of image lo ∷ drop (lo + 1) image.slots = drop-cons image.slots lo 0 (omega (arith, h)) ∙ ap (λ m. start_of image lo ∷ drop m image.slots) (sym (add-one lo)) in (
        ap (λ xs. tree.begun (take (suc n) xs)) c ∙ ap (tree.member (Leaf [] (Running (start_of image lo)))) r.0,
        ap (λ xs. length (take (suc n) xs)) c ∙ (let e = r.1 in omega (arith, e)),
      )

  unless-false : (charged : ℕ) (b : Bool) (kind : TrapKind) (o : Outcome) → IsTurnKept F G charged (unless b kind o) → (b ≡ false) × IsTurnKept F G charged o
  unless-false charged true kind o h = absurd h
  unless-false charged false kind o h = (refl, h)

  module _ (charged s place : ℕ) (u : unit.State) (upper : Option ℤ) (slots : u.slots ≡ length image.slots) (g : IsTurnAt image cert costs a charged s place u upper) where
    abbrev w : List Watch
    w = g.watches

    abbrev at : Context
    at = g.context

    abbrev who : control.Who
    who = control.Turn s

    abbrev state : List Bool → State
    state choices = record { phase = machine.InTurns; tree = plug at (Leaf w (Running place)); links = reverse u.links; counters = reverse u.counters; choices = choices; upper = upper }

    kept : (choices : List Bool) → IsTurnKept F G charged (turn_at F at w place (state choices) (read image place upper))
    kept choices =
        turn-kept F G (sums image cert costs a) charged (state choices) refl (g.sound, inr (record { runs = job at w place; is_there = refl; quiet = g.quiet; running = g.running }))
        (record { context = at; watches = w; place = place; is_there = refl; quiet = g.quiet })

    sound : IsSound F (plug at (Leaf w (Running g.stale)))
    sound = sound-leaf F at w w (Running place) (Running g.stale) g.sound

    mid : middle at ≡ s
    mid = sym (middle-same at) ∙ g.slot_is

    inside : watches_of s u.tree ≡ w
    inside = ap (λ x. watches_of x u.tree) (sym g.slot_is) ∙ ap (watches_of (contexts.middle at)) g.tree_is ∙ watches-are F at w g.stale g.quiet sound

    stacked : stack_of s u ≡ stack w
    stacked = ap (λ (v : List Watch). map (λ (l : Watch). l.entry.number) v) inside

    on-tree : (f : ℕ → Tree → Tree) (t : Tree) → f (contexts.middle at) (plug at (Leaf w (Running g.stale))) ≡ t → f s u.tree ≡ t
    on-tree f t h = ap (λ x. f x u.tree) (sym g.slot_is) ∙ ap (f (contexts.middle at)) g.tree_is ∙ h

    -- the slot goes on
    goes-on : (c to : ℕ) (w' : List Watch) (u' : unit.State) (up : Option ℤ) → u'.slots ≡ length image.slots → u'.tree ≡ plug at (Leaf w' (Running g.stale)) →
        IsTurned F G (charged + c) (plug at (Leaf w' (Running to))) (reverse u'.links) (reverse u'.counters) up → IsGood image cert costs a (charged + c) (record { phase = control.Running s to; unit = u'; upper = up })
    goes-on c to w' u' up sl t k = (
      sl,
      record {
        context = at;
        watches = w';
        stale = g.stale;
        tree_is = t;
        slot_is = g.slot_is;
        quiet = g.quiet;
        sound = k.0;
        running = turn-running F G (charged + c) (job at w' to) (plug at (Leaf w' (Running to))) (reverse u'.links) (reverse u'.counters) up refl g.quiet k;
      },
    )

    -- the same unit
    stays : (c to : ℕ) (up : Option ℤ) → IsTurned F G (charged + c) (plug at (Leaf w (Running to))) (reverse u.links) (reverse u.counters) up → IsGood image cert costs a (charged + c) (record { phase = control.Running s to; unit = u; upper = up })
    stays c to up k = goes-on c to w u up slots g.tree_is k

    abbrev Kept : Word → Type 0
    Kept x = (choices : List Bool) → IsTurnKept F G charged (effect F at w place (state choices) x)

    abbrev Good : Plan → Type 0
    Good p = IsPlanGood image cert costs a charged p

    jump-good : (o : Option ℕ) → Kept (Jump o) → Good (plans.jump image who place upper u (goes_to image who place upper u o))
    jump-good None k = k []
    jump-good (Some to) k = stays (cost_of costs class.Jump) to None (k []).1

    branch-good : (i : Instr) (o : Option ℕ) → Kept (Branch o) → Good (plans.Branch i (goes_to image who place upper u o) (goes who (place + 1) u))
    branch-good i None k = absurd (k [])
    branch-good i (Some to) k =
        ((goes who to u, refl, stays (cost_of costs class.Taken) to None (k (true ∷ [])).1), stays (cost_of costs class.Untaken) (place + 1) None (k (false ∷ [])).1)

    -- no link and no counter
    unnested : is_nested (state []) ≡ false → unit.is_nested u ≡ false
    unnested h =
        let n = nested-none (reverse u.links) (reverse u.counters) h in
        ap (λ (l : List ℕ). not (length l == 0) || not (length u.counters == 0)) (reverse-none u.links n.0) ∙ ap (λ (l : List ℕ). not (length l == 0)) (reverse-none u.counters n.1)

    -- a call that isn't refused
    by-tree : (c : Class) (t t' : Tree) → t ≡ t' → IsTurned F G (charged + cost_of costs c) t' (reverse u.links) (reverse u.counters) None → Good (rests c (Ok (with_tree t u)))
    by-tree c t t' e k = let T : Tree → Type 0 = λ x. IsTurned F G (charged + cost_of costs c) x (reverse u.links) (reverse u.counters) None in turns-good image cert costs a (charged + cost_of costs c) (with_tree t u) slots (subst T (sym e) k)

    good-if : (b : Bool) (p q : Plan) → b ≡ true → Good p → Good (if b then p else q)
    good-if true p q e h = h
    good-if false p q e h = absurd (false≢true e)

    good-unless : (b : Bool) (p q : Plan) → b ≡ false → Good q → Good (if b then p else q)
    good-unless true p q e h = absurd (false≢true (sym e))
    good-unless false p q e h = h

    rests-unless : (c : Class) (b : Bool) (kind : TrapKind) (r : Result unit.State TrapKind) → b ≡ false → Good (rests c r) → Good (rests c (calls.unless b kind r))
    rests-unless c true kind r e h = absurd (false≢true (sym e))
    rests-unless c false kind r e h = h

    on-unless : (c : Class) (to : ℕ) (b : Bool) (kind : TrapKind) (r : Result unit.State TrapKind) → b ≡ false → Good (on c s to r) → Good (on c s to (calls.unless b kind r))
    on-unless c to true kind r e h = absurd (false≢true (sym e))
    on-unless c to false kind r e h = h

    eot-good : Kept Eot → Good (plan_of image who place upper u instr.Eot)
    eot-good k =
        let listed = F.is_pause place (middle at) (stack w) in
        let x1 = unless-false charged (is_nested (state [])) WrongPlace _ (k []) in
        let x2 = unless-false charged (not listed) WrongPlace _ x1.1 in
        let here : is_listed image.pauses place s (stack_of s u) ≡ true =
        ap (λ x. is_listed image.pauses place s x) stacked ∙ ap (λ x. is_listed image.pauses place x (stack w)) (sym mid) ∙ not-false listed x2.0 in
        let t = tree.paused s place u.tree in
        good-if (is_listed image.pauses place s (stack_of s u)) (rests class.Eot (calls.pause u s place)) (Refuse WrongPlace) here
        (rests-unless class.Eot (unit.is_nested u) WrongPlace (Ok (with_tree t u)) (unnested x1.0)
        (by-tree class.Eot t _ (on-tree (λ x. tree.paused x place) _ (paused-is F at w g.stale g.quiet sound place)) x2.1.1))

    end-good : Kept End → Good (plan_of image who place upper u instr.End)
    end-good k =
        let x1 = unless-false charged (is_nested (state [])) WrongPlace _ (k []) in
        let x2 = unless-false charged (not (is_none w)) WrongPlace _ x1.1 in
        let t = tree.finished s u.tree in
        let alone : watches_of s u.tree ≡ [] = inside ∙ none-is w x2.0 in
        let clear : (unit.is_nested u || not (length (watches_of s u.tree) == 0)) ≡ false =
        ap (λ b. b || not (length (watches_of s u.tree) == 0)) (unnested x1.0) ∙ ap (λ (v : List Watch). not (length v == 0)) alone in
        rests-unless class.End (unit.is_nested u || not (length (watches_of s u.tree) == 0)) WrongPlace (Ok (with_tree t u)) clear
        (by-tree class.End t _ (on-tree tree.finished _ (finished-is F at w g.stale g.quiet sound)) x2.1.1)

    fork-good : (lo n : ℕ) → Kept (Fork lo n) → Good (plan_of image who place upper u (instr.Fork lo n))
    fork-good lo n k =
        let listed = F.is_fork place (middle at) (stack w) in
        let x1 = unless-false charged (is_nested (state [])) WrongPlace _ (k []) in
        let x2 = unless-false charged (not listed) WrongPlace _ x1.1 in
        let x3 = unless-false charged (is_zero n || nat_le lo (middle at) || nat_lt F.slots (lo + n)) WrongPlace _ x2.1 in
        let x4 = unless-false charged (is_busy lo n (plug at (Leaf w (Running place)))) SlotBusy _ x3.1 in
        let p = or-three (is_zero n) (nat_le lo (middle at)) (nat_lt (length image.slots) (lo + n)) x3.0 in
        let here : is_listed image.forks place s (stack_of s u) ≡ true =
        ap (λ x. is_listed image.forks place s x) stacked ∙ ap (λ x. is_listed image.forks place x (stack w)) (sym mid) ∙ not-false listed x2.0 in
        let starts = take n (drop lo image.slots) in
        let kids = starts-are n lo (below-so (length image.slots) (lo + n) p.2) in
        let t = tree.forked s place lo starts u.tree in
        let first : (not (is_listed image.forks place s (stack_of s u)) || nat_lt (length image.slots) (lo + n)) ≡ false =
        ap (λ b. not b || nat_lt (length image.slots) (lo + n)) here ∙ p.2 in
        let size = kids.1 in
        let misplaced : unit.is_misplaced u s lo starts ≡ false =
        ap (λ b. b || length starts == 0 || nat_le lo s || nat_lt u.slots (lo + length starts)) (unnested x1.0)
        ∙ ap (λ m. m == 0 || nat_le lo s || nat_lt u.slots (lo + m)) size
        ∙ ap (λ b. b || nat_le lo s || nat_lt u.slots (lo + n)) (not-zero-so n p.0)
        ∙ ap (λ x. nat_le lo x || nat_lt u.slots (lo + n)) (sym mid)
        ∙ ap (λ b. b || nat_lt u.slots (lo + n)) p.1
        ∙ ap (λ x. nat_lt x (lo + n)) slots ∙ p.2 in
        let stale : is_busy lo n u.tree ≡ false =
        ap (is_busy lo n) g.tree_is
        ∙ busy-same (plug at (Leaf w (Running g.stale))) (plug at (Leaf w (Running place))) (λ c. plug-occurs c (Leaf w (Running g.stale)) (Leaf w (Running place)) (λ j. refl) at 0) n lo ∙ x4.0 in
        let free : tree.is_busy lo starts u.tree ≡ false = free-children u.tree lo starts (ap (λ m. is_busy lo m u.tree) size ∙ stale) in
        good-unless (not (is_listed image.forks place s (stack_of s u)) || nat_lt (length image.slots) (lo + n)) (Refuse WrongPlace) (rests class.Fork (calls.fork u s place lo starts)) first
        (rests-unless class.Fork (unit.is_misplaced u s lo starts) WrongPlace (calls.unless (tree.is_busy lo starts u.tree) SlotBusy (Ok (with_tree t u))) misplaced
        (rests-unless class.Fork (tree.is_busy lo starts u.tree) SlotBusy (Ok (with_tree t u)) free
        (by-tree class.Fork t _ (on-tree (λ x. tree.forked x place lo starts) _ (forked-is F at w g.stale g.quiet sound place lo starts) ∙ ap (λ x. plug at (Waits w place lo x)) kids.0) x4.1.1)))

    abrt-good : (j : ℕ) → Kept (Abrt j) → Good (plan_of image who place upper u (instr.Abrt j))
    abrt-good j k =
        let x1 = unless-false charged (not (F.is_abort j)) WrongPlace _ (k []) in
        let x2 = unless-false charged (is_nested (state [])) WrongPlace _ x1.1 in
        let x3 = unless-false charged (nat_le 8 (length (stack w))) TableFull _ x2.1 in
        let there : nat_lt j (length image.aborts) ≡ true = not-false (nat_lt j (length image.aborts)) x1.0 in
        let l = abort-there image.aborts j (grind (arith, nat_tests, there)) in
        let e : abort_at image j ≡ l.0 = l.2 in
        let entry : AbortLine → Watch = λ x. fresh j x.weak x.cond x.handler in
        let t = tree.entered s (entry l.0) u.tree in
        let full : (length (watches_of s u.tree) == 8) ≡ false =
        ap (λ (v : List Watch). length v == 8) inside ∙ not-so (length w) 8 (ap (nat_le 8) (sym (stack-length w)) ∙ x3.0) in
        let T : AbortLine → Type 0 = λ x. IsTurned F G (charged + cost_of costs class.Abrt) (plug at (Leaf (with_last (entry x) w) (Running (place + 1)))) (reverse u.links) (reverse u.counters) None in
        let P : Option AbortLine → Type 0 = λ o. Good (enters s place j u o) in
        subst P (sym l.1)
        (on-unless class.Abrt (place + 1) (unit.is_nested u) WrongPlace (calls.unless (length (watches_of s u.tree) == 8) TableFull (Ok (with_tree t u))) (unnested x2.0)
        (on-unless class.Abrt (place + 1) (length (watches_of s u.tree) == 8) TableFull (Ok (with_tree t u)) full
        (goes-on (cost_of costs class.Abrt) (place + 1) (with_last (entry l.0) w) (with_tree t u) None slots (on-tree (λ x. tree.entered x (entry l.0)) _ (entered-is F at w g.stale g.quiet sound (entry l.0))) (subst T e x3.1.1))))

    leave-good : Kept Leave → Good (plan_of image who place upper u instr.Leave)
    leave-good k =
        let x1 = unless-false charged (is_nested (state [])) WrongPlace _ (k []) in
        let x2 = unless-false charged (is_none w) TableEmpty _ x1.1 in
        let t = tree.left s u.tree in
        let some : (length (watches_of s u.tree) == 0) ≡ false = ap (λ (v : List Watch). length v == 0) inside ∙ some-so w x2.0 in
        on-unless class.Leave (place + 1) (unit.is_nested u) WrongPlace (calls.unless (length (watches_of s u.tree) == 0) TableEmpty (Ok (with_tree t u))) (unnested x1.0)
        (on-unless class.Leave (place + 1) (length (watches_of s u.tree) == 0) TableEmpty (Ok (with_tree t u)) some
        (goes-on (cost_of costs class.Leave) (place + 1) (without_last w) (with_tree t u) None slots (on-tree tree.left _ (left-is F at w g.stale g.quiet sound)) x2.1.1))

    call-good : (to : ℕ) → Kept (Call to) → Good (plan_of image who place upper u (instr.Call to))
    call-good to k =
        let x1 = unless-false charged (nat_le 16 (length (reverse u.links))) TableFull _ (k []) in
        let room : (length u.links == 16) ≡ false = not-so (length u.links) 16 (ap (nat_le 16) (sym (length-reverse u.links)) ∙ x1.0) in
        let u' : unit.State = record u { links = u.links ++ (place + 1) ∷ [] } in
        let T : List ℕ → Type 0 = λ l. IsTurned F G (charged + cost_of costs class.Call) (plug at (Leaf w (Running to))) l (reverse u.counters) None in
        on-unless class.Call to (length u.links == 16) TableFull (Ok u') room (goes-on (cost_of costs class.Call) to w u' None slots g.tree_is (subst T (sym (reverse-last u.links (place + 1))) x1.1.1))

    loop-good : (turns : ℕ) → Kept (Loop turns) → Good (on class.Loop s (place + 1) (calls.loop_set u turns))
    loop-good turns k =
        let x1 = unless-false charged (nat_le 136 (length (reverse u.counters))) TableFull _ (k []) in
        let room : (length u.counters == 136) ≡ false = not-so (length u.counters) 136 (ap (nat_le 136) (sym (length-reverse u.counters)) ∙ x1.0) in
        let u' : unit.State = record u { counters = u.counters ++ turns ∷ [] } in
        let T : List ℕ → Type 0 = λ l. IsTurned F G (charged + cost_of costs class.Loop) (plug at (Leaf w (Running (place + 1)))) (reverse u.links) l None in
        on-unless class.Loop (place + 1) (length u.counters == 136) TableFull (Ok u') room (goes-on (cost_of costs class.Loop) (place + 1) w u' None slots g.tree_is (subst T (sym (reverse-last u.counters turns)) x1.1.1))

    ret-good : (l : List ℕ) → reverse u.links ≡ l → IsTurnKept F G charged (returned F at w (state []) l) → Good (plan_of image who place upper u instr.Ret)
    ret-good [] e k = absurd k
    ret-good (x ∷ rest) e k =
        let u' : unit.State = record u { links = reverse rest } in
        let P : Option (List ℕ × ℕ) → Type 0 = λ o. Good (on_to class.Ret s (λ back. back) (calls.on_last o (λ before back. (record u { links = before }, back)))) in
        let T : List ℕ → Type 0 = λ l. IsTurned F G (charged + cost_of costs class.Ret) (plug at (Leaf w (Running x))) l (reverse u.counters) None in
        subst P (sym (last-reverse u.links rest x e)) (goes-on (cost_of costs class.Ret) x w u' None slots g.tree_is (subst T (sym (reverse-reverse rest)) k.1))

    next-good : (to : ℕ) (l : List ℕ) → reverse u.counters ≡ l → IsTurnKept F G charged (turned F to at w place (state []) l) → Good (plan_of image who place upper u (instr.Next to))
    next-good to [] e k = absurd k
    next-good to (zero ∷ rest) e k =
        let u' : unit.State = record u { counters = reverse rest } in
        let P : Option (List ℕ × ℕ) → Type 0 = λ o. Good (on_to class.Next s (λ again. if again then place + 1 else to) (calls.on_last o (calls.counted u))) in
        let T : List ℕ → Type 0 = λ l. IsTurned F G (charged + cost_of costs class.Next) (plug at (Leaf w (Running to))) (reverse u.links) l None in
        subst P (sym (last-reverse u.counters rest zero e)) (goes-on (cost_of costs class.Next) to w u' None slots g.tree_is (subst T (sym (reverse-reverse rest)) k.1))
    next-good to (suc n ∷ rest) e k =
        let u' : unit.State = record u { counters = reverse rest ++ n ∷ [] } in
        let P : Option (List ℕ × ℕ) → Type 0 = λ o. Good (on_to class.Next s (λ again. if again then place + 1 else to) (calls.on_last o (calls.counted u))) in
        let T : List ℕ → Type 0 = λ l. IsTurned F G (charged + cost_of costs class.Next) (plug at (Leaf w (Running (place + 1)))) (reverse u.links) l None in
        let back : reverse (reverse rest ++ n ∷ []) ≡ n ∷ rest = reverse-last (reverse rest) n ∙ ap (λ m. n ∷ m) (reverse-reverse rest) in
        subst P (sym (last-reverse u.counters rest (suc n) e)) (goes-on (cost_of costs class.Next) (place + 1) w u' None slots g.tree_is (subst T (sym back) k.1))

    drop-good : (l : List ℕ) → reverse u.counters ≡ l → IsTurnKept F G charged (dropped F at w place (state []) l) → Good (plan_of image who place upper u instr.Drop)
    drop-good [] e k = absurd k
    drop-good (x ∷ rest) e k =
        let u' : unit.State = record u { counters = reverse rest } in
        let P : Option (List ℕ × ℕ) → Type 0 = λ o. Good (on class.Drop s (place + 1) (calls.on_last o (λ before turns. record u { counters = before }))) in
        let T : List ℕ → Type 0 = λ l. IsTurned F G (charged + cost_of costs class.Drop) (plug at (Leaf w (Running (place + 1)))) (reverse u.links) l None in
        subst P (sym (last-reverse u.counters rest x e)) (goes-on (cost_of costs class.Drop) (place + 1) w u' None slots g.tree_is (subst T (sym (reverse-reverse rest)) k.1))

    instr-good : (i : Instr) → Kept (word_of image place upper i) → Good (plan_of image who place upper u i)
    instr-good (instr.Imm imm) k = stays (cost_of costs class.Imm) (place + 1) (Some imm) (k []).1
    instr-good (instr.Bri imm) k = jump-good (goal_of image place upper imm) k
    instr-good (instr.Beqi ra imm) k = branch-good (instr.Beqi ra imm) (goal_of image place upper imm) k
    instr-good (instr.Bnei ra imm) k = branch-good (instr.Bnei ra imm) (goal_of image place upper imm) k
    instr-good (instr.Blti ra imm) k = branch-good (instr.Blti ra imm) (goal_of image place upper imm) k
    instr-good (instr.Blei ra imm) k = branch-good (instr.Blei ra imm) (goal_of image place upper imm) k
    instr-good (instr.Bgti ra imm) k = branch-good (instr.Bgti ra imm) (goal_of image place upper imm) k
    instr-good (instr.Bgei ra imm) k = branch-good (instr.Bgei ra imm) (goal_of image place upper imm) k
    instr-good (instr.Fork lo n) k = fork-good lo n k
    instr-good instr.Eot k = eot-good k
    instr-good instr.End k = end-good k
    instr-good (instr.Abrt j) k = abrt-good j k
    instr-good instr.Leave k = leave-good k
    instr-good (instr.Call to) k = call-good to k
    instr-good instr.Ret k = ret-good (reverse u.links) refl (k [])
    instr-good (instr.Loop n) k = loop-good (turns_of upper n) k
    instr-good (instr.Next to) k = next-good to (reverse u.counters) refl (k [])
    instr-good instr.Drop k = drop-good (reverse u.counters) refl (k [])
    instr-good (instr.Cend ra) k = k []
    instr-good other k = stays (cost_of costs (class_of false other)) (place + 1) None (k []).1

    decoded-good : (o : Option Instr) → ((choices : List Bool) → IsTurnKept F G charged (turn_at F at w place (state choices) (read_instr image place upper o))) → Good (plan_decoded image who place upper u o)
    decoded-good None k = k []
    decoded-good (Some i) k = by (is_barred upper i) k
      where
        by : (b : Bool) → ((choices : List Bool) → IsTurnKept F G charged (turn_at F at w place (state choices) (if b then None else Some (word_of image place upper i)))) → Good (if b then Refuse WrongPlace else plan_of image who place upper u i)
        by true k = k []
        by false k = instr-good i k

    word-good : (o : Option ℕ) → ((choices : List Bool) → IsTurnKept F G charged (turn_at F at w place (state choices) (read_instr image place upper (instr_in o)))) → Good (plan_word image who place upper u o)
    word-good None k = k []
    word-good (Some word) k = decoded-good (decoded word) k

    -- what a slot's step leads to
    pub turn-good : Good (plan_word image who place upper u (slice_get image.code place))
    turn-good = word-good (slice_get image.code place) kept

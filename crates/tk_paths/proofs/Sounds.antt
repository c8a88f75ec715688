-- No slot stands twice, and the children of a fork are free.
use Rattle.std.proofs.Common.{◌≡◌, ◌⊎◌, ◌≤◌, ◌<◌, ◌+◌, ◌==◌, ℕ, zero, suc, Bool, true, false, ◌||◌, if◌then◌else◌, List, [], ◌∷◌, Option, Some, None, refl, sym, ap, ◌∙◌, subst, inl, inr, ⊎_elim, arith, leb-true}
use Rattle.std.proofs.lemmas.Bool.{cases_eq}
use Rattle.std.proofs.lemmas.Bool.Decides.{nat_tests}
use Rattle.mb_pfu.specs.declared.parts.Watch.{Watch}
use Rattle.mb_pfu.specs.Tree.{Activity, Running, Tree, Group, Leaf, Waits, no_more, member, size, any_ready, all_ended, relieved_tree, settle, append_group, one, tally, tally_group}
use Rattle.mb_pfu.specs.Rows.{relief}
use Rattle.mb_pfu.specs.Contexts.{filled, Context, plug, climb}
use Rattle.tk_paths.proofs.SlotFacts.{beyond, middle}
use Rattle.tk_paths.specs.declared.word.Word.TheVariants.{Fork}
use Rattle.tk_paths.proofs.Inner.{Image, stack, begun, IsSound, occurs, occurs_among, is_busy}
use Rattle.tk_paths.proofs.Conditions.{Cert, Line, Thread, IsAccepted}
use Rattle.tk_paths.proofs.Rights.{IsWaiting, IsRight, AreRight}

pub one-same : (k c : ℕ) → k ≡ c → one (k == c) ≡ 1
one-same k c e = grind (arith, nat_tests)

pub one-other : (k c : ℕ) → (k ≡ c → ⊥) → one (k == c) ≡ 0
one-other k c e = grind (arith, nat_tests)

module _ (image : Image) where
  abbrev count : ℕ → ℕ → Tree → ℕ
  count c k t = tally c k t

  abbrev counts : ℕ → ℕ → Group → ℕ
  counts c k ts = tally_group c k ts

  around-more : (c d : ℕ) (t u : Tree) → ((k : ℕ) → count c k u ≤ count c k t + d) → (before behind : Group) (k : ℕ) →
      counts c k (append_group before (member u behind)) ≤ counts c k (append_group before (member t behind)) + d
  around-more c d t u h no_more behind k = let r = h k in omega (arith, r)
  around-more c d t u h (member x xs) behind k = let r = around-more c d t u h xs behind (k + 1) in omega (arith, r)

  -- at most so many more of a slot in the middle are at most so many more in all
  pub plug-more : (c d : ℕ) (t u : Tree) → ((k : ℕ) → count c k u ≤ count c k t + d) → (context : Context) (k : ℕ) → count c k (plug context u) ≤ count c k (plug context t) + d
  plug-more c d t u h [] k = h k
  plug-more c d t u h (f ∷ fs) k =
      plug-more c d (filled f t) (filled f u) (λ i. let r = around-more c d t u h f.before f.behind f.lo in omega (arith, r)) fs k

  pub sound-less : (t u : Tree) → ((c : ℕ) → count c 0 u ≤ count c 0 t) → IsSound image t → IsSound image u
  sound-less t u h s c = let a : count c 0 t ≤ 1 = leb-true (count c 0 t) 1 (s c) in let b = h c in grind (arith, nat_tests, a, b)

  pub sound-leaf : (context : Context) (watches watches' : List Watch) (activity activity' : Activity) → IsSound image (plug context (Leaf watches activity)) → IsSound image (plug context (Leaf watches' activity'))
  sound-leaf context w w' a a' s =
      sound-less (plug context (Leaf w a)) (plug context (Leaf w' a')) (λ c. let r = plug-more c 0 (Leaf w a) (Leaf w' a') (λ k. omega arith) context 0 in omega (arith, r)) s

  relieved-less : (watches : List Watch) (at lo : ℕ) (group : Group) (r : Option (List Watch × ℕ)) (c k : ℕ) → count c k (relieved_tree (Waits watches at lo group) r) ≤ count c k (Waits watches at lo group)
  relieved-less watches at lo group None c k = omega arith
  relieved-less watches at lo group (Some to) c k = omega arith

  settled-less : (watches : List Watch) (at lo : ℕ) (group : Group) (c k : ℕ) (x y : Bool) →
      count c k (if x then Waits watches at lo group else if y then Leaf watches (Running (at + 1)) else relieved_tree (Waits watches at lo group) (relief watches)) ≤ count c k (Waits watches at lo group)
  settled-less watches at lo group c k true y = omega arith
  settled-less watches at lo group c k false true = omega arith
  settled-less watches at lo group c k false false = relieved-less watches at lo group (relief watches) c k

  pub climb-less : (context : Context) (t : Tree) (c k : ℕ) → count c k (climb context t) ≤ count c k (plug context t)
  climb-less [] t c k = omega arith
  climb-less (f ∷ fs) t c k =
      let group = append_group f.before (member t f.behind) in
      let a = climb-less fs (settle (filled f t)) c k in
      let b = plug-more c 0 (filled f t) (settle (filled f t)) (λ i. let r = settled-less f.watches f.at f.lo group c i (any_ready group) (all_ended group) in omega (arith, r)) fs k in
      omega (arith, a, b)

  pub begun-low : (n lo c : ℕ) → c < lo → counts c lo (begun image lo n) ≡ 0
  begun-low zero lo c h = refl
  begun-low (suc n) lo c h =
      let r = begun-low n (lo + 1) c (omega (arith, h)) in
      let o = one-other lo c (λ e. omega (arith, e, h)) in
      omega (arith, r, o)

  pub begun-high : (n lo c : ℕ) → lo + n ≤ c → counts c lo (begun image lo n) ≡ 0
  begun-high zero lo c h = refl
  begun-high (suc n) lo c h =
      let r = begun-high n (lo + 1) c (omega (arith, h)) in
      let o = one-other lo c (λ e. omega (arith, e, h)) in
      omega (arith, r, o)

  begun-once : (n lo c : ℕ) → counts c lo (begun image lo n) ≤ 1
  begun-once zero lo c = omega arith
  begun-once (suc n) lo c =
      ⊎_elim
      (λ e. let r = begun-low n (lo + 1) c (omega (arith, e)) in let o = one-same lo c e in omega (arith, r, o))
      (λ e. let r = begun-once n (lo + 1) c in let o = one-other lo c e in omega (arith, r, o))
      (cases_eq lo c)

  -- a slot that isn't counted doesn't occur
  mutual
    unseen : (c k : ℕ) (t : Tree) → count c k t ≡ 0 → occurs c k t ≡ false
    unseen c k (Leaf watches activity) h = grind (arith, nat_tests, h)
    unseen c k (Waits watches at lo group) h =
        let here : (k == c) ≡ false = grind (arith, nat_tests, h) in
        let below : counts c lo group ≡ 0 = omega (arith, h) in
        ap (λ b. b || occurs_among c lo group) here ∙ unseen-among c lo group below

    unseen-among : (c k : ℕ) (ts : Group) → counts c k ts ≡ 0 → occurs_among c k ts ≡ false
    unseen-among c k no_more h = refl
    unseen-among c k (member t ts) h = ap (λ b. b || occurs_among c (k + 1) ts) (unseen c k t (omega (arith, h))) ∙ unseen-among c (k + 1) ts (omega (arith, h))

  pub not-busy : (n lo : ℕ) (t : Tree) → ((c : ℕ) → lo ≤ c → c < lo + n → count c 0 t ≡ 0) → is_busy lo n t ≡ false
  not-busy zero lo t h = refl
  not-busy (suc n) lo t h =
      ap (λ b. b || is_busy (lo + 1) n t) (unseen lo 0 t (h lo (omega arith) (omega arith))) ∙ not-busy n (lo + 1) t (λ c a b. h c (omega (arith, a)) (omega (arith, b)))

  -- a fork of free slots
  pub sound-fork : (context : Context) (watches : List Watch) (place lo n : ℕ) (activity : Activity) → ((c : ℕ) → lo ≤ c → c < lo + n → count c 0 (plug context (Leaf watches activity)) ≡ 0) →
      IsSound image (plug context (Leaf watches activity)) → IsSound image (plug context (Waits watches place lo (begun image lo n)))
  sound-fork context watches place lo n activity free s c =
      let old = plug context (Leaf watches activity) in
      let new = plug context (Waits watches place lo (begun image lo n)) in
      let d = counts c lo (begun image lo n) in
      let r : count c 0 new ≤ count c 0 old + d = plug-more c d (Leaf watches activity) (Waits watches place lo (begun image lo n)) (λ k. omega arith) context 0 in
      let a : count c 0 old ≤ 1 = leb-true (count c 0 old) 1 (s c) in
      let once : d ≤ 1 = begun-once n lo c in
      let low : c < lo → d ≡ 0 = λ h. begun-low n lo c h in
      let high : lo + n ≤ c → d ≡ 0 = λ h. begun-high n lo c h in
      let all : count c 0 new ≤ 1 = bounded (count c 0 new) (count c 0 old) d c lo n r a once low high (free c) in
      grind (arith, nat_tests, all)
    where
      bounded : (x y d c lo n : ℕ) → x ≤ y + d → y ≤ 1 → d ≤ 1 → (c < lo → d ≡ 0) → (lo + n ≤ c → d ≡ 0) → (lo ≤ c → c < lo + n → y ≡ 0) → x ≤ 1
      bounded x y d c lo n r a once low high free = grind (arith, r, a, once, low, high, free)

  -- how many slots that wait have this number
  abbrev mutual
    waiting : ℕ → ℕ → Tree → ℕ
    waiting c k (Leaf watches activity) = 0
    waiting c k (Waits watches at lo group) = one (k == c) + waiting_among c lo group

    waiting_among : ℕ → ℕ → Group → ℕ
    waiting_among c k no_more = 0
    waiting_among c k (member t ts) = waiting c k t + waiting_among c (k + 1) ts

  mutual
    waiting-less : (c k : ℕ) (t : Tree) → waiting c k t ≤ count c k t
    waiting-less c k (Leaf watches activity) = omega arith
    waiting-less c k (Waits watches at lo group) = let r = waiting-less-among c lo group in omega (arith, r)

    waiting-less-among : (c k : ℕ) (ts : Group) → waiting_among c k ts ≤ counts c k ts
    waiting-less-among c k no_more = omega arith
    waiting-less-among c k (member t ts) = let a = waiting-less c k t in let b = waiting-less-among c (k + 1) ts in omega (arith, a, b)

  around-apart : (c : ℕ) (t : Tree) (before behind : Group) (k : ℕ) → waiting c (beyond k before) t + 1 ≤ count c (beyond k before) t →
      waiting_among c k (append_group before (member t behind)) + 1 ≤ counts c k (append_group before (member t behind))
  around-apart c t no_more behind k h = let r = waiting-less-among c (k + 1) behind in omega (arith, r, h)
  around-apart c t (member u us) behind k h = let r = around-apart c t us behind (k + 1) h in let a = waiting-less c k u in omega (arith, r, a)

  -- a slot in the middle that doesn't wait
  apart : (context : Context) (c : ℕ) (t : Tree) → waiting c (middle context) t + 1 ≤ count c (middle context) t → waiting c 0 (plug context t) + 1 ≤ count c 0 (plug context t)
  apart [] c t h = h
  apart (f ∷ fs) c t h = apart fs c (filled f t) (let r = around-apart c t f.before f.behind f.lo h in omega (arith, r))

  module _ (cert : Cert) where
    -- a slot below another is of the fork at which that one waits
    pub record IsBelow (c k : ℕ) (sum : ℕ → ℕ) : Type 0 where
      pub parent : ℕ
      pub watches : List Watch
      pub at : ℕ
      pub lo : ℕ
      pub n : ℕ
      pub waits : IsWaiting image cert parent watches at lo n
      pub low : lo ≤ c
      pub high : c < lo + n
      pub there : 1 ≤ sum parent

    wider : (c k k' : ℕ) (sum more : ℕ → ℕ) → ((p : ℕ) → sum p ≤ more p) → IsBelow c k sum → IsBelow c k' more
    wider c k k' sum more h b =
        record { parent = b.parent; watches = b.watches; at = b.at; lo = b.lo; n = b.n; waits = b.waits; low = b.low; high = b.high; there = (let a = h b.parent in let e : 1 ≤ sum b.parent = b.there in omega (arith, a, e)) }

    either : (a b : ℕ) → 1 ≤ a + b → (1 ≤ a) ⊎ (1 ≤ b)
    either zero b h = inr (omega (arith, h))
    either (suc a) b h = inl (omega arith)

    mutual
      pub below : (c k : ℕ) (t : Tree) → IsRight image cert k t → 1 ≤ count c k t → (k ≡ c) ⊎ IsBelow c k (λ p. waiting p k t)
      below c k (Leaf watches activity) r h = ⊎_elim (λ e. inl e) (λ e. absurd (let o = one-other k c e in omega (arith, o, h))) (cases_eq k c)
      below c k (Waits watches at lo group) r h =
          ⊎_elim (λ e. inl e)
          (λ e.
          let o = one-other k c e in
          let more : 1 ≤ counts c lo group = omega (arith, o, h) in
          let own = one-same k k refl in
          ⊎_elim
          (λ i. inr (record { parent = k; watches = watches; at = at; lo = lo; n = size group; waits = r.0; low = i.0; high = i.1; there = omega (arith, own) }))
          (λ b. inr (wider c lo k (λ p. waiting_among p lo group) (λ p. waiting p k (Waits watches at lo group)) (λ p. omega arith) b))
          (below-among c lo group r.2 more))
          (cases_eq k c)

      below-among : (c k : ℕ) (ts : Group) → AreRight image cert k ts → 1 ≤ counts c k ts → ((k ≤ c) × (c < k + size ts)) ⊎ IsBelow c k (λ p. waiting_among p k ts)
      below-among c k no_more r h = absurd (omega (arith, h))
      below-among c k (member t ts) r h =
          ⊎_elim
          (λ a.
          ⊎_elim (λ e. inl (omega (arith, e), omega (arith, e))) (λ b. inr (wider c k k (λ p. waiting p k t) (λ p. waiting_among p k (member t ts)) (λ p. omega arith) b)) (below c k t r.0 a))
          (λ a.
          ⊎_elim (λ i. inl (let l = i.0 in omega (arith, l), let u = i.1 in omega (arith, u)))
          (λ b. inr (wider c (k + 1) k (λ p. waiting_among p (k + 1) ts) (λ p. waiting_among p k (member t ts)) (λ p. omega arith) b)) (below-among c (k + 1) ts r.1 a))
          (either (count c k t) (counts c (k + 1) ts) h)

    abbrev pub slot_in : Line → ℕ
    slot_in (Thread s a l) = s
    slot_in other = 0

    nothing-or-one : (n : ℕ) → (1 ≤ n → ⊥) → n ≡ 0
    nothing-or-one zero h = refl
    nothing-or-one (suc n) h = absurd (h (omega arith))

    -- where a slot is about to fork, the children are free
    pub children-free : IsAccepted image cert → (context : Context) (watches : List Watch) (place lo n : ℕ) → IsRight image cert 0 (plug context (Leaf watches (Running place))) → IsSound image (plug context (Leaf watches (Running place))) →
        image.is_fork place (middle context) (stack watches) ≡ true → image.code place None ≡ Some (Fork lo n) → (c : ℕ) → lo ≤ c → c < lo + n → count c 0 (plug context (Leaf watches (Running place))) ≡ 0
    children-free accepted context watches place lo n right sound listed word c low high =
        let t = plug context (Leaf watches (Running place)) in
        nothing-or-one (count c 0 t) (λ h. ⊎_elim (λ e. let z : 1 ≤ lo = accepted.no_zero place (middle context) (stack watches) lo n listed word in omega (arith, e, z, low)) (λ b. twice b) (below c 0 t right h))
      where
        t : Tree
        t = plug context (Leaf watches (Running place))

        twice : IsBelow c 0 (λ p. waiting p 0 (plug context (Leaf watches (Running place)))) → ⊥
        twice b =
            let same : b.at ≡ place = accepted.apart b.at b.parent place (middle context) (stack b.watches) (stack watches) b.lo b.n lo n c b.waits.0 listed b.waits.1 word b.low b.high low high in
            let l1 = (accepted.fork b.at b.parent (stack b.watches) b.waits.0).line in
            let l2 = (accepted.fork place (middle context) (stack watches) listed).line in
            let slot : b.parent ≡ middle context = ap slot_in (sym l1 ∙ ap cert.line same ∙ l2) in
            let own = one-same (middle context) (middle context) refl in
            let two = apart context (middle context) (Leaf watches (Running place)) (omega (arith, own)) in
            let there : 1 ≤ waiting (middle context) 0 (plug context (Leaf watches (Running place))) = subst (λ p. 1 ≤ waiting p 0 (plug context (Leaf watches (Running place)))) slot b.there in
            let once = leb-true (count (middle context) 0 (plug context (Leaf watches (Running place)))) 1 (sound (middle context)) in
            omega (arith, two, there, once)

-- A tree on its way to one that rests as the states say.
use Rattle.std.proofs.Common.{◌≡◌, ◌≤◌, ◌<◌, ℕ, zero, suc, ◌+◌, ◌-◌, ◌==◌, Bool, true, false, not, ◌||◌, if◌then◌else◌, List, [], ◌∷◌, map, length, Option, Some, None, refl, sym, ap, ◌∙◌, subst, is_some, arith, eq-eqb}
use Rattle.mb_pfu.specs.declared.parts.Slot.TheVariants.{Waiting as Waits_for}
use Rattle.mb_pfu.specs.declared.parts.Watch.{Watch}
use Rattle.mb_pfu.specs.Rows.{Report, numbered, renewed, or_else, is_free}
use Rattle.mb_pfu.specs.Tree.{Tree, Group, Leaf, Waits, no_more, member, Running, Pausing, Finished, size, slot_of_activity, has_ready, any_ready, is_in, is_among, at_member, report, report_among, reported_state, slot_of, tally, tally_group, one, begun, tests_begun, each_member, is_busy}
use Rattle.mb_pfu.proofs.Cases.{split, none-there, or-left-false, or-right-false}
use Rattle.mb_pfu.proofs.Firsts.{uncounted}
use Rattle.mb_pfu.proofs.Trees.{is_in-report, is_among-report, some-ready}
use Rattle.pt_image.specs.declared.Parts.{Parts}
use Rattle.tk_cert.specs.declared.cert.State.{State}
use Rattle.tk_walk.specs.Building.{put, IsTarget, AreTargets, IsFront, AreFronts}
use Rattle.tk_walk.proofs.Standings.{IsReadyIn, same-of, unready, from-first, from-rest}

pub self : (k : ℕ) → (k == k) ≡ true
self k = eq-eqb k k refl

-- on the way no slot is counted more often than at the end
root-counts : (q k : ℕ) (t : Tree) → one (k == q) ≤ tally q k t
root-counts q k (Leaf watches activity) = omega arith
root-counts q k (Waits watches at lo group) = omega arith

mutual
  front-counts : (q k : ℕ) (b t : Tree) → IsFront b t → tally q k b ≤ tally q k t
  front-counts q k (Leaf watches activity) t f = root-counts q k t
  front-counts q k (Waits watches at lo group) t f =
      let more : tally_group q lo group ≤ tally_group q lo f.1 = fronts-count q lo group f.1 f.4 in
      let whole : one (k == q) + tally_group q lo group ≤ tally q k (Waits f.0 at lo f.1) = omega arith in
      subst (λ (x : Tree). one (k == q) + tally_group q lo group ≤ tally q k x) (sym f.2) whole

  fronts-count : (q k : ℕ) (bs ts : Group) → AreFronts bs ts → tally_group q k bs ≤ tally_group q k ts
  fronts-count q k no_more ts f = omega arith
  fronts-count q k (member b bs) ts f =
      let first : tally q k b ≤ tally q k f.0 = front-counts q k b f.0 f.3 in
      let more : tally_group q (k + 1) bs ≤ tally_group q (k + 1) f.1 = fronts-count q (k + 1) bs f.1 f.4 in
      let whole : tally q k b + tally_group q (k + 1) bs ≤ tally_group q k (member f.0 f.1) = omega arith in
      subst (λ (x : Group). tally q k b + tally_group q (k + 1) bs ≤ tally_group q k x) (sym f.2) whole

module _ (image : Parts) (states : List State) (s : ℕ) where
  -- what stands at the end where slot s is on its way, and how the tree is further on its way where the slot is
  pub record Meets (k : ℕ) (b t : Tree) : Type 0 where
    pub there : Tree
    pub target : IsTarget image states s there
    pub becomes : (v : Tree) → IsFront v there → IsFront (put s v k b) t
    pub counts : (q : ℕ) → tally q k b + tally q s there ≤ tally q k t + one (s == q)

  pub record MeetsIn (k : ℕ) (bs ts : Group) : Type 0 where
    pub there : Tree
    pub target : IsTarget image states s there
    pub becomes : (v : Tree) → IsFront v there → AreFronts (at_member (numbered s) (λ u. v) (λ u. u) k bs) ts
    pub counts : (q : ℕ) → tally_group q k bs + tally q s there ≤ tally_group q k ts + one (s == q)

  meets-leaf : (k p : ℕ) (watches : List Watch) (t : Tree) → k ≡ s → IsTarget image states k t → Meets k (Leaf watches (Running p)) t
  meets-leaf k p watches t same h = record {
    there = t;
    target = subst (λ n. IsTarget image states n t) same h;
    becomes = λ v f. rw (eq-eqb k s same) f;
    counts = λ q. subst (λ n. one (k == q) + tally q n t ≤ tally q k t + one (n == q)) same (omega arith);
  }

  mutual
    pub meets : (k : ℕ) (b t : Tree) → IsFront b t → IsTarget image states k t → IsReadyIn (report (numbered s) k b) → Meets k b t
    meets k (Leaf watches (Running p)) t f h r = split (k == s) (λ e. meets-leaf k p watches t (same-of k s e) h) (λ e. let r' : false ≡ true = rw e at r in cc)
    meets k (Leaf watches (Pausing p)) t f h r = absurd (unready (k == s) k (slot_of_activity (Pausing p)) watches refl r)
    meets k (Leaf watches Finished) t f h r = absurd (unready (k == s) k (slot_of_activity Finished) watches refl r)
    meets k (Waits watches at lo group) t f h r = split (k == s)
        (λ e. let r' : false ≡ true = rw e at r in cc)
        (λ e.
        let r' : IsReadyIn (report_among (numbered s) lo group) = rw e at r in
        let has : is_among (numbered s) lo group ≡ true = is_among-report (numbered s) lo group ∙ some-ready (report_among (numbered s) lo group) r' in
        let end : IsTarget image states k (Waits f.0 at lo f.1) = subst (λ (x : Tree). IsTarget image states k x) f.2 h in
        let m : MeetsIn lo group f.1 = meets-in lo group f.1 f.4 end.4 r' in
        record {
          there = m.there;
          target = m.target;
          becomes = λ v g. rw (e, has) (f.0, f.1, f.2, f.3, m.becomes v g);
          counts = λ q.
              let more = m.counts q in
              let whole : one (k == q) + tally_group q lo group + tally q s m.there ≤ tally q k (Waits f.0 at lo f.1) + one (s == q) = omega arith in
              subst (λ (x : Tree). one (k == q) + tally_group q lo group + tally q s m.there ≤ tally q k x + one (s == q)) (sym f.2) whole;
        })

    meets-in : (k : ℕ) (bs ts : Group) → AreFronts bs ts → AreTargets image states k ts → IsReadyIn (report_among (numbered s) k bs) → MeetsIn k bs ts
    meets-in k no_more ts f h r = cc
    meets-in k (member b bs) ts f h r =
        let end : AreTargets image states k (member f.0 f.1) = subst (λ (x : Group). AreTargets image states k x) f.2 h in
        split (is_in (numbered s) k b)
        (λ e.
        let m : Meets k b f.0 = meets k b f.0 f.3 end.0 (from-first (report (numbered s) k b) (report_among (numbered s) (k + 1) bs) (sym (is_in-report (numbered s) k b) ∙ e) r) in
        record {
          there = m.there;
          target = m.target;
          becomes = λ v g. rw e (f.0, f.1, f.2, m.becomes v g, f.4);
          counts = λ q.
              let here = m.counts q in
              let more : tally_group q (k + 1) bs ≤ tally_group q (k + 1) f.1 = fronts-count q (k + 1) bs f.1 f.4 in
              let whole : tally q k b + tally_group q (k + 1) bs + tally q s m.there ≤ tally_group q k (member f.0 f.1) + one (s == q) = omega arith in
              subst (λ (x : Group). tally q k b + tally_group q (k + 1) bs + tally q s m.there ≤ tally_group q k x + one (s == q)) (sym f.2) whole;
        })
        (λ e.
        let m : MeetsIn (k + 1) bs f.1 = meets-in (k + 1) bs f.1 f.4 end.1 (from-rest (report (numbered s) k b) (report_among (numbered s) (k + 1) bs) (none-there (report (numbered s) k b) (sym (is_in-report (numbered s) k b) ∙ e)) r) in
        record {
          there = m.there;
          target = m.target;
          becomes = λ v g. rw e (f.0, f.1, f.2, f.3, m.becomes v g);
          counts = λ q.
              let here : tally q k b ≤ tally q k f.0 = front-counts q k b f.0 f.3 in
              let more = m.counts q in
              let whole : tally q k b + tally_group q (k + 1) bs + tally q s m.there ≤ tally_group q k (member f.0 f.1) + one (s == q) = omega arith in
              subst (λ (x : Group). tally q k b + tally_group q (k + 1) bs + tally q s m.there ≤ tally_group q k x + one (s == q)) (sym f.2) whole;
        })

-- where no slot is still to come, the tree is the one at the end
mutual
  pub front-whole : (b t : Tree) → has_ready b ≡ false → IsFront b t → tests_begun t ≡ tests_begun b
  front-whole (Leaf watches (Running place)) t quiet f = cc
  front-whole (Leaf watches (Pausing place)) t quiet f = f
  front-whole (Leaf watches Finished) t quiet f = f
  front-whole (Waits watches at lo group) t quiet f = ap tests_begun f.2 ∙ (λ i. Waits (f.3 i) at lo (fronts-whole group f.1 quiet f.4 i))

  fronts-whole : (bs ts : Group) → any_ready bs ≡ false → AreFronts bs ts → each_member (map renewed) (λ x. x) ts ≡ each_member (map renewed) (λ x. x) bs
  fronts-whole no_more ts quiet f = ap (each_member (map renewed) (λ x. x)) f
  fronts-whole (member b bs) ts quiet f =
      ap (each_member (map renewed) (λ x. x)) f.2
      ∙ (λ i. member (front-whole b f.0 (or-left-false (has_ready b) (any_ready bs) quiet) f.3 i) (fronts-whole bs f.1 (or-right-false (has_ready b) (any_ready bs) quiet) f.4 i))

-- the children of a fork are on their way to any group of so many
pub begun-fronts : (starts : List ℕ) (ts : Group) → size ts ≡ length starts → AreFronts (begun starts) ts
begun-fronts [] no_more e = refl
begun-fronts [] (member t ts) e = absurd (omega arith)
begun-fronts (start ∷ starts) no_more e = absurd (omega arith)
begun-fronts (start ∷ starts) (member t ts) e = (t, ts, refl, tt, begun-fronts starts ts (omega arith))

-- a slot that is counted is reported
counted-leaf : (b : Bool) (x : Report) → 1 ≤ one b → is_some (if b then Some x else None) ≡ true
counted-leaf true x h = refl
counted-leaf false x h = absurd (omega arith)

counted-waits : (b : Bool) (x : Report) (r : Option Report) (n : ℕ) → (1 ≤ n → is_some r ≡ true) → 1 ≤ one b + n → is_some (if b then Some x else r) ≡ true
counted-waits true x r n more h = refl
counted-waits false x r n more h = more (omega arith)

counted-both : (a b : Option Report) (m n : ℕ) → (1 ≤ m → is_some a ≡ true) → (1 ≤ n → is_some b ≡ true) → 1 ≤ m + n → is_some (or_else a b) ≡ true
counted-both (Some a) b m n first more h = refl
counted-both None b zero n first more h = more (omega arith)
counted-both None b (suc m) n first more h = let e : false ≡ true = first (omega arith) in cc

mutual
  pub counted : (q k : ℕ) (t : Tree) → 1 ≤ tally q k t → is_some (report (numbered q) k t) ≡ true
  counted q k (Leaf watches activity) h = counted-leaf (k == q) (k, slot_of_activity activity, watches) h
  counted q k (Waits watches at lo group) h = counted-waits (k == q) (k, Waits_for at lo (size group), watches) (report_among (numbered q) lo group) (tally_group q lo group) (counted-in q lo group) h

  counted-in : (q k : ℕ) (ts : Group) → 1 ≤ tally_group q k ts → is_some (report_among (numbered q) k ts) ≡ true
  counted-in q k no_more h = absurd (omega arith)
  counted-in q k (member t ts) h = counted-both (report (numbered q) k t) (report_among (numbered q) (k + 1) ts) (tally q k t) (tally_group q (k + 1) ts) (counted q k t) (counted-in q (k + 1) ts) h

-- a slot isn't counted where it is reported free, or not at all
pub free-uncounted : (q k : ℕ) (t : Tree) → report (numbered q) k t ≡ None → tally q k t ≡ 0
free-uncounted q k t none = by (tally q k t) (counted q k t)
  where
    by : (n : ℕ) → (1 ≤ n → is_some (report (numbered q) k t) ≡ true) → n ≡ 0
    by zero h = refl
    by (suc n) h = let e : is_some (report (numbered q) k t) ≡ true = h (omega arith) in let e' : false ≡ true = rw none at e in cc

-- the children are free where each is counted again at the end
here-counts : (b : Bool) (q k m n : ℕ) → (k == q) ≡ b → one (k == q) ≤ m → k ≤ q → (k + 1 ≤ q → 1 ≤ n) → 1 ≤ m + n
here-counts true q k m n e root low more = let this : one (k == q) ≡ 1 = rw e refl in omega arith
here-counts false q k m n e root low more =
    let other : k ≡ q → ⊥ = λ same. (let e' : true ≡ false = sym (eq-eqb k q same) ∙ e in cc) in
    let past : k + 1 ≤ q = grind arith in
    omega (arith, more past)

member-counts : (q k : ℕ) (ts : Group) → k ≤ q → q < k + size ts → 1 ≤ tally_group q k ts
member-counts q k no_more low high = absurd (omega arith)
member-counts q k (member t ts) low high =
    here-counts (k == q) q k (tally q k t) (tally_group q (k + 1) ts) refl (root-counts q k t) low (λ past. member-counts q (k + 1) ts past (omega arith))

pub not-busy : (lo : ℕ) (starts : List ℕ) (b : Tree) → ((q : ℕ) → lo ≤ q → q < lo + length starts → tally q 0 b ≡ 0) → is_busy lo starts b ≡ false
not-busy lo [] b h = refl
not-busy lo (start ∷ starts) b h =
    let gone : report (numbered lo) 0 b ≡ None = uncounted lo 0 b (h lo (omega arith) (omega arith)) in
    let free : not (is_free (slot_of lo b)) ≡ false = ap (λ o. not (is_free (reported_state o))) gone in
    ap (λ x. x || is_busy (lo + 1) starts b) free ∙ not-busy (lo + 1) starts b (λ q low high. h q (omega arith) (omega arith))

pub children-free : (lo : ℕ) (starts : List ℕ) (ts : Group) (b : Tree) → size ts ≡ length starts → ((q : ℕ) → tally q 0 b + tally_group q lo ts ≤ 1) → is_busy lo starts b ≡ false
children-free lo starts ts b same once = not-busy lo starts b (λ q low high. omega (arith, once q, member-counts q lo ts low (omega arith)))

pub below-by : (a n x : ℕ) → 1 ≤ x → (n ≤ a → x ≡ 0) → a < n
below-by a n x some none = grind arith

pub group-within : (n lo : ℕ) (ts : Group) → 1 ≤ size ts → ((q : ℕ) → n ≤ q → tally_group q lo ts ≡ 0) → lo + size ts ≤ n
group-within n lo ts some none =
    let last : 1 ≤ tally_group (lo + size ts - 1) lo ts = member-counts (lo + size ts - 1) lo ts (omega arith) (omega arith) in
    let low : lo + size ts - 1 < n = below-by (lo + size ts - 1) n (tally_group (lo + size ts - 1) lo ts) last (none (lo + size ts - 1)) in
    omega arith

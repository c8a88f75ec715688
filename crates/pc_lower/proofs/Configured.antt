-- Where a flow stands the unit is in a configuration.
use Rattle.std.proofs.Common.{◌≡◌, ℕ, ◌+◌, ◌<◌, ◌≤◌, ◌++◌, ◌==◌, Bool, true, false, List, [], ◌∷◌, length, slice_get, Some, refl, sym, ap, ◌∙◌, subst, inl, inr, arith}
use Rattle.mb_isa.specs.Candidates.{decoded}
use Rattle.mb_isa.specs.declared.Instr.TheVariants.{Fork}
use Rattle.mb_pfu.specs.declared.parts.Watch.{Watch}
use Rattle.mb_pfu.specs.Rows.{numbered}
use Rattle.mb_pfu.specs.Tree.{Tree, Group, Leaf, Waits, no_more, member, size, is_in, is_among, one, tally, tally_group}
use Rattle.mb_pfu.proofs.Cases.{split, or-left-false, or-right-false}
use Rattle.pt_image.specs.declared.Parts.{Parts}
use Rattle.pt_image.specs.Listed.{is_listed}
use Rattle.mb_isa.specs.Free.{numbers_of, IsOfLine, AreOfLines, IsLoose, AreAtRest, HasLoose, IsConfiguration}
use Rattle.pc_lower.specs.declared.nodes.Step.{Step}
use Rattle.pc_lower.specs.declared.nodes.Test.{Test}
use Rattle.pc_lower.specs.Flow.{Node, Nodes, Rest, Rests, all_over, Flow, Flows, is_weak, flows_of, Position, Fresh, Waits as WaitsAt, Stopped}
use Rattle.pc_lower.specs.Residuals.{body_at, Of, OfAll, OfThreads, of_list, of_first, of_second, of_turns, of_pause, of_guard, of_fork, of_last, of_head, of_tail, of_nobody, of_over, of_going}
use Rattle.pc_lower.specs.Slots.{Fits, FitsGroup, Runs}
use Rattle.pc_lower.specs.Places.{place_in, line_in, fork_place, first_child, line, slot_start, watch}
use Rattle.pc_lower.specs.Standing.{Stands, StandAll}
use Rattle.pc_lower.specs.Slotwise.{members, is_of, is_of_all}
use Rattle.pc_lower.specs.Laid.{Placing, Laid, LaidAll}
use Rattle.pc_lower.specs.StepCounts.{Sizes}
use Rattle.pc_lower.specs.Law.{unnested, unit_at}
use Rattle.pc_lower.specs.Words.{HasSteps, HasTest, Writing}
use Rattle.pc_lower.specs.Image.{IsImageOf, StandsAt}
use Rattle.pc_lower.proofs.Slots.{same-of, under-least, apart, inside, inside-group}
use Rattle.pc_lower.proofs.StepFacts.{listed}
use Rattle.pc_lower.proofs.Calling.{first-is}
use Rattle.pc_lower.proofs.RegionGoing.{numbers-snoc}
use Rattle.pc_lower.proofs.Slotwise.{in-is, size-is}

-- ---- no slot stands twice

module _ (q : ℕ) where
  mutual
    none-in : (t : Tree) (k : ℕ) → is_in (numbered q) k t ≡ false → tally q k t ≡ 0
    none-in (Leaf w a) k h = rw h refl
    none-in (Waits w at lo ts) k h =
        let a : (k == q) ≡ false = or-left-false (k == q) (is_among (numbered q) lo ts) h in
        let b = none-among ts lo (or-right-false (k == q) (is_among (numbered q) lo ts) h) in
        rw a (omega (arith, b))

    none-among : (ts : Group) (k : ℕ) → is_among (numbered q) k ts ≡ false → tally_group q k ts ≡ 0
    none-among no_more k h = refl
    none-among (member t ts) k h =
        let a = none-in t k (or-left-false (is_in (numbered q) k t) (is_among (numbered q) (k + 1) ts) h) in
        let b = none-among ts (k + 1) (or-right-false (is_in (numbered q) k t) (is_among (numbered q) (k + 1) ts) h) in
        omega (arith, a, b)

module _ (parent : ℕ → ℕ) (q : ℕ) where
  mutual
    once-in : (t : Tree) (k : ℕ) → Fits parent k t → tally q k t ≤ 1
    once-in (Leaf w a) k fit = split (k == q) (λ e. rw e (omega arith)) (λ e. rw e (omega arith))
    once-in (Waits w at lo ts) k fit =
        split (k == q)
        (λ e.
        let same : q ≡ k = same-of k q e in
        let none : is_among (numbered q) lo ts ≡ false =
        split (is_among (numbered q) lo ts) (λ x. let r = inside-group parent ts k lo q fit x in absurd (omega (arith, same, under-least parent r.child q r.under, r.is.1))) (λ x. x) in
        let z = none-among q ts lo none in
        rw e (omega (arith, z)))
        (λ e. let h = once-among ts k lo fit in rw e (omega (arith, h)))

    once-among : (ts : Group) (k c : ℕ) → FitsGroup parent k c ts → tally_group q c ts ≤ 1
    once-among no_more k c fit = omega arith
    once-among (member t ts) k c fit =
        split (is_in (numbered q) c t)
        (λ e.
        let none : is_among (numbered q) (c + 1) ts ≡ false =
        split (is_among (numbered q) (c + 1) ts)
        (λ x.
        let r = inside-group parent ts k (c + 1) q fit.2 x in
        absurd (apart parent k c r.child q fit.0 r.is (λ d. omega (arith, d, r.from)) (inside parent t c q fit.1 e) r.under))
        (λ x. x) in
        let z = none-among q ts (c + 1) none in
        let h = once-in t c fit.1 in
        omega (arith, z, h))
        (λ e. let z = none-in q t c e in let h = once-among ts k (c + 1) fit.2 in omega (arith, z, h))

-- ---- paused and waiting slots stand at listed places

lines-snoc : (image : Parts) (e : List Watch) (w : Watch) → AreOfLines image e → IsOfLine image w → AreOfLines image (e ++ w ∷ [])
lines-snoc image [] w all last = (last, tt)
lines-snoc image (x ∷ e) w all last = (all.0, lines-snoc image e w all.1 last)

module _ (parent : ℕ → ℕ) (image : Parts) (known : Flows) (weak : ℕ → Bool) (HasSteps : List Step → ℕ → ℕ → Type 0) (HasTest : Test → ℕ → ℕ → ℕ → Type 0) (placing : Placing) (bodies : List Node)
    (laid_of : (c f : ℕ) → c < length image.slots → placing.thread c ≡ f → (stop : ℕ) × Laid parent image known weak HasSteps HasTest placing c (body_at bodies f) [] (slot_start image c) stop) where
  count-is : (fs : List ℕ) (rs : Rests) → OfThreads bodies fs rs → members rs ≡ length fs
  count-is fs rs of_nobody = refl
  count-is fs rs (of_over {fs = gs} {rs = rest} o) = let h = count-is gs rest o in omega (arith, h)
  count-is fs rs (of_going {fs = gs} {rs = rest} o os) = let h = count-is gs rest os in omega (arith, h)

  mutual
    loose : (n : Node) (r : Rest) → Of bodies n r → (s : ℕ) (a : List ℕ) (from to : ℕ) → Laid parent image known weak HasSteps HasTest placing s n a from to →
        (e : List Watch) (t : Tree) → numbers_of e ≡ a → AreOfLines image e → Stands image e r t → IsLoose image s t
    loose n r (of_list {nodes = nodes} {r = p} o) s a from to laid e t at_a lines h = loose-all nodes p o s a from to laid e t at_a lines h
    loose n r (of_first {a = x} {r = p} o) s a from to laid e t at_a lines h = loose x p o s a laid.0 laid.1 laid.4 e t at_a lines h
    loose n r (of_second {b = y} {r = p} o) s a from to laid e t at_a lines h = loose y p o s a laid.2 to laid.6 e t at_a lines h
    loose n r (of_turns {body = body} {r = p} o) s a from to laid e t at_a lines h = loose body p o s a laid.0 laid.1 laid.3 e t at_a lines h
    loose n r (of_pause {i = i}) s a from to laid e t at_a lines h =
        let here : place_in (slice_get image.pauses i) ≡ from = ap place_in laid.1 in
        let is : is_listed image.pauses from s a ≡ true = listed image.pauses i from s a laid.1 in
        let there : is_listed image.pauses (place_in (slice_get image.pauses i)) s (numbers_of e) ≡ true = ap (λ p. is_listed image.pauses p s (numbers_of e)) here ∙ ap (is_listed image.pauses from s) at_a ∙ is in
        subst (IsLoose image s) (sym h) (there, lines)
    loose n r (of_guard {j = j} {body = body} {r = p} o) s a from to laid e t at_a lines h =
        let w = watch image j h.0 false in
        let line-is : slice_get image.aborts j ≡ Some (line image j) = laid.4.1 ∙ ap (λ o. Some (line_in o)) (sym laid.4.1) in
        loose body p o s (a ++ j ∷ []) (from + 1) laid.0 laid.2 (e ++ w ∷ []) t (numbers-snoc e w ∙ ap (λ x. x ++ j ∷ []) at_a) (lines-snoc image e w lines line-is) h.1
    loose n r (of_fork {i = i} {fs = fs} {rs = rs} o some) s a from to laid e t at_a lines h =
        let lo = laid.0 in
        let lowest : first_child image i ≡ lo = first-is image i from s lo (length fs) a laid.2 laid.1 in
        let here : fork_place image i ≡ from = ap place_in laid.2 in
        let is : is_listed image.forks from s a ≡ true = listed image.forks i from s a laid.2 in
        let there : is_listed image.forks from s (numbers_of e) ≡ true = ap (is_listed image.forks from s) at_a ∙ is in
        let ts = h.0 in
        let count : size ts ≡ length fs = size-is parent image rs ts h.2 ∙ count-is fs rs o in
        let word : (code : ℕ) × (slice_get image.code from ≡ Some code) × (decoded code ≡ Some (Fork lo (size ts))) = (laid.1.code, laid.1.stands, laid.1.decodes ∙ ap (λ n. Some (Fork lo n)) (sym count)) in
        let rest = at-rest fs rs o lo laid.4.1 laid.4.3 ts h.2 in
        let busy = some-loose fs rs o some lo laid.4.1 laid.4.3 ts h.2 in
        let whole : IsLoose image s (Waits e from lo ts) = (there, lines, word, rest, busy) in
        subst (IsLoose image s) (sym (h.1 ∙ ap (λ p. Waits e p (first_child image i) ts) here ∙ ap (λ k. Waits e from k ts) lowest)) whole

    loose-all : (nodes : Nodes) (r : Rest) → OfAll bodies nodes r → (s : ℕ) (a : List ℕ) (from to : ℕ) → LaidAll parent image known weak HasSteps HasTest placing s nodes a from to →
        (e : List Watch) (t : Tree) → numbers_of e ≡ a → AreOfLines image e → Stands image e r t → IsLoose image s t
    loose-all nodes r (of_last {n = n} {r = p} o) s a from to laid e t at_a lines h = loose n p o s a from laid.0 laid.1 e t at_a lines h
    loose-all nodes r (of_head {n = n} {r = p} o) s a from to laid e t at_a lines h = loose n p o s a from laid.0 laid.1 e t at_a lines h
    loose-all nodes r (of_tail {nodes = rest} {r = p} o) s a from to laid e t at_a lines h = loose-all rest p o s a laid.0 to laid.2 e t at_a lines h

    at-rest : (fs : List ℕ) (rs : Rests) → OfThreads bodies fs rs → (c : ℕ) → c + length fs ≤ length image.slots → Runs placing.thread c fs → (ts : Group) → StandAll image rs ts → AreAtRest image c ts
    at-rest fs rs of_nobody c le run ts h = subst (AreAtRest image c) (sym h) tt
    at-rest fs rs (of_over {fs = gs} {rs = rest} o) c le run ts h =
        subst (AreAtRest image c) (sym h.1) (inl refl, at-rest gs rest o (c + 1) (omega arith) run.1 h.0 h.2)
    at-rest fs rs (of_going {f = f} {fs = gs} {r = p} {rs = rest} o os) c le run ts h =
        let l = laid_of c f (omega arith) run.0 in
        subst (AreAtRest image c) (sym h.2) (inr (loose (body_at bodies f) p o c [] (slot_start image c) l.0 l.1 [] h.0 refl tt h.3), at-rest gs rest os (c + 1) (omega arith) run.1 h.1 h.4)

    some-loose : (fs : List ℕ) (rs : Rests) → OfThreads bodies fs rs → all_over rs ≡ false → (c : ℕ) → c + length fs ≤ length image.slots → Runs placing.thread c fs → (ts : Group) → StandAll image rs ts → HasLoose image c ts
    some-loose fs rs of_nobody some c le run ts h = cc
    some-loose fs rs (of_over {fs = gs} {rs = rest} o) some c le run ts h =
        subst (HasLoose image c) (sym h.1) (inr (some-loose gs rest o some (c + 1) (omega arith) run.1 h.0 h.2))
    some-loose fs rs (of_going {f = f} {fs = gs} {r = p} {rs = rest} o os) some c le run ts h =
        let l = laid_of c f (omega arith) run.0 in
        subst (HasLoose image c) (sym h.2) (inl (loose (body_at bodies f) p o c [] (slot_start image c) l.0 l.1 [] h.0 refl tt h.3))

  -- the slots of a residual are slots of the image
  not-it : (s q : ℕ) → s < length image.slots → length image.slots ≤ q → (s == q) ≡ false
  not-it s q lt le = split (s == q) (λ e. absurd (omega (arith, same-of s q e))) (λ e. e)

  mutual
    slots-of : (n : Node) (r : Rest) → Of bodies n r → (s : ℕ) (a : List ℕ) (from to : ℕ) → Laid parent image known weak HasSteps HasTest placing s n a from to → s < length image.slots → (q : ℕ) → length image.slots ≤ q → is_of image q s r ≡ false
    slots-of n r (of_list {nodes = nodes} {r = p} o) s a from to laid lt q le = slots-of-all nodes p o s a from to laid lt q le
    slots-of n r (of_first {a = x} {r = p} o) s a from to laid lt q le = slots-of x p o s a laid.0 laid.1 laid.4 lt q le
    slots-of n r (of_second {b = y} {r = p} o) s a from to laid lt q le = slots-of y p o s a laid.2 to laid.6 lt q le
    slots-of n r (of_turns {body = body} {r = p} o) s a from to laid lt q le = slots-of body p o s a laid.0 laid.1 laid.3 lt q le
    slots-of n r (of_pause {i = i}) s a from to laid lt q le = not-it s q lt le
    slots-of n r (of_guard {j = j} {body = body} {r = p} o) s a from to laid lt q le = slots-of body p o s (a ++ j ∷ []) (from + 1) laid.0 laid.2 lt q le
    slots-of n r (of_fork {i = i} {fs = fs} {rs = rs} o some) s a from to laid lt q le =
        let lowest : first_child image i ≡ laid.0 = first-is image i from s laid.0 (length fs) a laid.2 laid.1 in
        let x : is_of_all image q (first_child image i) rs ≡ false = ap (λ k. is_of_all image q k rs) lowest ∙ slots-of-threads fs rs o laid.0 laid.4.1 laid.4.3 q le in
        rw (not-it s q lt le) x

    slots-of-all : (nodes : Nodes) (r : Rest) → OfAll bodies nodes r → (s : ℕ) (a : List ℕ) (from to : ℕ) → LaidAll parent image known weak HasSteps HasTest placing s nodes a from to → s < length image.slots → (q : ℕ) → length image.slots ≤ q → is_of image q s r ≡ false
    slots-of-all nodes r (of_last {n = n} {r = p} o) s a from to laid lt q le = slots-of n p o s a from laid.0 laid.1 lt q le
    slots-of-all nodes r (of_head {n = n} {r = p} o) s a from to laid lt q le = slots-of n p o s a from laid.0 laid.1 lt q le
    slots-of-all nodes r (of_tail {nodes = rest} {r = p} o) s a from to laid lt q le = slots-of-all rest p o s a laid.0 to laid.2 lt q le

    slots-of-threads : (fs : List ℕ) (rs : Rests) → OfThreads bodies fs rs → (c : ℕ) → c + length fs ≤ length image.slots → Runs placing.thread c fs → (q : ℕ) → length image.slots ≤ q → is_of_all image q c rs ≡ false
    slots-of-threads fs rs of_nobody c within run q le = refl
    slots-of-threads fs rs (of_over {fs = gs} {rs = rest} o) c within run q le = rw (not-it c q (omega arith) le) (slots-of-threads gs rest o (c + 1) (omega arith) run.1 q le)
    slots-of-threads fs rs (of_going {f = f} {fs = gs} {r = p} {rs = rest} o os) c within run q le =
        let l = laid_of c f (omega arith) run.0 in
        rw (slots-of (body_at bodies f) p o c [] (slot_start image c) l.0 l.1 (omega arith) q le) (slots-of-threads gs rest os (c + 1) (omega arith) run.1 q le)

module _ (parent : ℕ → ℕ) (image : Parts) (costs : List ℕ) (f : Flow) (writing : Writing) (sizes : Sizes) (placing : Placing) (whole : IsImageOf parent image costs f writing sizes placing) (few : length image.slots ≤ 64) where
  laid-of : (c g : ℕ) → c < length image.slots → placing.thread c ≡ g → (stop : ℕ) × Laid parent image (flows_of f.bodies) (is_weak f.aborts) (HasSteps image writing) (HasTest image writing) placing c (body_at f.bodies g) [] (slot_start image c) stop
  laid-of c g lt run = let t = whole.compiled.threads c g lt run in (t.stop, t.laid)

  -- a tree of slot 0 alone
  alone-past : (q : ℕ) → 1 ≤ q → one (0 == q) ≡ 0
  alone-past q le = split (0 == q) (λ e. absurd (omega (arith, same-of 0 q e))) (λ e. rw e refl)

  pub configured : (p : Position) (t : Tree) → StandsAt parent image f p t → IsConfiguration image (unit_at image unnested t)
  configured Fresh t stands = subst (λ u. IsConfiguration image (unit_at image unnested u)) (sym stands) (record {
    tree = inl refl;
    once = record { once = λ q. split (0 == q) (λ e. rw e (omega arith)) (λ e. rw e (omega arith)); below = λ q le. alone-past q (omega (arith, le)) };
    within = λ q le. alone-past q (omega (arith, le, whole.compiled.some));
    slots = refl;
    links = refl;
    counters = refl;
  })
  configured Stopped t stands = subst (λ u. IsConfiguration image (unit_at image unnested u)) (sym stands) (record {
    tree = inr (inl refl);
    once = record { once = λ q. split (0 == q) (λ e. rw e (omega arith)) (λ e. rw e (omega arith)); below = λ q le. alone-past q (omega (arith, le)) };
    within = λ q le. alone-past q (omega (arith, le, whole.compiled.some));
    slots = refl;
    links = refl;
    counters = refl;
  })
  configured (WaitsAt r) t stands =
      let l = laid-of 0 f.main whole.compiled.some whole.compiled.starts in
      let known = flows_of f.bodies in
      let weak = is_weak f.aborts in
      let body = body_at f.bodies f.main in
      let past : (q : ℕ) → length image.slots ≤ q → tally q 0 t ≡ 0 = λ q le.
      none-in q t 0 (in-is parent image q 0 r [] t stands.1 ∙ slots-of parent image known weak (HasSteps image writing) (HasTest image writing) placing f.bodies laid-of body r stands.0 0 [] (slot_start image 0) l.0 l.1 whole.compiled.some q le) in
      record {
        tree = inr (inr (loose parent image known weak (HasSteps image writing) (HasTest image writing) placing f.bodies laid-of body r stands.0 0 [] (slot_start image 0) l.0 l.1 [] t refl tt stands.1));
        once = record { once = λ q. once-in parent q t 0 stands.2; below = λ q le. past q (omega (arith, few, le)) };
        within = past;
        slots = refl;
        links = refl;
        counters = refl;
      }

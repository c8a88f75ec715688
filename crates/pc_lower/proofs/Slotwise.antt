-- Where a tree stands, each of its slots does.
use Rattle.std.proofs.Common.{◌≡◌, ℕ, ◌+◌, ◌++◌, ◌==◌, ◌||◌, true, false, List, [], ◌∷◌, Some, refl, sym, ap, ◌∙◌, subst, arith, add-zero, eq-eqb}
use Rattle.mb_pfu.specs.declared.parts.Slot.TheVariants.{Waiting, Ended}
use Rattle.mb_pfu.specs.declared.parts.Watch.{Watch}
use Rattle.mb_pfu.specs.Rows.{numbered}
use Rattle.mb_pfu.specs.Tree.{Tree, Group, Leaf, Waits, no_more, member, Activity, Pausing, Finished, slot_of_activity, size, append_group, is_in, is_among, report, reported_state, slot_of}
use Rattle.mb_pfu.specs.Contexts.{Frame, Context, plug, middle}
use Rattle.mb_pfu.proofs.Cases.{none-there}
use Rattle.mb_pfu.proofs.Trees.{is_in-report}
use Rattle.pt_image.specs.declared.Parts.{Parts}
use Rattle.pc_lower.specs.Flow.{Rest, Rests, ahead, within, group, nobody, over, going, at as at_pause}
use Rattle.pc_lower.specs.Slots.{self, IsChild, Fits, FitsGroup, IsFitted}
use Rattle.pc_lower.specs.Places.{pause_place, fork_place, first_child, watch}
use Rattle.pc_lower.specs.Standing.{Stands, StandAll}
use Rattle.pc_lower.specs.Slotwise.{members, is_of, is_of_all, SlotStands, SlotsStand, StandsSlotwise}
use Rattle.pc_lower.proofs.Slots.{outside-fitted}
use Rattle.pc_lower.proofs.Plugs.{report-plug}
use Rattle.pc_lower.proofs.Groups.{snoc, append-snoc, size-snoc, fit-snoc}

module _ (parent : ℕ → ℕ) (image : Parts) where
  pub size-is : (rs : Rests) (ts : Group) → StandAll image rs ts → size ts ≡ members rs
  size-is nobody ts h = ap size h
  size-is (over rs) ts h = ap size h.1 ∙ ap (λ n. n + 1) (size-is rs h.0 h.2)
  size-is (going r rs) ts h = ap size h.2 ∙ ap (λ n. n + 1) (size-is rs h.1 h.4)

  -- the slot in the middle of a context
  leaf-slot : (context : Context) (e : List Watch) (a : Activity) → IsFitted parent context → slot_of (middle context) (plug context (Leaf e a)) ≡ slot_of_activity a
  leaf-slot context e a fit =
      let same : (middle context == middle context) ≡ true = eq-eqb (middle context) (middle context) refl in
      let told : report (numbered (middle context)) 0 (plug context (Leaf e a)) ≡ Some (middle context, slot_of_activity a, e) =
      report-plug (middle context) context (Leaf e a) (outside-fitted parent context (middle context) fit (self refl)) same ∙ rw same refl in
      ap reported_state told

  waits-slot : (context : Context) (e : List Watch) (at lo : ℕ) (ts : Group) → IsFitted parent context → slot_of (middle context) (plug context (Waits e at lo ts)) ≡ Waiting at lo (size ts)
  waits-slot context e at lo ts fit =
      let same : (middle context == middle context) ≡ true = eq-eqb (middle context) (middle context) refl in
      let told : report (numbered (middle context)) 0 (plug context (Waits e at lo ts)) ≡ Some (middle context, Waiting at lo (size ts), e) =
      report-plug (middle context) context (Waits e at lo ts) (outside-fitted parent context (middle context) fit (self refl)) (rw same refl) ∙ rw same refl in
      ap reported_state told

  mutual
    slot-stands : (r : Rest) (context : Context) (e : List Watch) (t : Tree) → Stands image e r t → Fits parent (middle context) t → IsFitted parent context → SlotStands image (plug context t) (middle context) r
    slot-stands (at_pause i) context e t h own fit = ap (λ u. slot_of (middle context) (plug context u)) h ∙ leaf-slot context e (Pausing (pause_place image i)) fit
    slot-stands (ahead r nodes) context e t h own fit = slot-stands r context e t h own fit
    slot-stands (within j r) context e t h own fit = slot-stands r context (e ++ watch image j h.0 false ∷ []) t h.1 own fit
    slot-stands (group i rs) context e t h own fit =
        let lo = first_child image i in
        let ts = h.0 in
        let place = fork_place image i in
        let waiting = waits-slot context e place lo ts fit ∙ ap (λ n. Waiting place lo n) (size-is rs ts h.2) in
        let theirs : FitsGroup parent (middle context) lo ts = subst (Fits parent (middle context)) h.1 own in
        let rest = slots-stand rs ts no_more context e place lo lo h.2 (add-zero lo) tt theirs fit in
        subst (λ u. SlotStands image (plug context u) (middle context) (group i rs)) (sym h.1) (waiting, rest)

    slots-stand : (rs : Rests) (ts left : Group) (context : Context) (e : List Watch) (place lo k : ℕ) → StandAll image rs ts → lo + size left ≡ k → FitsGroup parent (middle context) lo left → FitsGroup parent (middle context) k ts → IsFitted parent context →
        SlotsStand image (plug context (Waits e place lo (append_group left ts))) k rs
    slots-stand nobody ts left context e place lo k h at_k fl ft fit = tt
    slots-stand (over rs) ts left context e place lo k h at_k fl ft fit =
        let end = Leaf [] Finished in
        let more = h.0 in
        let fm : FitsGroup parent (middle context) k (member end more) = subst (FitsGroup parent (middle context) k) h.1 ft in
        let frame : Frame = record { watches = e; at = place; lo = lo; before = left; behind = more } in
        let whole = plug context (Waits e place lo (append_group left (member end more))) in
        let child : IsChild parent (middle context) (lo + size left) = subst (IsChild parent (middle context)) (sym at_k) fm.0 in
        let behind : FitsGroup parent (middle context) (lo + size left + 1) more = subst (λ n. FitsGroup parent (middle context) (n + 1) more) (sym at_k) fm.2 in
        let here : slot_of k whole ≡ Ended = subst (λ n. slot_of n whole ≡ Ended) at_k (leaf-slot (frame ∷ context) [] Finished (fl, child, behind, fit)) in
        let n : lo + size (snoc left end) ≡ k + 1 = ap (λ m. lo + m) (size-snoc left end) ∙ omega (arith, at_k) in
        let rest : SlotsStand image (plug context (Waits e place lo (append_group (snoc left end) more))) (k + 1) rs =
        slots-stand rs more (snoc left end) context e place lo (k + 1) h.2 n (fit-snoc parent (middle context) left lo end fl child tt) fm.2 fit in
        subst (λ g. SlotsStand image (plug context (Waits e place lo (append_group left g))) k (over rs)) (sym h.1) (
          here,
          subst (λ g. SlotsStand image (plug context (Waits e place lo g)) (k + 1) rs) (append-snoc left end more) rest,
        )
    slots-stand (going r rs) ts left context e place lo k h at_k fl ft fit =
        let t = h.0 in
        let more = h.1 in
        let fm : FitsGroup parent (middle context) k (member t more) = subst (FitsGroup parent (middle context) k) h.2 ft in
        let frame : Frame = record { watches = e; at = place; lo = lo; before = left; behind = more } in
        let whole = plug context (Waits e place lo (append_group left (member t more))) in
        let child : IsChild parent (middle context) (lo + size left) = subst (IsChild parent (middle context)) (sym at_k) fm.0 in
        let own : Fits parent (lo + size left) t = subst (λ n. Fits parent n t) (sym at_k) fm.1 in
        let behind : FitsGroup parent (middle context) (lo + size left + 1) more = subst (λ n. FitsGroup parent (middle context) (n + 1) more) (sym at_k) fm.2 in
        let here : SlotStands image whole k r = subst (λ n. SlotStands image whole n r) at_k (slot-stands r (frame ∷ context) [] t h.3 own (fl, child, behind, fit)) in
        let n : lo + size (snoc left t) ≡ k + 1 = ap (λ m. lo + m) (size-snoc left t) ∙ omega (arith, at_k) in
        let rest : SlotsStand image (plug context (Waits e place lo (append_group (snoc left t) more))) (k + 1) rs =
        slots-stand rs more (snoc left t) context e place lo (k + 1) h.4 n (fit-snoc parent (middle context) left lo t fl child own) fm.2 fit in
        subst (λ g. SlotsStand image (plug context (Waits e place lo (append_group left g))) k (going r rs)) (sym h.2) (
          here,
          subst (λ g. SlotsStand image (plug context (Waits e place lo g)) (k + 1) rs) (append-snoc left t more) rest,
        )

  -- the slots of the tree are those of the residual
  mutual
    pub in-is : (q k : ℕ) (r : Rest) (e : List Watch) (t : Tree) → Stands image e r t → is_in (numbered q) k t ≡ is_of image q k r
    in-is q k (at_pause i) e t h = ap (is_in (numbered q) k) h
    in-is q k (ahead r nodes) e t h = in-is q k r e t h
    in-is q k (within j r) e t h = in-is q k r (e ++ watch image j h.0 false ∷ []) t h.1
    in-is q k (group i rs) e t h = ap (is_in (numbered q) k) h.1 ∙ ap (λ b. k == q || b) (among-is q (first_child image i) rs h.0 h.2)

    among-is : (q k : ℕ) (rs : Rests) (ts : Group) → StandAll image rs ts → is_among (numbered q) k ts ≡ is_of_all image q k rs
    among-is q k nobody ts h = ap (is_among (numbered q) k) h
    among-is q k (over rs) ts h = ap (is_among (numbered q) k) h.1 ∙ ap (λ b. k == q || b) (among-is q (k + 1) rs h.0 h.2)
    among-is q k (going r rs) ts h =
        ap (is_among (numbered q) k) h.2 ∙ ap (λ b. b || is_among (numbered q) (k + 1) h.1) (in-is q k r [] h.0 h.3) ∙ ap (λ b. is_of image q k r || b) (among-is q (k + 1) rs h.1 h.4)

  pub slotwise : (r : Rest) (t : Tree) → Stands image [] r t → Fits parent 0 t → StandsSlotwise image r t
  slotwise r t stands fits = record {
    stands = slot-stands r [] [] t stands fits tt;
    others = λ q no. ap reported_state (none-there (report (numbered q) 0 t) (sym (is_in-report (numbered q) 0 t) ∙ in-is q 0 r [] t stands ∙ no));
  }

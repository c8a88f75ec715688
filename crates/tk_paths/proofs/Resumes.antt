-- A slot's number is that of a loose configuration with answers and a way: a pause, or a fork whose children are resumed.
use Rattle.std.proofs.Common.{◌≡◌, ◌⊎◌, ◌≤◌, ◌<◌, ◌+◌, ◌++◌, ◌==◌, ◌&&◌, map, ℕ, zero, suc, Bool, true, false, not, List, [], ◌∷◌, length, slice_get, Option, Some, None, refl, sym, ap, ◌∙◌, subst, inl, inr, ⊎_elim, arith}
use Rattle.std.specs.List.{AllByRecursion}
use Rattle.std.proofs.lemmas.List.{append-nil}
use Rattle.mb_isa.specs.Costs.{IsCosts}
use Rattle.mb_isa.specs.Candidates.{decoded}
use Rattle.mb_isa.specs.declared.Instr.TheVariants as instr
use Rattle.mb_pfu.specs.declared.parts.Watch.{Watch}
use Rattle.mb_pfu.specs.Rows.{renewed}
use Rattle.mb_pfu.specs.Tree.{Pausing, Finished, Tree, Group, Leaf, Waits, no_more, member, size, each_member, tests_begun}
use Rattle.pt_image.specs.declared.Point.{Point}
use Rattle.pt_image.specs.declared.Parts.{Parts}
use Rattle.pt_image.specs.Listed.{is_listed, is_point, same_numbers}
use Rattle.pt_image.specs.Ranges.{AllBelow, IsPoint}
use Rattle.tk_cert.specs.declared.cert.CertParts.{CertParts}
use Rattle.mb_isa.specs.Free.{IsLoose, AreAtRest, HasLoose, AreOfLines}
use Rattle.tk_paths.specs.declared.view.Side.{Side}
use Rattle.tk_paths.specs.declared.view.Side.TheVariants.{ToPause, ToEnd}
use Rattle.tk_paths.specs.declared.word.Word.TheVariants.{Eot, Fork}
use Rattle.tk_paths.specs.Words.{instr_at, read_instr}
use Rattle.tk_paths.specs.Kinds.{abort_at}
use Rattle.tk_paths.specs.Acceptance.{resumed}
use Rattle.tk_paths.proofs.Inner.{Image}
use Rattle.tk_paths.proofs.Conditions.{Cert, Thread, IsFine, AreAborts, IsAccepted}
use Rattle.tk_paths.proofs.Lists.{any-passes, all-among, three_parts}
use Rattle.tk_paths.proofs.Carried.{image_of, cert_of, same-list}
use Rattle.tk_paths.proofs.Accepts.{Accepts}
use Rattle.tk_paths.proofs.Accepted.{abort-there}
use Rattle.tk_paths.proofs.Controls.{sums}
use Rattle.tk_paths.proofs.Settles.{word-of, read-plain, aborts-of}
use Rattle.tk_paths.specs.Reached.{both_sides, both_ends, Has, After, Resumes, Resumed, Tested}
use Rattle.tk_paths.specs.Tight.{Resumption, at_pause, at_fork, IsTight}
use Rattle.tk_paths.proofs.Ways.{Way, Afterwards}
use Rattle.tk_paths.proofs.Flags.{made, made-nil, made-more, split}
use Rattle.tk_paths.proofs.Moves.{there}
use Rattle.tk_paths.proofs.Extracts.{append-one, length-last, Flagged, flagged-map, way-of, after-flagged}
use Rattle.tk_paths.proofs.TestWalks.{Answering, TWVal, TWGVal}

-- a listed point's aborts stand in the table
pub listed-below : (image : Parts) (points : List Point) (at s : ℕ) (a : List ℕ) → AllByRecursion (IsPoint image) points → is_listed points at s a ≡ true → AllBelow (length image.aborts) a
listed-below image points at s a h l =
    let p = any-passes (is_point at s a) points l in
    let x = three_parts (p.which.at == at) (p.which.slot == s) (same_numbers p.which.stack a) p.passes in
    let B : List ℕ → Type 0 = AllBelow (length image.aborts) in
    subst B (same-list p.which.stack a x.2) (all-among (IsPoint image) points p.which h p.among).3

module _ (image : Parts) where
  pub of-lines : (a : List ℕ) → AllBelow (length image.aborts) a → AreOfLines image (made image [] a)
  of-lines [] h = tt
  of-lines (j ∷ a) h = let l = abort-there image.aborts j h.0 in (l.1 ∙ ap Some (sym l.2), of-lines a h.1)

abbrev pub side_of : Option Side → Side
side_of None = ToEnd
side_of (Some side) = side

abbrev pub IsSome : Option Side → Type 0
IsSome None = ⊥
IsSome (Some side) = Unit {0}

sides-of : (x y : Option Side) → side_of (both_ends x y) ≡ both_sides (side_of x) (side_of y)
sides-of None None = refl
sides-of None (Some ToEnd) = refl
sides-of None (Some ToPause) = refl
sides-of (Some ToEnd) None = refl
sides-of (Some ToPause) None = refl
sides-of (Some x) (Some y) = refl

module _ (image : Parts) (cert : CertParts) (costs : List ℕ) (ok : Accepts image cert costs) where
  abbrev E : Image
  E = image_of image costs

  abbrev D : Cert
  D = cert_of image cert costs

  abbrev acc : IsAccepted E D
  acc = sums image cert costs ok

  pub fine-fork : (s at : ℕ) (a : List ℕ) (lo count : ℕ) → is_listed image.forks at s a ≡ true → instr_at image at ≡ Some (instr.Fork lo count) → IsFine E D at (Thread s a []) (Fork lo count)
  fine-fork s at a lo count l word =
      let p = acc.fork at s a l in
      word-of E D acc at (Thread s a []) (Fork lo count) p.line (λ b. b) (read-plain E D acc at (Fork lo count) p.plain (ap (read_instr image at None) word))

  module _ (priced : IsCosts costs) (tight : IsTight image cert costs) where
    abbrev begun_group : Group → Group
    begun_group ts = each_member (map renewed) (λ x. x) ts

    unfired : (b w : Bool) → (b ≡ true → w ≡ true) → b && not w ≡ false
    unfired false w h = refl
    unfired true w h = ap not (h refl)

    -- the conditions of a slot and what is behind them
    tested-way : (s i : ℕ) (outside a : List ℕ) (inner : Side → ℕ → Type 0) (inner' : List Watch → Side → ℕ → Type 0) (side : Side) (n : ℕ) → length outside ≡ i → AreAborts E D s outside a →
        ((m : ℕ) → inner side m → Flagged image cert costs ok priced tight (outside ++ a) (i + length a) (λ ws. inner' ws side m)) → Tested image cert costs i a inner side n →
        Flagged image cert costs ok priced tight outside i (λ ws. Answering image cert costs ws (map renewed (made image [] a)) inner' side n)
    tested-way s i outside [] inner inner' side n e b f h =
        let F : List ℕ → ℕ → Type 0 = λ l k. Flagged image cert costs ok priced tight l k (λ ws. inner' ws side n) in
        let z : i + 0 ≡ i = omega arith in
        subst (λ l. F l i) (append-nil outside) (subst (F (outside ++ [])) z (f n h))
    tested-way s i outside (j ∷ a) inner inner' side n e b f h =
        let m = h.0 in
        ⊎_elim
        (λ x.
        flagged-map image cert costs ok priced tight outside i (λ ws. Way image cert costs ws ((abort_at image j).handler) side m) (λ ws. Answering image cert costs ws (map renewed (made image [] (j ∷ a))) inner' side n)
        (λ ws w. (m, h.1, inl (x.0, w)))
        (way-of image cert costs ok priced tight m s outside i ((abort_at image j).handler) side m (omega arith) b.1 (omega (arith, e)) x.1))
        (λ x.
        let longer = length-last outside j in
        let F : List ℕ → ℕ → Type 0 = λ l k. (q : ℕ) → inner side q → Flagged image cert costs ok priced tight l k (λ ws. inner' ws side q) in
        let same : i + suc (length a) ≡ i + 1 + length a = omega arith in
        let g : F ((outside ++ j ∷ []) ++ a) (i + 1 + length a) = subst (λ l. F l (i + 1 + length a)) (sym (append-one outside j a)) (subst (F (outside ++ j ∷ a)) same f) in
        let r = tested-way s (i + 1) (outside ++ j ∷ []) a inner inner' side m (omega (arith, longer, e)) b.2 g x in
        let p = split image outside j r.flags (let z = r.size in omega (arith, z, e)) r.are in
        let J : List Watch → Type 0 = λ ws. Answering image cert costs ws (map renewed (made image [] a)) inner' side m in
        record {
          flags = p.less;
          size = p.size ∙ e;
          are = p.flags;
          holds = (
            m,
            h.1,
            inr (
              p.last,
              unfired p.last ((abort_at image j).weak) p.weak,
              subst J (ap (λ f. made image f (outside ++ j ∷ [])) p.is ∙ made-more image outside p.less p.last j p.size) r.holds,
            ),
          );
        })
        h.2

    -- the conditions are all run, or a strong abort cuts the slot
    tested-split : (i : ℕ) (a : List ℕ) (inner : Side → ℕ → Type 0) (side : Side) (n : ℕ) → Tested image cert costs i a inner side n →
        Tested image cert costs i a (λ x m. ⊥) side n ⊎ ((m : ℕ) × inner side m × Tested image cert costs i a (λ x q. (x ≡ side) × (q ≡ m)) side n)
    tested-split i [] inner side n h = inr (n, h, (refl, refl))
    tested-split i (j ∷ a) inner side n h =
        ⊎_elim (λ x. inl (h.0, h.1, inl x))
        (λ x. ⊎_elim (λ y. inl (h.0, h.1, inr y)) (λ y. inr (y.0, y.1, (h.0, h.1, inr y.2))) (tested-split (i + 1) a inner side h.0 x))
        h.2

    pub record Loosened (s : ℕ) (side : Side) (n : ℕ) : Type 0 where
      pub tree : Tree
      pub loose : IsLoose image s tree
      pub value : TWVal image cert costs (tests_begun tree) side n

    pub record Loosened_group (lo count : ℕ) (end : Option Side) (g : ℕ) : Type 0 where
      pub group : Group
      pub rest : AreAtRest image lo group
      pub count_is : size group ≡ count
      pub some : IsSome end → HasLoose image lo group
      pub value : TWGVal image cert costs (begun_group group) (side_of end) g

    abbrev Below : ℕ → Type 0
    Below low = (c : ℕ) (side : Side) (n : ℕ) → low ≤ c → resumed image cert costs side c ≡ Some n → Loosened c side n

    -- children that have ended or are resumed
    loosens : (low : ℕ) → Below low → (count lo : ℕ) (end : Option Side) (g : ℕ) → low ≤ lo → Resumed image cert costs lo count end g → Loosened_group lo count end g
    loosens low ih zero lo end g h r =
        let V : Option Side → Type 0 = λ e. TWGVal image cert costs no_more (side_of e) g in
        let U : Option Side → Type 0 = λ e. IsSome e → HasLoose image lo no_more in
        record { group = no_more; rest = tt; count_is = refl; some = subst U (sym r.0) (λ w. w); value = subst V (sym r.0) (refl, r.1) }
    loosens low ih (suc count) lo end g h r =
        let rest = loosens low ih count (lo + 1) r.1 r.3 (omega (arith, h)) r.5 in
        by r.0 r.4 r.6 rest
      where
        by : (x : Option Side) → Resumes image cert costs lo x r.2 → end ≡ both_ends x r.1 → Loosened_group (lo + 1) count r.1 r.3 → Loosened_group lo (suc count) end g
        by None e z rest =
            let V : Option Side → Type 0 = λ y. TWGVal image cert costs (begun_group (member (Leaf [] Finished) rest.group)) (side_of y) g in
            let U : Option Side → Type 0 = λ y. IsSome y → HasLoose image lo (member (Leaf [] Finished) rest.group) in
            record {
              group = member (Leaf [] Finished) rest.group;
              rest = (inl refl, rest.rest);
              count_is = (let c = rest.count_is in omega (arith, c));
              some = subst U (sym z) (λ w. inr (rest.some w));
              value = subst V (sym z) (ToEnd, side_of r.1, r.2, r.3, (refl, e), rest.value, sides-of None r.1, r.7);
            }
        by (Some x) e z rest =
            let one = ih lo x r.2 h e in
            let V : Option Side → Type 0 = λ y. TWGVal image cert costs (begun_group (member one.tree rest.group)) (side_of y) g in
            record {
              group = member one.tree rest.group;
              rest = (inr one.loose, rest.rest);
              count_is = (let c = rest.count_is in omega (arith, c));
              some = λ w. inl one.loose;
              value = subst V (sym z) (x, side_of r.1, r.2, r.3, one.value, rest.value, sides-of (Some x) r.1, r.7);
            }

    pause-loosened : (s : ℕ) (side : Side) (n at : ℕ) (a : List ℕ) → is_listed image.pauses at s a ≡ true → Tested image cert costs 0 a (λ x m. Has image cert costs x (length a) (at + 1) m) side n → Loosened s side n
    pause-loosened s side n at a l h =
        let p = acc.pause at s a l in
        let fine = word-of E D acc at (Thread s a []) Eot p.line (λ b. b) (read-plain E D acc at Eot p.plain p.word) in
        let z : 0 + length a ≡ length a = omega arith in
        let F : ℕ → Type 0 = λ k. (m : ℕ) → Has image cert costs side (length a) (at + 1) m → Flagged image cert costs ok priced tight a k (λ ws. Way image cert costs ws (at + 1) side m) in
        let inner : F (length a) = λ m e. way-of image cert costs ok priced tight m s a (length a) (at + 1) side m (omega arith) fine.0 (omega arith) e in
        let r = tested-way s 0 [] a (λ x m. Has image cert costs x (length a) (at + 1) m) (λ w x m. Way image cert costs w (at + 1) x m) side n refl (aborts-of E D acc at s a p.line) (subst F (sym z) inner) h in
        let P : List ℕ → Type 0 = λ b. is_listed image.pauses at s b ≡ true in
        let below = listed-below image image.pauses at s a ok.image_is.pauses.1 l in
        record { tree = Leaf (made image [] a) (Pausing at); loose = (subst P (sym (made-nil image a)) l, of-lines image a below); value = alone r.flags r.holds }
      where
        alone : (f : List Bool) → Answering image cert costs (made image f []) (map renewed (made image [] a)) (λ w x m. Way image cert costs w (at + 1) x m) side n → Answering image cert costs [] (map renewed (made image [] a)) (λ w x m. Way image cert costs w (at + 1) x m) side n
        alone [] v = v
        alone (b ∷ f) v = v

    fork-loosened : (s at : ℕ) (a : List ℕ) (lo count : ℕ) (side : Side) (n : ℕ) → is_listed image.forks at s a ≡ true → instr_at image at ≡ Some (instr.Fork lo count) → (end : Side) (sum : ℕ) (ts : Loosened_group lo count (Some end) sum)
        (inner : Side → ℕ → Type 0) →
        ((m : ℕ) → inner side m → Flagged image cert costs ok priced tight a (length a) (λ ws. (y : Side) × (g r : ℕ) × TWGVal image cert costs (begun_group ts.group) y g × Afterwards image cert costs ws at y side r × (m ≡ g + r))) →
        Tested image cert costs 0 a inner side n → Loosened s side n
    fork-loosened s at a lo count side n l word end sum ts inner f h =
        let p = acc.fork at s a l in
        let inner' : List Watch → Side → ℕ → Type 0 = λ w x m. (y : Side) × (g r : ℕ) × TWGVal image cert costs (begun_group ts.group) y g × Afterwards image cert costs w at y x r × (m ≡ g + r) in
        let z : 0 + length a ≡ length a = omega arith in
        let F : ℕ → Type 0 = λ k. (m : ℕ) → inner side m → Flagged image cert costs ok priced tight a k (λ ws. inner' ws side m) in
        let r = tested-way s 0 [] a inner inner' side n refl (aborts-of E D acc at s a p.line) (subst F (sym z) f) h in
        let P : List ℕ → Type 0 = λ b. is_listed image.forks at s b ≡ true in
        let C : ℕ → Type 0 = λ k. (w : ℕ) × (slice_get image.code at ≡ Some w) × (decoded w ≡ Some (instr.Fork lo k)) in
        let below = listed-below image image.forks at s a ok.image_is.forks.1 l in
        record {
          tree = Waits (made image [] a) at lo ts.group;
          loose = (subst P (sym (made-nil image a)) l, of-lines image a below, subst C (sym ts.count_is) (there image costs at (instr.Fork lo count) word), ts.rest, ts.some tt);
          value = alone r.flags r.holds;
        }
      where
        alone : (f : List Bool) → Answering image cert costs (made image f []) (map renewed (made image [] a)) (λ w x m. (y : Side) × (g r : ℕ) × TWGVal image cert costs (begun_group ts.group) y g × Afterwards image cert costs w at y x r × (m ≡ g + r)) side n →
            Answering image cert costs [] (map renewed (made image [] a)) (λ w x m. (y : Side) × (g r : ℕ) × TWGVal image cert costs (begun_group ts.group) y g × Afterwards image cert costs w at y x r × (m ≡ g + r)) side n
        alone [] v = v
        alone (b ∷ f) v = v

    from-resumption : (s : ℕ) (side : Side) (n : ℕ) → Below (s + 1) → Resumption image cert costs s side n → Loosened s side n
    from-resumption s side n ih (at_pause at a l h) = pause-loosened s side n at a l h
    from-resumption s side n ih (at_fork at a lo count l word end sum some h) =
        let fine = fine-fork s at a lo count l word in
        let p = acc.fork at s a l in
        let above : s < lo = fine.1.1 in
        ⊎_elim
        (λ x. fork-loosened s at a lo count side n l word end sum (loosens (s + 1) ih count lo (Some end) sum (omega (arith, above)) some) (λ y m. ⊥) (λ m w. absurd w) x)
        (λ x.
        let v = x.1 in
        let ts = loosens (s + 1) ih count lo (Some v.0) v.1 (omega (arith, above)) v.3 in
        fork-loosened s at a lo count side n l word v.0 v.1 ts (λ y m. (y ≡ side) × (m ≡ x.0))
        (λ m w.
        flagged-map image cert costs ok priced tight a (length a) (λ ws. Afterwards image cert costs ws at v.0 side v.2) (λ ws. (y : Side) × (g r : ℕ) × TWGVal image cert costs (begun_group ts.group) y g × Afterwards image cert costs ws at y side r × (m ≡ g + r))
        (λ ws q. (v.0, v.1, v.2, ts.value, q, w.1 ∙ v.5))
        (after-flagged image cert costs ok priced tight v.2 (way-of image cert costs ok priced tight v.2) at s (length a) a v.0 side v.2 (omega arith) (p.line, p.plain) fine.0 (omega arith) v.4))
        x.2)
        (tested-split 0 a (λ y m. (z : Side) × (g r : ℕ) × Resumed image cert costs lo count (Some z) g × After image cert costs a (length a) at z y r × (m ≡ g + r)) side n h)

    -- children stand above their parent, and below the number of slots
    pub loosened : (fuel s : ℕ) (side : Side) (n : ℕ) → length image.slots ≤ s + fuel → resumed image cert costs side s ≡ Some n → Loosened s side n
    loosened zero s side n f e = last (tight.resumption s side n e)
      where
        last : Resumption image cert costs s side n → Loosened s side n
        last (at_pause at a l h) = pause-loosened s side n at a l h
        last (at_fork at a lo count l word end sum some h) =
            let fine = fine-fork s at a lo count l word in
            let above : s < lo = fine.1.1 in
            let inside : lo + count ≤ length image.slots = fine.1.3 in
            absurd (omega (arith, f, above, inside))
    loosened (suc fuel) s side n f e = from-resumption s side n (λ c x m low r. loosened fuel c x m (omega (arith, f, low)) r) (tight.resumption s side n e)

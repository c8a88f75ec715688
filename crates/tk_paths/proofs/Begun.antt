-- A slot's number is that of the loose configuration that is said, by the answers and the choices that are said.
use Rattle.std.proofs.Common.{◌≡◌, ◌⊎◌, ◌≤◌, ◌<◌, ◌+◌, ◌++◌, ◌==◌, map, ℕ, zero, suc, Bool, true, false, if◌then◌else◌, List, [], ◌∷◌, length, slice_get, Option, Some, None, refl, sym, ap, ◌∙◌, subst, inl, inr, eqb-true, arith}
use Rattle.std.proofs.lemmas.List.{append-nil}
use Rattle.std.proofs.lemmas.Option.{none-some, same_Some}
use Rattle.mb_isa.specs.Costs.{IsCosts}
use Rattle.mb_isa.specs.Candidates.{decoded}
use Rattle.mb_isa.specs.declared.Instr.{Instr}
use Rattle.mb_isa.specs.declared.Instr.TheVariants as instr
use Rattle.mb_pfu.specs.declared.parts.Watch.{Watch}
use Rattle.mb_pfu.specs.Rows.{renewed}
use Rattle.mb_pfu.specs.Tree.{Pausing, Finished, Group, Leaf, Waits, no_more, member, size, each_member, tests_begun}
use Rattle.pt_image.specs.declared.Point.{Point}
use Rattle.pt_image.specs.declared.Parts.{Parts}
use Rattle.pt_image.specs.Listed.{is_listed}
use Rattle.pt_image.specs.Ranges.{IsPoint}
use Rattle.tk_cert.specs.declared.cert.CertParts.{CertParts}
use Rattle.mb_isa.specs.Free.{IsLoose, AreAtRest, HasLoose}
use Rattle.tk_paths.specs.declared.view.Side.{Side}
use Rattle.tk_paths.specs.declared.view.Side.TheVariants.{ToPause, ToEnd}
use Rattle.tk_paths.specs.declared.word.Word.TheVariants.{Eot, Fork}
use Rattle.tk_paths.specs.Sums.{plus, greater, or_zero, and_more, resumed_ends, resumed_most, resumed_paused}
use Rattle.tk_paths.specs.Words.{instr_at, read_instr}
use Rattle.tk_paths.specs.Acceptance.{resumed}
use Rattle.tk_paths.proofs.Inner.{Image}
use Rattle.tk_paths.proofs.Conditions.{Cert, Thread, IsFine, AreAborts, IsAccepted}
use Rattle.tk_paths.proofs.Lists.{IsAmong, all-among}
use Rattle.tk_paths.proofs.Carried.{image_of, cert_of}
use Rattle.tk_paths.proofs.Accepts.{Accepts}
use Rattle.tk_paths.proofs.Controls.{sums}
use Rattle.tk_paths.proofs.Settles.{word-of, read-plain, aborts-of}
use Rattle.tk_paths.specs.Reached.{IsOpen, both_sides}
use Rattle.tk_paths.specs.Regions.{Region}
use Rattle.tk_paths.specs.Greatest.{where_some, best, num, resting, tested, paused, waited_by, waited, ending_sum, pausing_sum}
use Rattle.tk_paths.specs.Choices.{bare_of, is_second, Plan, resting_plan}
use Rattle.tk_paths.specs.Dearest.{Begun, Begun_group, ended_slot, one_more, resumed_child, plan_or, entries, cut_plan, pause_begun, ended_group, most_group, paused_group, waiting, fork_begun, fork_begun_by, best_begun, slot_begun}
use Rattle.tk_paths.proofs.OpenPlaces.{IsStepWith}
use Rattle.tk_paths.proofs.Flags.{new_entry, made, made-nil}
use Rattle.tk_paths.proofs.Moves.{there}
use Rattle.tk_paths.proofs.MaxPlus.{plus-is}
use Rattle.tk_paths.proofs.Resumes.{listed-below, of-lines}
use Rattle.tk_paths.proofs.Greatest.{listed-so}
use Rattle.tk_paths.proofs.Routes.{Route, joins, rests}
use Rattle.tk_paths.proofs.RouteTests.{Tested, Answering, TWVal, GroupedBy, TWGVal}
use Rattle.tk_paths.proofs.Fitted.{greater-so}
use Rattle.tk_paths.proofs.Planned.{next, route-of, rested-planned}
use Rattle.tk_paths.proofs.Answers.{Told, all-told, Then, cut-told, uncut-rest, uncut-told}

some-where : (a b : Option ℕ) (n : ℕ) → where_some a b ≡ Some n → ((g : ℕ) × (a ≡ Some g)) × (b ≡ Some n)
some-where None b n h = absurd (none-some n h)
some-where (Some g) b n h = ((g, refl), h)

or-more : (o r : Option ℕ) → or_zero (and_more o r) ≡ or_zero o + or_zero r
or-more None r = let e : or_zero r ≡ 0 + or_zero r = omega arith in e
or-more (Some v) r = refl

module _ (image : Parts) (cert : CertParts) (costs : List ℕ) where
  -- what is said of the point that gives a slot's number
  pub best-one : (given : Point → Option ℕ) (begun : Point → Begun) (s : ℕ) (points : List Point) (n : ℕ) (P : Begun → Type 0) → ((p : Point) → IsAmong p points → p.slot ≡ s → given p ≡ Some n → P (begun p)) → best given s points ≡ Some n →
      P (best_begun given begun s points)
  best-one given begun s [] n P f h = absurd (none-some n h)
  best-one given begun s (x ∷ points) n P f h = by (x.slot == s) refl h (λ e. best-one given begun s points n P (λ p k. f p (inr k)) e)
    where
      by : (b : Bool) → (x.slot == s) ≡ b → (if b then greater (given x) (best given s points) else best given s points) ≡ Some n → (best given s points ≡ Some n → P (best_begun given begun s points)) →
          P (if b then (if is_second (given x) (best given s points) then best_begun given begun s points else begun x) else best_begun given begun s points)
      by false e k later = later k
      by true e k later = either (is_second (given x) (best given s points)) (greater-so (given x) (best given s points) n k (is_second (given x) (best given s points)) refl)
        where
          either : (t : Bool) → (if t then best given s points else given x) ≡ Some n → P (if t then best_begun given begun s points else begun x)
          either true g = later g
          either false g = f x (inl refl) (eqb-true x.slot s e) g

  entries-made : (a : List ℕ) → entries image a ≡ made image [] a
  entries-made [] = refl
  entries-made (j ∷ a) = ap (λ l. new_entry image j ∷ l) (entries-made a)

  abbrev pub begun_group : Group → Group
  begun_group ts = each_member (map renewed) (λ x. x) ts

module _ (image : Parts) (cert : CertParts) (costs : List ℕ) (find : ℕ → Option Region) (ok : Accepts image cert costs) (priced : IsCosts costs)
    (steps : (p s : ℕ) (a : List ℕ) → IsOpen image cert costs p s a → IsStepWith image cert costs find (instr_at image p) p s a) (fuel : ℕ) where
  abbrev view : CertParts
  view = bare_of cert

  abbrev E : Image
  E = image_of image costs

  abbrev D : Cert
  D = cert_of image cert costs

  abbrev acc : IsAccepted E D
  acc = sums image cert costs ok

  abbrev plans : ℕ → Side → ℕ → Plan
  plans = next image cert costs find ok priced steps fuel

  fine-fork : (s at : ℕ) (a : List ℕ) (lo count : ℕ) → is_listed image.forks at s a ≡ true → instr_at image at ≡ Some (instr.Fork lo count) → IsFine E D at (Thread s a []) (Fork lo count)
  fine-fork s at a lo count l word =
      let p = acc.fork at s a l in
      word-of E D acc at (Thread s a []) (Fork lo count) p.line (λ b. b) (read-plain E D acc at (Fork lo count) p.plain (ap (read_instr image at None) word))

  -- ---- slots

  -- a slot is loose; and where its number is small enough, it comes to that
  pub record Loosened (s : ℕ) (side : Side) (n : ℕ) (x : Begun) : Type 0 where
    pub loose : IsLoose image s x.0
    pub value : n ≤ fuel → TWVal image cert costs (tests_begun x.0) side n x.1.0 x.1.1

  -- a child has ended or is loose
  record Child (s : ℕ) (side : Side) (n : ℕ) (x : Begun) : Type 0 where
    rest : (x.0 ≡ Leaf [] Finished) ⊎ IsLoose image s x.0
    value : n ≤ fuel → TWVal image cert costs (tests_begun x.0) side n x.1.0 x.1.1

  record Children (c n : ℕ) (side : Side) (sum : ℕ) (x : Begun_group) : Type 0 where
    rest : AreAtRest image c x.0
    count_is : size x.0 ≡ n
    value : sum ≤ fuel → TWGVal image cert costs (begun_group image cert costs x.0) side sum x.1.0 x.1.1

  no-child : (c : ℕ) → Children c 0 ToEnd 0 (no_more, ([], []))
  no-child c = record { rest = tt; count_is = refl; value = λ f. (refl, refl, refl, refl) }

  ended-child : (c : ℕ) → Child c ToEnd 0 ended_slot
  ended-child c = record { rest = inl refl; value = λ f. (refl, refl, refl, refl) }

  loose-child : (c : ℕ) (side : Side) (n : ℕ) (x : Begun) → Loosened c side n x → Child c side n x
  loose-child c side n x l = record { rest = inr l.loose; value = l.value }

  one-child : (c n p q sum : ℕ) (x y : Side) (first : Begun) (others : Begun_group) → sum ≡ p + q → Child c x p first → Children (c + 1) n y q others → Children c (suc n) (both_sides x y) sum (one_more first others)
  one-child c n p q sum x y first others e a b = record {
    rest = (a.rest, b.rest);
    count_is = (let z = b.count_is in omega (arith, z));
    value = λ f. (x, y, p, q, first.1.0, others.1.0, first.1.1, others.1.1, a.value (omega (arith, f, e)), b.value (omega (arith, f, e)), refl, e, refl, refl);
  }

  module _ (low : ℕ) (child : Side → ℕ → Begun) (below : (c : ℕ) (side : Side) (n : ℕ) → low ≤ c → resumed image view costs side c ≡ Some n → Loosened c side n (child side c)) where
    abbrev R : Side → ℕ → Option ℕ
    R side c = resumed image view costs side c

    end-child : (c : ℕ) → low ≤ c → Child c ToEnd (or_zero (R ToEnd c)) (resumed_child (R ToEnd c) (child ToEnd c))
    end-child c l = by (R ToEnd c) refl
      where
        by : (o : Option ℕ) → R ToEnd c ≡ o → Child c ToEnd (or_zero o) (resumed_child o (child ToEnd c))
        by None e = ended-child c
        by (Some v) e = loose-child c ToEnd v (child ToEnd c) (below c ToEnd v l e)

    ends-children : (n c : ℕ) → low ≤ c → Children c n ToEnd (or_zero (resumed_ends R c n)) (ended_group image view costs plans child c n)
    ends-children zero c l = no-child c
    ends-children (suc n) c l =
        one-child c n (or_zero (R ToEnd c)) (or_zero (resumed_ends R (c + 1) n)) (or_zero (and_more (R ToEnd c) (resumed_ends R (c + 1) n))) ToEnd ToEnd (resumed_child (R ToEnd c) (child ToEnd c)) (ended_group image view costs plans child (c + 1) n)
        (or-more (R ToEnd c) (resumed_ends R (c + 1) n)) (end-child c l) (ends-children n (c + 1) (omega (arith, l)))

    ends-some : (n c g : ℕ) → low ≤ c → resumed_ends R c n ≡ Some g → HasLoose image c (ended_group image view costs plans child c n).0
    ends-some zero c g l e = absurd (none-some g e)
    ends-some (suc n) c g l e = by (R ToEnd c) refl e (λ k. ends-some n (c + 1) g (omega (arith, l)) k)
      where
        by : (o : Option ℕ) → R ToEnd c ≡ o → and_more o (resumed_ends R (c + 1) n) ≡ Some g → (resumed_ends R (c + 1) n ≡ Some g → HasLoose image (c + 1) (ended_group image view costs plans child (c + 1) n).0) →
            HasLoose image c (member (resumed_child o (child ToEnd c)).0 (ended_group image view costs plans child (c + 1) n).0)
        by None k h later = inr (later h)
        by (Some v) k h later = inl (below c ToEnd v l k).loose

    most-child : (c : ℕ) → low ≤ c → (x : Side) × Child c x (or_zero (greater (R ToPause c) (R ToEnd c))) (resumed_child (greater (R ToPause c) (R ToEnd c)) (if is_second (R ToPause c) (R ToEnd c) then child ToEnd c else child ToPause c))
    most-child c l = by (greater (R ToPause c) (R ToEnd c)) refl
      where
        by : (o : Option ℕ) → greater (R ToPause c) (R ToEnd c) ≡ o → (x : Side) × Child c x (or_zero o) (resumed_child o (if is_second (R ToPause c) (R ToEnd c) then child ToEnd c else child ToPause c))
        by None e = (ToEnd, ended-child c)
        by (Some v) e = either (is_second (R ToPause c) (R ToEnd c)) (greater-so (R ToPause c) (R ToEnd c) v e (is_second (R ToPause c) (R ToEnd c)) refl)
          where
            either : (t : Bool) → (if t then R ToEnd c else R ToPause c) ≡ Some v → (x : Side) × Child c x v (if t then child ToEnd c else child ToPause c)
            either true k = (ToEnd, loose-child c ToEnd v (child ToEnd c) (below c ToEnd v l k))
            either false k = (ToPause, loose-child c ToPause v (child ToPause c) (below c ToPause v l k))

    most-children : (n c : ℕ) → low ≤ c → (y : Side) × Children c n y (resumed_most R c n) (most_group image view costs plans child c n)
    most-children zero c l = (ToEnd, no-child c)
    most-children (suc n) c l =
        let a = most-child c l in
        let b = most-children n (c + 1) (omega (arith, l)) in (
          both_sides a.0 b.0,
          one-child c n (or_zero (greater (R ToPause c) (R ToEnd c))) (resumed_most R (c + 1) n) (resumed_most R c (suc n)) a.0 b.0
              (resumed_child (greater (R ToPause c) (R ToEnd c)) (if is_second (R ToPause c) (R ToEnd c) then child ToEnd c else child ToPause c)) (most_group image view costs plans child (c + 1) n) refl a.1 b.1,
        )

    pauses-children : (n c g : ℕ) → low ≤ c → resumed_paused R c n ≡ Some g → Children c n ToPause g (paused_group image view costs plans child c n) × HasLoose image c (paused_group image view costs plans child c n).0
    pauses-children zero c g l e = absurd (none-some g e)
    pauses-children (suc n) c g l e = by (is_second first second) (greater-so first second g e (is_second first second) refl) (λ q k. pauses-children n (c + 1) q (omega (arith, l)) k)
      where
        first : Option ℕ
        first = plus (R ToPause c) (Some (resumed_most R (c + 1) n))

        second : Option ℕ
        second = plus (Some (or_zero (R ToEnd c))) (resumed_paused R (c + 1) n)

        by : (t : Bool) → (if t then second else first) ≡ Some g →
            ((q : ℕ) → resumed_paused R (c + 1) n ≡ Some q → Children (c + 1) n ToPause q (paused_group image view costs plans child (c + 1) n) × HasLoose image (c + 1) (paused_group image view costs plans child (c + 1) n).0) →
            Children c (suc n) ToPause g (if t then one_more (resumed_child (R ToEnd c) (child ToEnd c)) (paused_group image view costs plans child (c + 1) n) else one_more (child ToPause c) (most_group image view costs plans child (c + 1) n))
            × HasLoose image c (if t then one_more (resumed_child (R ToEnd c) (child ToEnd c)) (paused_group image view costs plans child (c + 1) n) else one_more (child ToPause c) (most_group image view costs plans child (c + 1) n)).0
        by true k later =
            let p = plus-is (Some (or_zero (R ToEnd c))) (resumed_paused R (c + 1) n) g k in
            let r = later p.1 p.3 in
            let same : or_zero (R ToEnd c) ≡ p.0 = same_Some (or_zero (R ToEnd c)) p.0 p.2 in
            let sum = p.4 in (
              one-child c n (or_zero (R ToEnd c)) p.1 g ToEnd ToPause (resumed_child (R ToEnd c) (child ToEnd c)) (paused_group image view costs plans child (c + 1) n) (omega (arith, sum, same)) (end-child c l) r.0,
              inr r.1,
            )
        by false k later =
            let p = plus-is (R ToPause c) (Some (resumed_most R (c + 1) n)) g k in
            let a = below c ToPause p.0 l p.2 in
            let b = most-children n (c + 1) (omega (arith, l)) in
            let same : resumed_most R (c + 1) n ≡ p.1 = same_Some (resumed_most R (c + 1) n) p.1 p.3 in
            let sum = p.4 in (
              one-child c n p.0 (resumed_most R (c + 1) n) g ToPause b.0 (child ToPause c) (most_group image view costs plans child (c + 1) n) (omega (arith, sum, same)) (loose-child c ToPause p.0 (child ToPause c) a) b.1,
              inl a.loose,
            )

  -- ---- a slot that is paused

  pause-loosened : (s : ℕ) (side : Side) (n : ℕ) (p : Point) → IsAmong p image.pauses → p.slot ≡ s → paused image view costs side p ≡ Some n → Loosened s side n (pause_begun image view costs plans side p)
  pause-loosened s side n p among slot h =
      let a = p.stack in
      let at = p.at in
      let L : ℕ → Type 0 = λ q. is_listed image.pauses at q a ≡ true in
      let l : L s = subst L slot (listed-so image cert costs image.pauses p among) in
      let q = acc.pause at s a l in
      let fine = word-of E D acc at (Thread s a []) Eot q.line (λ b. b) (read-plain E D acc at Eot q.plain q.word) in
      let rest = num image view costs side (length a) (at + 1) in
      let full = plans (at + 1) side (length a) in
      let inner : List Watch → Tested = λ w x m e y. (e ≡ []) × Route image cert costs w (at + 1) x m y in
      let below = listed-below image image.pauses at s a ok.image_is.pauses.1 l in
      let N : List ℕ → Type 0 = λ b. is_listed image.pauses at s b ≡ true in
      let T : List Watch → Type 0 = λ ws. IsLoose image s (Leaf ws (Pausing at)) in
      let V : List Watch → Type 0 = λ ws. TWVal image cert costs (tests_begun (Leaf ws (Pausing at))) side n (plan_or (cut_plan image view costs plans side 0 a rest) full).0 (plan_or (cut_plan image view costs plans side 0 a rest) full).1 in
      let same = sym (entries-made image view costs a) in
      let behind : n ≤ fuel → (m : ℕ) → m ≤ n → rest ≡ Some m → Told image cert costs ([] ++ a) (0 + length a) full.0 (λ ws d. inner ws side m d full.1) =
      λ small m less e.
      let g = route-of image cert costs find ok priced steps fuel s a (length a) (at + 1) side m (omega (arith, small, less)) fine.0 (omega arith) e in
      let size = g.size in
      record { less = full.0; others = []; is = sym (append-nil full.0); size = omega (arith, size); are = g.are; holds = (refl, g.holds) } in
      record {
        loose = subst T same (subst N (sym (made-nil image a)) l, of-lines image a below);
        value = λ small. subst V same (by inner rest full (aborts-of E D acc at s a q.line) small h (behind small) (cut_plan image view costs plans side 0 a rest) refl);
      }
    where
      by : (inner : List Watch → Tested) (rest : Option ℕ) (full : Plan) → AreAborts E D s [] p.stack → n ≤ fuel → tested image view costs side 0 p.stack rest ≡ Some n → ((m : ℕ) → m ≤ n → rest ≡ Some m → Told image cert costs ([] ++ p.stack) (0 + length p.stack) full.0 (λ ws d. inner ws side m d full.1)) →
          (o : Option Plan) → cut_plan image view costs plans side 0 p.stack rest ≡ o → Answering image cert costs [] (map renewed (made image [] p.stack)) inner side n (plan_or o full).0 (plan_or o full).1
      by inner rest full aborts small x behind (Some c) e = all-told image cert costs c.0 (Then image cert costs find ok priced steps fuel p.stack inner side n c.1) (cut-told image cert costs find ok priced steps fuel s 0 [] p.stack inner rest c side n small refl aborts e x)
      by inner rest full aborts small x behind None e = all-told image cert costs full.0 (Then image cert costs find ok priced steps fuel p.stack inner side n full.1) (uncut-told image cert costs find ok priced steps fuel s 0 [] p.stack inner rest full side n small refl aborts behind e x)

  -- ---- a slot that waits

  module _ (s : ℕ) (child : Side → ℕ → Begun) (below : (c : ℕ) (side : Side) (n : ℕ) → s + 1 ≤ c → resumed image view costs side c ≡ Some n → Loosened c side n (child side c)) (side : Side) (p : Point) (lo count : ℕ)
      (l : is_listed image.forks p.at s p.stack ≡ true) (word : instr_at image p.at ≡ Some (instr.Fork lo count)) where
    abbrev a : List ℕ
    a = p.stack

    abbrev k : ℕ
    k = length p.stack

    abbrev ends_first : Option ℕ
    ends_first = plus (ending_sum image view costs lo count) (num image view costs side k (p.at + 1))

    abbrev pauses_first : Option ℕ
    pauses_first = plus (pausing_sum image view costs lo count) (resting image view costs p.stack k side)

    above : s + 1 ≤ lo
    above = let x : s < lo = (fine-fork s p.at a lo count l word).1.1 in omega (arith, x)

    -- a slot that waits for children at rest, of which one is loose
    waits-loose : (group : Group) → size group ≡ count → AreAtRest image lo group → HasLoose image lo group → IsLoose image s (Waits (made image [] a) p.at lo group)
    waits-loose group e rest some =
        let P : List ℕ → Type 0 = λ b. is_listed image.forks p.at s b ≡ true in
        let C : ℕ → Type 0 = λ i. (w : ℕ) × (slice_get image.code p.at ≡ Some w) × (decoded w ≡ Some (instr.Fork lo i)) in
        let few = listed-below image image.forks p.at s a ok.image_is.forks.1 l in
        (subst P (sym (made-nil image a)) l, of-lines image a few, subst C (sym e) (there image costs p.at (instr.Fork lo count) word), rest, some)

    loosened-as : (n : ℕ) (group : Group) (d z : List Bool) → IsLoose image s (Waits (made image [] a) p.at lo group) → (n ≤ fuel → TWVal image cert costs (tests_begun (Waits (made image [] a) p.at lo group)) side n d z) →
        Loosened s side n (Waits (entries image a) p.at lo group, (d, z))
    loosened-as n group d z loose v =
        let same = sym (entries-made image view costs a) in
        let L : List Watch → Type 0 = λ ws. IsLoose image s (Waits ws p.at lo group) in
        let V : List Watch → Type 0 = λ ws. TWVal image cert costs (tests_begun (Waits ws p.at lo group)) side n d z in
        record { loose = subst L same loose; value = λ f. subst V same (v f) }

    -- what is behind the conditions
    abbrev Inner : Group → List Watch → Tested
    Inner group w x m d z = GroupedBy image cert costs (TWGVal image cert costs (begun_group image cert costs group)) p.at w x m d z

    aborts : AreAborts E D s [] a
    aborts = aborts-of E D acc p.at s a (acc.fork p.at s a l).line

    -- a strong abort cuts it
    cut-loosened : (n : ℕ) (c : Plan) (rest : Option ℕ) (g : ℕ) → greater (ending_sum image view costs lo count) (pausing_sum image view costs lo count) ≡ Some g → cut_plan image view costs plans side 0 a rest ≡ Some c →
        tested image view costs side 0 a rest ≡ Some n → Loosened s side n (fork_begun image view costs plans child side p lo count (Some c))
    cut-loosened n c rest g some e h = by (is_second ends pauses) (greater-so ends pauses g some (is_second ends pauses) refl)
      where
        ends : Option ℕ
        ends = ending_sum image view costs lo count

        pauses : Option ℕ
        pauses = pausing_sum image view costs lo count

        told : (group : Group) → n ≤ fuel → TWVal image cert costs (tests_begun (Waits (made image [] a) p.at lo group)) side n c.0 c.1
        told group small = all-told image cert costs c.0 (Then image cert costs find ok priced steps fuel a (Inner group) side n c.1) (cut-told image cert costs find ok priced steps fuel s 0 [] a (Inner group) rest c side n small refl aborts e h)

        by : (t : Bool) → (if t then pauses else ends) ≡ Some g → Loosened s side n (Waits (entries image a) p.at lo (if t then paused_group image view costs plans child lo count else ended_group image view costs plans child lo count).0, c)
        by true x =
            let q = pauses-children (s + 1) child below count lo g above x in
            let group = (paused_group image view costs plans child lo count).0 in
            loosened-as n group c.0 c.1 (waits-loose group q.0.count_is q.0.rest q.1) (told group)
        by false x =
            let q = ends-children (s + 1) child below count lo above in
            let group = (ended_group image view costs plans child lo count).0 in
            loosened-as n group c.0 c.1 (waits-loose group q.count_is q.rest (ends-some (s + 1) child below count lo g above x)) (told group)

    -- all its conditions are run
    uncut-loosened : (n : ℕ) → cut_plan image view costs plans side 0 a (greater pauses_first ends_first) ≡ None → tested image view costs side 0 a (greater pauses_first ends_first) ≡ Some n →
        Loosened s side n (fork_begun image view costs plans child side p lo count None)
    uncut-loosened n e h =
        let r = uncut-rest image cert costs find ok priced steps fuel side 0 a (greater pauses_first ends_first) n e h in
        by r.0 r.1 r.2 (is_second pauses_first ends_first) (greater-so pauses_first ends_first r.0 r.2 (is_second pauses_first ends_first) refl)
      where
        z : [] ++ a ≡ a
        z = refl

        told : (group : Group) (full : Plan) (m : ℕ) → greater pauses_first ends_first ≡ Some m →
            (n ≤ fuel → Told image cert costs a (0 + k) full.0 (λ ws d. Inner group ws side m d full.1)) → n ≤ fuel → TWVal image cert costs (tests_begun (Waits (made image [] a) p.at lo group)) side n full.0 full.1
        told group full m is inner small =
            let I : ℕ → Type 0 = λ i. Told image cert costs a (0 + k) full.0 (λ ws d. Inner group ws side i d full.1) in
            all-told image cert costs full.0 (Then image cert costs find ok priced steps fuel a (Inner group) side n full.1)
            (uncut-told image cert costs find ok priced steps fuel s 0 [] a (Inner group) (greater pauses_first ends_first) full side n small refl aborts (λ i low x. subst I (same_Some m i (sym is ∙ x)) (inner small)) e h)

        by : (m : ℕ) → m ≤ n → greater pauses_first ends_first ≡ Some m → (t : Bool) → (if t then ends_first else pauses_first) ≡ Some m →
            Loosened s side n
            (if t then waiting image view costs plans child p lo (ended_group image view costs plans child lo count) (plans (p.at + 1) side k)
            else waiting image view costs plans child p lo (paused_group image view costs plans child lo count) (resting_plan image view costs plans p.stack k side))
        by m low is true x =
            let q = plus-is (ending_sum image view costs lo count) (num image view costs side k (p.at + 1)) m x in
            let sum = q.4 in
            let group = ended_group image view costs plans child lo count in
            let kids = ends-children (s + 1) child below count lo above in
            let plan = plans (p.at + 1) side k in
            let full : Plan = (plan.0 ++ group.1.0, group.1.1 ++ plan.1) in
            let same : or_zero (ending_sum image view costs lo count) ≡ q.0 = ap or_zero q.2 in
            let after = (fine-fork s p.at a lo count l word).0 in
            loosened-as n group.0 full.0 full.1 (waits-loose group.0 kids.count_is kids.rest (ends-some (s + 1) child below count lo q.0 above q.2))
            (told group.0 full m is
            (λ small.
            let g = route-of image cert costs find ok priced steps fuel s a k (p.at + 1) side q.1 (omega (arith, small, low, sum)) after (omega arith) q.3 in
            let size = g.size in
            record {
              less = plan.0;
              others = group.1.0;
              is = refl;
              size = omega (arith, size);
              are = g.are;
              holds = (ToEnd, or_zero (ending_sum image view costs lo count), q.1, group.1.1, plan.1, kids.value (omega (arith, small, low, sum, same)), joins refl g.holds, omega (arith, sum, same), refl);
            }))
        by m low is false x =
            let q = plus-is (pausing_sum image view costs lo count) (resting image view costs p.stack k side) m x in
            let sum = q.4 in
            let group = paused_group image view costs plans child lo count in
            let kids = pauses-children (s + 1) child below count lo q.0 above q.2 in
            let plan = resting_plan image view costs plans p.stack k side in
            let full : Plan = (plan.0 ++ group.1.0, group.1.1 ++ plan.1) in
            let here = acc.fork p.at s a l in
            loosened-as n group.0 full.0 full.1 (waits-loose group.0 kids.0.count_is kids.0.rest kids.1)
            (told group.0 full m is
            (λ small.
            let g = rested-planned image cert costs find ok priced steps fuel (route-of image cert costs find ok priced steps fuel) p.at s k a side q.1 (omega (arith, small, low, sum)) (here.line, here.plain) (omega arith) q.3 in
            let size = g.size in
            record {
              less = plan.0;
              others = group.1.0;
              is = refl;
              size = omega (arith, size);
              are = g.are;
              holds = (ToPause, q.0, q.1, group.1.1, plan.1, kids.0.value (omega (arith, small, low, sum)), rests refl g.holds, sum, refl);
            }))

    fork-loosened : (n : ℕ) → waited_by image view costs (Some (instr.Fork lo count)) side p ≡ Some n →
        Loosened s side n (fork_begun image view costs plans child side p lo count (cut_plan image view costs plans side 0 a (greater pauses_first ends_first)))
    fork-loosened n h =
        let w = some-where (greater (ending_sum image view costs lo count) (pausing_sum image view costs lo count)) (tested image view costs side 0 a (greater pauses_first ends_first)) n h in
        by w.0.0 w.0.1 w.1 (cut_plan image view costs plans side 0 a (greater pauses_first ends_first)) refl
      where
        by : (g : ℕ) → greater (ending_sum image view costs lo count) (pausing_sum image view costs lo count) ≡ Some g → tested image view costs side 0 a (greater pauses_first ends_first) ≡ Some n →
            (o : Option Plan) → cut_plan image view costs plans side 0 a (greater pauses_first ends_first) ≡ o → Loosened s side n (fork_begun image view costs plans child side p lo count o)
        by g some x (Some c) e = cut-loosened n c (greater pauses_first ends_first) g some e x
        by g some x None e = uncut-loosened n e x

  wait-loosened : (s : ℕ) (child : Side → ℕ → Begun) → ((c : ℕ) (side : Side) (n : ℕ) → s + 1 ≤ c → resumed image view costs side c ≡ Some n → Loosened c side n (child side c)) → (side : Side) (p : Point) → is_listed image.forks p.at s p.stack ≡ true → (n : ℕ) →
      (o : Option Instr) → instr_at image p.at ≡ o → waited_by image view costs o side p ≡ Some n → Loosened s side n (fork_begun_by image view costs plans child o side p)
  wait-loosened s child below side p l n (Some (instr.Fork lo count)) word h = fork-loosened s child below side p lo count l word n h
  wait-loosened s child below side p l n (Some other) word h = absurd (none-some n h)
  wait-loosened s child below side p l n None word h = absurd (none-some n h)

  -- ---- each slot

  module _ (slot_is : (s : ℕ) (side : Side) → resumed image view costs side s ≡ greater (best (paused image view costs side) s image.pauses) (best (waited image view costs side) s image.forks)) where
    -- children stand above their parent, and below the number of slots
    pub slot-loosened : (deep s : ℕ) (side : Side) (n : ℕ) → length image.slots ≤ s + deep → resumed image view costs side s ≡ Some n → Loosened s side n (slot_begun image view costs plans deep side s)
    slot-loosened zero s side n f e =
        let P : Begun → Type 0 = λ x. ⊥ in
        let none : (points : List Point) (p : Point) → IsAmong p points → p.slot ≡ s → p.slot < length image.slots → ⊥ = λ points p k same low. omega (arith, f, same, low) in
        let first = best (paused image view costs side) s image.pauses in
        let second = best (waited image view costs side) s image.forks in
        let gone : ⊥ =
        by first second (is_second first second) (greater-so first second n (sym (slot_is s side) ∙ e) (is_second first second) refl)
        (λ h. best-one image view costs (paused image view costs side) (λ p. ended_slot) s image.pauses n P (λ p k same g. none image.pauses p k same (all-among (IsPoint image) image.pauses p ok.image_is.pauses.1 k).1) h)
        (λ h. best-one image view costs (waited image view costs side) (λ p. ended_slot) s image.forks n P (λ p k same g. none image.forks p k same (all-among (IsPoint image) image.forks p ok.image_is.forks.1 k).1) h) in
        absurd gone
      where
        by : (a b : Option ℕ) (t : Bool) → (if t then b else a) ≡ Some n → (a ≡ Some n → ⊥) → (b ≡ Some n → ⊥) → ⊥
        by a b true h f g = g h
        by a b false h f g = f h
    slot-loosened (suc deep) s side n f e =
        by (is_second first second) (greater-so first second n (sym (slot_is s side) ∙ e) (is_second first second) refl)
        (λ c x m low r. slot-loosened deep c x m (omega (arith, f, low)) r)
      where
        first : Option ℕ
        first = best (paused image view costs side) s image.pauses

        second : Option ℕ
        second = best (waited image view costs side) s image.forks

        by : (t : Bool) → (if t then second else first) ≡ Some n → ((c : ℕ) (x : Side) (m : ℕ) → s + 1 ≤ c → resumed image view costs x c ≡ Some m → Loosened c x m (slot_begun image view costs plans deep x c)) →
            Loosened s side n
            (if t then best_begun (waited image view costs side) (λ p. fork_begun_by image view costs plans (slot_begun image view costs plans deep) (instr_at image p.at) side p) s image.forks
            else best_begun (paused image view costs side) (pause_begun image view costs plans side) s image.pauses)
        by true h below =
            best-one image view costs (waited image view costs side) (λ p. fork_begun_by image view costs plans (slot_begun image view costs plans deep) (instr_at image p.at) side p) s image.forks n (Loosened s side n)
            (λ p k same g.
            let L : ℕ → Type 0 = λ q. is_listed image.forks p.at q p.stack ≡ true in
            wait-loosened s (slot_begun image view costs plans deep) below side p (subst L same (listed-so image cert costs image.forks p k)) n (instr_at image p.at) refl g) h
        by false h below = best-one image view costs (paused image view costs side) (pause_begun image view costs plans side) s image.pauses n (Loosened s side n) (λ p k same g. pause-loosened s side n p k same g) h

-- A certificate whose numbers are the greatest is tight.
use Rattle.std.proofs.Common.{◌≡◌, ◌≤◌, ◌+◌, ◌-◌, ◌==◌, ◌&&◌, min, ℕ, zero, suc, Bool, true, false, if◌then◌else◌, List, [], ◌∷◌, length, Option, Some, None, refl, sym, ap, ◌∙◌, subst, inl, inr, ⊎_elim, eqb-true, arith}
use Rattle.std.proofs.lemmas.Bool.Decides.{nat_tests}
use Rattle.std.proofs.lemmas.Option.{none-some, same_Some}
use Rattle.mb_isa.specs.declared.Instr.{Instr}
use Rattle.mb_isa.specs.declared.Instr.TheVariants as instr
use Rattle.mb_isa.specs.declared.Class.{Class}
use Rattle.mb_isa.specs.declared.Class.TheVariants as class
use Rattle.mb_isa.specs.Costs.{cost_of, IsCosts}
use Rattle.mb_isa.proofs.CostRange.{cost_of-range}
use Rattle.pt_image.specs.declared.Point.{Point}
use Rattle.pt_image.specs.declared.Parts.{Parts}
use Rattle.pt_image.specs.Listed.{is_listed, is_point, same_numbers}
use Rattle.mb_isa.specs.Control.{Turn, Condition, goes, tests_on, answered}
use Rattle.mb_isa.specs.Tick.{base_of}
use Rattle.tk_cert.specs.declared.cert.CertParts.{CertParts}
use Rattle.tk_paths.specs.declared.view.Side.{Side}
use Rattle.tk_paths.specs.declared.view.Side.TheVariants.{ToPause, ToEnd}
use Rattle.tk_paths.specs.declared.word.Word.TheVariants.{Jump, Branch}
use Rattle.tk_paths.specs.Sums.{plus, greater, all_ends, most_paused, greatest}
use Rattle.tk_paths.specs.Words.{instr_at}
use Rattle.tk_paths.specs.Kinds.{abort_at}
use Rattle.tk_paths.specs.Acceptance.{value, resumed, begins, more}
use Rattle.tk_paths.specs.Bounded.{IsAcceptedFor}
use Rattle.tk_paths.specs.Walks.{most_cycles, IsWorst}
use Rattle.tk_paths.proofs.Lists.{IsAmong, passes-any}
use Rattle.tk_paths.specs.Passages.{Passage, Asked}
use Rattle.tk_paths.specs.Reached.{Has, Handled, Rests, Sum, Resumes, Resumed, Tested}
use Rattle.tk_paths.specs.Tight.{Edge, across, Joined, Resumption, at_pause, at_fork, Top, over, starts, resumes, IsTight}
use Rattle.tk_paths.specs.Tight as tight
use Rattle.tk_paths.specs.Regions.{to, behind, half, word_place, IsUnit, extra, units_cost, through}
use Rattle.tk_paths.specs.Greatest.{stays, where_some, best, num, handlers, resting, grouping, ended, IsStraight, IsGreatestWith, IsStraightCondition, tested, paused, ending_sum, pausing_sum, joined, waited_by, waited, IsGreatest}
use Rattle.tk_paths.specs.Greatest as written
use Rattle.tk_paths.proofs.Lines.{numbers-same}
use Rattle.tk_paths.proofs.MaxPlus.{Sums, Gives, Given, greater-is, plus-is, more-is, all-ends-is, most-paused-is, ends-given, pauses-given}
use Rattle.tk_paths.proofs.Moves.{joined-leads}
use Rattle.tk_paths.proofs.Units.{jump-step, taken-step, untaken-step, cend-step, word-lead, unit-lead, units-lead}
use Rattle.tk_paths.proofs.Crossings.{crossing-passage}
use Rattle.tk_paths.proofs.Attained.{tight-worst}

module _ (image : Parts) (cert : CertParts) (costs : List ℕ) where
  -- a handler
  by-weak : (b : Bool) (o : Option ℕ) (n : ℕ) → (if b then o else None) ≡ Some n → (b ≡ true) × (o ≡ Some n)
  by-weak true o n h = (refl, h)
  by-weak false o n h = absurd (none-some n h)

  by-strong : (b : Bool) (o : Option ℕ) (n : ℕ) → (if b then None else o) ≡ Some n → (b ≡ false) × (o ≡ Some n)
  by-strong true o n h = absurd (none-some n h)
  by-strong false o n h = (refl, h)

  handlers-is : (side : Side) (i : ℕ) (stack : List ℕ) (k n : ℕ) → handlers image cert costs side i stack k ≡ Some n → Handled image cert costs side i stack k n
  handlers-is side i [] k n h = absurd (none-some n h)
  handlers-is side i (j ∷ stack) zero n h = absurd (none-some n h)
  handlers-is side i (j ∷ stack) (suc k) n h =
      ⊎_elim (λ e. inl (by-weak (abort_at image j).weak (num image cert costs side i ((abort_at image j).handler)) n e)) (λ e. inr (handlers-is side (i + 1) stack k n e))
      (greater-is (if (abort_at image j).weak then num image cert costs side i ((abort_at image j).handler) else None) (handlers image cert costs side (i + 1) stack k) n h)

  stays-is : (side : Side) (n : ℕ) → stays side ≡ Some n → (side ≡ ToPause) × (n ≡ 0)
  stays-is ToPause n h = (refl, sym (same_Some 0 n h))
  stays-is ToEnd n h = absurd (none-some n h)

  resting-is : (stack : List ℕ) (k : ℕ) (side : Side) (n : ℕ) → resting image cert costs stack k side ≡ Some n → Rests image cert costs stack k side n
  resting-is stack k side n h = ⊎_elim (λ e. inl (stays-is side n e)) (λ e. inr (handlers-is side 0 stack k n e)) (greater-is (stays side) (handlers image cert costs side 0 stack k) n h)

  -- the conditions of a slot that is resumed
  tested-is : (side : Side) (i : ℕ) (stack : List ℕ) (o : Option ℕ) (inner : Side → ℕ → Type 0) → ((m : ℕ) → o ≡ Some m → inner side m) → (n : ℕ) → tested image cert costs side i stack o ≡ Some n → Tested image cert costs i stack inner side n
  tested-is side i [] o inner f n h = f n h
  tested-is side i (j ∷ stack) o inner f n h =
      let strong = if (abort_at image j).weak then None else num image cert costs side i ((abort_at image j).handler) in
      let later = tested image cert costs side (i + 1) stack o in
      let p = more-is (value image cert costs ((abort_at image j).cond)) (greater strong later) n h in (
        p.0,
        p.2,
        ⊎_elim (λ e. inl (by-strong (abort_at image j).weak (num image cert costs side i ((abort_at image j).handler)) p.0 e)) (λ e. inr (tested-is side (i + 1) stack o inner f p.0 e)) (greater-is strong later p.0 p.1),
      )

  -- a point of a list is listed
  pub listed-so : (points : List Point) (p : Point) → IsAmong p points → is_listed points p.at p.slot p.stack ≡ true
  listed-so points p among = passes-any (is_point p.at p.slot p.stack) points p among (own p)
    where
      same : (n : ℕ) → (n == n) ≡ true
      same n = grind (arith, nat_tests)

      own : (q : Point) → is_point q.at q.slot q.stack q ≡ true
      own q = ap (λ b. b && q.slot == q.slot && same_numbers q.stack q.stack) (same q.at) ∙ ap (λ b. b && same_numbers q.stack q.stack) (same q.slot) ∙ numbers-same q.stack

  -- the greatest of what a slot's points give is that of one of them
  best-is : (given : Point → Option ℕ) (s : ℕ) (points : List Point) (n : ℕ) → best given s points ≡ Some n → (p : Point) × IsAmong p points × (p.slot ≡ s) × (given p ≡ Some n)
  best-is given s [] n h = absurd (none-some n h)
  best-is given s (x ∷ points) n h = by (x.slot == s) refl h (λ e. best-is given s points n e)
    where
      by : (b : Bool) → (x.slot == s) ≡ b → (if b then greater (given x) (best given s points) else best given s points) ≡ Some n →
          (best given s points ≡ Some n → (p : Point) × IsAmong p points × (p.slot ≡ s) × (given p ≡ Some n)) → (p : Point) × IsAmong p (x ∷ points) × (p.slot ≡ s) × (given p ≡ Some n)
      by true e k later =
          ⊎_elim (λ g. (x, inl refl, eqb-true x.slot s e, g)) (λ g. let r = later g in (r.0, inr r.1, r.2, r.3)) (greater-is (given x) (best given s points) n k)
      by false e k later = let r = later k in (r.0, inr r.1, r.2, r.3)

  pause-resumption : (s : ℕ) (side : Side) (n : ℕ) → best (paused image cert costs side) s image.pauses ≡ Some n → Resumption image cert costs s side n
  pause-resumption s side n h =
      let b = best-is (paused image cert costs side) s image.pauses n h in
      let p = b.0 in
      let L : ℕ → Type 0 = λ q. is_listed image.pauses p.at q p.stack ≡ true in
      at_pause p.at p.stack (subst L b.2 (listed-so image.pauses p b.1))
      (tested-is side 0 p.stack (num image cert costs side (length p.stack) (p.at + 1)) (λ x m. Has image cert costs x (length p.stack) (p.at + 1) m) (λ m e. e) n b.3)

  -- a sum of children that are resumed
  resumes-is : (x : Option Side) (c q : ℕ) → Gives (resumed image cert costs) c x q → Resumes image cert costs c x q
  resumes-is None c q g = g
  resumes-is (Some y) c q g = g

  given-is : (n c : ℕ) (end : Option Side) (g : ℕ) → Given (resumed image cert costs) c n end g → Resumed image cert costs c n end g
  given-is zero c end g r = r
  given-is (suc n) c end g r = (r.0, r.1, r.2, r.3, resumes-is r.0 c r.2 r.4, given-is n (c + 1) r.1 r.3 r.5, r.6, r.7)

  joined-is : (side : Side) (p : Point) (lo count m : ℕ) → joined image cert costs side p lo count ≡ Some m → Joined image cert costs p.at lo count p.stack side m
  joined-is side p lo count m h =
      let k = length p.stack in
      let a = plus (pausing_sum image cert costs lo count) (resting image cert costs p.stack k side) in
      let b = plus (ending_sum image cert costs lo count) (num image cert costs side k (p.at + 1)) in
      ⊎_elim
      (λ e.
      let x = plus-is (pausing_sum image cert costs lo count) (resting image cert costs p.stack k side) m e in
      (ToPause, x.0, x.1, given-is count lo (Some ToPause) x.0 (pauses-given (resumed image cert costs) count lo x.0 x.2), resting-is p.stack k side x.1 x.3, x.4))
      (λ e.
      let x = plus-is (ending_sum image cert costs lo count) (num image cert costs side k (p.at + 1)) m e in
      (ToEnd, x.0, x.1, given-is count lo (Some ToEnd) x.0 (ends-given (resumed image cert costs) count lo x.0 x.2), x.3, x.4))
      (greater-is a b m h)

  waited-is : (s : ℕ) (side : Side) (n : ℕ) (p : Point) → is_listed image.forks p.at s p.stack ≡ true → (o : Option Instr) → instr_at image p.at ≡ o → waited_by image cert costs o side p ≡ Some n → Resumption image cert costs s side n
  waited-is s side n p l None e h = absurd (none-some n h)
  waited-is s side n p l (Some (instr.Fork lo count)) e h = by (greater (ending_sum image cert costs lo count) (pausing_sum image cert costs lo count)) refl h
    where
      some-child : (g : ℕ) → greater (ending_sum image cert costs lo count) (pausing_sum image cert costs lo count) ≡ Some g → (end : Side) × (sum : ℕ) × Resumed image cert costs lo count (Some end) sum
      some-child g k =
          ⊎_elim (λ x. (ToEnd, g, given-is count lo (Some ToEnd) g (ends-given (resumed image cert costs) count lo g x))) (λ x. (ToPause, g, given-is count lo (Some ToPause) g (pauses-given (resumed image cert costs) count lo g x)))
          (greater-is (ending_sum image cert costs lo count) (pausing_sum image cert costs lo count) g k)

      by : (g : Option ℕ) → greater (ending_sum image cert costs lo count) (pausing_sum image cert costs lo count) ≡ g → where_some g (tested image cert costs side 0 p.stack (joined image cert costs side p lo count)) ≡ Some n →
          Resumption image cert costs s side n
      by None k w = absurd (none-some n w)
      by (Some g) k w =
          let c = some-child g k in
          at_fork p.at p.stack lo count l e c.0 c.1 c.2
          (tested-is side 0 p.stack (joined image cert costs side p lo count) (Joined image cert costs p.at lo count p.stack) (λ m x. joined-is side p lo count m x) n w)
  waited-is s side n p l (Some other) e h = absurd (none-some n h)

  fork-resumption : (s : ℕ) (side : Side) (n : ℕ) → best (waited image cert costs side) s image.forks ≡ Some n → Resumption image cert costs s side n
  fork-resumption s side n h =
      let b = best-is (waited image cert costs side) s image.forks n h in
      let p = b.0 in
      let L : ℕ → Type 0 = λ q. is_listed image.forks p.at q p.stack ≡ true in
      waited-is s side n p (subst L b.2 (listed-so image.forks p b.1)) (instr_at image p.at) refl b.3

  -- the sums of a fork's children
  sum-is : (n c : ℕ) (side : Side) (g : ℕ) → Sums (begins image cert costs) c n side g → Sum image cert costs c n side g
  sum-is zero c side g r = r
  sum-is (suc n) c side g r = (r.0, r.1, r.2, r.3, r.4, sum-is n (c + 1) r.1 r.3 r.5, r.6, r.7)

  module _ (priced : IsCosts costs) where
    cost-least : (c : Class) → 1 ≤ cost_of costs c
    cost-least c = (cost_of-range costs priced c).0

    jump-passage : (p q : ℕ) → IsUnit image p (Jump (Some q)) → Passage image costs p (extra image costs p + cost_of costs class.Jump) q
    jump-passage p q u = record {
      costs_one = (let one = cost-least class.Jump in omega (arith, one));
      choices = [];
      leads = λ s v flat. unit-lead image costs (Turn s) p v [] (cost_of costs class.Jump) (goes (Turn s) q v) (jump-step image costs (Turn s) (word_place image p) (half image p) v q u);
    }

    taken-passage : (p q : ℕ) → IsUnit image p (Branch (Some q)) → Passage image costs p (extra image costs p + cost_of costs class.Taken) q
    taken-passage p q u = record {
      costs_one = (let one = cost-least class.Taken in omega (arith, one));
      choices = true ∷ [];
      leads = λ s v flat. unit-lead image costs (Turn s) p v (true ∷ []) (cost_of costs class.Taken) (goes (Turn s) q v) (taken-step image costs (Turn s) (word_place image p) (half image p) v q u);
    }

    untaken-passage : (p q : ℕ) → IsUnit image p (Branch (Some q)) → Passage image costs p (extra image costs p + cost_of costs class.Untaken) (behind image p)
    untaken-passage p q u = record {
      costs_one = (let one = cost-least class.Untaken in omega (arith, one));
      choices = false ∷ [];
      leads = λ s v flat. unit-lead image costs (Turn s) p v (false ∷ []) (cost_of costs class.Untaken) (goes (Turn s) (behind image p) v) (untaken-step image costs (Turn s) (word_place image p) (half image p) v q u);
    }

    -- a condition of straight code
    condition-asked : (place : ℕ) → IsStraightCondition image cert costs place → Asked image costs place (value image cert costs place)
    condition-asked place c =
        let n = units_cost image costs place c.count in
        let A : ℕ → Type 0 = Asked image costs place in
        subst A (sym c.value_is) (record {
          costs_one = (let one = cost-least class.Cend in omega (arith, one));
          choices = [];
          leads = λ holds u. joined-leads image costs (goes Condition place u) (goes Condition c.close u) (tests_on (answered holds u)) [] (holds ∷ []) n (cost_of costs class.Cend)
              (units-lead image costs Condition c.count place c.close u c.units)
              (word-lead image costs Condition c.close u (holds ∷ []) (cost_of costs class.Cend) (tests_on (answered holds u)) (cend-step image costs c.close u holds c.closes));
        })

    straight-edge : (place s : ℕ) (stack : List ℕ) (k : ℕ) (side : Side) (n : ℕ) → k ≤ length stack → Has image cert costs side k place n → IsStraight image cert costs place s stack → Edge image cert costs s stack k place side n
    straight-edge place s stack k side n within here (written.passing r laid e one few less goal are) =
        let m = more-is (through image costs r) (num image cert costs side k (to r)) n (sym (are side k within) ∙ here) in
        let P : ℕ → Type 0 = λ p. Passage image costs p (through image costs r) (to r) in
        across (through image costs r) (to r) m.0 (subst P e (crossing-passage image costs r laid one few less)) goal m.1 m.2
    straight-edge place s stack k side n within here (written.jumping goal word open_goal are) =
        let c = extra image costs place + cost_of costs class.Jump in
        let m = more-is c (num image cert costs side k goal) n (sym (are side k within) ∙ here) in
        across c goal m.0 (jump-passage place goal word) open_goal m.1 m.2
    straight-edge place s stack k side n within here (written.branching goal word open_goal open_next are) =
        let c = extra image costs place + cost_of costs class.Untaken in
        let d = extra image costs place + cost_of costs class.Taken in
        ⊎_elim
        (λ x. let m = more-is c (num image cert costs side k (behind image place)) n x in across c (behind image place) m.0 (untaken-passage place goal word) open_next m.1 m.2)
        (λ x. let m = more-is d (num image cert costs side k goal) n x in across d goal m.0 (taken-passage place goal word) open_goal m.1 m.2)
        (greater-is (more c (num image cert costs side k (behind image place))) (more d (num image cert costs side k goal)) n (sym (are side k within) ∙ here))

    edge-is : (place s : ℕ) (stack : List ℕ) (k : ℕ) (side : Side) (n : ℕ) → k ≤ length stack → Has image cert costs side k place n → (o : Option Instr) → instr_at image place ≡ o → IsGreatestWith image cert costs o place s stack →
        Edge image cert costs s stack k place side n
    edge-is place s stack k side n within here (Some (instr.Abrt j)) word are =
        let m = more-is (cost_of costs class.Abrt) (num image cert costs side k (place + 1)) n (sym (are side k within) ∙ here) in
        tight.entering j m.0 word m.1 m.2
    edge-is place s stack k side n within here (Some instr.Leave) word are =
        let m = more-is (cost_of costs class.Leave) (num image cert costs side (min k (length stack - 1)) (place + 1)) n (sym (are side k within) ∙ here) in
        tight.leaving m.0 word m.1 m.2
    edge-is place s stack k side n within here (Some instr.Eot) word are =
        let m = more-is (cost_of costs class.Eot) (resting image cert costs stack k side) n (sym (are side k within) ∙ here) in
        tight.pausing m.0 word (resting-is stack k side m.0 m.1) m.2
    edge-is place s stack k side n within here (Some (instr.Fork lo count)) word are =
        let b = begins image cert costs in
        let m = more-is (cost_of costs class.Fork) (grouping image cert costs place lo count stack k side) n (sym (are side k within) ∙ here) in
        let c = cost_of costs class.Fork in
        ⊎_elim
        (λ x.
        let p = plus-is (most_paused b lo count) (resting image cert costs stack k side) m.0 x in
        tight.forking lo count ToPause p.0 p.1 word (sum-is count lo ToPause p.0 (most-paused-is b count lo p.0 p.2)) (resting-is stack k side p.1 p.3) (m.2 ∙ ap (λ z. c + z) p.4))
        (λ x.
        let p = plus-is (all_ends b lo count) (num image cert costs side k (place + 1)) m.0 x in
        tight.forking lo count ToEnd p.0 p.1 word (sum-is count lo ToEnd p.0 (all-ends-is b count lo p.0 p.2)) p.3 (m.2 ∙ ap (λ z. c + z) p.4))
        (greater-is (plus (most_paused b lo count) (resting image cert costs stack k side)) (plus (all_ends b lo count) (num image cert costs side k (place + 1))) m.0 m.1)
    edge-is place s stack k side n within here (Some instr.End) word are = let e = ended-is side n (sym (are side k within) ∙ here) in tight.ending word e.0 e.1
      where
        ended-is : (x : Side) (m : ℕ) → ended image cert costs x ≡ Some m → (x ≡ ToEnd) × (m ≡ cost_of costs class.End)
        ended-is ToPause m h = absurd (none-some m h)
        ended-is ToEnd m h = (refl, sym (same_Some (cost_of costs class.End) m h))
    edge-is place s stack k side n within here (Some other) word g = straight-edge place s stack k side n within here g
    edge-is place s stack k side n within here None word g = straight-edge place s stack k side n within here g

    -- the greatest of the five numbers that a bound covers
    top-is : cert.bound ≡ base_of image costs + greatest (begins image cert costs ToPause 0 ∷ begins image cert costs ToEnd 0 ∷ resumed image cert costs ToPause 0 ∷ resumed image cert costs ToEnd 0 ∷ []) → Top image cert costs
    top-is h =
        let b = begins image cert costs ToEnd 0 in
        let c = resumed image cert costs ToPause 0 in
        let d = resumed image cert costs ToEnd 0 in
        pick (begins image cert costs ToPause 0) (b ∷ c ∷ d ∷ []) (λ n e z. starts ToPause n e (reached n z))
        (λ z1.
        pick b (c ∷ d ∷ []) (λ n e z. starts ToEnd n e (reached n (z1 ∙ z)))
        (λ z2.
        pick c (d ∷ []) (λ n e z. resumes ToPause n e (reached n (z1 ∙ z2 ∙ z)))
        (λ z3.
        pick d [] (λ n e z. resumes ToEnd n e (reached n (z1 ∙ z2 ∙ z3 ∙ z)))
        (λ z4. over (reached 0 (z1 ∙ z2 ∙ z3 ∙ z4) ∙ nothing)))))
      where
        nothing : base_of image costs + 0 ≡ base_of image costs
        nothing = omega arith

        reached : (n : ℕ) → greatest (begins image cert costs ToPause 0 ∷ begins image cert costs ToEnd 0 ∷ resumed image cert costs ToPause 0 ∷ resumed image cert costs ToEnd 0 ∷ []) ≡ n → cert.bound ≡ base_of image costs + n
        reached n z = h ∙ ap (λ g. base_of image costs + g) z

        -- the first is the greatest of a list, or the rest has it
        pick : {X : Type 0} (o : Option ℕ) (rest : List (Option ℕ)) → ((n : ℕ) → o ≡ Some n → greatest (o ∷ rest) ≡ n → X) → (greatest (o ∷ rest) ≡ greatest rest → X) → X
        pick None rest f g = g refl
        pick (Some a) rest f g =
            ⊎_elim (λ e. f a refl (sym (same_Some a (greatest (Some a ∷ rest)) e))) (λ e. g (sym (same_Some (greatest rest) (greatest (Some a ∷ rest)) e)))
            (greater-is (Some a) (Some (greatest rest)) (greatest (Some a ∷ rest)) refl)

    pub greatest-tight : IsGreatest image cert costs → IsTight image cert costs
    greatest-tight g = record {
      edge = λ place s stack k side n here within has. edge-is place s stack k side n within has (instr_at image place) refl (g.place place s stack here);
      asked = λ place line plain. condition-asked place (g.condition place line plain);
      resumption = λ s side n h.
          ⊎_elim (λ e. pause-resumption s side n e) (λ e. fork-resumption s side n e)
          (greater-is (best (paused image cert costs side) s image.pauses) (best (waited image cert costs side) s image.forks) n (sym (g.slot s side) ∙ h));
      top = top-is g.bound;
    }

pub greatest-worst : (image : Parts) (cert : CertParts) (costs : List ℕ) → IsAcceptedFor image cert costs → IsGreatest image cert costs → cert.bound ≤ most_cycles → IsWorst image costs cert.bound
greatest-worst image cert costs h g low = tight-worst image cert costs h (greatest-tight image cert costs h.priced g) low

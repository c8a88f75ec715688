-- Straight words and branches do to any data what they do.
use Rattle.std.proofs.Common.{not, ◌≡◌, ℕ, ℤ, suc, ◌+◌, ◌≤◌, Bool, true, false, if◌then◌else◌, List, [], ◌∷◌, Option, Some, None, refl, ap, ◌∙◌, subst, arith}
use Rattle.mb_isa.specs.declared.Instr.{Instr}
use Rattle.mb_isa.specs.declared.Instr.TheVariants.{Imm}
use Rattle.mb_isa.specs.declared.Class.TheVariants as class
use Rattle.mb_isa.specs.Classes.{class_of}
use Rattle.mb_isa.specs.Costs.{cost_of}
use Rattle.mb_pfu.specs.Unit.{State as UnitState}
use Rattle.mb_pfu.specs.declared.TrapKind.TheVariants.{WrongPlace}
use Rattle.pt_image.specs.declared.Parts.{Parts}
use Rattle.mb_isa.specs.Control.{Who, Turn, Condition, Control, phase_at, job_in, goes}
use Rattle.mb_isa.specs.Words.{Plan, Branch, Refuse, is_barred, goes_to, branched, plan_of, plan_decoded, plan_word, plan_for}
use Rattle.mb_isa.specs.Step.{Rules, Moves, worked, decided, branched as data_branched, stepped, step}
use Rattle.mb_isa.specs.Tick.{Steps, still, onward}
use Rattle.pc_lower.specs.declared.nodes.Step.{Step}
use Rattle.pc_lower.specs.declared.nodes.Test.{Test}
use Rattle.pc_lower.specs.Flow.{tested, decides, run, State as FlowState}
use Rattle.pc_lower.specs.Places.{line, Has, LeadsTo}
use Rattle.pc_lower.specs.StepCounts.{Sizes}
use Rattle.pc_lower.specs.Law.{Comes, Laws}
use Rattle.pc_lower.specs.Tests.{Says}
use Rattle.pc_lower.specs.Words.{HasSteps, HasTest, Written, alone, after_imm, words_in, and_then, does_all, HasWritten, IsTest, HasBranch, wide_branch, short_branch, Writing, DataLaws, HasCondition}
use Rattle.pc_lower.proofs.Paths.{append}
use Rattle.pc_lower.proofs.StepFacts.{leads-to}

job-at : (who : Who) (p : ℕ) → job_in (phase_at who p) ≡ Some (who, p)
job-at (Turn s) p = refl
job-at Condition p = refl

-- whoever stands at a place, with or without an upper half
abbrev pub stands_at : Who → ℕ → Option ℤ → UnitState → Control
stands_at who p upper u = record { phase = phase_at who p; unit = u; upper = upper }

module _ (image : Parts) (costs : List ℕ) {Data : Type 0} (rules : Rules Data) where
  pub at-plan : (who : Who) (p : ℕ) (upper : Option ℤ) (u : UnitState) (w : Instr) (plan : Plan) (d : Data) → Has image p w → is_barred upper w ≡ false → plan_of image who p upper u w ≡ plan →
      step rules costs image (stands_at who p upper u) d ≡ stepped rules costs d plan
  at-plan who p upper u w plan d has free h =
      ap (λ o. stepped rules costs d (plan_for image (stands_at who p upper u) o)) (job-at who p)
      ∙ ap (λ o. stepped rules costs d (plan_word image who p upper u o)) has.stands
      ∙ ap (λ o. stepped rules costs d (plan_decoded image who p upper u o)) has.decodes
      ∙ ap (λ b. stepped rules costs d (if b then Refuse WrongPlace else plan_of image who p upper u w)) free
      ∙ ap (stepped rules costs d) h

  -- from a control and data to others in at most so many steps
  pub record Path (c : Control) (d : Data) (to : Control) (after : Data) (most : ℕ) : Type 0 where
    pub charge : ℕ
    pub count : ℕ
    pub steps : Steps rules image costs c d charge count to after
    pub within : count ≤ most

  first : (c l to : Control) (d x after : Data) (charge u v : ℕ) → step rules costs image c d ≡ Moves charge l x → u + 1 ≤ v → Path l x to after u → Path c d to after v
  first c l to d x after charge u v h le r = record { charge = charge + r.charge; count = suc r.count; steps = onward h r.steps; within = omega (arith, r.within) }

  done : (c to : Control) (d : Data) (u : ℕ) → c ≡ to → Path c d to d u
  done c to d u is = record { charge = 0; count = 0; steps = subst (λ k. Steps rules image costs c d 0 0 k d) is still; within = omega arith }

  -- (W) words with or without an `imm` before them
  pub ops-come : (ops : List Written) (from to : ℕ) (who : Who) (u : UnitState) (d after : Data) → HasWritten image ops from to → does_all rules ops d ≡ Some after → Path (goes who from u) d (goes who to u) after (words_in ops)
  ops-come [] from to who u d after has does =
      let same : d ≡ after = cc in
      subst (λ x. Path (goes who from u) d (goes who to u) x 0) same (done (goes who from u) (goes who to u) d 0 (ap (λ p. goes who p u) has))
  ops-come (alone w ∷ ops) from to who u d after has does =
      by (rules.does w None d) (λ x h. ops-come ops (from + 1) to who u x after has.2 h) refl does
    where
      by : (o : Option Data) → ((x : Data) → does_all rules ops x ≡ Some after → Path (goes who (from + 1) u) x (goes who to u) after (words_in ops)) → rules.does w None d ≡ o → and_then (does_all rules ops) o ≡ Some after → Path (goes who from u) d (goes who to u) after (words_in ops + 1)
      by None rest is h = cc
      by (Some x) rest is h =
          first (goes who from u) (goes who (from + 1) u) (goes who to u) d x after (cost_of costs (class_of false w)) (words_in ops) (words_in ops + 1)
          (at-plan who from None u w _ d has.0 has.1.0 (has.1.1 who from u) ∙ ap (worked rules costs w (goes who (from + 1) u)) is) (omega arith) (rest x h)
  ops-come (after_imm upper w ∷ ops) from to who u d after has does =
      by (rules.does w (Some upper) d) (λ x h. ops-come ops (from + 2) to who u x after has.3 h) refl does
    where
      by : (o : Option Data) → ((x : Data) → does_all rules ops x ≡ Some after → Path (goes who (from + 2) u) x (goes who to u) after (words_in ops)) → rules.does w (Some upper) d ≡ o → and_then (does_all rules ops) o ≡ Some after → Path (goes who from u) d (goes who to u) after (words_in ops + 2)
      by None rest is h = cc
      by (Some x) rest is h =
          let e : from + 1 + 1 ≡ from + 2 = omega arith in
          first (goes who from u) (stands_at who (from + 1) (Some upper) u) (goes who to u) d d after (cost_of costs class.Imm) (words_in ops + 1) (words_in ops + 2) (at-plan who from None u (Imm upper) _ d has.0 refl refl) (omega arith) (
          first (stands_at who (from + 1) (Some upper) u) (goes who (from + 2) u) (goes who to u) d x after (cost_of costs (class_of false w)) (words_in ops) (words_in ops + 1)
          (at-plan who (from + 1) (Some upper) u w _ d has.1 has.2.0 (has.2.1 who (from + 1) u) ∙ ap (worked rules costs w (goes who (from + 1 + 1) u)) is ∙ ap (λ p. Moves (cost_of costs (class_of false w)) (goes who p u) x) e) (omega arith) (rest x h)
          )

  goal-is : (who : Who) (p out : ℕ) (upper : Option ℤ) (lower : ℤ) (u : UnitState) → LeadsTo image p upper lower out → branched image who p upper u lower ≡ Some (goes who out u)
  goal-is who p out upper lower u leads = ap (goes_to image who p upper u) (leads-to image p out upper lower leads)

  -- the last word of a branch
  taken-comes : (who : Who) (p inner out : ℕ) (upper : Option ℤ) (lower : ℤ) (w : Instr) (u : UnitState) (d after : Data) (b : Bool) → Has image p w → IsTest image upper lower w → LeadsTo image p upper lower out → p + 1 ≡ inner →
      rules.taken w d ≡ Some (b, after) → Path (stands_at who p upper u) d (goes who (if b then out else inner) u) after 1
  taken-comes who p inner out upper lower w u d after b has test leads end taken =
      let plan : plan_of image who p upper u w ≡ Branch w (Some (goes who out u)) (goes who (p + 1) u) = test.1 who p u ∙ ap (λ o. Branch w o (goes who (p + 1) u)) (goal-is who p out upper lower u leads) in
      by b (at-plan who p upper u w _ d has test.0 plan ∙ ap (data_branched rules costs (Some (goes who out u)) (goes who (p + 1) u)) taken)
    where
      by : (b : Bool) → step rules costs image (stands_at who p upper u) d ≡ decided rules costs (Some (goes who out u)) (goes who (p + 1) u) b after → Path (stands_at who p upper u) d (goes who (if b then out else inner) u) after 1
      by true h = first (stands_at who p upper u) (goes who out u) (goes who out u) d after after (cost_of costs class.Taken) 0 1 h (omega arith) (done (goes who out u) (goes who out u) after 0 refl)
      by false h = first (stands_at who p upper u) (goes who (p + 1) u) (goes who inner u) d after after (cost_of costs class.Untaken) 0 1 h (omega arith) (done (goes who (p + 1) u) (goes who inner u) after 0 (ap (λ x. goes who x u) end))

  -- (T) a branch with or without an `imm` before it
  pub branch-comes : (word : ℤ → Instr) (p inner out : ℕ) (who : Who) (u : UnitState) (d after : Data) (b : Bool) → HasBranch image word p inner out → ((lower : ℤ) → rules.taken (word lower) d ≡ Some (b, after)) →
      Path (goes who p u) d (goes who (if b then out else inner) u) after 2
  branch-comes word p inner out who u d after b (wide_branch upper lower one' two' test leads end) taken =
      first (goes who p u) (stands_at who (p + 1) (Some upper) u) (goes who (if b then out else inner) u) d d after (cost_of costs class.Imm) 1 2 (at-plan who p None u (Imm upper) _ d one' refl refl) (omega arith) (
      taken-comes who (p + 1) inner out (Some upper) lower (word lower) u d after b two' test leads (omega arith) (taken lower)
      )
  branch-comes word p inner out who u d after b (short_branch lower one' test leads end) taken =
      let r = taken-comes who p inner out None lower (word lower) u d after b one' test leads end (taken lower) in
      record { charge = r.charge; count = r.count; steps = r.steps; within = omega (arith, r.within) }

module _ (image : Parts) (costs : List ℕ) {Data : Type 0} (rules : Rules Data) where
  along : (c l to : Control) (d x after : Data) (u v w : ℕ) → u + v ≤ w → Path image costs rules c d l x u → Path image costs rules l x to after v → Path image costs rules c d to after w
  along c l to d x after u v w le a b = record {
    charge = a.charge + b.charge;
    count = a.count + b.count;
    steps = append image costs rules (λ y w. Unit {0}) c l to d x after a.charge b.charge a.count b.count a.steps b.steps;
    within = omega (arith, le, a.within, b.within);
  }

  turned : (b : Bool) (s mid inner out : ℕ) (u : UnitState) (d after : Data) → Path image costs rules (goes (Turn s) mid u) d (goes (Turn s) (if not b then out else inner) u) after 2 → Path image costs rules (goes (Turn s) mid u) d (goes (Turn s) (if b then inner else out) u) after 2
  turned true s mid inner out u d after h = h
  turned false s mid inner out u d after h = h

module _ (image : Parts) (costs : List ℕ) {Data : Type 0} (rules : Rules Data) (Represents : Data → FlowState → Type 0) where
  comes : (c : Control) (d : Data) (target : ℕ → Control) (after : Data) (state : FlowState) (u v : ℕ) → u ≤ v → Path image costs rules c d (target 0) after u → Represents after state → Comes image costs rules Represents c d target state v
  comes c d target after state u v le r rep = record { stale = 0; after = after; charge = r.charge; count = r.count; steps = r.steps; represents = rep; within = omega (arith, le, r.within) }

  module _ (sizes : Sizes) (sample : FlowState → FlowState) (writing : Writing) (facts : DataLaws rules Represents sample writing) where
    -- what the region law is handed, from facts on data
    pub laws_of : ((p : List Step) → words_in (writing.words_of p) ≤ sizes.words p) → ((t : Test) → words_in (writing.test_words_of t) + 2 ≤ sizes.test_words t) →
        Laws image costs rules Represents sizes (HasSteps image writing) (HasTest image writing)
    laws_of words test_words = record {
      steps = λ p from to s u d state has rep.
          let f = facts.steps p d state has.0 rep in
          comes _ d _ f.0 (run p state) (words_in (writing.words_of p)) (sizes.words p) (words p) (ops-come image costs rules (writing.words_of p) from to (Turn s) u d f.0 has.1 f.1) f.2;
      test = λ t from inner out s u d state has rep.
          let n = words_in (writing.test_words_of t) in
          let f = facts.test t d state has.1 rep in
          let g = facts.taken t d f.0 state has.1 rep f.1 in
          let a = ops-come image costs rules (writing.test_words_of t) from has.0 (Turn s) u d f.0 has.2 f.1 in
          let b = branch-comes image costs rules (writing.branch_of t) has.0 inner out (Turn s) u f.0 g.0 (not (decides t state)) has.3 g.1 in
          comes _ d _ g.0 (tested t state) (n + 2) (sizes.test_words t) (test_words t) (
          along image costs rules _ (goes (Turn s) has.0 u) _ d f.0 g.0 n 2 (n + 2) (omega arith) a (turned image costs rules (decides t state) s has.0 inner out u f.0 g.0 b)
          ) g.2;
    }

    -- and what it is handed of a condition
    pub says_of : (Calm : List ℕ → FlowState → Type 0) (j : ℕ) (t : Test) (js : List ℕ) (u : UnitState) (d : Data) (state : FlowState) → HasCondition image writing t (line image j).cond → Represents d state → Calm js (tested t state) →
        Says image costs rules Represents Calm j (decides t state) js u d (words_in (writing.test_words_of t) + 1)
    says_of Calm j t js u d state has rep calm =
        let f = facts.test t d state has.1 rep in
        let g = facts.holds t d f.0 state has.1 rep f.1 in
        let r = ops-come image costs rules (writing.test_words_of t) (line image j).cond has.0 Condition u d f.0 has.2 f.1 in
        record {
          place = has.0;
          ra = writing.register_of t;
          stands = has.3;
          between = f.0;
          charge = r.charge;
          count = r.count;
          steps = r.steps;
          within = omega (arith, r.within);
          after = g.0;
          says = g.1;
          state = tested t state;
          represents = g.2;
          calm = calm;
        }

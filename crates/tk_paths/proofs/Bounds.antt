-- Each tick that begins in a configuration is within the bound, whatever the data.
use Rattle.std.proofs.Common.{◌≡◌, ◌⊎◌, ◌≤◌, ◌+◌, ◌&&◌, ℕ, ℤ, zero, suc, Bool, true, false, nat_lt, if◌then◌else◌, List, [], ◌∷◌, reverse, length, is_some, Option, Some, None, refl, sym, ap, ◌∙◌, subst, inl, inr, ⊎_elim, arith}
use Rattle.std.proofs.lemmas.Bool.{false≢true}
use Rattle.std.proofs.lemmas.Bool.Decides.{nat_tests}
use Rattle.std.proofs.lemmas.Option.{none-some, same_Some}
use Rattle.mb_isa.specs.declared.Reg.{Reg}
use Rattle.mb_isa.specs.declared.Instr.{Instr}
use Rattle.mb_isa.specs.declared.Instr.TheVariants as instr
use Rattle.mb_isa.specs.Candidates.{decoded}
use Rattle.std.specs.Prelude.{slice_get, slice_index_or}
use Rattle.pt_image.specs.declared.AbortLine.{AbortLine}
use Rattle.mb_isa.specs.declared.Class.TheVariants as class
use Rattle.mb_isa.specs.Classes.{class_of}
use Rattle.mb_isa.specs.Costs.{cost_of}
use Rattle.pt_image.specs.declared.Parts.{Parts}
use Rattle.mb_pfu.specs.declared.parts.Watch.{Watch}
use Rattle.mb_pfu.specs.Rows.{due}
use Rattle.mb_pfu.specs.Tree.{Running, Tree, Leaf, Waits, Pausing, Finished, pause_at, has_ready, all_woken, report, reported_number, reported_watches, slot_of, watches_of, next_job, next_test}
use Rattle.mb_pfu.specs.Tree as tree
use Rattle.mb_pfu.specs.Contexts.{plug}
use Rattle.mb_pfu.specs.Unit as unit
use Rattle.mb_pfu.specs.Unit.{fresh}
use Rattle.mb_pfu.specs.declared.parts.TrapKind.TheVariants.{WrongPlace}
use Rattle.mb_pfu.specs.Unit.{entry_of}
use Rattle.mb_isa.specs.Control as control
use Rattle.mb_isa.specs.Control.{Control, goes, stack_of, start_in, turns_from, turns_on, wakes, tests_from, tests_on}
use Rattle.mb_isa.specs.Words as plans
use Rattle.mb_isa.specs.Words.{Plan, Rest, Refuse, Go, Work, Conclude, plan_of, plan_word, plan_decoded, is_barred, rests, on, on_to, enters, goes_to}
use Rattle.tk_cert.specs.declared.cert.CertParts.{CertParts}
use Rattle.tk_paths.proofs.Inner.{Image, State, Outcome, Goes, Traps, Stops, IsSound, stack, unless, is_none, is_nested, is_zero, is_busy, occurs, effect, returned, turned, dropped, turn_at, test_at, test_effect, begun}
use Rattle.tk_paths.proofs.Inner as machine
use Rattle.tk_paths.proofs.Conditions.{Cert}
use Rattle.tk_paths.specs.declared.word.Word.{Word}
use Rattle.tk_paths.specs.declared.word.Word.TheVariants.{Jump, Branch, Fork, Cend}
use Rattle.tk_paths.specs.Words.{word_of, goal_of, instr_in, read_instr, read}
use Rattle.tk_paths.specs.Kinds.{abort_at}
use Rattle.tk_paths.proofs.Firsts.{job}
use Rattle.tk_paths.proofs.Whole.{IsOutKept, step-kept}
use Rattle.tk_paths.proofs.Accepts.{Accepts}
use Rattle.tk_paths.proofs.Turns.{reverse-none}
use Rattle.tk_paths.proofs.Tested.{due-next, alike}
use Rattle.tk_paths.proofs.Turned.{turn-good}
use Rattle.mb_isa.specs.Costs.{IsCosts}
use Rattle.mb_isa.specs.declared.Instr.TheVariants.{Fork as Forks}
use Rattle.mb_pfu.specs.declared.parts.TrapKind.TheVariants.{BadAddress}
use Rattle.mb_pfu.specs.Tree.{Group, no_more, member, size, has_ended, all_ended, tests_begun, tally, IsSound as IsOnce}
use Rattle.std.specs.List.{AllByRecursion}
use Rattle.mb_isa.specs.Step.{Rules, Stepped, Moves, Rests, Traps as Trapping, Undecided, worked, led, decided, branched, concluded, stepped, step, samples_on}
use Rattle.mb_isa.specs.Tick as ticking
use Rattle.mb_isa.specs.Tick.{Ends, Trapped, Open, base_of, after_step, run, tick, IsSafeWithin}
use Rattle.mb_isa.specs.Cells.{Cells, machine as machine_of}
use Rattle.mb_isa.specs.Free as free
use Rattle.mb_isa.proofs.Charging.{charge-least}
use Rattle.tk_paths.specs.Bounded.{IsFreelyWithin, BoundsFreeTicks, loaded, and_after, ticks, BoundsRuns, IsAcceptedFor}
use Rattle.tk_paths.proofs.Inner.{IsConfiguration, first, loose, begun_free, IsListed, AreListed}
use Rattle.tk_paths.proofs.Rests.{turned-rests}
use Rattle.tk_paths.proofs.Whole.{IsKeptIn, kept-within, begun-kept}
use Rattle.tk_paths.proofs.Controls.{IsResting, IsGoodIn, E, D, sums, IsGood, IsPlanGood, tests-good}

-- an abort line by its number
line-at : (aborts : List AbortLine) (j : ℕ) (other l : AbortLine) → slice_get aborts j ≡ Some l → slice_index_or aborts j other ≡ l
line-at [] j other l h = absurd (none-some l h)
line-at (x ∷ aborts) zero other l h = same_Some x l h
line-at (x ∷ aborts) (suc j) other l h = line-at aborts j other l h

module _ (image : Parts) (cert : CertParts) (costs : List ℕ) (a : Accepts image cert costs) where
  abbrev F : Image
  F = E image cert costs a

  abbrev G : Cert
  G = D image cert costs a

  -- a condition's step
  module _ (charged place : ℕ) (u : unit.State) (upper : Option ℤ) (slots : u.slots ≡ length image.slots) (g : IsGoodIn image cert costs a charged u upper (control.Testing place)) where
    abbrev state : List Bool → State
    state choices = record { phase = machine.InTest place; tree = u.tree; links = reverse u.links; counters = reverse u.counters; choices = choices; upper = upper }

    abbrev who : control.Who
    who = control.Condition

    abbrev Good : Plan → Type 0
    Good p = IsPlanGood image cert costs a charged p

    abbrev Kept : Word → Type 0
    Kept x = (choices : List Bool) → IsOutKept F G (sums image cert costs a) charged (test_effect F place (state choices) x)

    kept : (choices : List Bool) → IsOutKept F G (sums image cert costs a) charged (test_at F place (state choices) (read image place upper))
    kept choices = step-kept F G (sums image cert costs a) charged (state choices) (test_at F place (state choices) (read image place upper)) g refl

    jump-good : (o : Option ℕ) → Kept (Jump o) → Good (plans.jump image who place upper u (goes_to image who place upper u o))
    jump-good None k = k []
    jump-good (Some to) k = (slots, k [])

    branch-good : (i : Instr) (o : Option ℕ) → Kept (Branch o) → Good (plans.Branch i (goes_to image who place upper u o) (goes who (place + 1) u))
    branch-good i None k = absurd (k [])
    branch-good i (Some to) k = ((goes who to u, refl, (slots, k (true ∷ []))), (slots, k (false ∷ [])))

    cend-good : (ra : Reg) → Kept Cend → Good (plan_of image who place upper u (instr.Cend ra))
    cend-good ra k holds =
        let has : tree.is_in due 0 u.tree ≡ true = due-next 0 u.tree ∙ ap is_some g.is_next in
        let same = alike holds 0 u.tree has in
        let c = cost_of costs class.Cend in
        let T : Tree → Type 0 = λ t. IsKeptIn F G (sums image cert costs a) (charged + c) t (reverse u.links) (reverse u.counters) None machine.Testing in
        tests-good image cert costs a (charged + c) (control.answered holds u) slots (subst T (sym same) (k (holds ∷ [])))

    instr-good : (i : Instr) → Kept (word_of image place upper i) → Good (plan_of image who place upper u i)
    instr-good (instr.Imm imm) k = (slots, k [])
    instr-good (instr.Bri imm) k = jump-good (goal_of image place upper imm) k
    instr-good (instr.Beqi ra imm) k = branch-good (instr.Beqi ra imm) (goal_of image place upper imm) k
    instr-good (instr.Bnei ra imm) k = branch-good (instr.Bnei ra imm) (goal_of image place upper imm) k
    instr-good (instr.Blti ra imm) k = branch-good (instr.Blti ra imm) (goal_of image place upper imm) k
    instr-good (instr.Blei ra imm) k = branch-good (instr.Blei ra imm) (goal_of image place upper imm) k
    instr-good (instr.Bgti ra imm) k = branch-good (instr.Bgti ra imm) (goal_of image place upper imm) k
    instr-good (instr.Bgei ra imm) k = branch-good (instr.Bgei ra imm) (goal_of image place upper imm) k
    instr-good (instr.Fork lo n) k = k []
    instr-good instr.Eot k = k []
    instr-good instr.End k = k []
    instr-good (instr.Abrt j) k = k []
    instr-good instr.Leave k = k []
    instr-good (instr.Call to) k = k []
    instr-good instr.Ret k = k []
    instr-good (instr.Loop n) k = k []
    instr-good (instr.Next to) k = k []
    instr-good instr.Drop k = k []
    instr-good (instr.Cend ra) k = cend-good ra k
    instr-good other k = (slots, k [])

    decoded-good : (o : Option Instr) → ((choices : List Bool) → IsOutKept F G (sums image cert costs a) charged (test_at F place (state choices) (read_instr image place upper o))) → Good (plan_decoded image who place upper u o)
    decoded-good None k = k []
    decoded-good (Some i) k = by (is_barred upper i) k
      where
        by : (b : Bool) → ((choices : List Bool) → IsOutKept F G (sums image cert costs a) charged (test_at F place (state choices) (if b then None else Some (word_of image place upper i)))) → Good (if b then Refuse WrongPlace else plan_of image who place upper u i)
        by true k = k []
        by false k = instr-good i k

    word-good : (o : Option ℕ) → ((choices : List Bool) → IsOutKept F G (sums image cert costs a) charged (test_at F place (state choices) (read_instr image place upper (instr_in o)))) → Good (plan_word image who place upper u o)
    word-good None k = k []
    word-good (Some word) k = decoded-good (decoded word) k

    pub condition-good : Good (plan_word image who place upper u (slice_get image.code place))
    condition-good = word-good (slice_get image.code place) kept

  -- a unit in which a tick may begin
  pub record Begins (u : unit.State) : Type 0 where
    pub tree_is : IsConfiguration F u.tree
    pub slots : u.slots ≡ length image.slots
    pub links : u.links ≡ []
    pub counters : u.counters ≡ []

  -- what was charged is within the bound
  pub good-within : (charged : ℕ) (c : Control) → IsGood image cert costs a charged c → base_of image costs + charged ≤ cert.bound
  good-within charged c k = by c.phase k.1
    where
      by : (p : control.Phase) → IsGoodIn image cert costs a charged c.unit c.upper p → base_of image costs + charged ≤ cert.bound
      by (control.Testing place) g = kept-within F G (sums image cert costs a) charged c.unit.tree (reverse c.unit.links) (reverse c.unit.counters) c.upper (machine.InTest place) g
      by (control.Running s place) g =
          kept-within F G (sums image cert costs a) charged (plug g.context (Leaf g.watches (Running place))) (reverse c.unit.links) (reverse c.unit.counters) c.upper machine.InTurns
          (g.sound, inr (record { runs = job g.context g.watches place; is_there = refl; quiet = g.quiet; running = g.running }))
      by control.Resting g = kept-within F G (sums image cert costs a) charged c.unit.tree (reverse c.unit.links) (reverse c.unit.counters) c.upper machine.InTurns (g.sound, inl g.calm)

  rests-begin : (charged : ℕ) (u : unit.State) (upper : Option ℤ) → u.slots ≡ length image.slots → IsResting image cert costs a charged u upper → Begins u
  rests-begin charged u upper slots g =
      let f = turned-rests F G charged u.tree (reverse u.links) (reverse u.counters) upper (g.sound, inl g.calm) g.none_ready in
      record { tree_is = f.configuration; slots = slots; links = reverse-none u.links f.links_are; counters = reverse-none u.counters f.counters_are }

  begun-good : (u : unit.State) → Begins u → IsGood image cert costs a 0 (tests_on (ticking.begun u))
  begun-good u b =
      let T : List ℕ → List ℕ → Type 0 = λ l c. IsKeptIn F G (sums image cert costs a) 0 (tests_begun u.tree) (reverse l) (reverse c) None machine.Testing in
      let k : T [] [] = begun-kept F G (sums image cert costs a) u.tree [] b.tree_is in
      tests-good image cert costs a 0 (ticking.begun u) b.slots (subst (λ l. T l u.counters) (sym b.links) (subst (T []) (sym b.counters) k))

  module _ {Data : Type 0} (rules : Rules Data) where
    -- the data know no address for a word; or don't say how to go on
    abbrev pub IsBad : Type 0
    IsBad = (i : Instr) × (up : Option ℤ) × (d : Data) × (rules.does i up d ≡ None)

    abbrev pub IsOpen : Type 0
    IsOpen = ((i : Instr) × (d : Data) × (rules.taken i d ≡ None)) ⊎ ((ra : Reg) × (d : Data) × (rules.holds ra d ≡ None))

    abbrev IsStepGood : ℕ → Type 0 → Stepped Data → Type 0
    IsStepGood charged Over (Moves charge next after) = IsGood image cert costs a (charged + charge) next
    IsStepGood charged Over Rests = Over
    IsStepGood charged Over (Trapping kind) = (kind ≡ BadAddress) × IsBad
    IsStepGood charged Over Undecided = IsOpen

    worked-good : (charged : ℕ) (i : Instr) (up : Option ℤ) (next : Control) (d : Data) (o : Option Data) → rules.does i up d ≡ o → IsGood image cert costs a (charged + cost_of costs (class_of false i)) next → IsStepGood charged ⊥ (worked rules costs i next o)
    worked-good charged i up next d None e g = (refl, (i, up, d, e))
    worked-good charged i up next d (Some d') e g = g

    led-good : (charged : ℕ) (to : Control) (o : Option Control) (d : Data) → o ≡ Some to → IsGood image cert costs a (charged + cost_of costs class.Taken) to → IsStepGood charged ⊥ (led rules costs o d)
    led-good charged to o d e g = let S : Option Control → Type 0 = λ x. IsStepGood charged ⊥ (led rules costs x d) in subst S (sym e) g

    branched-good : (charged : ℕ) (i : Instr) (taken : Option Control) (untaken : Control) (d : Data) (o : Option (Bool × Data)) → rules.taken i d ≡ o → IsPlanGood image cert costs a charged (plans.Branch i taken untaken) → IsStepGood charged ⊥ (branched rules costs taken untaken o)
    branched-good charged i taken untaken d None e g = inl (i, d, e)
    branched-good charged i taken untaken d (Some p) e g = by p.0
      where
        by : (b : Bool) → IsStepGood charged ⊥ (decided rules costs taken untaken b p.1)
        by true = led-good charged g.0.0 taken p.1 g.0.1 g.0.2
        by false = g.1

    concluded-good : (charged : ℕ) (ra : Reg) (u : unit.State) (d : Data) (o : Option (Bool × Data)) → rules.holds ra d ≡ o → IsPlanGood image cert costs a charged (Conclude ra u) → IsStepGood charged ⊥ (concluded rules costs u o)
    concluded-good charged ra u d None e g = inr (ra, d, e)
    concluded-good charged ra u d (Some p) e g = g p.0

    planned : (charged : ℕ) (d : Data) (p : Plan) → IsPlanGood image cert costs a charged p → IsStepGood charged ⊥ (stepped rules costs d p)
    planned charged d Rest g = g
    planned charged d (Refuse kind) g = absurd g
    planned charged d (Go class next) g = g
    planned charged d (Work i up next) g = worked-good charged i up next d (rules.does i up d) refl g
    planned charged d (plans.Branch i taken untaken) g = branched-good charged i taken untaken d (rules.taken i d) refl g
    planned charged d (Conclude ra u) g = concluded-good charged ra u d (rules.holds ra d) refl g

    over : (charged : ℕ) (Over : Type 0) (x : Stepped Data) → IsStepGood charged ⊥ x → IsStepGood charged Over x
    over charged Over (Moves charge next after) g = g
    over charged Over Rests g = absurd g
    over charged Over (Trapping kind) g = g
    over charged Over Undecided g = g

    step-good : (charged : ℕ) (c : Control) (d : Data) → IsGood image cert costs a charged c → IsStepGood charged (Begins c.unit) (step rules costs image c d)
    step-good charged c d k = by c.phase k.1
      where
        by : (p : control.Phase) → IsGoodIn image cert costs a charged c.unit c.upper p → IsStepGood charged (Begins c.unit) (stepped rules costs d (plans.plan_for image c (control.job_in p)))
        by (control.Testing place) g =
            let p = plan_word image control.Condition place c.upper c.unit (slice_get image.code place) in
            over charged (Begins c.unit) (stepped rules costs d p) (planned charged d p (condition-good charged place c.unit c.upper k.0 g))
        by (control.Running s place) g =
            let p = plan_word image (control.Turn s) place c.upper c.unit (slice_get image.code place) in
            over charged (Begins c.unit) (stepped rules costs d p) (planned charged d p (turn-good image cert costs a charged s place c.unit c.upper k.0 g))
        by control.Resting g = rests-begin charged c.unit c.upper k.0 g

    -- the tick is within the bound, and where it ends another may begin
    abbrev pub IsTickGood : ticking.Outcome Data → Type 0
    IsTickGood (Ends cycles u after) = (cycles ≤ cert.bound) × Begins u
    IsTickGood (Trapped kind at charged) = (kind ≡ BadAddress) × IsBad × (charged ≤ cert.bound)
    IsTickGood (Open charged) = IsOpen × (charged ≤ cert.bound)

    module _ (priced : IsCosts costs) (most : ℕ) (enough : cert.bound ≤ most) where
      abbrev IsRunGood : ℕ → Type 0
      IsRunGood fuel = (n charged : ℕ) (c : Control) (d : Data) → charged ≡ base_of image costs + n → IsGood image cert costs a n c → most + 1 ≤ fuel + charged → IsTickGood (run rules image costs fuel most charged c d)

      in-time : (n : ℕ) → n ≤ most → nat_lt most n ≡ false
      in-time n h = grind (arith, nat_tests, h)

      good-if : (b : Bool) (x y : ticking.Outcome Data) → b ≡ false → IsTickGood y → IsTickGood (if b then x else y)
      good-if true x y e h = absurd (false≢true (sym e))
      good-if false x y e h = h

      after-good : (f n charged : ℕ) (c : Control) (d : Data) (s : Stepped Data) → step rules costs image c d ≡ s → IsStepGood n (Begins c.unit) s → IsRunGood f → charged ≡ base_of image costs + n → base_of image costs + n ≤ cert.bound → most + 1 ≤ suc f + charged →
          IsTickGood (after_step rules image costs (run rules image costs f most) most charged c d s)
      after-good f n charged c d (Moves charge next after) h g more e low left =
          let least : 1 ≤ charge = charge-least rules costs priced image c next d after charge h in
          let next-low : base_of image costs + (n + charge) ≤ cert.bound = good-within (n + charge) next g in
          good-if (nat_lt most (charged + charge)) _ _ (in-time (charged + charge) (omega (arith, enough, next-low, e)))
          (more (n + charge) (charged + charge) next after (omega (arith, e)) g (omega (arith, least, left)))
      after-good f n charged c d Rests h g more e low left = ((omega (arith, e, low)), g)
      after-good f n charged c d (Trapping kind) h g more e low left = (g.0, g.1, omega (arith, e, low))
      after-good f n charged c d Undecided h g more e low left = (g, omega (arith, e, low))

      run-good : (fuel : ℕ) → IsRunGood fuel
      unfolding run
      run-good zero n charged c d e g left = let low = good-within n c g in absurd (omega (arith, left, low, e, enough))
      run-good (suc f) n charged c d e g left = after-good f n charged c d (step rules costs image c d) refl (step-good n c d g) (run-good f) e (good-within n c g) left

      pub tick-good : (u : unit.State) (d : Data) → Begins u → IsTickGood (tick rules image costs most u d)
      tick-good u d b =
          let g = begun-good u b in
          let low = good-within 0 (tests_on (ticking.begun u)) g in
          good-if (nat_lt most (base_of image costs)) _ _ (in-time (base_of image costs) (omega (arith, enough, low)))
          (run-good (suc most) 0 (base_of image costs) (tests_on (ticking.begun u)) (samples_on rules (ticking.begun u) d) (omega arith) g (omega arith))

  -- configurations
  of-line : (l : Watch) → free.IsOfLine image l → IsListed F l
  of-line l h =
      let e : abort_at image l.entry.number ≡ record { weak = l.entry.weak; cond = l.entry.cond; handler = l.entry.handler } = line-at image.aborts l.entry.number _ _ h in
      (sym (ap (λ (x : AbortLine). x.weak) e), sym (ap (λ (x : AbortLine). x.cond) e), sym (ap (λ (x : AbortLine). x.handler) e))

  of-lines : (watches : List Watch) → free.AreOfLines image watches → AreListed F watches
  of-lines [] h = tt
  of-lines (l ∷ watches) h = (of-line l h.0, of-lines watches h.1)

  code-word : (at lo n word : ℕ) → slice_get image.code at ≡ Some word → decoded word ≡ Some (Forks lo n) → read image at None ≡ Some (Fork lo n)
  code-word at lo n word h k = ap (λ o. read_instr image at None (instr_in o)) h ∙ ap (read_instr image at None) k

  loose-unended : (k : ℕ) (t : Tree) → free.IsLoose image k t → has_ended t ≡ false
  loose-unended k (Leaf watches (Running place)) h = absurd h
  loose-unended k (Leaf watches (Pausing place)) h = refl
  loose-unended k (Leaf watches Finished) h = absurd h
  loose-unended k (Waits watches at lo group) h = refl

  some-unended : (k : ℕ) (ts : Group) → free.HasLoose image k ts → all_ended ts ≡ false
  some-unended k no_more h = absurd h
  some-unended k (member t ts) h = ⊎_elim (λ e. ap (λ b. b && all_ended ts) (loose-unended k t e)) (λ e. ap (λ b. has_ended t && b) (some-unended (k + 1) ts e) ∙ and-false (has_ended t)) h
    where
      and-false : (b : Bool) → b && false ≡ false
      and-false true = refl
      and-false false = refl

  mutual
    pub loose-is : (k : ℕ) (t : Tree) → free.IsLoose image k t → machine.IsLoose F k t
    loose-is k (Leaf watches (Running place)) h = absurd h
    loose-is k (Leaf watches (Pausing place)) h = (h.0, of-lines watches h.1)
    loose-is k (Leaf watches Finished) h = absurd h
    loose-is k (Waits watches at lo group) h = (h.0, of-lines watches h.1, code-word at lo (size group) h.2.0 h.2.1 h.2.2, some-unended lo group h.4, rest-is lo group h.3)

    rest-is : (k : ℕ) (ts : Group) → free.AreAtRest image k ts → machine.AreLoose F k ts
    rest-is k no_more h = tt
    rest-is k (member t ts) h =
        (⊎_elim (λ e. let L : Tree → Type 0 = machine.IsLoose F k in subst L (sym e) refl) (λ e. loose-is k t e) h.0, rest-is (k + 1) ts h.1)

  pub configured : (u : unit.State) → free.IsConfiguration image u → Begins u
  configured u h =
      let once : IsSound F u.tree = λ q. let o = h.once.once q in grind (arith, nat_tests, o) in
      let C : Tree → Type 0 = IsConfiguration F in
      let L : Tree → Type 0 = machine.IsLoose F 0 in
      record {
        tree_is = ⊎_elim (λ e. subst C (sym e) first) (λ k. ⊎_elim (λ e. loose (subst L (sym e) refl) once) (λ e. loose (loose-is 0 u.tree e) once) k) h.tree;
        slots = h.slots;
        links = h.links;
        counters = h.counters;
      }

  loaded-begins : Begins (loaded image)
  loaded-begins = record { tree_is = first; slots = refl; links = refl; counters = refl }

  module _ (priced : IsCosts costs) where
    free-by : (o : ticking.Outcome (List Bool)) → IsTickGood free.free o → IsFreelyWithin cert.bound o
    free-by (Ends cycles u after) h = h.0
    free-by (Trapped kind at charged) h = absurd (none-some h.1.2 (sym h.1.3))
    free-by (Open charged) h = h.1

    pub bounds-free : BoundsFreeTicks image costs cert.bound
    bounds-free most u choices enough h = free-by (tick free.free image costs most u choices) (tick-good free.free priced most enough u choices (configured u h))

    -- a bad address stops a tick of the machine, and the machine always says how to go on
    machine-by : (values : List ℤ) (o : ticking.Outcome Cells) → IsTickGood (machine_of image values) o → IsSafeWithin cert.bound o
    machine-by values (Ends cycles u after) h = h.0
    machine-by values (Trapped kind at charged) h = (h.0, h.2)
    machine-by values (Open charged) h = ⊎_elim (λ e. none-some _ (sym e.2)) (λ e. none-some _ (sym e.2)) h.0

    ticks-good : (rows : List (ℕ × List ℤ)) (u : unit.State) (d : Cells) → Begins u → AllByRecursion (λ (row : ℕ × List ℤ). cert.bound ≤ row.0) rows → AllByRecursion (IsSafeWithin cert.bound) (ticks image costs rows u d)
    ticks-good [] u d b h = tt
    ticks-good (row ∷ rows) u d b h =
        by (tick (machine_of image row.1) image costs row.0 u d) (tick-good (machine_of image row.1) priced row.0 h.0 u d b) (λ u' d' b'. ticks-good rows u' d' b' h.1)
      where
        by : (o : ticking.Outcome Cells) → IsTickGood (machine_of image row.1) o → ((u' : unit.State) (d' : Cells) → Begins u' → AllByRecursion (IsSafeWithin cert.bound) (ticks image costs rows u' d')) → AllByRecursion (IsSafeWithin cert.bound) (and_after (ticks image costs rows) o)
        by (Ends cycles u' after) k more = (k.0, more u' after k.1)
        by (Trapped kind at charged) k more = (machine-by row.1 (Trapped kind at charged) k, tt)
        by (Open charged) k more = (machine-by row.1 (Open charged) k, tt)

    pub bounds-runs : BoundsRuns image costs cert.bound
    bounds-runs rows d h = ticks-good rows (loaded image) d loaded-begins h

pub accepts-of : (image : Parts) (cert : CertParts) (costs : List ℕ) → IsAcceptedFor image cert costs → Accepts image cert costs
accepts-of image cert costs h = record { image_is = h.image_is; cert_is = h.cert_is; hold = h.hold }

-- Good controls: where acceptance holds each step of one leads to another, and its charge is paid.
use Rattle.std.proofs.Common.{◌≡◌, ◌+◌, ℕ, ℤ, Bool, true, false, List, [], reverse, length, is_some, Option, Some, None, option_map, refl, sym, ap, ◌∙◌, subst, ⊎_elim, arith}
use Rattle.std.proofs.lemmas.Bool.{false≢true}
use Rattle.std.proofs.lemmas.Option.{none-some, same_Some}
use Rattle.mb_isa.specs.declared.Class.TheVariants as class
use Rattle.mb_isa.specs.Classes.{class_of}
use Rattle.mb_isa.specs.Costs.{cost_of}
use Rattle.pt_image.specs.declared.Parts.{Parts}
use Rattle.mb_pfu.specs.declared.parts.Watch.{Watch}
use Rattle.mb_pfu.specs.declared.parts.Slot.{Slot}
use Rattle.mb_pfu.specs.declared.parts.Slot.TheVariants.{Ready}
use Rattle.mb_pfu.specs.Rows.{ready, due, first_due, reported_test}
use Rattle.mb_pfu.specs.Tree.{Running, Tree, Leaf, has_ready, all_woken, report, reported_number, reported_watches, slot_of, watches_of, next_job, next_test}
use Rattle.mb_pfu.specs.Contexts.{Context, plug, IsQuietBefore}
use Rattle.mb_pfu.specs.Contexts as contexts
use Rattle.mb_pfu.specs.Unit as unit
use Rattle.mb_pfu.specs.Unit.{entry_of}
use Rattle.mb_pfu.proofs.Cases.{none-there}
use Rattle.mb_pfu.proofs.Firsts.{report-numbered}
use Rattle.mb_pfu.proofs.Laws.{is_in-ready}
use Rattle.mb_pfu.proofs.Trees.{is_in-report}
use Rattle.mb_isa.specs.Control as control
use Rattle.mb_isa.specs.Control.{Control, start_in, turns_from, turns_on, wakes, tests_from, tests_on}
use Rattle.mb_isa.specs.Words as plans
use Rattle.mb_isa.specs.Words.{Plan, Rest, Refuse, Go, Work, Conclude}
use Rattle.tk_cert.specs.declared.cert.CertParts.{CertParts}
use Rattle.tk_paths.proofs.SlotFacts.{next_cond}
use Rattle.tk_paths.proofs.Inner.{Image, State, Phase, IsSound, test_next, test_at, turn_at}
use Rattle.tk_paths.proofs.Inner as machine
use Rattle.tk_paths.proofs.Conditions.{Cert, IsAccepted}
use Rattle.tk_paths.proofs.Firsts.{job}
use Rattle.tk_paths.proofs.Finds.{turn_of}
use Rattle.tk_paths.proofs.Rests.{plug-ready}
use Rattle.tk_paths.proofs.Running.{IsRunning, IsCalm, IsTurned, turn-running}
use Rattle.tk_paths.proofs.Whole.{IsTested, IsInTest, IsOutKept, step-kept}
use Rattle.tk_paths.proofs.Sums.{accepted_by_sums}
use Rattle.tk_paths.proofs.Carried.{image_of, cert_of}
use Rattle.tk_paths.proofs.Accepts.{Accepts}
use Rattle.tk_paths.proofs.Accepted.{accepted}
use Rattle.tk_paths.proofs.Turns.{once-of, is-next, slot-is, cond_in, cond-report}

module _ (image : Parts) (cert : CertParts) (costs : List ℕ) (a : Accepts image cert costs) where
  abbrev pub E : Image
  E = image_of image costs

  abbrev pub D : Cert
  D = cert_of image cert costs

  pub sums : IsAccepted E D
  sums = accepted_by_sums E D (accepted image cert costs a)

  -- a slot takes its turn, and is at a place; the tree knows the place at which the turn began
  pub record IsTurnAt (charged s place : ℕ) (u : unit.State) (upper : Option ℤ) : Type 0 where
    pub context : Context
    pub watches : List Watch
    pub stale : ℕ
    pub tree_is : u.tree ≡ plug context (Leaf watches (Running stale))
    pub slot_is : contexts.middle context ≡ s
    pub quiet : IsQuietBefore context
    pub sound : IsSound E (plug context (Leaf watches (Running place)))
    pub running : IsRunning E D charged (job context watches place) (reverse u.links) (reverse u.counters) upper

  pub record IsResting (charged : ℕ) (u : unit.State) (upper : Option ℤ) : Type 0 where
    pub sound : IsSound E u.tree
    pub calm : IsCalm E D charged u.tree (reverse u.links) (reverse u.counters) upper
    pub none_ready : has_ready u.tree ≡ false

  abbrev pub IsGoodIn : ℕ → unit.State → Option ℤ → control.Phase → Type 0
  IsGoodIn charged u upper (control.Testing place) = IsInTest E D sums charged place u.tree (reverse u.links) (reverse u.counters) upper
  IsGoodIn charged u upper (control.Running s place) = IsTurnAt charged s place u upper
  IsGoodIn charged u upper control.Resting = IsResting charged u upper

  -- with so much charged, all that may still come is within the bound
  abbrev pub IsGood : ℕ → Control → Type 0
  IsGood charged c = (c.unit.slots ≡ length image.slots) × IsGoodIn charged c.unit c.upper c.phase

  -- what a plan leads to is good, and no unit word is refused
  abbrev pub IsPlanGood : ℕ → Plan → Type 0
  IsPlanGood charged Rest = ⊥
  IsPlanGood charged (Refuse kind) = ⊥
  IsPlanGood charged (Go class next) = IsGood (charged + cost_of costs class) next
  IsPlanGood charged (Work i upper next) = IsGood (charged + cost_of costs (class_of false i)) next
  IsPlanGood charged (plans.Branch i taken untaken) = ((to : Control) × (taken ≡ Some to) × IsGood (charged + cost_of costs class.Taken) to) × IsGood (charged + cost_of costs class.Untaken) untaken
  IsPlanGood charged (Conclude ra u) = (holds : Bool) → IsGood (charged + cost_of costs class.Cend) (tests_on (control.answered holds u))

  -- the next turn
  pub turns-good : (charged : ℕ) (u : unit.State) → u.slots ≡ length image.slots → IsTurned E D charged u.tree (reverse u.links) (reverse u.counters) None → IsGood charged (turns_on u)
  turns-good charged u slots k = by (has_ready u.tree) refl
    where
      by : (b : Bool) → has_ready u.tree ≡ b → IsGood charged (turns_on u)
      by true e =
          let t = turn_of E u.tree e in
          let S : Tree → Type 0 = IsSound E in
          let sound = subst S t.is_there k.0 in
          let s = contexts.middle t.context in
          let n : next_job u.tree ≡ Some s = ap next_job t.is_there ∙ is-next E t.context t.watches t.place t.quiet sound in
          let at : slot_of s u.tree ≡ Ready t.place = ap (slot_of s) t.is_there ∙ slot-is E t.context t.watches t.place t.quiet sound in
          let G : Option ℕ → Type 0 = λ o. IsGood charged (turns_from u o) in
          let P : Slot → Type 0 = λ x. IsTurnAt charged s (start_in x) u None in
          let here : IsTurnAt charged s t.place u None = record {
            context = t.context;
            watches = t.watches;
            stale = t.place;
            tree_is = t.is_there;
            slot_is = refl;
            quiet = t.quiet;
            sound = sound;
            running = turn-running E D charged (job t.context t.watches t.place) u.tree (reverse u.links) (reverse u.counters) None t.is_there t.quiet k;
          } in
          subst G (sym n) (slots, subst P (sym at) here)
      by false e =
          let r : is_some (report ready 0 u.tree) ≡ false = sym (is_in-report ready 0 u.tree) ∙ is_in-ready 0 u.tree ∙ e in
          let n : next_job u.tree ≡ None = ap reported_number (none-there (report ready 0 u.tree) r) in
          let G : Option ℕ → Type 0 = λ o. IsGood charged (turns_from u o) in
          let calm : IsCalm E D charged u.tree (reverse u.links) (reverse u.counters) None =
          ⊎_elim (λ c. c) (λ b. absurd (false≢true (sym e ∙ ap has_ready b.is_there ∙ plug-ready b.runs.context (Leaf b.runs.watches (Running b.runs.place)) refl))) k.1 in
          subst G (sym n) (slots, record { sound = k.0; calm = calm; none_ready = e })

  abbrev testing : unit.State → State
  testing u = record { phase = machine.Testing; tree = u.tree; links = reverse u.links; counters = reverse u.counters; choices = []; upper = None }

  mapped : {X : Type 0} (f : X → ℕ) (o : Option X) (c : ℕ) → Some c ≡ option_map f o → (x : X) × (o ≡ Some x) × (c ≡ f x)
  mapped f None c h = absurd (none-some c (sym h))
  mapped f (Some x) c h = (x, refl, same_Some c (f x) h)

  mapped-none : {X : Type 0} (f : X → ℕ) (o : Option X) → None ≡ option_map f o → o ≡ None
  mapped-none f None h = refl
  mapped-none f (Some x) h = absurd (none-some (f x) h)

  -- the next condition, or the turns
  pub tests-good : (charged : ℕ) (u : unit.State) → u.slots ≡ length image.slots → IsTested E D sums charged u.tree (reverse u.links) (reverse u.counters) None → IsGood charged (tests_on u)
  tests-good charged u slots k = by (next_cond u.tree) refl (step-kept E D sums charged (testing u) (test_next E (testing u) (next_cond u.tree)) k refl)
    where
      same : charged + 0 ≡ charged
      same = omega arith

      by : (o : Option ℕ) → next_cond u.tree ≡ o → IsOutKept E D sums charged (test_next E (testing u) o) → IsGood charged (tests_on u)
      by None e kept =
          let r : report due 0 u.tree ≡ None = mapped-none cond_in (report due 0 u.tree) (sym e ∙ cond-report 0 u.tree) in
          let n : next_test u.tree ≡ None = ap reported_test r in
          let G : Option (ℕ × ℕ) → Type 0 = λ o. IsGood charged (tests_from u o) in
          let T : ℕ → Type 0 = λ m. IsTurned E D m (all_woken u.tree) (reverse u.links) (reverse u.counters) None in
          subst G (sym n) (turns-good charged (wakes u) slots (subst T same kept))
      by (Some c) e kept =
          let m = mapped cond_in (report due 0 u.tree) c (sym e ∙ cond-report 0 u.tree) in
          let x = m.0 in
          let n : next_test u.tree ≡ Some (x.0, first_due x.2) = ap reported_test m.1 in
          let w : watches_of x.0 u.tree ≡ x.2 = ap reported_watches (report-numbered due 0 u.tree x (once-of E u.tree k.sound) m.1) in
          let at : c ≡ (entry_of (watches_of x.0 u.tree) (first_due x.2)).cond = m.2 ∙ ap (λ (v : List Watch). (entry_of v (first_due x.2)).cond) (sym w) in
          let G : Option (ℕ × ℕ) → Type 0 = λ o. IsGood charged (tests_from u o) in
          let T : ℕ → Type 0 = λ m. IsInTest E D sums m c u.tree (reverse u.links) (reverse u.counters) None in
          let P : ℕ → Type 0 = λ p. IsInTest E D sums charged p u.tree (reverse u.links) (reverse u.counters) None in
          subst G (sym n) (slots, subst P at (subst T same kept))

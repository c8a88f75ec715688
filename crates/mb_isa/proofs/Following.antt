-- The step and the tick of data that others follow.
use Rattle.std.proofs.Common.{◌≡◌, ◌⊎◌, inl, inr, if◌then◌else◌, ℕ, zero, suc, ◌+◌, ℤ, nat_lt, Bool, true, false, List, [], ◌∷◌, Option, Some, None, refl, sym, ap, ◌∙◌, arith}
use Rattle.mb_isa.specs.declared.registers.Reg.{Reg}
use Rattle.mb_isa.specs.declared.words.Instr.{Instr}
use Rattle.mb_pfu.specs.declared.TrapKind.{TrapKind}
use Rattle.mb_pfu.specs.declared.TrapKind.TheVariants.{BadAddress, Late}
use Rattle.mb_pfu.specs.Tree.{next_test}
use Rattle.mb_pfu.specs.Unit.{State}
use Rattle.pt_image.specs.declared.Parts.{Parts}
use Rattle.mb_isa.specs.Control.{Control, answered, place_of, tests_on}
use Rattle.mb_isa.specs.Words.{Plan, Rest, Refuse, Go, Work, Branch, Conclude, plan}
use Rattle.mb_isa.specs.Step.{Rules, Stepped, Moves, Rests, Traps, Undecided, samples_from, samples_on, worked, led, decided, branched, concluded, stepped, step}
use Rattle.mb_isa.specs.Tick.{Outcome, Ends, Trapped, Open, base_of, begun, after_step, run, tick, still, onward}
use Rattle.mb_isa.specs.Cells.{Cells, machine}
use Rattle.mb_isa.specs.Free.{free}
use Rattle.mb_isa.specs.Follows.{Follow, Decide, DoesWork, Reaches, IsFollowed}

-- other data in place of those that a step leaves
abbrev relabel : {Data Other : Type 0} → Other → Stepped Data → Stepped Other
relabel end (Moves charge next after) = Moves charge next end
relabel end Rests = Rests
relabel end (Traps kind) = Traps kind
relabel end Undecided = Undecided

module _ {Data Other : Type 0} (rules : Rules Data) (others : Rules Other) (costs : List ℕ) (follow : Follow rules others) where
  samples-back : (t : Option (ℕ × ℕ)) (end : Other) → (e : Other) × (samples_from others t e ≡ end)
  samples-back (Some t) end = (end, refl)
  samples-back None end = follow.sampled end

  abbrev Backs : Plan → ℕ → Control → Other → Type 0
  Backs p charge next end = (e : Other) × (stepped others costs e p ≡ Moves charge next end)

  work-back : (i : Instr) (upper : Option ℤ) (to : Control) (d after : Data) (charge : ℕ) (next : Control) (end : Other) (o : Option Data) → rules.does i upper d ≡ o → worked rules costs i to o ≡ Moves charge next after → Backs (Work i upper to) charge next end
  work-back i upper to d after charge next end None q h = cc
  work-back i upper to d after charge next end (Some d') q h =
      let f = follow.does i upper d d' end q in
      (f.0, ap (worked others costs i to) f.1 ∙ ap (relabel end) h)

  led-back : (taken : Option Control) (d after : Data) (charge : ℕ) (next : Control) (end : Other) → led rules costs taken d ≡ Moves charge next after → led others costs taken end ≡ Moves charge next end
  led-back None d after charge next end h = cc
  led-back (Some to) d after charge next end h = ap (relabel end) h

  decided-back : (taken : Option Control) (untaken : Control) (b : Bool) (d after : Data) (charge : ℕ) (next : Control) (end : Other) → decided rules costs taken untaken b d ≡ Moves charge next after → decided others costs taken untaken b end ≡ Moves charge next end
  decided-back taken untaken true d after charge next end h = led-back taken d after charge next end h
  decided-back taken untaken false d after charge next end h = ap (relabel end) h

  branch-back : (i : Instr) (taken : Option Control) (untaken : Control) (d after : Data) (charge : ℕ) (next : Control) (end : Other) (o : Option (Bool × Data)) → rules.taken i d ≡ o → branched rules costs taken untaken o ≡ Moves charge next after → Backs (Branch i taken untaken) charge next end
  branch-back i taken untaken d after charge next end None q h = cc
  branch-back i taken untaken d after charge next end (Some p) q h =
      let f = follow.taken i d p.1 p.0 end q in
      (f.0, ap (branched others costs taken untaken) f.1 ∙ decided-back taken untaken p.0 p.1 after charge next end h)

  conclude-back : (ra : Reg) (u : State) (d after : Data) (charge : ℕ) (next : Control) (end : Other) (o : Option (Bool × Data)) → rules.holds ra d ≡ o → concluded rules costs u o ≡ Moves charge next after → Backs (Conclude ra u) charge next end
  conclude-back ra u d after charge next end None q h = cc
  conclude-back ra u d after charge next end (Some p) q h =
      let s = samples-back (next_test (answered p.0 u).tree) end in
      let f = follow.holds ra d p.1 p.0 s.0 q in
      (f.0, ap (concluded others costs u) f.1 ∙ rw s.1 (ap (relabel end) h))

  -- a step that is done
  pub back : (p : Plan) (d after : Data) (charge : ℕ) (next : Control) (end : Other) → stepped rules costs d p ≡ Moves charge next after → Backs p charge next end
  back Rest d after charge next end h = cc
  back (Refuse kind) d after charge next end h = cc
  back (Go class to) d after charge next end h = (end, ap (relabel end) h)
  back (Work i upper to) d after charge next end h = work-back i upper to d after charge next end (rules.does i upper d) refl h
  back (Branch i taken untaken) d after charge next end h = branch-back i taken untaken d after charge next end (rules.taken i d) refl h
  back (Conclude ra u) d after charge next end h = conclude-back ra u d after charge next end (rules.holds ra d) refl h

  -- a step that isn't done
  abbrev Stays : Plan → TrapKind → Type 0
  Stays p kind = ((e : Other) × (stepped others costs e p ≡ Traps kind)) ⊎ (kind ≡ BadAddress) × DoesWork p

  abbrev kind_of : {D : Type 0} → TrapKind → Stepped D → TrapKind
  kind_of other (Moves charge next after) = other
  kind_of other Rests = other
  kind_of other (Traps kind) = kind
  kind_of other Undecided = other

  work-stays : (i : Instr) (upper : Option ℤ) (to : Control) (kind : TrapKind) (o : Option Data) → worked rules costs i to o ≡ Traps kind → Stays (Work i upper to) kind
  work-stays i upper to kind None h = inr (sym (ap (kind_of kind) h), (i, upper, to, refl))
  work-stays i upper to kind (Some d) h = cc

  led-stays : (taken : Option Control) (d : Data) (kind : TrapKind) (end : Other) → led rules costs taken d ≡ Traps kind → led others costs taken end ≡ Traps kind
  led-stays None d kind end h = ap (relabel end) h
  led-stays (Some to) d kind end h = cc

  decided-stays : (taken : Option Control) (untaken : Control) (b : Bool) (d : Data) (kind : TrapKind) (end : Other) → decided rules costs taken untaken b d ≡ Traps kind → decided others costs taken untaken b end ≡ Traps kind
  decided-stays taken untaken true d kind end h = led-stays taken d kind end h
  decided-stays taken untaken false d kind end h = cc

  branch-stays : (i : Instr) (taken : Option Control) (untaken : Control) (d : Data) (kind : TrapKind) (end : Other) (o : Option (Bool × Data)) → rules.taken i d ≡ o → branched rules costs taken untaken o ≡ Traps kind → Stays (Branch i taken untaken) kind
  branch-stays i taken untaken d kind end None q h = cc
  branch-stays i taken untaken d kind end (Some p) q h =
      let f = follow.taken i d p.1 p.0 end q in
      inl (f.0, ap (branched others costs taken untaken) f.1 ∙ decided-stays taken untaken p.0 p.1 kind end h)

  conclude-stays : (ra : Reg) (u : State) (kind : TrapKind) (o : Option (Bool × Data)) → concluded rules costs u o ≡ Traps kind → Stays (Conclude ra u) kind
  conclude-stays ra u kind None h = cc
  conclude-stays ra u kind (Some p) h = cc

  pub stays : (p : Plan) (d : Data) (kind : TrapKind) (end : Other) → stepped rules costs d p ≡ Traps kind → Stays p kind
  stays Rest d kind end h = cc
  stays (Refuse kind') d kind end h = inl (end, ap (relabel end) h)
  stays (Go class to) d kind end h = cc
  stays (Work i upper to) d kind end h = work-stays i upper to kind (rules.does i upper d) h
  stays (Branch i taken untaken) d kind end h = branch-stays i taken untaken d kind end (rules.taken i d) refl h
  stays (Conclude ra u) d kind end h = conclude-stays ra u kind (rules.holds ra d) h

  work-busy : (i : Instr) (to : Control) (o : Option Data) → worked rules costs i to o ≡ Rests → ⊥
  work-busy i to None h = cc
  work-busy i to (Some d) h = cc

  decided-busy : (taken : Option Control) (untaken : Control) (b : Bool) (d : Data) → decided rules costs taken untaken b d ≡ Rests → ⊥
  decided-busy None untaken true d h = cc
  decided-busy (Some to) untaken true d h = cc
  decided-busy taken untaken false d h = cc

  branch-busy : (taken : Option Control) (untaken : Control) (o : Option (Bool × Data)) → branched rules costs taken untaken o ≡ Rests → ⊥
  branch-busy taken untaken None h = cc
  branch-busy taken untaken (Some p) h = decided-busy taken untaken p.0 p.1 h

  conclude-busy : (u : State) (o : Option (Bool × Data)) → concluded rules costs u o ≡ Rests → ⊥
  conclude-busy u None h = cc
  conclude-busy u (Some p) h = cc

  -- no slot is ready
  pub quiet : (p : Plan) (d : Data) (end : Other) → stepped rules costs d p ≡ Rests → stepped others costs end p ≡ Rests
  quiet Rest d end h = refl
  quiet (Refuse kind') d end h = cc
  quiet (Go class to) d end h = cc
  quiet (Work i upper to) d end h = absurd (work-busy i to (rules.does i upper d) h)
  quiet (Branch i taken untaken) d end h = absurd (branch-busy taken untaken (rules.taken i d) h)
  quiet (Conclude ra u) d end h = absurd (conclude-busy u (rules.holds ra d) h)

  module _ (decide : Decide rules) where
    work-says : (i : Instr) (to : Control) (o : Option Data) → worked rules costs i to o ≡ Undecided → ⊥
    work-says i to None h = cc
    work-says i to (Some d) h = cc

    decided-says : (taken : Option Control) (untaken : Control) (b : Bool) (d : Data) → decided rules costs taken untaken b d ≡ Undecided → ⊥
    decided-says None untaken true d h = cc
    decided-says (Some to) untaken true d h = cc
    decided-says taken untaken false d h = cc

    branch-says : (taken : Option Control) (untaken : Control) (o : Option (Bool × Data)) (p : Bool × Data) → o ≡ Some p → branched rules costs taken untaken o ≡ Undecided → ⊥
    branch-says taken untaken None p q h = cc
    branch-says taken untaken (Some p') p q h = decided-says taken untaken p'.0 p'.1 h

    conclude-says : (u : State) (o : Option (Bool × Data)) (p : Bool × Data) → o ≡ Some p → concluded rules costs u o ≡ Undecided → ⊥
    conclude-says u None p q h = cc
    conclude-says u (Some p') p q h = cc

    pub says : (p : Plan) (d : Data) → stepped rules costs d p ≡ Undecided → ⊥
    says Rest d h = cc
    says (Refuse kind') d h = cc
    says (Go class to) d h = cc
    says (Work i upper to) d h = work-says i to (rules.does i upper d) h
    says (Branch i taken untaken) d h =
        let r = decide.taken i d in
        branch-says taken untaken (rules.taken i d) r.0 r.1 h
    says (Conclude ra u) d h =
        let r = decide.holds ra d in
        conclude-says u (rules.holds ra d) r.0 r.1 h

    module _ (image : Parts) (most : ℕ) where
      -- the same from here on, with other data
      abbrev IsFollowedFrom : ℕ → ℕ → Control → Outcome Data → Type 0
      IsFollowedFrom fuel charged c (Ends cycles unit after) = (end : Other) → (e : Other) × (run others image costs fuel most charged c e ≡ Ends cycles unit end)
      IsFollowedFrom fuel charged c (Trapped kind at to) =
          (end : Other) → ((e : Other) × (run others image costs fuel most charged c e ≡ Trapped kind at to))
          ⊎ (kind ≡ BadAddress) × ((e : Other) × Reaches others image costs c e at charged to end)
      IsFollowedFrom fuel charged c (Open to) = ⊥

      -- a step before
      once : (fuel charged charge : ℕ) (c next : Control) (e end : Other) → step others costs image c e ≡ Moves charge next end → nat_lt most (charged + charge) ≡ false →
          run others image costs (suc fuel) most charged c e ≡ run others image costs fuel most (charged + charge) next end
      unfolding run
      once fuel charged charge c next e end h low = ap (after_step others image costs (run others image costs fuel most) most charged c e) h ∙ rw low refl

      reaches-before : (charged charge : ℕ) (c next : Control) (e end stop : Other) (at to : ℕ) → step others costs image c e ≡ Moves charge next end → Reaches others image costs next end at (charged + charge) to stop → Reaches others image costs c e at charged to stop
      reaches-before charged charge c next e end stop at to h r =
          let s : to ≡ charged + charge + r.spent = r.charged_is in
          let q : to ≡ charged + (charge + r.spent) = omega arith in
          record { spent = charge + r.spent; count = suc r.count; last = r.last; path = onward h r.path; charged_is = q; place_is = r.place_is; stands = r.stands }

      before : (fuel charged charge : ℕ) (c next : Control) (d after : Data) (o : Outcome Data) → step rules costs image c d ≡ Moves charge next after → nat_lt most (charged + charge) ≡ false → IsFollowedFrom fuel (charged + charge) next o → IsFollowedFrom (suc fuel) charged c o
      before fuel charged charge c next d after (Ends cycles unit last) h low f =
          λ end.
          let g = f end in
          let b = back (plan image c) d after charge next g.0 h in
          (b.0, once fuel charged charge c next b.0 g.0 b.1 low ∙ g.1)
      before fuel charged charge c next d after (Trapped kind at to) h low f =
          λ end.
          elim (f end) [
            | inl g ↦ (let b = back (plan image c) d after charge next g.0 h in inl (b.0, once fuel charged charge c next b.0 g.0 b.1 low ∙ g.1))
            | inr g ↦ (let b = back (plan image c) d after charge next g.1.0 h in inr (g.0, (b.0, reaches-before charged charge c next b.0 g.1.0 end at to b.1 g.1.1)))
          ]
      before fuel charged charge c next d after (Open to) h low f = f

      -- the step is late
      late : (fuel charged charge : ℕ) (c next : Control) (e end : Other) → step others costs image c e ≡ Moves charge next end → nat_lt most (charged + charge) ≡ true → run others image costs (suc fuel) most charged c e ≡ Trapped Late (place_of c) charged
      unfolding run
      late fuel charged charge c next e end h high = ap (after_step others image costs (run others image costs fuel most) most charged c e) h ∙ rw high refl

      trapped : (fuel charged : ℕ) (c : Control) (e : Other) (kind : TrapKind) → step others costs image c e ≡ Traps kind → run others image costs (suc fuel) most charged c e ≡ Trapped kind (place_of c) charged
      unfolding run
      trapped fuel charged c e kind h = ap (after_step others image costs (run others image costs fuel most) most charged c e) h

      rested : (fuel charged : ℕ) (c : Control) (e : Other) → step others costs image c e ≡ Rests → run others image costs (suc fuel) most charged c e ≡ Ends charged c.unit e
      unfolding run
      rested fuel charged c e h = ap (after_step others image costs (run others image costs fuel most) most charged c e) h

      empty : (charged : ℕ) (c : Control) (e : Other) → run others image costs zero most charged c e ≡ Trapped Late 0 charged
      unfolding run
      empty charged c e = refl

      within-by : (fuel charged charge : ℕ) (c next : Control) (d after : Data) (b : Bool) → nat_lt most (charged + charge) ≡ b → step rules costs image c d ≡ Moves charge next after →
          IsFollowedFrom fuel (charged + charge) next (run rules image costs fuel most (charged + charge) next after) →
          IsFollowedFrom (suc fuel) charged c (if b then Trapped Late (place_of c) charged else run rules image costs fuel most (charged + charge) next after)
      within-by fuel charged charge c next d after true low h f =
          λ end.
          let b = back (plan image c) d after charge next end h in
          inl (b.0, late fuel charged charge c next b.0 end b.1 low)
      within-by fuel charged charge c next d after false low h f = before fuel charged charge c next d after (run rules image costs fuel most (charged + charge) next after) h low f

      after-by : (fuel charged : ℕ) (c : Control) (d : Data) (s : Stepped Data) → step rules costs image c d ≡ s →
          ((charged' : ℕ) (next : Control) (after : Data) → IsFollowedFrom fuel charged' next (run rules image costs fuel most charged' next after)) →
          IsFollowedFrom (suc fuel) charged c (after_step rules image costs (run rules image costs fuel most) most charged c d s)
      after-by fuel charged c d (Moves charge next after) h f =
          within-by fuel charged charge c next d after (nat_lt most (charged + charge)) refl h (f (charged + charge) next after)
      after-by fuel charged c d Rests h f = λ end. (end, rested fuel charged c end (quiet (plan image c) d end h))
      after-by fuel charged c d (Traps kind) h f =
          λ end.
          elim (stays (plan image c) d kind end h) [
            | inl g ↦ inl (g.0, trapped fuel charged c g.0 kind g.1)
            | inr g ↦ inr (g.0, (end, record { spent = 0; count = 0; last = c; path = still; charged_is = omega arith; place_is = refl; stands = g.1 }))
          ]
      after-by fuel charged c d Undecided h f = says (plan image c) d h

      pub followed-from : (fuel charged : ℕ) (c : Control) (d : Data) → IsFollowedFrom fuel charged c (run rules image costs fuel most charged c d)
      unfolding run
      followed-from zero charged c d = λ end. inl (end, empty charged c end)
      followed-from (suc fuel) charged c d = after-by fuel charged c d (step rules costs image c d) refl (λ charged' next after. followed-from fuel charged' next after)

      start : (u : State) (end : Other) (o : Outcome Data) → nat_lt most (base_of image costs) ≡ false → IsFollowedFrom (suc most) (base_of image costs) (tests_on (begun u)) o → IsFollowed others image costs most u end o
      start u end (Ends cycles unit after) low f =
          let g = f end in
          let s = samples-back (next_test (begun u).tree) g.0 in
          (s.0, rw (low, s.1) g.1)
      start u end (Trapped kind at to) low f =
          elim (f end) [
            | inl g ↦ (let s = samples-back (next_test (begun u).tree) g.0 in inl (s.0, rw (low, s.1) g.1))
            | inr g ↦ (let s = samples-back (next_test (begun u).tree) g.1.0 in inr (g.0, (s.0, rw s.1 g.1.1)))
          ]
      start u end (Open to) low f = f

      whole-by : (u : State) (d : Data) (end : Other) (b : Bool) → nat_lt most (base_of image costs) ≡ b →
          IsFollowed others image costs most u end (if b then Trapped Late 0 0 else run rules image costs (suc most) most (base_of image costs) (tests_on (begun u)) (samples_on rules (begun u) d))
      whole-by u d end true low = inl (end, rw low refl)
      whole-by u d end false low = start u end (run rules image costs (suc most) most (base_of image costs) (tests_on (begun u)) (samples_on rules (begun u) d)) low (followed-from (suc most) (base_of image costs) (tests_on (begun u)) (samples_on rules (begun u) d))

      -- the tick is followed
      pub followed : (u : State) (d : Data) (end : Other) → IsFollowed others image costs most u end (tick rules image costs most u d)
      followed u d end = whole-by u d end (nat_lt most (base_of image costs)) refl

-- a list of choices decides as any data did
pub freely : {Data : Type 0} (rules : Rules Data) → Follow rules free
freely rules = record {
  does = λ i upper d after end h. (end, refl);
  taken = λ i d after b end h. (b ∷ end, refl);
  holds = λ ra d after b end h. (b ∷ end, refl);
  sampled = λ end. (end, refl);
}

machine-decides : (image : Parts) (values : List ℤ) → Decide (machine image values)
machine-decides image values = record {
  taken = λ i d. (_, refl);
  holds = λ ra d. (_, refl);
}

pub machine-followed : (image : Parts) (costs : List ℕ) (most : ℕ) (u : State) (values : List ℤ) (d : Cells) → IsFollowed free image costs most u [] (tick (machine image values) image costs most u d)
machine-followed image costs most u values d =
    followed (machine image values) free costs (freely (machine image values)) (machine-decides image values) image most u d []

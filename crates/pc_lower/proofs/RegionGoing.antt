-- A node's code does what the node means.
use Rattle.std.proofs.Common.{◌≡◌, ℕ, suc, ◌+◌, ◌*◌, ◌<◌, ◌++◌, max, Bool, true, false, if◌then◌else◌, List, [], ◌∷◌, length, slice_get, Some, None, refl, sym, ap, ◌∙◌, subst, arith, add-zero}
use Rattle.mb_isa.specs.declared.Instr.TheVariants.{Leave}
use Rattle.mb_isa.specs.declared.Class.TheVariants as class
use Rattle.mb_isa.specs.Costs.{cost_of}
use Rattle.mb_pfu.specs.declared.parts.Watch.{Watch}
use Rattle.mb_pfu.specs.Tree.{Group, Leaf, Waits, Running, Pausing, no_more, any_ready}
use Rattle.mb_pfu.specs.Contexts.{Context, plug, middle}
use Rattle.pt_image.specs.declared.Parts.{Parts}
use Rattle.mb_isa.specs.Control.{Control}
use Rattle.mb_isa.specs.Step.{Rules}
use Rattle.mb_isa.specs.Free.{numbers_of}
use Rattle.pc_lower.specs.declared.nodes.Step.{Step}
use Rattle.pc_lower.specs.declared.nodes.Test.{Test}
use Rattle.pc_lower.specs.Flow.{tested, decides, Node, Nodes, straight, sequence, branch, turns, bounded, call, pause, fork, guard, no_nodes, and, End, Through, Halted, state_of, then_do, in_guard, work, Flows, flow_at, begins, go, go_all, State as FlowState, at as at_pause, settle as flow_settle}
use Rattle.pc_lower.specs.Slots.{AreChildren, FitsGroup, IsGood}
use Rattle.pc_lower.specs.Places.{place_in, fork_place, first_child, watch, Has}
use Rattle.pc_lower.specs.Laid.{Placing, Laid, LaidAll}
use Rattle.pc_lower.specs.StepCounts.{Sizes, total, option_words, through, through_all, reach, reach_all}
use Rattle.pc_lower.specs.Law.{Nesting, unnested, with_link, with_counter, rested, unit_at, placed, turning, Comes, Halts, Meets, Goes, AllStart, Room, RoomAll, Laws}
use Rattle.pc_lower.proofs.StepFacts.{eot-step, enter-step, leave-step}
use Rattle.pc_lower.proofs.Calling.{first-is, children, children-fit, children-ready, fork-step, call-step}
use Rattle.pc_lower.proofs.Paths.{after_step, go_on_to, at_once, same_target, meets_more, meets_step, meets_then, meets_jump, meets_lasting, meets_test}
use Rattle.pc_lower.proofs.Groups.{Jobs, Lawful, group_runs, meets_group}
use Rattle.pc_lower.proofs.RegionLoops.{opens, turns_plain, turns_tested}

pub numbers-snoc : (e : List Watch) (w : Watch) → numbers_of (e ++ w ∷ []) ≡ numbers_of e ++ w.entry.number ∷ []
numbers-snoc [] w = refl
numbers-snoc (l ∷ e) w = ap (λ x. l.entry.number ∷ x) (numbers-snoc e w)

numbers-length : (e : List Watch) → length (numbers_of e) ≡ length e
numbers-length [] = refl
numbers-length (l ∷ e) = ap suc (numbers-length e)

module _ (parent : ℕ → ℕ) (image : Parts) (costs : List ℕ) {Data : Type 0} (rules : Rules Data) (Represents : Data → FlowState → Type 0) where
  -- the last entry is left
  pub meets_leave : (context : Context) (good : IsGood parent context) (e : List Watch) (w : Watch) (mid to : ℕ) (c : Control) (d : Data) (state : FlowState) (u : ℕ) → Has image mid Leave → mid + 1 ≡ to →
      Comes image costs rules Represents c d (λ q. placed image unnested context (e ++ w ∷ []) q mid) state u → Comes image costs rules Represents c d (λ q. placed image unnested context e q to) state (u + 1)
  meets_leave context good e w mid to c d state u has end h =
      go_on_to image costs rules Represents c d _ _ state state u 1 (u + 1) (omega arith) h (
      λ q x rep. after_step image costs rules Represents _ (placed image unnested context e q (mid + 1)) x x (cost_of costs class.Leave) _ state 0 1 (leave-step image costs rules parent context good (e ++ w ∷ []) q x mid e w refl has) (omega arith) (
      at_once image costs rules Represents _ x state 0 _ q (ap (placed image unnested context e q) (sym end)) rep
      )
      )

module _ (parent : ℕ → ℕ) (image : Parts) (costs : List ℕ) {Data : Type 0} (rules : Rules Data) (Represents : Data → FlowState → Type 0) where
  pub meets_guard : (context : Context) (good : IsGood parent context) (e : List Watch) (j mid to : ℕ) (c : Control) (d : Data) (u v : ℕ) (o : End) → Has image mid Leave → mid + 1 ≡ to →
      Meets parent image costs rules Represents unnested context (e ++ watch image j false false ∷ []) mid c d u v o → Meets parent image costs rules Represents unnested context e to c d (u + 1) v (in_guard j o)
  meets_guard context good e j mid to c d u v (Through state) has end h = meets_leave parent image costs rules Represents context good e (watch image j false false) mid to c d state u has end h
  meets_guard context good e j mid to c d u v (Halted r state) has end h = record { tree = h.tree; stands = (false, h.stands); fits = h.fits; comes = h.comes }

  -- a group that stands at its fork
  pub meets_jobs : (context : Context) (good : IsGood parent context) (e : List Watch) (i lo from to : ℕ) (jobs : Jobs) (ts : Group) (u : ℕ) (d : Data) (state : FlowState) → fork_place image i ≡ from → first_child image i ≡ lo → from + 1 ≡ to →
      Lawful parent image costs rules Represents lo jobs ts u → any_ready ts ≡ true → FitsGroup parent (middle context) lo ts → Represents d state →
      Meets parent image costs rules Represents unnested context e to (turning image (plug context (Waits e from lo ts))) d u u (flow_settle i (work jobs state))
  meets_jobs context good e i lo from to jobs ts u d state is lowest end law busy fit rep =
      meets_group parent image costs rules Represents context e from lo good i to _ d u (work jobs state) is lowest end (
      group_runs parent image costs rules Represents context e from lo good jobs ts no_more lo u d state (add-zero lo) law refl busy tt fit rep
      )

module _ (parent : ℕ → ℕ) (image : Parts) (costs : List ℕ) {Data : Type 0} (rules : Rules Data) (Represents : Data → FlowState → Type 0) (known : Flows) (weak : ℕ → Bool) (sizes : Sizes)
    (HasSteps : List Step → ℕ → ℕ → Type 0) (HasTest : Test → ℕ → ℕ → ℕ → Type 0) (placing : Placing) (laws : Laws image costs rules Represents sizes HasSteps HasTest) where
  -- the threads of a fork
  begins-lawful : (fs : List ℕ) (c : ℕ) → AllStart parent image costs rules Represents known sizes placing c fs →
      Lawful parent image costs rules Represents c (begins known fs) (children image c (length fs)) (total sizes fs)
  begins-lawful [] c are = tt
  begins-lawful (f ∷ fs) c are = (refl, (sizes.threads f, total sizes fs, omega arith, are.0, begins-lawful fs (c + 1) are.1))

  mutual
    pub goes : (n : Node) (s : ℕ) (a : List ℕ) (nest : Nesting) (from to : ℕ) → Laid parent image known weak HasSteps HasTest placing s n a from to → Room parent image costs rules Represents known sizes placing n nest →
        Goes parent image costs rules Represents s a nest from to (through sizes n) (reach sizes n) (go known n)
    goes (straight p) s a nest from to laid room context e stale d state good slot fits rep =
        let j = laws.steps p from to (middle context) (unit_at image nest (plug context (Leaf e (Running stale)))) d state laid rep in
        record { stale = stale; after = j.after; charge = j.charge; count = j.count; steps = j.steps; represents = j.represents; within = j.within }
    goes (sequence nodes) s a nest from to laid room context e stale d state good slot fits rep = goes_all nodes s a nest from to laid room context e stale d state good slot fits rep
    goes (branch t x y) s a nest from to laid room context e stale d state good slot fits rep =
        let u = max (through sizes x + 2) (through sizes y) in
        let v = max (reach sizes x) (reach sizes y) in
        let h = laws.test t from laid.0 laid.2 (middle context) (unit_at image nest (plug context (Leaf e (Running stale)))) d state laid.3 rep in
        meets_test parent image costs rules Represents nest context e to laid.0 laid.2 (middle context) (unit_at image nest (plug context (Leaf e (Running stale)))) _ d (decides t state) (tested t state) (sizes.test_words t) u v (go known x (tested t state)) (go known y (tested t state)) h
        (λ d1 rep1. meets_more parent image costs rules Represents nest context e to _ d1 (through sizes x + 2) (reach sizes x) u v (go known x (tested t state)) (omega arith) (omega arith) (
        meets_jump parent image costs rules Represents nest context e laid.1 laid.2 to _ d1 (through sizes x) (reach sizes x) (go known x (tested t state)) laid.5 (goes x s a nest laid.0 laid.1 laid.4 room.0 context e stale d1 (tested t state) good slot fits rep1)
        ))
        (λ d1 rep1. meets_more parent image costs rules Represents nest context e to _ d1 (through sizes y) (reach sizes y) u v (go known y (tested t state)) (omega arith) (omega arith) (goes y s a nest laid.2 to laid.6 room.1 context e stale d1 (tested t state) good slot fits rep1))
    goes (turns None body) s a nest from to laid room context e stale d state good slot fits rep =
        let l = laid.5 state in
        meets_more parent image costs rules Represents nest context e to _ d 0 (reach sizes body) (option_words sizes None) (option_words sizes None + reach sizes body) (then_do (go known body state) (and (turns None body) no_nodes) Through) (omega arith) (omega arith) (
        meets_lasting parent image costs rules Represents nest context e laid.1 to _ d (through sizes body) (reach sizes body) 0 (and (turns None body) no_nodes) (go known body state) Through l.0 l.1 l.2 (
        subst (λ p. Meets parent image costs rules Represents nest context e laid.1 (placed image nest context e stale p) d (through sizes body) (reach sizes body) (go known body state)) (sym laid.2) (
        goes body s a nest laid.0 laid.1 laid.3 room context e stale d state good slot fits rep
        )
        )
        )
    goes (turns (Some t) body) s a nest from to laid room context e stale d state good slot fits rep =
        let st = tested t state in
        let l = laid.5 st in
        let o = then_do (go known body st) (and (turns (Some t) body) no_nodes) Through in
        let h = laws.test t from laid.0 to (middle context) (unit_at image nest (plug context (Leaf e (Running stale)))) d state laid.2 rep in
        meets_more parent image costs rules Represents nest context e to _ d (sizes.test_words t + 0) (sizes.test_words t + reach sizes body) (sizes.test_words t) (sizes.test_words t + reach sizes body) (if decides t state then o else Through st) (omega arith) (omega arith) (
        meets_test parent image costs rules Represents nest context e to laid.0 to (middle context) (unit_at image nest (plug context (Leaf e (Running stale)))) _ d (decides t state) st (sizes.test_words t) 0 (reach sizes body) o (Through st) h
        (λ d1 rep1. meets_lasting parent image costs rules Represents nest context e laid.1 to _ d1 (through sizes body) (reach sizes body) 0 (and (turns (Some t) body) no_nodes) (go known body st) Through l.0 l.1 l.2 (goes body s a nest laid.0 laid.1 laid.3 room context e stale d1 st good slot fits rep1))
        (λ d1 rep1. at_once image costs rules Represents _ d1 st 0 _ stale refl rep1)
        )
    goes (bounded n None body) s a nest from to laid room context e stale d state good slot fits rep =
        let w = through sizes body + 2 in
        let f : FlowState → End = go known body in
        go_on_to image costs rules Represents _ d _ _ state _ 2 (n * (w + 1) + 1) _ (omega arith) (opens parent image costs rules Represents nest context good e n from laid.0 stale d state room.0 laid.4 rep) (
        λ q x rep1. turns_plain parent image costs rules Represents nest context good e f laid.0 laid.1 to w laid.5 (
        λ k q1 d1 st rep2. meets_jump parent image costs rules Represents (with_counter nest k) context e laid.2 laid.3 laid.0 _ d1 (through sizes body) (reach sizes body) (Through (state_of (f st))) laid.8 (
        subst (λ o. Meets parent image costs rules Represents (with_counter nest k) context e laid.2 (placed image (with_counter nest k) context e q1 laid.1) d1 (through sizes body) (reach sizes body) o) (laid.10 st) (
        goes body s a (with_counter nest k) laid.1 laid.2 laid.7 (room.1 k) context e q1 d1 st good slot fits rep2
        )
        )
        ) laid.6 n q x state rep1
        )
    goes (bounded n (Some t) body) s a nest from to laid room context e stale d state good slot fits rep =
        let w = through sizes body + 2 in
        let f : FlowState → End = go known body in
        go_on_to image costs rules Represents _ d _ _ state _ 2 (n * (sizes.test_words t + w + 1) + (sizes.test_words t + 2)) _ (omega arith) (opens parent image costs rules Represents nest context good e n from laid.0 stale d state room.0 laid.4 rep) (
        λ q x rep1. turns_tested parent image costs rules Represents nest context good e f laid.0 laid.1 to w laid.5 (
        λ k q1 d1 st rep2. meets_jump parent image costs rules Represents (with_counter nest k) context e laid.2 laid.3 laid.0 _ d1 (through sizes body) (reach sizes body) (Through (state_of (f st))) laid.8 (
        subst (λ o. Meets parent image costs rules Represents (with_counter nest k) context e laid.2 (placed image (with_counter nest k) context e q1 laid.1) d1 (through sizes body) (reach sizes body) o) (laid.10 st) (
        goes body s a (with_counter nest k) laid.1 laid.2 laid.7 (room.1 k) context e q1 d1 st good slot fits rep2
        )
        )
        ) t laid.3 (sizes.test_words t) laid.9.0 laid.9.1 (
        λ k q1 d1 st rep2. laws.test t (laid.0 + 1) laid.1 laid.3 (middle context) (unit_at image (with_counter nest k) (plug context (Leaf e (Running q1)))) d1 st laid.6 rep2
        ) n q x state rep1
        )
    goes (call f) s a nest from to laid room context e stale d state good slot fits rep =
        same_target image costs rules Represents _ d _ _ (state_of (flow_at known f state)) _ (λ q. ap (placed image nest context e q) laid.1) (
        after_step image costs rules Represents _ (placed image (with_link nest (from + 1)) context e stale (placing.entrance f)) d d (cost_of costs class.Call) _ (state_of (flow_at known f state)) (sizes.routines f) (1 + sizes.routines f) (call-step image costs rules parent context good e stale d nest from (placing.entrance f) room.0 laid.0) (omega arith) (
        room.1 (from + 1) context e stale d state good rep
        )
        )
    goes (pause i) s a nest from to laid room context e stale d state good slot fits rep =
        subst (λ b. Halts parent image costs rules Represents (placed image b context e stale from) d context e (at_pause i) state 1) (sym room) (
        record {
          tree = Leaf e (Pausing from);
          stands = ap (λ p. Leaf e (Pausing p)) (sym (ap place_in laid.1));
          fits = tt;
          comes = after_step image costs rules Represents _ (turning image (rested context (Leaf e (Pausing from)))) d d (cost_of costs class.Eot) _ state 0 1
              (eot-step image costs rules parent context good e stale d from i a laid.0 (subst (λ k. slice_get image.pauses i ≡ Some (record { at = from; slot = k; stack = a })) (sym slot) laid.1) fits) (omega arith)
              (at_once image costs rules Represents _ d state 0 _ stale refl rep);
        }
        )
    goes (fork i fs) s a nest from to laid room context e stale d state good slot fits rep =
        let lo = laid.0 in
        let u = total sizes fs in
        let o = flow_settle i (work (begins known fs) state) in
        let lowest : first_child image i ≡ lo = first-is image i from s lo (length fs) a laid.2 laid.1 in
        let all : AllStart parent image costs rules Represents known sizes placing lo fs = subst (λ k. AllStart parent image costs rules Represents known sizes placing k fs) lowest room.1 in
        let are : AreChildren parent (middle context) lo (length fs) = subst (λ k. AreChildren parent k lo (length fs)) (sym slot) laid.4.2 in
        subst (λ b. Meets parent image costs rules Represents b context e to (placed image b context e stale from) d (1 + u) (1 + u) o) (sym room.0) (
        meets_step parent image costs rules Represents unnested context e to _ (turning image (plug context (Waits e from lo (children image lo (length fs))))) d d (cost_of costs class.Fork) u u (1 + u) (1 + u) o
        (fork-step image costs rules parent context good e stale d from i lo (length fs) a laid.1 (subst (λ k. slice_get image.forks i ≡ Some (record { at = from; slot = k; stack = a })) (sym slot) laid.2) fits laid.4.0 laid.4.1 are) (omega arith) (omega arith) (
        meets_jobs parent image costs rules Represents context good e i lo from to (begins known fs) (children image lo (length fs)) u d state (ap place_in laid.2) lowest laid.3 (begins-lawful fs lo all) (children-ready image lo (length fs) laid.4.0) (children-fit parent image (middle context) lo (length fs) are) rep
        )
        )
    goes (guard j body) s a nest from to laid room context e stale d state good slot fits rep =
        let few : length e < 8 = let n : length e ≡ length a = sym (numbers-length e) ∙ ap length fits in omega (arith, n, laid.6) in
        let e' = e ++ watch image j false false ∷ [] in
        let calm : Room parent image costs rules Represents known sizes placing body unnested = subst (Room parent image costs rules Represents known sizes placing body) room.0 room.1 in
        subst (λ b. Meets parent image costs rules Represents b context e to (placed image b context e stale from) d (through sizes body + 2) (reach sizes body + 1) (in_guard j (go known body state))) (sym room.0) (
        meets_step parent image costs rules Represents unnested context e to _ (placed image unnested context e' stale (from + 1)) d d (cost_of costs class.Abrt) (through sizes body + 1) (reach sizes body) (through sizes body + 2) (reach sizes body + 1) (in_guard j (go known body state))
        (enter-step image costs rules parent context good e stale d from j (weak j) laid.4.0 to laid.1 laid.4.1 few) (omega arith) (omega arith) (
        meets_guard parent image costs rules Represents context good e j laid.0 to _ d (through sizes body) (reach sizes body) (go known body state) laid.3 laid.5 (
        goes body s (a ++ j ∷ []) unnested (from + 1) laid.0 laid.2 calm context e' stale d state good slot (numbers-snoc e (watch image j false false) ∙ ap (λ x. x ++ j ∷ []) fits) rep
        )
        )
        )

    pub goes_all : (nodes : Nodes) (s : ℕ) (a : List ℕ) (nest : Nesting) (from to : ℕ) → LaidAll parent image known weak HasSteps HasTest placing s nodes a from to → RoomAll parent image costs rules Represents known sizes placing nodes nest →
        Goes parent image costs rules Represents s a nest from to (through_all sizes nodes) (reach_all sizes nodes) (go_all known nodes)
    goes_all no_nodes s a nest from to laid room context e stale d state good slot fits rep = at_once image costs rules Represents _ d state 0 _ stale (ap (placed image nest context e stale) (sym laid)) rep
    goes_all (and n nodes) s a nest from to laid room context e stale d state good slot fits rep =
        meets_then parent image costs rules Represents nest context e laid.0 to _ d (through sizes n) (reach sizes n) (through_all sizes nodes) (reach_all sizes nodes) nodes (go known n state) (go_all known nodes) (goes n s a nest from laid.0 laid.1 room.0 context e stale d state good slot fits rep) (
        λ q d1 state1 rep1. goes_all nodes s a nest laid.0 to laid.2 room.1 context e q d1 state1 good slot fits rep1
        )

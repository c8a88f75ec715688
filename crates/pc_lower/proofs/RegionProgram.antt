-- The functions of a program, each after those that it calls; the threads, each after those that it starts.
use Rattle.std.proofs.Common.{◌≡◌, ℕ, zero, suc, ◌+◌, ◌<◌, ◌≤◌, ◌++◌, max, Bool, IsTrue, List, [], ◌∷◌, length, length-append, refl, sym, ap, ◌∙◌, subst, arith}
use Rattle.mb_isa.specs.declared.Class.TheVariants as class
use Rattle.mb_isa.specs.Costs.{cost_of}
use Rattle.mb_pfu.specs.Contexts.{middle}
use Rattle.pt_image.specs.declared.Parts.{Parts}
use Rattle.mb_isa.specs.Step.{Rules}
use Rattle.mb_isa.specs.Free.{numbers_of}
use Rattle.pc_lower.specs.declared.nodes.Step.{Step}
use Rattle.pc_lower.specs.declared.nodes.Test.{Test}
use Rattle.pc_lower.specs.Flow.{Node, Nodes, straight, sequence, branch, turns, bounded, call, pause, fork, guard, no_nodes, and, Through, state_of, Flows, flow_at, go, flows_of, State as FlowState}
use Rattle.pc_lower.specs.Residuals.{body_at}
use Rattle.pc_lower.specs.Slots.{AreChildren, Runs}
use Rattle.pc_lower.specs.Places.{first_child, slot_start}
use Rattle.pc_lower.specs.Laid.{Placing, Laid, LaidAll}
use Rattle.pc_lower.specs.StepCounts.{Sizes, through, reach}
use Rattle.pc_lower.specs.Law.{Nesting, unnested, with_link, with_counter, placed, Meets, ThreadMeets, Starts, AllStart, Returns, Room, RoomAll, Laws, IsPart}
use Rattle.pc_lower.specs.Program.{IsEarlier, AreEarlier, HasRoom, HaveRoom, IsCompiled}
use Rattle.pc_lower.proofs.Slots.{other-of}
use Rattle.pc_lower.proofs.StepFacts.{turn-is}
use Rattle.pc_lower.proofs.Calling.{first-is, ret-step}
use Rattle.pc_lower.proofs.Paths.{after_step, go_on_to, at_once}
use Rattle.pc_lower.proofs.RegionGoing.{goes}
use Rattle.pc_lower.proofs.Resuming.{ends_thread, ends_more}
use Rattle.pc_lower.proofs.Earlier.{earlier, means}

no-length : (xs : List ℕ) → length xs ≡ 0 → xs ≡ []
no-length [] h = refl
no-length (x ∷ xs) h = absurd (omega arith)

unnested-is : (nest : Nesting) → length nest.links ≡ 0 → length nest.counters ≡ 0 → nest ≡ unnested
unnested-is nest h k = ap (λ l. record { links = l; counters = nest.counters }) (no-length nest.links h) ∙ ap (λ c. record { links = []; counters = c }) (no-length nest.counters k)

one-more : (xs : List ℕ) (x : ℕ) → length (xs ++ x ∷ []) ≡ length xs + 1
one-more xs x = length-append xs (x ∷ [])

first-child : (parent : ℕ → ℕ) (s c n : ℕ) → AreChildren parent s c n → 1 ≤ n → s < c
first-child parent s c zero are le = absurd (omega arith)
first-child parent s c (suc n) are le = are.0.1

module _ (parent : ℕ → ℕ) (image : Parts) (costs : List ℕ) {Data : Type 0} (rules : Rules Data) (Represents : Data → FlowState → Type 0) (weak : ℕ → Bool) (sizes : Sizes)
    (HasSteps : List Step → ℕ → ℕ → Type 0) (HasTest : Test → ℕ → ℕ → ℕ → Type 0) (placing : Placing) (laws : Laws image costs rules Represents sizes HasSteps HasTest) (bodies : List Node) where
  abbrev known : Flows
  known = flows_of bodies

  -- the routines below a number come back, where there is room
  abbrev ReturnsBelow : ℕ → Type 0
  ReturnsBelow below =
      (f : ℕ) (nest : Nesting) → f < below → IsTrue (placing.called f) → length nest.links + 1 + placing.links f ≤ 16 → length nest.counters + placing.counters f ≤ 136 →
      Returns parent image costs rules Represents known sizes placing f nest

  -- room from numbers
  module _ (below s : ℕ) (returns : ReturnsBelow below) (starts : (c f : ℕ) → s < c → c < length image.slots → placing.thread c ≡ f → Starts parent image costs rules Represents known sizes placing c f) where
    all_start : (fs : List ℕ) (c : ℕ) → s < c → c + length fs ≤ length image.slots → Runs placing.thread c fs → AllStart parent image costs rules Represents known sizes placing c fs
    all_start [] c lt le run = tt
    all_start (f ∷ fs) c lt le run = (starts c f lt (omega arith) run.0, all_start fs (c + 1) (omega arith) (omega arith) run.1)

    mutual
      pub room_of : (n : Node) (nest : Nesting) (l k : ℕ) (a : List ℕ) (from to : ℕ) → length nest.links ≡ l → length nest.counters ≡ k → HasRoom placing n l k → IsEarlier below n → Laid parent image known weak HasSteps HasTest placing s n a from to →
          Room parent image costs rules Represents known sizes placing n nest
      room_of (straight q) nest l k a from to el ek space early laid = tt
      room_of (sequence nodes) nest l k a from to el ek space early laid = all_room_of nodes nest l k a from to el ek space early laid
      room_of (branch t x y) nest l k a from to el ek space early laid =
          (room_of x nest l k a laid.0 laid.1 el ek space.0 early.0 laid.4, room_of y nest l k a laid.2 to el ek space.1 early.1 laid.6)
      room_of (turns test body) nest l k a from to el ek space early laid = room_of body nest l k a laid.0 laid.1 el ek space early laid.3
      room_of (bounded n test body) nest l k a from to el ek space early laid =
          (other-of (length nest.counters) 136 (λ h. omega (arith, h, ek, space.0)), λ i. room_of body (with_counter nest i) l (k + 1) a laid.1 laid.2 el (one-more nest.counters i ∙ ap (λ x. x + 1) ek) space.1 early laid.7)
      room_of (call f) nest l k a from to el ek space early laid =
          (other-of (length nest.links) 16 (λ h. omega (arith, h, el, space.1)), returns f nest early space.0 (omega (arith, el, space.1)) (omega (arith, ek, space.2)))
      room_of (pause i) nest l k a from to el ek space early laid = unnested-is nest (el ∙ space.0) (ek ∙ space.1)
      room_of (fork i fs) nest l k a from to el ek space early laid =
          let lowest : first_child image i ≡ laid.0 = first-is image i from s laid.0 (length fs) a laid.2 laid.1 in
          let above : s < laid.0 = first-child parent s laid.0 (length fs) laid.4.2 laid.4.0 in (
            unnested-is nest (el ∙ space.0) (ek ∙ space.1),
            subst (λ c. AllStart parent image costs rules Represents known sizes placing c fs) (sym lowest) (all_start fs laid.0 above laid.4.1 laid.4.3),
          )
      room_of (guard j body) nest l k a from to el ek space early laid =
          (unnested-is nest (el ∙ space.0) (ek ∙ space.1), room_of body nest l k (a ++ j ∷ []) (from + 1) laid.0 el ek space.2 early laid.2)

      all_room_of : (nodes : Nodes) (nest : Nesting) (l k : ℕ) (a : List ℕ) (from to : ℕ) → length nest.links ≡ l → length nest.counters ≡ k → HaveRoom placing nodes l k → AreEarlier below nodes → LaidAll parent image known weak HasSteps HasTest placing s nodes a from to →
          RoomAll parent image costs rules Represents known sizes placing nodes nest
      all_room_of no_nodes nest l k a from to el ek space early laid = tt
      all_room_of (and n nodes) nest l k a from to el ek space early laid =
          (room_of n nest l k a from laid.0 el ek space.0 early.0 laid.1, all_room_of nodes nest l k a laid.0 to el ek space.1 early.1 laid.2)

  module _ (main : ℕ) (compiled : IsCompiled parent image costs bodies weak sizes HasSteps HasTest placing main) where
    -- a routine starts no slot: in one after all others there is none to start
    returns_by : (fuel f : ℕ) → f < fuel → IsTrue (placing.called f) → (nest : Nesting) → length nest.links + 1 + placing.links f ≤ 16 → length nest.counters + placing.counters f ≤ 136 → Returns parent image costs rules Represents known sizes placing f nest
    returns_by zero f lt called nest ll kk back context e stale d state good rep = absurd (omega arith)
    returns_by (suc fuel) f lt called nest ll kk back context e stale d state good rep =
        let r = compiled.routines f called in
        let body = body_at bodies f in
        let far : ℕ = length image.slots in
        let inner = with_link nest back in
        let n : length inner.links ≡ length nest.links + 1 = one-more nest.links back in
        let a = numbers_of e in
        let room = room_of f far (λ g b below called' l k. returns_by fuel g (omega arith) called' b l k) (λ c g above below run. absurd (omega arith)) body inner (length nest.links + 1) (length nest.counters) a (placing.entrance f) r.stop n refl (r.room (length nest.links + 1) (length nest.counters) (omega arith) ll kk) (earlier bodies compiled.order f) (r.laid far a) in
        let u = through sizes body in
        let h = goes parent image costs rules Represents known weak sizes HasSteps HasTest placing laws body (middle context) a inner (placing.entrance f) r.stop (r.laid (middle context) a) room context e stale d state good refl refl rep in
        let end : go known body state ≡ Through (state_of (flow_at known f state)) = r.passes state ∙ ap (λ o. Through (state_of o)) (sym (means bodies compiled.order f state)) in
        let h' = subst (λ o. Meets parent image costs rules Represents inner context e r.stop (placed image inner context e stale (placing.entrance f)) d u (reach sizes body) o) end h in
        go_on_to image costs rules Represents _ d _ _ (state_of (flow_at known f state)) (state_of (flow_at known f state)) u 1 (sizes.routines f) (omega (arith, r.bound)) h' (
        λ q x rep1. after_step image costs rules Represents _ (placed image nest context e q back) x x (cost_of costs class.Ret) _ (state_of (flow_at known f state)) 0 1 (ret-step image costs rules parent context good e q x nest r.stop back r.stops) (omega arith) (
        at_once image costs rules Represents _ x (state_of (flow_at known f state)) 0 _ q refl rep1
        )
        )

    pub returns : (below : ℕ) → ReturnsBelow below
    returns below f nest lt called l k = returns_by below f lt called nest l k

    -- the words of function f in slot c, with room, where the slots above it start as they should
    part_by : (c f : ℕ) → c < length image.slots → placing.thread c ≡ f → ((k g : ℕ) → c < k → k < length image.slots → placing.thread k ≡ g → Starts parent image costs rules Represents known sizes placing k g) →
        IsPart parent image costs rules Represents known weak sizes HasSteps HasTest placing (body_at bodies f) c
    part_by c f lt run starts =
        let t = compiled.threads c f lt run in
        record {
          stop = t.stop;
          laid = t.laid;
          stops = t.stops;
          room = room_of f c (returns f) starts (body_at bodies f) unnested 0 0 [] (slot_start image c) t.stop refl refl t.room (earlier bodies compiled.order f) t.laid;
        }

    pub starts_by : (fuel c f : ℕ) → length image.slots ≤ c + fuel → c < length image.slots → placing.thread c ≡ f → Starts parent image costs rules Represents known sizes placing c f
    starts_by zero c f le lt run context d state good slot rep = absurd (omega arith)
    starts_by (suc fuel) c f le lt run context d state good slot rep =
        let t = compiled.threads c f lt run in
        let body = body_at bodies f in
        let part = part_by c f lt run (λ k g above below run'. starts_by fuel k g (omega arith) below run') in
        let u = through sizes body in
        let v = reach sizes body in
        let start = slot_start image c in
        let bound : max (u + 1) v ≤ sizes.threads f = omega (arith, t.through_bound, t.reach_bound) in
        subst (λ k. ThreadMeets parent image costs rules Represents context k d (sizes.threads f) (flow_at known f state)) (sym (turn-is parent image context good [] unnested start)) (
        ends_more parent image costs rules Represents context _ d (max (u + 1) v) (sizes.threads f) (flow_at known f state) bound (
        subst (λ o. ThreadMeets parent image costs rules Represents context (placed image unnested context [] start start) d (max (u + 1) v) o) (sym (means bodies compiled.order f state)) (
        ends_thread parent image costs rules Represents context good part.stop _ d u v (go known body state) part.stops (
        goes parent image costs rules Represents known weak sizes HasSteps HasTest placing laws body c [] unnested start part.stop part.laid part.room context [] start d state good slot refl rep
        )
        )
        )
        )

    pub parts : (c f : ℕ) → c < length image.slots → placing.thread c ≡ f → IsPart parent image costs rules Represents known weak sizes HasSteps HasTest placing (body_at bodies f) c
    parts c f lt run = part_by c f lt run (λ k g above below run'. starts_by (length image.slots) k g (omega arith) below run')

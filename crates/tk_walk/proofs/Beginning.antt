-- The configuration that a walk says, and the tick from it.
use Rattle.std.proofs.Common.{◌≡◌, ◌≢◌, ◌≤◌, ◌<◌, inl, inr, ℕ, suc, ◌+◌, ◌==◌, Bool, true, false, IsTrue, not, if◌then◌else◌, List, [], ◌∷◌, map, length, slice_index_or, Option, Some, None, refl, sym, ap, ◌∙◌, subst, is_some, arith, nat_lt}
use Rattle.std.specs.List.{range_with_len}
use Rattle.mb_pfu.specs.declared.parts.Slot.{Slot}
use Rattle.mb_pfu.specs.declared.parts.Slot.TheVariants.{Free as Unmet, Waiting as Waits_for}
use Rattle.mb_pfu.specs.declared.parts.Watch.{Watch}
use Rattle.mb_pfu.specs.Rows.{SlotRow, Report, ready, numbered, is_ready, is_free, renewed, or_else}
use Rattle.mb_pfu.specs.Tree.{Tree, Group, Leaf, Waits, no_more, member, Running, Pausing, Finished, size, slot_of_activity, spelled, spelled_group, has_ready, any_ready, report, report_among, reported_number, reported_state, slot_of, next_job, tally, IsSound, tests_begun, each_member}
use Rattle.mb_pfu.specs.Unit as unit
use Rattle.mb_pfu.proofs.Cases.{split, none-there}
use Rattle.mb_pfu.proofs.Frees.{taken-there}
use Rattle.mb_pfu.proofs.Laws.{is_in-ready}
use Rattle.mb_pfu.proofs.Sound.{few, tally-spelled}
use Rattle.mb_pfu.proofs.Trees.{is_in-report}
use Rattle.pt_image.specs.declared.Parts.{Parts}
use Rattle.mb_isa.specs.Control.{tests_on}
use Rattle.mb_isa.specs.Step.{samples_on}
use Rattle.mb_isa.specs.Tick.{Trapped, tick, run, base_of, begun}
use Rattle.mb_pfu.specs.declared.TrapKind.TheVariants.{Late}
use Rattle.mb_isa.specs.Free.{free, IsConfigured, IsConfiguration}
use Rattle.tk_cert.specs.declared.cert.State.{State}
use Rattle.tk_cert.specs.declared.cert.State.TheVariants.{Start}
use Rattle.tk_paths.specs.Walks.{state_of, states_of}
use Rattle.tk_walk.specs.Building.{state_at, put, IsStanding, IsWhole, IsFront, resting, resting_in, IsBuilding, IsRested, IsBuilt, IsSaid, IsBegun}
use Rattle.tk_walk.proofs.Standings.{put-at, resting-put, rest-loose}
use Rattle.tk_walk.proofs.Fronts.{meets, front-whole, free-uncounted}
use Rattle.tk_walk.proofs.Targets.{said-whole, said-first}

-- whether a slot is ready is whether one is next
pub job-ready : (t : Tree) (s : ℕ) → Some s ≡ next_job t → has_ready t ≡ true
job-ready t s h = sym (is_in-ready 0 t) ∙ is_in-report ready 0 t ∙ by (report ready 0 t) h
  where
    by : (o : Option Report) → Some s ≡ reported_number o → is_some o ≡ true
    by None e = cc
    by (Some x) e = refl

pub no-job : (t : Tree) → None ≡ next_job t → has_ready t ≡ false
no-job t h = sym (is_in-ready 0 t) ∙ is_in-report ready 0 t ∙ by (report ready 0 t) h
  where
    by : (o : Option Report) → None ≡ reported_number o → is_some o ≡ false
    by None e = refl
    by (Some x) e = cc

-- at most 64 slots come to rest, and fewer where one is ready
mutual
  rest-rows : (level k : ℕ) (t : Tree) (rows : List SlotRow) → resting t + length rows ≤ length (spelled level k t rows)
  rest-rows level k (Leaf watches (Running place)) rows = omega arith
  rest-rows level k (Leaf watches (Pausing place)) rows = omega arith
  rest-rows level k (Leaf watches Finished) rows = omega arith
  rest-rows level k (Waits watches at lo group) rows = omega (arith, rest-rows_in (level + 1) lo group rows)

  rest-rows_in : (level k : ℕ) (ts : Group) (rows : List SlotRow) → resting_in ts + length rows ≤ length (spelled_group level k ts rows)
  rest-rows_in level k no_more rows = omega arith
  rest-rows_in level k (member t ts) rows = omega (arith, rest-rows level k t (spelled_group level (k + 1) ts rows), rest-rows_in level (k + 1) ts rows)

mutual
  ready-rows : (level k : ℕ) (t : Tree) (rows : List SlotRow) → has_ready t ≡ true → resting t + 1 + length rows ≤ length (spelled level k t rows)
  ready-rows level k (Leaf watches (Running place)) rows h = omega arith
  ready-rows level k (Leaf watches (Pausing place)) rows h = cc
  ready-rows level k (Leaf watches Finished) rows h = cc
  ready-rows level k (Waits watches at lo group) rows h = omega (arith, ready-rows_in (level + 1) lo group rows h)

  ready-rows_in : (level k : ℕ) (ts : Group) (rows : List SlotRow) → any_ready ts ≡ true → resting_in ts + 1 + length rows ≤ length (spelled_group level k ts rows)
  ready-rows_in level k no_more rows h = cc
  ready-rows_in level k (member t ts) rows h = split (has_ready t)
      (λ e. omega (arith, ready-rows level k t (spelled_group level (k + 1) ts rows) e, rest-rows_in level (k + 1) ts rows))
      (λ e. let h' : any_ready ts ≡ true = rw e at h in omega (arith, rest-rows level k t (spelled_group level (k + 1) ts rows), ready-rows_in level (k + 1) ts rows h'))

pub fewer : (t : Tree) → IsSound t → has_ready t ≡ true → resting t < 64
fewer t sound h =
    let all : length (spelled 0 0 t []) ≤ 64 =
    few (spelled 0 0 t []) (λ q. omega (arith, tally-spelled q 0 0 t [], sound.once q)) (λ q past. omega (arith, tally-spelled q 0 0 t [], sound.below q past)) in
    omega (arith, ready-rows 0 0 t [] h, all)

module _ (image : Parts) (states : List State) where
  -- no slot has come to rest
  pub building-init : (u : unit.State) (place : ℕ) → u ≡ record { slots = length image.slots; tree = Leaf [] (Running place); links = []; counters = [] } → IsBuilding image states u
  building-init u place e = subst (λ (x : unit.State). IsBuilding image states x) (sym e) (record { standing = refl; slots = refl; links = refl; counters = refl })

  pub front-init : (u : unit.State) (place : ℕ) → u ≡ record { slots = length image.slots; tree = Leaf [] (Running place); links = []; counters = [] } → (t : Tree) → IsFront u.tree t
  front-init u place e t = subst (λ (x : unit.State). IsFront x.tree t) (sym e) tt

  -- and one more has
  pub record Further (s : ℕ) (old new : unit.State) : Type 0 where
    pub building : IsBuilding image states new
    pub fronts : (t : Tree) → IsWhole image states t → IsFront old.tree t → IsFront new.tree t
    pub more : resting new.tree ≡ resting old.tree + 1

  pub further : (s : ℕ) (old new : unit.State) → IsBuilding image states old → IsTrue (is_ready (slot_of s old.tree)) → IsRested image states s old true new → Further s old new
  further s old new building ready-now r =
      let tree : new.tree ≡ put s r.0 0 old.tree = ap (λ (u : unit.State). u.tree) r.2 in
      let moved = put-at image states s r.0 (λ u. r.0) (λ u. u) (λ p. refl) (λ k watches at lo group h. refl) r.1.standing 0 old.tree building.standing ready-now in
      record {
        building = record {
          standing = subst (λ (t : Tree). IsStanding image states 0 t) (sym tree) moved.1;
          slots = ap (λ (u : unit.State). u.slots) r.2 ∙ building.slots;
          links = ap (λ (u : unit.State). u.links) r.2 ∙ building.links;
          counters = ap (λ (u : unit.State). u.counters) r.2 ∙ building.counters;
        };
        fronts = λ t whole front.
            let m = meets image states s 0 old.tree t front whole.target ready-now in
            subst (λ (x : Tree). IsFront x t) (sym tree) (m.becomes r.0 (r.1.front m.there m.target));
        more = ap resting tree ∙ resting-put s r.0 0 old.tree ready-now ∙ ap (λ n. resting old.tree + n) r.1.one;
      }

-- flags change no slot's state
state-if : (b : Bool) (k : ℕ) (slot : Slot) (some more : List Watch) (r r' : Option Report) → reported_state r ≡ reported_state r' → reported_state (if b then Some (k, slot, some) else r) ≡ reported_state (if b then Some (k, slot, more) else r')
state-if true k slot some more r r' h = refl
state-if false k slot some more r r' h = h

size-each : (ts : Group) → size (each_member (map renewed) (λ x. x) ts) ≡ size ts
size-each no_more = refl
size-each (member t ts) = ap (λ n. n + 1) (size-each ts)

some-if : (b : Bool) (k : ℕ) (slot : Slot) (some more : List Watch) (r r' : Option Report) → is_some r ≡ is_some r' → is_some (if b then Some (k, slot, some) else r) ≡ is_some (if b then Some (k, slot, more) else r')
some-if true k slot some more r r' h = refl
some-if false k slot some more r r' h = h

or-states : (a b c d : Option Report) → is_some a ≡ is_some c → reported_state a ≡ reported_state c → reported_state b ≡ reported_state d → reported_state (or_else a b) ≡ reported_state (or_else c d)
or-states None b None d s e f = f
or-states None b (Some y) d s e f = cc
or-states (Some x) b None d s e f = cc
or-states (Some x) b (Some y) d s e f = e

or-some : (a b c d : Option Report) → is_some a ≡ is_some c → is_some b ≡ is_some d → is_some (or_else a b) ≡ is_some (or_else c d)
or-some None b None d s e = e
or-some None b (Some y) d s e = cc
or-some (Some x) b None d s e = cc
or-some (Some x) b (Some y) d s e = refl

abbrev Alike : Option Report → Option Report → Type 0
Alike a b = (is_some a ≡ is_some b) × (reported_state a ≡ reported_state b)

mutual
  begun-alike : (q k : ℕ) (t : Tree) → Alike (report (numbered q) k (tests_begun t)) (report (numbered q) k t)
  begun-alike q k (Leaf watches activity) = (some-if (k == q) k (slot_of_activity activity) (map renewed watches) watches None None refl, state-if (k == q) k (slot_of_activity activity) (map renewed watches) watches None None refl)
  begun-alike q k (Waits watches at lo group) =
      let same = begun-alike_in q lo group in
      rw (size-each group) (
        some-if (k == q) k (Waits_for at lo (size group)) (map renewed watches) watches (report_among (numbered q) lo (each_member (map renewed) (λ x. x) group)) (report_among (numbered q) lo group) same.0,
        state-if (k == q) k (Waits_for at lo (size group)) (map renewed watches) watches (report_among (numbered q) lo (each_member (map renewed) (λ x. x) group)) (report_among (numbered q) lo group) same.1,
      )

  begun-alike_in : (q k : ℕ) (ts : Group) → Alike (report_among (numbered q) k (each_member (map renewed) (λ x. x) ts)) (report_among (numbered q) k ts)
  begun-alike_in q k no_more = (refl, refl)
  begun-alike_in q k (member t ts) =
      let first = begun-alike q k t in
      let more = begun-alike_in q (k + 1) ts in (
        or-some (report (numbered q) k (tests_begun t)) (report_among (numbered q) (k + 1) (each_member (map renewed) (λ x. x) ts)) (report (numbered q) k t) (report_among (numbered q) (k + 1) ts) first.0 more.0,
        or-states (report (numbered q) k (tests_begun t)) (report_among (numbered q) (k + 1) (each_member (map renewed) (λ x. x) ts)) (report (numbered q) k t) (report_among (numbered q) (k + 1) ts) first.0 first.1 more.1,
      )

slots-alike : (q : ℕ) (t u : Tree) → tests_begun t ≡ tests_begun u → slot_of q t ≡ slot_of q u
slots-alike q t u e = sym (begun-alike q 0 t).1 ∙ ap (slot_of q) e ∙ (begun-alike q 0 u).1

map-same : (f g : ℕ → State) → ((q : ℕ) → f q ≡ g q) → (ns : List ℕ) → map f ns ≡ map g ns
map-same f g e [] = refl
map-same f g e (n ∷ ns) = λ i. e n i ∷ map-same f g e ns i

pub states-alike : (a b : unit.State) → a.slots ≡ b.slots → tests_begun a.tree ≡ tests_begun b.tree → states_of a ≡ states_of b
states-alike a b e t =
    map-same (λ s. state_of (slot_of s a.tree)) (λ s. state_of (slot_of s b.tree)) (λ q. ap state_of (slots-alike q a.tree b.tree t)) (range_with_len 0 a.slots)
    ∙ ap (λ n. map (λ s. state_of (slot_of s b.tree)) (range_with_len 0 n)) e

begun-same : (a b : unit.State) → a.slots ≡ b.slots → a.links ≡ b.links → a.counters ≡ b.counters → tests_begun a.tree ≡ tests_begun b.tree → begun a ≡ begun b
begun-same a b s l c t = λ i. record { slots = s i; tree = t i; links = l i; counters = c i }

-- a slot that is free isn't counted
free-none : (q : ℕ) (t : Tree) → slot_of q t ≡ Unmet → tally q 0 t ≡ 0
free-none q t h =
    let gone : is_some (report (numbered q) 0 t) ≡ false = taken-there q t ∙ ap (λ s. not (is_free s)) h in
    free-uncounted q 0 t (none-there (report (numbered q) 0 t) gone)

module _ (image : Parts) (states : List State) (u : unit.State) (slots : u.slots ≡ length image.slots) (links : u.links ≡ []) (counters : u.counters ≡ []) (sound : IsSound u.tree) (others : (q : ℕ) → u.slots ≤ q → slot_of q u.tree ≡ Unmet) where
  configuration : IsConfigured image u.tree → IsConfiguration image u
  configuration tree = record {
    tree = tree;
    once = sound;
    within = λ q past. free-none q u.tree (others q (omega arith));
    slots = slots;
    links = links;
    counters = counters;
  }

  -- each configuration with these states has this tree, but for what is fired, aged or due
  abbrev IsOne : Type 0
  IsOne = (other : unit.State) → IsSaid image states other → tests_begun other.tree ≡ tests_begun u.tree

  pub begins : IsConfigured image u.tree → IsOne → states ≡ states_of u → IsBegun image states (Some u)
  begins tree one said = (
    record { configuration = configuration tree; states_are = said },
    λ other h. begun-same other u (h.configuration.slots ∙ sym slots) (h.configuration.links ∙ sym links) (h.configuration.counters ∙ sym counters) (one other h),
  )

  pub begins-not : IsOne → (states ≡ states_of u → ⊥) → IsBegun image states None
  begins-not one not-said = λ other h. not-said (h.states_are ∙ states-alike other u (h.configuration.slots ∙ sym slots) (one other h))

-- slot 0 is at its start
pub one-first : (image : Parts) (states : List State) (u : unit.State) → state_at states 0 ≡ Start → u.tree ≡ Leaf [] (Running (slice_index_or image.slots 0 0)) → (other : unit.State) → IsSaid image states other → tests_begun other.tree ≡ tests_begun u.tree
one-first image states u start e other h = ap tests_begun (said-first image states other h start ∙ sym e)

-- or it isn't, and all slots have come to rest
pub one-later : (image : Parts) (states : List State) (u : unit.State) → state_at states 0 ≢ Start → has_ready u.tree ≡ false → ((t : Tree) → IsWhole image states t → IsFront u.tree t) → (other : unit.State) → IsSaid image states other → tests_begun other.tree ≡ tests_begun u.tree
one-later image states u later quiet fronts other h = front-whole u.tree other.tree quiet (fronts other.tree (said-whole image states other h later))

-- the first configuration
module _ (image : Parts) (states : List State) (u : unit.State) (place : ℕ) (is : u ≡ record { slots = length image.slots; tree = Leaf [] (Running place); links = []; counters = [] }) (at : place ≡ slice_index_or image.slots 0 0) (start : state_at states 0 ≡ Start) (sound : IsSound u.tree) (others : (q : ℕ) → u.slots ≤ q → slot_of q u.tree ≡ Unmet) where
  tree-is : u.tree ≡ Leaf [] (Running (slice_index_or image.slots 0 0))
  tree-is = ap (λ (x : unit.State). x.tree) is ∙ ap (λ n. Leaf [] (Running n)) at

  pub first-begins : states ≡ states_of u → IsBegun image states (Some u)
  first-begins said = begins image states u (ap (λ (x : unit.State). x.slots) is) (ap (λ (x : unit.State). x.links) is) (ap (λ (x : unit.State). x.counters) is) sound others (inl tree-is) (one-first image states u start tree-is) said

  pub first-not : (states ≡ states_of u → ⊥) → IsBegun image states None
  first-not not-said = begins-not image states u (ap (λ (x : unit.State). x.slots) is) (ap (λ (x : unit.State). x.links) is) (ap (λ (x : unit.State). x.counters) is) sound others (one-first image states u start tree-is) not-said

-- a later one
module _ (image : Parts) (states : List State) (u : unit.State) (later : state_at states 0 ≢ Start) (built : IsBuilt image states (Some u)) (sound : IsSound u.tree) (others : (q : ℕ) → u.slots ≤ q → slot_of q u.tree ≡ Unmet) where
  pub later-begins : states ≡ states_of u → IsBegun image states (Some u)
  later-begins said = begins image states u built.0.slots built.0.links built.0.counters sound others (inr (rest-loose image states 0 u.tree built.0.standing built.1)) (one-later image states u later built.1 built.2) said

  pub later-not : (states ≡ states_of u → ⊥) → IsBegun image states None
  later-not not-said = begins-not image states u built.0.slots built.0.links built.0.counters sound others (one-later image states u later built.1 built.2) not-said

pub none-later : (image : Parts) (states : List State) → state_at states 0 ≢ Start → ((t : Tree) → IsWhole image states t → ⊥) → IsBegun image states None
none-later image states later none = λ other h. none other.tree (said-whole image states other h later)

-- a tick is that of all units that begin alike
pub tick-alike : (image : Parts) (costs : List ℕ) (most : ℕ) (a b : unit.State) (choices : List Bool) → begun a ≡ begun b → tick free image costs most a choices ≡ tick free image costs most b choices
tick-alike image costs most a b choices e =
    ap (λ (x : unit.State). if nat_lt most (base_of image costs) then Trapped Late 0 0 else run free image costs (suc most) most (base_of image costs) (tests_on x) (samples_on free x choices)) e

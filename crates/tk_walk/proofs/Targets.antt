-- A configuration with the states of a walk rests as they say.
use Rattle.std.proofs.Common.{◌≡◌, ◌≤◌, ◌<◌, inl, inr, ⊎_elim, ℕ, zero, suc, ◌+◌, ◌==◌, Bool, true, false, ◌||◌, if◌then◌else◌, List, [], map, length, slice_index_or, Option, Some, None, refl, sym, ap, ◌∙◌, subst, arith}
use Rattle.std.specs.List.{range_with_len}
use Rattle.mb_pfu.specs.declared.parts.Slot.{Slot}
use Rattle.mb_pfu.specs.declared.parts.Slot.TheVariants.{Waiting as Waits_for}
use Rattle.mb_pfu.specs.declared.parts.Watch.{Watch}
use Rattle.mb_pfu.specs.Rows.{Report, numbered}
use Rattle.mb_pfu.specs.Tree.{Tree, Group, Leaf, Waits, no_more, member, Running, Pausing, Finished, size, slot_of_activity, report, report_among, reported_state, slot_of, tally, tally_group, one}
use Rattle.mb_pfu.specs.Unit as unit
use Rattle.mb_pfu.proofs.Cases.{or_else-some}
use Rattle.mb_pfu.proofs.Firsts.{uncounted}
use Rattle.pt_image.specs.declared.Parts.{Parts}
use Rattle.mb_isa.specs.Free.{IsLoose, AreAtRest, HasLoose, IsConfigured}
use Rattle.tk_cert.specs.declared.cert.State.{State}
use Rattle.tk_cert.specs.declared.cert.State.TheVariants.{Start, Waiting, Ended}
use Rattle.tk_paths.specs.Walks.{state_of, states_of}
use Rattle.tk_walk.specs.Building.{state_at, is_loose, any_loose, IsTarget, AreTargets, IsWhole, IsSaid}
use Rattle.tk_walk.proofs.Standings.{any-more}
use Rattle.tk_walk.proofs.Fronts.{self, counted, below-by}

module _ (image : Parts) (states : List State) where
  abbrev mutual
    -- each slot of a tree has the state that is said
    AllSay : ℕ → Tree → Type 0
    AllSay k (Leaf watches activity) = state_at states k ≡ state_of (slot_of_activity activity)
    AllSay k (Waits watches at lo group) = (state_at states k ≡ Waiting at) × AllSayIn lo group

    AllSayIn : ℕ → Group → Type 0
    AllSayIn k no_more = Unit {0}
    AllSayIn k (member t ts) = AllSay k t × AllSayIn (k + 1) ts

  abbrev Says : ℕ → Option Report → Type 0
  Says q o = state_at states q ≡ state_of (reported_state o)

  here-says : (b : Bool) (k : ℕ) (slot : Slot) (watches : List Watch) (r : Option Report) → b ≡ true → Says k (if b then Some (k, slot, watches) else r) → state_at states k ≡ state_of slot
  here-says true k slot watches r e h = h
  here-says false k slot watches r e h = cc

  in-group : (b : Bool) (q : ℕ) (x : Report) (r : Option Report) (n : ℕ) → 1 ≤ n → one b + n ≤ 1 → Says q (if b then Some x else r) → Says q r
  in-group true q x r n some once h = absurd (omega arith)
  in-group false q x r n some once h = h

  mutual
    all-say : (k : ℕ) (t : Tree) → ((q : ℕ) → tally q k t ≤ 1) → ((q : ℕ) → 1 ≤ tally q k t → Says q (report (numbered q) k t)) → AllSay k t
    all-say k (Leaf watches activity) once h =
        here-says (k == k) k (slot_of_activity activity) watches None (self k) (h k (let e : one (k == k) ≡ 1 = rw (self k) refl in omega arith))
    all-say k (Waits watches at lo group) once h = (
      here-says (k == k) k (Waits_for at lo (size group)) watches (report_among (numbered k) lo group) (self k) (h k (let e : one (k == k) ≡ 1 = rw (self k) refl in omega arith)),
      all-say-in lo group (λ q. omega (arith, once q))
          (λ q some. in-group (k == q) q (k, Waits_for at lo (size group), watches) (report_among (numbered q) lo group) (tally_group q lo group) some (once q) (h q (omega arith))),
    )

    all-say-in : (k : ℕ) (ts : Group) → ((q : ℕ) → tally_group q k ts ≤ 1) → ((q : ℕ) → 1 ≤ tally_group q k ts → Says q (report_among (numbered q) k ts)) → AllSayIn k ts
    all-say-in k no_more once h = tt
    all-say-in k (member t ts) once h = (
      all-say k t (λ q. omega (arith, once q))
          (λ q some. subst (Says q) (or_else-some (report (numbered q) k t) (report_among (numbered q) (k + 1) ts) (counted q k t some)) (h q (omega arith))),
      all-say-in (k + 1) ts (λ q. omega (arith, once q))
          (λ q some.
          let gone : report (numbered q) k t ≡ None = uncounted q k t (omega (arith, once q)) in
          rw gone at (h q (omega arith))),
    )

  loose-state : (k : ℕ) (t : Tree) → IsLoose image k t → AllSay k t → is_loose (state_at states k) ≡ true
  loose-state k (Leaf watches (Running place)) h says = absurd h
  loose-state k (Leaf watches (Pausing place)) h says = ap is_loose says
  loose-state k (Leaf watches Finished) h says = absurd h
  loose-state k (Waits watches at lo group) h says = ap is_loose says.0

  or-first : (a b : Bool) → a ≡ true → (a || b) ≡ true
  or-first true b e = refl
  or-first false b e = cc

  or-second : (a b : Bool) → b ≡ true → (a || b) ≡ true
  or-second true b e = refl
  or-second false b e = e

  any-by : (k : ℕ) (ts : Group) → HasLoose image k ts → AllSayIn k ts → any_loose states k (size ts) ≡ true
  any-by k no_more h says = absurd h
  any-by k (member t ts) (inl h) says = any-more states k (size ts) ∙ or-first (is_loose (state_at states k)) (any_loose states (k + 1) (size ts)) (loose-state k t h says.0)
  any-by k (member t ts) (inr h) says = any-more states k (size ts) ∙ or-second (is_loose (state_at states k)) (any_loose states (k + 1) (size ts)) (any-by (k + 1) ts h says.1)

  ended-target : (k : ℕ) (t : Tree) → t ≡ Leaf [] Finished → AllSay k t → IsTarget image states k t
  ended-target k t e says =
      let a : state_at states k ≡ Ended = subst (λ (x : Tree). AllSay k x) e says in
      let there : IsTarget image states k (Leaf [] Finished) = (refl, a) in
      subst (λ (x : Tree). IsTarget image states k x) (sym e) there

  mutual
    loose-target : (k : ℕ) (t : Tree) → IsLoose image k t → AllSay k t → IsTarget image states k t
    loose-target k (Leaf watches (Running place)) h says = h
    loose-target k (Leaf watches (Pausing place)) h says = (h.0, h.1, says)
    loose-target k (Leaf watches Finished) h says = absurd h
    loose-target k (Waits watches at lo group) h says = (h.0, h.1, h.2, says.0, rest-targets lo group h.3 says.1, any-by lo group h.4 says.1)

    rest-targets : (k : ℕ) (ts : Group) → AreAtRest image k ts → AllSayIn k ts → AreTargets image states k ts
    rest-targets k no_more h says = tt
    rest-targets k (member t ts) h says = (⊎_elim (λ e. ended-target k t e says.0) (λ e. loose-target k t e says.0) h.0, rest-targets (k + 1) ts h.1 says.1)

-- the states of a unit, one by one
states-from : (f : ℕ → State) (from n q : ℕ) (other : State) → q < n → slice_index_or (map f (range_with_len from n)) q other ≡ f (from + q)
states-from f from zero q other h = absurd (omega arith)
states-from f from (suc n) zero other h = ap f (let e : from ≡ from + 0 = omega arith in e)
states-from f from (suc n) (suc q) other h = states-from f (from + 1) n q other (omega arith) ∙ ap f (let e : from + 1 + q ≡ from + suc q = omega arith in e)

states-past : (f : ℕ → State) (from n q : ℕ) (other : State) → n ≤ q → slice_index_or (map f (range_with_len from n)) q other ≡ other
states-past f from zero q other h = refl
states-past f from (suc n) zero other h = absurd (omega arith)
states-past f from (suc n) (suc q) other h = states-past f (from + 1) n q other (omega arith)

pub state-said : (u : unit.State) (q : ℕ) → q < u.slots → state_at (states_of u) q ≡ state_of (slot_of q u.tree)
state-said u q h = states-from (λ s. state_of (slot_of s u.tree)) 0 u.slots q _ h ∙ ap (λ n. state_of (slot_of n u.tree)) (let e : 0 + q ≡ q = omega arith in e)

module _ (image : Parts) (states : List State) (u : unit.State) (said : IsSaid image states u) where
  at-number : (q : ℕ) → 1 ≤ tally q 0 u.tree → state_at states q ≡ state_of (reported_state (report (numbered q) 0 u.tree))
  at-number q some =
      let low : q < length image.slots = below-by q (length image.slots) (tally q 0 u.tree) some (said.configuration.within q) in
      let within : q < u.slots = omega (arith, said.configuration.slots) in
      ap (λ x. state_at x q) said.states_are ∙ state-said u q within

  says : AllSay image states 0 u.tree
  says = all-say image states 0 u.tree said.configuration.once.once at-number

  -- where slot 0 isn't at its start
  pub said-whole : (state_at states 0 ≡ Start → ⊥) → IsWhole image states u.tree
  said-whole other = record {
    target = by said.configuration.tree;
    once = said.configuration.once;
    within = said.configuration.within;
  }
    where
      by : IsConfigured image u.tree → IsTarget image states 0 u.tree
      by (inl e) = absurd (other (let a : AllSay image states 0 (Leaf [] (Running (slice_index_or image.slots 0 0))) = subst (λ (t : Tree). AllSay image states 0 t) e says in a))
      by (inr (inl e)) = ended-target image states 0 u.tree e says
      by (inr (inr h)) = loose-target image states 0 u.tree h says

  -- where it is, the configuration is the first one
  pub said-first : state_at states 0 ≡ Start → u.tree ≡ Leaf [] (Running (slice_index_or image.slots 0 0))
  said-first start = by said.configuration.tree
    where
      loose-not : (t : Tree) → IsLoose image 0 t → AllSay image states 0 t → ⊥
      loose-not t h a = let e : is_loose (state_at states 0) ≡ true = loose-state image states 0 t h a in let e' : false ≡ true = ap is_loose (sym start) ∙ e in cc

      by : IsConfigured image u.tree → u.tree ≡ Leaf [] (Running (slice_index_or image.slots 0 0))
      by (inl e) = e
      by (inr (inl e)) = let a : AllSay image states 0 (Leaf [] Finished) = subst (λ (t : Tree). AllSay image states 0 t) e says in let e' : Start ≡ Ended = sym start ∙ a in cc
      by (inr (inr h)) = absurd (loose-not u.tree h says)

-- One slot comes to rest as its state says, or no whole tree goes on from here.
use Rattle.std.proofs.Common.{◌≡◌, ◌≢◌, ◌≤◌, ◌<◌, ℕ, zero, suc, ◌+◌, ◌==◌, Bool, true, false, IsTrue, not, ◌||◌, if◌then◌else◌, List, [], ◌∷◌, map, length, get_or, Some, None, Result, Ok, Err, refl, sym, ap, ◌∙◌, subst, arith}
use Rattle.std.specs.List.{AllByRecursion}
use Rattle.std.proofs.lemmas.Bool.Decides.{nat_tests}
use Rattle.mb_isa.specs.declared.Instr.TheVariants.{Fork}
use Rattle.mb_isa.specs.Candidates.{decoded}
use Rattle.mb_pfu.specs.declared.TrapKind.{TrapKind}
use Rattle.mb_pfu.specs.declared.TrapKind.TheVariants.{WrongPlace, TableFull}
use Rattle.mb_pfu.specs.declared.parts.Watch.{Watch}
use Rattle.mb_pfu.specs.Rows.{renewed, is_ready, is_free}
use Rattle.mb_pfu.specs.Tree.{Tree, Group, Leaf, Waits, Running, Pausing, Finished, size, settle, pause_at, finish_at, fork_at, relieved_tree, begun, slot_of, watches_of, tally, tally_group, one, paused, finished, forked, entered, is_busy, tests_begun}
use Rattle.mb_pfu.specs.Unit as unit
use Rattle.mb_pfu.specs.Unit.{is_nested}
use Rattle.mb_pfu.specs.Calls as call
use Rattle.mb_pfu.specs.Calls.{called, unless, with_tree}
use Rattle.mb_pfu.proofs.Keeps.{enter-states}
use Rattle.pt_image.specs.declared.Point.{Point}
use Rattle.pt_image.specs.declared.Parts.{Parts}
use Rattle.pt_image.specs.Listed.{is_listed}
use Rattle.mb_isa.specs.Free.{numbers_of, AreOfLines}
use Rattle.tk_cert.specs.declared.cert.State.{State}
use Rattle.tk_cert.specs.declared.cert.State.TheVariants.{Paused, Waiting, Ended}
use Rattle.tk_walk.specs.Listing.{IsTable, IsFound}
use Rattle.tk_walk.specs.Building.{state_at, is_loose, any_loose, entries, all_entered, put, IsFork, IsForkAt, IsStanding, AreStanding, IsTarget, IsWhole, IsFront, resting_in, IsBuilding, IsRested}
use Rattle.tk_walk.proofs.Listings.{listed_none}
use Rattle.tk_walk.proofs.Lines.{numbers-entries, relief-entries, entries-of-lines, renewed-lines, listed-one, listed-there}
use Rattle.tk_walk.proofs.Standings.{still, put-at, bare-at, each, entered-at, each-leaf}
use Rattle.tk_walk.proofs.Fronts.{Meets, meets, begun-fronts, children-free, group-within}

-- the unit's calls where no link or counter is there
plain : (u : unit.State) → u.links ≡ [] → u.counters ≡ [] → is_nested u ≡ false
plain u l c = λ i. not (length (l i) == 0) || not (length (c i) == 0)

answered : (r : Result unit.State TrapKind) (new x : unit.State) → r ≡ Ok x → {X : Type 0} → (result : Result X TrapKind) → r ≡ called result new → new ≡ x
answered r new x e (Err kind) h = let e' : Ok x ≡ Err kind = sym e ∙ h in cc
answered r new x e (Ok y) h = let e' : Ok x ≡ Ok new = sym e ∙ h in cc

pub pause-done : {X : Type 0} (u : unit.State) (s at : ℕ) (result : Result X TrapKind) (new : unit.State) → u.links ≡ [] → u.counters ≡ [] → call.pause u s at ≡ called result new → new ≡ with_tree (paused s at u.tree) u
pause-done u s at result new l c h = answered (call.pause u s at) new (with_tree (paused s at u.tree) u) (ap (λ b. unless b WrongPlace (Ok (with_tree (paused s at u.tree) u))) (plain u l c)) result h

finish-by : (u : unit.State) (s : ℕ) → is_nested u ≡ false → watches_of s u.tree ≡ [] → call.finish u s ≡ Ok (with_tree (finished s u.tree) u)
finish-by u s n bare = λ i. unless (n i || not (length (bare i) == 0)) WrongPlace (Ok (with_tree (finished s u.tree) u))

pub finish-done : {X : Type 0} (u : unit.State) (s : ℕ) (result : Result X TrapKind) (new : unit.State) → u.links ≡ [] → u.counters ≡ [] → watches_of s u.tree ≡ [] → call.finish u s ≡ called result new → new ≡ with_tree (finished s u.tree) u
finish-done u s result new l c bare h = answered (call.finish u s) new (with_tree (finished s u.tree) u) (finish-by u s (plain u l c) bare) result h

few-not : (n : ℕ) → n < 8 → (n == 8) ≡ false
few-not n h = grind (arith, nat_tests)

enter-by : (u : unit.State) (s : ℕ) (l : Watch) → is_nested u ≡ false → (length (watches_of s u.tree) == 8) ≡ false → call.enter u s l ≡ Ok (with_tree (entered s l u.tree) u)
enter-by u s l n few = λ i. unless (n i) WrongPlace (unless (few i) TableFull (Ok (with_tree (entered s l u.tree) u)))

pub enter-done : {X : Type 0} (u : unit.State) (s : ℕ) (l : Watch) (result : Result X TrapKind) (new : unit.State) → u.links ≡ [] → u.counters ≡ [] → length (watches_of s u.tree) < 8 → call.enter u s l ≡ called result new → new ≡ with_tree (entered s l u.tree) u
enter-done u s l result new lk c few h = answered (call.enter u s l) new (with_tree (entered s l u.tree) u) (enter-by u s l (plain u lk c) (few-not (length (watches_of s u.tree)) few)) result h

-- the children of a fork are still to come
begun-standing : (image : Parts) (states : List State) (k : ℕ) (starts : List ℕ) → AreStanding image states k (begun starts)
begun-standing image states k [] = tt
begun-standing image states k (start ∷ starts) = (refl, begun-standing image states (k + 1) starts)

size-begun : (starts : List ℕ) → size (begun starts) ≡ length starts
size-begun [] = refl
size-begun (start ∷ starts) = omega (arith, size-begun starts)

begun-resting : (starts : List ℕ) → resting_in (begun starts) ≡ 0
begun-resting [] = refl
begun-resting (start ∷ starts) = omega (arith, begun-resting starts)

busy-kept : (s : ℕ) (l : Watch) (t : Tree) (lo : ℕ) (starts : List ℕ) → is_busy lo starts (entered s l t) ≡ is_busy lo starts t
busy-kept s l t lo [] = refl
busy-kept s l t lo (start ∷ starts) = λ i. not (is_free (enter-states lo s l t i)) || busy-kept s l t (lo + 1) starts i

busy-all : (s : ℕ) (ws : List Watch) (t : Tree) (lo : ℕ) (starts : List ℕ) → is_busy lo starts (all_entered s ws t) ≡ is_busy lo starts t
busy-all s [] t lo starts = refl
busy-all s (l ∷ ls) t lo starts = busy-all s ls (entered s l t) lo starts ∙ busy-kept s l t lo starts

module _ (image : Parts) (states : List State) (s : ℕ) (old : unit.State) (building : IsBuilding image states old) (ready : IsTrue (is_ready (slot_of s old.tree))) where
  -- what stands at the end where the slot is
  at-end : (t : Tree) → IsWhole image states t → IsFront old.tree t → Meets image states s 0 old.tree t
  at-end t whole front = meets image states s 0 old.tree t front whole.target ready

  pub bare : watches_of s old.tree ≡ []
  bare = bare-at image states s 0 old.tree building.standing ready

  refused-by : ((u : Tree) → IsTarget image states s u → ⊥) → IsRested image states s old false old
  refused-by none = λ t whole front. none (at-end t whole front).there (at-end t whole front).target

  -- a state in which no slot rests
  pub never : is_loose (state_at states s) ≡ false → state_at states s ≢ Ended → (new : unit.State) → IsRested image states s old false new
  never calm other new = refused-by none
    where
      none : (u : Tree) → IsTarget image states s u → ⊥
      none (Leaf watches (Running place)) h = h
      none (Leaf watches (Pausing place)) h = let e : false ≡ true = sym calm ∙ ap is_loose h.2 in cc
      none (Leaf watches Finished) h = other h.1
      none (Waits watches at lo group) h = let e : false ≡ true = sym calm ∙ ap is_loose h.3 in cc

  -- it ends
  ended-front : state_at states s ≡ Ended → (u : Tree) → IsTarget image states s u → IsFront (Leaf [] Finished) u
  ended-front state (Leaf watches (Running place)) h = absurd h
  ended-front state (Leaf watches (Pausing place)) h = let e : Ended ≡ Paused place = sym state ∙ h.2 in cc
  ended-front state (Leaf watches Finished) h = ap (λ (ws : List Watch). tests_begun (Leaf ws Finished)) h.0
  ended-front state (Waits watches at lo group) h = let e : Ended ≡ Waiting at = sym state ∙ h.3 in cc

  pub ends : {X : Type 0} (result : Result X TrapKind) (new : unit.State) → state_at states s ≡ Ended → call.finish old s ≡ called result new → IsRested image states s old true new
  ends result new state h = (
    Leaf [] Finished,
    record { standing = (refl, state); front = ended-front state; one = refl },
    finish-done old s result new building.links building.counters bare h
        ∙ ap (λ (t : Tree). with_tree t old) (put-at image states s (Leaf [] Finished) finish_at settle (λ p. refl) (λ k watches at lo group h'. still image states k watches at lo group h') (refl, state) 0 old.tree building.standing ready).0,
  )

  -- it pauses
  module _ (at : ℕ) (state : state_at states s ≡ Paused at) where
    pub record PausesAt (u : Tree) : Type 0 where
      pub watches : List Watch
      pub is : u ≡ Leaf watches (Pausing at)
      pub listed : is_listed image.pauses at s (numbers_of watches) ≡ true
      pub lines : AreOfLines image watches

    pauses-at : (u : Tree) → IsTarget image states s u → PausesAt u
    pauses-at (Leaf watches (Running place)) h = absurd h
    pauses-at (Leaf watches (Pausing place)) h =
        let e : Paused at ≡ Paused place = sym state ∙ h.2 in
        let same : at ≡ place = cc in
        record { watches = watches; is = ap (λ n. Leaf watches (Pausing n)) (sym same); listed = subst (λ n. is_listed image.pauses n s (numbers_of watches) ≡ true) (sym same) h.0; lines = h.1 }
    pauses-at (Leaf watches Finished) h = let e : Paused at ≡ Ended = sym state ∙ h.1 in cc
    pauses-at (Waits watches at' lo group) h = let e : Paused at ≡ Waiting at' = sym state ∙ h.3 in cc

    pub no-pause : IsFound image.pauses at None → (new : unit.State) → IsRested image states s old false new
    no-pause none new = refused-by (λ u h. let p = pauses-at u h in let e : true ≡ false = sym p.listed ∙ listed_none image.pauses at s (numbers_of p.watches) none in cc)

    module _ (table : List ℕ) (i : ℕ) (p : Point) (t : IsTable image.pauses table) (found : IsFound image.pauses at (Some i)) (point : p ≡ get_or image.pauses i p) where
      pub other-pause : p.slot ≢ s → (new : unit.State) → IsRested image states s old false new
      other-pause other new = refused-by (λ u h. let q = pauses-at u h in other (listed-one image.pauses table i at s (numbers_of q.watches) p t found point q.listed).0)

      pub pauses : {X : Type 0} (mid new : unit.State) (result : Result X TrapKind) → p.slot ≡ s → AllByRecursion (λ j. j < length image.aborts) p.stack → mid ≡ record old { tree = all_entered s (entries image p.stack) old.tree } → call.pause mid s at ≡ called result new → IsRested image states s old true new
      pauses mid new result same low mid-is h =
          let ws : List Watch = entries image p.stack in
          let numbers : numbers_of ws ≡ p.stack = numbers-entries image p.stack in
          let listed : is_listed image.pauses at s (numbers_of ws) ≡ true =
          ap (λ (ns : List ℕ). is_listed image.pauses at s ns) numbers ∙ ap (λ n. is_listed image.pauses at n p.stack) (sym same) ∙ listed-there image.pauses table i at p t found point in
          let standing : IsStanding image states s (Leaf ws (Pausing at)) = (listed, entries-of-lines image p.stack low) in
          let becomes : (n : ℕ) → pause_at at (each ws (Leaf [] (Running n))) ≡ Leaf ws (Pausing at) =
          λ n. ap (pause_at at) (each-leaf ws (Running n)) ∙ ap (relieved_tree (Leaf ws (Pausing at))) (relief-entries image p.stack) in
          let moved = put-at image states s (Leaf ws (Pausing at)) (λ u. pause_at at (each ws u)) settle becomes (λ k watches at' lo group h'. still image states k watches at' lo group h') standing 0 old.tree building.standing ready in
          let tree : paused s at (all_entered s ws old.tree) ≡ put s (Leaf ws (Pausing at)) 0 old.tree = entered-at (pause_at at) settle s ws old.tree ∙ moved.0 in
          let links : mid.links ≡ [] = ap (λ (u : unit.State). u.links) mid-is ∙ building.links in
          let counters : mid.counters ≡ [] = ap (λ (u : unit.State). u.counters) mid-is ∙ building.counters in
          let front : (u : Tree) → IsTarget image states s u → IsFront (Leaf ws (Pausing at)) u = λ u h'.
          let q = pauses-at u h' in
          let one = listed-one image.pauses table i at s (numbers_of q.watches) p t found point q.listed in
          let alike : map renewed q.watches ≡ map renewed ws = renewed-lines image q.watches q.lines ∙ ap (λ (ns : List ℕ). map renewed (entries image ns)) (sym one.1) in
          ap tests_begun q.is ∙ ap (λ (x : List Watch). Leaf x (Pausing at)) alike in (
            Leaf ws (Pausing at),
            record { standing = standing; front = front; one = refl },
            pause-done mid s at result new links counters h
                ∙ ap (λ (u : unit.State). with_tree (paused s at u.tree) u) mid-is
                ∙ ap (λ (x : Tree). with_tree x old) tree,
          )

  -- it waits
  module _ (at : ℕ) (state : state_at states s ≡ Waiting at) where
    pub record WaitsAt (u : Tree) : Type 0 where
      pub watches : List Watch
      pub lo : ℕ
      pub group : Group
      pub is : u ≡ Waits watches at lo group
      pub listed : is_listed image.forks at s (numbers_of watches) ≡ true
      pub lines : AreOfLines image watches
      pub word : IsFork image at lo (size group)
      pub any : any_loose states lo (size group) ≡ true

    waits-at : (u : Tree) → IsTarget image states s u → WaitsAt u
    waits-at (Leaf watches (Running place)) h = absurd h
    waits-at (Leaf watches (Pausing place)) h = let e : Waiting at ≡ Paused place = sym state ∙ h.2 in cc
    waits-at (Leaf watches Finished) h = let e : Waiting at ≡ Ended = sym state ∙ h.1 in cc
    waits-at (Waits watches at' lo group) h =
        let e : Waiting at ≡ Waiting at' = sym state ∙ h.3 in
        let same : at ≡ at' = cc in
        record {
          watches = watches;
          lo = lo;
          group = group;
          is = ap (λ n. Waits watches n lo group) (sym same);
          listed = subst (λ n. is_listed image.forks n s (numbers_of watches) ≡ true) (sym same) h.0;
          lines = h.1;
          word = subst (λ n. IsFork image n lo (size group)) (sym same) h.2;
          any = h.5;
        }

    pub no-fork : IsFound image.forks at None → (new : unit.State) → IsRested image states s old false new
    no-fork none new = refused-by (λ u h. let p = waits-at u h in let e : true ≡ false = sym p.listed ∙ listed_none image.forks at s (numbers_of p.watches) none in cc)

    pub no-word : IsForkAt image at None → (new : unit.State) → IsRested image states s old false new
    no-word none new = refused-by (λ u h. let p = waits-at u h in none p.lo (size p.group) p.word)

    pub other-fork : (table : List ℕ) (i : ℕ) (p : Point) → IsTable image.forks table → IsFound image.forks at (Some i) → p ≡ get_or image.forks i p → p.slot ≢ s → (new : unit.State) → IsRested image states s old false new
    other-fork table i p t found point other new = refused-by (λ u h. let q = waits-at u h in other (listed-one image.forks table i at s (numbers_of q.watches) p t found point q.listed).0)

    -- two forks of one word are the same
    pub record SameFork (lo count lo' count' : ℕ) : Type 0 where
      pub first : lo ≡ lo'
      pub many : count ≡ count'

    same-fork : (lo count lo' count' : ℕ) → IsFork image at lo count → IsFork image at lo' count' → SameFork lo count lo' count'
    same-fork lo count lo' count' f g =
        let w : Some f.0 ≡ Some g.0 = sym f.1 ∙ g.1 in
        let same : f.0 ≡ g.0 = cc in
        let e : Some (Fork lo count) ≡ Some (Fork lo' count') = sym f.2 ∙ ap decoded same ∙ g.2 in
        record { first = cc; many = cc }

    module _ (lo count : ℕ) (word : IsFork image at lo count) where
      pub none-loose : any_loose states lo count ≡ false → (new : unit.State) → IsRested image states s old false new
      none-loose none new = refused-by (λ u h.
          let p = waits-at u h in
          let f = same-fork p.lo (size p.group) lo count p.word word in
          let e : true ≡ false = sym p.any ∙ (λ i. any_loose states (f.first i) (f.many i)) ∙ none in cc)

      some-of : (k n : ℕ) → any_loose states k n ≡ true → 1 ≤ n
      some-of k zero e = cc
      some-of k (suc n) e = omega arith

      -- what is counted below the slot at the end is counted nowhere else before
      counts-at : (t : Tree) (whole : IsWhole image states t) (front : IsFront old.tree t) → (p : WaitsAt (at-end t whole front).there) → (q : ℕ) → tally q 0 old.tree + tally_group q p.lo p.group ≤ tally q 0 t
      counts-at t whole front p q =
          let m = at-end t whole front in
          let more = m.counts q in
          let below : tally q s m.there ≡ one (s == q) + tally_group q p.lo p.group = ap (tally q s) p.is in
          omega arith

      pub too-far : length image.slots < lo + count → (new : unit.State) → IsRested image states s old false new
      too-far far new = λ t whole front.
          let p = waits-at (at-end t whole front).there (at-end t whole front).target in
          let f = same-fork p.lo (size p.group) lo count p.word word in
          let none : (q : ℕ) → length image.slots ≤ q → tally_group q p.lo p.group ≡ 0 = λ q past. omega (arith, counts-at t whole front p q, whole.within q past) in
          let within : p.lo + size p.group ≤ length image.slots = group-within (length image.slots) p.lo p.group (some-of p.lo (size p.group) p.any) none in
          let same : p.lo + size p.group ≡ lo + count = (λ i. f.first i + f.many i) in
          absurd (omega arith)

      module _ (table : List ℕ) (i : ℕ) (p : Point) (t : IsTable image.forks table) (found : IsFound image.forks at (Some i)) (point : p ≡ get_or image.forks i p) where
        module _ (starts : List ℕ) (many : length starts ≡ count) (any : any_loose states lo count ≡ true) (same : p.slot ≡ s) (low : AllByRecursion (λ j. j < length image.aborts) p.stack) where
          waits : (mid new : unit.State) → mid ≡ record old { tree = all_entered s (entries image p.stack) old.tree } → new ≡ record mid { tree = forked s at lo starts mid.tree } → IsRested image states s old true new
          waits mid new mid-is new-is =
              let numbers : numbers_of (entries image p.stack) ≡ p.stack = numbers-entries image p.stack in
              let listed : is_listed image.forks at s (numbers_of (entries image p.stack)) ≡ true =
              ap (λ (ns : List ℕ). is_listed image.forks at s ns) numbers ∙ ap (λ n. is_listed image.forks at n p.stack) (sym same) ∙ listed-there image.forks table i at p t found point in
              let v : Tree = Waits (entries image p.stack) at lo (begun starts) in
              let sized : size (begun starts) ≡ count = size-begun starts ∙ many in
              let standing : IsStanding image states s (Waits (entries image p.stack) at lo (begun starts)) = (
                listed,
                entries-of-lines image p.stack low,
                subst (λ n. IsFork image at lo n) (sym sized) word,
                relief-entries image p.stack,
                begun-standing image states lo starts,
                ap (any_loose states lo) sized ∙ any,
              ) in
              let moved = put-at image states s (Waits (entries image p.stack) at lo (begun starts)) (λ u. fork_at at lo starts (each (entries image p.stack) u)) (λ u. u) (λ n. ap (fork_at at lo starts) (each-leaf (entries image p.stack) (Running n))) (λ k watches at' lo' group h'. refl) standing 0 old.tree building.standing ready in
              let tree : forked s at lo starts (all_entered s (entries image p.stack) old.tree) ≡ put s (Waits (entries image p.stack) at lo (begun starts)) 0 old.tree = entered-at (fork_at at lo starts) (λ u. u) s (entries image p.stack) old.tree ∙ moved.0 in
              let front : (u : Tree) → IsTarget image states s u → IsFront (Waits (entries image p.stack) at lo (begun starts)) u = λ u h.
              let q = waits-at u h in
              let f = same-fork q.lo (size q.group) lo count q.word word in
              let one = listed-one image.forks table i at s (numbers_of q.watches) p t found point q.listed in
              let alike : map renewed q.watches ≡ map renewed (entries image p.stack) = renewed-lines image q.watches q.lines ∙ ap (λ (ns : List ℕ). map renewed (entries image ns)) (sym one.1) in
              (q.watches, q.group, q.is ∙ ap (λ n. Waits q.watches at n q.group) f.first, alike, begun-fronts starts q.group (f.many ∙ sym many)) in (
                Waits (entries image p.stack) at lo (begun starts),
                record { standing = standing; front = front; one = ap (λ n. n + 1) (begun-resting starts) },
                new-is ∙ ap (λ (u : unit.State). record u { tree = forked s at lo starts u.tree }) mid-is ∙ ap (λ (x : Tree). record old { tree = x }) tree,
              )

          busy-not : (mid : unit.State) → mid ≡ record old { tree = all_entered s (entries image p.stack) old.tree } → (x : Tree) → IsWhole image states x → IsFront old.tree x → is_busy lo starts mid.tree ≡ false
          busy-not mid mid-is x whole front =
              let q = waits-at (at-end x whole front).there (at-end x whole front).target in
              let f = same-fork q.lo (size q.group) lo count q.word word in
              let free : is_busy q.lo starts old.tree ≡ false = children-free q.lo starts q.group old.tree (f.many ∙ sym many) (λ n. omega (arith, counts-at x whole front q n, whole.once.once n)) in
              ap (λ (u : unit.State). is_busy lo starts u.tree) mid-is ∙ busy-all s (entries image p.stack) old.tree lo starts ∙ ap (λ n. is_busy n starts old.tree) (sym f.first) ∙ free

          pub waits-or-not : (result : Bool) (mid new : unit.State) → mid ≡ record old { tree = all_entered s (entries image p.stack) old.tree } → result ≡ not (is_busy lo starts mid.tree) → new ≡ record mid { tree = if result then forked s at lo starts mid.tree else mid.tree } →
              IsRested image states s old result new
          waits-or-not true mid new mid-is free new-is = waits mid new mid-is new-is
          waits-or-not false mid new mid-is free new-is = λ x whole front.
              let e : false ≡ true = free ∙ ap not (busy-not mid mid-is x whole front) in cc

-- Nodes that are passed in one go, and their regions: where these begin and end, and how much room they take.
use Rattle.std.proofs.Common.{◌≡◌, ℕ, zero, suc, ◌+◌, ◌<◌, ◌≤◌, ◌&&◌, ◌||◌, Bool, true, false, Option, Some, None, List, [], ◌∷◌}
use Rattle.std.proofs.Common.{length, slice_get}
use Rattle.std.proofs.Common.{refl, sym, ap, subst, ◌∙◌, arith}
use Rattle.std.specs.Prelude.{slice_index_or}
use Rattle.std.specs.List.{AllByRecursion}
use Rattle.pt_image.specs.declared.image.Parts.{Parts}
use Rattle.pc_lower.specs.declared.nodes.Test.{Test}
use Rattle.pc_lower.specs.Flow.{Node, Nodes, straight, sequence, branch, turns, bounded, call, pause, fork, guard, no_nodes, and}
use Rattle.pc_lower.specs.Laid.{Placing}
use Rattle.pc_lower.specs.Program.{HasRoom, HaveRoom}
use Rattle.pc_lower.specs.Words.{Writing}
use Rattle.pc_lower.specs.Layable.{IsInstant, AreInstant}
use Rattle.pc_lower.specs.Shaped.{can_end, can_all_end, IsLasting, AreLasting}
use Rattle.pc_lower.specs.Shaped as shaped
use Rattle.tk_paths.proofs.Lists.{all-left, all-right}
use Rattle.tk_paths.specs.declared.word.Word.TheVariants.{Ret}
use Rattle.tk_paths.specs.Regions.{Region, Calling, from, to, links_in, counters_in, IsWord, IsLaid}
use Rattle.tk_paths.specs.Codes.{loops_in, EachCalled}
use Rattle.tk_paths.specs.Programs.{Section, OfRoutine, IsIn}
use Rattle.tk_paths.specs.Trees.{nowhere, routine_at}
use Rattle.pc_emit.specs.Code.{loop_size, drop_size, test_size, option_size, size, sizes}
use Rattle.pc_emit.specs.Sections.{calls_in, calls_in_all, loop_region, region, regions}

pub element-there : {A : Type 0} (xs : List A) (n : ℕ) (x other : A) → slice_get xs n ≡ Some x → slice_index_or xs n other ≡ x
element-there [] n x other h = cc
element-there (y ∷ xs) zero x other h = cc
element-there (y ∷ xs) (suc n) x other h = element-there xs n x other h

pub get-within : {A : Type 0} (xs : List A) (n : ℕ) (x : A) → slice_get xs n ≡ Some x → n < length xs
get-within [] n x h = absurd cc
get-within (y ∷ xs) zero x h = omega arith
get-within (y ∷ xs) (suc n) x h = let k = get-within xs n x h in omega (arith, k)

-- ---- nodes

-- no pause, no fork, no abort, no loop without a number
abbrev mutual
  pub IsPassed : Node → Type 0
  IsPassed (straight steps) = Unit {0}
  IsPassed (sequence nodes) = ArePassed nodes
  IsPassed (branch test a b) = IsPassed a × IsPassed b
  IsPassed (turns test body) = ⊥
  IsPassed (bounded most test body) = (1 ≤ most) × IsPassed body
  IsPassed (call f) = Unit {0}
  IsPassed (pause i) = ⊥
  IsPassed (fork i fs) = ⊥
  IsPassed (guard j body) = ⊥

  pub ArePassed : Nodes → Type 0
  ArePassed no_nodes = Unit {0}
  ArePassed (and n nodes) = IsPassed n × ArePassed nodes

module _ (ends : ℕ → Bool) where
  mutual
    passed-ends : (n : Node) → IsPassed n → can_end ends n ≡ true
    passed-ends (straight steps) h = refl
    passed-ends (sequence nodes) h = all-passed-end nodes h
    passed-ends (branch test a b) h = ap (λ c. c || can_end ends b) (passed-ends a h.0)
    passed-ends (turns test body) h = absurd h
    passed-ends (bounded most test body) h = refl
    passed-ends (call f) h = refl
    passed-ends (pause i) h = absurd h
    passed-ends (fork i fs) h = absurd h
    passed-ends (guard j body) h = absurd h

    all-passed-end : (nodes : Nodes) → ArePassed nodes → can_all_end ends nodes ≡ true
    all-passed-end no_nodes h = refl
    all-passed-end (and n nodes) h = ap (λ c. c && can_all_end ends nodes) (passed-ends n h.0) ∙ all-passed-end nodes h.1

  -- a node that holds no pause has no loop without a number, since the body of one doesn't end
  mutual
    pub passed : (n : Node) → IsInstant n → IsLasting ends n → IsPassed n
    passed (straight steps) i h = tt
    passed (sequence nodes) i h = all-passed nodes i h
    passed (branch test a b) i h = (passed a i.0 h.0, passed b i.1 h.1)
    passed (turns test body) i h = let e : true ≡ false = sym (passed-ends body (passed body i h.0)) ∙ h.1 in absurd cc
    passed (bounded most test body) i h = (h.0, passed body i h.1)
    passed (call f) i h = tt
    passed (pause k) i h = absurd i
    passed (fork k fs) i h = absurd i
    passed (guard j body) i h = absurd i

    all-passed : (nodes : Nodes) → AreInstant nodes → AreLasting ends nodes → ArePassed nodes
    all-passed no_nodes i h = tt
    all-passed (and n nodes) i h = (passed n i.0 h.0, all-passed nodes i.1 h.1)

-- inside a loop with a counter there is no pause, fork or abort
module _ (placing : Placing) where
  mutual
    pub instant-inside : (n : Node) (l k : ℕ) → (k ≡ 0 → ⊥) → HasRoom placing n l k → IsInstant n
    instant-inside (straight steps) l k some room = tt
    instant-inside (sequence nodes) l k some room = all-instant-inside nodes l k some room
    instant-inside (branch test a b) l k some room = (instant-inside a l k some room.0, instant-inside b l k some room.1)
    instant-inside (turns test body) l k some room = instant-inside body l k some room
    instant-inside (bounded most test body) l k some room = instant-inside body l (k + 1) (λ e. omega (arith, e)) room.1
    instant-inside (call g) l k some room = tt
    instant-inside (pause i) l k some room = absurd (some room.1)
    instant-inside (fork i fs) l k some room = absurd (some room.1)
    instant-inside (guard j body) l k some room = absurd (some room.1)

    all-instant-inside : (nodes : Nodes) (l k : ℕ) → (k ≡ 0 → ⊥) → HaveRoom placing nodes l k → AreInstant nodes
    all-instant-inside no_nodes l k some room = tt
    all-instant-inside (and n nodes) l k some room = (instant-inside n l k some room.0, all-instant-inside nodes l k some room.1)

-- ---- regions

module _ (writing : Writing) (numbers : List ℕ) (routines : List Region) where
  loop-from : (most : ℕ) (test : Option Test) (at : ℕ) (body : Region) (out : ℕ) → from (loop_region writing most test at body out) ≡ at
  loop-from most None at body out = refl
  loop-from most (Some test) at body out = refl

  pub loop-to : (most : ℕ) (test : Option Test) (at : ℕ) (body : Region) (out : ℕ) → to
      (loop_region writing most test at body out) ≡ out + drop_size test
  loop-to most None at body out = omega arith
  loop-to most (Some test) at body out = refl

  mutual
    pub region-from : (n : Node) (at : ℕ) → from (region writing numbers routines n at) ≡ at
    region-from (straight steps) at = refl
    region-from (sequence nodes) at = regions-from nodes at
    region-from (branch test a b) at = refl
    region-from (turns test body) at = refl
    region-from (bounded most test body) at =
        loop-from most test at (region writing numbers routines body (at + loop_size most + 1 + option_size writing test))
        (at + loop_size most + 1 + option_size writing test + size writing body + 2)
    region-from (call f) at = refl
    region-from (pause i) at = refl
    region-from (fork i fs) at = refl
    region-from (guard j body) at = refl

    pub regions-from : (nodes : Nodes) (at : ℕ) → from (regions writing numbers routines nodes at) ≡ at
    regions-from no_nodes at = refl
    regions-from (and n nodes) at = region-from n at

  mutual
    pub region-to : (n : Node) (at : ℕ) → IsPassed n → to (region writing numbers routines n at) ≡ at + size writing n
    region-to (straight steps) at h = refl
    region-to (sequence nodes) at h = regions-to nodes at h
    region-to (branch test a b) at h = let e = region-to b (at + test_size writing test + size writing a + 2) h.1 in omega (arith, e)
    region-to (turns test body) at h = absurd h
    region-to (bounded most test body) at h =
        let out = at + loop_size most + 1 + option_size writing test + size writing body + 2 in
        let e = loop-to most test at (region writing numbers routines body (at + loop_size most + 1 + option_size writing test)) out in
        omega (arith, e)
    region-to (call f) at h = refl
    region-to (pause i) at h = absurd h
    region-to (fork i fs) at h = absurd h
    region-to (guard j body) at h = absurd h

    pub regions-to : (nodes : Nodes) (at : ℕ) → ArePassed nodes → to (regions writing numbers routines nodes at) ≡ at + sizes writing nodes
    regions-to no_nodes at h = omega arith
    regions-to (and n nodes) at h = let e = regions-to nodes (at + size writing n) h.1 in omega (arith, e)

-- ---- routines that are known

module _ (image : Parts) (sections : List Section) (placing : Placing) (numbers : List ℕ) (routines : List Region) where
  -- a routine's region is known, it lies in the image, and it takes no more room than is said
  pub record IsKnown (f : ℕ) : Type 0 where
    pub callee : Region
    pub there : slice_get routines (slice_index_or numbers f 0) ≡ Some callee
    pub laid : IsLaid image callee
    pub starts : from callee ≡ placing.entrance f
    pub returns : IsWord image (to callee) Ret
    pub links : links_in callee ≤ placing.links f
    pub counters : counters_in callee ≤ placing.counters f
    pub listed : IsIn (OfRoutine callee) sections

  abbrev pub IsListed : Region → Type 0
  IsListed callee = IsIn (OfRoutine callee) sections

  -- it is the one that a call finds
  pub found-there : (f at : ℕ) (one : IsKnown f) → routine_at routines at (slice_index_or numbers f 0) ≡ one.callee
  found-there f at one = element-there routines (slice_index_or numbers f 0) one.callee (nowhere at) one.there

  -- a region has room where so many links and counters are there, and calls routines that are sections
  pub record IsSmall (l k loops : ℕ) (r : Region) : Type 0 where
    pub links : l + links_in r ≤ 16
    pub counters : k + counters_in r ≤ 136
    pub nests : loops_in r ≤ loops
    pub calls : EachCalled IsListed r

  nowhere-small : (l k loops at : ℕ) → l ≤ 16 → k ≤ 136 → IsSmall l k loops (nowhere at)
  nowhere-small l k loops at a b = record { links = omega (arith, a); counters = omega (arith, b); nests = omega arith; calls = tt }

  pub call-small : (f at l k : ℕ) → IsKnown f → l + 1 + placing.links f ≤ 16 → k + placing.counters f ≤ 136 → IsSmall l k 0
      (Calling at (routine_at routines at (slice_index_or numbers f 0)))
  call-small f at l k one a b =
      let e = found-there f at one in
      let c = one.links in
      let d = one.counters in
      record {
        links = subst (λ r. l + (links_in r + 1) ≤ 16) (sym e) (omega (arith, a, c));
        counters = subst (λ r. k + counters_in r ≤ 136) (sym e) (omega (arith, b, d));
        nests = omega arith;
        calls = subst IsListed (sym e) one.listed;
      }

  module _ (writing : Writing) where
    loop-small : (most : ℕ) (test : Option Test) (at : ℕ) (body : Region) (out l k loops : ℕ) → IsSmall l (k + 1) loops body → IsSmall l k
        (loops + 1) (loop_region writing most test at body out)
    loop-small most None at body out l k loops h =
        let c = h.counters in let e = h.nests in record {
          links = h.links;
          counters = omega (arith, c);
          nests = omega (arith, e);
          calls =
              h.calls;
        }
    loop-small most (Some test) at body out l k loops h =
        let c = h.counters in let e = h.nests in record {
          links = h.links;
          counters = omega (arith, c);
          nests = omega (arith, e);
          calls =
              h.calls;
        }

    mutual
      pub region-small : (n : Node) (at l k : ℕ) → HasRoom placing n l k → AllByRecursion IsKnown (calls_in n) → l ≤ 16 → k ≤ 136 →
          IsSmall l k (shaped.loops_in n) (region writing numbers routines n at)
      region-small (straight steps) at l k room known a b =
          record { links = omega (arith, a); counters = omega (arith, b); nests = omega arith; calls = tt }
      region-small (sequence nodes) at l k room known a b = regions-small nodes at l k room known a b
      region-small (branch test x y) at l k room known a b =
          let s = region-small x (at + test_size writing test) l k room.0 (all-left IsKnown (calls_in x) (calls_in y) known) a b in
          let t = region-small y (at + test_size writing test + size writing x + 2) l k room.1
          (all-right IsKnown (calls_in x) (calls_in y) known) a b in
          let s1 = s.links in
          let s2 = s.counters in
          let s3 = s.nests in
          let t1 = t.links in
          let t2 = t.counters in
          let t3 = t.nests in
          record {
            links = omega (arith, s1, t1);
            counters = omega (arith, s2, t2);
            nests = omega (arith, s3, t3);
            calls =
                (s.calls, t.calls);
          }
      region-small (turns test body) at l k room known a b = nowhere-small l k (shaped.loops_in body) at a b
      region-small (bounded most test body) at l k room known a b =
          let c = room.0 in
          let inner = at + loop_size most + 1 + option_size writing test in
          loop-small most test at (region writing numbers routines body inner) (inner + size writing body + 2) l k (shaped.loops_in body)
          (region-small body inner l (k + 1) room.1 known a (omega (arith, c)))
      region-small (call f) at l k room known a b = call-small f at l k known.0 room.1 room.2
      region-small (pause i) at l k room known a b = nowhere-small l k 0 at a b
      region-small (fork i fs) at l k room known a b = nowhere-small l k 0 at a b
      region-small (guard j body) at l k room known a b = nowhere-small l k (shaped.loops_in body) at a b

      pub regions-small : (nodes : Nodes) (at l k : ℕ) → HaveRoom placing nodes l k → AllByRecursion IsKnown (calls_in_all nodes) → l ≤ 16 →
          k ≤ 136 → IsSmall l k (shaped.loops_in_all nodes) (regions writing numbers routines nodes at)
      regions-small no_nodes at l k room known a b = nowhere-small l k 0 at a b
      regions-small (and n nodes) at l k room known a b =
          let s = region-small n at l k room.0 (all-left IsKnown (calls_in n) (calls_in_all nodes) known) a b in
          let t = regions-small nodes (at + size writing n) l k room.1 (all-right IsKnown (calls_in n) (calls_in_all nodes) known) a b in
          let s1 = s.links in
          let s2 = s.counters in
          let s3 = s.nests in
          let t1 = t.links in
          let t2 = t.counters in
          let t3 = t.nests in
          record {
            links = omega (arith, s1, t1);
            counters = omega (arith, s2, t2);
            nests = omega (arith, s3, t3);
            calls =
                (s.calls, t.calls);
          }

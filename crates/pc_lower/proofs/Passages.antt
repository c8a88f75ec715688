-- The words of a passage through a node are within those that the rules count.
use Rattle.std.proofs.Common.{◌≡◌, ℕ, zero, suc, ◌+◌, ◌*◌, ◌<◌, ◌≤◌, List, [], ◌∷◌, ◌++◌, length, Option, Some, None, refl, sym, ap, ◌∙◌, append_assoc, append-nil, length-append, mul-le-mul_left, arith}
use Rattle.std.specs.Prelude.{IsTrue, unwrap_or}
use Rattle.pc_meaning.proofs.Lookups.{slice_get_front, slice_get_middle}
use Rattle.pc_lower.specs.declared.nodes.Step.{Step}
use Rattle.pc_lower.specs.declared.nodes.Test.{Test}
use Rattle.pc_lower.specs.Flow.{Node, Nodes, straight, sequence, branch, turns, bounded, call, pause, fork, guard, no_nodes, and}
use Rattle.pc_lower.specs.Residuals.{body_at}
use Rattle.pc_lower.specs.Counts.{steps_words, test_words, some_words, count_at, node_passage, nodes_passage, passages_from}
use Rattle.pc_lower.specs.Laid.{Placing}
use Rattle.pc_lower.specs.StepCounts.{Sizes, total_of, option_words, through, through_all}
use Rattle.pc_lower.specs.Program.{IsEarlier, AreEarlier, InOrder, HasRoom, HaveRoom}
use Rattle.pc_lower.specs.Bounds.{span, span_all}
use Rattle.pc_lower.specs.Sizing.{sizes_to, sizes_of}
use Rattle.pc_lower.specs.Limits.{without_threads, passage}
use Rattle.pc_lower.proofs.Earlier.{earlier}

none-total : (fs : List ℕ) → total_of (λ f. 0) fs ≡ 0
none-total [] = refl
none-total (f ∷ fs) = let h = none-total fs in omega (arith, h)

-- sizes whose words are within the worst of each step, where threads take nothing and what may be called no more than is known
module _ (placing : Placing) (known : List ℕ) (below : ℕ) (sizes : Sizes) (words : (p : List Step) → sizes.words p ≤ steps_words p) (tests : (t : Test) → sizes.test_words t ≤ test_words t + 2)
    (calls : (f : ℕ) → f < below → IsTrue (placing.called f) → sizes.routines f ≤ count_at known f) where
  option-less : (o : Option Test) → option_words sizes o ≤ some_words o
  option-less None = omega arith
  option-less (Some t) = tests t

  -- inside a call or a bounded loop
  mutual
    through-less : (n : Node) (l k : ℕ) → 1 ≤ l + k → HasRoom placing n l k → IsEarlier below n → through sizes n ≤ node_passage known n
    through-less (straight steps) l k deep room early = words steps
    through-less (sequence nodes) l k deep room early = through-less-all nodes l k deep room early
    through-less (branch test a b) l k deep room early =
        let x = through-less a l k deep room.0 early.0 in
        let y = through-less b l k deep room.1 early.1 in
        let t = tests test in
        omega (arith, x, y, t)
    through-less (turns test body) l k deep room early = let o = option-less test in omega (arith, o)
    through-less (bounded n test body) l k deep room early =
        let x = through-less body l (k + 1) (omega arith) room.1 early in
        let o = option-less test in
        let each : option_words sizes test + through sizes body + 3 ≤ 1 + some_words test + node_passage known body + 2 = omega (arith, x, o) in
        let all : n * (option_words sizes test + through sizes body + 3) ≤ n * (1 + some_words test + node_passage known body + 2) = mul-le-mul_left n each in
        omega (arith, all, o)
    through-less (call f) l k deep room early = let c = calls f early room.0 in omega (arith, c)
    through-less (pause i) l k deep room early = omega arith
    through-less (fork i fs) l k deep room early = absurd (omega (arith, deep, room.0, room.1))
    through-less (guard j body) l k deep room early = absurd (omega (arith, deep, room.0, room.1))

    through-less-all : (nodes : Nodes) (l k : ℕ) → 1 ≤ l + k → HaveRoom placing nodes l k → AreEarlier below nodes → through_all sizes nodes ≤ nodes_passage known nodes
    through-less-all no_nodes l k deep room early = omega arith
    through-less-all (and n nodes) l k deep room early =
        let x = through-less n l k deep room.0 early.0 in
        let y = through-less-all nodes l k deep room.1 early.1 in
        omega (arith, x, y)

  -- and outside of them, where threads take nothing
  module _ (alone : (fs : List ℕ) → total_of sizes.threads fs ≡ 0) where
    mutual
      span-less : (n : Node) (l k : ℕ) → HasRoom placing n l k → IsEarlier below n → span sizes n ≤ node_passage known n
      span-less (straight steps) l k room early = words steps
      span-less (sequence nodes) l k room early = span-less-all nodes l k room early
      span-less (branch test a b) l k room early =
          let x = span-less a l k room.0 early.0 in
          let y = span-less b l k room.1 early.1 in
          let t = tests test in
          omega (arith, x, y, t)
      span-less (turns test body) l k room early = let x = span-less body l k room early in let o = option-less test in omega (arith, x, o)
      span-less (bounded n test body) l k room early =
          let x = through-less body l (k + 1) (omega arith) room.1 early in
          let o = option-less test in
          let each : option_words sizes test + through sizes body + 3 ≤ 1 + some_words test + node_passage known body + 2 = omega (arith, x, o) in
          let all : n * (option_words sizes test + through sizes body + 3) ≤ n * (1 + some_words test + node_passage known body + 2) = mul-le-mul_left n each in
          omega (arith, all, o)
      span-less (call f) l k room early = let c = calls f early room.0 in omega (arith, c)
      span-less (pause i) l k room early = omega arith
      span-less (fork i fs) l k room early = let z = alone fs in omega (arith, z)
      span-less (guard j body) l k room early = let x = span-less body l k room.2 early in omega (arith, x)

      span-less-all : (nodes : Nodes) (l k : ℕ) → HaveRoom placing nodes l k → AreEarlier below nodes → span_all sizes nodes ≤ nodes_passage known nodes
      span-less-all no_nodes l k room early = omega arith
      span-less-all (and n nodes) l k room early =
          let x = span-less n l k room.0 early.0 in
          let y = span-less-all nodes l k room.1 early.1 in
          omega (arith, x, y)

-- ---- the list of passages

grows : (known : List ℕ) (nodes : List Node) → (more : List ℕ) × (passages_from known nodes ≡ known ++ more)
grows known [] = ([], sym (append-nil known))
grows known (n ∷ nodes) =
    let one : ℕ = node_passage known n + 1 in
    let g = grows (known ++ one ∷ []) nodes in
    (one ∷ g.0, g.1 ∙ append_assoc known (one ∷ []) g.0)

record PassageAt (whole : List ℕ) (i : ℕ) (n : Node) : Type 0 where
  known : List ℕ
  more : List ℕ
  long : length known ≡ i
  is : whole ≡ known ++ (node_passage known n + 1) ∷ more

passage-from : (nodes : List Node) (known : List ℕ) (k : ℕ) → k < length nodes → PassageAt (passages_from known nodes) (length known + k) (body_at nodes k)
passage-from [] known k less = absurd (omega (arith, less))
passage-from (n ∷ nodes) known zero less =
    let g = grows (known ++ (node_passage known n + 1) ∷ []) nodes in
    record { known = known; more = g.0; long = omega arith; is = g.1 ∙ append_assoc known ((node_passage known n + 1) ∷ []) g.0 }
passage-from (n ∷ nodes) known (suc k) less =
    let h = passage-from nodes (known ++ (node_passage known n + 1) ∷ []) k (omega (arith, less)) in
    let a = length-append known ((node_passage known n + 1) ∷ []) in
    record { known = h.known; more = h.more; long = h.long ∙ omega (arith, a); is = h.is }

module _ (bodies : List Node) (order : InOrder 0 bodies) (placing : Placing) (words : List Step → ℕ) (tests : Test → ℕ)
    (few-words : (p : List Step) → words p ≤ steps_words p) (few-tests : (t : Test) → tests t ≤ test_words t + 2)
    (there : (f : ℕ) → IsTrue (placing.called f) → f < length bodies)
    (room : (f : ℕ) → IsTrue (placing.called f) → HasRoom placing (body_at bodies f) 1 0) where
  abbrev whole : List ℕ
  whole = passages_from [] bodies

  at : (f : ℕ) → f < length bodies → PassageAt whole f (body_at bodies f)
  at f less = let h = passage-from bodies [] f less in record { known = h.known; more = h.more; long = h.long ∙ omega arith; is = h.is }

  own : (f : ℕ) (less : f < length bodies) → count_at whole f ≡ node_passage (at f less).known (body_at bodies f) + 1
  own f less =
      let h = at f less in
      ap (λ l. count_at l f) h.is ∙ ap (count_at (h.known ++ (node_passage h.known (body_at bodies f) + 1) ∷ h.more)) (sym h.long)
      ∙ ap (λ o. unwrap_or o 0) (slice_get_middle h.known (node_passage h.known (body_at bodies f) + 1) h.more)

  before : (f : ℕ) (less : f < length bodies) (g : ℕ) → g < f → count_at whole g ≡ count_at (at f less).known g
  before f less g lower =
      let h = at f less in
      ap (λ l. count_at l g) h.is
      ∙ ap (λ o. unwrap_or o 0) (slice_get_front h.known ((node_passage h.known (body_at bodies f) + 1) ∷ h.more) g (let e = h.long in omega (arith, e, lower)))

  -- what may be called takes no more than is counted, as far as so many calls inside one another
  routines-less : (n f : ℕ) → IsTrue (placing.called f) → (sizes_to words tests bodies n).routines f ≤ count_at whole f
  routines-less zero f is = omega arith
  routines-less (suc n) f is =
      let less = there f is in
      let h = at f less in
      let x = through-less placing h.known f (sizes_to words tests bodies n) (words-at n) (tests-at n)
      (λ g lower called. let r = routines-less n g called in let e = before f less g lower in omega (arith, r, e))
      (body_at bodies f) 1 0 (omega arith) (room f is) (earlier bodies order f) in
      let e = own f less in
      omega (arith, x, e)
    where
      words-at : (n : ℕ) (p : List Step) → (sizes_to words tests bodies n).words p ≤ steps_words p
      words-at zero p = few-words p
      words-at (suc n) p = few-words p

      tests-at : (n : ℕ) (t : Test) → (sizes_to words tests bodies n).test_words t ≤ test_words t + 2
      tests-at zero t = few-tests t
      tests-at (suc n) t = few-tests t

  -- a passage through a thread, apart from those that it starts
  pub passage-less : (f : ℕ) → f < length bodies → HasRoom placing (body_at bodies f) 0 0 → passage (sizes_of words tests bodies) bodies f ≤ count_at whole f
  passage-less f less own-room =
      let h = at f less in
      let x = span-less placing h.known f (without_threads (sizes_of words tests bodies)) few-words few-tests
      (λ g lower called. let r = routines-less (suc g) g called in let e = before f less g lower in omega (arith, r, e))
      none-total (body_at bodies f) 0 0 own-room (earlier bodies order f) in
      let e = own f less in
      omega (arith, x, e)

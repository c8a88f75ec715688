-- The temporaries that a flow uses are enough.
use Rattle.std.proofs.Common.{ℕ, ◌+◌, ◌≤◌, ◌&&◌, nat_lt, nat_le, max, Bool, IsTrue, List, [], ◌∷◌, length, Option, Some, None, arith}
use Rattle.std.specs.List.{AllByRecursion}
use Rattle.pc_lower.specs.declared.nodes.Place.{Place}
use Rattle.pc_lower.specs.declared.nodes.Place.TheVariants.{Temp as temp, Held as held}
use Rattle.pc_lower.specs.declared.nodes.Step.{Step}
use Rattle.pc_lower.specs.declared.nodes.Step.TheVariants.{Const as const, Load as load, Save as save, Unary as unary_step, Binary as binary_step, TakeElement as take_element, PutElement as put_element, Move as move}
use Rattle.pc_lower.specs.declared.nodes.Test.{Test}
use Rattle.pc_lower.specs.Flow.{Node, Nodes, straight, sequence, branch, turns, bounded, call, pause, fork, guard, no_nodes, and, Flow}
use Rattle.pc_regs.specs.declared.placement.Placement.{Placement}
use Rattle.pc_regs.specs.Placement.{IsPlacement, is_placed}
use Rattle.pc_regs.specs.Words.{is_word, is_step_written, are_written, is_test_written, writing_of}
use Rattle.pc_regs.specs.Writings.{OptionWritten, NodeWritten, NodesWritten, FlowWritten}
use Rattle.pc_regs.specs.Assignment.{used_by_place, used_by_step, used_by_steps, used_by_test, used_by_option, used_by, used_by_all, used_by_bodies, used_by_aborts, with_temporaries, placement_of}
use Rattle.pc_regs.proofs.Places.{parts, whole, is_less, less_is}

-- with temporaries up to a number, and with all from the used ones on
abbrev Suffices : (cells most : ℕ) → (Placement → Type 0) → ℕ → Type 0
Suffices cells most written used = (used ≤ most) × ((n : ℕ) → used ≤ n → written (with_temporaries cells n))

left : (a b n : ℕ) → max a b ≤ n → a ≤ n
left a b n h = omega (arith, h)

right : (a b n : ℕ) → max a b ≤ n → b ≤ n
right a b n h = omega (arith, h)

most_of : (a b n : ℕ) → a ≤ n → b ≤ n → max a b ≤ n
most_of a b n h g = omega (arith, h, g)

module _ (cells most : ℕ) where
  place_enough : (q : Place) → IsTrue (is_placed (with_temporaries cells most) q) → Suffices cells most (λ p. IsTrue (is_placed p q)) (used_by_place q)
  place_enough (temp k) h = let lt = is_less k most h in (omega (arith, lt), λ n le. less_is k n (omega (arith, le)))
  place_enough (held k) h = let lt = is_less k 0 h in absurd (omega (arith, lt))

  -- one test of a place and one that doesn't look at temporaries
  pair : (a b : Placement → Bool) (x y : ℕ) → Suffices cells most (λ p. IsTrue (a p)) x → Suffices cells most (λ p. IsTrue (b p)) y →
      Suffices cells most (λ p. IsTrue (a p && b p)) (max x y)
  pair a b x y h g =
      (most_of x y most h.0 g.0, λ n le. whole (a (with_temporaries cells n)) (b (with_temporaries cells n)) (h.1 n (left x y n le)) (g.1 n (right x y n le)))

  with_fixed : (a : Placement → Bool) (b : Bool) (x : ℕ) → Suffices cells most (λ p. IsTrue (a p)) x → IsTrue b → Suffices cells most (λ p. IsTrue (a p && b)) x
  with_fixed a b x h g = (h.0, λ n le. whole (a (with_temporaries cells n)) b (h.1 n le) g)

  behind_fixed : (b : Bool) (a : Placement → Bool) (x : ℕ) → IsTrue b → Suffices cells most (λ p. IsTrue (a p)) x → Suffices cells most (λ p. IsTrue (b && a p)) x
  behind_fixed b a x g h = (h.0, λ n le. whole b (a (with_temporaries cells n)) g (h.1 n le))

  step_enough : (s : Step) → IsTrue (is_step_written (with_temporaries cells most) s) → Suffices cells most (λ p. IsTrue (is_step_written p s)) (used_by_step s)
  step_enough (const to n) h =
      let c = parts (is_placed (with_temporaries cells most) to) (is_word n) h in
      with_fixed (λ p. is_placed p to) (is_word n) (used_by_place to) (place_enough to c.0) c.1
  step_enough (load to word) h =
      let c = parts (is_placed (with_temporaries cells most) to) (nat_lt word cells) h in
      let e = place_enough to c.0 in
      (e.0, λ n le. whole (is_placed (with_temporaries cells n) to) (nat_lt word cells) (e.1 n le) c.1)
  step_enough (save word by) h =
      let c = parts (nat_lt word cells) (is_placed (with_temporaries cells most) by) h in
      let e = place_enough by c.1 in
      (e.0, λ n le. whole (nat_lt word cells) (is_placed (with_temporaries cells n) by) c.0 (e.1 n le))
  step_enough (unary_step o to by) h =
      let c = parts (is_placed (with_temporaries cells most) to) (is_placed (with_temporaries cells most) by) h in
      pair (λ p. is_placed p to) (λ p. is_placed p by) (used_by_place to) (used_by_place by) (place_enough to c.0) (place_enough by c.1)
  step_enough (move to by) h =
      let c = parts (is_placed (with_temporaries cells most) to) (is_placed (with_temporaries cells most) by) h in
      pair (λ p. is_placed p to) (λ p. is_placed p by) (used_by_place to) (used_by_place by) (place_enough to c.0) (place_enough by c.1)
  step_enough (binary_step o to left_word right_word) h =
      let roomy = with_temporaries cells most in
      let c = parts (is_placed roomy to && is_placed roomy left_word) (is_placed roomy right_word) h in
      let d = parts (is_placed roomy to) (is_placed roomy left_word) c.0 in
      let t = place_enough to d.0 in
      let l = place_enough left_word d.1 in
      let r = place_enough right_word c.1 in (
        most_of (used_by_place to) (max (used_by_place left_word) (used_by_place right_word)) most t.0 (most_of (used_by_place left_word) (used_by_place right_word) most l.0 r.0),
        λ n le.
            let p = with_temporaries cells n in
            let operands = right (used_by_place to) (max (used_by_place left_word) (used_by_place right_word)) n le in
            whole (is_placed p to && is_placed p left_word) (is_placed p right_word)
            (whole (is_placed p to) (is_placed p left_word) (t.1 n (left (used_by_place to) (max (used_by_place left_word) (used_by_place right_word)) n le)) (l.1 n (left (used_by_place left_word) (used_by_place right_word) n operands)))
            (r.1 n (right (used_by_place left_word) (used_by_place right_word) n operands)),
      )
  step_enough (take_element to first size index) h =
      let roomy = with_temporaries cells most in
      let c = parts (is_placed roomy to && nat_le (first + size) cells) (is_placed roomy index) h in
      let d = parts (is_placed roomy to) (nat_le (first + size) cells) c.0 in
      let t = place_enough to d.0 in
      let i = place_enough index c.1 in (
        most_of (used_by_place to) (used_by_place index) most t.0 i.0,
        λ n le.
            let p = with_temporaries cells n in
            whole (is_placed p to && nat_le (first + size) cells) (is_placed p index)
            (whole (is_placed p to) (nat_le (first + size) cells) (t.1 n (left (used_by_place to) (used_by_place index) n le)) d.1)
            (i.1 n (right (used_by_place to) (used_by_place index) n le)),
      )
  step_enough (put_element first size index by) h =
      let roomy = with_temporaries cells most in
      let c = parts (nat_le (first + size) cells && is_placed roomy index) (is_placed roomy by) h in
      let d = parts (nat_le (first + size) cells) (is_placed roomy index) c.0 in
      let i = place_enough index d.1 in
      let b = place_enough by c.1 in (
        most_of (used_by_place index) (used_by_place by) most i.0 b.0,
        λ n le.
            let p = with_temporaries cells n in
            whole (nat_le (first + size) cells && is_placed p index) (is_placed p by)
            (whole (nat_le (first + size) cells) (is_placed p index) d.0 (i.1 n (left (used_by_place index) (used_by_place by) n le)))
            (b.1 n (right (used_by_place index) (used_by_place by) n le)),
      )

  steps_enough : (steps : List Step) → IsTrue (are_written (with_temporaries cells most) steps) → Suffices cells most (λ p. IsTrue (are_written p steps)) (used_by_steps steps)
  steps_enough [] h = (omega arith, λ n le. h)
  steps_enough (s ∷ steps) h =
      let c = parts (is_step_written (with_temporaries cells most) s) (are_written (with_temporaries cells most) steps) h in
      pair (λ p. is_step_written p s) (λ p. are_written p steps) (used_by_step s) (used_by_steps steps) (step_enough s c.0) (steps_enough steps c.1)

  test_enough : (t : Test) → IsTrue (is_test_written (with_temporaries cells most) t) → Suffices cells most (λ p. IsTrue (is_test_written p t)) (used_by_test t)
  test_enough t h =
      let c = parts (are_written (with_temporaries cells most) t.steps) (is_placed (with_temporaries cells most) t.by) h in
      pair (λ p. are_written p t.steps) (λ p. is_placed p t.by) (used_by_steps t.steps) (used_by_place t.by) (steps_enough t.steps c.0) (place_enough t.by c.1)

  option_enough : (t : Option Test) → OptionWritten (writing_of (with_temporaries cells most)) t → Suffices cells most (λ p. OptionWritten (writing_of p) t) (used_by_option t)
  option_enough None h = (omega arith, λ n le. tt)
  option_enough (Some t) h = test_enough t h

  -- two parts
  both : (A B : Placement → Type 0) (x y : ℕ) → Suffices cells most A x → Suffices cells most B y → Suffices cells most (λ p. A p × B p) (max x y)
  both A B x y h g = (most_of x y most h.0 g.0, λ n le. (h.1 n (left x y n le), g.1 n (right x y n le)))

  mutual
    node_enough : (n : Node) → NodeWritten (writing_of (with_temporaries cells most)) n → Suffices cells most (λ p. NodeWritten (writing_of p) n) (used_by n)
    node_enough (straight steps) h = steps_enough steps h
    node_enough (sequence nodes) h = nodes_enough nodes h
    node_enough (branch test a b) h =
        let t = test_enough test h.0 in
        let x = node_enough a h.1 in
        let y = node_enough b h.2 in (
          most_of (used_by_test test) (max (used_by a) (used_by b)) most t.0 (most_of (used_by a) (used_by b) most x.0 y.0),
          λ n le.
              let bodies = right (used_by_test test) (max (used_by a) (used_by b)) n le in
              (t.1 n (left (used_by_test test) (max (used_by a) (used_by b)) n le), x.1 n (left (used_by a) (used_by b) n bodies), y.1 n (right (used_by a) (used_by b) n bodies)),
        )
    node_enough (turns test body) h =
        both (λ p. OptionWritten (writing_of p) test) (λ p. NodeWritten (writing_of p) body) (used_by_option test) (used_by body) (option_enough test h.0) (node_enough body h.1)
    node_enough (bounded m test body) h =
        both (λ p. OptionWritten (writing_of p) test) (λ p. NodeWritten (writing_of p) body) (used_by_option test) (used_by body) (option_enough test h.0) (node_enough body h.1)
    node_enough (call f) h = (omega arith, λ n le. tt)
    node_enough (pause i) h = (omega arith, λ n le. tt)
    node_enough (fork i fs) h = (omega arith, λ n le. tt)
    node_enough (guard j body) h = node_enough body h

    nodes_enough : (ns : Nodes) → NodesWritten (writing_of (with_temporaries cells most)) ns → Suffices cells most (λ p. NodesWritten (writing_of p) ns) (used_by_all ns)
    nodes_enough no_nodes h = (omega arith, λ n le. tt)
    nodes_enough (and n ns) h = both (λ p. NodeWritten (writing_of p) n) (λ p. NodesWritten (writing_of p) ns) (used_by n) (used_by_all ns) (node_enough n h.0) (nodes_enough ns h.1)

  bodies_enough : (ns : List Node) → AllByRecursion (NodeWritten (writing_of (with_temporaries cells most))) ns →
      Suffices cells most (λ p. AllByRecursion (NodeWritten (writing_of p)) ns) (used_by_bodies ns)
  bodies_enough [] h = (omega arith, λ n le. tt)
  bodies_enough (n ∷ ns) h =
      both (λ p. NodeWritten (writing_of p) n) (λ p. AllByRecursion (NodeWritten (writing_of p)) ns) (used_by n) (used_by_bodies ns) (node_enough n h.0) (bodies_enough ns h.1)

  aborts_enough : (pairs : List (Bool × Test)) → AllByRecursion (λ (a : Bool × Test). IsTrue (is_test_written (with_temporaries cells most) a.1)) pairs →
      Suffices cells most (λ p. AllByRecursion (λ (a : Bool × Test). IsTrue (is_test_written p a.1)) pairs) (used_by_aborts pairs)
  aborts_enough [] h = (omega arith, λ n le. tt)
  aborts_enough (a ∷ pairs) h =
      both (λ p. IsTrue (is_test_written p a.1)) (λ p. AllByRecursion (λ (b : Bool × Test). IsTrue (is_test_written p b.1)) pairs) (used_by_test a.1) (used_by_aborts pairs) (test_enough a.1 h.0) (aborts_enough pairs h.1)

pub enough : (f : Flow) (temporaries : ℕ) → IsPlacement (with_temporaries (length f.declared) temporaries) →
    FlowWritten (writing_of (with_temporaries (length f.declared) temporaries)) f → IsPlacement (placement_of f) × FlowWritten (writing_of (placement_of f)) f
enough f temporaries room written =
    let bodies = bodies_enough (length f.declared) temporaries f.bodies written.bodies in
    let aborts = aborts_enough (length f.declared) temporaries f.aborts written.conditions in
    let used = max (used_by_bodies f.bodies) (used_by_aborts f.aborts) in
    let few : used ≤ temporaries = most_of (used_by_bodies f.bodies) (used_by_aborts f.aborts) temporaries bodies.0 aborts.0 in
    let memory = room.memory in (
      record { memory = omega (arith, memory, few); held = omega arith },
      record {
        bodies = bodies.1 used (left (used_by_bodies f.bodies) (used_by_aborts f.aborts) used (omega arith));
        conditions = aborts.1 used (right (used_by_bodies f.bodies) (used_by_aborts f.aborts) used (omega arith));
      },
    )

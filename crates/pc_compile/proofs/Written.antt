-- The steps of a lowered flow are written.
use Rattle.std.proofs.Common.{◌≡◌, ℕ, ◌+◌, ◌<◌, ◌≤◌, Bool, true, false, ◌&&◌, List, [], ◌∷◌, Option, Some, None, refl, arith}
use Rattle.std.specs.Prelude.{IsTrue, nat_lt, nat_le}
use Rattle.std.specs.List.{AllByRecursion}
use Rattle.std.proofs.lemmas.Bool.{le-leb}
use Rattle.std.proofs.lemmas.Bool.Decides.{Decides-ltb}
use Rattle.pc_lower.specs.declared.nodes.Place.{Place}
use Rattle.pc_lower.specs.declared.nodes.Place.TheVariants.{Temp as temp, Held as held}
use Rattle.pc_lower.specs.declared.nodes.Step.{Step}
use Rattle.pc_lower.specs.declared.nodes.Step.TheVariants.{Const as const, Load as load, Save as save, Unary as unary_step, Binary as binary_step, TakeElement as take_element, PutElement as put_element, Move as move}
use Rattle.pc_lower.specs.declared.nodes.Test.{Test}
use Rattle.pc_lower.specs.Flow.{Node, Nodes, straight, sequence, branch, turns, bounded, call, pause, fork, guard, no_nodes, and, Flow}
use Rattle.pc_lower.specs.Counts.{PlaceWithin, StepWithin, StepsWithin, TestWithin, SomeWithin, NodeWithin, NodesWithin, BodiesWithin, ConditionsWithin}
use Rattle.pc_lower.specs.Cells.{StepKeeps, StepsKeep, OptionKeeps, NodeKeeps, NodesKeep, KeepsCells}
use Rattle.pc_regs.specs.declared.placement.Placement.{Placement}
use Rattle.pc_regs.specs.Placement.{is_placed}
use Rattle.pc_regs.specs.Writings.{OptionWritten, NodeWritten, NodesWritten, FlowWritten}
use Rattle.pc_regs.specs.Words.{is_step_written, are_written, is_test_written, writing_of}
use Rattle.pc_regs.specs.Assignment.{used_by_place, used_by_step, used_by_steps, used_by_test, used_by_option, used_by, used_by_all, used_by_bodies, used_by_aborts, placement_of}
use Rattle.pc_regs.proofs.Numbers.{word_fits}

both : (a b : Bool) → a ≡ true → b ≡ true → (a && b) ≡ true
both true true p q = refl
both true false p q = q
both false b p q = p

less-is : (a b : ℕ) → a < b → nat_lt a b ≡ true
less-is a b h = (Decides-ltb a b).1 h

le-is : (a b : ℕ) → a ≤ b → nat_le a b ≡ true
le-is a b h = le-leb a b h

module _ (p : Placement) where
  placed-is : (place : Place) → PlaceWithin 652 place → used_by_place place ≤ p.temporaries → is_placed p place ≡ true
  placed-is (temp k) h used = less-is k p.temporaries (omega (arith, used))
  placed-is (held k) h used = absurd h

  step-is : (s : Step) → StepWithin 652 s → used_by_step s ≤ p.temporaries → StepKeeps p.cells s → is_step_written p s ≡ true
  step-is (const to n) h used keeps = both _ _ (placed-is to h used) (word_fits n keeps)
  step-is (load to word) h used keeps = both _ _ (placed-is to h used) (less-is word p.cells keeps)
  step-is (save word by) h used keeps = both _ _ (less-is word p.cells keeps) (placed-is by h used)
  step-is (unary_step op to by) h used keeps = both _ _ (placed-is to h.0 (omega (arith, used))) (placed-is by h.1 (omega (arith, used)))
  step-is (binary_step op to left right) h used keeps =
      both _ _ (both _ _ (placed-is to h.0 (omega (arith, used))) (placed-is left h.1 (omega (arith, used)))) (placed-is right h.2 (omega (arith, used)))
  step-is (take_element to first size index) h used keeps =
      both _ _ (both _ _ (placed-is to h.0 (omega (arith, used))) (le-is (first + size) p.cells keeps)) (placed-is index h.1 (omega (arith, used)))
  step-is (put_element first size index by) h used keeps =
      both _ _ (both _ _ (le-is (first + size) p.cells keeps) (placed-is index h.0 (omega (arith, used)))) (placed-is by h.1 (omega (arith, used)))
  step-is (move to by) h used keeps = both _ _ (placed-is to h.0 (omega (arith, used))) (placed-is by h.1 (omega (arith, used)))

  steps-are : (steps : List Step) → StepsWithin 652 steps → used_by_steps steps ≤ p.temporaries → StepsKeep p.cells steps → are_written p steps ≡ true
  steps-are [] h used keeps = refl
  steps-are (s ∷ steps) h used keeps = both _ _ (step-is s h.0 (omega (arith, used)) keeps.0) (steps-are steps h.1 (omega (arith, used)) keeps.1)

  test-is : (t : Test) → TestWithin 652 t → used_by_test t ≤ p.temporaries → StepsKeep p.cells t.steps → is_test_written p t ≡ true
  test-is t h used keeps = both _ _ (steps-are t.steps h.0 (omega (arith, used)) keeps) (placed-is t.by h.1 (omega (arith, used)))

  option-is : (o : Option Test) → SomeWithin 652 o → used_by_option o ≤ p.temporaries → OptionKeeps p.cells o → OptionWritten (writing_of p) o
  option-is None h used keeps = tt
  option-is (Some t) h used keeps = test-is t h used keeps

  mutual
    node-is : (n : Node) → NodeWithin 652 n → used_by n ≤ p.temporaries → NodeKeeps p.cells n → NodeWritten (writing_of p) n
    node-is (straight steps) h used keeps = steps-are steps h used keeps
    node-is (sequence nodes) h used keeps = nodes-are nodes h used keeps
    node-is (branch test a b) h used keeps =
        (test-is test h.0 (omega (arith, used)) keeps.0, node-is a h.1 (omega (arith, used)) keeps.1, node-is b h.2 (omega (arith, used)) keeps.2)
    node-is (turns test body) h used keeps = (option-is test h.0 (omega (arith, used)) keeps.0, node-is body h.1 (omega (arith, used)) keeps.1)
    node-is (bounded most test body) h used keeps = (option-is test h.0 (omega (arith, used)) keeps.0, node-is body h.1 (omega (arith, used)) keeps.1)
    node-is (call f) h used keeps = tt
    node-is (pause i) h used keeps = tt
    node-is (fork i fs) h used keeps = tt
    node-is (guard j body) h used keeps = node-is body h used keeps

    nodes-are : (nodes : Nodes) → NodesWithin 652 nodes → used_by_all nodes ≤ p.temporaries → NodesKeep p.cells nodes → NodesWritten (writing_of p) nodes
    nodes-are no_nodes h used keeps = tt
    nodes-are (and n nodes) h used keeps = (node-is n h.0 (omega (arith, used)) keeps.0, nodes-are nodes h.1 (omega (arith, used)) keeps.1)

  bodies-are : (bodies : List Node) → BodiesWithin 652 bodies → used_by_bodies bodies ≤ p.temporaries → AllByRecursion (NodeKeeps p.cells) bodies → AllByRecursion (NodeWritten (writing_of p)) bodies
  bodies-are [] h used keeps = tt
  bodies-are (n ∷ bodies) h used keeps = (node-is n h.0 (omega (arith, used)) keeps.0, bodies-are bodies h.1 (omega (arith, used)) keeps.1)

  conditions-are : (aborts : List (Bool × Test)) → ConditionsWithin 652 aborts → used_by_aborts aborts ≤ p.temporaries → AllByRecursion (λ (a : Bool × Test). StepsKeep p.cells a.1.steps) aborts →
      AllByRecursion (λ (a : Bool × Test). IsTrue ((writing_of p).is_test_written a.1)) aborts
  conditions-are [] h used keeps = tt
  conditions-are (a ∷ aborts) h used keeps = (test-is a.1 h.0 (omega (arith, used)) keeps.0, conditions-are aborts h.1 (omega (arith, used)) keeps.1)

pub flow-written : (f : Flow) → BodiesWithin 652 f.bodies → ConditionsWithin 652 f.aborts → KeepsCells f → FlowWritten (writing_of (placement_of f)) f
flow-written f bodies conditions keeps = record {
  bodies = bodies-are (placement_of f) f.bodies bodies (omega arith) keeps.bodies;
  conditions = conditions-are (placement_of f) f.aborts conditions (omega arith) keeps.conditions;
}

-- ---- no more than 652 temporaries are used

place-few : (place : Place) → PlaceWithin 652 place → used_by_place place ≤ 652
place-few (temp k) h = omega (arith, h)
place-few (held k) h = omega arith

step-few : (s : Step) → StepWithin 652 s → used_by_step s ≤ 652
step-few (const to n) h = place-few to h
step-few (load to word) h = place-few to h
step-few (save word by) h = place-few by h
step-few (unary_step op to by) h = let a = place-few to h.0 in let b = place-few by h.1 in omega (arith, a, b)
step-few (binary_step op to left right) h = let a = place-few to h.0 in let b = place-few left h.1 in let c = place-few right h.2 in omega (arith, a, b, c)
step-few (take_element to first size index) h = let a = place-few to h.0 in let b = place-few index h.1 in omega (arith, a, b)
step-few (put_element first size index by) h = let a = place-few index h.0 in let b = place-few by h.1 in omega (arith, a, b)
step-few (move to by) h = let a = place-few to h.0 in let b = place-few by h.1 in omega (arith, a, b)

steps-few : (steps : List Step) → StepsWithin 652 steps → used_by_steps steps ≤ 652
steps-few [] h = omega arith
steps-few (s ∷ steps) h = let a = step-few s h.0 in let b = steps-few steps h.1 in omega (arith, a, b)

test-few : (t : Test) → TestWithin 652 t → used_by_test t ≤ 652
test-few t h = let a = steps-few t.steps h.0 in let b = place-few t.by h.1 in omega (arith, a, b)

option-few : (o : Option Test) → SomeWithin 652 o → used_by_option o ≤ 652
option-few None h = omega arith
option-few (Some t) h = test-few t h

mutual
  node-few : (n : Node) → NodeWithin 652 n → used_by n ≤ 652
  node-few (straight steps) h = steps-few steps h
  node-few (sequence nodes) h = nodes-few nodes h
  node-few (branch test a b) h = let x = test-few test h.0 in let y = node-few a h.1 in let z = node-few b h.2 in omega (arith, x, y, z)
  node-few (turns test body) h = let x = option-few test h.0 in let y = node-few body h.1 in omega (arith, x, y)
  node-few (bounded most test body) h = let x = option-few test h.0 in let y = node-few body h.1 in omega (arith, x, y)
  node-few (call f) h = omega arith
  node-few (pause i) h = omega arith
  node-few (fork i fs) h = omega arith
  node-few (guard j body) h = node-few body h

  nodes-few : (nodes : Nodes) → NodesWithin 652 nodes → used_by_all nodes ≤ 652
  nodes-few no_nodes h = omega arith
  nodes-few (and n nodes) h = let x = node-few n h.0 in let y = nodes-few nodes h.1 in omega (arith, x, y)

bodies-few : (bodies : List Node) → BodiesWithin 652 bodies → used_by_bodies bodies ≤ 652
bodies-few [] h = omega arith
bodies-few (n ∷ bodies) h = let x = node-few n h.0 in let y = bodies-few bodies h.1 in omega (arith, x, y)

conditions-few : (aborts : List (Bool × Test)) → ConditionsWithin 652 aborts → used_by_aborts aborts ≤ 652
conditions-few [] h = omega arith
conditions-few (a ∷ aborts) h = let x = test-few a.1 h.0 in let y = conditions-few aborts h.1 in omega (arith, x, y)

pub temporaries-few : (f : Flow) → BodiesWithin 652 f.bodies → ConditionsWithin 652 f.aborts → (placement_of f).temporaries ≤ 652
temporaries-few f bodies conditions = let a = bodies-few f.bodies bodies in let b = conditions-few f.aborts conditions in omega (arith, a, b)

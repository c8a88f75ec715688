-- Nodes without pauses end in the tick of their start.
use Rattle.std.proofs.Common.{◌≡◌, ℕ, zero, suc, Bool, true, false, if◌then◌else◌, List, Option, Some, None, refl}
use Rattle.std.specs.Prelude.{◌||◌}
use Rattle.pc_meaning.specs.Tree.{Expression, Statement, Statements, skip, assign, call_of, block, if_so, repeat, loop, eot, par, abort, none, each, Routine}
use Rattle.pc_meaning.specs.Promises.{pauses, some_pauses}
use Rattle.pc_lower.specs.declared.nodes.Test.{Test}
use Rattle.pc_lower.specs.Flow.{State, decides, tested, Node, Nodes, straight, sequence, branch, turns, bounded, call, pause, fork, guard, no_nodes, and, End, Through, Halted, state_of, then_do, Flows, go, go_all}
use Rattle.pc_lower.specs.Lowered.{loop_test, bounded_of, node_of, nodes_of, finished, body_of}
use Rattle.pc_lower.specs.Layable.{IsInstant, AreInstant}

-- ---- they end

abbrev IsThrough : End → Type 0
IsThrough o = o ≡ Through (state_of o)

if-through : (b : Bool) (x y : End) → IsThrough x → IsThrough y → IsThrough (if b then x else y)
if-through true x y p q = p
if-through false x y p q = q

then-through : (o : End) (nodes : Nodes) (f : State → End) → IsThrough o → ((w : State) → IsThrough (f w)) → IsThrough (then_do o nodes f)
then-through (Through w) nodes f p q = q w
then-through (Halted r w) nodes f p q = cc

module _ (known : Flows) where
  mutual
    pub passes : (n : Node) → IsInstant n → (w : State) → IsThrough (go known n w)
    passes (straight steps) h w = refl
    passes (sequence nodes) h w = all-pass nodes h w
    passes (branch test a b) h w = if-through (decides test w) (go known a (tested test w)) (go known b (tested test w)) (passes a h.0 (tested test w)) (passes b h.1 (tested test w))
    passes (turns None body) h w = then-through (go known body w) (and (turns None body) no_nodes) Through (passes body h w) (λ v. refl)
    passes (turns (Some test) body) h w =
        if-through (decides test w) (then_do (go known body (tested test w)) (and (turns (Some test) body) no_nodes) Through) (Through (tested test w))
        (then-through (go known body (tested test w)) (and (turns (Some test) body) no_nodes) Through (passes body h (tested test w)) (λ v. refl)) refl
    passes (bounded most test body) h w = refl
    passes (call f) h w = refl
    passes (pause i) h w = absurd h
    passes (fork i fs) h w = absurd h
    passes (guard j body) h w = absurd h

    all-pass : (nodes : Nodes) → AreInstant nodes → (w : State) → IsThrough (go_all known nodes w)
    all-pass no_nodes h w = refl
    all-pass (and n nodes) h w = then-through (go known n w) nodes (go_all known nodes) (passes n h.0 w) (all-pass nodes h.1)

-- ---- a statement without `EOT`, `PAR` and abort has such a node

pub neither-first : (a b : Bool) → (a || b) ≡ false → a ≡ false
neither-first true b e = cc
neither-first false b e = refl

pub neither-second : (a b : Bool) → (a || b) ≡ false → b ≡ false
neither-second true b e = cc
neither-second false b e = e

bounded-instant : (most : ℕ) (test : Option Test) (body : Node) → IsInstant body → IsInstant (bounded_of most test body)
bounded-instant zero test body h = tt
bounded-instant (suc n) test body h = h

module _ (routines : List Routine) where
  mutual
    pub instant : (s : Statement) → pauses s ≡ false → IsInstant (node_of routines s)
    instant skip h = tt
    instant (assign goal e) h = tt
    instant (call_of goal f es) h = (tt, (tt, (tt, tt)))
    instant (block all) h = all-instant all h
    instant (if_so test first second) h = (instant first (neither-first (pauses first) (pauses second) h), instant second (neither-second (pauses first) (pauses second) h))
    instant (repeat most test body) h = bounded-instant most (loop_test test) (node_of routines body) (instant body h)
    instant (loop test body) h = instant body h
    instant (eot i) h = cc
    instant (par i threads) h = cc
    instant (abort j weak body test) h = cc

    pub all-instant : (all : Statements) → some_pauses all ≡ false → AreInstant (nodes_of routines all)
    all-instant none h = tt
    all-instant (each s rest) h = (instant s (neither-first (pauses s) (some_pauses rest) h), all-instant rest (neither-second (pauses s) (some_pauses rest) h))

  finished-instant : (result : Option Expression) (nodes : Nodes) → AreInstant nodes → AreInstant (finished routines result nodes)
  finished-instant None nodes h = h
  finished-instant (Some e) nodes h = (h, (tt, tt))

  pub body-instant : (r : Routine) → some_pauses r.body ≡ false → IsInstant (body_of routines r)
  body-instant r h = (tt, finished-instant r.result (nodes_of routines r.body) (all-instant r.body h))

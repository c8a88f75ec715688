-- There is room for the links and counters of a program's nodes.
use Rattle.std.proofs.Common.{◌≡◌, ℕ, zero, suc, ◌+◌, ◌*◌, ◌-◌, ◌<◌, ◌≤◌, Bool, false, List, Option, Some, None, refl, arith}
use Rattle.std.specs.Prelude.{IsTrue}
use Rattle.pc_meaning.specs.Tree.{Expression, Statement, Statements, skip, assign, call_of, block, if_so, repeat, loop, eot, par, abort, none, each, Routine}
use Rattle.pc_meaning.specs.Promises.{pauses, some_pauses}
use Rattle.pc_lower.specs.declared.nodes.Test.{Test}
use Rattle.pc_lower.specs.Flow.{Node, Nodes}
use Rattle.pc_lower.specs.Lowered.{loop_test, bounded_of, node_of, nodes_of, finished, body_of}
use Rattle.pc_lower.specs.Loops.{LoopsKept, AllLoopsKept}
use Rattle.pc_lower.specs.Laid.{Placing}
use Rattle.pc_lower.specs.Program.{HasRoom, HaveRoom}
use Rattle.pc_lower.proofs.Shapes.{Nests, AllNest, Names, AllName}
use Rattle.pc_lower.proofs.NodeFacts.{neither-first, neither-second}

module _ (placing : Placing) where
  bounded-room : (most : ℕ) (test : Option Test) (body : Node) (l k : ℕ) → k < 136 → HasRoom placing body l (k + 1) → HasRoom placing (bounded_of most test body) l k
  bounded-room zero test body l k less h = tt
  bounded-room (suc n) test body l k less h = (less, h)

  finished-room : (routines : List Routine) (result : Option Expression) (nodes : Nodes) (l k : ℕ) → HaveRoom placing nodes l k → HaveRoom placing (finished routines result nodes) l k
  finished-room routines None nodes l k h = h
  finished-room routines (Some e) nodes l k h = (h, (tt, tt))

module _ (placing : Placing) (height : ℕ → ℕ) where
  -- it may be called, and is lower than this
  abbrev pub IsLow : ℕ → ℕ → Type 0
  IsLow h f = IsTrue (placing.called f) × (1 ≤ height f) × (height f < h)

module _ (Anything : ℕ → Type 0) (routines : List Routine) (placing : Placing) (height : ℕ → ℕ) (links : (f : ℕ) → placing.links f ≡ height f - 1) (counters : (f : ℕ) → placing.counters f ≡ 8 * height f) (h : ℕ) (some : 1 ≤ h) where
  -- in a routine of height h, inside so many loops with `#n`, where so many links and counters are alive
  mutual
    room-in : (s : Statement) (a d l k : ℕ) → pauses s ≡ false → Nests a d s → Names (IsLow placing height h) Anything s → d ≤ 8 → l + h ≤ 17 → k + 8 * h ≤ 136 + d → HasRoom placing (node_of routines s) l k
    room-in skip a d l k calm n low few links-few counters-few = tt
    room-in (assign goal e) a d l k calm n low few links-few counters-few = tt
    room-in (call_of goal f es) a d l k calm n low few links-few counters-few =
        (tt, ((low.0, (let e = links f in omega (arith, e, low.1, low.2, links-few)), (let e = counters f in omega (arith, e, low.2, counters-few, few))), (tt, tt)))
    room-in (block all) a d l k calm n low few links-few counters-few = rooms-in all a d l k calm n low few links-few counters-few
    room-in (if_so test first second) a d l k calm n low few links-few counters-few = (
      room-in first a d l k (neither-first (pauses first) (pauses second) calm) n.0 low.0 few links-few counters-few,
      room-in second a d l k (neither-second (pauses first) (pauses second) calm) n.1 low.1 few links-few counters-few,
    )
    room-in (repeat most test body) a d l k calm n low few links-few counters-few =
        bounded-room placing most (loop_test test) (node_of routines body) l k (omega (arith, counters-few, n.0, some))
        (room-in body a (d + 1) l (k + 1) calm n.1 low (omega (arith, n.0)) links-few (omega (arith, counters-few)))
    room-in (loop test body) a d l k calm n low few links-few counters-few = room-in body a d l k calm n low few links-few counters-few
    room-in (eot i) a d l k calm n low few links-few counters-few = cc
    room-in (par i threads) a d l k calm n low few links-few counters-few = cc
    room-in (abort j weak body test) a d l k calm n low few links-few counters-few = cc

    rooms-in : (all : Statements) (a d l k : ℕ) → some_pauses all ≡ false → AllNest a d all → AllName (IsLow placing height h) Anything all → d ≤ 8 → l + h ≤ 17 → k + 8 * h ≤ 136 + d → HaveRoom placing (nodes_of routines all) l k
    rooms-in none a d l k calm n low few links-few counters-few = tt
    rooms-in (each s rest) a d l k calm n low few links-few counters-few = (
      room-in s a d l k (neither-first (pauses s) (some_pauses rest) calm) n.0 low.0 few links-few counters-few,
      rooms-in rest a d l k (neither-second (pauses s) (some_pauses rest) calm) n.1 low.1 few links-few counters-few,
    )

  -- in a thread, outside of all calls and loops with `#n`
  module _ (whole : List Bool) (most : h ≤ 17) where
    mutual
      room-out : (s : Statement) (a : ℕ) → LoopsKept whole s → Nests a 0 s → Names (IsLow placing height h) Anything s → HasRoom placing (node_of routines s) 0 0
      room-out skip a kept n low = tt
      room-out (assign goal e) a kept n low = tt
      room-out (call_of goal f es) a kept n low = room-in (call_of goal f es) a 0 0 0 refl n low (omega arith) (omega (arith, most)) (omega (arith, most))
      room-out (block all) a kept n low = rooms-out all a kept n low
      room-out (if_so test first second) a kept n low = (room-out first a kept.0 n.0 low.0, room-out second a kept.1 n.1 low.1)
      room-out (repeat number test body) a kept n low =
          room-in (repeat number test body) a 0 0 0 kept.0 n low (omega arith) (omega (arith, most)) (omega (arith, most))
      room-out (loop test body) a kept n low = room-out body a kept.1 n low
      room-out (eot i) a kept n low = (refl, refl)
      room-out (par i threads) a kept n low = (refl, refl)
      room-out (abort j weak body test) a kept n low = (refl, refl, room-out body (a + 1) kept n.1 low)

      rooms-out : (all : Statements) (a : ℕ) → AllLoopsKept whole all → AllNest a 0 all → AllName (IsLow placing height h) Anything all → HaveRoom placing (nodes_of routines all) 0 0
      rooms-out none a kept n low = tt
      rooms-out (each s rest) a kept n low = (room-out s a kept.0 n.0 low.0, rooms-out rest a kept.1 n.1 low.1)

    pub thread-room : (r : Routine) → AllLoopsKept whole r.body → AllNest 0 0 r.body → AllName (IsLow placing height h) Anything r.body → HasRoom placing (body_of routines r) 0 0
    thread-room r kept n low = (tt, finished-room placing routines r.result (nodes_of routines r.body) 0 0 (rooms-out r.body 0 kept n low))

  pub routine-room : (r : Routine) (l k : ℕ) → some_pauses r.body ≡ false → AllNest 0 0 r.body → AllName (IsLow placing height h) Anything r.body → l + h ≤ 17 → k + 8 * h ≤ 136 → HasRoom placing (body_of routines r) l k
  routine-room r l k calm n low links-few counters-few =
      (tt, finished-room placing routines r.result (nodes_of routines r.body) l k (rooms-in r.body 0 0 l k calm n low (omega arith) links-few (omega (arith, counters-few))))

-- How the laws of parts are put together.
use Rattle.std.proofs.Common.{◌≡◌, ℕ, suc, ◌+◌, ◌≤◌, max, Bool, true, false, if◌then◌else◌, List, Some, None, refl, sym, subst, arith}
use Rattle.mb_isa.specs.declared.Instr.TheVariants.{Imm, Bri}
use Rattle.mb_isa.specs.declared.Class.TheVariants as class
use Rattle.mb_isa.specs.Costs.{cost_of}
use Rattle.mb_pfu.specs.declared.parts.Watch.{Watch}
use Rattle.mb_pfu.specs.Tree.{Leaf, Running}
use Rattle.mb_pfu.specs.Contexts.{Context, plug, middle}
use Rattle.mb_pfu.specs.Unit.{State as UnitState}
use Rattle.pt_image.specs.declared.Parts.{Parts}
use Rattle.mb_isa.specs.Control.{Control, Turn, goes}
use Rattle.mb_isa.specs.Step.{Rules, Moves, step}
use Rattle.mb_isa.specs.Tick.{Steps, still, onward}
use Rattle.pc_lower.specs.Flow.{Nodes, no_nodes, and, Rest, End, Through, Halted, later, then_do, go, State as FlowState}
use Rattle.pc_lower.specs.Places.{HasJump, wide, short}
use Rattle.pc_lower.specs.Law.{Nesting, unit_at, placed, Comes, Halts, Meets}
use Rattle.pc_lower.proofs.StepFacts.{does-word, does-second, jump-plan, second}

module _ (image : Parts) (costs : List ℕ) {Data : Type 0} (rules : Rules Data) (Represents : Data → FlowState → Type 0) where
  recount : (c : Control) (d : Data) (a b i j : ℕ) (l : Control) (x : Data) → a ≡ b → i ≡ j → Steps rules image costs c d a i l x → Steps rules image costs c d b j l x
  recount c d a b i j l x e f q = subst (λ y. Steps rules image costs c d b y l x) f (subst (λ y. Steps rules image costs c d y i l x) e q)

  pub append : (c l m : Control) (d x y : Data) (a b i j : ℕ) → Steps rules image costs c d a i l x → Steps rules image costs l x b j m y → Steps rules image costs c d (a + b) (i + j) m y
  append c l m d x y a b i j (still {c = k} {d = z}) q = recount k z b (0 + b) j (0 + j) m y (omega arith) (omega arith) q
  append c l m d x y a b i j (onward {c = k} {next = n} {last = t} {d = z} {after = w} {end = v} {charge = h} {rest = r} {count = g} e s) q =
      recount k z (h + (r + b)) (h + r + b) (suc (g + j)) (suc g + j) m y (omega arith) (omega arith) (onward e (append n t m w v y r b g j s q))

  pub at_once : (c : Control) (d : Data) (state : FlowState) (u : ℕ) (target : ℕ → Control) (stale : ℕ) → target stale ≡ c → Represents d state → Comes image costs rules Represents c d target state u
  at_once c d state u target stale is rep =
      record { stale = stale; after = d; charge = 0; count = 0; steps = subst (λ k. Steps rules image costs c d 0 0 k d) (sym is) still; represents = rep; within = omega arith }

  pub more : (c : Control) (d : Data) (target : ℕ → Control) (state : FlowState) (u v : ℕ) → u ≤ v → Comes image costs rules Represents c d target state u → Comes image costs rules Represents c d target state v
  more c d target state u v le r = record { stale = r.stale; after = r.after; charge = r.charge; count = r.count; steps = r.steps; represents = r.represents; within = omega (arith, r.within) }

  -- one step first
  pub after_step : (c l : Control) (d x : Data) (charge : ℕ) (target : ℕ → Control) (state : FlowState) (u v : ℕ) → step rules costs image c d ≡ Moves charge l x → u + 1 ≤ v → Comes image costs rules Represents l x target state u → Comes image costs rules Represents c d target state v
  after_step c l d x charge target state u v h le r =
      record { stale = r.stale; after = r.after; charge = charge + r.charge; count = suc r.count; steps = onward h r.steps; represents = r.represents; within = omega (arith, r.within) }

  -- from where it comes to, it goes on
  pub chain : (c : Control) (d : Data) (target last : ℕ → Control) (state later : FlowState) (u v w : ℕ) → u + v ≤ w → (h : Comes image costs rules Represents c d target state u) →
      Comes image costs rules Represents (target h.stale) h.after last later v → Comes image costs rules Represents c d last later w
  chain c d target last state later u v w le h r =
      record {
        stale = r.stale;
        after = r.after;
        charge = h.charge + r.charge;
        count = h.count + r.count;
        steps = append c (target h.stale) (last r.stale) d h.after r.after h.charge r.charge h.count r.count h.steps r.steps;
        represents = r.represents;
        within = omega (arith, h.within, r.within);
      }

  pub go_on_to : (c : Control) (d : Data) (target last : ℕ → Control) (state later : FlowState) (u v w : ℕ) → u + v ≤ w → Comes image costs rules Represents c d target state u →
      ((stale : ℕ) (x : Data) → Represents x state → Comes image costs rules Represents (target stale) x last later v) → Comes image costs rules Represents c d last later w
  go_on_to c d target last state later u v w le h f = chain c d target last state later u v w le h (f h.stale h.after h.represents)

  -- the same target under another name
  pub same_target : (c : Control) (d : Data) (target other : ℕ → Control) (state : FlowState) (u : ℕ) → ((q : ℕ) → target q ≡ other q) → Comes image costs rules Represents c d target state u → Comes image costs rules Represents c d other state u
  same_target c d target other state u e r =
      record { stale = r.stale; after = r.after; charge = r.charge; count = r.count; steps = subst (λ k. Steps rules image costs c d r.charge r.count k r.after) (e r.stale) r.steps; represents = r.represents; within = r.within }

  -- a jump
  pub jumps : (s p next to : ℕ) (u : UnitState) (d : Data) (state : FlowState) → HasJump image p next to → Represents d state → Comes image costs rules Represents (goes (Turn s) p u) d (λ q. goes (Turn s) to u) state 2
  jumps s p next to u d state (wide upper lower one two leads end) rep =
      after_step (goes (Turn s) p u) (second image costs rules upper s (p + 1) u) d d (cost_of costs class.Imm) _ state 1 2 (does-word image costs rules (Imm upper) s p u d class.Imm _ one refl) (omega arith) (
      after_step (second image costs rules upper s (p + 1) u) (goes (Turn s) to u) d d (cost_of costs class.Jump) _ state 0 1 (does-second image costs rules (Bri lower) upper s (p + 1) u d class.Jump _ two refl (jump-plan image costs rules s (p + 1) to (Some upper) lower u leads)) (omega arith) (
      at_once (goes (Turn s) to u) d state 0 _ 0 refl rep
      )
      )
  jumps s p next to u d state (short lower one leads end) rep =
      after_step (goes (Turn s) p u) (goes (Turn s) to u) d d (cost_of costs class.Jump) _ state 1 2 (does-word image costs rules (Bri lower) s p u d class.Jump _ one (jump-plan image costs rules s p to None lower u leads)) (omega arith) (
      at_once (goes (Turn s) to u) d state 1 _ 0 refl rep
      )

module _ (parent : ℕ → ℕ) (image : Parts) (costs : List ℕ) {Data : Type 0} (rules : Rules Data) (Represents : Data → FlowState → Type 0) where
  pub halts_more : (c : Control) (d : Data) (context : Context) (e : List Watch) (r : Rest) (state : FlowState) (u v : ℕ) → u ≤ v → Halts parent image costs rules Represents c d context e r state u → Halts parent image costs rules Represents c d context e r state v
  halts_more c d context e r state u v le h = record { tree = h.tree; stands = h.stands; fits = h.fits; comes = more image costs rules Represents c d _ state u v le h.comes }

  -- steps first
  pub halts_chain : (c : Control) (d : Data) (target : ℕ → Control) (context : Context) (e : List Watch) (r : Rest) (state last : FlowState) (u v w : ℕ) → u + v ≤ w → (h : Comes image costs rules Represents c d target state u) →
      Halts parent image costs rules Represents (target h.stale) h.after context e r last v → Halts parent image costs rules Represents c d context e r last w
  halts_chain c d target context e r state last u v w le h g =
      record { tree = g.tree; stands = g.stands; fits = g.fits; comes = chain image costs rules Represents c d target _ state last u v w le h g.comes }

  pub halts_step : (c l : Control) (d x : Data) (charge : ℕ) (context : Context) (e : List Watch) (r : Rest) (state : FlowState) (u v : ℕ) → step rules costs image c d ≡ Moves charge l x → u + 1 ≤ v →
      Halts parent image costs rules Represents l x context e r state u → Halts parent image costs rules Represents c d context e r state v
  halts_step c l d x charge context e r state u v h le g = record { tree = g.tree; stands = g.stands; fits = g.fits; comes = after_step image costs rules Represents c l d x charge _ state u v h le g.comes }

  module _ (nest : Nesting) (context : Context) (e : List Watch) where
    pub meets_more : (to : ℕ) (c : Control) (d : Data) (u v u' v' : ℕ) (o : End) → u ≤ u' → v ≤ v' → Meets parent image costs rules Represents nest context e to c d u v o → Meets parent image costs rules Represents nest context e to c d u' v' o
    meets_more to c d u v u' v' (Through state) p q h = more image costs rules Represents c d _ state u u' p h
    meets_more to c d u v u' v' (Halted r state) p q h = halts_more c d context e r state v v' q h

    -- steps first
    pub meets_chain : (to : ℕ) (c : Control) (d : Data) (target : ℕ → Control) (state : FlowState) (w u v u' v' : ℕ) (o : End) → w + u ≤ u' → w + v ≤ v' → (h : Comes image costs rules Represents c d target state w) →
        Meets parent image costs rules Represents nest context e to (target h.stale) h.after u v o → Meets parent image costs rules Represents nest context e to c d u' v' o
    meets_chain to c d target state w u v u' v' (Through later) p q h g = chain image costs rules Represents c d target _ state later w u u' p h g
    meets_chain to c d target state w u v u' v' (Halted r later) p q h g = halts_chain c d target context e r state later w v v' q h g

    -- one step first
    pub meets_step : (to : ℕ) (c l : Control) (d x : Data) (charge u v u' v' : ℕ) (o : End) → step rules costs image c d ≡ Moves charge l x → u + 1 ≤ u' → v + 1 ≤ v' →
        Meets parent image costs rules Represents nest context e to l x u v o → Meets parent image costs rules Represents nest context e to c d u' v' o
    meets_step to c l d x charge u v u' v' (Through state) h p q g = after_step image costs rules Represents c l d x charge _ state u u' h p g
    meets_step to c l d x charge u v u' v' (Halted r state) h p q g = halts_step c l d x charge context e r state v v' h q g

    pub halts_later : (c : Control) (d : Data) (r : Rest) (nodes : Nodes) (state : FlowState) (u : ℕ) → Halts parent image costs rules Represents c d context e r state u → Halts parent image costs rules Represents c d context e (later r nodes) state u
    halts_later c d r no_nodes state u h = h
    halts_later c d r (and n nodes) state u h = record { tree = h.tree; stands = h.stands; fits = h.fits; comes = h.comes }

    -- one part after another
    pub meets_then : (mid to : ℕ) (c : Control) (d : Data) (u v u' v' : ℕ) (nodes : Nodes) (o : End) (next : FlowState → End) →
        Meets parent image costs rules Represents nest context e mid c d u v o →
        ((stale : ℕ) (x : Data) (state : FlowState) → Represents x state → Meets parent image costs rules Represents nest context e to (placed image nest context e stale mid) x u' v' (next state)) →
        Meets parent image costs rules Represents nest context e to c d (u + u') (max v (u + v')) (then_do o nodes next)
    meets_then mid to c d u v u' v' nodes (Through state) next h go =
        meets_chain to c d (λ q. placed image nest context e q mid) state u u' v' (u + u') (max v (u + v')) (next state) (omega arith) (omega arith) h (go h.stale h.after state h.represents)
    meets_then mid to c d u v u' v' nodes (Halted r state) next h go = halts_more c d context e (later r nodes) state v (max v (u + v')) (omega arith) (halts_later c d r nodes state v h)

    -- a jump at the end
    pub meets_jump : (mid next to : ℕ) (c : Control) (d : Data) (u v : ℕ) (o : End) → HasJump image mid next to → Meets parent image costs rules Represents nest context e mid c d u v o → Meets parent image costs rules Represents nest context e to c d (u + 2) v o
    meets_jump mid next to c d u v (Through state) has h =
        go_on_to image costs rules Represents c d (λ q. placed image nest context e q mid) _ state state u 2 (u + 2) (omega arith) h (
        λ q x rep.
        let j = jumps image costs rules Represents (middle context) mid next to (unit_at image nest (plug context (Leaf e (Running q)))) x state has rep in
        record { stale = q; after = j.after; charge = j.charge; count = j.count; steps = j.steps; represents = j.represents; within = j.within }
        )
    meets_jump mid next to c d u v (Halted r state) has h = h

    -- a start that lasts meets any end
    pub meets_lasting : (mid to : ℕ) (c : Control) (d : Data) (u v u' : ℕ) (nodes : Nodes) (o : End) (next : FlowState → End) (r : Rest) (state : FlowState) → o ≡ Halted r state →
        Meets parent image costs rules Represents nest context e mid c d u v o → Meets parent image costs rules Represents nest context e to c d u' v (then_do o nodes next)
    meets_lasting mid to c d u v u' nodes (Through state') next r state is h = cc
    meets_lasting mid to c d u v u' nodes (Halted r' state') next r state is h = halts_later c d r' nodes state' v h

    -- a test, and the branch that it decides
    pub meets_test : (to inner out s : ℕ) (u0 : UnitState) (c : Control) (d : Data) (b : Bool) (state : FlowState) (w u v : ℕ) (o o' : End) →
        Comes image costs rules Represents c d (λ q. goes (Turn s) (if b then inner else out) u0) state w →
        ((x : Data) → Represents x state → Meets parent image costs rules Represents nest context e to (goes (Turn s) inner u0) x u v o) →
        ((x : Data) → Represents x state → Meets parent image costs rules Represents nest context e to (goes (Turn s) out u0) x u v o') →
        Meets parent image costs rules Represents nest context e to c d (w + u) (w + v) (if b then o else o')
    meets_test to inner out s u0 c d true state w u v o o' h left right = meets_chain to c d _ state w u v (w + u) (w + v) o (omega arith) (omega arith) h (left h.after h.represents)
    meets_test to inner out s u0 c d false state w u v o o' h left right = meets_chain to c d _ state w u v (w + u) (w + v) o' (omega arith) (omega arith) h (right h.after h.represents)
